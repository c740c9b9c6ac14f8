-- What the loops of marking have done so far: what is left from here on is the whole. Assumes nothing.
use mathlib.Core.Path.{◌≡◌, refl, sym, ap, ◌∙◌}
use mathlib.Core.Bool.{true, false, ◌&&◌}
use mathlib.Core.List.{List, [], ◌∷◌}
use Prim.Native.Nat.{ℕ, zero, suc, ◌+◌, ◌-◌, ◌<◌}
use native.Mathlib.Omega.{arith}
use lib.Dec.{eqb, ltb}
use lib.ListN.{get_or, set}
use borrow.Author.Tests.{ltb-true}
use Rattle.basics.proofs.Tests.{both_true}
use Rattle.basics.specs.Choice.{pick_true, pick_false}
use Rattle.graph_utils.specs.Inside.Marking.{Marks, marks, visited, visited_all, marked_from}

-- ---- one node

pub visit_new : (n v top mark : ℕ) (words words' : List ℕ) → mark ≡ get_or words v 0 → ((ltb v n && eqb mark 0) && ltb top n) ≡ true
    → words' ≡ set (set words v 1) (n + top) v → marks words' (top + 1) ≡ visited n v (marks words top)
unfolding visited
visit_new n v top mark words words' m t e =
    ap (λ (l : List ℕ). marks l (top + 1)) e ∙ sym (pick_true _ _ (ap (λ (x : ℕ). (ltb v n && eqb x 0) && ltb top n) (sym m) ∙ t))

pub visit_old : (n v top mark : ℕ) (words : List ℕ) → mark ≡ get_or words v 0 → ((ltb v n && eqb mark 0) && ltb top n) ≡ false
    → marks words top ≡ visited n v (marks words top)
unfolding visited
visit_old n v top mark words m t = sym (pick_false _ _ (ap (λ (x : ℕ). (ltb v n && eqb x 0) && ltb top n) (sym m) ∙ t))

pub visit_room : (n v top mark : ℕ) → ((ltb v n && eqb mark 0) && ltb top n) ≡ true → top < n
visit_room n v top mark t = ltb-true top n (both_true (ltb v n && eqb mark 0) (ltb top n) t).1

-- ---- a list of nodes, and the walk

pub visit_next : (n v : ℕ) (l rest : List ℕ) (s s' : Marks) → l ≡ v ∷ rest → s' ≡ visited n v s → visited_all n rest s' ≡ visited_all n l s
unfolding visited_all
visit_next n v l rest s s' e f = ap (visited_all n rest) f ∙ sym (ap (λ (k : List ℕ). visited_all n k s) e)

pub visit_none : (n : ℕ) (l : List ℕ) (s : Marks) → l ≡ [] → s ≡ visited_all n l s
unfolding visited_all
visit_none n l s e = sym (ap (λ (k : List ℕ). visited_all n k s) e)

pub walk_step : (n : ℕ) (list : ℕ → List ℕ) (more top u : ℕ) (words words' : List ℕ) (top' : ℕ) → 0 < more → 0 < top → u ≡ get_or words (n + (top - 1)) 0
    → marks words' top' ≡ visited_all n (list u) (marks words (top - 1)) → marked_from n list (more - 1) words' top' ≡ marked_from n list more words top
unfolding marked_from
walk_step n list zero top u words words' top' h k m e = absurd (omega arith)
walk_step n list (suc more) zero u words words' top' h k m e = absurd (omega arith)
walk_step n list (suc more) (suc top) u words words' top' h k m e =
    let one : suc more - 1 ≡ more = omega arith in
    let t : suc top - 1 ≡ top = omega arith in
    let s : marks words' top' ≡ visited_all n (list (get_or words (n + top) 0)) (marks words top) =
    e ∙ ap (λ (x : ℕ). visited_all n (list x) (marks words (suc top - 1))) m
    ∙ ap (λ (x : ℕ). visited_all n (list (get_or words (n + x) 0)) (marks words x)) t in
    ap (λ (k : ℕ). marked_from n list k words' top') one ∙ ap (λ (r : Marks). marked_from n list more r.words r.top) s

pub walk_end_fuel : (n : ℕ) (list : ℕ → List ℕ) (more top : ℕ) (words : List ℕ) → more ≡ 0 → words ≡ marked_from n list more words top
unfolding marked_from
walk_end_fuel n list zero top words e = refl
walk_end_fuel n list (suc more) top words e = absurd (omega arith)

pub walk_end : (n : ℕ) (list : ℕ → List ℕ) (more top : ℕ) (words : List ℕ) → top ≡ 0 → words ≡ marked_from n list more words top
unfolding marked_from
walk_end n list zero top words e = refl
walk_end n list (suc more) zero words e = refl
walk_end n list (suc more) (suc top) words e = absurd (omega arith)
