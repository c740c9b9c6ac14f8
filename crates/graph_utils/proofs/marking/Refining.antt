-- Marking on words is the walk of the definition: marks show which nodes are in the list of reached ones, and the stack is the frontier. The stack
-- has room, since its nodes are reached, each once, and below n. Assumes nothing.
use mathlib.Core.Path.{◌≡◌, refl, sym, ap, ap₂, subst, ◌∙◌}
use mathlib.Core.Logic.{◌≢◌}
use mathlib.Core.Bool.{Bool, true, false, not, ◌&&◌, ◌||◌, and-true}
use mathlib.Core.List.Memᴰ.{head as here}
use mathlib.Core.List.Memᴰ.{not-nil as in-nil}
use mathlib.Core.List.Memᴰ.{tail as there}
use mathlib.Core.List.{List, [], ◌∷◌, Memᴰ as In}
use Prim.Native.Nat.{ℕ, zero, suc, ◌+◌, ◌*◌, ◌≤◌, ◌<◌}
use native.Mathlib.Numerals.{add-one}
use native.Mathlib.Decide.{ℕ_discrete}
use native.Mathlib.Omega.{arith}
use lib.Dec.{T, eqb, ltb}
use lib.ListN.{length, get_or, set, length-set}
use lib.Seq.{get_or-set_same, get_or-set_other}
use borrow.Author.Tests.{eq-eqb, ne_eqb, lt-ltb}
use Rattle.basics.specs.Choice.{pick, pick_true, pick_false}
use Rattle.basics.specs.Nodes.{has, NoDup, Below}
use Rattle.basics.proofs.Counting.{hasn't, at_most}
use Rattle.def_walk.specs.Walk.{State, visit, expand, walk}
use Rattle.def_walk.specs.Repair.{stack, mark_reachable}
use Rattle.graph_utils.specs.Inside.Marking.{Marks, marks, visited, visited_all, marked_from, marked}

-- ---- the words of a list of reached nodes, and of a frontier

-- the first n words show which nodes are reached
pub record Marked (n : ℕ) (reached words : List ℕ) : Type 0 where
  pub room : 2 * n ≤ length words
  pub told : (v : ℕ) → v < n → eqb (get_or words v 0) 0 ≡ not (has v reached)
  pub once : NoDup reached
  pub below : Below n reached

stack_of : ℕ → List ℕ → ℕ → List ℕ
stack_of n words zero = []
stack_of n words (suc top) = get_or words (n + top) 0 ∷ stack_of n words top

record Held (n : ℕ) (s : State) (m : Marks) : Type 0 where
  seen_is : Marked n s.seen m.words
  front_is : s.front ≡ stack_of n m.words m.top
  inside : Below n s.front
  few : m.top ≤ length s.seen

held_by : {n : ℕ} {a a' : State} {b b' : Marks} → a ≡ a' → b ≡ b' → Held n a' b' → Held n a b
held_by {n} {a} {a'} {b} {b'} p q h = subst (λ (x : State). Held n x b) (sym p) (subst (Held n a') (sym q) h)

-- ---- one node

stack_same : (n : ℕ) (words words' : List ℕ) (top : ℕ) → ((k : ℕ) → k < top → get_or words' (n + k) 0 ≡ get_or words (n + k) 0) → stack_of n words' top ≡ stack_of n words top
unfolding stack_of
stack_same n words words' zero f = refl
stack_same n words words' (suc top) f = ap₂ (λ (x : ℕ) (l : List ℕ). x ∷ l) (f top (omega arith)) (stack_same n words words' top (λ k h. f k (omega arith)))

module _ (n v : ℕ) (v_below : v < n) (s : State) (m : Marks) (h : Held n s m) where
  next : List ℕ
  next = set (set m.words v 1) (n + m.top) v

  fresh : has v s.seen ≡ false → (In v s.seen → ⊥)
  fresh e i = hasn't v s.seen (subst (λ (b : Bool). T (not b)) (sym e) tt) i

  seen_below : Below n (v ∷ s.seen)
  seen_below x (here q) = omega arith
  seen_below x (there k) = h.seen_is.below x k

  -- one node more is still no more than n
  top_below : has v s.seen ≡ false → m.top < n
  top_below e = let all = at_most n (v ∷ s.seen) (fresh e, h.seen_is.once) seen_below in omega (arith, h.few)

  length_next : length next ≡ length m.words
  unfolding next
  length_next = length-set (set m.words v 1) (n + m.top) v ∙ length-set m.words v 1

  read_mark : get_or next v 0 ≡ 1
  unfolding next
  read_mark =
      get_or-set_other (set m.words v 1) (n + m.top) v v 0 (λ q. omega arith)
      ∙ get_or-set_same m.words v 1 0 (omega (arith, h.seen_is.room))

  read_other : (p : ℕ) → p ≢ v → p ≢ n + m.top → get_or next p 0 ≡ get_or m.words p 0
  unfolding next
  read_other p a b = get_or-set_other (set m.words v 1) (n + m.top) p v 0 b ∙ get_or-set_other m.words v p 1 0 a

  read_top : m.top < n → get_or next (n + m.top) 0 ≡ v
  unfolding next
  read_top k =
      get_or-set_same (set m.words v 1) (n + m.top) v 0 (omega (arith, length-set m.words v 1, h.seen_is.room))

  told_new : (w : ℕ) → w < n → eqb (get_or next w 0) 0 ≡ not (has w (v ∷ s.seen))
  unfolding has
  told_new w k = elim (ℕ_discrete w v) [
    | yes q ↦ ap (λ (x : ℕ). eqb x 0) (ap (λ (x : ℕ). get_or next x 0) q ∙ read_mark) ∙ sym (ap (λ (b : Bool). not (b || has w s.seen)) (eq-eqb w v q))
    | no q ↦ ap (λ (x : ℕ). eqb x 0) (read_other w q (λ e. omega arith)) ∙ h.seen_is.told w k ∙ sym (ap (λ (b : Bool). not (b || has w s.seen)) (ne_eqb w v q))
  ]

  held_new : has v s.seen ≡ false → Held n (record { seen = v ∷ s.seen; front = v ∷ s.front }) (marks next (m.top + 1))
  unfolding stack_of
  held_new e = record {
    seen_is = record { room = omega (arith, length_next, h.seen_is.room); told = told_new; once = (fresh e, h.seen_is.once); below = seen_below };
    front_is = front';
    inside = inside';
    few = omega (arith, h.few);
  }
    where
      inside' : Below n (v ∷ s.front)
      inside' x (here q) = omega arith
      inside' x (there k) = h.inside x k

      front' : v ∷ s.front ≡ stack_of n next (m.top + 1)
      front' =
          ap₂ (λ (x : ℕ) (l : List ℕ). x ∷ l) (sym (read_top (top_below e)))
          (h.front_is ∙ sym (stack_same n m.words next m.top (λ k b. read_other (n + k) (λ q. omega arith) (λ q. omega arith))))
          ∙ ap (stack_of n next) (sym (add-one m.top))

  visit_held : Held n (visit stack v s) (visited n v m)
  unfolding visit visited next
  visit_held = go (has v s.seen) refl
    where
      test : (b : Bool) → has v s.seen ≡ b → ltb m.top n ≡ true → ((ltb v n && eqb (get_or m.words v 0) 0) && ltb m.top n) ≡ not b
      test b e t =
          ap₂ ◌&&◌ (ap₂ ◌&&◌ (lt-ltb v n v_below) (h.seen_is.told v v_below ∙ ap not e)) t ∙ and-true (not b)

      old : (c : Bool) → has v s.seen ≡ true → ((ltb v n && eqb (get_or m.words v 0) 0) && c) ≡ false
      old c e = ap (λ (x : Bool). x && c) (ap₂ ◌&&◌ (lt-ltb v n v_below) (h.seen_is.told v v_below ∙ ap not e))

      go : (b : Bool) → has v s.seen ≡ b
          → Held n (pick (has v s.seen) s (record { seen = v ∷ s.seen; front = v ∷ s.front }))
          (pick ((ltb v n && eqb (get_or m.words v 0) 0) && ltb m.top n) (marks (set (set m.words v 1) (n + m.top) v) (m.top + 1)) m)
      go true e = held_by (pick_true s _ e) (pick_false _ m (old (ltb m.top n) e)) h
      go false e = held_by (pick_false s _ e) (pick_true _ m (test false e (lt-ltb m.top n (top_below e)))) (held_new e)

-- ---- a list of nodes

expand_held : (n : ℕ) (l : List ℕ) → Below n l → (s : State) (m : Marks) → Held n s m → Held n (expand stack s l) (visited_all n l m)
unfolding expand visited_all
expand_held n [] b s m h = h
expand_held n (v ∷ l) b s m h =
    expand_held n l (λ x k. b x (there k)) (visit stack v s) (visited n v m) (visit_held n v (b v (here refl)) s m h)

-- ---- the walk

module _ (n : ℕ) (list list' : ℕ → List ℕ) (alike : (u : ℕ) → u < n → list' u ≡ list u) (within : (u v : ℕ) → In v (list u) → v < n) where
  walk_held : (more : ℕ) (seen words : List ℕ) (top : ℕ) → Held n (record { seen = seen; front = stack_of n words top }) (marks words top)
      → Marked n (walk list stack (λ _ _. false) (λ _. false) more seen (stack_of n words top)) (marked_from n list' more words top)
  unfolding walk marked_from stack_of
  walk_held zero seen words top h = h.seen_is
  walk_held (suc more) seen words zero h = h.seen_is
  walk_held (suc more) seen words (suc top) h =
      let u : ℕ = get_or words (n + top) 0 in
      let popped : Held n (record { seen = seen; front = stack_of n words top }) (marks words top) = record {
        seen_is = h.seen_is;
        front_is = refl;
        inside = λ x k. h.inside x (there k);
        few = omega (arith, h.few);
      } in
      let s : State = expand stack (record { seen = seen; front = stack_of n words top }) (list u) in
      let m : Marks = visited_all n (list' u) (marks words top) in
      let same : visited_all n (list u) (marks words top) ≡ m = ap (λ (l : List ℕ). visited_all n l (marks words top)) (sym (alike u (h.inside u (here refl)))) in
      let next : Held n s m = subst (Held n s) same (expand_held n (list u) (λ v k. within u v k) (record { seen = seen; front = stack_of n words top }) (marks words top) popped) in
      let front : s.front ≡ stack_of n m.words m.top = next.front_is in
      let next' : Held n (record { seen = s.seen; front = stack_of n m.words m.top }) (marks m.words m.top) = record {
        seen_is = next.seen_is;
        front_is = refl;
        inside = subst (Below n) front next.inside;
        few = next.few;
      } in
      subst (λ (l : List ℕ). Marked n (walk list stack (λ _ _. false) (λ _. false) more s.seen l) (marked_from n list' more m.words m.top)) (sym front)
      (walk_held more s.seen m.words m.top next')

  walk_none : (more : ℕ) (seen : List ℕ) → seen ≡ walk list stack (λ _ _. false) (λ _. false) more seen []
  unfolding walk
  walk_none zero seen = refl
  walk_none (suc more) seen = refl

  mark_is : (reached : List ℕ) (s : ℕ) → walk list stack (λ _ _. false) (λ _. false) n (visit stack s (record { seen = reached; front = [] })).seen (visit stack s (record { seen = reached; front = [] })).front
      ≡ mark_reachable list n reached s
  unfolding visit mark_reachable pick
  mark_is reached s = go (has s reached)
    where
      go : (b : Bool) → walk list stack (λ _ _. false) (λ _. false) n (pick {X = State} b (record { seen = reached; front = [] }) (record { seen = s ∷ reached; front = s ∷ [] })).seen
          (pick {X = State} b (record { seen = reached; front = [] }) (record { seen = s ∷ reached; front = s ∷ [] })).front
          ≡ pick b reached (walk list stack (λ _ _. false) (λ _. false) n (s ∷ reached) (s ∷ []))
      go true = sym (walk_none n reached)
      go false = refl

  -- marking from a node on, in words and in the definition
  pub mark_marked : (reached words : List ℕ) (s : ℕ) → s < n → Marked n reached words → Marked n (mark_reachable list n reached s) (marked n list' s words)
  unfolding marked stack_of
  mark_marked reached words s k m =
      let none : Held n (record { seen = reached; front = [] }) (marks words 0) = record { seen_is = m; front_is = refl; inside = λ x i. absurd (in-nil i); few = omega arith } in
      let first : Held n (visit stack s (record { seen = reached; front = [] })) (visited n s (marks words 0)) = visit_held n s k (record { seen = reached; front = [] }) (marks words 0) none in
      let v : State = visit stack s (record { seen = reached; front = [] }) in
      let w : Marks = visited n s (marks words 0) in
      let next : Held n (record { seen = v.seen; front = stack_of n w.words w.top }) (marks w.words w.top) = record {
        seen_is = first.seen_is;
        front_is = refl;
        inside = subst (Below n) first.front_is first.inside;
        few = first.few;
      } in
      subst (λ (r : List ℕ). Marked n r (marked_from n list' n w.words w.top)) (mark_is reached s)
      (subst (λ (l : List ℕ). Marked n (walk list stack (λ _ _. false) (λ _. false) n v.seen l) (marked_from n list' n w.words w.top)) (sym first.front_is)
      (walk_held n v.seen w.words w.top next))
