-- Each answer is one of three: a row that is full, one that has the node, one that takes it (proofs/Entry). Assumes nothing.
use native.Mathlib.Omega.{arith}
use mathlib.Core.Path.{◌≡◌, refl, sym, ap, ap₂, subst, ◌∙◌}
use mathlib.Core.Bool.{Bool, ◌||◌}
use mathlib.Core.List.{List, [], ◌∷◌}
use Prim.Native.Nat.{ℕ, ◌+◌, ◌-◌}
use lib.Dec.{eqb}
use lib.ListN.{get_or, take, drop, set}
use Rattle.std.proofs.Common.{rules}
use Rattle.std.specs.List.{list_any}
use Rattle.basics.specs.Nodes.{has}
use Rattle.distance.proofs.vectors.Laws.{eqb-sym}
use Rattle.finish.specs.Inside.Reversed.{EntryAdded}
use Rattle.finish.proofs.reverse_edges.Entry.{entry_full, entry_had, entry_new}
use Rattle.finish.proofs.reverse_edges.add_entry.Goals as goal

any_has : (node : ℕ) (xs : List ℕ) → list_any (λ (y : ℕ). eqb y node) xs ≡ has node xs
unfolding has
any_has node [] = refl
any_has node (x ∷ xs) = ap₂ (λ (a b : Bool). a || b) (eqb-sym x node) (any_has node xs)

-- what the search says of the counted entries
found : (node : ℕ) (ws : List ℕ) (count : ℕ) (r : Bool) → count ≡ get_or ws 0 0 → r ≡ list_any (λ (y : ℕ). eqb y node) (take (1 + count - 1) (drop 1 ws)) → has node (take (get_or ws 0 0) (drop 1 ws)) ≡ r
found node ws count r c e =
    let k : 1 + count - 1 ≡ get_or ws 0 0 = omega (arith, c) in
    sym (e ∙ any_has node (take (1 + count - 1) (drop 1 ws)) ∙ ap (λ (m : ℕ). has node (take m (drop 1 ws))) k)

pub returns-then-row-last : goal.returns-then-row-last
returns-then-row-last c =
    let x = c.args in
    let is : c.in-Some.field-0.now ≡ get_or x.row.now 0 0 = search rules in
    entry_full x.node x.row.now (omega (arith, is))

pub returns-then-contains : goal.returns-then-contains
returns-then-contains c =
    let x = c.args in
    let is : c.in-Some.field-0.now ≡ get_or x.row.now 0 0 = search rules in
    entry_had x.node x.row.now (found x.node x.row.now _ _ is c.if-contains.ensures.value)

pub returns : goal.returns
returns c =
    let x = c.args in
    let is : get_or x.row.now 0 0 ≡ c.in-Some.field-0.now = sym (search rules) in
    subst (λ (k : ℕ). EntryAdded x.node x.row.now (set (set x.row.now (1 + k) x.node) 0 (1 + k))) is
    (entry_new x.node x.row.now (omega (arith, is)) (found x.node x.row.now _ _ (sym is) c.if-contains.ensures.value))
