-- Rows in which every word is a node, and every count at most D, are well formed. Assumes nothing.
use mathlib.Core.Path.{◌≡◌, refl, sym, ap, ap₂, ◌∙◌, subst}
use mathlib.Core.Bool.{true, ◌&&◌}
use mathlib.Core.List.{List}
use Prim.Native.Nat.{ℕ, zero, suc, ◌+◌, ◌*◌}
use native.Mathlib.Omega.{arith}
use lib.ListN.{get_or, take, drop}
use lib.Seq.{take-take}
use Rattle.basics.specs.Lists.{every, pieces}
use Rattle.basics.proofs.Tests.{both_true}
use Rattle.basics.proofs.Pieces.{drop-take, every_take, every_drop}
use Rattle.store.specs.WellFormed.{is_node, count_ok, row_ok}

row_flat : (D n : ℕ) (row : List ℕ) → count_ok D row ≡ true → every (is_node n) row ≡ true → row_ok D n row ≡ true
unfolding row_ok
row_flat D n row c e = ap₂ ◌&&◌ c (every_take (is_node n) (get_or row 0 0) (drop 1 row) (every_drop (is_node n) 1 row e))

pub rows_flat : (D n size k : ℕ) (ws : List ℕ) → every (count_ok D) (pieces size k ws) ≡ true → every (is_node n) (take (k * size) ws) ≡ true
    → every (row_ok D n) (pieces size k ws) ≡ true
unfolding every pieces
rows_flat D n size zero ws c e = refl
rows_flat D n size (suc k) ws c e =
    let counts = both_true (count_ok D (take size ws)) (every (count_ok D) (pieces size k (drop size ws))) c in
    let whole : suc k * size ≡ size + k * size = omega arith in
    let e' : every (is_node n) (take (size + k * size) ws) ≡ true = ap (λ (m : ℕ). every (is_node n) (take m ws)) (sym whole) ∙ e in
    let here : every (is_node n) (take size ws) ≡ true =
    subst (λ (l : List ℕ). every (is_node n) l ≡ true) (take-take size (size + k * size) ws (omega arith)) (every_take (is_node n) size (take (size + k * size) ws) e') in
    let rest : every (is_node n) (take (k * size) (drop size ws)) ≡ true =
    subst (λ (l : List ℕ). every (is_node n) l ≡ true) (drop-take size (k * size) ws) (every_drop (is_node n) size (take (size + k * size) ws) e') in
    ap₂ ◌&&◌ (row_flat D n (take size ws) counts.0 here) (rows_flat D n size k (drop size ws) counts.1 rest)
