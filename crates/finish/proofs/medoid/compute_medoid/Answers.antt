-- The slice holds the centroid, as long as before, and the nearest row to it is the definition's; without components there are no rows.
-- Assumes nothing.
use mathlib.Core.Path.{◌≡◌, sym, ap, ap₂, ◌∙◌}
use mathlib.Core.List.{List}
use Prim.Native.Nat.{ℕ, ◌/◌, ◌<◌, min}
use native.Mathlib.Nat.{div-zero}
use lib.ListN.{length}
use lib.Ieee.{Float, binary32}
use Rattle.basics.specs.Lists.{pieces}
use Rattle.def_graph.specs.Centroid.{centroid_of, rows_in}
use Rattle.def_graph.specs.Medoid.{nearest_to, compute_medoid}
use Rattle.finish.proofs.medoid.Rows.{first_few}
use native.Mathlib.Omega.{arith}
use Rattle.std.proofs.Common.{rules}
use Rattle.finish.proofs.medoid.compute_medoid.Goals as goal

no_rows : (d n : ℕ) (xs : List Float) → d ≡ 0 → 0 ≡ compute_medoid d (rows_in d n xs)
unfolding compute_medoid nearest_to pieces
no_rows d n xs e =
    let none : min n (length xs / 0) ≡ 0 = omega (arith, div-zero (length xs)) in
    sym (ap (λ (k : ℕ). compute_medoid k (rows_in k n xs)) e ∙ ap (λ (k : ℕ). compute_medoid 0 (pieces 0 k xs)) none)

-- the parts joined: the slice as it is now, and the rows that are taken
joined : (xs centroid₀ centroid : List Float) (rows : List (List Float)) (n node : ℕ) → centroid ≡ centroid_of binary32 (length centroid₀) (rows_in (length centroid₀) n xs)
    → length centroid ≡ length centroid₀ → rows ≡ rows_in (length centroid) n xs → node ≡ (nearest_to centroid rows (length rows)).node
    → node ≡ compute_medoid (length centroid₀) (rows_in (length centroid₀) n xs)
unfolding compute_medoid
joined xs centroid₀ centroid rows n node c l r e =
    e
    ∙ ap₂ (λ (v : List Float) (vs : List (List Float)). (nearest_to v vs (length vs)).node) c (r ∙ ap (λ (d : ℕ). rows_in d n xs) l)

pub returns-then-is_empty : goal.returns-then-is_empty
returns-then-is_empty c =
    let x = c.args in
    let l : length c.centroid.new.out ≡ length x.centroid.now = c.centroid.auto.out in
    let none : length c.centroid.new.out ≡ 0 = search rules in
    no_rows (length x.centroid.now) x.n x.vectors.now (sym l ∙ none)

pub nearest_row-requires : goal.nearest_row-requires
nearest_row-requires c =
    let rows = c.first_rows in
    let some : 0 < length c.centroid.new.out = search rules in
    (some, omega (arith, first_few (length c.centroid.new.out) some c.args.n rows.result.now c.args.vectors.now rows.ensures))

pub returns : goal.returns
returns c =
    let x = c.args in
    let mean = c.centroid in
    joined x.vectors.now x.centroid.now _ _ x.n _ mean.ensures mean.auto.out c.first_rows.ensures c.nearest_row.ensures
