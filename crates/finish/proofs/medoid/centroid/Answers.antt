-- Without components there is nothing to sum; otherwise the rows taken stand whole in the slice. Assumes nothing.
use mathlib.Core.Path.{◌≡◌, refl, sym, ap, ◌∙◌}
use mathlib.Core.List.{List, [], ◌∷◌, map}
use Prim.Native.Nat.{◌<◌}
use lib.IntN.{pos}
use lib.ListN.{length}
use lib.Ieee.{Float, binary32, div, of_int}
use Rattle.finish.proofs.medoid.Rows.{first_few}
use Rattle.def_graph.specs.Centroid.{add_to, row_sums_from, centroid_of}
use native.Mathlib.Omega.{arith}
use Rattle.std.proofs.Common.{rules}
use Rattle.finish.proofs.medoid.centroid.Goals as goal

-- where there are no components there is no sum
no_sums : (vs : List (List Float)) → row_sums_from binary32 [] vs ≡ []
unfolding row_sums_from add_to
no_sums [] = refl
no_sums (v ∷ vs) = no_sums vs

nothing : (out : List Float) (vs : List (List Float)) → length out ≡ 0 → out ≡ centroid_of binary32 (length out) vs
unfolding centroid_of
nothing [] vs e = sym (ap (map (λ (s : Float). div binary32 s (of_int binary32 (pos (length vs))))) (no_sums vs))
nothing (x ∷ out) vs e = absurd (omega arith)

pub mean-requires : goal.mean-requires
mean-requires c =
    let x = c.args in
    let rows = c.first_rows in
    let some : 0 < length x.out.now = search rules in
    (some, omega (arith, first_few (length x.out.now) some x.n rows.result.now x.vectors.now rows.ensures))

pub returns : goal.returns
returns c = c.mean.ensures ∙ ap (centroid_of binary32 (length c.args.out.now)) c.first_rows.ensures

pub returns-then-is_empty : goal.returns-then-is_empty
returns-then-is_empty c = nothing c.args.out.now _ (search rules)
