-- An answer of as many nodes as there are is an answer of more. Assumes nothing.
use mathlib.Core.Path.{◌≡◌, sym, ap, ◌∙◌}
use mathlib.Core.List.{List}
use Prim.Native.Nat.{ℕ, ◌≤◌, min}
use native.Mathlib.Omega.{arith}
use lib.ListN.{length, take}
use lib.Ieee.{Float}
use Rattle.basics.proofs.Members.{take_min}
use Rattle.sorting.specs.Sorting.{sort_by}
use Rattle.sorting.proofs.Laws.{length_sort}
use Rattle.def_walk.specs.KeepClosest.{key_at}
use Rattle.def_walk.specs.Beam.{answer_of}

pub answer_room : (far : ℕ → Float) (k n : ℕ) (scored : List ℕ) → length scored ≤ n → answer_of far k scored ≡ answer_of far (min k n) scored
unfolding answer_of
answer_room far k n scored h =
    let sorted : List ℕ = sort_by (key_at far) scored in
    let turned : min n k ≡ min k n = omega arith in
    sym (take_min n k sorted (omega (arith, length_sort (key_at far) scored))) ∙ ap (λ (m : ℕ). take m sorted) turned
