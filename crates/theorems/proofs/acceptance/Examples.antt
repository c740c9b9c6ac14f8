-- The worked example with a capacity of 3, so that it fills the store: every call of it is accepted, and three more show the limits. Assumes nothing.
use mathlib.Core.Path.{◌≡◌, refl}
use mathlib.Core.Bool.{false}
use mathlib.Core.List.{List, [], ◌∷◌}
use Prim.Native.Nat.{ℕ}
use lib.IntN.{pos}
use lib.ListN.{replicate}
use lib.Ieee.{Float, fin, binary32, of_bits, to_bits, add as plus, sub, mul, div, lt, le, eq, is_nan, of_int, to_unsigned, round}
use Rattle.basics.specs.Sum.{+zero, +one}
use Rattle.norm.specs.Norm.{scaled_of}
use Rattle.pipnn.specs.Example.{params}
use Rattle.def_calls.specs.Example.{minus_one}
use Rattle.theorems.specs.Calls.{Call, new, add, build, search_with_ef, search, outcome, nothing}
use Rattle.theorems.proofs.promise.Examples.{typed, one}
use Rattle.theorems.specs.Acceptance.{Accepts}
use Rattle.theorems.proofs.acceptance.Acceptance.{accepts}

-- the last add finds the store full, the last two searches ask for one node too many and have one place too few
abbrev calls : List Call
calls =
    new 2 params typed 3
    ∷ add 10 one
    ∷ add 20 (+zero ∷ +one ∷ [])
    ∷ add 30 (minus_one ∷ +zero ∷ [])
    ∷ add 40 one
    ∷ build 192 304
    ∷ search_with_ef 192 304 one 3 3 (replicate 3 0) (replicate 3 +zero)
    ∷ search 192 304 one 1024 (replicate 3 0) (replicate 3 +zero)
    ∷ search 192 304 one 1025 (replicate 3 0) (replicate 3 +zero)
    ∷ search 192 304 one 3 (replicate 2 0) (replicate 3 +zero)
    ∷ []

-- what they return
numbers : List Call → List ℕ → List Float → List ℕ
numbers [] w f = []
numbers (c ∷ cs) w f = (outcome c w f).0 ∷ numbers cs (outcome c w f).1 (outcome c w f).2

returned : numbers calls (replicate 31 7) (replicate 6 minus_one) ≡ 0 ∷ 0 ∷ 0 ∷ 0 ∷ 8 ∷ 0 ∷ 0 ∷ 0 ∷ 11 ∷ 12 ∷ []
unfolding numbers outcome of_bits to_bits plus sub mul div lt le eq is_nan of_int to_unsigned round
returned = refl

-- the claim of this very list
judged : Accepts calls nothing (replicate 31 7) (replicate 6 minus_one)
judged = accepts calls (replicate 31 7) (replicate 6 minus_one)

-- the vector of one component 2^64 has the length infinity, and is stored as a zero
far_out : scaled_of binary32 (fin false 1 (pos 64) ∷ []) ≡ +zero ∷ []
unfolding scaled_of mul plus lt div round
far_out = refl
