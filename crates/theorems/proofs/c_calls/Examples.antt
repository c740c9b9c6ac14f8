-- The worked example as a list of C calls, with those that C alone can make: a final_prune of 2, and recognising. Assumes nothing.
use mathlib.Core.Path.{◌≡◌, refl}
use mathlib.Core.Bool.{false}
use mathlib.Core.List.{List, [], ◌∷◌}
use Prim.Native.Nat.{ℕ}
use lib.ListN.{replicate}
use lib.Ieee.{Float, inf, binary32, binary64, fits, of_bits, to_bits, add, sub, mul, div, lt, le, eq, is_nan, of_int, to_unsigned, round}
use Rattle.basics.specs.Sum.{+zero, +one}
use Rattle.def_calls.specs.Example.{minus_one}
use Rattle.theorems.specs.Calls.{Typed, nothing}
use Rattle.theorems.specs.CCalls.{CParams, params_given, CCall, pipnn_new, pipnn_add, pipnn_build, pipnn_search_with_ef, pipnn_recognise, c_outcome}
use Rattle.theorems.specs.CPromise.{CClaims}
use Rattle.theorems.specs.CAcceptance.{CAccepts}
use Rattle.theorems.proofs.c_calls.Promise.{c_demand_3}
use Rattle.theorems.proofs.c_calls.Acceptance.{c_accepts}

-- the worked example's parameters, with this final_prune
abbrev given : ℕ → CParams
given final_prune = record {
  max_leaf_size = 256;
  min_leaf_size = 0;
  leader_fraction = of_bits binary64 0x3fe0_0000_0000_0000;
  max_degree = 1;
  num_hash_bits = 0;
  final_prune = final_prune;
  alpha = of_bits binary32 0x3f99_999a;
  ef_search = 3;
}

typed : (final_prune : ℕ) → Typed (params_given (given final_prune))
unfolding fits of_bits
typed final_prune = record { fraction = tt; alpha = tt }

abbrev one : List Float
one = +one ∷ +zero ∷ []

-- A final_prune of 2 is refused, after the dimension. Recognising is refused on an open store, and on a built one where its limit is infinite.
abbrev calls : List CCall
calls =
    pipnn_new 2 (given 2) (typed 2) 8
    ∷ pipnn_new 65 (given 2) (typed 2) 8
    ∷ pipnn_new 2 (given 1) (typed 1) 8
    ∷ pipnn_add 10 one
    ∷ pipnn_add 20 (+zero ∷ +one ∷ [])
    ∷ pipnn_recognise 512 384 one 3 +zero
    ∷ pipnn_add 30 (minus_one ∷ +zero ∷ [])
    ∷ pipnn_build 512 384
    ∷ pipnn_recognise 512 384 one 3 (inf false)
    ∷ pipnn_recognise 512 384 one 3 +zero
    ∷ pipnn_search_with_ef 512 384 one 3 3 (replicate 3 0) (replicate 3 +zero)
    ∷ []

-- what they return
numbers : List CCall → List ℕ → List Float → List ℕ
numbers [] w f = []
numbers (c ∷ cs) w f = (c_outcome c w f).0 ∷ numbers cs (c_outcome c w f).1 (c_outcome c w f).2

returned : numbers calls (replicate 56 7) (replicate 16 minus_one) ≡ 2 ∷ 1 ∷ 0 ∷ 0 ∷ 0 ∷ 10 ∷ 0 ∷ 0 ∷ 13 ∷ 0 ∷ 0 ∷ []
unfolding numbers c_outcome of_bits to_bits add sub mul div lt le eq is_nan of_int to_unsigned round
returned = refl

-- both claims of this very list
claimed : CClaims calls nothing (replicate 56 7) (replicate 16 minus_one)
claimed = c_demand_3 (replicate 56 7) (replicate 16 minus_one) calls

judged : CAccepts calls nothing (replicate 56 7) (replicate 16 minus_one)
judged = c_accepts calls (replicate 56 7) (replicate 16 minus_one)
