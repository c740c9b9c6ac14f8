-- The worked example as a list of calls, with an add that is refused: what is remembered of it, and so what is claimed. Assumes nothing.
use mathlib.Core.Path.{◌≡◌, refl}
use mathlib.Core.List.{List, [], ◌∷◌}
use Prim.Native.Nat.{ℕ}
use lib.ListN.{replicate}
use lib.Ieee.{Float, fits, of_bits, to_bits, add as plus, sub, mul, div, lt, le, eq, is_nan, of_int, to_unsigned, round}
use Rattle.basics.specs.Sum.{+zero, +one}
use Rattle.pipnn.specs.Example.{params}
use Rattle.def_calls.specs.Example.{minus_one}
use Rattle.theorems.specs.Calls.{Typed, Call, new, add, build, search_with_ef, outcome, Past, nothing, built, then}
use Rattle.theorems.specs.Promise.{Claims}
use Rattle.theorems.proofs.promise.Promise.{demand_3}

pub typed : Typed params
unfolding fits of_bits
typed = record { fraction = tt; alpha = tt }

abbrev pub one : List Float
one = +one ∷ +zero ∷ []

abbrev up : List Float
up = +zero ∷ +one ∷ []

abbrev down : List Float
down = minus_one ∷ +zero ∷ []

abbrev calls : List Call
calls =
    new 2 params typed 8
    ∷ add 10 one
    ∷ add 15 (+one ∷ [])
    ∷ add 20 up
    ∷ add 30 down
    ∷ build 512 384
    ∷ add 40 one
    ∷ search_with_ef 512 384 one 3 3 (replicate 3 0) (replicate 3 +zero)
    ∷ []

-- what a list of calls leaves: what is remembered of it, and both stores
unfoldable pub left : List Call → Past → List ℕ → List Float → Past × List ℕ × List Float
left [] past w f = (past, w, f)
left (c ∷ cs) past w f = left cs (then c (outcome c w f).0 past) (outcome c w f).1 (outcome c w f).2

-- three nodes, built: the add with one component returned 6, the one after the build 5
three_nodes : (left calls nothing (replicate 56 7) (replicate 16 minus_one)).0
    ≡ built (record {
      dimension = 2;
      params = params;
      capacity = 8;
      nodes = record { doc = 10; vector = one } ∷ record { doc = 20; vector = up } ∷ record { doc = 30; vector = down } ∷ [];
    })
unfolding left outcome then of_bits to_bits plus sub mul div lt le eq is_nan of_int to_unsigned round
three_nodes = refl

-- the claim of this very list
claimed : Claims calls nothing (replicate 56 7) (replicate 16 minus_one)
claimed = demand_3 (replicate 56 7) (replicate 16 minus_one) calls
