-- `add_slice` (scope, Records and Refusals, and part 2): one node more, its vector scaled.
use Rattle.std.specs.Prelude.{not, List, [], ◌∷◌, ◌++◌, ℕ, ◌+◌, eqb, length, take, drop, set, Float, None}
use Rattle.std.specs.Float.{binary32}
use Rattle.std.specs.Float.Ieee.Scale.{finite}
use Rattle.basics.specs.Lists.{every}
use Rattle.basics.specs.Refusals.{Check, check, first_refusal}
use Rattle.error.specs.Numbers.{already_built, dimension_mismatch, non_finite_input, full}
use Rattle.store.specs.Layout.{word, built_state, state_at, dimension_at, nodes_at, capacity_at, docs_at, floats_size}
use Rattle.store.specs.Opening.{opening}
use Rattle.norm.specs.Norm.{scaled_of}
use Rattle.pipnn.specs.Answer.{Answer, unless_refused}

-- its own checks, after those that every call begins with
unfoldable pub own_checks : List ℕ → List Float → List Check
unfolding every
own_checks w v =
    check (eqb (word w state_at) built_state) already_built
    ∷ check (not (eqb (length v) (word w dimension_at))) dimension_mismatch
    ∷ check (not (every finite v)) non_finite_input
    ∷ check (eqb (word w nodes_at) (word w capacity_at)) full
    ∷ []

unfoldable pub add_checks : List ℕ → List Float → List Float → List Check
unfolding opening own_checks
add_checks w f v = opening None w f ++ own_checks w v

-- the doc id goes to node n's place, and n grows by one
unfoldable pub added_words : List ℕ → ℕ → List ℕ
added_words w doc = set (set w (docs_at + word w nodes_at) doc) nodes_at (word w nodes_at + 1)

-- the scaled vector goes to node n's place
unfoldable pub added_floats : List ℕ → List Float → List Float → List Float
unfolding scaled_of
added_floats w f v =
    let at : ℕ = floats_size (word w nodes_at) (word w dimension_at) in
    take at f ++ (scaled_of binary32 v ++ drop (at + length v) f)

unfoldable pub add_spec : List ℕ → List Float → ℕ → List Float → Answer
unfolding first_refusal add_checks added_words added_floats unless_refused
add_spec w f doc v = unless_refused (first_refusal (add_checks w f v)) w f (added_words w doc) (added_floats w f v)
