-- The three phones of the worked example (`calls/specs/Example`), one of them recognised: as itself, as nobody within the limit, and refused. Assumes
-- nothing.
use mathlib.Core.Path.{◌≡◌, refl}
use mathlib.Core.Bool.{false}
use mathlib.Core.List.{[], ◌∷◌}
use lib.Ieee.{inf, of_bits, to_bits, add, sub, mul, div, lt, le, eq, is_nan, of_int, to_unsigned, round}
use Rattle.basics.specs.Sum.{+zero, +one}
use Rattle.pipnn.specs.New.{new_spec}
use Rattle.pipnn.specs.Add.{add_spec}
use Rattle.def_calls.specs.Build.{build_spec}
use Rattle.def_calls.specs.Example.{minus_one, added, example_built}
use Rattle.recognise.specs.Recognised.{known_as, new_as, refused_as}
use Rattle.recognise.specs.Recognise.{recognise_spec}

-- at the limit itself
itself : recognise_spec 512 384 example_built.1 example_built.2 (+one ∷ +zero ∷ []) 3 +zero ≡ known_as 10 100
unfolding recognise_spec new_spec add_spec build_spec of_bits to_bits add sub mul div lt le eq is_nan of_int to_unsigned round
itself = refl

-- across from the second phone the two others are nearest, at distance 1
nobody : recognise_spec 512 384 example_built.1 example_built.2 (+zero ∷ minus_one ∷ []) 3 +zero ≡ new_as 0
unfolding recognise_spec new_spec add_spec build_spec of_bits to_bits add sub mul div lt le eq is_nan of_int to_unsigned round
nobody = refl

-- 13 comes last: after 10, of an open store
no_limit : recognise_spec 512 384 example_built.1 example_built.2 (+one ∷ +zero ∷ []) 3 (inf false) ≡ refused_as 13
unfolding recognise_spec new_spec add_spec build_spec of_bits to_bits add sub mul div lt le eq is_nan of_int to_unsigned round
no_limit = refl

open_first : recognise_spec 512 384 added.1 added.2 (+one ∷ []) 1025 (inf false) ≡ refused_as 10
unfolding recognise_spec new_spec add_spec of_bits to_bits add sub mul div lt le eq is_nan round
open_first = refl
