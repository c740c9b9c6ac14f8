-- A draw that computes: the first at level 0, of three positions. Assumes nothing.
use Rattle.std.proofs.Common.{◌≡◌, [], ◌∷◌, refl}
use Rattle.random.specs.Leaders.{draw_start, drawn, up_to}

pub first_draw : drawn 1 (draw_start 0) (up_to 3) ≡ 2 ∷ []
unfolding drawn up_to
first_draw = refl
