-- The two cases of a distance. Assumes nothing.
use mathlib.Core.Path.{◌≡◌, sym}
use mathlib.Core.Bool.{false, true}
use mathlib.Core.List.{List}
use lib.Dec.{eqb}
use lib.ListN.{length}
use lib.Ieee.{Float, Format, inf, sub}
use Rattle.basics.specs.Choice.{pick_true, pick_false}
use Rattle.basics.specs.Sum.{+one}
use Rattle.simd.specs.Dot.{dot_of}
use Rattle.distance.specs.Distance.{distance_of}

pub one_minus_dot : (f : Format) (xs ys : List Float) → eqb (length xs) (length ys) ≡ true → sub f +one (dot_of f xs ys) ≡ distance_of f xs ys
unfolding distance_of
one_minus_dot f xs ys e = sym (pick_true (sub f +one (dot_of f xs ys)) (inf false) e)

pub unlike_lengths : (f : Format) (xs ys : List Float) → eqb (length xs) (length ys) ≡ false → inf false ≡ distance_of f xs ys
unfolding distance_of
unlike_lengths f xs ys e = sym (pick_false (sub f +one (dot_of f xs ys)) (inf false) e)
