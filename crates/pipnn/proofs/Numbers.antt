-- Floats that a test has shown to be numbers. Assumes nothing.
use mathlib.Core.Path.{◌≡◌, sym, subst}
use mathlib.Core.Bool.{true, not}
use lib.Dec.{T}
use lib.Ieee.{Float, nan, inf, fin, lt, eq, le, is_nan}
use lib.Ieee.Scale.{finite}

pub at_most_number : (x y : Float) → le x y ≡ true → T (not (is_nan x))
unfolding le lt eq is_nan
at_most_number nan y h = subst T (sym h) tt
at_most_number (inf s) y h = tt
at_most_number (fin s m e) y h = tt

pub finite_number : (x : Float) → finite x ≡ true → T (not (is_nan x))
unfolding is_nan
finite_number nan h = subst T (sym h) tt
finite_number (inf s) h = tt
finite_number (fin s m e) h = tt
