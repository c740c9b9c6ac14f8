-- Scores that compute: the scope's two, the ends, and what lies beyond them; and answers at a limit. Assumes nothing.
use mathlib.Core.Path.{◌≡◌, refl}
use mathlib.Core.Bool.{true, false}
use lib.Ieee.{Float, nan, inf, binary32, lt, eq, le, of_bits}
use Rattle.basics.specs.Choice.{pick}
use Rattle.recognise.specs.Score.{score_of}
use Rattle.recognise.specs.Recognised.{known_as, new_as, recognised_as}

-- 0.375
three_eighths : score_of (of_bits binary32 0x3ec0_0000) ≡ 62
unfolding score_of pick of_bits
three_eighths = refl

-- 0.125
eighth : score_of (of_bits binary32 0x3e00_0000) ≡ 87
unfolding score_of pick of_bits
eighth = refl

at_zero : score_of (of_bits binary32 0) ≡ 100
unfolding score_of pick of_bits
at_zero = refl

at_one : score_of (of_bits binary32 0x3f80_0000) ≡ 0
unfolding score_of pick of_bits
at_one = refl

at_two : score_of (of_bits binary32 0x4000_0000) ≡ 0
unfolding score_of pick of_bits
at_two = refl

at_minus_one : score_of (of_bits binary32 0xbf80_0000) ≡ 100
unfolding score_of pick of_bits
at_minus_one = refl

-- the smallest value above zero
smallest : score_of (of_bits binary32 1) ≡ 99
unfolding score_of pick of_bits
smallest = refl

-- below and above a half, and a half itself
under_half : score_of (of_bits binary32 0x3eff_ffff) ≡ 50
unfolding score_of pick of_bits
under_half = refl

half : score_of (of_bits binary32 0x3f00_0000) ≡ 50
unfolding score_of pick of_bits
half = refl

over_half : score_of (of_bits binary32 0x3f00_0001) ≡ 49
unfolding score_of pick of_bits
over_half = refl

infinite : score_of (inf false) ≡ 0
unfolding score_of pick
infinite = refl

minus_infinite : score_of (inf true) ≡ 100
unfolding score_of pick
minus_infinite = refl

no_number : score_of nan ≡ 0
unfolding score_of
no_number = refl

-- ---- a phone with doc id 7, its nearest at 0.125 or 0.375

abbrev near : Float
near = of_bits binary32 0x3e00_0000

abbrev far : Float
far = of_bits binary32 0x3ec0_0000

at_the_limit : recognised_as 7 near near ≡ known_as 7 87
unfolding recognised_as score_of pick of_bits le lt eq
at_the_limit = refl

beyond_the_limit : recognised_as 7 far near ≡ new_as 62
unfolding recognised_as score_of pick of_bits le lt eq
beyond_the_limit = refl

-- whatever the limit, +infinity too
no_number_is_new : (limit : Float) → recognised_as 7 nan limit ≡ new_as 0
unfolding recognised_as score_of pick le lt eq
no_number_is_new limit = refl
