-- Keys computed, of f32 patterns: −0 stands directly before +0, −1 before −0.5 (whose pattern is the smaller), and a NaN of either sign has the last
-- key. Assumes nothing.
use mathlib.Core.Path.{◌≡◌, refl}
use Prim.Native.Nat.{ℕ}
use lib.Ieee.{binary32, of_bits, to_bits, is_nan}
use Rattle.distance.specs.Order.{key_of}

abbrev of_pattern : ℕ → ℕ
of_pattern b = key_of binary32 (of_bits binary32 b)

minus-zero : of_pattern 0x8000_0000 ≡ 0x7fff_ffff
unfolding key_of of_bits to_bits is_nan
minus-zero = refl

plus_zero : of_pattern 0 ≡ 0x8000_0000
unfolding key_of of_bits to_bits is_nan
plus_zero = refl

minus_one_lem : of_pattern 0xbf80_0000 ≡ 0x407f_ffff
unfolding key_of of_bits to_bits is_nan
minus_one_lem = refl

minus_half : of_pattern 0xbf00_0000 ≡ 0x40ff_ffff
unfolding key_of of_bits to_bits is_nan
minus_half = refl

negative_nan : of_pattern 0xffc0_0000 ≡ 0xffff_ffff
unfolding key_of of_bits to_bits is_nan
negative_nan = refl

least_nan : of_pattern 0x7f80_0001 ≡ 0xffff_ffff
unfolding key_of of_bits to_bits is_nan
least_nan = refl
