-- Parameters within and beyond the limits, computed. Assumes nothing.
use mathlib.Core.Path.{◌≡◌, refl}
use mathlib.Core.Bool.{true, false}
use Prim.Native.Nat.{ℕ}
use lib.IntN.{pos}
use lib.Ieee.{Float, nan, inf, fin, binary32, binary64, of_bits}
use Rattle.params.specs.declared.PipnnParams.{PipnnParams}
use Rattle.params.specs.Limits.{within_limits}

-- the Rust's defaults, but for the fraction, alpha and the degree
abbrev with : Float → Float → ℕ → PipnnParams
with fraction alpha degree = record {
  max_leaf_size = 2048;
  min_leaf_size = 64;
  leader_fraction = fraction;
  max_degree = degree;
  num_hash_bits = 12;
  final_prune = true;
  alpha = alpha;
  ef_search = 100;
}

-- 0.02 and 1.2
abbrev fiftieth : Float
fiftieth = of_bits binary64 0x3f94_7ae1_47ae_147b

abbrev usual : Float
usual = of_bits binary32 0x3f99_999a

defaults : within_limits (with fiftieth usual 32) ≡ true
unfolding within_limits of_bits
defaults = refl

-- a fraction of −0 counts as 0, and 1 is the last; one that is no number is nowhere within
minus-zero : within_limits (with (fin true 0 (pos 0)) usual 32) ≡ true
unfolding within_limits of_bits
minus-zero = refl

whole : within_limits (with (fin false 1 (pos 0)) usual 32) ≡ true
unfolding within_limits of_bits
whole = refl

no_number : within_limits (with nan usual 32) ≡ false
unfolding within_limits of_bits
no_number = refl

-- any finite alpha; a degree of 32 and none above it
endless_alpha : within_limits (with fiftieth (inf true) 32) ≡ false
unfolding within_limits of_bits
endless_alpha = refl

one_too_many : within_limits (with fiftieth usual 33) ≡ false
unfolding within_limits of_bits
one_too_many = refl
