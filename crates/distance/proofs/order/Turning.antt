-- The bits of a key by arithmetic on the sign bit, for any format: of a pattern the sign is turned, and where it is set all other bits too. Back
-- likewise. Turning k bits subtracts from 2^k − 1. Assumes nothing.
use mathlib.Core.Path.{◌≡◌, refl, sym, ap, ap₂, subst, ◌∙◌}
use mathlib.Core.Bool.{Bool, true, false, not}
use Prim.Native.Nat.{ℕ, ◌+◌, ◌-◌, ◌*◌, ◌/◌, ◌^◌, ◌≤◌, ◌<◌}
use native.Mathlib.Nat.{mod-eq_of_lt, div-eq_of_lt, div-eq_of_lt-le}
use native.Mathlib.Decide.{dec_lt}
use native.Mathlib.Omega.{arith}
use borrow.Author.Tests.{le-leb, lt-leb}
use lib.Bits.{bit_and, bit_xor, xor_zero_r, xor_add_and, and_mask, xor_block}
use lib.Dec.{T, leb}
use lib.Pow.{pow_pos}
use lib.Ieee.{Float, Format, binary32, binary64, top, is_nan, fits, to_bits, of_bits, nan_bits}
use lib.Ieee.Bits.{to_bits-lt, of_bits-fits, to_bits-of_bits, nan_bits_is, is_false}
use Rattle.basics.specs.Choice.{pick, pick_true, pick_false}
use Rattle.distance.specs.Order.{key_of}

-- The bits b with the sign turned, whose weight is w, and with all others turned where s is 1; s is 0 or 1.
abbrev pub turned : ℕ → ℕ → ℕ → ℕ
turned w s b = bit_xor b (w + s * (w - 1))

-- ---- over k bits below the sign s

all_ones : (k m : ℕ) → m < 2 ^ k → bit_xor m (2 ^ k - 1) ≡ 2 ^ k - 1 - m
all_ones k m l = let e : bit_and m (2 ^ k - 1) ≡ m = and_mask m k ∙ mod-eq_of_lt l in omega (arith, e, xor_add_and m (2 ^ k - 1))

all_turned : (k s m b : ℕ) → m < 2 ^ k → b ≡ s * 2 ^ k + m → turned (2 ^ k) 1 b ≡ bit_xor s 1 * 2 ^ k + (2 ^ k - 1 - m)
all_turned k s m b l e =
    let mask : 2 ^ k + 1 * (2 ^ k - 1) ≡ 1 * 2 ^ k + (2 ^ k - 1) = omega arith in
    ap₂ bit_xor e mask ∙ xor_block k s 1 m (2 ^ k - 1) l (omega (arith, pow_pos k)) ∙ ap (λ (x : ℕ). bit_xor s 1 * 2 ^ k + x) (all_ones k m l)

sign_turned : (k s m b : ℕ) → m < 2 ^ k → b ≡ s * 2 ^ k + m → turned (2 ^ k) 0 b ≡ bit_xor s 1 * 2 ^ k + m
sign_turned k s m b l e =
    let mask : 2 ^ k + 0 * (2 ^ k - 1) ≡ 1 * 2 ^ k + 0 = omega arith in
    ap₂ bit_xor e mask ∙ xor_block k s 1 m 0 l (pow_pos k) ∙ ap (λ (x : ℕ). bit_xor s 1 * 2 ^ k + x) (xor_zero_r m)

-- the sign of b is b / 2^k
sign_set : (k b : ℕ) → 2 ^ k ≤ b → b < 2 * 2 ^ k → b / 2 ^ k ≡ 1
sign_set k b h l = div-eq_of_lt-le (2 ^ k) (omega arith) (omega arith)

-- what is computed from the sign is one of two cases
by_sign : (k b x y : ℕ) (s : ℕ → ℕ) → b < 2 * 2 ^ k → (2 ^ k ≤ b → turned (2 ^ k) (s 1) b ≡ x) → (b < 2 ^ k → turned (2 ^ k) (s 0) b ≡ y)
    → turned (2 ^ k) (s (b / 2 ^ k)) b ≡ pick (leb (2 ^ k) b) x y
by_sign k b x y s l set clear = elim (dec_lt b (2 ^ k)) [
  | yes p ↦ ap (λ (q : ℕ). turned (2 ^ k) (s q) b) (div-eq_of_lt p) ∙ clear p ∙ sym (pick_false _ _ (lt-leb _ _ p))
  | no p ↦ let h : 2 ^ k ≤ b = omega arith in ap (λ (q : ℕ). turned (2 ^ k) (s q) b) (sign_set k b h l) ∙ set h ∙ sym (pick_true _ _ (le-leb _ _ h))
]

-- a key from a pattern
key_at_lem : (k b : ℕ) → b < 2 * 2 ^ k → turned (2 ^ k) (b / 2 ^ k) b ≡ pick (leb (2 ^ k) b) (2 * 2 ^ k - 1 - b) (2 ^ k + b)
key_at_lem k b l =
    by_sign k b _ _ (λ q. q) l (λ h. all_turned k 1 (b - 2 ^ k) b (omega arith) (omega arith) ∙ omega arith) (λ h. sign_turned k 0 b b h (omega arith) ∙ omega arith)

-- and a pattern from a key
value_at : (k b : ℕ) → b < 2 * 2 ^ k → turned (2 ^ k) (1 - b / 2 ^ k) b ≡ pick (leb (2 ^ k) b) (b - 2 ^ k) (2 * 2 ^ k - 1 - b)
value_at k b l =
    by_sign k b _ _ (λ q. 1 - q) l (λ h. sign_turned k 1 (b - 2 ^ k) b (omega arith) (omega arith) ∙ omega arith) (λ h. all_turned k 0 b b h (omega arith) ∙ omega arith)

-- ---- for every format: what is computed is the two cases

pub key_turned : (f : Format) (b : ℕ) → b < 2 * top f → turned (top f) (b / top f) b ≡ pick (leb (top f) b) (2 * top f - 1 - b) (top f + b)
key_turned binary32 b l = key_at_lem 31 b l
key_turned binary64 b l = key_at_lem 63 b l

pub value_turned : (f : Format) (k : ℕ) → k < 2 * top f → turned (top f) (1 - k / top f) k ≡ pick (leb (top f) k) (k - top f) (2 * top f - 1 - k)
value_turned binary32 k l = value_at 31 k l
value_turned binary64 k l = value_at 63 k l

-- ---- the key of every value

pub number_key : (f : Format) (x : Float) → T (fits f x) → T (not (is_nan x)) → key_of f x ≡ turned (top f) (to_bits f x / top f) (to_bits f x)
unfolding key_of
number_key f x h t = pick_false _ _ (is_false (is_nan x) t) ∙ sym (key_turned f (to_bits f x) (to_bits-lt f x h))

-- and of every pattern: the last key where it is a NaN's, of either sign
pub pattern_key : (f : Format) (b : ℕ) → b < 2 * top f → key_of f (of_bits f b) ≡ pick (nan_bits f b) (2 * top f - 1) (turned (top f) (b / top f) b)
unfolding key_of
pattern_key f b l = either (is_nan (of_bits f b)) refl
  where
    either : (t : Bool) → is_nan (of_bits f b) ≡ t → key_of f (of_bits f b) ≡ pick (nan_bits f b) (2 * top f - 1) (turned (top f) (b / top f) b)
    either true e = pick_true _ _ e ∙ sym (pick_true _ _ (nan_bits_is f b ∙ e))
    either false e =
        let number = subst (λ (t : Bool). T (not t)) (sym e) tt in
        number_key f (of_bits f b) (of_bits-fits f b) number
        ∙ ap (λ (n : ℕ). turned (top f) (n / top f) n) (to_bits-of_bits f b l number)
        ∙ sym (pick_false _ _ (nan_bits_is f b ∙ e))
