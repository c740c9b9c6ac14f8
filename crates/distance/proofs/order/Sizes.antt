-- A value's pattern without its sign, `mag`, and the order of sizes: |x| < |y| is `mag f x < mag f y`, for the values of any format.
-- The pattern is a value's size in units of the format's smallest one, encoded: as many digits as the format keeps, above them how many
-- were dropped. Encoding keeps the order, and unequal sizes have unequal patterns since a pattern determines its value (`of_bits-to_bits`). Assumes
-- nothing.
use mathlib.Core.Path.{◌≡◌, refl, sym, ap, ◌∙◌, subst}
use mathlib.Core.Logic.{inl, inr}
use mathlib.Core.Bool.{Bool, true, false, not, cond, ◌&&◌}
use Prim.Native.Nat.{ℕ, zero, suc, ◌+◌, ◌-◌, ◌*◌, ◌/◌, ◌%◌, ◌^◌, ◌≤◌, ◌<◌, zero-le}
use native.Mathlib.Nat.{le_refl, le_of_eq, le_of_lt, le_trans, lt_of_le_of_lt, eq-or-lt_of_le, le-div_iff_mul-le, div-le_of_le-mul, mul_comm, mul_assoc, mul_left_comm, zero-mul, zero-div, mul-le-mul_right, suc-mul, pow-succ', two-mul, add_assoc, zero-add}
use native.Mathlib.Omega.{arith}
use borrow.Author.Tests.{ltb-true, ltb-false, lt-ltb, le-ltb}
use lib.Arith.{lt_of_le-ne}
use lib.Dec.{T, leb, ltb, eqb, ltb→lt}
use lib.IntN.{ℤ}
use lib.Pow.{pow_pos, pow-add, shr_mono}
use lib.Ieee.{Float, nan, inf, fin, up, down, Format, binary32, binary64, prec, emax, low, hid, ones, top, size, is_nan, fits, to_bits, of_bits, neg}
use lib.Ieee.Digits.{size-lt, size_reaches, size-le}
use lib.Ieee.Fits.{two, two-le_pos, kept-lt, and_r, neg-fits, down_pos}
use lib.Ieee.Nearest.{div_mono}
use lib.Ieee.Bits.{of_bits-to_bits, to_bits-lt}

-- ---- encoding keeps the order

-- k digits of n are dropped, and k stands above the p - 1 places of those kept
abbrev enc_at : ℕ → ℕ → ℕ → ℕ
enc_at p n k = k * 2 ^ (p - 1) + n / 2 ^ k

abbrev enc : ℕ → ℕ → ℕ
enc p n = enc_at p n (size n - p)

size_mono : (a b : ℕ) → a ≤ b → size a ≤ size b
size_mono a b h = size-le a (size b) (lt_of_le_of_lt h (size-lt b))

twice_hid : (p : ℕ) → 0 < p → 2 ^ p ≡ 2 ^ (p - 1) + 2 ^ (p - 1)
twice_hid p h = let e : p ≡ suc (p - 1) = omega arith in ap (λ (x : ℕ). 2 ^ x) e ∙ pow-succ' 2 (p - 1) ∙ two-mul (2 ^ (p - 1))

-- where digits are dropped, the leading digit is among those kept
kept_ge : (p n : ℕ) → 0 < p → 0 < size n - p → 2 ^ (p - 1) ≤ n / 2 ^ (size n - p)
kept_ge p n P K =
    (le-div_iff_mul-le (pow_pos (size n - p))).1
    (le_trans (le_of_eq (sym (pow-add 2 (p - 1) (size n - p)))) (size_reaches n (p - 1 + (size n - p)) (omega arith)))

enc_mono : (p a b : ℕ) → 0 < p → a ≤ b → enc p a ≤ enc p b
enc_mono p a b P h =
    let fewer : size a - p ≤ size b - p = omega (arith, size_mono a b h) in
    elim (eq-or-lt_of_le fewer) [
      | inl e ↦ le_trans (same (size a - p)) (le_of_eq (ap (λ (k : ℕ). enc_at p b k) e))
      | inr l ↦
          more (2 ^ (p - 1)) ((size a - p) * 2 ^ (p - 1)) ((size b - p) * 2 ^ (p - 1)) (a / 2 ^ (size a - p)) (b / 2 ^ (size b - p))
          (le_trans (le_of_eq (sym (suc-mul (size a - p) (2 ^ (p - 1))))) (mul-le-mul_right (2 ^ (p - 1)) l))
          (subst (λ (x : ℕ). a / 2 ^ (size a - p) < x) (twice_hid p P) (kept-lt p a))
          (kept_ge p b P (omega arith))
    ]
  where
    -- as many digits are dropped of both
    same : (k : ℕ) → enc_at p a k ≤ enc_at p b k
    same k = omega (arith, shr_mono k h)

    -- more are dropped of the greater: w, u are what stands above, q, r what is kept
    more : (h w u q r : ℕ) → w + h ≤ u → q < h + h → h ≤ r → w + q ≤ u + r
    more h w u q r a b c = omega arith

-- ---- a value's size, and its pattern

-- in units of the format's smallest value; an infinity counts as the first power of two past the largest
abbrev units : Format → Float → ℕ
units f nan = 0
units f (inf s) = 2 ^ (low f + suc (emax f))
units f (fin s m e) = m * up e * 2 ^ low f / down e

abbrev pub sign : Float → Bool
sign nan = false
sign (inf s) = s
sign (fin s m e) = s

abbrev pub mag : Format → Float → ℕ
mag f x = enc (prec f) (units f x)

inf_bits : (f : Format) → enc (prec f) (2 ^ (low f + suc (emax f))) ≡ ones f * hid f
unfolding size
inf_bits binary32 = refl
inf_bits binary64 = refl

-- the pattern is the sign's weight, if it is set, and the rest
pub bits_are : (f : Format) (x : Float) → T (not (is_nan x)) → to_bits f x ≡ cond (sign x) (top f) 0 + mag f x
unfolding to_bits is_nan
bits_are f nan t = absurd t
bits_are f (inf s) t = ap (λ (n : ℕ). cond s (top f) 0 + n) (sym (inf_bits f))
bits_are f (fin s m e) t =
    let n = m * up e * 2 ^ low f / down e in
    add_assoc (cond s (top f) 0) ((size n - prec f) * hid f) (n / 2 ^ (size n - prec f))

-- without the sign
abbrev abs : Float → Float
abs nan = nan
abs (inf s) = inf false
abs (fin s m e) = fin false m e

abs_fits : (f : Format) (x : Float) → T (fits f x) → T (fits f (abs x))
unfolding fits
abs_fits f nan h = h
abs_fits f (inf s) h = h
abs_fits f (fin s zero e) h = h
abs_fits f (fin s (suc m) e) h = h

abs_real : (x : Float) → T (not (is_nan x)) → T (not (is_nan (abs x)))
unfolding is_nan
abs_real nan t = t
abs_real (inf s) t = t
abs_real (fin s m e) t = t

abs_mag : (f : Format) (x : Float) → T (not (is_nan x)) → to_bits f (abs x) ≡ mag f x
unfolding is_nan
abs_mag f nan t = absurd t
abs_mag f (inf s) t = bits_are f (inf false) tt ∙ zero-add (mag f (inf false))
abs_mag f (fin s m e) t = bits_are f (fin false m e) tt ∙ zero-add (mag f (fin false m e))

-- the pattern without the sign stays below the sign's weight
pub mag_lt : (f : Format) (x : Float) → T (fits f x) → T (not (is_nan x)) → mag f x < top f
unfolding is_nan neg
mag_lt f x h t = omega (arith, other f x t, to_bits-lt f (neg (abs x)) (neg-fits f (abs x) (abs_fits f x h)))
  where
    other : (f : Format) (x : Float) → T (not (is_nan x)) → to_bits f (neg (abs x)) ≡ top f + mag f x
    other f nan t = absurd t
    other f (inf s) t = bits_are f (inf true) tt
    other f (fin s m e) t = bits_are f (fin true m e) tt

-- all ones without the sign is a NaN's pattern
ones-nan : (f : Format) → of_bits f (top f - 1) ≡ nan
unfolding of_bits
ones-nan binary32 = refl
ones-nan binary64 = refl

pub mag_ne : (f : Format) (x : Float) → T (fits f x) → T (not (is_nan x)) → mag f x ≡ top f - 1 → ⊥
unfolding is_nan
mag_ne f x h t e =
    subst (λ (y : Float). T (not (is_nan y))) (sym (of_bits-to_bits f (abs x) (abs_fits f x h)) ∙ ap (of_bits f) (abs_mag f x t ∙ e) ∙ ones-nan f) (abs_real x t)

-- ---- the order of sizes

-- |x| < |y|
abbrev pub less : Float → Float → Bool
less nan y = false
less (inf s) y = false
less (fin s m e) nan = true
less (fin s m e) (inf t) = true
less (fin s m e) (fin t n d) = ltb (m * up e * down d) (n * up d * down e)

less_abs : (x y : Float) → less x y ≡ less (abs x) (abs y)
less_abs nan y = refl
less_abs (inf s) y = refl
less_abs (fin s m e) nan = refl
less_abs (fin s m e) (inf t) = refl
less_abs (fin s m e) (fin t n d) = refl

less_self : (x : Float) → less x x ≡ false
less_self nan = refl
less_self (inf s) = refl
less_self (fin s m e) = le-ltb _ _ (le_refl (m * up e * down e))

less_asym : (x y : Float) → less x y ≡ true → less y x ≡ false
less_asym nan y e = absurd (subst T (sym e) tt)
less_asym (inf s) y e = absurd (subst T (sym e) tt)
less_asym (fin s m k) nan e = refl
less_asym (fin s m k) (inf t) e = refl
less_asym (fin s m k) (fin t n d) e = le-ltb (n * up d * down k) (m * up k * down d) (le_of_lt (ltb-true (m * up k * down d) (n * up d * down k) e))

-- a fraction's size grows with it
cross : (a b l u v : ℕ) → a * v ≤ b * u → a * l * v ≤ b * l * u
cross a b l u v h = le_trans (le_of_eq (swap a l v)) (le_trans (mul-le-mul_right l h) (le_of_eq (sym (swap b l u))))
  where
    swap : (x y z : ℕ) → x * y * z ≡ x * z * y
    swap x y z = mul_assoc x y z ∙ ap (λ (w : ℕ). x * w) (mul_comm y z) ∙ sym (mul_assoc x z y)

-- a finite value that fits is below the first power of two past the largest
fin-le : (f : Format) (s : Bool) (m : ℕ) (e : ℤ) → T (fits f (fin s m e)) → units f (fin s m e) ≤ 2 ^ (low f + suc (emax f))
unfolding fits
fin-le f s zero e h = simp (zero-mul, zero-div) zero-le
fin-le f s (suc m) e h =
    let A = eqb (suc m % 2) 1 && ltb (suc m) (2 ^ prec f) && leb (down e) (2 ^ low f) in
    let D = ltb (suc m * up e) (2 ^ suc (emax f) * down e) in
    div-le_of_le-mul (down e)
    (le_trans (mul-le-mul_right (2 ^ low f) (le_of_lt (ltb→lt (suc m * up e) (2 ^ suc (emax f) * down e) (and_r A D h))))
    (le_of_eq (turn (2 ^ suc (emax f)) (down e) (2 ^ low f) ∙ ap (λ (x : ℕ). down e * x) (sym (pow-add 2 (low f) (suc (emax f)))))))
  where
    turn : (a b c : ℕ) → a * b * c ≡ b * (c * a)
    turn a b c = simp (mul_assoc, mul_comm, mul_left_comm) refl

units-le : (f : Format) (x y : Float) → T (fits f x) → T (not (is_nan x)) → T (not (is_nan y)) → less y x ≡ false → units f x ≤ units f y
unfolding is_nan
units-le f nan y h t u e = absurd t
units-le f (inf s) nan h t u e = absurd u
units-le f (inf s) (inf r) h t u e = le_refl _
units-le f (inf s) (fin r n d) h t u e = absurd (subst T e tt)
units-le f (fin s m k) nan h t u e = absurd u
units-le f (fin s m k) (inf r) h t u e = fin-le f s m k h
units-le f (fin s m k) (fin r n d) h t u e =
    div_mono (m * up k * 2 ^ low f) (down k) (n * up d * 2 ^ low f) (down d) (down_pos k) (down_pos d) (cross (m * up k) (n * up d) (2 ^ low f) (down k) (down d) (ltb-false _ _ e))

mag_le : (f : Format) (x y : Float) → T (fits f x) → T (not (is_nan x)) → T (not (is_nan y)) → less y x ≡ false → mag f x ≤ mag f y
mag_le f x y h t u e = enc_mono (prec f) (units f x) (units f y) (two-le_pos (prec f) (two f)) (units-le f x y h t u e)

mag_eq : (f : Format) (x y : Float) → T (fits f x) → T (fits f y) → T (not (is_nan x)) → T (not (is_nan y)) → mag f x ≡ mag f y → abs x ≡ abs y
mag_eq f x y h k t u e =
    sym (of_bits-to_bits f (abs x) (abs_fits f x h)) ∙ ap (of_bits f) (abs_mag f x t ∙ e ∙ sym (abs_mag f y u)) ∙ of_bits-to_bits f (abs y) (abs_fits f y k)

mag_less : (f : Format) (x y : Float) → T (fits f x) → T (fits f y) → T (not (is_nan x)) → T (not (is_nan y)) → less x y ≡ true → mag f x < mag f y
mag_less f x y h k t u e =
    lt_of_le-ne (mag_le f x y h t u (less_asym x y e))
    (λ q. subst T (sym e ∙ less_abs x y ∙ ap (λ (z : Float). less z (abs y)) (mag_eq f x y h k t u q) ∙ less_self (abs y)) tt)

-- |x| < |y| is the patterns' order
pub sizes : (f : Format) (x y : Float) → T (fits f x) → T (fits f y) → T (not (is_nan x)) → T (not (is_nan y)) → less x y ≡ ltb (mag f x) (mag f y)
sizes f x y h k t u = either (less x y) refl
  where
    either : (b : Bool) → less x y ≡ b → less x y ≡ ltb (mag f x) (mag f y)
    either true e = e ∙ sym (lt-ltb _ _ (mag_less f x y h k t u e))
    either false e = e ∙ sym (le-ltb _ _ (mag_le f y x k u t e))
