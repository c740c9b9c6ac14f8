-- Part 2's words leave one root: e is fixed by where s / 2^(2e) lies, m by the two squares, and a float that the format holds by its value.
-- Assumes nothing.
use mathlib.Core.Path.{◌≡◌, refl, sym, ap, ◌∙◌, subst}
use mathlib.Core.Bool.{Bool, false, cond}
use mathlib.Core.Logic.{◌⊎◌, inl, inr}
use Prim.Native.Nat.{ℕ, suc, ◌+◌, ◌-◌, ◌*◌, ◌/◌, ◌^◌, ◌≤◌, ◌<◌}
use native.Mathlib.Nat.{le_antisymm, le_trans, le_of_lt, lt_of_lt_of_le, lt_of_le_of_lt, lt_irrefl, mul_assoc, mul_left_comm, mul_right_comm, mul-pos, mul-le-mul, mul-le-mul_left, mul-le-mul_right, mul-lt-mul_of_pos_right, pow-succ'}
use native.Mathlib.Decide.{dec_le}
use native.Mathlib.Omega.{arith}
use lib.Pow.{pow_pos, pow_mono, pow-add}
use lib.IntN.{ℤ, pos, negsuc}
use lib.Dec.{T}
use lib.Ieee.{Float, nan, inf, fin, up, down, Format, prec, low, fits, size, top, hid, to_bits, of_bits}
use lib.Ieee.Fits.{down_pos, two}
use lib.Ieee.Exact.{HasValue}
use lib.Ieee.Nearest.{div_same}
use lib.Ieee.Bits.{of_bits-to_bits}
use Rattle.norm.specs.Part2.{over, under, IsRoot}

-- ---- a float that the format holds is fixed by its value

-- its pattern is a function of how many smallest values it is
bits_by_units : (f : Format) → Bool → ℕ → ℕ
unfolding size
bits_by_units f s n = let k = size n - prec f in cond s (top f) 0 + k * hid f + n / 2 ^ k

bits_are : (f : Format) (x : Float) (s : Bool) (a c : ℕ) → 0 < c → HasValue x s a c → to_bits f x ≡ bits_by_units f s (a * 2 ^ low f / c)
unfolding to_bits bits_by_units
bits_are f nan s a c p v = absurd v
bits_are f (inf t) s a c p v = absurd v
bits_are f (fin t m e) s a c p v =
    let cross : m * up e * 2 ^ low f * c ≡ a * 2 ^ low f * down e
    = mul_right_comm (m * up e) (2 ^ low f) c ∙ ap (λ (n : ℕ). n * 2 ^ low f) v.1 ∙ mul_right_comm a (down e) (2 ^ low f) in
    ap (λ (b : Bool). bits_by_units f b (m * up e * 2 ^ low f / down e)) v.0
    ∙ ap (bits_by_units f s) (div_same (m * up e * 2 ^ low f) (down e) (a * 2 ^ low f) c (down_pos e) p cross)

same_value : (f : Format) (x y : Float) (s : Bool) (a c : ℕ) → 0 < c → T (fits f x) → T (fits f y) → HasValue x s a c → HasValue y s a c → x ≡ y
same_value f x y s a c p tx ty vx vy =
    sym (of_bits-to_bits f x tx) ∙ ap (of_bits f) (bits_are f x s a c p vx ∙ sym (bits_are f y s a c p vy)) ∙ of_bits-to_bits f y ty

-- ---- of two whole exponents one is the other, or its power is at most half of the other's

twice : (k : ℕ) → 2 ^ suc k ≡ 2 * 2 ^ k
twice k = pow-succ' 2 k

abbrev Half : ℤ → ℤ → Type 0
Half d e = 2 * (up d * down e) ≤ up e * down d

apart : (d e : ℤ) → (d ≡ e) ⊎ (Half d e ⊎ Half e d)
apart (pos j) (pos k) = elim (dec_le (suc j) k) [
  | yes h ↦ inr (inl (doubled j k h))
  | no g ↦ elim (dec_le (suc k) j) [
    | yes h ↦ inr (inr (doubled k j h))
    | no i ↦ inl (ap pos (omega arith))
  ]
]
  where
    doubled : (j k : ℕ) → suc j ≤ k → 2 * (2 ^ j * 1) ≤ 2 ^ k * 1
    doubled j k h = omega (arith, twice j, pow_mono h)
apart (pos j) (negsuc k) = inr (inr (mul-le-mul (pow_pos j) (pow_mono {i = 1} {j = suc k} (omega arith))))
apart (negsuc j) (pos k) = inr (inl (mul-le-mul (pow_pos k) (pow_mono {i = 1} {j = suc j} (omega arith))))
apart (negsuc j) (negsuc k) = elim (dec_le (suc j) k) [
  | yes h ↦ inr (inr (doubled j k h))
  | no g ↦ elim (dec_le (suc k) j) [
    | yes h ↦ inr (inl (doubled k j h))
    | no i ↦ inl (ap negsuc (omega arith))
  ]
]
  where
    doubled : (j k : ℕ) → suc j ≤ k → 2 * (1 * 2 ^ suc j) ≤ 1 * 2 ^ suc k
    doubled j k h = omega (arith, twice (suc j), pow_mono {i = suc (suc j)} {j = suc k} (omega arith))

-- ---- e is fixed

-- s / 2^(2d) below 4 · Q and s / 2^(2e) from Q up, with 2^d at most half of 2^e, is impossible: a / c is s, and x / y is 2^d, u / v is 2^e
impossible : (a c Q x y u v : ℕ) → 0 < v → a * (y * y) < 4 * Q * (c * (x * x)) → Q * (c * (u * u)) ≤ a * (v * v) → 2 * (x * v) ≤ u * y → ⊥
impossible a c Q x y u v p below from half =
    let gathered : Q * (c * (u * u)) * (y * y) ≡ Q * c * (u * y * (u * y)) = simp (mul_assoc, mul_left_comm) refl in
    let spread : Q * c * (2 * (x * v) * (2 * (x * v))) ≡ 4 * Q * (c * (x * x)) * (v * v)
    = ap (λ (n : ℕ). Q * c * n) (pairs 2 ∙ omega arith) ∙ apart_four 4 in
    lt_irrefl (Q * c * (u * y * (u * y)))
    (lt_of_le_of_lt (subst (λ (n : ℕ). n ≤ a * (v * v) * (y * y)) gathered (mul-le-mul_right (y * y) from))
    (lt_of_lt_of_le (subst (λ (n : ℕ). n < 4 * Q * (c * (x * x)) * (v * v)) (mul_right_comm a (y * y) (v * v)) (mul-lt-mul_of_pos_right below (mul-pos p p)))
    (subst (λ (n : ℕ). n ≤ Q * c * (u * y * (u * y))) spread (mul-le-mul_left (Q * c) (mul-le-mul half half)))))
  where
    pairs : (t : ℕ) → t * (x * v) * (t * (x * v)) ≡ t * (t * (x * x * (v * v)))
    pairs t = simp (mul_assoc, mul_left_comm) refl

    apart_four : (k : ℕ) → Q * c * (k * (x * x * (v * v))) ≡ k * Q * (c * (x * x)) * (v * v)
    apart_four k = simp (mul_assoc, mul_left_comm) refl

four_times : (f : Format) → 2 ^ (2 * prec f) ≡ 4 * 2 ^ (2 * prec f - 2)
four_times f =
    let room : 2 * prec f ≡ 2 + (2 * prec f - 2) = omega (arith, two f) in
    ap (λ (n : ℕ). 2 ^ n) room ∙ pow-add 2 2 (2 * prec f - 2)

module _ (f : Format) (a c : ℕ) (r q : Float) where
  -- not half, one way; the other way is the same with the roots exchanged
  not_half : (w : IsRoot f a c r) (z : IsRoot f a c q) → Half w.e z.e → ⊥
  not_half w z h =
      impossible a c (2 ^ (2 * prec f - 2)) (up w.e) (down w.e) (up z.e) (down z.e) (down_pos z.e)
      (subst (λ (n : ℕ). over a w.e < n * under c w.e) (four_times f) w.below)
      z.from
      h

-- ---- m is fixed

-- (2m − 1)² · u below o, and o below (2k + 1)² · u
at_most : (m k u o : ℕ) → (2 * m - 1) * (2 * m - 1) * u < o → o < (2 * k + 1) * (2 * k + 1) * u → m ≤ k
at_most m k u o l h = elim (dec_le m k) [
  | yes g ↦ g
  | no g ↦
      let odd-le : 2 * k + 1 ≤ 2 * m - 1 = omega arith in
      absurd (lt_irrefl o (lt_of_lt_of_le h (le_trans (mul-le-mul_right u (mul-le-mul odd-le odd-le)) (le_of_lt l))))
]

-- ---- so there is one root

pub only_root : (f : Format) (a c : ℕ) (r q : Float) → IsRoot f a c r → IsRoot f a c q → r ≡ q
only_root f a c r q w z = elim (apart w.e z.e) [
  | inl same ↦
      let same-m : w.m ≡ z.m =
      le_antisymm
      (at_most w.m z.m (under c z.e) (4 * over a z.e) (subst (λ (e : ℤ). (2 * w.m - 1) * (2 * w.m - 1) * under c e < 4 * over a e) same w.above_lower) z.below_upper)
      (at_most z.m w.m (under c z.e) (4 * over a z.e) z.above_lower (subst (λ (e : ℤ). 4 * over a e < (2 * w.m + 1) * (2 * w.m + 1) * under c e) same w.below_upper)) in
      same_value f r q false (z.m * up z.e) (down z.e) (down_pos z.e) w.held z.held
      (subst (λ (m : ℕ). HasValue r false (m * up z.e) (down z.e)) same-m (subst (λ (e : ℤ). HasValue r false (w.m * up e) (down e)) same w.value))
      z.value
  | inr either ↦ elim either [ inl h ↦ absurd (not_half f a c r q w z h) | inr h ↦ absurd (not_half f a c q r z w h) ]
]
