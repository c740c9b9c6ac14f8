-- The definition's root is part 2's, for any format: of an s of n smallest values, the number `scaled` is s / 2^(2e), it lies from 2^(2p−2) up and
-- below 2^(2p), `nearest_root` of it is m, and the float that the definition makes is m · 2^e. Formats enter by their precision, their lowest and their
-- largest exponent alone. Assumes nothing.
use mathlib.Core.Path.{ap, ◌≡◌, refl, sym, ◌∙◌, subst}
use mathlib.Core.Logic.{◌⊎◌, inl, inr}
use mathlib.Core.Bool.{true, false, ◌&&◌}
use Prim.Native.Nat.{ℕ, zero, suc, ◌+◌, ◌-◌, ◌*◌, ◌/◌, ◌%◌, ◌^◌, ◌≤◌, ◌<◌}
use native.Mathlib.Nat.{mul-div_cancel, mul_assoc, le_of_eq, le_of_lt, le_trans, lt_of_lt_of_le, lt_of_le_of_lt, mul-le-mul, mul-lt-mul_of_pos_right, mul-le-mul_left, mul-le-mul_right, mul_comm, mul-add, add-mul, add_assoc, add_comm, add_left_comm, mul_left_comm, mul-one, one-mul, le-div_iff_mul-le, div-lt_iff_lt-mul, eq-zero-or-pos, lt_irrefl, lt_of_not-le, eq_of_mul-eq-mul_right, mul_right_comm, mul-suc, mul-pos, zero-lt-suc, lt_of_mul-lt-mul_right}
use native.Mathlib.Decide.{dec_le}
use native.Mathlib.Omega.{arith}
use lib.Arith.{lt_of_le-ne}
use lib.Pow.{pow_pos, pow-lt, pow-add, pow_mono, le_ones, shl_lt}
use lib.IntN.{ℤ, pos, negsuc}
use lib.Dec.{T, eqb, ltb, leb, ltb→lt, leb→le, lit≤}
use lib.Ieee.{Float, nan, inf, fin, binary32, binary64, up, down, Format, prec, emax, low, size, fits}
use lib.Ieee.Digits.{size-lt, size_reaches, size-le, back}
use lib.Ieee.Fits.{two, and_l, and_r, down_pos, odd-fits}
use lib.Ieee.Exact.{odd_sign}
use lib.Ieee.Positive.{num, den, positive}
use Rattle.norm.specs.Root.{isqrt, even_length, scaled, nearest_root, root_units, units_of, root_of}
use Rattle.norm.specs.Part2.{IsRoot, Roots}
use Rattle.norm.proofs.root.Floor.{Bounds, isqrt_bounds}
use Rattle.norm.proofs.root.Units.{from_units, rescaled}

-- ---- m is the nearest whole number

odd_square : (j : ℕ) → (2 * j + 1) * (2 * j + 1) ≡ 4 * (j * j + j) + 1
odd_square j =
    let square : (2 * j + 1) * (2 * j + 1) ≡ 2 * (2 * (j * j)) + 2 * j + (2 * j + 1)
    = simp (mul-add, add-mul, mul_assoc, mul_comm, mul_left_comm, mul-one, one-mul, add_assoc, add_comm, add_left_comm) refl in
    square ∙ omega arith

-- the whole part of twice the root is 2 m, or 2 m − 1
even_case : (N m : ℕ) → 0 < m → Bounds (4 * N) (2 * m) 1 → ((2 * m - 1) * (2 * m - 1) < 4 * N) × (4 * N < (2 * m + 1) * (2 * m + 1))
even_case N m p b = (lt_of_lt_of_le (less (2 * m - 1) (2 * m) (omega arith)) b.0, b.1)
  where
    less : (x y : ℕ) → x < y → x * x < y * y
    less x y h = lt_of_le_of_lt (mul-le-mul_left x (le_of_lt h)) (mul-lt-mul_of_pos_right h (omega arith))

odd_case : (N j : ℕ) → Bounds (4 * N) (2 * j + 1) 1 → ((2 * j + 1) * (2 * j + 1) < 4 * N) × (4 * N < (2 * (j + 1) + 1) * (2 * (j + 1) + 1))
odd_case N j b =
    let more : 2 * j + 1 + 1 ≤ 2 * (j + 1) + 1 = omega arith in
    (lt_of_le-ne b.0 (λ e. let even = sym (odd_square j) ∙ e in omega arith), lt_of_lt_of_le b.1 (mul-le-mul more more))

root_pos : (N : ℕ) → 0 < N → 0 < isqrt (4 * N)
root_pos N p = either (isqrt (4 * N)) (isqrt_bounds (4 * N))
  where
    either : (g : ℕ) → Bounds (4 * N) g 1 → 0 < g
    either zero b = let h : 4 * N < 1 = b.1 in absurd (omega arith)
    either (suc g) b = omega arith

pub nearest : (N : ℕ) → 0 < N → ((2 * nearest_root N - 1) * (2 * nearest_root N - 1) < 4 * N) × (4 * N < (2 * nearest_root N + 1) * (2 * nearest_root N + 1))
nearest N p = either (isqrt (4 * N)) (root_pos N p) (isqrt_bounds (4 * N)) (eq-zero-or-pos (isqrt (4 * N) % 2))
  where
    Words : ℕ → Type 0
    Words m = ((2 * m - 1) * (2 * m - 1) < 4 * N) × (4 * N < (2 * m + 1) * (2 * m + 1))

    either : (g : ℕ) → 0 < g → Bounds (4 * N) g 1 → (g % 2 ≡ 0) ⊎ (0 < g % 2) → Words ((g + 1) / 2)
    either g q b (inl e) =
        let half : g ≡ 2 * ((g + 1) / 2) = omega arith in
        even_case N ((g + 1) / 2) (omega arith) (subst (λ (x : ℕ). Bounds (4 * N) x 1) half b)
    either g q b (inr e) =
        let half : g ≡ 2 * ((g + 1) / 2 - 1) + 1 = omega arith in
        let m : (g + 1) / 2 - 1 + 1 ≡ (g + 1) / 2 = omega arith in
        let low-side : 2 * ((g + 1) / 2 - 1) + 1 ≡ 2 * ((g + 1) / 2) - 1 = omega arith in
        let w = odd_case N ((g + 1) / 2 - 1) (subst (λ (x : ℕ). Bounds (4 * N) x 1) half b) in
        (subst (λ (x : ℕ). x * x < 4 * N) low-side w.0, subst (λ (x : ℕ). 4 * N < (2 * x + 1) * (2 * x + 1)) m w.1)

-- ---- the even length is the length, or one more

digits_some : (n : ℕ) → 0 < n → 0 < size n
digits_some n p = either (size n) (size-lt n)
  where
    either : (z : ℕ) → n < 2 ^ z → 0 < z
    either zero h = let one : n < 1 = h in absurd (omega arith)
    either (suc z) h = omega arith

length_from : (f : Format) (n : ℕ) → size n ≤ even_length f n
length_from f n = omega arith

length_to : (f : Format) (n : ℕ) → even_length f n ≤ size n + 1
length_to f n = omega arith

-- ---- s / 2^(2e) lies where it is to

scaled_bounds : (f : Format) (n : ℕ) → 0 < n → (2 ^ (2 * prec f - 2) ≤ scaled f n) × (scaled f n < 2 ^ (2 * prec f))
scaled_bounds f n p =
    let a : ℕ = even_length f n in
    let q : ℕ = 2 * prec f in
    let some : 0 < size n = digits_some n p in
    let room : q - 2 + a ≤ size n - 1 + q = omega (arith, two f, length_to f n) in
    let top : 2 ^ (size n - 1) ≤ n = size_reaches n (size n - 1) (omega arith) in (
      (le-div_iff_mul-le (pow_pos a)).1
          (le_trans (le_of_eq (sym (pow-add 2 (q - 2) a)))
          (le_trans (pow_mono room) (le_trans (le_of_eq (pow-add 2 (size n - 1) q)) (mul-le-mul_right (2 ^ q) top)))),
      (div-lt_iff_lt-mul (pow_pos a)).1
          (lt_of_lt_of_le (mul-lt-mul_of_pos_right (size-lt n) (pow_pos q))
          (le_trans (le_of_eq (mul_comm (2 ^ size n) (2 ^ q))) (mul-le-mul_left (2 ^ q) (pow_mono (length_from f n))))),
    )

-- ---- s/2^(2e) is that whole number, where s has at most p digits

size_at_most : (p n q j : ℕ) → n ≡ q * 2 ^ j → q < 2 ^ p → size n ≤ p + j
size_at_most p n q j e h = size-le n (p + j) (subst (λ (m : ℕ). m < 2 ^ (p + j)) (sym e) (subst (λ (m : ℕ). q * 2 ^ j < m) (sym (pow-add 2 p j)) (mul-lt-mul_of_pos_right h (pow_pos j))))

-- where n is q · 2^j with q of at most p digits
module _ (f : Format) (n q j : ℕ) (e : n ≡ q * 2 ^ j) (h : q < 2 ^ prec f) where
  spare : ℕ
  spare = j + 2 * prec f - even_length f n

  whole : n * 2 ^ (2 * prec f) ≡ q * 2 ^ spare * 2 ^ even_length f n
  unfolding spare
  whole =
      let places : spare + even_length f n ≡ j + 2 * prec f = omega (arith, two f, size_at_most (prec f) n q j e h, length_to f n) in
      ap (λ (m : ℕ). m * 2 ^ (2 * prec f)) e
      ∙ mul_assoc q (2 ^ j) (2 ^ (2 * prec f))
      ∙ ap (λ (m : ℕ). q * m) (sym (pow-add 2 j (2 * prec f)) ∙ ap (λ (m : ℕ). 2 ^ m) (sym places) ∙ pow-add 2 spare (even_length f n))
      ∙ sym (mul_assoc q (2 ^ spare) (2 ^ even_length f n))

  scaled-is : scaled f n ≡ q * 2 ^ spare
  scaled-is = ap (λ (m : ℕ). m / 2 ^ even_length f n) whole ∙ mul-div_cancel (q * 2 ^ spare) (pow_pos (even_length f n))

  scaled_exact : scaled f n * 2 ^ even_length f n ≡ n * 2 ^ (2 * prec f)
  scaled_exact = ap (λ (m : ℕ). m * 2 ^ even_length f n) scaled-is ∙ sym whole

-- ---- how many of the smallest values a value is

pow_le : (a b : ℕ) → 2 ^ a ≤ 2 ^ b → a ≤ b
pow_le a b h = elim (dec_le a b) [ yes l ↦ l | no g ↦ absurd (lt_irrefl (2 ^ b) (lt_of_lt_of_le (pow-lt (lt_of_not-le g)) h)) ]

-- 2^e is a whole number of smallest values, and a power of two of them, where the format holds a value with that e
whole_power : (f : Format) (e : ℤ) → down e ≤ 2 ^ low f → (j : ℕ) × (up e * 2 ^ low f ≡ 2 ^ j * down e)
whole_power f (pos k) h = (k + low f, sym (pow-add 2 k (low f)) ∙ sym (mul-one (2 ^ (k + low f))))
whole_power f (negsuc k) h =
    let l : suc k ≤ low f = pow_le (suc k) (low f) h in
    (low f - suc k, one-mul (2 ^ low f) ∙ ap (λ (x : ℕ). 2 ^ x) (sym (back (low f) (suc k) l)) ∙ pow-add 2 (low f - suc k) (suc k))

-- what fits says of a value above zero: its digits, its lowest exponent, its largest one
record Held (f : Format) (m : ℕ) (e : ℤ) : Type 0 where
  digits : m < 2 ^ prec f
  lowest : down e ≤ 2 ^ low f
  largest : m * up e < 2 ^ suc (emax f) * down e

held : (f : Format) (m : ℕ) (e : ℤ) → T (fits f (fin false (suc m) e)) → Held f (suc m) e
unfolding fits
held f m e t =
    let odd-too = eqb (suc m % 2) 1 in
    let few = ltb (suc m) (2 ^ prec f) in
    let fine = leb (down e) (2 ^ low f) in
    let most = ltb (suc m * up e) (2 ^ suc (emax f) * down e) in record {
      digits = ltb→lt (suc m) (2 ^ prec f) (and_r odd-too few (and_l (odd-too && few) fine (and_l (odd-too && few && fine) most t)));
      lowest = leb→le (down e) (2 ^ low f) (and_r (odd-too && few) fine (and_l (odd-too && few && fine) most t));
      largest = ltb→lt (suc m * up e) (2 ^ suc (emax f) * down e) (and_r (odd-too && few && fine) most t);
    }

-- ---- the root's exponent, in smallest values

-- the largest exponent is above the precision
wide : (f : Format) → prec f + 1 ≤ emax f
wide binary32 = lit≤ tt
wide binary64 = lit≤ tt

even_sum : (f : Format) (n : ℕ) → (even_length f n + low f) % 2 ≡ 0
even_sum f n = omega arith

-- the definition's x, with e = x − low
abbrev exponent : Format → ℕ → ℕ
exponent f n = (even_length f n + low f) / 2 - prec f

twice_exponent : (f : Format) (n : ℕ) → 0 < n → exponent f n + exponent f n + 2 * prec f ≡ even_length f n + low f
twice_exponent f n p = omega (arith, wide f, digits_some n p, two f)

-- s / 2^(2e) is the number `scaled`
exact : (f : Format) (n : ℕ) → 0 < n → scaled f n * 2 ^ even_length f n ≡ n * 2 ^ (2 * prec f)
    → n * 2 ^ low f ≡ scaled f n * (2 ^ exponent f n * 2 ^ exponent f n)
exact f n p e =
    let x : ℕ = exponent f n in
    eq_of_mul-eq-mul_right (2 ^ (2 * prec f)) (pow_pos (2 * prec f)) (n * 2 ^ low f) (scaled f n * (2 ^ x * 2 ^ x))
    (mul_right_comm n (2 ^ low f) (2 ^ (2 * prec f))
    ∙ ap (λ (m : ℕ). m * 2 ^ low f) (sym e)
    ∙ mul_assoc (scaled f n) (2 ^ even_length f n) (2 ^ low f)
    ∙ ap (λ (m : ℕ). scaled f n * m) (sym (pow-add 2 (even_length f n) (low f)) ∙ ap (λ (m : ℕ). 2 ^ m) (sym (twice_exponent f n p)) ∙ pow-add 2 (x + x) (2 * prec f) ∙ ap (λ (m : ℕ). m * 2 ^ (2 * prec f)) (pow-add 2 x x))
    ∙ sym (mul_assoc (scaled f n) (2 ^ x * 2 ^ x) (2 ^ (2 * prec f))))

-- ---- m has at most p digits

-- a number below 2^(2p) that is a multiple of a power of two by at most p digits leaves room for p zeroes
zeroes_left : (p N q r : ℕ) → N ≡ q * 2 ^ r → q < 2 ^ p → N < 2 ^ (2 * p) → N ≤ (2 ^ p - 1) * 2 ^ p
zeroes_left p N q r e h l = elim (dec_le r p) [
  | yes g ↦ subst (λ (n : ℕ). n ≤ (2 ^ p - 1) * 2 ^ p) (sym e) (mul-le-mul (le_ones p h) (pow_mono g))
  | no g ↦ let part = q * 2 ^ (r - p) in
      let double : 2 * p ≡ p + p = omega arith in
      let is : N ≡ part * 2 ^ p = e ∙ ap (λ (n : ℕ). q * 2 ^ n) (sym (back r p (le_of_lt (lt_of_not-le g)))) ∙ ap (λ (n : ℕ). q * n) (pow-add 2 (r - p) p) ∙ sym (mul_assoc q (2 ^ (r - p)) (2 ^ p)) in
      let few : part < 2 ^ p
      = lt_of_mul-lt-mul_right (2 ^ p)
      (subst (λ (n : ℕ). part * 2 ^ p < n) (ap (λ (n : ℕ). 2 ^ n) double ∙ pow-add 2 p p) (subst (λ (n : ℕ). n < 2 ^ (2 * p)) is l)) in
      subst (λ (n : ℕ). n ≤ (2 ^ p - 1) * 2 ^ p) (sym is) (mul-le-mul_right (2 ^ p) (le_ones p few))
]

-- where the square of 2m − 1 is below four times such a number, m is below 2^p
pub few_digits : (p N m : ℕ) → N ≤ (2 ^ p - 1) * 2 ^ p → (2 * m - 1) * (2 * m - 1) < 4 * N → m < 2 ^ p
few_digits p N m h l = elim (dec_le (2 ^ p) m) [
  | yes g ↦ absurd (lt_irrefl (4 * N) (lt_of_le_of_lt (le_trans (mul-le-mul_left 4 h) (le_trans (below (2 ^ p) (pow_pos p)) (mul-le-mul (odd-le g) (odd-le g)))) l))
  | no g ↦ lt_of_not-le g
]
  where
    odd-le : 2 ^ p ≤ m → 2 * 2 ^ p - 1 ≤ 2 * m - 1
    odd-le g = omega arith

    below : (P : ℕ) → 0 < P → 4 * ((P - 1) * P) ≤ (2 * P - 1) * (2 * P - 1)
    below zero z = absurd (lt_irrefl 0 z)
    below (suc t) z =
        let less : suc t - 1 ≡ t = omega arith in
        let side : 2 * suc t - 1 ≡ 2 * t + 1 = omega arith in
        let square : 4 * (t * suc t) + 1 ≡ (2 * t + 1) * (2 * t + 1) = ap (λ (x : ℕ). 4 * x + 1) (mul-suc t t) ∙ sym (odd_square t) in
        rw (less, side) (omega arith)

-- ---- part 2, whole

module _ (f : Format) (m : ℕ) (e : ℤ) (t : T (fits f (fin false (suc m) e))) where
  n : ℕ
  n = units_of f (suc m) e

  -- s is n smallest values, and n a power of two times its digits
  j : ℕ
  j = (whole_power f e (held f m e t).lowest).0

  in_units : suc m * up e * 2 ^ low f ≡ suc m * 2 ^ j * down e
  unfolding j
  in_units = mul_assoc (suc m) (up e) (2 ^ low f) ∙ ap (λ (k : ℕ). suc m * k) (whole_power f e (held f m e t).lowest).1 ∙ sym (mul_assoc (suc m) (2 ^ j) (down e))

  n_is : n ≡ suc m * 2 ^ j
  unfolding n
  n_is = ap (λ (k : ℕ). k / down e) in_units ∙ mul-div_cancel (suc m * 2 ^ j) (down_pos e)

  n_value : n * down e ≡ suc m * up e * 2 ^ low f
  n_value = ap (λ (k : ℕ). k * down e) n_is ∙ sym in_units

  n_some : 0 < n
  n_some = subst (λ (k : ℕ). 0 < k) (sym n_is) (mul-pos (zero-lt-suc m) (pow_pos j))

  N : ℕ
  N = scaled f n

  r : ℕ
  r = nearest_root N

  x : ℕ
  x = exponent f n

  bounds : (2 ^ (2 * prec f - 2) ≤ N) × (N < 2 ^ (2 * prec f))
  unfolding N
  bounds = scaled_bounds f n n_some

  words : ((2 * r - 1) * (2 * r - 1) < 4 * N) × (4 * N < (2 * r + 1) * (2 * r + 1))
  unfolding r
  words = nearest N (lt_of_lt_of_le (pow_pos (2 * prec f - 2)) bounds.0)

  few : r < 2 ^ prec f
  unfolding N
  few = few_digits (prec f) N r (zeroes_left (prec f) N (suc m) (spare f n (suc m) j n_is (held f m e t).digits) (scaled-is f n (suc m) j n_is (held f m e t).digits) (held f m e t).digits bounds.1) words.0

  -- the root is below the format's largest values
  within : r * 2 ^ x < 2 ^ (low f + suc (emax f))
  unfolding x
  within =
      let L : ℕ = low f in
      let E : ℕ = suc (emax f) in
      let moved : 2 ^ E * down e * 2 ^ L ≡ 2 ^ (L + E) * down e
      = mul_right_comm (2 ^ E) (down e) (2 ^ L) ∙ ap (λ (k : ℕ). k * down e) (mul_comm (2 ^ E) (2 ^ L) ∙ sym (pow-add 2 L E)) in
      let small : n < 2 ^ (L + E)
      = lt_of_mul-lt-mul_right (down e)
      (subst (λ (k : ℕ). k < 2 ^ (L + E) * down e) (sym n_value)
      (subst (λ (k : ℕ). suc m * up e * 2 ^ L < k) moved (mul-lt-mul_of_pos_right (held f m e t).largest (pow_pos L)))) in
      let digits : size n ≤ L + E = size-le n (L + E) small in
      lt_of_lt_of_le (shl_lt (prec f) x few) (pow_mono (omega (arith, twice_exponent f n n_some, length_to f n)))

  root_units_lem : IsRoot f n (2 ^ low f) (root_units f n)
  unfolding root_units N r x
  root_units_lem =
      from_units f n x N r (root_units f n) (exact f n n_some (scaled_exact f n (suc m) j n_is (held f m e t).digits))
      bounds.0 bounds.1 words.0 words.1 (odd_sign (prec f) false r x (low f)) (odd-fits f (prec f) false r x few (le_of_lt few) within)

  positive_root : IsRoot f (suc m * up e) (down e) (root_of f (fin false (suc m) e))
  unfolding root_of n
  positive_root = rescaled f n (2 ^ low f) (suc m * up e) (down e) (root_units f n) (pow_pos (low f)) (down_pos e) n_value root_units_lem

pub roots : (f : Format) → Roots f
unfolding root_of
roots f = record {
  of_positive = positively;
  of_zero = λ sign e. refl;
  of_infinity = refl;
  of_negative = λ m e. refl;
  of_negative_infinity = refl;
  of_nan = refl;
}
  where
    positively : (s : Float) → T (fits f s) → T (positive s) → IsRoot f (num s) (den s) (root_of f s)
    positively nan t p = absurd p
    positively (inf sign) t p = absurd p
    positively (fin true m e) t p = absurd p
    positively (fin false zero e) t p = absurd p
    positively (fin false (suc m) e) t p = positive_root f m e t
