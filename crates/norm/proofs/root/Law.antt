-- What `root_bits` computes is the root, at binary32: the pattern that it writes has the value that part 2 asks for, and `Roots` leaves one such
-- value (`only_root`). Assumes nothing.
use mathlib.Core.Path.{◌≡◌, refl, sym, ap, ◌∙◌, subst}
use mathlib.Core.Bool.{false}
use Prim.Native.Nat.{ℕ, zero, suc, ◌+◌, ◌-◌, ◌*◌, ◌/◌, ◌%◌, ◌^◌, ◌≤◌, ◌<◌}
use native.Mathlib.Nat.{le_trans, lt_of_lt_of_le, lt_of_le_of_lt, lt_irrefl, lt_of_not-le, mul-le-mul, mul-one, mul_assoc, mul-le-mul_right, mod-eq_of_lt}
use native.Mathlib.Decide.{dec_le}
use native.Mathlib.Omega.{arith}
use borrow.Author.Tests.{eq-eqb, ne_eqb, lt-leb}
use lib.Dec.{leb}
use lib.Pow.{pow_pos, pow-add}
use lib.Ieee.{Float, binary32, odd, of_fields, of_bits}
use lib.Ieee.Bits.{of_bits-fits}
use lib.Ieee.Exact.{HasValue, odd_sign}
use lib.Ieee.Positive.{num, den, den_pos, value→cross, positive_of_value}
use Rattle.basics.specs.Choice.{pick_true, pick_false}
use Rattle.norm.specs.Root.{isqrt, nearest_root, root_of, pattern_units}
use Rattle.norm.specs.Part2.{IsRoot}
use Rattle.norm.proofs.root.Floor.{Bounds, isqrt_bounds}
use Rattle.norm.proofs.root.Units.{from_units, rescaled}
use Rattle.norm.proofs.root.Words.{nearest, few_digits, roots}
use Rattle.norm.proofs.root.Unique.{only_root}

-- ---- what a pattern stands for

of_bits_is : (b : ℕ) → of_bits binary32 b ≡ of_fields binary32 (leb (2 ^ 31) b) (b % 2 ^ 31 / 2 ^ 23) (b % 2 ^ 23)
unfolding of_bits
of_bits_is b = refl

no_sign : (b : ℕ) → b < 0x7f80_0000 → of_bits binary32 b ≡ of_fields binary32 false (b / 2 ^ 23) (b % 2 ^ 23)
no_sign b h = let under : b < 2 ^ 31 = omega arith in of_bits_is b ∙ rw (lt-leb (2 ^ 31) b under, mod-eq_of_lt under)

field_is : (x t : ℕ) → suc x < 255 → of_fields binary32 false (suc x) t ≡ odd 24 false (2 ^ 23 + t) x 149
unfolding of_fields
field_is x t h = rw (ne_eqb (suc x) 255 (λ e. omega arith))

pub normal_is : (b : ℕ) → 2 ^ 23 ≤ b → b < 0x7f80_0000 → of_bits binary32 b ≡ odd 24 false (2 ^ 23 + b % 2 ^ 23) (b / 2 ^ 23 - 1) 149
normal_is b l h =
    let pred : b / 2 ^ 23 ≡ suc (b / 2 ^ 23 - 1) = omega arith in
    no_sign b h ∙ ap (λ (x : ℕ). of_fields binary32 false x (b % 2 ^ 23)) pred ∙ field_is (b / 2 ^ 23 - 1) (b % 2 ^ 23) (omega arith)

sub_is : (b : ℕ) → b < 2 ^ 23 → of_bits binary32 b ≡ odd 24 false (b % 2 ^ 23) 0 149
unfolding of_fields
sub_is b h =
    let none : b / 2 ^ 23 ≡ 0 = omega arith in
    no_sign b (omega arith) ∙ ap (λ (x : ℕ). of_fields binary32 false x (b % 2 ^ 23)) none

-- how many units a pattern is, where its exponent's field is 0 and where it is not
pub units-low : (b : ℕ) → b / 2 ^ 23 ≡ 0 → pattern_units b ≡ b % 2 ^ 23
unfolding pattern_units
units-low b e = pick_true (b % 2 ^ 23) _ (eq-eqb (b / 2 ^ 23) 0 e)

pub units_normal : (b : ℕ) → (b / 2 ^ 23 ≡ 0 → ⊥) → pattern_units b ≡ (2 ^ 23 + b % 2 ^ 23) * 2 ^ (b / 2 ^ 23 - 1)
unfolding pattern_units
units_normal b e = pick_false (b % 2 ^ 23) _ (ne_eqb (b / 2 ^ 23) 0 e)

-- the value of a pattern, in units of the smallest value
pub pattern_value : (b : ℕ) → b < 0x7f80_0000 → HasValue (of_bits binary32 b) false (pattern_units b) (2 ^ 149)
pattern_value b h = elim (dec_le (2 ^ 23) b) [
  | yes l ↦ rw (normal_is b l h, units_normal b (λ e. omega arith)) (odd_sign 24 false (2 ^ 23 + b % 2 ^ 23) (b / 2 ^ 23 - 1) 149)
  | no f ↦
      let t = b % 2 ^ 23 in
      rw (sub_is b (lt_of_not-le f), units-low b (omega arith))
      (subst (λ (n : ℕ). HasValue (odd 24 false t 0 149) false n (2 ^ 149)) (mul-one t) (odd_sign 24 false t 0 149))
]

-- ---- the root has 24 digits

pub N-bounds : (q j : ℕ) → 2 ^ 23 ≤ q → q < 2 ^ 24 → j ≤ 1 → (2 ^ 46 ≤ q * 2 ^ (24 - j)) × (q * 2 ^ (24 - j) ≤ (2 ^ 24 - 1) * 2 ^ 24)
N-bounds q zero l h p = (omega arith, omega arith)
N-bounds q (suc zero) l h p = (omega arith, omega arith)
N-bounds q (suc (suc j)) l h p = absurd (omega arith)

root_ge : (n g : ℕ) → 2 ^ 48 ≤ n → Bounds n g 1 → 2 ^ 24 ≤ g
root_ge n g h b = elim (dec_le (2 ^ 24) g) [
  | yes l ↦ l
  | no f ↦
      let next : g + 1 ≤ 2 ^ 24 = omega arith in
      absurd (lt_irrefl n (lt_of_lt_of_le b.1 (le_trans (mul-le-mul next next) h)))
]

pub m_bounds : (N : ℕ) → 2 ^ 46 ≤ N → N ≤ (2 ^ 24 - 1) * 2 ^ 24 → (2 ^ 23 ≤ nearest_root N) × (nearest_root N < 2 ^ 24)
m_bounds N l h =
    let twice = root_ge (4 * N) (isqrt (4 * N)) (omega arith) (isqrt_bounds (4 * N)) in
    (omega arith, few_digits 24 N (nearest_root N) h (nearest N (omega arith)).0)

-- ---- the pattern that is written

written : (x m : ℕ) → 2 ^ 23 ≤ m → m < 2 ^ 24 → x < 254 → of_bits binary32 (x * 2 ^ 23 + m) ≡ odd 24 false m x 149
written x m l h p =
    let digits : 2 ^ 23 + (x * 2 ^ 23 + m) % 2 ^ 23 ≡ m = omega arith in
    let place : (x * 2 ^ 23 + m) / 2 ^ 23 - 1 ≡ x = omega arith in
    normal_is (x * 2 ^ 23 + m) (omega arith) (omega arith) ∙ (λ i. odd 24 false (digits i) (place i) 149)

-- ---- that pattern's value is part 2's root, and there is one root

-- n is how many smallest values the pattern b stands for, n · 2^23 = q · 2^k; part 2's number is q · 2^(24 − k % 2), and its e is x − 149
exact : (n q k : ℕ) → q * 2 ^ k ≡ n * 2 ^ 23 → n * 2 ^ 149 ≡ q * 2 ^ (24 - k % 2) * (2 ^ ((k + 1) / 2 + 51) * 2 ^ ((k + 1) / 2 + 51))
exact n q k e =
    let x : ℕ = (k + 1) / 2 + 51 in
    let sum : k + 126 ≡ 24 - k % 2 + (x + x) = omega arith in
    sym (mul_assoc n (2 ^ 23) (2 ^ 126))
    ∙ ap (λ (m : ℕ). m * 2 ^ 126) (sym e)
    ∙ mul_assoc q (2 ^ k) (2 ^ 126)
    ∙ ap (λ (m : ℕ). q * m)
    (sym (pow-add 2 k 126) ∙ ap (λ (m : ℕ). 2 ^ m) sum ∙ pow-add 2 (24 - k % 2) (x + x) ∙ ap (λ (m : ℕ). 2 ^ (24 - k % 2) * m) (pow-add 2 x x))
    ∙ sym (mul_assoc q (2 ^ (24 - k % 2)) (2 ^ x * 2 ^ x))

pub root_law : (b q k : ℕ) → b < 0x7f80_0000 → q * 2 ^ k ≡ pattern_units b * 2 ^ 23 → 2 ^ 23 ≤ q → q < 2 ^ 24 → k ≤ 276
    → of_bits binary32 (((k + 1) / 2 + 51) * 2 ^ 23 + nearest_root (q * 2 ^ (24 - k % 2))) ≡ root_of binary32 (of_bits binary32 b)
root_law b q k h e l u p =
    let s : Float = of_bits binary32 b in
    let n : ℕ = pattern_units b in
    let N : ℕ = q * 2 ^ (24 - k % 2) in
    let m : ℕ = nearest_root N in
    let x : ℕ = (k + 1) / 2 + 51 in
    let r : Float = of_bits binary32 (x * 2 ^ 23 + m) in
    let some : 0 < n = omega (arith, pow_pos k, mul-le-mul_right (2 ^ k) l) in
    let digits : (2 ^ 46 ≤ N) × (N ≤ (2 ^ 24 - 1) * 2 ^ 24) = N-bounds q (k % 2) l u (omega arith) in
    let words : ((2 * m - 1) * (2 * m - 1) < 4 * N) × (4 * N < (2 * m + 1) * (2 * m + 1)) = nearest N (lt_of_lt_of_le (pow_pos 46) digits.0) in
    let w = m_bounds N digits.0 digits.1 in
    let value : HasValue r false (m * 2 ^ x) (2 ^ 149) = rw (written x m w.0 w.1 (omega arith)) (odd_sign 24 false m x 149) in
    let in_units : IsRoot binary32 n (2 ^ 149) r
    = from_units binary32 n x N m r (exact n q k e) digits.0 (lt_of_le_of_lt digits.1 (omega arith)) words.0 words.1 value
    (of_bits-fits binary32 (x * 2 ^ 23 + m)) in
    only_root binary32 (num s) (den s) r (root_of binary32 s)
    (rescaled binary32 n (2 ^ 149) (num s) (den s) r (pow_pos 149) (den_pos s) (sym (value→cross s n (2 ^ 149) (pattern_value b h))) in_units)
    ((roots binary32).of_positive s (of_bits-fits binary32 b) (positive_of_value s n (2 ^ 149) (pattern_value b h) some))
