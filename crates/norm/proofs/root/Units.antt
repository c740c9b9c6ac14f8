-- A root in smallest values of the format is part 2's: where s is n of them, n · 2^low = N · 2^(2x), and m is the whole number of part 2 for N,
-- then m · 2^x of them is the root, with e = x − low. Both sides of each comparison are multiplied by the same number, so that no fraction is left.
-- Assumes nothing.
use mathlib.Core.Path.{◌≡◌, refl, sym, ap, ◌∙◌, subst}
use mathlib.Core.Bool.{Bool, false}
use Prim.Native.Nat.{ℕ, ◌+◌, ◌-◌, ◌*◌, ◌^◌, ◌≤◌, ◌<◌}
use native.Mathlib.Nat.{mul_assoc, mul_comm, mul_left_comm, mul_right_comm, one-mul, mul-pos, mul-le-mul_right, mul-lt-mul_of_pos_right, le_of_mul-le-mul_right, lt_of_mul-lt-mul_right, eq_of_mul-eq-mul_right}
use lib.Pow.{pow_pos}
use lib.IntN.{ℤ}
use lib.Dec.{T}
use lib.Ieee.{Float, nan, inf, fin, up, down, minus, Format, prec, low, fits}
use lib.Ieee.Digits.{minus_val}
use lib.Ieee.Fits.{down_pos}
use lib.Ieee.Exact.{HasValue}
use Rattle.norm.specs.Part2.{over, under, IsRoot}

-- the value of a float, by another fraction of the same size
pub revalued : (x : Float) (s : Bool) (a c b d : ℕ) → 0 < c → a * d ≡ b * c → HasValue x s a c → HasValue x s b d
revalued nan s a c b d p h v = v
revalued (inf t) s a c b d p h v = v
revalued (fin t m e) s a c b d p h v = (
  v.0,
  eq_of_mul-eq-mul_right c p (m * up e * d) (b * down e)
      (mul_right_comm (m * up e) d c
      ∙ ap (λ (x : ℕ). x * d) v.1
      ∙ mul_right_comm a (down e) d
      ∙ ap (λ (x : ℕ). x * down e) h
      ∙ mul_right_comm b c (down e)),
)

-- ---- y and z compare as u and v do, where y · k = u · t and z · k = v · t

module _ {y z u v : ℕ} (k t : ℕ) (left : y * k ≡ u * t) (right : z * k ≡ v * t) where
  carried_le : 0 < k → u ≤ v → y ≤ z
  carried_le p h = le_of_mul-le-mul_right (subst (λ (n : ℕ). n ≤ z * k) (sym left) (subst (λ (n : ℕ). u * t ≤ n) (sym right) (mul-le-mul_right t h))) p

  carried_lt : 0 < t → u < v → y < z
  carried_lt p h = lt_of_mul-lt-mul_right k (subst (λ (n : ℕ). n < z * k) (sym left) (subst (λ (n : ℕ). u * t < n) (sym right) (mul-lt-mul_of_pos_right h p)))

-- ---- the root of a fraction is that of every fraction of the same size

pub rescaled : (f : Format) (a c b d : ℕ) (r : Float) → 0 < c → 0 < d → a * d ≡ b * c → IsRoot f a c r → IsRoot f b d r
rescaled f a c b d r cp dp same w =
    let e : ℤ = w.e in
    let m : ℕ = w.m in
    let lower : (A : ℕ) → A * under d e * c ≡ A * under c e * d = λ A. swapped A c d (up e * up e) in
    let upper : over b e * c ≡ over a e * d
    = mul_right_comm b (down e * down e) c ∙ ap (λ (n : ℕ). n * (down e * down e)) (sym same) ∙ mul_right_comm a d (down e * down e) in
    let four : 4 * over b e * c ≡ 4 * over a e * d = mul_assoc 4 (over b e) c ∙ ap (λ (n : ℕ). 4 * n) upper ∙ sym (mul_assoc 4 (over a e) d) in record {
      e = e;
      m = m;
      from = carried_le c d (lower (2 ^ (2 * prec f - 2))) upper cp w.from;
      below = carried_lt c d upper (lower (2 ^ (2 * prec f))) dp w.below;
      above_lower = carried_lt c d (lower ((2 * m - 1) * (2 * m - 1))) four dp w.above_lower;
      below_upper = carried_lt c d four (lower ((2 * m + 1) * (2 * m + 1))) dp w.below_upper;
      value = w.value;
      held = w.held;
    }
  where
    swapped : (A c d u : ℕ) → A * (d * u) * c ≡ A * (c * u) * d
    swapped A c d u = simp (mul_assoc, mul_comm, mul_left_comm) refl

-- ---- from smallest values to part 2

module _ (f : Format) (n x N m : ℕ) (r : Float) (exact : n * 2 ^ low f ≡ N * (2 ^ x * 2 ^ x)) where
  pub from_units : 2 ^ (2 * prec f - 2) ≤ N → N < 2 ^ (2 * prec f) → (2 * m - 1) * (2 * m - 1) < 4 * N → 4 * N < (2 * m + 1) * (2 * m + 1)
      → HasValue r false (m * 2 ^ x) (2 ^ low f) → T (fits f r) → IsRoot f n (2 ^ low f) r
  from_units l h al bu v t =
      let e : ℤ = minus x (low f) in
      let L : ℕ = 2 ^ low f in
      -- what both sides are multiplied by
      let T' : ℕ = 2 ^ x * 2 ^ x * (down e * down e) in
      let positive : 0 < T' = mul-pos (mul-pos (pow_pos x) (pow_pos x)) (mul-pos (down_pos e) (down_pos e)) in
      -- 2^e · 2^low = 2^x
      let power : up e * L ≡ 2 ^ x * down e
      = ap (λ (k : ℕ). k * L) (sym (one-mul (up e))) ∙ minus_val 1 x (low f) ∙ ap (λ (k : ℕ). k * down e) (one-mul (2 ^ x)) in
      let lower : (A : ℕ) → A * under L e * L ≡ A * T'
      = λ A. paired A L (up e) ∙ ap (λ (k : ℕ). A * (k * k)) power ∙ parted A (2 ^ x) (down e) in
      let upper : over n e * L ≡ N * T'
      = mul_right_comm n (down e * down e) L ∙ ap (λ (k : ℕ). k * (down e * down e)) exact ∙ mul_assoc N (2 ^ x * 2 ^ x) (down e * down e) in
      let four : 4 * over n e * L ≡ 4 * N * T' = mul_assoc 4 (over n e) L ∙ ap (λ (k : ℕ). 4 * k) upper ∙ sym (mul_assoc 4 N T') in record {
        e = e;
        m = m;
        from = carried_le L T' (lower (2 ^ (2 * prec f - 2))) upper (pow_pos (low f)) l;
        below = carried_lt L T' upper (lower (2 ^ (2 * prec f))) positive h;
        above_lower = carried_lt L T' (lower ((2 * m - 1) * (2 * m - 1))) four positive al;
        below_upper = carried_lt L T' four (lower ((2 * m + 1) * (2 * m + 1))) positive bu;
        value = revalued r false (m * 2 ^ x) L (m * up e) (down e) (pow_pos (low f)) (sym (minus_val m x (low f))) v;
        held = t;
      }
    where
      paired : (A l u : ℕ) → A * (l * (u * u)) * l ≡ A * (u * l * (u * l))
      paired A l u = simp (mul_assoc, mul_comm, mul_left_comm) refl

      parted : (A p d : ℕ) → A * (p * d * (p * d)) ≡ A * (p * p * (d * d))
      parted A p d = simp (mul_assoc, mul_left_comm) refl
