-- A pattern with an exponent's field has its 24 digits at once; of any other the digits are shifted until there are 24. Assumes nothing.
use native.Mathlib.Omega.{arith}
use mathlib.Core.Path.{◌≡◌, sym, ap, ◌∙◌}
use Prim.Native.Nat.{ℕ, suc, ◌+◌, ◌-◌, ◌*◌, ◌/◌, ◌%◌, ◌^◌, ◌≤◌, ◌<◌}
use native.Mathlib.Nat.{mul_assoc, lt_irrefl, lt_of_lt_of_le, lt_of_le_of_lt, le_of_eq, le_trans, mod-eq_of_lt, mul-le-mul_right, suc-mul}
use lib.Count.{count_leading_zeros}
use lib.Pow.{pow_pos, pow-add, pow_mono}
use native.Mathlib.Decide.{dec_lt}
use Rattle.std.proofs.lemmas.Nat.{leading_top}
use Rattle.norm.specs.Root.{pattern_units}
use Rattle.norm.proofs.root.Law.{units-low, units_normal}
use Rattle.norm.proofs.root.scale.Goals as goal

-- a * 2 ^ (x + 22) is a * 2 ^ (x - 1) * 2 ^ 23
raised : (a x : ℕ) → 0 < x → a * 2 ^ (x + 22) ≡ a * 2 ^ (x - 1) * 2 ^ 23
raised a x h =
    let split : x + 22 ≡ (x - 1) + 23 = omega arith in
    ap (λ (n : ℕ). a * 2 ^ n) split ∙ ap (λ (n : ℕ). a * n) (pow-add 2 (x - 1) 23) ∙ sym (mul_assoc a (2 ^ (x - 1)) (2 ^ 23))

normal_is : (b : ℕ) → 0 < b / 2 ^ 23 → (2 ^ 23 + b % 2 ^ 23) * 2 ^ (b / 2 ^ 23 + 22) ≡ pattern_units b * 2 ^ 23
normal_is b h = raised (2 ^ 23 + b % 2 ^ 23) (b / 2 ^ 23) h ∙ ap (λ (n : ℕ). n * 2 ^ 23) (sym (units_normal b (λ e. omega arith)))

-- digits d that are fewer than 24, shifted by what is missing
pub record Shifted (d : ℕ) : Type 0 where
  enough : 8 ≤ count_leading_zeros 32 d
  few : count_leading_zeros 32 d - 8 ≤ 23
  same : d * 2 ^ (count_leading_zeros 32 d - 8) % 2 ^ 32 * 2 ^ (23 - (count_leading_zeros 32 d - 8)) ≡ d * 2 ^ 23
  from : 2 ^ 23 ≤ d * 2 ^ (count_leading_zeros 32 d - 8) % 2 ^ 32
  below : d * 2 ^ (count_leading_zeros 32 d - 8) % 2 ^ 32 < 2 ^ 24

shifted : (d : ℕ) → 0 < d → d < 2 ^ 23 → Shifted d
shifted d p h = let t = leading_top 32 d p (omega arith) in by_top t.0 t.1 t.2 t.3
  where
    n : ℕ
    n = count_leading_zeros 32 d - 8

    by_top : (j : ℕ) → count_leading_zeros 32 d + suc j ≡ 32 → 2 ^ j ≤ d → d < 2 ^ suc j → Shifted d
    by_top j e l u =
        let few_digits : j < 23 = below j 23 (lt_of_le_of_lt l h) in
        let up : suc j + n ≡ 24 = omega arith in
        let down : j + n ≡ 23 = omega arith in
        let back : n + (23 - n) ≡ 23 = omega arith in
        let one_more : suc d * 2 ^ n ≤ 2 ^ 24 = le_trans (mul-le-mul_right (2 ^ n) u) (le_of_eq (sym (pow-add 2 (suc j) n) ∙ ap (λ (k : ℕ). 2 ^ k) up)) in
        let most : d * 2 ^ n < 2 ^ 24 = omega (arith, one_more, suc-mul d (2 ^ n), pow_pos n) in
        let least : 2 ^ 23 ≤ d * 2 ^ n = le_trans (le_of_eq (sym (sym (pow-add 2 j n) ∙ ap (λ (k : ℕ). 2 ^ k) down))) (mul-le-mul_right (2 ^ n) l) in
        let whole : d * 2 ^ n % 2 ^ 32 ≡ d * 2 ^ n = mod-eq_of_lt (omega (arith, most)) in
        record {
          enough = omega arith;
          few = omega arith;
          same = ap (λ (k : ℕ). k * 2 ^ (23 - n)) whole ∙ mul_assoc d (2 ^ n) (2 ^ (23 - n)) ∙ ap (λ (k : ℕ). d * k) (sym (pow-add 2 n (23 - n)) ∙ ap (λ (k : ℕ). 2 ^ k) back);
          from = omega (arith, whole, least);
          below = omega (arith, whole, most);
        }
      where
        below : (i k : ℕ) → 2 ^ i < 2 ^ k → i < k
        below i k q = elim (dec_lt i k) [
          | yes t ↦ t
          | no f ↦ absurd (lt_irrefl (2 ^ i) (lt_of_lt_of_le q (pow_mono {i = k} {j = i} (omega arith))))
        ]

pub returns-then-field-gt0 : goal.returns-then-field-gt0
returns-then-field-gt0 c = (normal_is c.args.b c.if-field-gt0.true, omega arith, omega arith, omega arith)

pub overflow_sub-shift : goal.overflow_sub-shift
overflow_sub-shift c = (shifted (c.args.b % 2 ^ 23) (omega arith) (omega arith)).enough

pub returns : goal.returns
returns c =
    let s = shifted (c.args.b % 2 ^ 23) (omega arith) (omega arith) in
    (s.same ∙ ap (λ (n : ℕ). n * 2 ^ 23) (sym (units-low c.args.b (omega arith))), s.from, s.below, omega arith)
