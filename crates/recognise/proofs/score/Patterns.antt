-- What `score_bits` computes is the score, at binary32: how many units a pattern is, against the 2^149 of 1. Assumes nothing.
use mathlib.Core.Path.{◌≡◌, sym, ap, ◌∙◌, subst}
use mathlib.Core.Bool.{true, false}
use mathlib.Core.Logic.{inl, inr}
use Prim.Native.Nat.{ℕ, ◌+◌, ◌-◌, ◌*◌, ◌/◌, ◌%◌, ◌^◌, ◌≤◌, ◌<◌}
use native.Mathlib.Nat.{le_of_lt, le_trans, lt_of_not-le, mul-le-mul, mul-le-mul_left, mul-pos, mod-lt, eq-zero-or-pos}
use native.Mathlib.Decide.{dec_le}
use native.Mathlib.Omega.{arith}
use lib.Dec.{T, lit≤}
use lib.Pow.{pow_pos, pow-add, pow_mono}
use lib.Ieee.{Float, binary32, lt, fits, of_bits, to_bits}
use lib.Ieee.Bits.{of_bits-to_bits}
use lib.Ieee.Exact.{HasValue}
use Rattle.norm.specs.Root.{pattern_units}
use Rattle.norm.proofs.root.Law.{pattern_value, units-low, units_normal}
use Rattle.norm.proofs.root.Signs.{zero+, top-is}
use Rattle.recognise.specs.Score.{score_of}
use Rattle.recognise.proofs.score.Laws.{score_inside, score_near, score_far, score_infinite, shortened}

-- ---- how many units a pattern is

some_field : (b : ℕ) → 0 < b / 2 ^ 23 → b / 2 ^ 23 ≡ 0 → ⊥
some_field b h e = omega arith

units-pos : (b : ℕ) → 0 < b → 0 < pattern_units b
units-pos b p = elim (eq-zero-or-pos (b / 2 ^ 23)) [
  | inl e ↦ (let low : 0 < b % 2 ^ 23 = omega arith in rw (units-low b e) low)
  | inr l ↦ (let more : 0 < 2 ^ 23 + b % 2 ^ 23 = omega arith in rw (units_normal b (some_field b l)) (mul-pos more (pow_pos (b / 2 ^ 23 - 1))))
]

-- below the pattern of 1/128
units_small : (b : ℕ) → b < 0x3c00_0000 → pattern_units b ≤ 2 ^ 142
units_small b h = elim (eq-zero-or-pos (b / 2 ^ 23)) [
  | inl e ↦ rw (units-low b e) (le_trans (le_of_lt (mod-lt b (pow_pos 23))) (pow_mono {i = 23} {j = 142} (lit≤ tt)))
  | inr l ↦
      let up_to : b / 2 ^ 23 - 1 ≤ 118 = omega arith in
      let digits : 2 ^ 23 + b % 2 ^ 23 ≤ 2 ^ 24 = omega arith in
      rw (units_normal b (some_field b l)) (le_trans (mul-le-mul {n₁ = 2 ^ 23 + b % 2 ^ 23} digits (pow_mono up_to)) (lit≤ tt))
]

-- from the pattern of 1 on
units_large : (b : ℕ) → 0x3f80_0000 ≤ b → 2 ^ 149 ≤ pattern_units b
units_large b h =
    let field : 0 < b / 2 ^ 23 = omega arith in
    let more : 2 ^ 23 ≤ 2 ^ 23 + b % 2 ^ 23 = omega arith in
    let far : 126 ≤ b / 2 ^ 23 - 1 = omega arith in
    rw (units_normal b (some_field b field)) (mul-le-mul {n₁ = 2 ^ 23} more (pow_mono {i = 126} far))

-- ---- the score of a pattern

pub near_pattern : (b : ℕ) → 0 < b → b < 0x3c00_0000 → score_of (of_bits binary32 b) ≡ 99
near_pattern b p h =
    score_near (of_bits binary32 b) (pattern_units b) (2 ^ 149) (units-pos b p) (le_trans (mul-le-mul_left 100 (units_small b h)) (lit≤ tt)) (pattern_value b (omega arith))

-- from 1/128 up to 1: q / 2^s
pub inside_pattern : (b : ℕ) → 0x3c00_0000 ≤ b → b < 0x3f80_0000
    → score_of (of_bits binary32 b) ≡ 99 - (100 * (2 ^ 23 + b % 2 ^ 23) - 1) / 2 ^ (150 - b / 2 ^ 23)
inside_pattern b l h =
    let field : 0 < b / 2 ^ 23 = omega arith in
    let some : 0 < 2 ^ 23 + b % 2 ^ 23 = omega arith in
    let digits : 2 ^ 23 + b % 2 ^ 23 ≤ 2 ^ 24 = omega arith in
    let far : 24 ≤ 150 - b / 2 ^ 23 = omega arith in
    let together : 149 ≡ (150 - b / 2 ^ 23) + (b / 2 ^ 23 - 1) = omega arith in
    let of_pattern = pattern_value b (omega arith) in
    let q : ℕ = 2 ^ 23 + b % 2 ^ 23 in
    let s : ℕ = 150 - b / 2 ^ 23 in
    let k : ℕ = b / 2 ^ 23 - 1 in
    let value : HasValue (of_bits binary32 b) false (q * 2 ^ k) (2 ^ s * 2 ^ k) =
    subst (λ (w : ℕ). HasValue (of_bits binary32 b) false (q * 2 ^ k) w) (ap (λ (n : ℕ). 2 ^ n) together ∙ pow-add 2 s k)
    (subst (λ (u : ℕ). HasValue (of_bits binary32 b) false u (2 ^ 149)) (units_normal b (some_field b field)) of_pattern) in
    score_inside (of_bits binary32 b) q (2 ^ s) some (le_trans digits (pow_mono {i = 24} {j = s} far))
    (shortened (of_bits binary32 b) q (2 ^ s) (2 ^ k) (pow_pos k) value)

-- a value above zero whose pattern is that of 1 or further on
pub far_pattern : (x : Float) → T (fits binary32 x) → lt zero+ x ≡ true → 0x3f80_0000 ≤ to_bits binary32 x → score_of x ≡ 0
far_pattern x h p l =
    let b : ℕ = to_bits binary32 x in
    let back : of_bits binary32 b ≡ x = of_bits-to_bits binary32 x h in
    elim (dec_le 0x7f80_0000 b) [
      | yes t ↦ score_infinite x (sym back ∙ top-is b t (ap (lt zero+) back ∙ p))
      | no f ↦ ap score_of (sym back) ∙ score_far (of_bits binary32 b) (pattern_units b) (2 ^ 149) (pow_pos 149) (units_large b l)
          (pattern_value b (lt_of_not-le f))
    ]
