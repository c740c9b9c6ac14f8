-- Which values the tests `s > 0` and `s < 0` leave, and which patterns they have. Assumes nothing.
use mathlib.Core.Path.{◌≡◌, refl, sym, ap, ◌∙◌, subst}
use mathlib.Core.Bool.{Bool, true, false, not, cond}
use Prim.Native.Nat.{ℕ, zero, suc, ◌+◌, ◌*◌, ◌/◌, ◌%◌, ◌^◌, ◌≤◌, ◌<◌}
use native.Mathlib.Nat.{lt_of_not-le, mul-pos, zero-lt-suc}
use native.Mathlib.Decide.{dec_le}
use native.Mathlib.Omega.{arith}
use borrow.Author.Tests.{le-leb, lt-leb, ltb-true, ltb-false}
use lib.Dec.{T, eqb}
use lib.IntN.{ℤ, pos}
use lib.Ieee.{Float, nan, inf, fin, up, down, binary32, lt, is_nan, fits, odd, of_fields, of_bits, to_bits}
use lib.Ieee.Fits.{up_pos}
use lib.Ieee.Bits.{of_bits-to_bits}
use Rattle.norm.specs.Root.{root_of}

abbrev pub zero+ : Float
zero+ = fin false 0 (pos 0)

pub zero_is : of_bits binary32 0 ≡ zero+
unfolding of_bits
zero_is = refl

pub real : (x : Float) → lt zero+ x ≡ true → T (not (is_nan x))
unfolding lt is_nan
real nan h = absurd (subst T (sym h) tt)
real (inf s) h = tt
real (fin s m e) h = tt

-- m * 2 ^ e is above zero, and 0 * 2 ^ e is not
some : (m : ℕ) (e : ℤ) → 0 < suc m * up e * 1
some m e = mul-pos (mul-pos (zero-lt-suc m) (up_pos e)) (zero-lt-suc 0)

-- ---- below zero there is no root

pub negative : (x : Float) → lt x zero+ ≡ true → nan ≡ root_of binary32 x
unfolding lt root_of
negative nan h = refl
negative (inf true) h = refl
negative (inf false) h = absurd (subst T (sym h) tt)
negative (fin true zero e) h = absurd (omega (arith, ltb-true 0 (0 * up e * 1 + 0 * down e) h))
negative (fin false zero e) h = absurd (omega (arith, ltb-true (0 * up e * 1) (0 * down e) h))
negative (fin true (suc m) e) h = refl
negative (fin false (suc m) e) h = absurd (omega (arith, ltb-true (suc m * up e * 1) (0 * down e) h))

-- ---- neither above nor below: a NaN or a zero, its own root

pub neither : (x : Float) → lt zero+ x ≡ false → lt x zero+ ≡ false → x ≡ root_of binary32 x
unfolding lt root_of
neither nan h k = refl
neither (inf true) h k = absurd (subst T k tt)
neither (inf false) h k = refl
neither (fin s zero e) h k = refl
neither (fin true (suc m) e) h k = absurd (omega (arith, some m e, ltb-false 0 (suc m * up e * 1 + 0 * down e) k))
neither (fin false (suc m) e) h k = absurd (omega (arith, some m e, ltb-false (0 * down e) (suc m * up e * 1) h))

-- ---- a pattern with a sign stands for nothing above zero

odd-not : (d t k l : ℕ) → lt zero+ (odd d true t k l) ≡ false
unfolding lt odd
odd-not d zero k l = refl
odd-not d (suc t) k l = refl

fields_not : (x t : ℕ) → lt zero+ (of_fields binary32 true x t) ≡ false
unfolding of_fields lt
fields_not zero t = odd-not 24 t 0 149
fields_not (suc x) t = either (eqb (suc x) 255) (eqb t 0)
  where
    either : (a b : Bool) → lt zero+ (cond a (cond b (inf true) nan) (odd 24 true (2 ^ 23 + t) x 149)) ≡ false
    either true true = refl
    either true false = refl
    either false b = odd-not 24 (2 ^ 23 + t) x 149

signed_not : (b : ℕ) → 2 ^ 31 ≤ b → lt zero+ (of_bits binary32 b) ≡ false
unfolding of_bits
signed_not b h = rw (le-leb (2 ^ 31) b h) (fields_not (b % 2 ^ 31 / 2 ^ 23) (b % 2 ^ 23))

-- ---- from the infinity's pattern up
pub top-is : (b : ℕ) → 0x7f80_0000 ≤ b → lt zero+ (of_bits binary32 b) ≡ true → of_bits binary32 b ≡ inf false
unfolding of_bits of_fields lt
top-is b h p = elim (dec_le (2 ^ 31) b) [
  | yes l ↦ absurd (subst T (sym p ∙ signed_not b l) tt)
  | no f ↦ is (lt_of_not-le f) ∙ last (eqb (b % 2 ^ 23) 0) (ap (λ (x : Float). lt zero+ x) (sym (is (lt_of_not-le f))) ∙ p)
]
  where
    last : (t : Bool) → lt zero+ (cond t (inf false) nan) ≡ true → cond t (inf false) nan ≡ inf false
    last true q = refl
    last false q = absurd (subst T (sym q) tt)

    is : b < 2 ^ 31 → of_bits binary32 b ≡ cond (eqb (b % 2 ^ 23) 0) (inf false) nan
    is l = let field : b % 2 ^ 31 / 2 ^ 23 ≡ 255 = omega arith in rw (lt-leb (2 ^ 31) b l, field)

-- ---- of a value above zero that the format holds

module _ (x : Float) (h : T (fits binary32 x)) (p : lt zero+ x ≡ true) where
  abbrev back : of_bits binary32 (to_bits binary32 x) ≡ x
  back = of_bits-to_bits binary32 x h

  pub infinite : 0x7f80_0000 ≤ to_bits binary32 x → x ≡ root_of binary32 x
  unfolding root_of
  infinite l = let e : x ≡ inf false = sym back ∙ top-is (to_bits binary32 x) l (ap (lt zero+) back ∙ p) in rw e

  pub bits_pos : 0 < to_bits binary32 x
  unfolding lt
  bits_pos = either (to_bits binary32 x) refl
    where
      either : (b : ℕ) → to_bits binary32 x ≡ b → 0 < b
      either zero e = absurd (subst T (sym p ∙ ap (lt zero+) (sym back ∙ ap (of_bits binary32) e ∙ zero_is)) tt)
      either (suc b) e = zero-lt-suc b
