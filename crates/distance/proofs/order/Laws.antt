-- The laws of the order and its key, for the values of any format: the keys' order is the distances' order (`before_key`), only equal values
-- have equal keys (`key_injective`), a key determines its value (`value_key`), and a key of an f32 fits 32 bits (`key_below`). A key is the sign's
-- weight plus the pattern of the size, or what is left of the weight below it, so that both follow from the sizes' order. Assumes nothing.
use mathlib.Core.Path.{◌≡◌, refl, sym, ap, ◌∙◌, subst}
use mathlib.Core.Bool.{Bool, true, false, not, cond}
use Prim.Native.Nat.{ℕ, ◌+◌, ◌-◌, ◌*◌, ◌^◌, ◌≤◌, ◌<◌}
use native.Mathlib.Nat.{le_refl, le_of_eq, le_of_lt, lt_of_lt_of_le, zero-add}
use native.Mathlib.Decide.{dec_lt}
use native.Mathlib.Omega.{arith}
use borrow.Author.Tests.{lt-ltb, le-ltb, le-leb, lt-leb}
use lib.Dec.{T, leb, ltb}
use lib.Ieee.{Float, nan, inf, fin, Format, binary32, top, is_nan, fits, of_bits}
use lib.Ieee.Bits.{of_bits-to_bits, is_false}
use Rattle.basics.specs.Choice.{pick, pick_true, pick_false}
use Rattle.distance.specs.Order.{ahead, before, key_of, value_of}
use Rattle.distance.proofs.order.Sizes.{sign, mag, bits_are, mag_lt, mag_ne, less, sizes}

-- ---- the key of a number

-- the key by the sign and the pattern without it; w is the sign's weight
abbrev key_at : ℕ → Bool → ℕ → ℕ
key_at w true g = w - 1 - g
key_at w false g = w + g

signed : (w g : ℕ) → g < w → (s : Bool) → pick (leb w (cond s w 0 + g)) (2 * w - 1 - (cond s w 0 + g)) (w + (cond s w 0 + g)) ≡ key_at w s g
signed w g l true = pick_true _ _ (le-leb w (w + g) (omega arith)) ∙ omega arith
signed w g l false = rw (zero-add g) (pick_false _ _ (lt-leb w g l))

key_is : (f : Format) (x : Float) → T (fits f x) → T (not (is_nan x)) → key_of f x ≡ key_at (top f) (sign x) (mag f x)
unfolding key_of
key_is f x h t =
    pick_false _ _ (is_false (is_nan x) t)
    ∙ ap (λ (n : ℕ). pick (leb (top f) n) (2 * top f - 1 - n) (top f + n)) (bits_are f x t)
    ∙ signed (top f) (mag f x) (mag_lt f x h t) (sign x)

pub key_nan : (f : Format) → key_of f nan ≡ 2 * top f - 1
unfolding key_of is_nan pick
key_nan f = refl

-- a number's key is below all ones
key_under : (f : Format) (x : Float) → T (fits f x) → T (not (is_nan x)) → key_of f x < 2 * top f - 1
key_under f x h t = subst (λ (n : ℕ). n < 2 * top f - 1) (sym (key_is f x h t)) (under (top f) (mag f x) (mag_lt f x h t) (mag_ne f x h t) (sign x))
  where
    under : (w g : ℕ) → g < w → (g ≡ w - 1 → ⊥) → (s : Bool) → key_at w s g < 2 * w - 1
    under w g l n true = omega arith
    under w g l n false = omega arith

-- ---- the order

-- two tests that say the same
same_test : (a b c d : ℕ) → (c < d → a < b) → (d ≤ c → b ≤ a) → ltb a b ≡ ltb c d
same_test a b c d p q = elim (dec_lt c d) [
  | yes l ↦ lt-ltb a b (p l) ∙ sym (lt-ltb c d l)
  | no l ↦ let m : d ≤ c = omega arith in le-ltb a b (q m) ∙ sym (le-ltb c d m)
]

key_order : (w g h : ℕ) → g < w → h < w → (s t : Bool) → ltb (key_at w s g) (key_at w t h) ≡ ahead s g t h
key_order w g h a b false false = same_test (w + g) (w + h) g h (λ p. omega arith) (λ p. omega arith)
key_order w g h a b false true = le-ltb (w + g) (w - 1 - h) (omega arith)
key_order w g h a b true false = lt-ltb (w - 1 - g) (w + h) (omega arith)
key_order w g h a b true true = same_test (w - 1 - g) (w - 1 - h) h g (λ p. omega arith) (λ p. omega arith)

-- `before` by the signs and the sizes' order
abbrev by_signs : Bool → Bool → Bool → Bool → Bool
by_signs false false l r = l
by_signs false true l r = false
by_signs true false l r = true
by_signs true true l r = r

before-is : (x y : Float) → T (not (is_nan x)) → T (not (is_nan y)) → before x y ≡ by_signs (sign x) (sign y) (less x y) (less y x)
unfolding before is_nan
before-is nan y t u = absurd t
before-is (inf s) nan t u = absurd u
before-is (inf false) (inf false) t u = refl
before-is (inf false) (inf true) t u = refl
before-is (inf true) (inf false) t u = refl
before-is (inf true) (inf true) t u = refl
before-is (inf false) (fin false n d) t u = refl
before-is (inf false) (fin true n d) t u = refl
before-is (inf true) (fin false n d) t u = refl
before-is (inf true) (fin true n d) t u = refl
before-is (fin s m e) nan t u = absurd u
before-is (fin false m e) (inf false) t u = refl
before-is (fin false m e) (inf true) t u = refl
before-is (fin true m e) (inf false) t u = refl
before-is (fin true m e) (inf true) t u = refl
before-is (fin false m e) (fin false n d) t u = refl
before-is (fin false m e) (fin true n d) t u = refl
before-is (fin true m e) (fin false n d) t u = refl
before-is (fin true m e) (fin true n d) t u = refl

ahead-is : (s t l r : Bool) (g h : ℕ) → l ≡ ltb g h → r ≡ ltb h g → by_signs s t l r ≡ ahead s g t h
ahead-is false false l r g h a b = a
ahead-is false true l r g h a b = refl
ahead-is true false l r g h a b = refl
ahead-is true true l r g h a b = b

numbers : (f : Format) (x y : Float) → T (fits f x) → T (fits f y) → T (not (is_nan x)) → T (not (is_nan y)) → before x y ≡ ltb (key_of f x) (key_of f y)
numbers f x y h k t u =
    before-is x y t u
    ∙ ahead-is (sign x) (sign y) (less x y) (less y x) (mag f x) (mag f y) (sizes f x y h k t u) (sizes f y x k h u t)
    ∙ sym (key_order (top f) (mag f x) (mag f y) (mag_lt f x h t) (mag_lt f y k u) (sign x) (sign y))
    ∙ sym (λ i. ltb (key_is f x h t i) (key_is f y k u i))

-- no key is above a NaN's, and a number's is below it
before-nan : (f : Format) (x : Float) → T (fits f x) → T (not (is_nan x)) → key_of f x < key_of f nan
before-nan f x h t = lt_of_lt_of_le (key_under f x h t) (le_of_eq (sym (key_nan f)))

past_nan : (f : Format) (y : Float) → T (fits f y) → key_of f y ≤ key_of f nan
unfolding is_nan
past_nan f nan h = le_refl (key_of f nan)
past_nan f (inf s) h = le_of_lt (before-nan f (inf s) h tt)
past_nan f (fin s m e) h = le_of_lt (before-nan f (fin s m e) h tt)

-- the keys' order is the distances' order
pub before_key : (f : Format) (x y : Float) → T (fits f x) → T (fits f y) → before x y ≡ ltb (key_of f x) (key_of f y)
unfolding before is_nan
before_key f nan y h k = sym (le-ltb (key_of f nan) (key_of f y) (past_nan f y k))
before_key f (inf s) nan h k = sym (lt-ltb (key_of f (inf s)) (key_of f nan) (before-nan f (inf s) h tt))
before_key f (fin s m e) nan h k = sym (lt-ltb (key_of f (fin s m e)) (key_of f nan) (before-nan f (fin s m e) h tt))
before_key f (inf s) (inf t) h k = numbers f (inf s) (inf t) h k tt tt
before_key f (inf s) (fin t n d) h k = numbers f (inf s) (fin t n d) h k tt tt
before_key f (fin s m e) (inf t) h k = numbers f (fin s m e) (inf t) h k tt tt
before_key f (fin s m e) (fin t n d) h k = numbers f (fin s m e) (fin t n d) h k tt tt

-- ---- equal keys, and how large a key is

-- equal keys have equal patterns
same_bits : (w g h : ℕ) → g < w → h < w → (s t : Bool) → key_at w s g ≡ key_at w t h → cond s w 0 + g ≡ cond t w 0 + h
same_bits w g h a b false false e = omega arith
same_bits w g h a b false true e = absurd (omega arith)
same_bits w g h a b true false e = absurd (omega arith)
same_bits w g h a b true true e = omega arith

same_numbers : (f : Format) (x y : Float) → T (fits f x) → T (fits f y) → T (not (is_nan x)) → T (not (is_nan y)) → key_of f x ≡ key_of f y → x ≡ y
same_numbers f x y h k t u e =
    sym (of_bits-to_bits f x h)
    ∙ ap (of_bits f)
    (bits_are f x t
    ∙ same_bits (top f) (mag f x) (mag f y) (mag_lt f x h t) (mag_lt f y k u) (sign x) (sign y) (sym (key_is f x h t) ∙ e ∙ key_is f y k u)
    ∙ sym (bits_are f y u))
    ∙ of_bits-to_bits f y k

apart : (a b : ℕ) → a < b → a ≡ b → ⊥
apart a b l e = omega arith

-- values with equal keys are equal
pub key_injective : (f : Format) (x y : Float) → T (fits f x) → T (fits f y) → key_of f x ≡ key_of f y → x ≡ y
unfolding is_nan
key_injective f nan nan h k e = refl
key_injective f nan (inf t) h k e = absurd (apart _ _ (before-nan f (inf t) k tt) (sym e))
key_injective f nan (fin t n d) h k e = absurd (apart _ _ (before-nan f (fin t n d) k tt) (sym e))
key_injective f (inf s) nan h k e = absurd (apart _ _ (before-nan f (inf s) h tt) e)
key_injective f (fin s m c) nan h k e = absurd (apart _ _ (before-nan f (fin s m c) h tt) e)
key_injective f (inf s) (inf t) h k e = same_numbers f (inf s) (inf t) h k tt tt e
key_injective f (inf s) (fin t n d) h k e = same_numbers f (inf s) (fin t n d) h k tt tt e
key_injective f (fin s m c) (inf t) h k e = same_numbers f (fin s m c) (inf t) h k tt tt e
key_injective f (fin s m c) (fin t n d) h k e = same_numbers f (fin s m c) (fin t n d) h k tt tt e

-- a key of an f32 fits 32 bits
pub key_below : (x : Float) → T (fits binary32 x) → key_of binary32 x < 2 ^ 32
key_below x h = let p = past_nan binary32 x h in omega (arith, key_nan binary32)

-- ---- the value of a key

turned_back_lem : (w g : ℕ) → g < w → (s : Bool) → pick (leb w (key_at w s g)) (key_at w s g - w) (2 * w - 1 - key_at w s g) ≡ cond s w 0 + g
turned_back_lem w g l true = pick_false _ _ (lt-leb w (w - 1 - g) (omega arith)) ∙ omega arith
turned_back_lem w g l false = pick_true _ _ (le-leb w (w + g) (omega arith)) ∙ omega arith

value_number : (f : Format) (x : Float) → T (fits f x) → T (not (is_nan x)) → value_of f (key_of f x) ≡ x
unfolding value_of
value_number f x h t =
    ap (λ (k : ℕ). of_bits f (pick (leb (top f) k) (k - top f) (2 * top f - 1 - k))) (key_is f x h t)
    ∙ ap (of_bits f) (turned_back_lem (top f) (mag f x) (mag_lt f x h t) (sign x) ∙ sym (bits_are f x t))
    ∙ of_bits-to_bits f x h

-- the largest pattern is one of the NaN's
pattern_nan : of_bits binary32 0x7fff_ffff ≡ nan
unfolding of_bits
pattern_nan = refl

value_nan : value_of binary32 (key_of binary32 nan) ≡ nan
unfolding value_of pick
value_nan = ap (λ (k : ℕ). of_bits binary32 (pick (leb (top binary32) k) (k - top binary32) (2 * top binary32 - 1 - k))) (key_nan binary32) ∙ pattern_nan

-- a key determines the f32 that has it
pub value_key : (x : Float) → T (fits binary32 x) → value_of binary32 (key_of binary32 x) ≡ x
unfolding is_nan
value_key nan h = value_nan
value_key (inf s) h = value_number binary32 (inf s) h tt
value_key (fin s m e) h = value_number binary32 (fin s m e) h tt
