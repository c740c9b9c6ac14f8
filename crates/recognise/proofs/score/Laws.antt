-- The score of a value that is known as a fraction, whatever its format: that fraction's score, and from 1 up none, at zero and below all.
-- Assumes nothing.
use mathlib.Core.Path.{◌≡◌, refl, sym, ap, ◌∙◌, subst}
use mathlib.Core.Bool.{true, false}
use Prim.Native.Nat.{ℕ, ◌+◌, ◌-◌, ◌*◌, ◌/◌, ◌%◌, ◌≤◌, ◌<◌, min}
use native.Mathlib.Nat.{mul_comm, mul_assoc, mul_left_comm, mul_right_comm, mul-sub, mul-le-mul_right, mul-div_cancel, eq_of_mul-eq-mul_right, div-add-mod', mod-lt, div-lt_iff_lt-mul, le-div_iff_mul-le, div-le_of_le-mul, zero-div, div-eq_of_lt}
use native.Mathlib.Omega.{arith}
use borrow.Author.Tests.{ltb-false}
use lib.Arith.{digits_div}
use lib.Dec.{T}
use lib.IntN.{pos}
use lib.Ieee.{Float, nan, inf, fin, up, down, lt, is_nan}
use lib.Ieee.Exact.{HasValue}
use lib.Ieee.Fits.{down_pos}
use lib.Ieee.Nearest.{div_same}
use Rattle.basics.specs.Choice.{pick}
use Rattle.recognise.specs.Score.{score_of}

min-under : (a b : ℕ) → b ≤ a → min a b ≡ b
min-under a b h = omega arith

-- (100 w − a) / w is at most 100
capped : (a w : ℕ) → 0 < w → (100 * w - a) / w ≤ 100
capped a w p = div-le_of_le-mul w (omega arith)

cross : (D M w u : ℕ) → M * w ≡ u * D → (100 * D - 100 * M) * w ≡ (100 * w - 100 * u) * D
cross D M w u e =
    mul_comm (100 * D - 100 * M) w ∙ mul-sub w (100 * D) (100 * M)
    ∙ (λ i. swap w D i - (turn w M ∙ ap (λ (n : ℕ). 100 * n) e ∙ sym (turn D u)) i)
    ∙ sym (mul_comm (100 * w - 100 * u) D ∙ mul-sub D (100 * w) (100 * u))
  where
    turn : (w M : ℕ) → w * (100 * M) ≡ 100 * (M * w)
    turn w M = mul_left_comm w 100 M ∙ ap (λ (n : ℕ). 100 * n) (mul_comm w M)

    swap : (w D : ℕ) → w * (100 * D) ≡ D * (100 * w)
    swap w D = turn w D ∙ sym (mul_left_comm D 100 w)

-- the score by any fraction u / w that the value equals
pub score_at : (x : Float) (u w : ℕ) → 0 < w → HasValue x false u w → score_of x ≡ (100 * w - 100 * u) / w
unfolding score_of pick
score_at nan u w p v = absurd v
score_at (inf s) u w p v = absurd v
score_at (fin s m e) u w p v =
    rw v.0
    (min-under 100 _ (capped (100 * (m * up e)) (down e) (down_pos e))
    ∙ div_same (100 * down e - 100 * (m * up e)) (down e) (100 * w - 100 * u) w (down_pos e) p (cross (down e) (m * up e) w u v.1))

-- a fraction may be shortened
pub shortened : (x : Float) (u w z : ℕ) → 0 < z → HasValue x false (u * z) (w * z) → HasValue x false u w
shortened nan u w z p v = v
shortened (inf s) u w z p v = v
shortened (fin s m e) u w z p v = (v.0, eq_of_mul-eq-mul_right z p (m * up e * w) (u * down e) (mul_assoc (m * up e) w z ∙ v.1 ∙ mul_right_comm u z (down e)))

-- (100 w − a) / w is 99 − (a − 1) / w, for 0 < a ≤ 100 w
ceil : (a w : ℕ) → 0 < w → 0 < a → a ≤ 100 * w → (100 * w - a) / w ≡ 99 - (a - 1) / w
ceil a w p h l =
    ap (λ (n : ℕ). n / w)
    (parts a w (g * w) ((a - 1) % w) ((99 - g) * w) h (sym (div-add-mod' (a - 1) w)) (mod-lt (a - 1) p) (mul-le-mul_right w small)
    (mul_comm (99 - g) w ∙ mul-sub w 99 g ∙ (λ i. mul_comm w 99 i - mul_comm w g i)))
    ∙ digits_div (99 - g) (rest w ((a - 1) % w) p)
  where
    g : ℕ
    g = (a - 1) / w

    less : (a w : ℕ) → 0 < a → a ≤ 100 * w → a - 1 < 100 * w
    less a w h l = omega arith

    small : g ≤ 99
    small = let k = (div-lt_iff_lt-mul p).1 (less a w h l) in omega arith

    rest : (w r : ℕ) → 0 < w → w - 1 - r < w
    rest w r p = omega arith

    parts : (a w P r Q : ℕ) → 0 < a → a - 1 ≡ P + r → r < w → P ≤ 99 * w → Q ≡ 99 * w - P → 100 * w - a ≡ Q + (w - 1 - r)
    parts a w P r Q h e k l f = omega arith

-- above 0 and up to 1, rounded up and taken from 99
pub score_inside : (x : Float) (u w : ℕ) → 0 < u → u ≤ w → HasValue x false u w → score_of x ≡ 99 - (100 * u - 1) / w
score_inside x u w h l v = score_at x u w (omega arith) v ∙ ceil (100 * u) w (omega arith) (omega arith) (omega arith)

-- below a hundredth
pub score_near : (x : Float) (u w : ℕ) → 0 < u → 100 * u ≤ w → HasValue x false u w → score_of x ≡ 99
score_near x u w h l v = score_inside x u w h (omega arith) v ∙ ap (λ (n : ℕ). 99 - n) (div-eq_of_lt (omega arith))

-- from 1 up
pub score_far : (x : Float) (u w : ℕ) → 0 < w → w ≤ u → HasValue x false u w → score_of x ≡ 0
score_far x u w p l v = let gone : 100 * w - 100 * u ≡ 0 = omega arith in score_at x u w p v ∙ ap (λ (n : ℕ). n / w) gone ∙ zero-div w

-- not above zero, and a number
pub score_whole : (x : Float) → lt (fin false 0 (pos 0)) x ≡ false → is_nan x ≡ false → score_of x ≡ 100
unfolding lt is_nan score_of pick
score_whole nan h k = absurd (subst T k tt)
score_whole (inf true) h k = refl
score_whole (inf false) h k = absurd (subst T h tt)
score_whole (fin true m e) h k = full ((100 * down e + 100 * (m * up e)) / down e) ((le-div_iff_mul-le (down_pos e)).1 (over (m * up e) (down e)))
  where
    over : (n d : ℕ) → 100 * d ≤ 100 * d + 100 * n
    over n d = omega arith

    full : (r : ℕ) → 100 ≤ r → min 100 r ≡ 100
    full r h = omega arith
score_whole (fin false m e) h k =
    ap (λ (n : ℕ). min 100 (n / down e)) (whole (m * up e) (down e) (ltb-false (0 * down e) (m * up e * 1) h)) ∙ ap (min 100) (mul-div_cancel 100 (down_pos e))
  where
    whole : (n d : ℕ) → n * 1 ≤ 0 * d → 100 * d - 100 * n ≡ 100 * d
    whole n d h = omega arith

pub score_nan : (x : Float) → is_nan x ≡ true → score_of x ≡ 0
unfolding is_nan score_of
score_nan nan e = refl
score_nan (inf s) e = absurd (subst T (sym e) tt)
score_nan (fin s m k) e = absurd (subst T (sym e) tt)

pub score_infinite : (x : Float) → x ≡ inf false → score_of x ≡ 0
unfolding score_of pick
score_infinite x e = rw e
