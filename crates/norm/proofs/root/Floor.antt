-- The whole part of a square root: a digit more keeps the bounds, `isqrt` has them, and they fix it. Assumes nothing.
use mathlib.Core.Path.{◌≡◌, sym, ap, ◌∙◌, subst}
use Prim.Native.Nat.{ℕ, zero, suc, ◌+◌, ◌*◌, ◌^◌, ◌≤◌, ◌<◌, zero-le}
use native.Mathlib.Nat.{le_of_eq, le_trans, le_antisymm, lt_of_lt_of_le, lt_irrefl, mul-le-mul, mul-one, zero-add, add_assoc, pow-succ', two-mul, mul-le-mul_left}
use native.Mathlib.Decide.{dec_le}
use native.Mathlib.Omega.{arith}
use lib.Dec.{leb, leb→le, nleb→lt}
use lib.Pow.{pow_pos}
use lib.Ieee.{size}
use lib.Ieee.Digits.{size-lt}
use Rattle.basics.specs.Choice.{pick, pick_ind}
use Rattle.norm.specs.Root.{root_from, isqrt}

-- the root of n is r or above, and below r + d
abbrev pub Bounds : ℕ → ℕ → ℕ → Type 0
Bounds n r d = (r * r ≤ n) × (n < (r + d) * (r + d))

pub halves : (r k : ℕ) → r + 2 ^ suc k ≡ r + 2 ^ k + 2 ^ k
halves r k = ap (λ (x : ℕ). r + x) (pow-succ' 2 k ∙ two-mul (2 ^ k)) ∙ sym (add_assoc r (2 ^ k) (2 ^ k))

pub digit_yes : (n r k : ℕ) → Bounds n r (2 ^ suc k) → (r + 2 ^ k) * (r + 2 ^ k) ≤ n → Bounds n (r + 2 ^ k) (2 ^ k)
digit_yes n r k b h = (h, subst (λ (x : ℕ). n < x * x) (halves r k) b.1)

pub digit_no : (n r k : ℕ) → Bounds n r (2 ^ suc k) → n < (r + 2 ^ k) * (r + 2 ^ k) → Bounds n r (2 ^ k)
digit_no n r k b h = (b.0, h)

root_bounds : (k n r : ℕ) → Bounds n r (2 ^ k) → Bounds n (root_from k n r) 1
unfolding root_from
root_bounds zero n r b = b
root_bounds (suc k) n r b =
    let t : ℕ = r + 2 ^ k in
    root_bounds k n (pick (leb (t * t) n) t r)
    (pick_ind (λ (x : ℕ). Bounds n x (2 ^ k)) (leb (t * t) n) (λ y. digit_yes n r k b (leb→le (t * t) n y)) (λ y. digit_no n r k b (nleb→lt (t * t) n y)))

pub below_square : (n w : ℕ) → 0 < w → n < w → n < (0 + w) * (0 + w)
below_square n w p h = subst (λ (x : ℕ). n < x * x) (sym (zero-add w)) (lt_of_lt_of_le h (le_trans (le_of_eq (sym (mul-one w))) (mul-le-mul_left w p)))

pub isqrt_bounds : (n : ℕ) → Bounds n (isqrt n) 1
unfolding isqrt
isqrt_bounds n = root_bounds (size n) n 0 (zero-le, below_square n (2 ^ size n) (pow_pos (size n)) (size-lt n))

-- of two numbers with the bounds neither is above the other
not_above : (n r s : ℕ) → Bounds n r 1 → Bounds n s 1 → r ≤ s
not_above n r s b c = elim (dec_le r s) [
  | yes h ↦ h
  | no f ↦ let next : s + 1 ≤ r = omega arith in absurd (lt_irrefl n (lt_of_lt_of_le c.1 (le_trans (mul-le-mul next next) b.0)))
]

pub floor_is : (n r : ℕ) → Bounds n r 1 → r ≡ isqrt n
floor_is n r b = le_antisymm (not_above n r (isqrt n) b (isqrt_bounds n)) (not_above n (isqrt n) r (isqrt_bounds n) b)
