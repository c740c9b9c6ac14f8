-- The invariant: the root is r or above, and below r + 2^k. The measure is k; at 0 the bounds fix the root. Assumes nothing.
use native.Mathlib.Omega.{arith}
use mathlib.Core.Path.{◌≡◌, sym, subst, ◌∙◌}
use Prim.Native.Nat.{ℕ, suc, ◌+◌, ◌-◌, ◌*◌, ◌%◌, ◌^◌, ◌≤◌, ◌<◌}
use native.Mathlib.Nat.{le_trans, le_of_eq, one-mul, mul-le-mul}
use lib.Dec.{lit<}
use lib.Pow.{shl_exact}
use mir.Syntax.{w64}
use mir.Val.{Fits}
use mir.Facts.{Fits-below}
use Rattle.norm.proofs.root.Floor.{Bounds, halves, digit_yes, digit_no, floor_is}
use Rattle.norm.proofs.root.whole_root.Invariants.{J}
use Rattle.norm.proofs.root.whole_root.Goals as goal

suc_pred : (k : ℕ) → 0 < k → k ≡ suc (k - 1)
suc_pred k h = omega arith

shifted : (k : ℕ) → 0 < k → k ≤ 25 → 1 * 2 ^ (k - 1) % 2 ^ 64 ≡ 2 ^ (k - 1)
shifted k h l = shl_exact {a = 1} 1 (k - 1) 64 (lit< tt) (omega arith) ∙ one-mul (2 ^ (k - 1))

-- what the invariant says of the digit k - 1
next : (n r k : ℕ) → 0 < k → J n r k → J n r (suc (k - 1))
next n r k h j = subst (λ (x : ℕ). J n r x) (suc_pred k h) j

fits_next : (n r k : ℕ) → 0 < k → J n r k → r + 2 ^ (k - 1) + 2 ^ (k - 1) ≤ 2 ^ 25
fits_next n r k h j = le_trans (le_of_eq (sym (halves r (k - 1)))) (next n r k h j).1

fits_t : (n r k : ℕ) → 0 < k → J n r k → r + 2 ^ (k - 1) ≤ 2 ^ 25
fits_t n r k h j = omega (arith, fits_next n r k h j)

take : (n r k : ℕ) → 0 < k → J n r k → (r + 2 ^ (k - 1)) * (r + 2 ^ (k - 1)) ≤ n → J n (r + 2 ^ (k - 1)) (k - 1)
take n r k h j y = (omega arith, fits_next n r k h j, digit_yes n r (k - 1) (next n r k h j).2 y)

leave : (n r k : ℕ) → 0 < k → J n r k → n < (r + 2 ^ (k - 1)) * (r + 2 ^ (k - 1)) → J n r (k - 1)
leave n r k h j y = (omega arith, fits_t n r k h j, digit_no n r (k - 1) (next n r k h j).2 y)

pub overflow_add-t : goal.overflow_add-t
overflow_add-t c =
    let l = c.loop-k in
    let n = c.args.n in
    subst (λ (x : ℕ). Fits w64 (l.r + x)) (sym (shifted l.k c.loop-k-test.true l.invariant.0)) (Fits-below tt (fits_t n l.r l.k c.loop-k-test.true l.invariant))

pub overflow_mul-t : goal.overflow_mul-t
overflow_mul-t c =
    let l = c.loop-k in
    let n = c.args.n in
    let h = fits_t n l.r l.k c.loop-k-test.true l.invariant in
    subst (λ (x : ℕ). Fits w64 ((l.r + x) * (l.r + x))) (sym (shifted l.k c.loop-k-test.true l.invariant.0)) (Fits-below {n = 2 ^ 25 * 2 ^ 25} tt (mul-le-mul h h))

pub loop-k-preserved-then-t-n : goal.loop-k-preserved-then-t-n
loop-k-preserved-then-t-n c =
    let l = c.loop-k in
    let n = c.args.n in
    let e = shifted l.k c.loop-k-test.true l.invariant.0 in
    subst (λ (x : ℕ). J n (l.r + x) (l.k - 1)) (sym e) (take n l.r l.k c.loop-k-test.true l.invariant (subst (λ (x : ℕ). (l.r + x) * (l.r + x) ≤ n) e c.if-t-n.true))

pub loop-k-preserved : goal.loop-k-preserved
loop-k-preserved c =
    let l = c.loop-k in
    let n = c.args.n in
    let e = shifted l.k c.loop-k-test.true l.invariant.0 in
    leave n l.r l.k c.loop-k-test.true l.invariant (subst (λ (x : ℕ). n < (l.r + x) * (l.r + x)) e c.if-t-n.false)

pub returns : goal.returns
returns c =
    let l = c.loop-k in
    let n = c.args.n in
    let z : l.k ≡ 0 = omega arith in
    floor_is n l.r (subst (λ (k : ℕ). Bounds n l.r (2 ^ k)) z l.invariant.2)
