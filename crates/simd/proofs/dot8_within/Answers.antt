-- Each turn adds four products to each sum, or one.
use mathlib.Core.Path.{◌≡◌, refl, sym, subst}
use mathlib.Core.List.{List}
use Prim.Native.Nat.{ℕ, ◌+◌, ◌*◌, ◌≤◌, ◌<◌}
use native.Mathlib.Omega.{arith}
use lib.ListN.{get_or}
use lib.Ieee.{Float, nan, binary32, of_bits}
use denote.Ref.{Bor}
use Rattle.std.specs.List.{slice_range}
use Rattle.basics.specs.Sum.{+zero, sum_from, products}
use Rattle.std.proofs.lemmas.List.{get_or-replicate}
use Rattle.simd.specs.Dot.{dot_of}
use Rattle.simd.specs.Inside.Eight.{none}
use Rattle.simd.proofs.Left.{Left, left_start, left_part, left_end}
use Rattle.simd.proofs.Eight.{numbers_of}
use Rattle.simd.proofs.dot8_within.Goals as goal

-- what one call makes of what is left of a row's sum
part : (q r : List Float) (s t : Float) (i e : ℕ) → i ≤ e → Left q r s i → t ≡ sum_from binary32 s (products binary32 (slice_range q i e) (slice_range r i e)) → Left q r t e
part q r s t i e h l is = subst (λ (x : Float). Left q r x e) (sym is) (left_part q r s i e h l)

pub loop-k-preserved : goal.loop-k-preserved
loop-k-preserved c =
    let x = c.args in
    let l = c.loop-k in (
      c.add_part.array_long,
      λ (j : ℕ) (h : j < 8).
          let r = (get_or x.rows j none).now in
          let at : 4 * l.k + 4 ≡ 4 * (l.k + 1) = omega arith in
          subst (λ (e : ℕ). Left x.q.now r (get_or c.add_part.new.sums j nan) e) at
          (part x.q.now r (get_or l.sums j nan) _ (4 * l.k) (4 * l.k + 4) (omega arith) (l.invariant.1 j h) (c.add_part.ensures j h)),
    )

pub loop-i-init : goal.loop-i-init
loop-i-init c =
    let x = c.args in
    let l = c.loop-k in
    (l.invariant.0, λ (j : ℕ) (h : j < 8). subst (Left x.q.now (get_or x.rows j none).now (get_or l.sums j nan)) (omega arith) (l.invariant.1 j h))

pub loop-i-preserved : goal.loop-i-preserved
loop-i-preserved c =
    let x = c.args in
    let l = c.loop-i in (
      c.add_part-in-loop-i.array_long,
      λ (j : ℕ) (h : j < 8).
          part x.q.now (get_or x.rows j none).now (get_or l.sums j nan) _ l.i (l.i + 1) (omega arith) (l.invariant.1 j h) (c.add_part-in-loop-i.ensures j h),
    )

pub returns : goal.returns
returns c =
    let x = c.args in
    let l = c.loop-i in
    numbers_of (λ (r : Bor (List Float)). dot_of binary32 x.q.now r.now) x.rows l.sums (omega (arith, c.well_formed)) l.invariant.0
    (λ (j : ℕ) (h : j < 8). left_end x.q.now (get_or x.rows j none).now _ l.i (omega arith) (l.invariant.1 j h))

pub loop-k-init : goal.loop-k-init
unfolding of_bits
loop-k-init c = (refl, λ (j : ℕ) (h : j < 8). subst (λ (s : Float). Left c.args.q.now (get_or c.args.rows j none).now s 0) (sym (get_or-replicate 8 j +zero nan h)) (left_start c.args.q.now (get_or c.args.rows j none).now))
