-- Each turn adds one product to each sum. The residual or the planes end first.
use mathlib.Core.Path.{◌≡◌, refl, sym, ap₂, subst, ◌∙◌}
use mathlib.Core.List.{List, []}
use Prim.Native.Nat.{ℕ, ◌+◌, ◌/◌, ◌<◌}
use native.Mathlib.Decide.{dec_le}
use native.Mathlib.Omega.{arith}
use lib.ListN.{length, get_or}
use lib.Ieee.{Float, nan, binary32, add, mul, of_bits}
use Rattle.std.proofs.lemmas.List.{get_or-replicate, length_push}
use Rattle.std.proofs.lemmas.List.FromFn.{fill_by_all}
use Rattle.std.proofs.lemmas.Slice.Zip.{zip_turn, zip_end}
use Rattle.basics.specs.Sum.{+zero}
use Rattle.simd.specs.Inside.Eight.{row_in}
use Rattle.simd.proofs.Left.{left_end, left_end_row}
use Rattle.simd.proofs.Lanes.{length_lane, columns, length-columns, column_step}
use Rattle.simhash.specs.Inside.Blocks.{sum_in}
use Rattle.simhash.proofs.Sums.{Left}
use Rattle.simhash.proofs.block_sums.Goals as goal

pub loop-x-init : goal.loop-x-init
unfolding of_bits
loop-x-init c = (refl, λ (j : ℕ) (h : j < 8). subst (λ (s : Float). Left c.args.r.now c.args.block.now j s 0) (sym (get_or-replicate 8 j +zero nan h)) refl)

pub loop-x-preserved : goal.loop-x-preserved
loop-x-preserved c =
    let r = c.args.r.now in
    let b = c.args.block.now in
    let l = c.loop-x in
    let i : ℕ = length l.yielded in
    let turn = zip_turn r (columns b) l.yielded c.into_iter-x-iterator.result l.x-iterator c.next.new.self c.next.result (cc) (cc) l.yielded_by _ c.in-Some.is c.next.ensures.steps in (
      c.add_column.array_long,
      λ (j : ℕ) (h : j < 8).
          let new : get_or c.add_column.new.sums j nan ≡ add binary32 (get_or l.sums j nan) (mul binary32 (get_or r i nan) (get_or (get_or (columns b) i []) j nan)) =
          c.add_column.ensures j h ∙ ap₂ (λ (x : Float) (column : List Float). add binary32 (get_or l.sums j nan) (mul binary32 x (get_or column j nan))) (turn.2 nan) (turn.3 []) in
          subst (λ (k : ℕ). Left r b j (get_or c.add_column.new.sums j nan) k) (sym (length_push l.yielded _))
          (subst (λ (s : Float). Left r b j s (i + 1)) (sym new) (column_step r b j (get_or l.sums j nan) i turn.0 (omega (arith, turn.1, length-columns b)) (l.invariant.1 j h) h)),
    )

pub returns : goal.returns
returns c =
    let r = c.args.r.now in
    let b = c.args.block.now in
    let l = c.loop-x in
    let end = zip_end r (columns b) l.yielded c.into_iter-x-iterator.result l.x-iterator c.next.new.self c.next.result (cc) (cc) l.yielded_by c.in-None.is c.next.ensures.steps in
    fill_by_all (sum_in r b) l.sums 8 nan l.invariant.0 (λ (j : ℕ) (h : j < 8). elim (dec_le (length r) (length b / 8)) [
      | yes p ↦ left_end r (row_in b j) _ (length l.yielded) (omega (arith, end, length-columns b)) (l.invariant.1 j h)
      | no p ↦ left_end_row r (row_in b j) _ (length l.yielded) (omega (arith, end, length-columns b, length_lane b j (length b / 8))) (l.invariant.1 j h)
    ])
