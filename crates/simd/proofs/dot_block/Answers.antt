-- Each turn adds one product to each sum. The query or the rows end first.
use mathlib.Core.Path.{◌≡◌, refl, sym, ap₂, subst, ◌∙◌}
use mathlib.Core.List.{List, []}
use Prim.Native.Nat.{ℕ, ◌+◌, ◌/◌, ◌<◌}
use native.Mathlib.Decide.{dec_le}
use native.Mathlib.Omega.{arith}
use lib.ListN.{length, get_or}
use lib.Ieee.{Float, nan, binary32, add, mul, of_bits}
use Rattle.std.proofs.lemmas.List.{get_or-replicate, length_push}
use Rattle.std.proofs.lemmas.List.FromFn.{fill_by_all}
use Rattle.std.proofs.lemmas.Slice.Zip.{zip_turn, zip_end}
use Rattle.basics.specs.Sum.{+zero}
use Rattle.simd.specs.Dot.{dot_of}
use Rattle.simd.specs.Inside.Eight.{row_in}
use Rattle.simd.proofs.Left.{Left, left_start, left_end, left_end_row}
use Rattle.simd.proofs.Lanes.{length_lane, columns, length-columns, column_step}
use Rattle.simd.proofs.dot_block.Goals as goal

pub loop-x-init : goal.loop-x-init
unfolding of_bits
loop-x-init c = (refl, λ (j : ℕ) (h : j < 8). subst (λ (s : Float). Left c.args.q.now (row_in c.args.block.now j) s 0) (sym (get_or-replicate 8 j +zero nan h)) (left_start c.args.q.now (row_in c.args.block.now j)))

pub loop-x-preserved : goal.loop-x-preserved
loop-x-preserved c =
    let q = c.args.q.now in
    let b = c.args.block.now in
    let l = c.loop-x in
    let i : ℕ = length l.yielded in
    let turn = zip_turn q (columns b) l.yielded c.into_iter-x-iterator.result l.x-iterator c.next.new.self c.next.result (cc) (cc) l.yielded_by _ c.in-Some.is c.next.ensures.steps in (
      c.add_column.array_long,
      λ (j : ℕ) (h : j < 8).
          let new : get_or c.add_column.new.sums j nan ≡ add binary32 (get_or l.sums j nan) (mul binary32 (get_or q i nan) (get_or (get_or (columns b) i []) j nan)) =
          c.add_column.ensures j h ∙ ap₂ (λ (x : Float) (column : List Float). add binary32 (get_or l.sums j nan) (mul binary32 x (get_or column j nan))) (turn.2 nan) (turn.3 []) in
          subst (λ (k : ℕ). Left q (row_in b j) (get_or c.add_column.new.sums j nan) k) (sym (length_push l.yielded _))
          (subst (λ (s : Float). Left q (row_in b j) s (i + 1)) (sym new) (column_step q b j (get_or l.sums j nan) i turn.0 (omega (arith, turn.1, length-columns b)) (l.invariant.1 j h) h)),
    )

pub returns : goal.returns
returns c =
    let q = c.args.q.now in
    let b = c.args.block.now in
    let l = c.loop-x in
    let end = zip_end q (columns b) l.yielded c.into_iter-x-iterator.result l.x-iterator c.next.new.self c.next.result (cc) (cc) l.yielded_by c.in-None.is c.next.ensures.steps in
    fill_by_all (λ (j : ℕ). dot_of binary32 q (row_in b j)) l.sums 8 nan l.invariant.0 (λ (j : ℕ) (h : j < 8). elim (dec_le (length q) (length b / 8)) [
      | yes p ↦ left_end q (row_in b j) _ (length l.yielded) (omega (arith, end, length-columns b)) (l.invariant.1 j h)
      | no p ↦ left_end_row q (row_in b j) _ (length l.yielded) (omega (arith, end, length-columns b, length_lane b j (length b / 8))) (l.invariant.1 j h)
    ])
