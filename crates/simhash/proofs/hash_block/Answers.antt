-- Each turn puts one bit more into the hash. Assumes nothing.
use native.Mathlib.Omega.{arith}
use native.Mathlib.Nat.{one-mul}
use native.Mathlib.Numerals.{add-one}
use mathlib.Core.Path.{◌≡◌, refl, sym, ap, ◌∙◌}
use mathlib.Core.Bool.{Bool, true, false}
use mathlib.Core.List.{List, map}
use Prim.Native.Nat.{ℕ, ◌+◌, ◌*◌, ◌%◌, ◌^◌, ◌<◌}
use lib.Dec.{lit<}
use lib.Pow.{shl_exact, pow_mono}
use lib.ListN.{get_or}
use lib.Ieee.{Float, nan, le, of_bits}
use Rattle.std.specs.List.{range_with_len}
use Rattle.std.proofs.lemmas.List.FromFn.{get_or-map-range_with_len}
use Rattle.basics.specs.Choice.{pick}
use Rattle.basics.specs.Sum.{+zero}
use Rattle.simhash.specs.Inside.Blocks.{bits_of, sum_in, side_of}
use Rattle.simhash.proofs.Bits.{bits_below}
use Rattle.simhash.proofs.hash_block.Goals as goal
use Rattle.simhash.proofs.hash_block.Goals.{then-sum, else-sum}

shifted : (j : ℕ) → j < 8 → 1 * 2 ^ j % 2 ^ 32 ≡ 2 ^ j
shifted j h = shl_exact {a = 1} 1 j 32 (lit< tt) (omega arith) ∙ one-mul (2 ^ j)

-- the bit of the sum at j
side_at : (r block sums : List Float) (j : ℕ) (b : Bool) → sums ≡ map (sum_in r block) (range_with_len 0 8) → j < 8 → le +zero (get_or sums j nan) ≡ b → side_of r block j ≡ b
side_at r block sums j b e h t =
    ap (le +zero) (sym (ap (λ (l : List Float). get_or l j nan) e ∙ get_or-map-range_with_len (sum_in r block) 0 8 j j nan h (omega arith))) ∙ t

one_more : (f : ℕ → Bool) (j hash v : ℕ) (b : Bool) → hash ≡ bits_of f j → f j ≡ b → v ≡ hash + pick b (2 ^ j) 0 → v ≡ bits_of f (j + 1)
unfolding bits_of
one_more f j hash v b e t s = s ∙ rw (e, add-one j, t)

pub loop-j-init : goal.loop-j-init
unfolding bits_of
loop-j-init c = refl

pub overflow_add-hash : goal.overflow_add-hash
overflow_add-hash c =
    let l = c.loop-j in
    omega (arith, shifted l.j (omega arith), l.invariant, bits_below (side_of c.args.r.now c.args.block.now) l.j, pow_mono {i = l.j} {j = 7} (omega arith))

pub loop-j-preserved : goal.loop-j-preserved
unfolding of_bits pick
loop-j-preserved c =
    let l = c.loop-j in
    let f = side_of c.args.r.now c.args.block.now in
    elim c.if-sum.branch [
      | then-sum w ↦ one_more f l.j l.hash c.if-sum.hash true l.invariant (side_at _ _ c.block_sums-sums.result l.j true c.block_sums-sums.ensures c.loop-j-test.true w.if-sum.true) (w.hash-is ∙ ap (λ (x : ℕ). l.hash + x) (shifted l.j c.loop-j-test.true))
      | else-sum w ↦ one_more f l.j l.hash c.if-sum.hash false l.invariant (side_at _ _ c.block_sums-sums.result l.j false c.block_sums-sums.ensures c.loop-j-test.true w.if-sum.false) (w.hash-is ∙ omega arith)
    ]
