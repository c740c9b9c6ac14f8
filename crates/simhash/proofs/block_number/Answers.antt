-- Each return is a case of the definition. A plane below `bits` times a dimension, both of 32 bits, does not wrap, nor with a component added.
-- Assumes nothing.
use mathlib.Core.Path.{◌≡◌, sym, ◌∙◌}
use Prim.Native.Nat.{ℕ, ◌+◌, ◌*◌, ◌/◌, ◌%◌, ◌^◌, ◌≤◌, ◌<◌}
use native.Mathlib.Nat.{div-le_self, mod-lt, mul-le-mul}
use native.Mathlib.Omega.{arith}
use lib.ListN.{get_or}
use lib.Ieee.{of_bits}
use Rattle.std.proofs.Common.{rules}
use Rattle.basics.specs.Sum.{+zero}
use Rattle.simhash.specs.Inside.Blocks.{plane_at}
use Rattle.simhash.proofs.Blocks.{no_dimension, past_planes, in_planes}
use Rattle.simhash.proofs.block_number.Goals as goal

-- a place of the planes fits a word
place : (plane d bits : ℕ) → plane < bits → bits < 2 ^ 32 → d < 2 ^ 32 → plane * d ≤ 4294967294 * 4294967295
place plane d bits h b l =
    let x : plane ≤ 4294967294 = omega arith in
    let y : d ≤ 4294967295 = omega arith in
    mul-le-mul x y

pub returns-then-dimension-eq0 : goal.returns-then-dimension-eq0
unfolding of_bits
returns-then-dimension-eq0 c = let a = c.args in sym (no_dimension a.planes.now a.dimension a.bits a.k c.if-dimension-eq0.true)

pub returns-then-plane-bits : goal.returns-then-plane-bits
unfolding of_bits
returns-then-plane-bits c = let a = c.args in sym (past_planes a.planes.now a.dimension a.bits a.k c.if-plane-bits.true)

pub overflow_mul-at : goal.overflow_mul-at
overflow_mul-at c =
    let a = c.args in
    omega (arith, place (plane_at a.dimension a.k) a.dimension a.bits c.if-plane-bits.false (omega arith) (omega arith))

pub overflow_add-at : goal.overflow_add-at
overflow_add-at c =
    let a = c.args in
    omega
    (arith, place (plane_at a.dimension a.k) a.dimension a.bits c.if-plane-bits.false (omega arith) (omega arith), mod-lt (a.k / 8) {m = a.dimension} (omega arith))

pub returns : goal.returns
unfolding of_bits
returns c =
    let a = c.args in
    let read : c.unwrap_or.result ≡ get_or a.planes.now (plane_at a.dimension a.k * a.dimension + a.k / 8 % a.dimension) +zero = search rules in
    read ∙ sym (in_planes a.planes.now a.dimension a.bits a.k (omega arith) c.if-plane-bits.false)

pub overflow_mul-plane : goal.overflow_mul-plane
overflow_mul-plane c = let a = c.args in omega (arith, div-le_self (a.k / 8) a.dimension)

pub overflow_add-plane : goal.overflow_add-plane
overflow_add-plane c = let a = c.args in omega (arith, div-le_self (a.k / 8) a.dimension)
