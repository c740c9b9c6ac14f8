-- `pipnn::put_header` meets its contract: sixteen stores, one after the other, put one list in place of the first sixteen words. Assumes nothing.
use mathlib.Core.Path.{◌≡◌, refl}
use mathlib.Core.Bool.{Bool, true, false}
use Prim.Native.Nat.{ℕ}
use native.Mathlib.Omega.{arith}
use lib.ListN.{length-set}
use lib.Seq.{sets-eq}
use lib.Ieee.{binary64}
use lib.Ieee.Bits.{to_bits-lt}
use mir.Val.{bool_byte}
use Rattle.basics.specs.Choice.{pick}
use Rattle.params.proofs.Laws.{within}
use Rattle.store.specs.View.{empty_header}
use Rattle.pipnn.proofs.Numbers.{at_most_number, finite_number}
use Rattle.pipnn.proofs.put_header.Goals as goal

-- a bool as a word
flag : (b : Bool) → bool_byte b ≡ pick {X = ℕ} b 1 0
unfolding pick
flag true = refl
flag false = refl

pub returns : goal.returns
unfolding empty_header
returns c =
    rw (flag c.args.p.final_prune) (sets-eq (empty_header c.args.dimension c.args.p c.args.capacity) c.args.words.now 0 (omega arith))

pub float_to_bits-fraction : goal.float_to_bits-fraction
float_to_bits-fraction c = at_most_number _ _ (within _ c.requires.p_value).fraction_most

pub bounds-words-1 : goal.bounds-words-1
bounds-words-1 c = simp length-set (omega arith)

pub bounds-words-2 : goal.bounds-words-2
bounds-words-2 c = simp length-set (omega arith)

pub bounds-words-3 : goal.bounds-words-3
bounds-words-3 c = simp length-set (omega arith)

pub bounds-words-4 : goal.bounds-words-4
bounds-words-4 c = simp length-set (omega arith)

pub bounds-words-5 : goal.bounds-words-5
bounds-words-5 c = simp length-set (omega arith)

pub bounds-words-6 : goal.bounds-words-6
bounds-words-6 c = simp length-set (omega arith)

pub bounds-words-7 : goal.bounds-words-7
bounds-words-7 c = simp length-set (omega arith)

pub bounds-words-8 : goal.bounds-words-8
bounds-words-8 c = simp length-set (omega arith)

pub bounds-words-9 : goal.bounds-words-9
bounds-words-9 c = simp length-set (omega arith)

pub bounds-words-10 : goal.bounds-words-10
bounds-words-10 c = simp length-set (omega arith)

pub bounds-words-11 : goal.bounds-words-11
bounds-words-11 c = simp length-set (omega arith)

pub overflow_cast-words-2 : goal.overflow_cast-words-2
overflow_cast-words-2 c = omega (arith, to_bits-lt binary64 _ c.struct_known-2-1.given.1.1.0)

pub bounds-words-12 : goal.bounds-words-12
bounds-words-12 c = simp length-set (omega arith)

pub bounds-words-13 : goal.bounds-words-13
bounds-words-13 c = simp length-set (omega arith)

pub float_to_bits-words : goal.float_to_bits-words
float_to_bits-words c = finite_number _ (within _ c.requires.p_value).alpha_finite

pub bounds-words-14 : goal.bounds-words-14
bounds-words-14 c = simp length-set (omega arith)

pub bounds-words-15 : goal.bounds-words-15
bounds-words-15 c = simp length-set (omega arith)

pub shape_of-words : goal.shape_of-words
shape_of-words c = simp length-set
