-- `push_all` meets its contract: the first i of the fresh nodes are pushed, and the words up to the fresh nodes stay. Assumes nothing.
use mathlib.Core.Path.{refl}
use Rattle.beam_state.proofs.Pushing.{going_none, going_more, going_all}
use native.Mathlib.Omega.{arith}
use Rattle.beam_state.proofs.Beam.push_all.Goals as goal

pub loop-i-init : goal.loop-i-init
loop-i-init c =
    let a = c.args in
    going_none a.self.size a.self.places a.count c.min-many.result a.self.withdrawn.now _

pub push-now-requires : goal.push-now-requires
push-now-requires c =
    omega (arith, c.loop-i.invariant.words_kept, c.if-words-size.false)

pub loop-i-preserved : goal.loop-i-preserved
loop-i-preserved c =
    let p = c.push-now in
    going_more {m' = record { words = p.new.words; floats = _; answer = p.new.answer; walk = p.result }} c.loop-i.invariant refl c.min-many.ensures
    c.loop-i-test.true (omega (arith, c.if-words-size.false)) p.auto.words p.auto.answer p.ensures.marks
    p.ensures.pushed

pub returns : goal.returns
returns c = let l = c.loop-i in record {
  marks = l.invariant.frame;
  pushed = going_all l.invariant c.min-many.ensures c.loop-i-test.false;
}

pub returns-then-words-size : goal.returns-then-words-size
returns-then-words-size c = record {
  marks = refl;
  pushed = λ long. absurd (omega (arith, c.if-words-size.true));
}

pub overflow_add-node : goal.overflow_add-node
overflow_add-node c = omega (arith, c.if-words-size.false, c.min-many.ensures, c.loop-i-test.true)

pub shape_of-words : goal.shape_of-words
shape_of-words c = c.loop-i.invariant.words_kept

pub shape_of-answer : goal.shape_of-answer
shape_of-answer c = c.loop-i.invariant.answer_kept
