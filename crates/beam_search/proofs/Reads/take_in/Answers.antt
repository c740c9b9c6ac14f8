-- The fresh nodes are scored, then pushed. Assumes nothing.
use Rattle.beam_search.specs.Inside.Search.{far_of}
use Rattle.beam_search.proofs.Taking.{taking_in}
use Rattle.beam_search.proofs.Reads.take_in.Goals as goal

pub returns-clause-pushed : goal.returns-clause-pushed
returns-clause-pushed c =
    let a = c.args in
    let push = c.push_all in
    let score = c.score in
    taking_in a.self.now.sizes (far_of a.self.now) a.self.now.withdrawn.now a.count c.min-many.result
    (record { words = a.words.now; floats = a.floats.now; answer = a.answer.now; walk = a.walk })
    (record { words = push.new.words; floats = score.new.floats; answer = push.new.answer; walk = push.result })
    c.min-many.ensures c.requires score.ensures score.auto.floats push.ensures.pushed
