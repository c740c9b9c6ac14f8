-- The entry node is taken in where nothing was seen. Assumes nothing.
use Rattle.std.proofs.Common.{arith}
use lib.Ieee.{of_bits}
use Rattle.def_walk.proofs.beam.Distances.{far_fits}
use Rattle.distance.specs.Vectors.{vectors_of}
use Rattle.beam_search.specs.Inside.Search.{far_of, live_of}
use Rattle.beam_search.proofs.Ending.{started}
use Rattle.beam_search.proofs.Reads.start.Goals as goal

pub take_in-requires : goal.take_in-requires
take_in-requires c = omega (arith, c.begin-count.auto.words, c.prepare.auto.words, c.requires)

pub returns : goal.returns
unfolding of_bits
returns c =
    let a = c.args in
    let clear = c.prepare in
    let begin = c.begin-count in
    let take = c.take_in in
    started a.self.now.sizes (far_of a.self.now) (live_of a.self.now) begin.result clear.new.words begin.new.words a.floats.now a.answer.now
    (record { words = take.new.words; floats = take.new.floats; answer = take.new.answer; walk = take.result })
    (far_fits a.self.now.scorer.query.now (vectors_of a.self.now.scorer.vectors)) (omega (arith, clear.auto.words, c.requires)) clear.ensures begin.ensures take.ensures.pushed take.ensures.marks
