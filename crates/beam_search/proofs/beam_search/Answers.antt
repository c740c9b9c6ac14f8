-- The entry node is taken in, bridges are linked, the walk goes on to its end, and the answer's distances are written. Assumes nothing.
use Rattle.std.proofs.Common.{[], ◌∷◌, length, arith}
use Rattle.beam_search.proofs.Ending.{has_room, no_room, searched}
use Rattle.beam_search.proofs.beam_search.Goals as goal

pub returns-then-words-n : goal.returns-then-words-n
returns-then-words-n c fits =
    let a = c.args in
    absurd
    (no_room (length a.words.now) a.reads.sizes.shape.n (length a.reads.bridges.now) c.if-words-n.true
    (record { scratch = omega (arith, fits.words_room); nodes = fits.few; pairs = omega (arith, fits.bridges_few) }))

pub walk_linked-last-requires : goal.walk_linked-last-requires
walk_linked-last-requires c =
    let a = c.args in
    let room = has_room (length a.words.now) a.reads.sizes.shape.n (length a.reads.bridges.now) c.if-words-n.false in record {
      n_in_bounds = omega (arith, room.scratch, c.start-first.auto.words);
      n_bound = (room.nodes, room.pairs);
      links_room = omega (arith, room.scratch);
    }

pub returns : goal.returns
returns c fits =
    let a = c.args in
    let w = c.walk_linked-last in
    let begun = c.start-first.ensures fits.entry_below fits.few (omega (arith, fits.floats_room)) in
    let rested = w.ensures fits.ends_below a.answer.now (a.reads.sizes.entry.0 ∷ []) (a.reads.sizes.entry.0 ∷ []) begun in
    searched a.reads a.answer.now (record { words = w.new.words; floats = w.new.floats; answer = w.new.answer; walk = w.result }) rested.front
    a.distances.now c.put_distances.new.distances _ rested.stands fits.few fits.distances_room c.put_distances.ensures (λ h. omega (arith, c.min.ensures))

pub start-first-requires : goal.start-first-requires
start-first-requires c = let a = c.args in omega (arith, has_room (length a.words.now) a.reads.sizes.shape.n (length a.reads.bridges.now) c.if-words-n.false)
