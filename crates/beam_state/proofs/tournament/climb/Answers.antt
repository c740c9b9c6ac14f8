-- `tournament::climb` meets its contract: the tree is a tournament but for the pair above pair p, whose rank is `least`, so that it is one where p is 1.
-- The measure is p. Assumes nothing.
use mathlib.Core.Path.{refl}
use Rattle.beam_state.proofs.tournament.Settling.{climbed_more, open_end}
use native.Mathlib.Omega.{arith}
use Rattle.beam_state.proofs.tournament.climb.Goals as goal

pub loop-p-init : goal.loop-p-init
loop-p-init c = record { kept = refl; inside = c.requires.0; rank_is = c.requires.1; so_far = λ leaves o. o }

pub lay-requires : goal.lay-requires
lay-requires c = let l = c.loop-p.invariant in omega (arith, l.inside, l.kept)

pub loop-p-preserved : goal.loop-p-preserved
loop-p-preserved c =
    let a = c.args in
    climbed_more a.tree.now c.loop-p.tree c.lay.new.tree a.from c.loop-p.p c.loop-p.least c.rank_at.result c.min-least.result c.loop-p.invariant
    (omega arith) c.rank_at.ensures c.min-least.ensures c.lay.ensures

pub returns : goal.returns
returns c = λ leaves o. open_end leaves c.loop-p.p c.loop-p.tree (omega arith) (c.loop-p.invariant.so_far leaves o)

pub overflow_add-beside : goal.overflow_add-beside
overflow_add-beside c = let i = c.loop-p.invariant.inside in omega arith

pub rank_at-requires : goal.rank_at-requires
rank_at-requires c = let l = c.loop-p.invariant in omega (arith, l.inside, l.kept)

pub shape_of-tree : goal.shape_of-tree
shape_of-tree c = c.loop-p.invariant.kept
