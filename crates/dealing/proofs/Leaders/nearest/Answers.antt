-- The loop's steps are those of `Found`. Assumes nothing.
use mathlib.Core.Path.{◌∙◌}
use Rattle.std.proofs.Common.{length}
use Rattle.distance.specs.Vectors.{vectors_of}
use Rattle.dealing.proofs.Nearest.{found_none, found_more, found_done}
use native.Mathlib.Omega.{arith}
use Rattle.dealing.proofs.Leaders.nearest.Goals as goal

pub loop-l-init : goal.loop-l-init
loop-l-init c = let x = c.args in found_none (vectors_of x.self.vectors) x.self.nodes.now x.id x.found.now

pub loop-l-preserved : goal.loop-l-preserved
loop-l-preserved c =
    let x = c.args in
    let l = c.loop-l in
    let kept = c.keep_first-held in
    found_more (vectors_of x.self.vectors) x.self.nodes.now x.id (length x.found.now) l.l l.held l.found l.auto.found l.invariant c.rank_of-key.result kept.result kept.new.pairs
    c.rank_of-key.ensures kept.ensures

pub returns : goal.returns
returns c =
    let x = c.args in
    let l = c.loop-l in
    let fan = x.self.fan in
    found_done (vectors_of x.self.vectors) x.self.nodes.now x.id fan l.l l.held l.found (rw c.requires at l.invariant) (l.auto.found ∙ c.requires) (omega arith) (omega (arith, x.self.enough))
