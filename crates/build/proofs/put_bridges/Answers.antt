-- The part holds the bridges. Assumes nothing.
use native.Mathlib.Omega.{arith}
use mathlib.Core.Path.{ap, ◌∙◌}
use borrow.Rule.Slice.PartMut.{put_mid}
use Rattle.build.proofs.Laid.{put_laid}
use Rattle.build.proofs.put_bridges.Goals as goal

pub returns : goal.returns
returns c =
    let a = c.args in
    ap (put_mid a.at _ a.words.now) (c.copy.ensures.after (omega arith)) ∙ put_laid a.at _ a.words.now a.bridges.now (omega arith)
