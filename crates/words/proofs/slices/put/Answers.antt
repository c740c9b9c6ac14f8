-- Past the end `set` changes nothing. Assumes nothing.
use mathlib.Core.Path.{sym}
use lib.Seq.{set_out}
use Rattle.words.proofs.slices.put.Goals as goal

pub returns-else-at-items : goal.returns-else-at-items
returns-else-at-items g c = sym (set_out _ _ _ c.if-at-items.false)
