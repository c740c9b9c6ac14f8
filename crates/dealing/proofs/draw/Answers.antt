-- There is room for all positions, so that as many are drawn as leaders are asked for; each becomes its node. No loop. Assumes nothing.
use mathlib.Core.Path.{ap, ◌∙◌}
use mathlib.Core.List.{map}
use Prim.Native.Nat.{ℕ}
use lib.ListN.{length, get_or}
use Rattle.dealing.proofs.Dealing.{drawn_all}
use Rattle.dealing.proofs.draw.Goals as goal

pub returns : goal.returns
returns c =
    let x = c.args in
    c.nodes_at.ensures
    ∙ ap (map (λ (p : ℕ). get_or x.ids.now p 0)) (c.draw_leaders.ensures ∙ drawn_all x.level (length x.ids.now) (length x.left.now) x.leaders.now c.requires.1 c.requires.2)
