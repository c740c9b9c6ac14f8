-- Two words are set, one after the other. Assumes nothing.
use mathlib.Core.Path.{ap, ◌∙◌}
use mathlib.Core.List.{List}
use Prim.Native.Nat.{ℕ, ◌+◌, ◌*◌}
use lib.ListN.{set}
use Rattle.graph_utils.proofs.put_bridge.Goals as goal

pub returns : goal.returns
returns c =
    let a = c.args in
    c.put-2.ensures ∙ ap (λ (l : List ℕ). set l (2 * a.count + 1) a.far.0) c.put.ensures
