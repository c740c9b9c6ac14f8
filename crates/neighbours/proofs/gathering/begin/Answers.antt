-- It gathers the list of one node, which a row of one entry is. Assumes nothing.
use Rattle.std.proofs.Common.{ℕ, List, [], refl, subst, arith}
use Rattle.neighbours.specs.Inside.Gathering.{GatheringAll}
use Rattle.neighbours.proofs.gathering.Alone.{none_linked, one_alone}
use Rattle.neighbours.proofs.gathering.begin.Goals as goal

pub returns : goal.returns
returns c below =
    let n = c.args.n in
    let gather = c.gather in
    subst (λ (l : List ℕ). GatheringAll n l c.args.words.now gather.new.words gather.result) (one_alone c.args.node.0)
    (gather.ensures (none_linked n [] [] (omega arith) (λ i h. refl)) (omega (arith, below)))
