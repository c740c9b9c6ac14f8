-- The places held are the front of an array, and their nodes are gathered (`gathered_are`). Assumes nothing.
use native.Mathlib.Omega.{arith}
use lib.ListN.{length-take}
use Rattle.build_leaf.proofs.leaf_candidates.Laws.{front_below, gathered_are}
use Rattle.build_leaf.specs.Inside.Candidates.{LaneFits}
use Rattle.build_leaf.proofs.leaf_candidates.Lane.candidates.Goals as goal
use Rattle.build_leaf.proofs.leaf_candidates.Lane.candidates.Goals.{Start}

-- sizes that fit
fits : (c : Start) → LaneFits c.args.self.place c.args.degree
fits c = record { lanes = c.args.self.sized; degree_most = c.requires }

pub gather-requires : goal.gather-requires
gather-requires c =
    let x = c.args in
    let n = c.nearest-held in
    let a = simp length-take at n.auto.pairs in
    (front_below x.self.place x.degree (fits (goal.at.gather-requires c).Start) n.result _ _ _ a n.ensures, simp length-take (omega (arith, n.ensures.few)))

pub returns : goal.returns
returns c =
    let x = c.args in
    let n = c.nearest-held in
    let a = simp length-take at n.auto.pairs in
    gathered_are x.self.place x.degree (fits (goal.at.returns c).Start) n.result _ _ _ a n.ensures _ (omega (arith, c.min-most.ensures)) (omega arith) c.gather.ensures
