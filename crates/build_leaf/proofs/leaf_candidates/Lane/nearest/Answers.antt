-- The places before i are offered, then those behind it (`nearest_of_lem`). Assumes nothing.
use Rattle.build_leaf.proofs.leaf_candidates.Offers.{nearest_of_lem}
use Rattle.build_leaf.proofs.leaf_candidates.Lane.nearest.Goals as goal

pub returns : goal.returns
returns c =
    let x = c.args in
    let a = c.offer-held in
    let b = c.offer in
    nearest_of_lem x.self.place a.result b.result x.pairs.now _ _ a.auto.pairs b.auto.pairs a.ensures b.ensures
