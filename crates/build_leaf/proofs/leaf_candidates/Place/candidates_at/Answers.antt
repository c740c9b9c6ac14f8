-- Where the code returns early the sizes do not fit (`none_are`). Assumes nothing.
use native.Mathlib.Omega.{arith}
use Rattle.build_leaf.proofs.leaf_candidates.Laws.{none_are}
use Rattle.build_leaf.proofs.leaf_candidates.Place.candidates_at.Goals as goal

pub returns-then-self : goal.returns-then-self
returns-then-self c = none_are c.args.self c.args.degree _ c.new.ensures (λ f. omega (arith, f.lanes.place_is))

pub returns-then-self-ge8 : goal.returns-then-self-ge8
returns-then-self-ge8 c = none_are c.args.self c.args.degree _ c.new-then-self-ge8.ensures (λ f. omega (arith, f.lanes.lane_is))

pub returns-then-degree-gt32 : goal.returns-then-degree-gt32
returns-then-degree-gt32 c = none_are c.args.self c.args.degree _ c.new-then-degree-gt32.ensures (λ f. omega (arith, f.degree_most))

pub returns-then-self-gt4294967295 : goal.returns-then-self-gt4294967295
returns-then-self-gt4294967295 c = none_are c.args.self c.args.degree _ c.new-then-self-gt4294967295.ensures (λ f. omega (arith, f.lanes.size_most))

pub returns-then-self-2 : goal.returns-then-self-2
returns-then-self-2 c = none_are c.args.self c.args.degree _ c.new-then-self-2.ensures (λ f. omega (arith, f.lanes.floats_fit))
