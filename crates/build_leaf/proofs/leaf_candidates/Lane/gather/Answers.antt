-- The nodes and the distances of the pairs passed. Assumes nothing.
use native.Mathlib.Omega.{arith}
use mathlib.Core.Path.{◌≡◌, ap, subst, ◌∙◌}
use mathlib.Core.List.{List, map}
use Prim.Native.Nat.{ℕ, ◌<◌}
use lib.ListN.{length, get_or, take, length-map}
use lib.Seq.{take_all, length-take-le}
use lib.Ieee.{Float}
use Rattle.std.proofs.lemmas.List.{get_or-map}
use Rattle.basics.specs.Nodes.{Below}
use Rattle.basics.proofs.Members.{in_get_d}
use Rattle.sorting.specs.declared.Keyed.{Keyed}
use Rattle.sorting.specs.Inside.Pairs.{id_in}
use Rattle.sorting.proofs.Pairs.{no_pair}
use Rattle.hashprune.specs.declared.Candidate.{Candidate}
use Rattle.build_leaf.specs.declared.leaf_candidates.Place.{Place}
use Rattle.build_leaf.specs.Inside.Candidates.{node_in, far_in_lane, candidate_in}
use Rattle.build_leaf.proofs.leaf_candidates.Offers.{gathered_more}
use Rattle.build_leaf.proofs.leaf_candidates.Lane.gather.Goals as goal

-- the place that is read is one of the leaf
in_leaf : (n : ℕ) (pairs : List Keyed) (c : ℕ) → Below n (map id_in pairs) → c < length pairs → (get_or pairs c no_pair).id < n
in_leaf n pairs c below h =
    subst (λ (i : ℕ). i < n) (get_or-map id_in pairs c no_pair 0 h) (below _ (in_get_d (map id_in pairs) c 0 (omega (arith, length-map pairs id_in))))

-- the candidate that the code makes
made : (p : Place) (pair : Keyed) (far : Float) → far ≡ far_in_lane p pair.id → ◌≡◌ {A = Candidate} (record { node = record { 0 = node_in p pair.id }; far = far }) (candidate_in p pair)
made p pair far e = ap (λ (x : Float). record { node = record { 0 = node_in p pair.id }; far = x }) e

pub bounds-self-j : goal.bounds-self-j
bounds-self-j c = in_leaf _ c.args.pairs.now c.loop-pair.pair-index c.requires.0 (omega arith)

pub distance-requires : goal.distance-requires
distance-requires c = in_leaf _ c.args.pairs.now c.loop-pair.pair-index c.requires.0 (omega arith)

pub push-requires : goal.push-requires
push-requires c =
    let l = c.loop-pair in
    let x = c.args in
    omega (arith, ap length l.invariant, length-map (take l.pair-index x.pairs.now) (candidate_in x.self.place), length-take-le l.pair-index x.pairs.now (omega arith), c.requires.1)

pub loop-pair-init : goal.loop-pair-init
loop-pair-init c = c.new-candidates.ensures

pub loop-pair-preserved : goal.loop-pair-preserved
loop-pair-preserved c =
    let l = c.loop-pair in
    let x = c.args in
    let pair : Keyed = get_or x.pairs.now l.pair-index no_pair in
    c.push.ensures.items
    ∙ gathered_more (candidate_in x.self.place) x.pairs.now l.pair-index _ l.candidates.items (omega arith) (made x.self.place pair c.distance.result c.distance.ensures) l.invariant

pub returns : goal.returns
returns c =
    let l = c.loop-pair in
    let x = c.args in
    l.invariant ∙ ap (map (candidate_in x.self.place)) (take_all l.pair-index x.pairs.now (omega arith))
