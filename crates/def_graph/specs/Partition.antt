-- Carving (scope, part 4; `partition`). A segment of at most max_leaf_size nodes is a leaf, and above level 20 a segment of any size is. Any other is
-- dealt to its leaders: at level 0 each node goes to the buckets of its two nearest leaders, at levels 1 to 20 to its nearest one only. Small buckets
-- gather, and each bucket that results is carved in its turn, by the same steps one level down.
--
-- `segment_equation`, `buckets_none` and `buckets_more` are how carve_segment and carve_buckets call each other; nothing after them looks at how
-- many levels are left.
use Rattle.std.specs.Prelude.{◌≡◌, Bool, ◌||◌, T, leb, eqb, length, get_or, Float}
use Rattle.std.proofs.Math.Path.{refl, sym, ap}
use Rattle.std.proofs.Common.{◌∙◌, subst}
use Rattle.std.proofs.Math.Bool.{true, false, or-true}
use mathlib.Core.List.{List, [], ◌∷◌, ◌++◌, map}
use Prim.Native.Nat.{ℕ, zero, suc, ◌+◌, ◌-◌, ◌<◌}
use native.Mathlib.Omega.{arith}
use Rattle.std.proofs.Math.Decide.{dec_le}
use Rattle.std.proofs.Math.Facts.{no_eqb, no_leb}
use Rattle.basics.specs.Choice.{pick, pick_yes, pick_no}
use Rattle.basics.specs.Lists.{keep}
use Rattle.basics.specs.Nodes.{has}
use Rattle.sorting.specs.Sorting.{sort_by, first_by}
use Rattle.distance.specs.Vectors.{rank}
use Rattle.random.specs.Leaders.{leader_positions, up_to}

-- to how many of its nearest leaders a node goes; 0: the segment is a leaf of any size
unfoldable pub fanout : ℕ → ℕ
unfolding pick
fanout level = pick (eqb level 0) 2 (pick (leb level 20) 1 0)

-- ---- dealing a segment to its leaders

-- the nodes at the positions drawn, in the order in which they were drawn
unfoldable pub leaders_of : Float → ℕ → List ℕ → List ℕ
unfolding leader_positions
leaders_of fraction level ids = map (λ (position : ℕ). get_or ids position 0) (leader_positions level (length ids) fraction)

-- the numbers of the leaders nearest to a node, as many as the fanout says; of equally near ones the earlier drawn
unfoldable pub nearest_leaders : List (List Float) → ℕ → List ℕ → ℕ → List ℕ
unfolding sort_by rank up_to
nearest_leaders vs fan leaders id = first_by (λ (l : ℕ). rank vs id (get_or leaders l 0)) fan (up_to (length leaders))

-- a bucket for each leader: the nodes that go to it, in their order
unfoldable pub dealt : List (List Float) → ℕ → List ℕ → List ℕ → List (List ℕ)
unfolding keep has nearest_leaders up_to
dealt vs fan leaders ids = map (λ (l : ℕ). keep (λ (id : ℕ). has l (nearest_leaders vs fan leaders id)) ids) (up_to (length leaders))

-- ---- gathering small buckets

-- the buckets that have their place, and what of the smaller ones has gathered since
pub record Gathered : Type 0 where
  pub placed : List (List ℕ)
  pub small : List ℕ

-- a bucket below min_leaf_size joins what has gathered, which takes its place once it is large enough
unfoldable pub gather_one : ℕ → Gathered → List ℕ → Gathered
unfolding pick
gather_one minLeaf g bucket =
    let joined : List ℕ = g.small ++ bucket in
    pick (leb minLeaf (length bucket)) (record { placed = g.placed ++ (bucket ∷ []); small = g.small })
    (pick (leb minLeaf (length joined)) (record { placed = g.placed ++ (joined ∷ []); small = [] }) (record { placed = g.placed; small = joined }))

unfoldable pub gather_all : ℕ → Gathered → List (List ℕ) → Gathered
unfolding gather_one
gather_all minLeaf g [] = g
gather_all minLeaf g (bucket ∷ buckets) = gather_all minLeaf (gather_one minLeaf g bucket) buckets

-- appended to the last bucket, or a bucket if there is none
unfoldable pub onto_last : List (List ℕ) → List ℕ → List (List ℕ)
onto_last [] rest = rest ∷ []
onto_last (b ∷ []) rest = (b ++ rest) ∷ []
onto_last (b ∷ c ∷ buckets) rest = b ∷ onto_last (c ∷ buckets) rest

-- what remains at the end goes onto the last
unfoldable pub gathered : ℕ → List (List ℕ) → List (List ℕ)
unfolding pick gather_all onto_last
gathered minLeaf buckets =
    let g : Gathered = gather_all minLeaf (record { placed = []; small = [] }) buckets in
    pick (eqb (length g.small) 0) g.placed (onto_last g.placed g.small)

-- ---- carving

-- the leaves of each bucket in its turn, by what carves a bucket
unfoldable pub each_by : (List ℕ → List (List ℕ)) → List (List ℕ) → List (List ℕ)
each_by carve [] = []
each_by carve (bucket ∷ buckets) = carve bucket ++ each_by carve buckets

-- it fits, or is too deep
unfoldable pub is_leaf : ℕ → ℕ → List ℕ → Bool
unfolding fanout
is_leaf maxLeaf level ids = leb (length ids) maxLeaf || eqb (fanout level) 0

-- the buckets of a segment that is no leaf
unfoldable pub buckets_of : ℕ → Float → List (List Float) → ℕ → List ℕ → List (List ℕ)
unfolding gathered dealt fanout leaders_of
buckets_of minLeaf fraction vs level ids = gathered minLeaf (dealt vs (fanout level) (leaders_of fraction level ids) ids)

-- above level 20 every segment is a leaf
pub fanout_above : (level : ℕ) → 20 < level → fanout level ≡ 0
unfolding fanout
fanout_above level h =
    pick_no (eqb level 0) _ _ (no_eqb {a = level} {b = 0} (λ (e : level ≡ 0). absurd (omega arith))) ∙ pick_no (leb level 20) _ _ (no_leb h)

pub above_is_leaf : (maxLeaf level : ℕ) (ids : List ℕ) → 20 < level → T (is_leaf maxLeaf level ids)
unfolding is_leaf
above_is_leaf maxLeaf level ids h =
    subst T (sym (ap (λ (fan : ℕ). leb (length ids) maxLeaf || eqb fan 0) (fanout_above level h) ∙ or-true (leb (length ids) maxLeaf))) tt

module _ (maxLeaf minLeaf : ℕ) (fraction : Float) (vs : List (List Float)) where
  -- `left` levels are left. Whether the segment is a leaf is an argument, so that the other case is not computed.
  carve_from : ℕ → Bool → ℕ → List ℕ → List (List ℕ)
  unfolding each_by is_leaf buckets_of
  carve_from zero leaf level ids = ids ∷ []
  carve_from (suc left) true level ids = ids ∷ []
  carve_from (suc left) false level ids =
      each_by (λ (bucket : List ℕ). carve_from left (is_leaf maxLeaf (level + 1) bucket) (level + 1) bucket) (buckets_of minLeaf fraction vs level ids)

  unfoldable pub carve_segment : ℕ → List ℕ → List (List ℕ)
  unfolding carve_from is_leaf
  carve_segment level ids = carve_from (21 - level) (is_leaf maxLeaf level ids) level ids

  unfoldable pub carve_buckets : ℕ → List (List ℕ) → List (List ℕ)
  unfolding each_by carve_segment
  carve_buckets level buckets = each_by (carve_segment level) buckets

  -- the leaves of an index
  unfoldable pub leaves_of : List (List ℕ)
  unfolding carve_segment up_to
  leaves_of = carve_segment 0 (up_to (length vs))

  -- ---- the equations of carving

  from_equation : (left : ℕ) (leaf : Bool) (level : ℕ) (ids : List ℕ)
      → carve_from (suc left) leaf level ids
      ≡ pick leaf (ids ∷ []) (each_by (λ (bucket : List ℕ). carve_from left (is_leaf maxLeaf (level + 1) bucket) (level + 1) bucket) (buckets_of minLeaf fraction vs level ids))
  unfolding carve_from pick
  from_equation left true level ids = refl
  from_equation left false level ids = refl

  pub segment_equation : (level : ℕ) (ids : List ℕ)
      → carve_segment level ids ≡ pick (is_leaf maxLeaf level ids) (ids ∷ []) (carve_buckets (level + 1) (buckets_of minLeaf fraction vs level ids))
  unfolding carve_segment carve_buckets carve_from
  segment_equation level ids = elim (dec_le level 20) [
    | yes h ↦
        let now : 21 - level ≡ suc (20 - level) = omega arith in
        let next : 20 - level ≡ 21 - (level + 1) = omega arith in
        ap (λ (left : ℕ). carve_from left (is_leaf maxLeaf level ids) level ids) now
        ∙ from_equation (20 - level) (is_leaf maxLeaf level ids) level ids
        ∙ ap (λ (left : ℕ). pick (is_leaf maxLeaf level ids) (ids ∷ []) (each_by (λ (bucket : List ℕ). carve_from left (is_leaf maxLeaf (level + 1) bucket) (level + 1) bucket) (buckets_of minLeaf fraction vs level ids))) next
    | no h ↦
        let none : 21 - level ≡ 0 = omega arith in
        ap (λ (left : ℕ). carve_from left (is_leaf maxLeaf level ids) level ids) none ∙ sym (pick_yes (is_leaf maxLeaf level ids) _ _ (above_is_leaf maxLeaf level ids (omega arith)))
  ]

  pub buckets_none : (level : ℕ) → carve_buckets level [] ≡ []
  unfolding carve_buckets
  buckets_none level = refl

  pub buckets_more : (level : ℕ) (bucket : List ℕ) (buckets : List (List ℕ))
      → carve_buckets level (bucket ∷ buckets) ≡ carve_segment level bucket ++ carve_buckets level buckets
  unfolding carve_buckets
  buckets_more level bucket buckets = refl
