-- The laws of carving: over all leaves each node below n occurs once if n ≤ max_leaf_size, else exactly twice, and no other number does.
-- They are one law on weights: dealing multiplies a weight by the fanout, gathering keeps it, and from level 1 on the fanout is one. Assumes
-- nothing.
use mathlib.Core.Path.{◌≡◌, refl, ap, ◌∙◌}
use mathlib.Core.Logic.{inl, inr}
use mathlib.Core.Bool.{Bool, true, false, not}
use mathlib.Core.List.Memᴰ.{cases_cons as in-cons}
use mathlib.Core.List.Memᴰ.{not-nil as in-nil}
use mathlib.Core.List.{List, [], ◌∷◌, flatten, Memᴰ as In}
use Prim.Native.Nat.{ℕ, zero, suc, ◌+◌, ◌*◌, ◌≤◌, ◌<◌, min}
use native.Mathlib.Omega.{arith}
use native.Mathlib.Nat.{one-mul, mul-zero}
use native.Mathlib.Decide.{dec_lt}
use lib.Dec.{T, leb, ltb, eqb, leb→le, ltb→lt}
use lib.ListN.{length, length-map, length-append}
use lib.Ieee.{Float}
use mir.Facts.{or_no, or_yes, yes_eqb, no_eqb, leb_no, yes_ltb}
use Rattle.basics.specs.Choice.{pick, pick_ind, pick_yes, pick_no}
use Rattle.basics.specs.Nodes.{Below}
use Rattle.random.specs.Leaders.{leader_count, leader_positions, up_to}
use Rattle.random.proofs.leaders.Draws.{length-up_to}
use Rattle.random.proofs.leaders.Positions.{length_positions}
use Rattle.def_graph.specs.Partition.{fanout, leaders_of, dealt, is_leaf, above_is_leaf, buckets_of, carve_segment, carve_buckets, leaves_of, segment_equation, buckets_none, buckets_more}
use Rattle.def_graph.specs.Inside.Occurrences.{weigh, weigh_all, occurrences, entries}
use Rattle.def_graph.proofs.partition.Dealing.{dealt_weight}
use Rattle.def_graph.proofs.partition.Gathering.{weigh_append, weigh_all_append, gathered_weight}

pub length_leaders : (fraction : Float) (level : ℕ) (ids : List ℕ) → length (leaders_of fraction level ids) ≡ leader_count (length ids) fraction
unfolding leaders_of
length_leaders fraction level ids = length-map (leader_positions level (length ids) fraction) _ ∙ length_positions level (length ids) fraction

-- below level 1 two, at levels 1 to 20 one
fanout-down : (level : ℕ) → 0 < level → T (not (eqb (fanout level) 0)) → fanout level ≡ 1
unfolding fanout
fanout-down level h =
    pick_ind (λ (k : ℕ). T (not (eqb k 0)) → k ≡ 1) (eqb level 0)
    (λ t _. absurd (let e = lib.Dec.eqb→eq level 0 t in omega arith))
    (λ _. pick_ind (λ (k : ℕ). T (not (eqb k 0)) → k ≡ 1) (leb level 20) (λ _ _. refl) (λ _ u. absurd u))

-- into how many leaves each node of a segment goes
abbrev pub spread : ℕ → Float → ℕ → List ℕ → ℕ
spread maxLeaf fraction level ids = pick (is_leaf maxLeaf level ids) 1 (min (fanout level) (leader_count (length ids) fraction))

no_leaf : (maxLeaf level : ℕ) (ids : List ℕ) → T (not (is_leaf maxLeaf level ids)) → (maxLeaf < length ids) × T (not (eqb (fanout level) 0))
unfolding is_leaf
no_leaf maxLeaf level ids t =
    let p = or_no (leb (length ids) maxLeaf) (eqb (fanout level) 0) t in
    (leb_no p.0, p.1)

spread_one : (maxLeaf : ℕ) (fraction : Float) (level : ℕ) (ids : List ℕ) → 0 < level → spread maxLeaf fraction level ids ≡ 1
spread_one maxLeaf fraction level ids h =
    pick_ind (λ (k : ℕ). k ≡ 1) (is_leaf maxLeaf level ids) (λ _. refl)
    (λ t.
    let p = no_leaf maxLeaf level ids t in
    let e : fanout level ≡ 1 = fanout-down level h p.1 in
    omega (arith, p.0))

module _ (maxLeaf minLeaf : ℕ) (fraction : Float) (vs : List (List Float)) (w : ℕ → ℕ) where
  abbrev carved : ℕ → List ℕ → List (List ℕ)
  carved level ids = carve_segment maxLeaf minLeaf fraction vs level ids

  pub buckets_weight : (level : ℕ) (ids : List ℕ)
      → weigh_all w (buckets_of minLeaf fraction vs level ids) ≡ min (fanout level) (leader_count (length ids) fraction) * weigh w ids
  unfolding buckets_of
  buckets_weight level ids =
      gathered_weight w minLeaf (dealt vs (fanout level) (leaders_of fraction level ids) ids)
      ∙ dealt_weight w vs (fanout level) (leaders_of fraction level ids) ids
      ∙ ap (λ (m : ℕ). min (fanout level) m * weigh w ids) (length_leaders fraction level ids)

  -- buckets whose segments keep the weight keep it
  each_weight : (level : ℕ) → ((ids : List ℕ) → weigh_all w (carved level ids) ≡ weigh w ids)
      → (buckets : List (List ℕ)) → weigh_all w (carve_buckets maxLeaf minLeaf fraction vs level buckets) ≡ weigh_all w buckets
  each_weight level keeps [] = ap (weigh_all w) (buckets_none maxLeaf minLeaf fraction vs level)
  each_weight level keeps (b ∷ buckets) =
      let r = each_weight level keeps buckets in
      let e = ap (weigh_all w) (buckets_more maxLeaf minLeaf fraction vs level b buckets) ∙ weigh_all_append w (carved level b) (carve_buckets maxLeaf minLeaf fraction vs level buckets) in
      omega (arith, keeps b)

  single : (ids : List ℕ) → weigh_all w (ids ∷ []) ≡ weigh w ids
  single ids = omega arith

  -- one level, given the next
  level_weight : (level : ℕ) → ((ids : List ℕ) → weigh_all w (carved (level + 1) ids) ≡ weigh w ids) → (ids : List ℕ)
      → weigh_all w (carved level ids) ≡ spread maxLeaf fraction level ids * weigh w ids
  unfolding pick
  level_weight level keeps ids =
      ap (weigh_all w) (segment_equation maxLeaf minLeaf fraction vs level ids) ∙ go (is_leaf maxLeaf level ids)
    where
      dealt_out : List (List ℕ)
      dealt_out = carve_buckets maxLeaf minLeaf fraction vs (level + 1) (buckets_of minLeaf fraction vs level ids)

      go : (b : Bool) → weigh_all w (pick b (ids ∷ []) dealt_out) ≡ pick b 1 (min (fanout level) (leader_count (length ids) fraction)) * weigh w ids
      go true = omega arith
      go false = each_weight (level + 1) keeps _ ∙ buckets_weight level ids

  -- from level 1 on every weight stays
  below : (left level : ℕ) → 21 ≤ level + left → 0 < level → (ids : List ℕ) → weigh_all w (carved level ids) ≡ weigh w ids
  below zero level h k ids =
      ap (weigh_all w) (segment_equation maxLeaf minLeaf fraction vs level ids ∙ pick_yes (is_leaf maxLeaf level ids) _ _ (above_is_leaf maxLeaf level ids (omega arith)))
      ∙ single ids
  below (suc left) level h k ids =
      level_weight level (below left (level + 1) (omega arith) (omega arith)) ids
      ∙ ap (λ (c : ℕ). c * weigh w ids) (spread_one maxLeaf fraction level ids k) ∙ one-mul (weigh w ids)

  pub down_weight : (level : ℕ) → 0 < level → (ids : List ℕ) → weigh_all w (carved level ids) ≡ weigh w ids
  down_weight level h ids = below 21 level (omega arith) h ids

  -- at any level it is multiplied by the leaves that a node goes into
  pub carved_weight : (level : ℕ) (ids : List ℕ) → weigh_all w (carved level ids) ≡ spread maxLeaf fraction level ids * weigh w ids
  carved_weight level ids = level_weight level (down_weight (level + 1) (omega arith)) ids

  pub leaves_weight : weigh_all w (leaves_of maxLeaf minLeaf fraction vs) ≡ spread maxLeaf fraction 0 (up_to (length vs)) * weigh w (up_to (length vs))
  unfolding leaves_of
  leaves_weight = carved_weight 0 (up_to (length vs))

-- ---- an index whose nodes fit one leaf, and a larger one

spread_small : (maxLeaf : ℕ) (fraction : Float) (n : ℕ) → n ≤ maxLeaf → spread maxLeaf fraction 0 (up_to n) ≡ 1
spread_small maxLeaf fraction n h =
    pick_ind (λ (k : ℕ). k ≡ 1) (is_leaf maxLeaf 0 (up_to n)) (λ _. refl)
    (λ t. absurd (omega (arith, (no_leaf maxLeaf 0 (up_to n) t).0, length-up_to n)))

spread_large : (maxLeaf : ℕ) (fraction : Float) (n : ℕ) → 1 ≤ maxLeaf → maxLeaf < n → spread maxLeaf fraction 0 (up_to n) ≡ 2
unfolding is_leaf fanout pick
spread_large maxLeaf fraction n h k =
    pick_ind (λ (c : ℕ). c ≡ 2) (is_leaf maxLeaf 0 (up_to n))
    (λ t. absurd (elim (or_yes (leb (length (up_to n)) maxLeaf) (eqb (fanout 0) 0) t) [
      | inl u ↦ omega (arith, leb→le (length (up_to n)) maxLeaf u, length-up_to n)
      | inr u ↦ u
    ])) (λ _. omega (arith, length-up_to n))

-- ---- one node's weight

abbrev one : ℕ → ℕ → ℕ
one x y = pick (eqb x y) 1 0

weight_out : (n x : ℕ) → n ≤ x → weigh (one x) (up_to n) ≡ 0
unfolding up_to
weight_out zero x h = refl
weight_out (suc n) x h =
    let r = weight_out n x (omega arith) in
    let e : one x n ≡ 0 = pick_no (eqb x n) 1 0 (no_eqb {a = x} {b = n} (λ (q : x ≡ n). absurd (omega arith))) in
    omega (arith, weigh_append (one x) (up_to n) (n ∷ []))

weight_in : (n x : ℕ) → x < n → weigh (one x) (up_to n) ≡ 1
unfolding up_to
weight_in zero x h = absurd (omega arith)
weight_in (suc n) x h = elim (dec_lt x n) [
  | yes k ↦
      let e : one x n ≡ 0 = pick_no (eqb x n) 1 0 (no_eqb {a = x} {b = n} (λ (q : x ≡ n). absurd (omega arith))) in
      omega (arith, weight_in n x k, weigh_append (one x) (up_to n) (n ∷ []))
  | no k ↦
      let q : x ≡ n = omega arith in
      let e : one x n ≡ 1 = pick_yes (eqb x n) 1 0 (yes_eqb q) in
      omega (arith, weight_out n x (omega arith), weigh_append (one x) (up_to n) (n ∷ []))
]

pub weight_length : (l : List ℕ) → weigh (λ (y : ℕ). 1) l ≡ length l
weight_length [] = refl
weight_length (x ∷ l) = let r = weight_length l in omega arith

pub entries-length : (ls : List (List ℕ)) → entries ls ≡ length (flatten ls)
unfolding flatten
entries-length [] = refl
entries-length (l ∷ ls) = let r = entries-length ls in omega (arith, weight_length l, length-append l (flatten ls))

module _ (maxLeaf minLeaf : ℕ) (fraction : Float) (vs : List (List Float)) where
  abbrev leaves : List (List ℕ)
  leaves = leaves_of maxLeaf minLeaf fraction vs

  pub each_once : length vs ≤ maxLeaf → (x : ℕ) → x < length vs → occurrences x leaves ≡ 1
  each_once h x k =
      leaves_weight maxLeaf minLeaf fraction vs (one x) ∙ rw (spread_small maxLeaf fraction (length vs) h, weight_in (length vs) x k)

  pub each_twice : 1 ≤ maxLeaf → maxLeaf < length vs → (x : ℕ) → x < length vs → occurrences x leaves ≡ 2
  each_twice h k x l =
      leaves_weight maxLeaf minLeaf fraction vs (one x) ∙ rw (spread_large maxLeaf fraction (length vs) h k, weight_in (length vs) x l)

  -- so there are n entries, or 2·n
  pub entries_once : length vs ≤ maxLeaf → entries leaves ≡ length vs
  entries_once h =
      leaves_weight maxLeaf minLeaf fraction vs (λ y. 1) ∙ rw (spread_small maxLeaf fraction (length vs) h, weight_length, length-up_to, one-mul)

  pub entries_twice : 1 ≤ maxLeaf → maxLeaf < length vs → entries leaves ≡ 2 * length vs
  entries_twice h k =
      leaves_weight maxLeaf minLeaf fraction vs (λ y. 1) ∙ rw (spread_large maxLeaf fraction (length vs) h k, weight_length, length-up_to)

  -- ---- no other number occurs

  abbrev outside : ℕ → ℕ
  outside y = pick (ltb y (length vs)) 0 1

  none_outside : (n : ℕ) → n ≤ length vs → weigh outside (up_to n) ≡ 0
  unfolding up_to
  none_outside zero h = refl
  none_outside (suc n) h =
      let r = none_outside n (omega arith) in
      let e : outside n ≡ 0 = pick_yes (ltb n (length vs)) 0 1 (yes_ltb h) in
      omega (arith, weigh_append outside (up_to n) (n ∷ []))

  all_inside : weigh_all outside leaves ≡ 0
  all_inside =
      leaves_weight maxLeaf minLeaf fraction vs outside ∙ rw (none_outside (length vs) (omega arith), mul-zero)

  inside : (leaf : List ℕ) → weigh outside leaf ≡ 0 → Below (length vs) leaf
  inside [] e x m = absurd (in-nil m)
  inside (y ∷ leaf) e x m =
      let first : outside y ≡ 0 → y < length vs =
      pick_ind (λ (d : ℕ). d ≡ 0 → y < length vs) (ltb y (length vs)) (λ t _. ltb→lt y (length vs) t) (λ _ f. absurd (omega arith)) in
      elim (in-cons m) [ inl q ↦ omega (arith, first (omega arith)) | inr i ↦ inside leaf (omega arith) x i ]

  pub leaves_below : (leaf : List ℕ) → In leaf leaves → Below (length vs) leaf
  leaves_below leaf m = inside leaf (part leaves m all_inside)
    where
      part : (ls : List (List ℕ)) → In leaf ls → weigh_all outside ls ≡ 0 → weigh outside leaf ≡ 0
      part [] i e = absurd (in-nil i)
      part (l ∷ ls) i e = elim (in-cons i) [ inl q ↦ ap (weigh outside) q ∙ omega arith | inr j ↦ part ls j (omega arith) ]
