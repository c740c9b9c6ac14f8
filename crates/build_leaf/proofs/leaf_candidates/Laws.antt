-- Places for nodes: the first places by the keys of their distances are those of the first nodes by their ranks, so the gathered nodes are the
-- candidates. Assumes nothing.
use mathlib.Core.Path.{◌≡◌, refl, sym, ap, ap₂, subst, ◌∙◌}
use mathlib.Core.Logic.{◌⊎◌, inl, inr}
use mathlib.Core.List.{List, [], ◌∷◌, ◌++◌, map, map-append}
use mathlib.Core.List.Memᴰ.{append_cases as in-cases}
use mathlib.Core.List.Memᴰ.{eq_of_singleton as in_one}
use mathlib.Core.List.Memᴰ.{head as here}
use mathlib.Core.List.Memᴰ.{not-nil as in-nil}
use mathlib.Core.List.Memᴰ.{tail as there}
use mathlib.Core.List.{Memᴰ as In}
use Prim.Native.Nat.{ℕ, zero, suc, ◌+◌, ◌-◌, ◌*◌, ◌≤◌, ◌<◌, min}
use native.Mathlib.Omega.{arith}
use native.Mathlib.Numerals.{add-one}
use lib.ListN.{length, get_or, take, drop, length-map}
use lib.Seq.{take-suc, take_all, take-append-le, get_or-drop, length-take-le}
use lib.Ieee.{Float, binary32, nan}
use Rattle.basics.specs.Nodes.{Below}
use Rattle.simd.proofs.Lanes.{lane_at}
use Rattle.distance.specs.Order.{key_of}
use Rattle.sorting.specs.Sorting.{first_by}
use Rattle.sorting.specs.declared.Keyed.{Keyed}
use Rattle.sorting.specs.Inside.Pairs.{key_in, id_in}
use Rattle.sorting.proofs.Laws.{first_map, first_in}
use Rattle.hashprune.specs.declared.Candidate.{Candidate}
use Rattle.hashprune.specs.Inside.Hashprune.{node_of, far_of}
use Rattle.distance.specs.Vectors.{between, rank}
use Rattle.def_graph.specs.Leaf.{candidates_at}
use Rattle.build_leaf.specs.declared.leaf_candidates.Place.{Place}
use Rattle.build_leaf.specs.Inside.Candidates.{LaneFits, size_of, candidate_in, node_in, far_in_lane, places_from, offer, other_places, NearestPlaces, NodesAt, LaneReady, CandidatesAre, Candidates}

map_same_in : {A : Type 0} (f g : ℕ → A) (l : List ℕ) → ((j : ℕ) → In j l → f j ≡ g j) → map f l ≡ map g l
map_same_in f g [] h = refl
map_same_in {A} f g (x ∷ l) h = ap₂ (λ (y : A) (m : List A). y ∷ m) (h x (here refl)) (map_same_in f g l (λ j m. h j (there m)))

map_at : {A : Type 0} (f : ℕ → A) (l : List ℕ) (i : ℕ) (d : A) → i < length l → get_or (map f l) i d ≡ f (get_or l i 0)
map_at f [] i d h = absurd (omega arith)
map_at f (x ∷ l) zero d h = refl
map_at f (x ∷ l) (suc i) d h = map_at f l i d (omega arith)

map-map : {C A B : Type 0} (f : C → A) (g : A → B) (l : List C) → map g (map f l) ≡ map (λ (j : C). g (f j)) l
map-map f g [] = refl
map-map {C} {A} {B} f g (x ∷ l) = ap (λ (m : List B). g (f x) ∷ m) (map-map f g l)

map-id : (l : List ℕ) → map (λ (j : ℕ). j) l ≡ l
map-id [] = refl
map-id (x ∷ l) = ap (λ (m : List ℕ). x ∷ m) (map-id l)

-- ---- places

in_places : {j : ℕ} (a k : ℕ) → In j (places_from a k) → j < a + k
unfolding places_from
in_places a zero m = absurd (in-nil m)
in_places {j} a (suc k) m = go (in_places a k) (in-cases (places_from a k) m)
  where
    go : (In j (places_from a k) → j < a + k) → In j (places_from a k) ⊎ In j ((a + k) ∷ []) → j < a + suc k
    go rec (inl n) = let h = rec n in omega arith
    go rec (inr n) = let e = in_one n in omega arith

-- ---- the places of a leaf

module _ (p : Place) where
  abbrev leaf : List ℕ
  leaf = p.nodes.now

  abbrev far : ℕ → ℕ
  far j = key_of binary32 (far_in_lane p j)

  nodes_from : (a k : ℕ) → a + k ≤ size_of p → map (node_in p) (places_from a k) ≡ take k (drop a leaf)
  unfolding places_from
  nodes_from a zero h = refl
  nodes_from a (suc k) h =
      map-append (node_in p) (places_from a k) ((a + k) ∷ [])
      ∙ ap₂ (λ (l : List ℕ) (x : ℕ). l ++ (x ∷ [])) (nodes_from a k (omega arith)) (sym (get_or-drop a leaf k 0))
      ∙ sym (take-suc (drop a leaf) k 0 (omega (arith, lib.ListN.length-drop a leaf)))

  module _ (h : p.i < size_of p) where
    in_others : {j : ℕ} → In j (other_places p) → j < size_of p
    in_others {j} m = go (in-cases (places_from 0 p.i) m)
      where
        go : In j (places_from 0 p.i) ⊎ In j (places_from (p.i + 1) (size_of p - (p.i + 1))) → j < size_of p
        go (inl n) = omega (arith, in_places 0 p.i n)
        go (inr n) = omega (arith, in_places (p.i + 1) (size_of p - (p.i + 1)) n)

    -- the other places' nodes
    others_nodes : map (node_in p) (other_places p) ≡ take p.i leaf ++ drop (suc p.i) leaf
    others_nodes =
        map-append (node_in p) (places_from 0 p.i) (places_from (p.i + 1) (size_of p - (p.i + 1)))
        ∙ ap₂ (λ (a : List ℕ) (b : List ℕ). a ++ b) (nodes_from 0 p.i (omega arith)) (nodes_from (p.i + 1) (size_of p - (p.i + 1)) (omega arith))
        ∙ ap (λ (l : List ℕ). take p.i leaf ++ l)
        (take_all (size_of p - (p.i + 1)) (drop (p.i + 1) leaf) (omega (arith, lib.ListN.length-drop (p.i + 1) leaf)) ∙ ap (λ (k : ℕ). drop k leaf) (add-one p.i))

    -- ---- the first places

    module _ (r : ℕ) (pairs : List Keyed) (n : NearestPlaces p r pairs) where
      -- the places that are held
      held_places : map id_in (take r pairs) ≡ first_by far (length pairs) (other_places p)
      held_places =
          ap (map id_in) (n.first ∙ first_map key_in (offer p) (length pairs) (other_places p))
          ∙ map-map (offer p) id_in (first_by far (length pairs) (other_places p))
          ∙ map-id _

      held_below : Below (size_of p) (map id_in (take r pairs))
      held_below j m = in_others (first_in far (length pairs) (other_places p) (subst (In j) held_places m))

module _ (p : Place) (D : ℕ) (vs : List (List Float)) (ready : LaneReady p D vs) where
  -- a place's distance
  far_is : (j : ℕ) → j < size_of p → far_in_lane p j ≡ between vs (node_in p p.i) (node_in p j)
  far_is j h =
      sym (lane_at p.floats.now p.lane (size_of p) j h)
      ∙ ap (λ (l : List Float). get_or l j nan) ready.distances
      ∙ map_at (between vs (node_in p p.i)) p.nodes.now j nan h

  pub candidates_are : (r : ℕ) (pairs : List Keyed) (candidates : List Candidate) → length pairs ≡ 2 * min D (size_of p - 1)
      → NearestPlaces p r pairs → NodesAt p (take r pairs) candidates → CandidatesAre p D vs candidates
  unfolding candidates_at rank
  candidates_are r pairs candidates many n g =
      let m : ℕ = 2 * min D (size_of p - 1) in
      let node : ℕ = node_in p p.i in
      let here : p.i < size_of p = ready.sizes.lanes.place_is in
      let others : List ℕ = other_places p in
      let ranked : ℕ → ℕ = λ j. rank vs node (node_in p j) in
      let held : List ℕ = map id_in (take r pairs) in
      let same : map (offer p) others ≡ map (λ (j : ℕ). record { key = ranked j; id = j }) others =
      map_same_in (offer p) (λ (j : ℕ). record { key = ranked j; id = j }) others
      (λ j k. ap (λ (x : Float). record { key = key_of binary32 x; id = j }) (far_is j (in_others p here k))) in
      let held_are : held ≡ first_by ranked m others =
      ap (map id_in) (n.first ∙ ap₂ (λ (a : ℕ) (l : List Keyed). first_by key_in a l) many same ∙ first_map key_in (λ (j : ℕ). record { key = ranked j; id = j }) m others)
      ∙ map-map (λ (j : ℕ). record { key = ranked j; id = j }) id_in (first_by ranked m others)
      ∙ map-id (first_by ranked m others) in
      let nodes : map (node_in p) held ≡ candidates_at D vs p.nodes.now p.i =
      ap (map (node_in p)) held_are ∙ sym (first_map (rank vs node) (node_in p) m others) ∙ ap (first_by (rank vs node) m) (others_nodes p here) in
      record {
        nodes = ap (map node_of) g ∙ map-map (candidate_in p) node_of (take r pairs) ∙ sym (map-map id_in (node_in p) (take r pairs)) ∙ nodes;
        fars =
            ap (map far_of) g
            ∙ map-map (candidate_in p) far_of (take r pairs)
            ∙ sym (map-map id_in (far_in_lane p) (take r pairs))
            ∙ map_same_in (far_in_lane p) (λ (j : ℕ). between vs node (node_in p j)) held (λ j k. far_is j (held_below p here r pairs n j k))
            ∙ sym (map-map (node_in p) (between vs node) held)
            ∙ ap (map (between vs node)) nodes;
      }

-- the same where the pairs are the front of a longer slice
module _ (p : Place) (D : ℕ) (fits : LaneFits p D) (r most : ℕ) (pairs rest : List Keyed) (a : length pairs ≡ most) (n : NearestPlaces p r pairs) where
  front : take r (pairs ++ rest) ≡ take r pairs
  front = take-append-le r pairs rest n.few

  pub front_below : Below (size_of p) (map id_in (take r (pairs ++ rest)))
  front_below = subst (λ (l : List Keyed). Below (size_of p) (map id_in l)) (sym front) (held_below p fits.lanes.place_is r pairs n)

  pub gathered_are : (candidates : List Candidate) → most ≡ 2 * min D (size_of p - 1) → most ≤ 64
      → NodesAt p (take r (pairs ++ rest)) candidates → Candidates p D candidates
  gathered_are candidates e few g =
      let g' : NodesAt p (take r pairs) candidates = subst (λ (l : List Keyed). NodesAt p l candidates) front g in
      record {
        few = omega (arith, ap length g', length-map (take r pairs) (candidate_in p), length-take-le r pairs n.few, n.few);
        none = λ z. absurd (z fits);
        are = λ vs ready. candidates_are p D vs ready r pairs candidates (a ∙ e) n g';
      }

-- none, where the sizes do not fit
pub none_are : (p : Place) (D : ℕ) (candidates : List Candidate) → candidates ≡ [] → (LaneFits p D → ⊥) → Candidates p D candidates
none_are p D candidates e unfit = record { few = omega (arith, ap length e); none = λ _. e; are = λ vs ready. absurd (unfit ready.sizes) }
