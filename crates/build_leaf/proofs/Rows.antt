-- One row's block passed on and returned, and the places of a leaf one after the other. Assumes nothing.
use mathlib.Core.Path.{◌≡◌, refl, sym, ap, ap₂, subst, ◌∙◌}
use mathlib.Core.List.{List, [], ◌++◌, map}
use Prim.Native.Nat.{ℕ, zero, suc, ◌+◌, ◌-◌, ◌*◌, ◌/◌, ◌≤◌, ◌<◌, min}
use native.Mathlib.Nat.{suc-mul, mul-le-mul, mul-le-mul_right, mul-div_cancel}
use native.Mathlib.Omega.{arith}
use native.Mathlib.Numerals.{add-one}
use lib.ListN.{length, get_or, take, drop, set, length-set, length-map}
use lib.Seq.{drop-drop}
use lib.Ieee.{Float}
use denote.Ref.{Bor}
use borrow.Author.Tests.{le-leb, lt-leb}
use borrow.Rule.Slice.PartMut.{put_mid}
use Rattle.basics.specs.Choice.{pick_true, pick_false}
use Rattle.basics.specs.Nodes.{Below}
use Rattle.basics.proofs.Members.{in_get_d}
use Rattle.distance.specs.Vectors.{vectors_of, between}
use Rattle.distance.specs.declared.vectors.Vectors.{Vectors}
use Rattle.def_graph.specs.Leaf.{selected, merged, hashprune_insert, candidates_at, places_to, build_leaf}
use Rattle.def_graph.proofs.leaf.Laws.{merged_short, candidates_in, candidates_few}
use Rattle.store.specs.Layout.{row_size}
use Rattle.store.specs.View.{row_block}
use Rattle.lists.specs.Inside.Words.{Blocks}
use Rattle.lists.proofs.Blocks.{block_length, blocks_length, nth_block, put_block}
use Rattle.hashprune.specs.Inside.Hashprune.{Inserted, node_of, far_of}
use Rattle.hashprune.specs.declared.Candidate.{Candidate}
use Rattle.build_leaf.specs.Inside.Lanes.{Distances}
use Rattle.build_leaf.specs.Inside.Candidates.{node_in, LaneReady, CandidatesAre, Candidates}
use Rattle.build_leaf.specs.declared.Builder.{Builder}
use Rattle.build_leaf.specs.declared.LeafParams.{LeafParams}
use Rattle.build_leaf.specs.declared.leaf_candidates.Place.{Place}
use Rattle.build_leaf.specs.Inside.Built.{Sizes, Setting, RowPut, PlacePut, LeafHeld, PlacesPut, LeafBuilt}

-- where a row starts is a number that a word of the machine holds
pub place_fits : (a b : ℕ) → a ≤ 4294967295 → b ≤ 65536 → a * b ≤ 4294967295 * 65536
place_fits a b h k = mul-le-mul h k

-- there are as many vectors as nodes
vectors_many : (n : ℕ) (p : LeafParams) (v : Vectors) → Sizes n p v → length v.components.now / v.dimension ≡ n
vectors_many n p v s = ap (λ (k : ℕ). k / v.dimension) s.vectors_are ∙ mul-div_cancel n s.dimension_some

-- ---- one row

module _ (b : Builder) (node : ℕ) (cs : List Candidate) (ws : List ℕ) where
  abbrev p : LeafParams
  p = b.params

  abbrev v : Vectors
  v = b.vectors

  abbrev candidates : List ℕ
  candidates = map node_of cs

  abbrev far : List Float
  far = map far_of cs

  -- a row that does not stand in the words
  pub row_none : length ws < node * row_size p.degree + row_size p.degree → RowPut b node candidates far ws ws
  row_none h n rs s many l below few is blocks =
      let long : suc node * row_size p.degree ≤ n * row_size p.degree = mul-le-mul_right (row_size p.degree) l in
      absurd (omega (arith, blocks_length p.degree rs ws blocks, ap (λ (k : ℕ). k * row_size p.degree) many, suc-mul node (row_size p.degree)))

  pub row_put : (at k : ℕ) (part : List ℕ) → at ≡ node * row_size p.degree → k ≡ row_size p.degree
      → Inserted (record { node = record { 0 = node }; bits = p.bits }) v b.planes.now cs (take k (drop at ws)) part → RowPut b node candidates far ws (put_mid at k ws part)
  unfolding hashprune_insert
  row_put at k part e size inserted n rs s many l below few is blocks =
      let vs : List (List Float) = vectors_of v in
      let old : List ℕ = get_or rs node [] in
      let new : List ℕ = merged p.degree vs node old (selected p.degree p.bits v.dimension vs node candidates) in
      let row : List ℕ = take k (drop at ws) in
      let here : node < length rs = omega arith in
      let vectors-n : length v.components.now / v.dimension ≡ n = vectors_many n p v s.sizes in
      let row_is : row ≡ row_block p.degree old = ap₂ (λ (m : ℕ) (a : ℕ). take m (drop a ws)) size e ∙ nth_block p.degree rs ws blocks node here in
      let long : length row ≡ 1 + p.degree = ap length row_is ∙ block_length p.degree old (blocks.short node) in
      let deg : length row - 1 ≡ p.degree = omega arith in
      let part-is : part ≡ row_block p.degree new =
      inserted old (record {
        dimension_some = s.sizes.dimension_some;
        dimension_most = s.sizes.dimension_most;
        bits_most = s.sizes.bits_most;
        planes_are = s.planes_are;
        p_there = omega arith;
        candidates_most = few;
        candidates_there = λ x m. omega (arith, below x m);
        far_is = is;
        row_some = omega arith;
        row_most = omega (arith, s.sizes.degree_most);
        old_most = omega (arith, blocks.short node);
        row_is = row_is ∙ ap (λ (m : ℕ). row_block m old) (sym deg);
      })
      ∙ ap (λ (m : ℕ). row_block m (merged m vs node old (selected m p.bits v.dimension vs node candidates))) deg in
      let past : at + k ≡ suc node * row_size p.degree = omega (arith, suc-mul node (row_size p.degree)) in
      let put : Blocks p.degree (set rs node new) (take (node * row_size p.degree) ws ++ (row_block p.degree new ++ drop (suc node * row_size p.degree) ws)) =
      put_block p.degree rs ws blocks node new here (merged_short p.degree vs node old (selected p.degree p.bits v.dimension vs node candidates)) in
      let words : take (node * row_size p.degree) ws ++ (row_block p.degree new ++ drop (suc node * row_size p.degree) ws) ≡ put_mid at k ws part =
      ap₂ (λ (a : ℕ) (z : ℕ). take a ws ++ (row_block p.degree new ++ drop z ws)) (sym e) (sym past)
      ∙ ap₂ (λ (x : List ℕ) (z : List ℕ). take at ws ++ (x ++ z)) (sym part-is) (sym (drop-drop k at ws)) in
      subst (Blocks p.degree (set rs node new)) words put

-- ---- one place

pub place_put : (b : Builder) (pl : Place) (rows rows' : List ℕ) (candidates : List Candidate) → pl.i < length pl.nodes.now
    → Candidates pl b.params.degree candidates
    → RowPut b (node_in pl pl.i) (map node_of candidates) (map far_of candidates) rows rows' → PlacePut b pl rows rows'
place_put b pl rows rows' candidates h c put n rs s many below ready blocks =
    let leaf : List ℕ = pl.nodes.now in
    let D : ℕ = b.params.degree in
    let vs : List (List Float) = vectors_of b.vectors in
    let are : CandidatesAre pl D vs candidates = c.are vs ready in
    let found : List ℕ = candidates_at D vs leaf pl.i in
    let node : ℕ = node_in pl pl.i in
    subst (λ (l : List ℕ). Blocks D (hashprune_insert D b.params.bits b.vectors.dimension vs node l rs) rows') are.nodes
    (put n rs s many (below node (in_get_d leaf pl.i 0 h))
    (subst (Below n) (sym are.nodes) (λ x m. below x (candidates_in D vs leaf pl.i m)))
    (omega (arith, length-map candidates node_of, ap length are.nodes, candidates_few D vs leaf pl.i, s.sizes.degree_most))
    (are.fars ∙ ap (map (between vs node)) (sym are.nodes))
    blocks)

-- ---- several places

pub places_length : (D bits d : ℕ) (vs : List (List Float)) (leaf : List ℕ) (rs : List (List ℕ)) (i : ℕ) → length (places_to D bits d vs leaf rs i) ≡ length rs
unfolding places_to hashprune_insert
places_length D bits d vs leaf rs zero = refl
places_length D bits d vs leaf rs (suc i) = length-set (places_to D bits d vs leaf rs i) (get_or leaf i 0) _ ∙ places_length D bits d vs leaf rs i

next_place : (D bits d : ℕ) (vs : List (List Float)) (leaf : List ℕ) (rs : List (List ℕ)) (i : ℕ)
    → hashprune_insert D bits d vs (get_or leaf i 0) (candidates_at D vs leaf i) (places_to D bits d vs leaf rs i) ≡ places_to D bits d vs leaf rs (i + 1)
unfolding places_to
next_place D bits d vs leaf rs i = ap (places_to D bits d vs leaf rs) (sym (add-one i))

module _ (b : Builder) (nodes : Bor (List ℕ)) (first : ℕ) (floats : Bor (List Float)) (rows : List ℕ) where
  abbrev leaf : List ℕ
  leaf = nodes.now

  -- a place, as the code has it
  abbrev pub place_of : ℕ → ℕ → Place
  place_of i lane = record { nodes = nodes; i = i; floats = floats; lane = lane }

  pub places_none : PlacesPut b leaf first first floats.now rows rows
  places_none n rs s many held lanes blocks = blocks

  pub places_more : (i lane : ℕ) (now next : List ℕ) → first ≤ i → i < first + 8 → i < length leaf → lane ≡ i - first
      → PlacesPut b leaf first i floats.now rows now → PlacePut b (place_of i lane) now next → PlacesPut b leaf first (i + 1) floats.now rows next
  places_more i lane now next a l h e placed put n rs s many held lanes blocks =
      let D : ℕ = b.params.degree in
      let bits : ℕ = b.params.bits in
      let d : ℕ = b.vectors.dimension in
      let vs : List (List Float) = vectors_of b.vectors in
      let before : List (List ℕ) = places_to D bits d vs leaf rs i in
      let place : min (first + lane) (length leaf - 1) ≡ i = omega arith in
      let ready : LaneReady (place_of i lane) D vs = record {
        sizes = record {
          lanes = record { place_is = h; lane_is = omega arith; floats_fit = held.fits; size_most = omega (arith, held.few, s.sizes.nodes_most) };
          degree_most = s.sizes.degree_most;
        };
        distances = lanes lane (omega arith) ∙ ap (λ (x : ℕ). map (between vs (get_or leaf x 0)) leaf) place;
      } in
      subst (λ (rows : List (List ℕ)). Blocks D rows next) (next_place D bits d vs leaf rs i)
      (put n before s (places_length D bits d vs leaf rs i ∙ many) held.below ready (placed n rs s many held lanes blocks))

-- ---- a leaf

-- the places before `first`
abbrev pub LeafTo : Builder → List ℕ → ℕ → ℕ → List ℕ → List ℕ → Type 0
LeafTo b leaf room first rows rows' =
    (n : ℕ) (rs : List (List ℕ)) → Setting n b → length rs ≡ n → LeafHeld n leaf room
    → Blocks b.params.degree rs rows
    → Blocks b.params.degree (places_to b.params.degree b.params.bits b.vectors.dimension (vectors_of b.vectors) leaf rs first) rows'

module _ (b : Builder) (nodes : Bor (List ℕ)) (room : ℕ) (rows : List ℕ) where
  pub leaf_single : length nodes.now ≤ 1 → LeafBuilt b nodes.now room rows rows
  unfolding build_leaf
  leaf_single h n rs s many held blocks =
      subst (λ (l : List (List ℕ)). Blocks b.params.degree l rows) (sym (pick_true rs _ (le-leb (length nodes.now) 1 h))) blocks

  pub leaf_first : LeafTo b nodes.now room 0 rows rows
  unfolding places_to
  leaf_first n rs s many held blocks = blocks

  pub leaf_more : (first end : ℕ) (floats : List Float) (now next : List ℕ) → first < length nodes.now → length floats ≡ room
      → LeafTo b nodes.now room first rows now → Distances (record { vectors = b.vectors; nodes = nodes }) first room floats
      → PlacesPut b nodes.now first end floats now next → LeafTo b nodes.now room end rows next
  leaf_more first end floats now next h e to far put n rs s many held blocks =
      put n rs s many (record { below = held.below; fits = omega (arith, held.fits); few = held.few })
      (far s.sizes.dimension_most h held.fits (λ x m. omega (arith, held.below x m, vectors_many n b.params b.vectors s.sizes)))
      (to n rs s many held blocks)

  pub leaf_last : (first : ℕ) (now : List ℕ) → 1 < length nodes.now → first ≡ length nodes.now → LeafTo b nodes.now room first rows now → LeafBuilt b nodes.now room rows now
  unfolding build_leaf
  leaf_last first now h e to n rs s many held blocks =
      subst (λ (l : List (List ℕ)). Blocks b.params.degree l now)
      (ap (places_to b.params.degree b.params.bits b.vectors.dimension (vectors_of b.vectors) nodes.now rs) e ∙ sym (pick_false rs _ (lt-leb (length nodes.now) 1 h)))
      (to n rs s many held blocks)
