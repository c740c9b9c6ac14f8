-- Leaf after leaf: where each stands among the nodes, and the rows after the first k of them; and the hyperplanes. Assumes nothing.
use mathlib.Core.Path.{◌≡◌, refl, sym, ap, ap₂, subst, ◌∙◌}
use mathlib.Core.List.{List, [], ◌∷◌, ◌++◌, map, flatten, append-nil, append_assoc, Memᴰ as In}
use Prim.Native.Nat.{ℕ, zero, suc, ◌+◌, ◌*◌, ◌/◌, ◌≤◌, ◌<◌}
use native.Mathlib.Nat.{mul-le-mul}
use native.Mathlib.Omega.{arith}
use native.Mathlib.Numerals.{add-one}
use lib.ListN.{length, get_or, take, drop, length-map, length-append}
use lib.Seq.{take-suc, take_all, take_at, drop_at, split_at}
use lib.Ieee.{Float, binary32}
use lib.Dec.{leb}
use Rattle.basics.specs.Choice.{pick_ind}
use Rattle.basics.proofs.Members.{in_get_d, in_take, in_drop}
use Rattle.random.specs.Hyperplanes.{plane_numbers}
use Rattle.simhash.specs.Inside.Blocks.{plane_blocks}
use Rattle.simhash.proofs.Blocks.{length_blocks}
use Rattle.distance.specs.Vectors.{vectors_of}
use Rattle.def_graph.specs.Leaf.{build_leaf, build_leaves}
use Rattle.def_graph.proofs.leaf.Laws.{build_append}
use Rattle.lists.specs.Inside.Words.{Blocks}
use Rattle.build_leaf.specs.declared.Builder.{Builder}
use Rattle.build_leaf.specs.Inside.Built.{Setting, LeafHeld, LeafBuilt, LeavesIn, LeavesBuilt, PlanesMade}
use Rattle.build_leaf.proofs.Rows.{places_length}

-- ---- where leaves stand

flatten_append : (a b : List (List ℕ)) → flatten (a ++ b) ≡ flatten a ++ flatten b
unfolding flatten
flatten_append [] b = refl
flatten_append (x ∷ a) b = ap (λ (l : List ℕ). x ++ l) (flatten_append a b) ∙ sym (append_assoc x (flatten a) (flatten b))

map_at : (l : List (List ℕ)) (i : ℕ) → i < length l → get_or (map length l) i 0 ≡ length (get_or l i [])
map_at [] i h = absurd (omega arith)
map_at (x ∷ l) zero h = refl
map_at (x ∷ l) (suc i) h = map_at l i (omega arith)

-- the leaves before the k-th, the k-th, and what follows
leaves_split : (leaves : List (List ℕ)) (rest : List ℕ) (k : ℕ) → k < length leaves
    → flatten leaves ++ rest ≡ flatten (take k leaves) ++ (get_or leaves k [] ++ (flatten (drop (suc k) leaves) ++ rest))
unfolding flatten
leaves_split leaves rest k h =
    ap (λ (l : List (List ℕ)). flatten l ++ rest) (split_at leaves k [] h)
    ∙ ap (λ (l : List ℕ). l ++ rest) (flatten_append (take k leaves) (get_or leaves k [] ∷ drop (suc k) leaves))
    ∙ append_assoc (flatten (take k leaves)) (get_or leaves k [] ++ flatten (drop (suc k) leaves)) rest
    ∙ ap (λ (l : List ℕ). flatten (take k leaves) ++ l) (append_assoc (get_or leaves k []) (flatten (drop (suc k) leaves)) rest)

flatten_more : (leaves : List (List ℕ)) (k : ℕ) → k < length leaves → length (flatten (take (suc k) leaves)) ≡ length (flatten (take k leaves)) + length (get_or leaves k [])
unfolding flatten
flatten_more leaves k h =
    ap (λ (l : List (List ℕ)). length (flatten l)) (take-suc leaves k [] h)
    ∙ ap length (flatten_append (take k leaves) (get_or leaves k [] ∷ []))
    ∙ length-append (flatten (take k leaves)) (get_or leaves k [] ++ [])
    ∙ ap (λ (l : List ℕ). length (flatten (take k leaves)) + length l) (append-nil (get_or leaves k []))

-- ---- the first k leaves

pub record After (b : Builder) (rs leaves : List (List ℕ)) (k at : ℕ) (rows : List ℕ) : Type 0 where
  pub at_is : at ≡ length (flatten (take k leaves))
  pub rows_are : Blocks b.params.degree (build_leaves b.params.degree b.params.bits b.vectors.dimension (vectors_of b.vectors) (take k leaves) rs) rows

abbrev pub LeavesTo : Builder → List ℕ → List ℕ → ℕ → ℕ → ℕ → List ℕ → List ℕ → Type 0
LeavesTo b nodes sizes room k at rows rows' =
    (n : ℕ) (rs leaves : List (List ℕ)) → Setting n b → length rs ≡ n → LeavesIn n leaves nodes sizes room
    → Blocks b.params.degree rs rows → After b rs leaves k at rows'

leaf_length : (D bits d : ℕ) (vs : List (List Float)) (leaf : List ℕ) (rs : List (List ℕ)) → length (build_leaf D bits d vs leaf rs) ≡ length rs
unfolding build_leaf
leaf_length D bits d vs leaf rs =
    pick_ind (λ (l : List (List ℕ)). length l ≡ length rs) (leb (length leaf) 1) (λ _. refl) (λ _. places_length D bits d vs leaf rs (length leaf))

leaves_length : (D bits d : ℕ) (vs : List (List Float)) (leaves rs : List (List ℕ)) → length (build_leaves D bits d vs leaves rs) ≡ length rs
unfolding build_leaves
leaves_length D bits d vs [] rs = refl
leaves_length D bits d vs (leaf ∷ leaves) rs = leaves_length D bits d vs leaves (build_leaf D bits d vs leaf rs) ∙ leaf_length D bits d vs leaf rs

one_more : (D bits d : ℕ) (vs : List (List Float)) (leaves : List (List ℕ)) (k : ℕ) (rs : List (List ℕ)) → k < length leaves
    → build_leaf D bits d vs (get_or leaves k []) (build_leaves D bits d vs (take k leaves) rs) ≡ build_leaves D bits d vs (take (suc k) leaves) rs
unfolding build_leaves
one_more D bits d vs leaves k rs h =
    sym (build_append D bits d vs (take k leaves) (get_or leaves k [] ∷ []) rs)
    ∙ ap (λ (l : List (List ℕ)). build_leaves D bits d vs l rs) (sym (take-suc leaves k [] h))

module _ (b : Builder) (nodes sizes : List ℕ) (room : ℕ) (rows : List ℕ) where
  abbrev D : ℕ
  D = b.params.degree

  abbrev bits : ℕ
  bits = b.params.bits

  abbrev d : ℕ
  d = b.vectors.dimension

  pub leaves_none : LeavesTo b nodes sizes room 0 0 rows rows
  unfolding build_leaves flatten
  leaves_none n rs leaves s many held blocks = record { at_is = refl; rows_are = blocks }

  -- leaf k as the sizes cut it out of the nodes
  module _ (n k at end : ℕ) (leaves : List (List ℕ)) (held : LeavesIn n leaves nodes sizes room) (h : k < length sizes)
      (a : at ≡ length (flatten (take k leaves))) (e : end ≡ at + get_or sizes k 0) where
    here : k < length leaves
    here = omega (arith, ap length held.sizes_are, length-map leaves length)

    size_is : get_or sizes k 0 ≡ length (get_or leaves k [])
    size_is = ap (λ (l : List ℕ). get_or l k 0) held.sizes_are ∙ map_at leaves k here

    pub leaf_there : end ≤ length nodes
    leaf_there =
        let front : List ℕ = flatten (take k leaves) in
        let leaf : List ℕ = get_or leaves k [] in
        let tail : List ℕ = flatten (drop (suc k) leaves) ++ held.rest in
        omega (arith, ap length (held.nodes_are ∙ leaves_split leaves held.rest k here), length-append front (leaf ++ tail), length-append leaf tail, size_is)

    pub leaf_is : (m : ℕ) → m ≡ get_or sizes k 0 → take m (drop at nodes) ≡ get_or leaves k []
    leaf_is m q =
        let front : List ℕ = flatten (take k leaves) in
        let leaf : List ℕ = get_or leaves k [] in
        let tail : List ℕ = flatten (drop (suc k) leaves) ++ held.rest in
        ap (λ (l : List ℕ). take m (drop at l)) (held.nodes_are ∙ leaves_split leaves held.rest k here)
        ∙ ap (take m) (drop_at front (leaf ++ tail) at (sym a))
        ∙ take_at leaf tail m (sym (q ∙ size_is))

    pub leaf_held : LeafHeld n (get_or leaves k []) room
    leaf_held = record {
      below = λ x m. held.nodes_below x (in_drop at nodes (in_take (get_or sizes k 0) (drop at nodes) (subst (In x) (sym (leaf_is (get_or sizes k 0) refl)) m)));
      fits = omega (arith, held.leaf_most (get_or leaves k []) (in_get_d leaves k [] here), held.room_is);
      few = held.leaf_most (get_or leaves k []) (in_get_d leaves k [] here);
    }

  pub leaves_more : (k at end m : ℕ) (now next : List ℕ) → k < length sizes → end ≡ at + get_or sizes k 0 → m ≡ get_or sizes k 0
      → LeavesTo b nodes sizes room k at rows now
      → LeafBuilt b (take m (drop at nodes)) room now next
      → LeavesTo b nodes sizes room (k + 1) end rows next
  leaves_more k at end m now next h e q to built n rs leaves s many held blocks =
      let vs : List (List Float) = vectors_of b.vectors in
      let after : After b rs leaves k at now = to n rs leaves s many held blocks in
      let inside : k < length leaves = here n k at end leaves held h after.at_is e in
      let leaf : List ℕ = get_or leaves k [] in
      let is : take m (drop at nodes) ≡ leaf = leaf_is n k at end leaves held h after.at_is e m q in
      let before : List (List ℕ) = build_leaves D bits d vs (take k leaves) rs in
      let done : Blocks D (build_leaf D bits d vs leaf before) next =
      subst (λ (l : List ℕ). LeafBuilt b l room now next) is built n before s (leaves_length D bits d vs (take k leaves) rs ∙ many)
      (leaf_held n k at end leaves held h after.at_is e) after.rows_are in
      record {
        at_is = omega (arith, after.at_is, size_is n k at end leaves held h after.at_is e, flatten_more leaves k inside, ap (λ (i : ℕ). length (flatten (take i leaves))) (add-one k));
        rows_are = subst (λ (l : List (List ℕ)). Blocks D l next) (one_more D bits d vs leaves k rs inside ∙ ap (λ (i : ℕ). build_leaves D bits d vs (take i leaves) rs) (sym (add-one k))) done;
      }

  -- sizes that run past the nodes are not those of leaves
  pub leaves_cut : (k at end : ℕ) (now : List ℕ) → k < length sizes → end ≡ at + get_or sizes k 0 → length nodes < end
      → LeavesTo b nodes sizes room k at rows now → LeavesBuilt b nodes sizes room rows now
  leaves_cut k at end now h e past to n rs leaves s many held blocks =
      absurd (omega (arith, leaf_there n k at end leaves held h (to n rs leaves s many held blocks).at_is e))

  pub leaves_last : (k at : ℕ) (now : List ℕ) → length sizes ≤ k → LeavesTo b nodes sizes room k at rows now
      → LeavesBuilt b nodes sizes room rows now
  leaves_last k at now h to n rs leaves s many held blocks =
      let all : take k leaves ≡ leaves = take_all k leaves (omega (arith, ap length held.sizes_are, length-map leaves length)) in
      subst (λ (l : List (List ℕ)). Blocks D (build_leaves D bits d (vectors_of b.vectors) l rs) now) all (to n rs leaves s many held blocks).rows_are

-- ---- the hyperplanes

pub planes_made : (d bits room : ℕ) (numbers rest planes : List Float) → numbers ≡ plane_numbers binary32 1024 ++ rest → planes ≡ plane_blocks numbers d bits room
    → PlanesMade d bits room planes
planes_made d bits room numbers rest planes e p size few small =
    let product : bits * d ≤ 16 * 64 = mul-le-mul small few in
    let half : (bits + 7) / 8 ≤ 2 = omega arith in
    let wide : 8 * d ≤ 512 = omega arith in
    let blocks : (bits + 7) / 8 * (8 * d) ≤ 2 * 512 = mul-le-mul half wide in
    let long : length planes ≡ room = ap length p ∙ length_blocks numbers d bits room in
    record {
      numbers = 1024;
      rest = rest;
      enough = omega arith;
      room = omega arith;
      are = p ∙ ap₂ (λ (l : List Float) (k : ℕ). plane_blocks l d bits k) e (sym long);
    }
