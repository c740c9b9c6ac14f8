-- Lanes of a block: what a write leaves of each, a lane written from its first component to its last, and eight numbers written side by side.
-- Assumes nothing.
use mathlib.Core.Path.{◌≡◌, refl, sym, ap, ap₂, subst, ◌∙◌}
use mathlib.Core.List.{List, [], ◌∷◌, ◌++◌, map, map-append}
use Prim.Native.Nat.{ℕ, zero, suc, ◌+◌, ◌-◌, ◌*◌, ◌/◌, ◌≤◌, ◌<◌, min}
use native.Mathlib.Nat.{mul-div_cancel_left, div-mul-le_self, mul-le-mul_right, suc-mul}
use native.Mathlib.Omega.{arith}
use native.Mathlib.Decide.{dec_lt}
use native.Mathlib.Numerals.{add-one}
use lib.ListN.{length, get_or, take, drop, set, length-set, length-drop, get_or-append, get_or-eq_default}
use lib.Seq.{take-suc, take_all, get_or-set_same, get_or-set_other, get_or-take, get_or-append-add, length-take-le}
use lib.Ieee.{Float, binary32, nan}
use Rattle.basics.proofs.Members.{in_get_d}
use Rattle.basics.proofs.Pieces.{nth_piece, length_pieces}
use Rattle.simd.specs.Inside.Eight.{lane_of, row_in}
use Rattle.distance.specs.Distance.{distance_of, block_distances_of}
use Rattle.distance.specs.Vectors.{vectors_in, vectors_of, vector_of, between}
use Rattle.distance.proofs.vectors.Laws.{between-sym}
use Rattle.build_leaf.specs.declared.leaf_distances.Leaf.{Leaf}
use Rattle.build_leaf.specs.Inside.Lanes.{node_at, vector_at, LanePut, BlockTurned, LanesFilled, Distances}

-- ---- a write

-- lanes whose components stand elsewhere
lane_kept : (block after : List Float) (k n : ℕ) → ((i : ℕ) → i < n → get_or after (8 * i + k) nan ≡ get_or block (8 * i + k) nan) → lane_of after k n ≡ lane_of block k n
unfolding lane_of
lane_kept block after k zero h = refl
lane_kept block after k (suc n) h =
    ap₂ (λ (l : List Float) (x : Float). l ++ (x ∷ [])) (lane_kept block after k n (λ i l. h i (omega arith))) (h n (omega arith))

-- the next component of a lane
lane_next : (block : List Float) (k n : ℕ) (x : Float) → get_or block (8 * n + k) nan ≡ x → lane_of block k (suc n) ≡ lane_of block k n ++ (x ∷ [])
unfolding lane_of
lane_next block k n x e = ap (λ (y : Float). lane_of block k n ++ (y ∷ [])) e

-- ---- one lane

pub record Putting (g : ℕ) (v before : List Float) (c : ℕ) (now : List Float) : Type 0 where
  pub size : length now ≡ length before
  pub put : lane_of now g c ≡ take c v
  pub kept : (k n : ℕ) → k < 8 → (k ≡ g → ⊥) → lane_of now k n ≡ lane_of before k n

module _ (g : ℕ) (v before : List Float) (l : g < 8) (room : 8 * length v ≤ length before) where
  pub putting_none : Putting g v before 0 before
  unfolding lane_of
  putting_none = record { size = refl; put = refl; kept = λ k n a b. refl }

  pub putting_more : (c at : ℕ) (now : List Float) → c < length v → at ≡ 8 * c + g → Putting g v before c now → Putting g v before (c + 1) (set now at (get_or v c nan))
  putting_more c at now h e p =
      let x : Float = get_or v c nan in
      let here : get_or (set now at x) (8 * c + g) nan ≡ x = ap (λ (i : ℕ). get_or (set now at x) i nan) (sym e) ∙ get_or-set_same now at x nan (omega (arith, p.size)) in
      let same : lane_of (set now at x) g c ≡ lane_of now g c = lane_kept now (set now at x) g c (λ i k. get_or-set_other now at (8 * i + g) x nan (λ q. omega arith)) in
      record {
        size = length-set now at x ∙ p.size;
        put =
            ap (lane_of (set now at x) g) (add-one c)
            ∙ lane_next (set now at x) g c x here
            ∙ ap (λ (m : List Float). m ++ (x ∷ [])) (same ∙ p.put)
            ∙ sym (ap (λ (i : ℕ). take i v) (add-one c) ∙ take-suc v c nan h);
        kept = λ k n a b. lane_kept now (set now at x) k n (λ i q. get_or-set_other now at (8 * i + k) x nan (λ w. b (omega arith))) ∙ p.kept k n a b;
      }

  pub putting_all : (c : ℕ) (now : List Float) → length v ≤ c → Putting g v before c now → c ≤ length v → LanePut g v before now
  putting_all c now h p q =
      let e : c ≡ length v = omega arith in
      record {
        put = ap (lane_of now g) (sym e) ∙ p.put ∙ take_all c v h;
        kept = p.kept;
      }

-- ---- the block

module _ (leaf : Leaf) (first : ℕ) where
  pub turned_none : (block : List Float) → BlockTurned leaf first 0 block
  turned_none block g h = absurd (omega arith)

  pub turned_more : (g place : ℕ) (before after v : List Float) → g < 8 → place ≡ min (first + g) (length leaf.nodes.now - 1)
      → v ≡ vector_of (vectors_of leaf.vectors) (get_or leaf.nodes.now place 0) → BlockTurned leaf first g before → LanePut g v before after → BlockTurned leaf first (g + 1) after
  turned_more g place before after v l e q turned put k h = go (dec_lt k g)
    where
      vec : ℕ → List Float
      vec i = vector_at leaf (first + i)

      this : v ≡ vec g
      this = q ∙ ap (λ (i : ℕ). vector_of (vectors_of leaf.vectors) (get_or leaf.nodes.now i 0)) e

      last : k ≡ g → lane_of after k (length (vec k)) ≡ vec k
      last w = subst (λ (i : ℕ). lane_of after i (length (vec i)) ≡ vec i) (sym w) (subst (λ (x : List Float). lane_of after g (length x) ≡ x) this put.put)

      go : Dec (k < g) → lane_of after k (length (vec k)) ≡ vec k
      go (yes b) = put.kept k (length (vec k)) (omega arith) (λ w. omega arith) ∙ turned k b
      go (no n) = last (omega arith)

-- ---- eight numbers side by side

-- which of the eight is the distance to row g
eight_at : (q block : List Float) (g : ℕ) → g < 8 → get_or (block_distances_of q block) g nan ≡ distance_of binary32 q (row_in block g)
eight_at q block zero h = refl
eight_at q block (suc zero) h = refl
eight_at q block (suc (suc zero)) h = refl
eight_at q block (suc (suc (suc zero))) h = refl
eight_at q block (suc (suc (suc (suc zero)))) h = refl
eight_at q block (suc (suc (suc (suc (suc zero))))) h = refl
eight_at q block (suc (suc (suc (suc (suc (suc zero)))))) h = refl
eight_at q block (suc (suc (suc (suc (suc (suc (suc zero))))))) h = refl
eight_at q block (suc (suc (suc (suc (suc (suc (suc (suc g)))))))) h = absurd (omega arith)

module _ (l : Leaf) (block : List Float) where
  abbrev leaf : List ℕ
  leaf = l.nodes.now

  abbrev vs : List (List Float)
  vs = vectors_of l.vectors

  pub filled_none : (floats : List Float) → LanesFilled l block 0 floats
  unfolding lane_of
  filled_none floats g h = refl

  pub filled_more : (j at : ℕ) (floats next e : List Float) → j < length leaf → at ≡ 8 * j → at + 8 ≤ length floats
      → e ≡ block_distances_of (vector_of vs (get_or leaf j 0)) block → next ≡ take at floats ++ (e ++ drop (at + 8) floats)
      → LanesFilled l block j floats → LanesFilled l block (j + 1) next
  filled_more j at floats next e h a room q w filled g small =
      let to : ℕ → Float = λ u. distance_of binary32 (vector_of vs u) (row_in block g) in
      let rest : List Float = e ++ drop (at + 8) floats in
      let long : length (take at floats) ≡ at = length-take-le at floats (omega arith) in
      let place : 8 * j + g ≡ length (take at floats) + g = omega arith in
      let here : get_or next (8 * j + g) nan ≡ to (get_or leaf j 0) =
      ap₂ (λ (f : List Float) (i : ℕ). get_or f i nan) w place
      ∙ get_or-append-add (take at floats) rest g nan
      ∙ get_or-append e (drop (at + 8) floats) nan g (omega (arith, ap length q))
      ∙ ap (λ (x : List Float). get_or x g nan) q
      ∙ eight_at (vector_of vs (get_or leaf j 0)) block g small in
      let before : lane_of next g j ≡ lane_of floats g j =
      lane_kept floats next g j
      (λ i k. ap (λ (f : List Float). get_or f (8 * i + g) nan) w
      ∙ get_or-append (take at floats) rest nan (8 * i + g) (omega arith)
      ∙ get_or-take at floats (8 * i + g) nan (omega arith)) in
      ap (lane_of next g) (add-one j)
      ∙ lane_next next g j (to (get_or leaf j 0)) here
      ∙ ap (λ (m : List Float). m ++ (to (get_or leaf j 0) ∷ [])) (before ∙ filled g small)
      ∙ sym (map-append to (take j leaf) (get_or leaf j 0 ∷ []))
      ∙ ap (map to) (sym (ap (λ (i : ℕ). take i leaf) (add-one j) ∙ take-suc leaf j 0 h))

  pub filled_all : (j : ℕ) (floats : List Float) → length leaf ≤ j → j ≤ length leaf → LanesFilled l block j floats → LanesFilled l block (length leaf) floats
  filled_all j floats h k filled = let e : j ≡ length leaf = omega arith in subst (λ (i : ℕ). LanesFilled l block i floats) e filled

-- ---- both together

map_same : (f g : ℕ → Float) (l : List ℕ) → ((u : ℕ) → f u ≡ g u) → map f l ≡ map g l
map_same f g [] h = refl
map_same f g (x ∷ l) h = ap₂ (λ (y : Float) (m : List Float). y ∷ m) (h x) (map_same f g l h)

-- a node's vector has d components
pub vector_length : (d : ℕ) (xs : List Float) (u : ℕ) → u < length xs / d → length (vector_of (vectors_in d xs) u) ≡ d
vector_length d xs u h =
    let n : ℕ = length xs / d in
    let whole : n * d ≤ length xs = div-mul-le_self (length xs) d in
    let fits : suc u * d ≤ n * d = mul-le-mul_right d h in
    ap length (nth_piece d n xs u h) ∙ length-take-le d (drop (u * d) xs) (omega (arith, length-drop (u * d) xs, suc-mul u d))

pub vector_short : (d : ℕ) (xs : List Float) (u : ℕ) → length (vector_of (vectors_in d xs) u) ≤ d
vector_short d xs u = go (dec_lt u (length xs / d))
  where
    go : Dec (u < length xs / d) → length (vector_of (vectors_in d xs) u) ≤ d
    go (yes h) = omega (arith, vector_length d xs u h)
    go (no h) = omega (arith, ap length (get_or-eq_default (vectors_in d xs) [] {n = u} (omega (arith, length_pieces d (length xs / d) xs))))

module _ (l : Leaf) (first : ℕ) (block : List Float) where
  abbrev d : ℕ
  d = l.vectors.dimension

  pub distances_are : (room : ℕ) (floats : List Float) → length block ≡ 8 * d
      → BlockTurned l first 8 block → LanesFilled l block (length l.nodes.now) floats → Distances l first room floats
  unfolding between
  distances_are room floats size turned filled few inside fits below g small =
      let leaf : List ℕ = l.nodes.now in
      let vs : List (List Float) = vectors_of l.vectors in
      let p : ℕ = node_at leaf (first + g) in
      let long : length (vector_of vs p) ≡ d = vector_length d l.vectors.components.now p (below p (in_get_d leaf (min (first + g) (length leaf - 1)) 0 (omega arith))) in
      let many : length block / 8 ≡ d = ap (λ (k : ℕ). k / 8) size ∙ mul-div_cancel_left d (omega arith) in
      let row : row_in block g ≡ vector_of vs p = ap (lane_of block g) (many ∙ sym long) ∙ turned g small in
      filled g small
      ∙ ap (map (λ (u : ℕ). distance_of binary32 (vector_of vs u) (row_in block g))) (take_all (length leaf) leaf (omega arith))
      ∙ map_same (λ (u : ℕ). distance_of binary32 (vector_of vs u) (row_in block g)) (between vs p) leaf
      (λ u. ap (distance_of binary32 (vector_of vs u)) row ∙ between-sym vs u p)
