-- Bridges linked one after the other: zeros are the chains of none, and each bridge makes those of one more. Assumes nothing.
use mathlib.Core.Path.{◌≡◌, refl, sym, ap, ◌∙◌, subst}
use mathlib.Core.List.{List, [], ◌∷◌, ◌++◌, map, map-append}
use Prim.Native.Nat.{ℕ, ◌+◌, ◌*◌, ◌/◌, ◌≤◌, ◌<◌, min}
use native.Mathlib.Omega.{arith}
use native.Mathlib.Numerals.{add-one}
use lib.ListN.{length, get_or, take, drop, replicate, length-map, length-append, length-drop, length-replicate, get_or-replicate, get_or-append}
use lib.Seq.{take-append_seam, drop-append_seam, drop-drop}
use Rattle.basics.specs.Graph.{Bridge}
use Rattle.basics.specs.Lists.{pieces}
use Rattle.basics.proofs.Pieces.{length_pieces, pieces_more}
use Rattle.store.specs.Layout.{word, bridge_size}
use Rattle.store.specs.View.{bridge_in}
use Rattle.lists.specs.Inside.Words.{block_at}
use Rattle.lists.proofs.Reading.{block_word}
use Rattle.lists.specs.Inside.Chains.{cleared_links, chain_bridge, Chained, bridges_in}
use Rattle.lists.proofs.chains.Laws.{chain_more}
use Rattle.neighbours.proofs.gathering.Alone.{no_chain}
use Rattle.beam_search.specs.Inside.Steps.{Linking}

-- heads and tails that are cleared are zero
pub cleared_zero : (n : ℕ) (links : List ℕ) → 4 * n ≤ length links → (i : ℕ) → i < 2 * n → get_or (cleared_links n links) i 0 ≡ 0
cleared_zero n links room i h =
    let heads : ℕ = min (2 * n) (length links) in
    get_or-append (replicate heads 0) (drop (2 * n) links) 0 i (omega (arith, length-replicate {A = ℕ} heads 0)) ∙ get_or-replicate heads i 0 0 (omega arith)

-- bridge j of some words
abbrev bridge_of : ℕ → List ℕ → Bridge
bridge_of j ws = bridge_in (block_at bridge_size j ws)

one_more : (j : ℕ) (ws : List ℕ) → bridges_in j ws ++ (bridge_of j ws ∷ []) ≡ bridges_in (j + 1) ws
one_more j ws =
    sym (ap (λ (k : ℕ). bridges_in k ws) (add-one j)
    ∙ ap (map bridge_in) (pieces_more bridge_size j ws)
    ∙ map-append bridge_in (pieces bridge_size j ws) (block_at bridge_size j ws ∷ []))

many_bridges : (j : ℕ) (ws : List ℕ) → length (bridges_in j ws) ≡ j
many_bridges j ws = length-map (pieces 2 j ws) bridge_in ∙ length_pieces 2 j ws

module _ (n : ℕ) (bridges links₀ : List ℕ) where
  -- the first j bridges are linked
  pub record Chaining (j : ℕ) (links : List ℕ) : Type 0 where
    pub within : j ≤ length bridges / 2
    pub kept : length links ≡ length links₀
    pub so_far : n ≤ 1024 → 4 * n ≤ length links₀ → ((i : ℕ) → i < 2 * n → get_or links₀ i 0 ≡ 0) → ((i : ℕ) → i < length bridges → get_or bridges i 0 < n)
        → Chained n (bridges_in j bridges) links

  pub chaining_none : Chaining 0 links₀
  chaining_none = record { within = omega arith; kept = refl; so_far = λ few room zero ends. no_chain n bridges links₀ zero }

  module _ (j : ℕ) (links : List ℕ) (p : Chaining j links) where
    end : ((i : ℕ) → i < length bridges → get_or bridges i 0 < n) → j < length bridges / 2 → (side : ℕ) → side < bridge_size → word (block_at bridge_size j bridges) side < n
    end ends more side h = omega (arith, block_word bridge_size j side bridges h, ends (j * bridge_size + side) (omega arith))

    pub chaining_more : (links' : List ℕ) → length bridges / 2 ≤ n → j < length bridges / 2 → length links' ≡ length links
        → links' ≡ chain_bridge n j (bridge_of j bridges).near (bridge_of j bridges).far links → Chaining (j + 1) links'
    chaining_more links' all more k e = record {
      within = omega arith;
      kept = k ∙ p.kept;
      so_far = λ few room zero ends.
          subst (λ (bs : List Bridge). Chained n bs links') (one_more j bridges)
          (subst (Chained n (bridges_in j bridges ++ (bridge_of j bridges ∷ [])))
          (ap (λ (m : ℕ). chain_bridge n m (bridge_of j bridges).near (bridge_of j bridges).far links) (many_bridges j bridges) ∙ sym e)
          (chain_more n (bridge_of j bridges).near (bridge_of j bridges).far (bridges_in j bridges) links (p.so_far few room zero ends)
          (end ends more 0 (omega arith)) (end ends more 1 (omega arith)) (omega (arith, many_bridges j bridges, p.kept)) (omega (arith, many_bridges j bridges))));
    }

    -- the bridge that is cut from what is left
    pub cut : (some rest rest' : List ℕ) → rest ≡ drop (2 * j) bridges → rest ≡ some ++ rest' → length some ≡ 2
        → (some ≡ block_at bridge_size j bridges) × (rest' ≡ drop (2 * (j + 1)) bridges) × (j < length bridges / 2)
    cut some rest rest' at is two =
        let from : 2 * j ≡ j * bridge_size = omega arith in
        let next : 2 + 2 * j ≡ 2 * (j + 1) = omega arith in
        let left : some ++ rest' ≡ drop (2 * j) bridges = sym is ∙ at in
        let first : take 2 (some ++ rest') ≡ some = ap (λ (k : ℕ). take k (some ++ rest')) (sym two) ∙ take-append_seam some rest' in
        let others : drop 2 (some ++ rest') ≡ rest' = ap (λ (k : ℕ). drop k (some ++ rest')) (sym two) ∙ drop-append_seam some rest' in (
          sym first ∙ ap (take 2) left ∙ ap (λ (k : ℕ). take 2 (drop k bridges)) from,
          sym others ∙ ap (drop 2) left ∙ drop-drop 2 (2 * j) bridges ∙ ap (λ (k : ℕ). drop k bridges) (omega (arith, next)),
          omega (arith, ap length left, length-append some rest', length-drop (2 * j) bridges),
        )

    pub chaining_all : length bridges / 2 ≤ j → Linking n bridges links₀ links
    chaining_all h few room zero ends =
        let all : j ≡ length bridges / 2 = omega (arith, p.within) in
        subst (λ (m : ℕ). Chained n (bridges_in m bridges) links) all (p.so_far few room zero ends)
