-- The turns on words are the definition's: the bridges so far are in their words, chains have every node's list, and marks show which nodes are
-- reached. A turn's bridge starts at a reached node, by the laws of repair, so that the chains take it. Assumes nothing.
use mathlib.Core.Path.{◌≡◌, refl, sym, ap, ap₂, subst, ◌∙◌}
use mathlib.Core.Bool.{Bool, true, false, not}
use mathlib.Core.List.{List, [], ◌∷◌, ◌++◌, map, flatten, Memᴰ as In}
use Prim.Native.Nat.{ℕ, zero, suc, ◌+◌, ◌*◌, ◌≤◌, ◌<◌, min}
use native.Mathlib.Omega.{arith}
use lib.Dec.{eqb}
use lib.ListN.{length, get_or, set, drop, replicate, length-append, length-replicate, length-drop}
use lib.Ieee.{Float}
use Rattle.basics.specs.Choice.{pick_true, pick_false}
use Rattle.basics.specs.Nodes.{has}
use Rattle.basics.specs.Graph.{Bridge, list_of}
use Rattle.basics.proofs.Loops.{front_set}
use Rattle.store.specs.View.{bridge_block}
use Rattle.lists.specs.Inside.Words.{row_lists}
use Rattle.lists.specs.Inside.Chains.{cleared_links, chain_bridge, Chained, bridges_in}
use Rattle.lists.proofs.chains.Laws.{chain_none, chain_more, length_chained, chained_ends, laid_bridges}
use Rattle.lists.specs.declared.Shape.{Shape}
use Rattle.lists.specs.Inside.Lists.{list_words}
use Rattle.graph_utils.proofs.marking.Refining.{Marked, mark_marked}
use Rattle.graph_utils.specs.Inside.Candidates.{start_of}
use Rattle.graph_utils.proofs.candidates.Refining.{start_refines}
use Rattle.def_walk.specs.Repair.{mark_reachable, Repaired, bridge_to, turn, turns_to, ensure_connectivity}
use Rattle.def_walk.proofs.graph_utils.Bridges.{Ends, AllEnds, list_below}
use Rattle.def_walk.proofs.graph_utils.Laws.{Turned, turns_turned}
use Rattle.graph_utils.specs.Inside.Connectivity.{with_bridges, Repairable}
use Rattle.graph_utils.specs.Inside.Turns.{Work, put_bridge, bridged, turned, begun, turned_to, repaired}

-- ---- words of bridges

laid_more : (bs : List Bridge) (b : Bridge) → flatten (map bridge_block (bs ++ (b ∷ []))) ≡ (flatten (map bridge_block bs) ++ (b.near ∷ [])) ++ (b.far ∷ [])
unfolding flatten
laid_more [] b = refl
laid_more (c ∷ bs) b = ap (λ (l : List ℕ). c.near ∷ c.far ∷ l) (laid_more bs b)

laid_length : (bs : List Bridge) → length (flatten (map bridge_block bs)) ≡ 2 * length bs
unfolding flatten
laid_length [] = refl
laid_length (b ∷ bs) = let rec = laid_length bs in omega arith

-- one bridge more
put_more : (bs : List Bridge) (b : Bridge) (words : List ℕ) → 2 * length bs + 1 < length words
    → put_bridge (length bs) b.near b.far (with_bridges bs words) ≡ with_bridges (bs ++ (b ∷ [])) words
put_more bs b words h =
    let p : List ℕ = flatten (map bridge_block bs) in
    let l : length p ≡ 2 * length bs = laid_length bs in
    let many : 2 * length bs + 1 + 1 ≡ 2 * length (bs ++ (b ∷ [])) = omega (arith, length-append bs (b ∷ [])) in
    ap (λ (x : List ℕ). set x (2 * length bs + 1) b.far) (front_set words p (2 * length bs) b.near l (omega arith))
    ∙ front_set words (p ++ (b.near ∷ [])) (2 * length bs + 1) b.far (omega (arith, length-append p (b.near ∷ []))) h
    ∙ ap₂ (λ (x : List ℕ) (k : ℕ). x ++ drop k words) (sym (laid_more bs b)) many

ends_last : (n : ℕ) (bs : List Bridge) (b : Bridge) → AllEnds n (bs ++ (b ∷ [])) → Ends n b
ends_last n [] b a = a.0
ends_last n (c ∷ bs) b a = ends_last n bs b a.1

length_cleared : (n : ℕ) (links : List ℕ) → 2 * n ≤ length links → length (cleared_links n links) ≡ length links
length_cleared n links h =
    omega (arith, length-append (replicate (min (2 * n) (length links)) 0) (drop (2 * n) links), length-replicate {A = ℕ} (min (2 * n) (length links)) 0, length-drop (2 * n) links)

-- ---- the turns

module _ (D : ℕ) (row_words : List ℕ) (entry : ℕ) (vs : List (List Float)) (bridges₀ links₀ : List ℕ) (given : Repairable (row_lists D row_words) entry bridges₀ links₀) where
  abbrev rows : List (List ℕ)
  rows = row_lists D row_words

  abbrev n : ℕ
  n = length rows

  abbrev shape_of : ℕ → Shape
  shape_of k = record { n = k; degree = D }

  abbrev shape : Shape
  shape = shape_of n

  pub record Stands (r : Repaired) (w : Work) : Type 0 where
    pub count_is : w.count ≡ length r.bridges
    pub bridges_are : w.bridges ≡ with_bridges r.bridges bridges₀
    pub chained : Chained n r.bridges w.links
    pub size : length w.links ≡ length links₀
    pub marks_are : Marked n r.reached w.state

  stands_by : {r r' : Repaired} {w w' : Work} → r ≡ r' → w ≡ w' → Stands r' w' → Stands r w
  stands_by {r} {r'} {w} {w'} p q s = subst (λ (x : Repaired). Stands x w) (sym p) (subst (Stands r') (sym q) s)

  -- lists in words and in the definition
  alike : (bs : List Bridge) (bridges links : List ℕ) → bridges ≡ with_bridges bs bridges₀ → Chained n bs links → (u : ℕ) → u < n
      → list_words shape row_words bridges links u ≡ list_of rows bs u
  unfolding list_of
  alike bs bridges links e c u h =
      ap (λ (l : List ℕ). get_or rows u [] ++ l)
      (chained_ends n bs bridges links c (laid_bridges bs (drop (2 * length bs) bridges₀) ∙ ap (bridges_in (length bs)) (sym e)) u h)

  within : (bs : List Bridge) → AllEnds n bs → (u v : ℕ) → In v (list_of rows bs u) → v < n
  within bs a = list_below rows n (λ u v m. given.inside u v m) bs a

  laws : (i : ℕ) → i ≤ n → Turned rows entry i (turns_to rows entry vs i)
  laws i h = turns_turned rows entry vs given.entry_below (λ u v m. given.inside u v m) i h

  -- before the first turn
  first : (state₀ : List ℕ) → Marked n [] state₀ → Stands (turns_to rows entry vs 0) (begun shape row_words vs entry bridges₀ links₀ state₀)
  unfolding turns_to begun flatten
  first state₀ m =
      let c : Chained n [] (cleared_links n links₀) = chain_none n links₀ (omega (arith, given.word_room)) in record {
        count_is = refl;
        bridges_are = refl;
        chained = c;
        size = length_cleared n links₀ (omega (arith, given.word_room));
        marks_are = mark_marked n (list_of rows []) (list_words shape row_words bridges₀ (cleared_links n links₀)) (alike [] bridges₀ (cleared_links n links₀) refl c) (within [] tt) [] state₀ entry
            given.entry_below m;
      }

  module _ (i : ℕ) (i-below : i < n) (w : Work) (s : Stands (turns_to rows entry vs i) w) where
    abbrev r : Repaired
    r = turns_to rows entry vs i

    abbrev b : Bridge
    b = bridge_to rows entry vs r i

    -- the node that the bridge starts from
    near_is : start_of w.state n vs (list_words shape row_words w.bridges w.links) entry i ≡ b.near
    unfolding bridge_to
    near_is =
        start_refines (list_of rows r.bridges) (list_words shape row_words w.bridges w.links) n (alike r.bridges w.bridges w.links s.bridges_are s.chained)
        (within r.bridges (laws i (omega arith)).ends) w.state r.reached s.marks_are vs entry i given.entry_below i-below

    far_is : b.far ≡ i
    unfolding bridge_to
    far_is = refl

    bridge_is : ◌≡◌ {A = Bridge} b (record { near = b.near; far = i })
    unfolding bridge_to
    bridge_is = refl

    module _ (out : has i r.reached ≡ false) where
      abbrev next : Repaired
      next = record { reached = mark_reachable (list_of rows (r.bridges ++ (b ∷ []))) n r.reached i; bridges = r.bridges ++ (b ∷ []) }

      turn_is : turn rows entry vs i r ≡ next
      unfolding turn
      turn_is = pick_false r _ out

      next_ends : AllEnds n (r.bridges ++ (b ∷ []))
      unfolding turns_to
      next_ends = subst (λ (x : Repaired). AllEnds n x.bridges) turn_is (laws (suc i) i-below).ends

      few : length r.bridges < n
      few = omega (arith, (laws i (omega arith)).few)

      next_bridges : put_bridge w.count b.near i w.bridges ≡ with_bridges (r.bridges ++ (b ∷ [])) bridges₀
      next_bridges =
          ap₂ (λ (k : ℕ) (l : List ℕ). put_bridge k b.near i l) s.count_is s.bridges_are
          ∙ ap (λ (k : ℕ). put_bridge (length r.bridges) b.near k (with_bridges r.bridges bridges₀)) (sym far_is)
          ∙ put_more r.bridges b bridges₀ (omega (arith, few, given.bridge_room))

      next_chained : Chained n (r.bridges ++ (b ∷ [])) (chain_bridge n w.count b.near i w.links)
      next_chained =
          subst (λ (k : ℕ). Chained n (r.bridges ++ (b ∷ [])) (chain_bridge n k b.near i w.links)) (sym s.count_is)
          (subst (λ (x : Bridge). Chained n (r.bridges ++ (x ∷ [])) (chain_bridge n (length r.bridges) b.near i w.links)) (sym bridge_is)
          (chain_more n b.near i r.bridges w.links s.chained (ends_last n r.bridges b next_ends).near_below i-below
          (omega (arith, few, s.size, given.word_room)) (omega (arith, few, given.many))))

      next_stands : Stands next (bridged shape row_words vs entry i w b.near)
      unfolding bridged
      next_stands = record {
        count_is = omega (arith, s.count_is, length-append r.bridges (b ∷ []));
        bridges_are = next_bridges;
        chained = next_chained;
        size = length_chained n w.count b.near i w.links ∙ s.size;
        marks_are =
            mark_marked n (list_of rows (r.bridges ++ (b ∷ [])))
            (list_words shape row_words (put_bridge w.count b.near i w.bridges) (chain_bridge n w.count b.near i w.links))
            (alike (r.bridges ++ (b ∷ [])) (put_bridge w.count b.near i w.bridges) (chain_bridge n w.count b.near i w.links) next_bridges next_chained)
            (within (r.bridges ++ (b ∷ [])) next_ends) r.reached w.state i i-below s.marks_are;
      }

    passed : has i r.reached ≡ true → turn rows entry vs i r ≡ r
    unfolding turn
    passed e = pick_true r _ e

    kept : eqb (get_or w.state i 0) 0 ≡ false → turned shape row_words vs entry i w ≡ w
    unfolding turned
    kept e = pick_false _ w e

    made : eqb (get_or w.state i 0) 0 ≡ true → turned shape row_words vs entry i w ≡ bridged shape row_words vs entry i w b.near
    unfolding turned
    made e = pick_true _ w e ∙ ap (bridged shape row_words vs entry i w) near_is

    turn_stands : Stands (turn rows entry vs i r) (turned shape row_words vs entry i w)
    turn_stands = go (has i r.reached) refl
      where
        told : (c : Bool) → has i r.reached ≡ c → eqb (get_or w.state i 0) 0 ≡ not c
        told c e = s.marks_are.told i i-below ∙ ap not e

        go : (c : Bool) → has i r.reached ≡ c → Stands (turn rows entry vs i r) (turned shape row_words vs entry i w)
        go true e = stands_by (passed e) (kept (told true e)) s
        go false e = stands_by (turn_is e) (made (told false e)) (next_stands e)

  all_stand : (state₀ : List ℕ) → Marked n [] state₀ → (i : ℕ) → i ≤ n → Stands (turns_to rows entry vs i) (turned_to shape row_words vs entry (begun shape row_words vs entry bridges₀ links₀ state₀) i)
  unfolding turns_to turned_to
  all_stand state₀ m zero h = first state₀ m
  all_stand state₀ m (suc i) h = turn_stands i h (turned_to shape row_words vs entry (begun shape row_words vs entry bridges₀ links₀ state₀) i) (all_stand state₀ m i (omega arith))

  -- after all turns the bridges are the definition's
  pub all_repaired : (state₀ : List ℕ) → Marked n [] state₀ → (k : ℕ) → k ≡ n → (w : Work)
      → w ≡ repaired (shape_of k) row_words vs entry bridges₀ links₀ state₀
      → (w.count ≡ length (ensure_connectivity rows entry vs)) × (w.bridges ≡ with_bridges (ensure_connectivity rows entry vs) bridges₀)
  unfolding ensure_connectivity
  all_repaired state₀ m k q w e =
      let same : w ≡ repaired shape row_words vs entry bridges₀ links₀ state₀ = e ∙ ap (λ (x : ℕ). repaired (shape_of x) row_words vs entry bridges₀ links₀ state₀) q in
      let s : Stands (turns_to rows entry vs n) w = stands_by refl same (all_stand state₀ m n (omega arith)) in
      (s.count_is, s.bridges_are)
