-- On a store that is well formed, whoever wrote it, lists hold nodes: their rows do, and bridges end at nodes. Assumes nothing.
use mathlib.Core.Path.{◌≡◌, sym, ap, subst, ◌∙◌}
use mathlib.Core.Bool.{true}
use mathlib.Core.List.Memᴰ.{not-nil as in-nil}
use mathlib.Core.List.{List, [], ◌∷◌, Memᴰ as In}
use Prim.Native.Nat.{ℕ, suc, ◌+◌, ◌*◌, ◌/◌, ◌<◌}
use native.Mathlib.Omega.{arith}
use native.Mathlib.Decide.{dec_lt, ℕ_discrete}
use lib.ListN.{length, get_or, take, drop, length-drop, get_or-eq_default, get_or-map}
use lib.Seq.{length-take-le, get_or-take, get_or-drop}
use lib.Ieee.{Float}
use Rattle.basics.specs.Graph.{Bridge}
use Rattle.basics.specs.Lists.{pieces}
use Rattle.basics.proofs.Pieces.{nth_piece}
use Rattle.store.specs.Layout.{word, nodes_at, degree_at, bridge_count_at, capacity_at, bridges_at, bridge_size}
use Rattle.store.specs.View.{bridge_in, view, list_in}
use Rattle.store.specs.WellFormed.{rest_ok}
use Rattle.store.proofs.Reading.{rows_read, bridges_read}
use Rattle.store.proofs.Good.{row_good, BridgeGood, bridge_good}
use Rattle.store.proofs.Sizes.{Room}
use Rattle.lists.proofs.Parts.{bridge_part, bridges_part}
use Rattle.def_walk.proofs.graph_utils.Bridges.{Ends, AllEnds, list_below}

all_ends : (n : ℕ) (d : Bridge) (bs : List Bridge) → ((j : ℕ) → j < length bs → Ends n (get_or bs j d)) → AllEnds n bs
all_ends n d [] h = tt
all_ends n d (b ∷ bs) h = (h 0 (omega arith), all_ends n d bs (λ j k. h (suc j) (omega arith)))

module _ (w : List ℕ) (f : List Float) (ok : rest_ok w f ≡ true) where
  abbrev n : ℕ
  n = word w nodes_at

  rows_inside : (u v : ℕ) → In v (get_or (view w f).rows u []) → v < n
  rows_inside u v m = elim (dec_lt u n) [
    | yes h ↦ (row_good w f ok u h).nodes v m
    | no h ↦ absurd (in-nil (subst (In v) (get_or-eq_default (view w f).rows [] {n = u} (omega (arith, rows_read w f))) m))
  ]

  ends : AllEnds n (view w f).bridges
  ends =
      all_ends n (bridge_in []) (view w f).bridges
      (λ j h. let g = bridge_good w f ok j (omega (arith, bridges_read w f)) in
      record { near_below = g.near_node; far_below = g.far_node; differ = g.different })

  pub lists_inside : (u v : ℕ) → In v (list_in (view w f) u) → v < n
  lists_inside u v m = list_below (view w f).rows n rows_inside (view w f).bridges ends u v m

  -- the words of the bridges
  module _ (r : Room w f) where
    abbrev words : List ℕ
    words = bridge_part w f r

    pub bridge_words_lem : length words ≡ word w bridge_count_at * bridge_size
    bridge_words_lem =
        length-take-le (word w bridge_count_at * bridge_size) (drop (bridges_at (word w capacity_at) (word w degree_at)) w)
        (omega (arith, r.bridges, length-drop (bridges_at (word w capacity_at) (word w degree_at)) w))

    pair_good : (j : ℕ) → j < word w bridge_count_at → BridgeGood w f ok (bridge_in (take 2 (drop (j * 2) words)))
    pair_good j h =
        subst (BridgeGood w f ok)
        (ap (λ (bs : List Bridge). get_or bs j (bridge_in [])) (sym (bridges_part w f r))
        ∙ get_or-map bridge_in (pieces bridge_size (length words / bridge_size) words) j []
        ∙ ap bridge_in (nth_piece bridge_size (length words / bridge_size) words j (omega (arith, bridge_words_lem))))
        (bridge_good w f ok j h)

    word_of : (j k : ℕ) → k < 2 → get_or (take 2 (drop (j * 2) words)) k 0 ≡ get_or words (j * 2 + k) 0
    word_of j k h = get_or-take 2 (drop (j * 2) words) k 0 h ∙ get_or-drop (j * 2) words k 0

    pub bridge_nodes : (i : ℕ) → i < length words → get_or words i 0 < n
    bridge_nodes i h =
        let good = pair_good (i / 2) (omega (arith, bridge_words_lem)) in
        elim (ℕ_discrete i (i / 2 * 2 + 0)) [
          | yes e ↦ subst (λ (x : ℕ). x < n) (word_of (i / 2) 0 (omega arith) ∙ ap (λ (k : ℕ). get_or words k 0) (sym e)) good.near_node
          | no e ↦
              let next : i / 2 * 2 + 1 ≡ i = omega arith in
              subst (λ (x : ℕ). x < n) (word_of (i / 2) 1 (omega arith) ∙ ap (λ (k : ℕ). get_or words k 0) next) good.far_node
        ]
