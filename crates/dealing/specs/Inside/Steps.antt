-- What the steps of gathering ask of each other, inside this crate.
use Rattle.std.specs.Prelude.{◌≡◌, ℕ, ◌+◌, ◌≤◌, length, take}
use mathlib.Core.List.{List, [], flatten}
use Rattle.def_graph.specs.Partition.{Gathered, gather_one}
use Rattle.def_graph.specs.Inside.Occurrences.{entries}
use Rattle.dealing.specs.Inside.Marks.{marks_of}
use Rattle.dealing.specs.Inside.Cards.{buckets_in}
use Rattle.dealing.specs.declared.Carded.{Carded}
use Rattle.dealing.specs.declared.Held.{Held}

-- `at` nodes are placed, at the front of `nodes` and with their marks; `held` have gathered at the front of `small`
pub record Holds (g : Gathered) (h : Held) (small nodes marks : List ℕ) : Type 0 where
  pub placed_size : h.at ≡ length (flatten g.placed)
  pub small_size : h.held ≡ length g.small
  pub placed_nodes : take h.at nodes ≡ flatten g.placed
  pub placed_marks : take h.at marks ≡ marks_of g.placed
  pub small_nodes : take h.held small ≡ g.small

-- one bucket gathered
abbrev pub Gathers : ℕ → List ℕ → Held → (small nodes marks : List ℕ) → Held → (small' nodes' marks' : List ℕ) → Type 0
Gathers minLeaf bucket h small nodes marks h' small' nodes' marks' =
    (g : Gathered) → Holds g h small nodes marks → Holds (gather_one minLeaf g bucket) h' small' nodes' marks'

-- room for one bucket more, wherever it goes
pub record Roomy (bucket : List ℕ) (h : Held) (c : Carded) (small nodes marks : List ℕ) : Type 0 where
  pub cards_size : length c.cards.now ≡ length c.ids.now
  pub marks_size : length marks ≡ length nodes
  pub small_room : h.held + length bucket ≤ length small
  pub nodes_room : h.at + (h.held + length bucket) ≤ length nodes

abbrev pub none_yet : Gathered
none_yet = record { placed = []; small = [] }

-- slices for all buckets of a segment
pub record Dealt (c : Carded) (nodes marks : List ℕ) : Type 0 where
  pub cards_size : length c.cards.now ≡ length c.ids.now
  pub marks_size : length marks ≡ length nodes
  pub all_entries : entries (buckets_in c) ≡ length nodes
  pub few : length nodes ≤ 2048
