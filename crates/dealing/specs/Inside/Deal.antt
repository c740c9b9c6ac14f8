-- What `deal` promises (scope, part 4): over slices that fit a segment it leaves the segment's buckets, and their marks. Other slices stay as they
-- are.
use Rattle.std.specs.Prelude.{◌≡◌, ℕ, ◌*◌, ◌≤◌, length}
use mathlib.Core.List.{List, flatten}
use Rattle.def_graph.specs.Partition.{fanout, buckets_of}
use Rattle.distance.specs.Vectors.{vectors_of}
use Rattle.dealing.specs.Inside.Marks.{marks_of}
use Rattle.dealing.specs.declared.Segment.{Segment}

-- the level deals a segment of two nodes or more; there is room for each node as often as it goes to a leader, and for a card of each
pub record Fitting (s : Segment) (nodes marks : List ℕ) (room cards : ℕ) : Type 0 where
  pub deals : 1 ≤ fanout s.level
  pub two : 2 ≤ length s.ids.now
  pub nodes_size : length nodes ≡ fanout s.level * length s.ids.now
  pub marks_size : length marks ≡ length nodes
  pub few : length nodes ≤ 2048
  pub room_size : length nodes ≤ room
  pub cards_size : cards ≡ length s.ids.now

-- two slices hold these buckets
abbrev pub Holding : List (List ℕ) → List ℕ → List ℕ → Type 0
Holding buckets nodes marks = (nodes ≡ flatten buckets) × (marks ≡ marks_of buckets)

-- the buckets of a segment
abbrev pub buckets_for : Segment → List (List ℕ)
buckets_for s = buckets_of s.p.min_leaf s.p.leader_fraction (vectors_of s.vectors) s.level s.ids.now

-- what fits is dealt, anything else stays as it is
pub record Deals (s : Segment) (nodes marks : List ℕ) (room cards : ℕ) (nodes' marks' : List ℕ) : Type 0 where
  pub dealt : Fitting s nodes marks room cards → Holding (buckets_for s) nodes' marks'
  pub kept : (Fitting s nodes marks room cards → ⊥) → (nodes' ≡ nodes) × (marks' ≡ marks)
