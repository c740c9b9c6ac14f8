-- The frontier and the held nodes of a walk as tournaments (scope, part 8; the Rust's `BinaryHeap`). The frontier has a slot for each node; the held
-- have b slots, or n if that is less, and a slot has a held node's key alone: only the cutoff is asked of them. What a function promises is about
-- every tree that represents some nodes, and about those nodes as `def_walk` defines the walk.
use Rattle.std.specs.Prelude.{◌≡◌, false, ℕ, ◌+◌, ◌-◌, ◌≤◌, ◌<◌, T, eqb, ltb, length, get_or, Float}
use mathlib.Core.List.{List, [], ◌∷◌, map, Memᴰ as In}
use Rattle.std.specs.Float.{binary32, inf}
use Rattle.std.specs.Float.Ieee.{fits}
use Rattle.basics.specs.Choice.{pick}
use Rattle.basics.specs.Nodes.{has, Below}
use Rattle.beam_state.specs.Inside.Tournament.{rank_of, empty_rank, Tournament}
use Rattle.def_walk.specs.KeepClosest.{key_at, worst_of, keep_closest}
use Rattle.def_walk.specs.Beam.{to_frontier}
use Rattle.beam_state.specs.declared.queues.Popped.{Popped}
use Rattle.beam_state.specs.declared.queues.Popped.TheVariants.{At, Empty}
use Rattle.beam_state.specs.declared.queues.Closest.{Closest}

-- the floats have these nodes' distances, which are f32; there are not too many nodes
pub record Known (far : ℕ → Float) (n : ℕ) (nodes : List ℕ) (floats : List Float) : Type 0 where
  pub few : n ≤ 1024
  pub f32s : (v : ℕ) → T (fits binary32 (far v))
  pub there : (v : ℕ) → In v nodes → get_or floats v (inf false) ≡ far v

-- ---- the frontier

-- a node's rank: its key, then the node
abbrev pub front_rank : (ℕ → Float) → ℕ → ℕ
front_rank far v = rank_of (key_at far v) v

-- each node comes before those behind it
abbrev pub Ordered : (ℕ → ℕ) → List ℕ → Type 0
Ordered rank [] = Unit
Ordered rank (u ∷ l) = ((w : ℕ) → In w l → rank u < rank w) × Ordered rank l

-- a tree stands for some of the first n nodes, which are listed in order
pub record Queue (rank : ℕ → ℕ) (n : ℕ) (nodes tree : List ℕ) : Type 0 where
  pub leaves : List ℕ
  pub tournament : Tournament leaves tree
  pub many : length leaves ≡ n
  pub stands : (v : ℕ) → v < n → get_or leaves v empty_rank ≡ pick (has v nodes) (rank v) empty_rank
  pub ordered : Ordered rank nodes
  pub inside : Below n nodes

-- a new node goes into the frontier by its key, among nodes that are not too many and whose distances are f32
abbrev pub Entering : ℕ → ℕ → List ℕ → List ℕ → Type 0
Entering v key tree tree' =
    (far : ℕ → Float) (n : ℕ) (front : List ℕ)
    → n ≤ 1024
    → ((w : ℕ) → T (fits binary32 (far w)))
    → key ≡ key_at far v
    → v < n
    → (In v front → ⊥)
    → Queue (front_rank far) n front tree
    → Queue (front_rank far) n (to_frontier far v front) tree'

-- what taking from a frontier returns and leaves
abbrev pub Taken : (ℕ → Float) → ℕ → List ℕ → List ℕ → Popped → Type 0
Taken far n [] tree' r = (r ≡ Empty) × Queue (front_rank far) n [] tree'
Taken far n (u ∷ front) tree' r = (r ≡ At (far u) (record { 0 = u })) × Queue (front_rank far) n front tree'

abbrev pub Popping : List Float → List ℕ → List ℕ → Popped → Type 0
Popping floats tree tree' r =
    (far : ℕ → Float) (n : ℕ) (front : List ℕ)
    → Known far n front floats
    → Queue (front_rank far) n front tree
    → Taken far n front tree' r

-- ---- the held

-- the rank of a key at a place: the worst has the least
abbrev pub held_rank : ℕ → ℕ → ℕ
held_rank key place = rank_of (0xffff_ffff - key) place

-- how often a number stands in a list
unfoldable pub times : ℕ → List ℕ → ℕ
unfolding pick
times x [] = 0
times x (y ∷ l) = pick {X = ℕ} (eqb x y) 1 0 + times x l

-- none behind a node is farther than it
abbrev pub Falling : (ℕ → Float) → List ℕ → Type 0
Falling far [] = Unit
Falling far (u ∷ l) = ((w : ℕ) → In w l → key_at far w ≤ key_at far u) × Falling far l

-- a tree of this many slots represents some nodes, the worst first: its first slots have their keys, in whichever order, the others are empty
pub record Held (far : ℕ → Float) (size : ℕ) (held tree : List ℕ) : Type 0 where
  pub keys : List ℕ
  pub leaves : List ℕ
  pub tournament : Tournament leaves tree
  pub many : length leaves ≡ size
  pub few : size ≤ 1024
  pub within : length keys ≤ size
  pub stands : (i : ℕ) → i < size → get_or leaves i empty_rank ≡ pick (ltb i (length keys)) (held_rank (get_or keys i 0) i) empty_rank
  pub as_many : length keys ≡ length held
  pub same : (x : ℕ) → times x keys ≡ times x (map (key_at far) held)
  pub falling : Falling far held

-- the worst distance held
abbrev pub Worst : List ℕ → Float → Type 0
Worst tree r =
    (far : ℕ → Float) (size : ℕ) (held : List ℕ)
    → ((v : ℕ) → T (fits binary32 (far v)))
    → Held far size held tree
    → r ≡ worst_of far held

-- One node more for the held, and the cutoff that follows.
pub record Kept (far : ℕ → Float) (size b v : ℕ) (held tree' : List ℕ) (r : Closest) : Type 0 where
  pub stands : Held far size (keep_closest far b v held) tree'
  pub count : r.held ≡ length (keep_closest far b v held)
  pub cutoff : r.cutoff ≡ pick (ltb (length held) b) (inf false) (worst_of far (keep_closest far b v held))

-- A node is offered by its distance and its key. There is a free slot where the held are fewer than b.
abbrev pub Keeping : ℕ → ℕ → Float → ℕ → List ℕ → List ℕ → Closest → Type 0
Keeping b count d key tree tree' r =
    (far : ℕ → Float) (v size : ℕ) (held : List ℕ)
    → ((w : ℕ) → T (fits binary32 (far w)))
    → d ≡ far v
    → key ≡ key_at far v
    → count ≡ length held
    → (length held < b → length held < size)
    → Held far size held tree
    → Kept far size b v held tree' r
