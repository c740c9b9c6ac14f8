-- What a walk keeps between its steps (scope, part 8), in words and in a struct: the frontier, the held, the cutoff and the first few of what is
-- scored.
use Rattle.std.specs.Prelude.{◌≡◌, Bool, ℕ, ◌+◌, ◌-◌, ◌*◌, ◌≤◌, ◌<◌, min, eqb, length, get_or, take, drop, Float}
use mathlib.Core.List.{List, [], ◌∷◌, ◌++◌, map, reverse, Memᴰ as In}
use Rattle.basics.specs.Lists.{keep}
use Rattle.basics.specs.Nodes.{NoDup, Below}
use Rattle.sorting.specs.Sorting.{first_by}
use Rattle.sorting.specs.declared.Keyed.{Keyed}
use Rattle.def_walk.specs.Walk.{State}
use Rattle.def_walk.specs.KeepClosest.{key_at, held_of, cutoff_of}
use Rattle.def_walk.specs.Beam.{to_frontier}
use Rattle.beam_state.specs.Inside.Queues.{front_rank, Queue, Held, Known}
use Rattle.beam_state.specs.declared.Walk.{Walk}

-- What a walk writes: its words and floats of scratch, the answer, and its counts.
pub record Memory : Type 0 where
  pub words : List ℕ
  pub floats : List Float
  pub answer : List Keyed
  pub walk : Walk

-- the words from index a on, up to index e
abbrev pub part : ℕ → ℕ → List ℕ → List ℕ
part a e words = take (e - a) (drop a words)

-- Where the parts of a walk's words begin, for n nodes: first n marks and n fresh nodes, then the frontier and the held.
abbrev pub frontier_at : ℕ → ℕ
frontier_at n = 2 * n

abbrev pub held_at : ℕ → ℕ
held_at n = 6 * n

-- how many words there are
abbrev pub words_for : ℕ → ℕ
words_for n = 10 * n

-- the held have b slots, or n if those are fewer
abbrev pub held_end : ℕ → ℕ → ℕ
held_end n b = held_at n + 4 * min b n

-- these parts of some words
abbrev pub frontier_part : ℕ → List ℕ → List ℕ
frontier_part n words = part (frontier_at n) (held_at n) words

abbrev pub held_part : ℕ → ℕ → List ℕ → List ℕ
held_part n b words = part (held_at n) (held_end n b) words

-- a node with its key
abbrev pub pair_of : (ℕ → Float) → ℕ → Keyed
pair_of far v = record { key = key_at far v; id = v }

-- which nodes are live, by a word for each: 0 is live, and so is a node past the words
abbrev pub live_by : List ℕ → ℕ → Bool
live_by withdrawn v = eqb (get_or withdrawn v 0) 0

-- The first few of what is scored stand in a slice, with their keys, in front of what it had before.
pub record AnswerHeld (far : ℕ → Float) (answer₀ answer : List Keyed) (kept : ℕ) (scored : List ℕ) : Type 0 where
  pub pairs_are : answer ≡ map (pair_of far) (first_by (key_at far) (length answer) (reverse scored)) ++ drop kept answer₀
  pub kept_is : kept ≡ min (length answer) (length scored)
  pub long : length answer ≡ length answer₀

-- What the memory of a walk over n nodes with b places has of the nodes scored: the held, the cutoff, the first few, and their number.
pub record Scored (far : ℕ → Float) (n b : ℕ) (answer₀ : List Keyed) (m : Memory) (scored : List ℕ) : Type 0 where
  pub held : Held far (min b n) (held_of far b scored) (held_part n b m.words)
  pub held_count : m.walk.held ≡ length (held_of far b scored)
  pub cutoff_is : m.walk.cutoff ≡ cutoff_of far b scored
  pub answer : AnswerHeld far answer₀ m.answer m.walk.kept scored
  pub scored_is : m.walk.scored ≡ length scored

-- The memory of a walk that has seen these nodes, and has these in its frontier. Those of the nodes seen that are live are scored.
pub record Standing (far : ℕ → Float) (live : ℕ → Bool) (n b : ℕ) (answer₀ : List Keyed) (m : Memory) (seen front : List ℕ) : Type 0 where
  pub frontier : Queue (front_rank far) n front (frontier_part n m.words)
  pub scored : Scored far n b answer₀ m (keep live seen)
  pub once : NoDup seen
  pub inside : Below n seen
  pub sub : (x : ℕ) → In x front → In x seen

-- one node more; the words `withdrawn` say whether it is live
abbrev pub Pushing : ℕ → ℕ → ℕ → List ℕ → Memory → Memory → Type 0
Pushing n b v withdrawn m m' =
    (far : ℕ → Float) (answer₀ : List Keyed) (seen front : List ℕ)
    → Known far n (v ∷ seen) m.floats
    → v < n
    → (In v seen → ⊥)
    → Standing far (live_by withdrawn) n b answer₀ m seen front
    → Standing far (live_by withdrawn) n b answer₀ m' (v ∷ seen) (to_frontier far v front)

-- several, one after the other
unfoldable pub pushed : (ℕ → Float) → List ℕ → State → State
unfolding to_frontier
pushed far [] s = s
pushed far (v ∷ vs) s = pushed far vs (record { seen = v ∷ s.seen; front = to_frontier far v s.front })

-- the first `count` of the fresh nodes, which are all different and all new, and have their distances
abbrev pub PushingAll : ℕ → ℕ → ℕ → List ℕ → Memory → Memory → Type 0
PushingAll n b count withdrawn m m' =
    words_for n ≤ length m.words
    → (far : ℕ → Float) (answer₀ : List Keyed) (fresh : List ℕ) (s : State)
    → fresh ≡ take count (drop n m.words)
    → count ≡ length fresh
    → count ≤ n
    → NoDup (pushed far fresh s).seen
    → Below n (pushed far fresh s).seen
    → Known far n (pushed far fresh s).seen m.floats
    → Standing far (live_by withdrawn) n b answer₀ m s.seen s.front
    → Standing far (live_by withdrawn) n b answer₀ m' (pushed far fresh s).seen (pushed far fresh s).front
