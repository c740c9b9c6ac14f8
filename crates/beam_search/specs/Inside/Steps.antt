-- What the steps of a walk promise each other, inside this crate.
use Rattle.std.specs.Prelude.{◌≡◌, Bool, true, false, List, [], ◌∷◌, ◌++◌, map, ℕ, suc, ◌*◌, ◌≤◌, ◌<◌, min, length, get_or, take, drop, replicate, Float}
use Rattle.std.specs.Float.{inf}
use Rattle.basics.specs.Choice.{pick}
use Rattle.basics.specs.Nodes.{has, NoDup, Below}
use Rattle.beam_state.specs.Inside.Tournament.{empty_rank, Tournament}
use Rattle.def_walk.specs.Walk.{State}
use Rattle.def_walk.specs.Beam.{walk_from}
use Rattle.beam_state.specs.Inside.Queues.{Known}
use Rattle.neighbours.specs.Inside.Gathering.{Linked}
use Rattle.beam_state.specs.Inside.State.{Memory, words_for, frontier_part, held_part, Standing, pushed}
use Rattle.std.specs.declared.ops.ControlFlow.{ControlFlow}
use Rattle.std.specs.declared.ops.ControlFlow.TheVariants.{Continue, Break}
use Rattle.sorting.specs.declared.Keyed.{Keyed}
use Rattle.beam_state.specs.declared.Walk.{Walk}
use Rattle.beam_search.specs.declared.Sizes.{Sizes}
use Rattle.beam_search.specs.declared.Reads.{Reads}
use Rattle.beam_search.specs.Inside.Search.{far_of, live_of, network_of}

-- bridges between nodes linked, where no node had a link
abbrev pub Linking : ℕ → List ℕ → List ℕ → List ℕ → Type 0
Linking n bridges links links' =
    n ≤ 1024
    → 4 * n ≤ length links
    → ((i : ℕ) → i < 2 * n → get_or links i 0 ≡ 0)
    → ((i : ℕ) → i < length bridges → get_or bridges i 0 < n)
    → Linked n bridges links'

-- words enough for every part of what a walk keeps
abbrev pub HasWords : Sizes → List ℕ → Type 0
HasWords sizes words = words_for sizes.shape.n ≤ length words

-- a walk between two expansions
pub record Between (sizes : Sizes) (far : ℕ → Float) (live : ℕ → Bool) (answer₀ : List Keyed) (m : Memory) (seen front : List ℕ) : Type 0 where
  pub marks : (v : ℕ) → v < sizes.shape.n → get_or m.words v 0 ≡ pick (has v seen) 1 0
  pub standing : Standing far live sizes.shape.n sizes.places answer₀ m seen front
  pub known : Known far sizes.shape.n seen m.floats
  pub room : sizes.shape.n ≤ length m.floats

-- fresh nodes with their distances, pushed
pub record TakenIn (sizes : Sizes) (far : ℕ → Float) (live : ℕ → Bool) (answer₀ : List Keyed) (m : Memory) (s : State) : Type 0 where
  pub standing : Standing far live sizes.shape.n sizes.places answer₀ m s.seen s.front
  pub known : Known far sizes.shape.n s.seen m.floats
  pub room : sizes.shape.n ≤ length m.floats

abbrev pub TakingIn : Sizes → (ℕ → Float) → (ℕ → Bool) → ℕ → Memory → Memory → Type 0
TakingIn sizes far live count m m' =
    (answer₀ : List Keyed) (fresh : List ℕ) (s : State)
    → fresh ≡ take count (drop sizes.shape.n m.words)
    → count ≡ length fresh
    → count ≤ sizes.shape.n
    → NoDup (pushed far fresh s).seen
    → Below sizes.shape.n (pushed far fresh s).seen
    → sizes.shape.n ≤ length m.floats
    → Known far sizes.shape.n s.seen m.floats
    → Standing far live sizes.shape.n sizes.places answer₀ m s.seen s.front
    → TakenIn sizes far live answer₀ m' (pushed far fresh s)

-- the walk of the definition from where it stands, by at most `more` steps
abbrev pub walk_on : Reads → ℕ → List ℕ → List ℕ → List ℕ
walk_on reads more seen front =
    walk_from reads.sizes.stops (network_of reads) (far_of reads) reads.sizes.places more seen front

-- what a step answers: the walk as it leaves it, and whether that is its end
abbrev pub walk_of : ControlFlow Walk Walk → Walk
walk_of (Break w) = w
walk_of (Continue w) = w

abbrev pub is_done : ControlFlow Walk Walk → Bool
is_done (Break w) = true
is_done (Continue w) = false

-- one step: the walk ends there, or goes on from there
pub record Stepped (reads : Reads) (answer₀ : List Keyed) (m : Memory) (done : Bool) (seen front : List ℕ) : Type 0 where
  pub seen' : List ℕ
  pub front' : List ℕ
  pub stands : Between reads.sizes (far_of reads) (live_of reads) answer₀ m seen' front'
  pub ends : done ≡ true → (more : ℕ) → walk_on reads (suc more) seen front ≡ seen'
  pub goes : done ≡ false → (more : ℕ) → walk_on reads (suc more) seen front ≡ walk_on reads more seen' front'

abbrev pub Stepping : Reads → List ℕ → Memory → Memory → Bool → Type 0
Stepping reads links m m' done =
    Linked reads.sizes.shape.n reads.bridges.now links
    → (answer₀ : List Keyed) (seen front : List ℕ)
    → Between reads.sizes (far_of reads) (live_of reads) answer₀ m seen front
    → Stepped reads answer₀ m' done seen front

-- all steps
pub record Rested (sizes : Sizes) (far : ℕ → Float) (live : ℕ → Bool) (answer₀ : List Keyed) (m : Memory) (seen : List ℕ) : Type 0 where
  pub front : List ℕ
  pub stands : Between sizes far live answer₀ m seen front

abbrev pub Walking : Reads → List ℕ → Memory → Memory → Type 0
Walking reads links m m' =
    Linked reads.sizes.shape.n reads.bridges.now links
    → (answer₀ : List Keyed) (seen front : List ℕ)
    → Between reads.sizes (far_of reads) (live_of reads) answer₀ m seen front
    → Rested reads.sizes (far_of reads) (live_of reads) answer₀ m' (walk_on reads reads.sizes.shape.n seen front)

-- the same of bridges between nodes, which the function links itself
abbrev pub WalkingLinked : Reads → Memory → Memory → Type 0
WalkingLinked reads m m' =
    ((i : ℕ) → i < length reads.bridges.now → get_or reads.bridges.now i 0 < reads.sizes.shape.n)
    → (answer₀ : List Keyed) (seen front : List ℕ)
    → Between reads.sizes (far_of reads) (live_of reads) answer₀ m seen front
    → Rested reads.sizes (far_of reads) (live_of reads) answer₀ m' (walk_on reads reads.sizes.shape.n seen front)

-- nothing is marked, in the frontier or held
pub record Prepared (n b : ℕ) (words : List ℕ) : Type 0 where
  pub marks : (v : ℕ) → v < n → get_or words v 0 ≡ 0
  pub front : Tournament (replicate n empty_rank) (frontier_part n words)
  pub held : Tournament (replicate (min b n) empty_rank) (held_part n b words)

-- the entry node is seen
abbrev pub Starting : Sizes → (ℕ → Float) → (ℕ → Bool) → List Float → List Keyed → Memory → Type 0
Starting sizes far live floats answer m' =
    sizes.entry.0 < sizes.shape.n
    → sizes.shape.n ≤ 1024
    → sizes.shape.n ≤ length floats
    → Between sizes far live answer m' (sizes.entry.0 ∷ []) (sizes.entry.0 ∷ [])

-- the distances of the first `count` nodes of an answer
abbrev pub PutDistances : ℕ → List Keyed → List Float → List Float → List Float → Type 0
PutDistances count answer floats distances distances' =
    count ≤ length answer
    → count ≤ length distances
    → distances' ≡ map (λ (p : Keyed). get_or floats p.id (inf false)) (take count answer) ++ drop count distances
