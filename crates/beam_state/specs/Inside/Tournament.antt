-- A tournament over slots 0 up, in a list of words, four for each slot (the Rust's `BinaryHeap`). A pair of a key and an id is one number, its rank,
-- and pairs stand in the order of their ranks.
use Rattle.std.specs.Prelude.{◌≡◌, List, ℕ, ◌+◌, ◌*◌, ◌/◌, ◌%◌, ◌≤◌, ◌<◌, min, ltb, length, get_or, set, Option, Some, None}
use Rattle.basics.specs.Choice.{pick}
use Rattle.sorting.specs.declared.Keyed.{Keyed}

abbrev pub rank_of : ℕ → ℕ → ℕ
rank_of key id = key * 4294967296 + id

-- the rank at an empty place: no rank is above it
abbrev pub empty_rank : ℕ
empty_rank = 18446744073709551615

-- the rank of pair p, whose id stands before its key
abbrev pub rank_at : List ℕ → ℕ → ℕ
rank_at tree p = rank_of (get_or tree (2 * p + 1) 0) (get_or tree (2 * p) 0)

-- The words represent this many slots, with these ranks: below, pair by pair, the slots; above, the lesser of each two.
pub record Tournament (leaves tree : List ℕ) : Type 0 where
  pub size : length leaves ≡ length tree / 4
  pub leaf : (i : ℕ) → i < length leaves → rank_at tree (length leaves + i) ≡ get_or leaves i empty_rank
  pub inner : (p : ℕ) → 1 ≤ p → p < length leaves → rank_at tree p ≡ min (rank_at tree (2 * p)) (rank_at tree (2 * p + 1))

-- a rank put at a place: of a tree that stands for some places, whichever they are
abbrev pub Putting : ℕ → ℕ → List ℕ → List ℕ → Type 0
Putting place rank tree tree' = (leaves : List ℕ) → Tournament leaves tree → place < length leaves → Tournament (set leaves place rank) tree'

-- the pair that stands first
unfoldable pub first_of : List ℕ → Keyed
unfolding pick
first_of tree = pick (ltb (length tree) 4) (record { key = 0xffff_ffff; id = 0xffff_ffff }) (record { key = get_or tree 3 0; id = get_or tree 2 0 })

-- that pair, unless it is an empty place's
abbrev pub First : List ℕ → Option Keyed → Type 0
First tree None = (first_of tree).id ≡ 0xffff_ffff
First tree (Some top) = (top ≡ first_of tree) × (top.id ≡ 0xffff_ffff → ⊥)

-- ---- inside this crate

-- pair p gets a rank
abbrev pub with_pair : List ℕ → ℕ → ℕ → List ℕ
with_pair tree p rank = set (set tree (2 * p) (rank % 4294967296)) (2 * p + 1) (rank / 4294967296)

-- a tournament but for the pair above pair q
pub record Open (leaves : List ℕ) (q : ℕ) (tree : List ℕ) : Type 0 where
  pub size : length leaves ≡ length tree / 4
  pub leaf : (i : ℕ) → i < length leaves → rank_at tree (length leaves + i) ≡ get_or leaves i empty_rank
  pub inner : (p : ℕ) → 1 ≤ p → p < length leaves → (p ≡ q / 2 → ⊥) → rank_at tree p ≡ min (rank_at tree (2 * p)) (rank_at tree (2 * p + 1))

abbrev pub Climbing : ℕ → List ℕ → List ℕ → Type 0
Climbing q tree tree' = (leaves : List ℕ) → Open leaves q tree → Tournament leaves tree'
