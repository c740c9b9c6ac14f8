-- A call depends on nothing past the sizes and on nothing that scratch holds (scope, Records). Two runs of a call, with the same arguments on stores
-- that agree up to their sizes, return the same number and the same answer, and leave stores that agree up to these sizes. What scratch holds is an
-- argument of no definition; its two lengths are, and of them only whether they are enough counts.
use Rattle.std.specs.Prelude.{◌≡◌, true, List, ℕ, ◌≤◌, length, take, Float}
use Rattle.params.specs.declared.PipnnParams.{PipnnParams}
use Rattle.store.specs.Layout.{word, header_size, dimension_at, degree_at, capacity_at, words_size, floats_size}
use Rattle.store.specs.WellFormed.{header_ok}
use Rattle.store.specs.Opening.{scratch, scratch_short}
use Rattle.pipnn.specs.Answer.{Answer}
use Rattle.pipnn.specs.New.{new_spec}
use Rattle.pipnn.specs.Add.{add_spec}
use Rattle.def_calls.specs.Build.{build_spec}
use Rattle.def_calls.specs.Search.{search_with_ef_spec, search_spec}
use Rattle.recognise.specs.Recognise.{recognise_spec}
use Rattle.drintelbok.specs.New.{new_from}

-- ---- stores that agree

-- up to W words and F floats, both as long as that
pub record Alike (W F : ℕ) (w w' : List ℕ) (f f' : List Float) : Type 0 where
  pub words_reach : (W ≤ length w) × (W ≤ length w')
  pub floats_reach : (F ≤ length f) × (F ≤ length f')
  pub words : take W w ≡ take W w'
  pub floats : take F f ≡ take F f'

-- the sizes that a header defines
abbrev pub words_in : List ℕ → ℕ
words_in header = words_size (word header capacity_at) (word header degree_at)

abbrev pub floats_in : List ℕ → ℕ
floats_in header = floats_size (word header capacity_at) (word header dimension_at)

abbrev pub AlikeIn : List ℕ → (w w' : List ℕ) (f f' : List Float) → Type 0
AlikeIn header w w' f f' = Alike (words_in header) (floats_in header) w w' f f'

-- A header that is not well formed defines no sizes: then the 16 words of the header are all that has to agree.
pub record Agree (w w' : List ℕ) (f f' : List Float) : Type 0 where
  pub header_reach : (header_size ≤ length w) × (header_size ≤ length w')
  pub header : take header_size w ≡ take header_size w'
  pub rest : header_ok w ≡ true → AlikeIn w w w' f f'

-- two pieces of scratch, by their lengths, are both enough for the header's capacity or both too short
abbrev pub AgreeScratch : List ℕ → (ws fs ws' fs' : ℕ) → Type 0
AgreeScratch w ws fs ws' fs' = scratch_short (word w capacity_at) (scratch ws fs) ≡ scratch_short (word w capacity_at) (scratch ws' fs')

-- ---- what a call that writes the stores leaves: the same number, and stores that agree up to the sizes that the header defined

pub record SameAnswer (w : List ℕ) (a a' : Answer) : Type 0 where
  pub number : a.0 ≡ a'.0
  pub stores : header_ok w ≡ true → AlikeIn w a.1 a'.1 a.2 a'.2

-- `new` looks at no content: stores as long as its arguments ask get the same number, and agree up to those sizes if it is accepted
pub record SameNew (W F : ℕ) (a a' : Answer) : Type 0 where
  pub number : a.0 ≡ a'.0
  pub stores : a.0 ≡ 0 → Alike W F a.1 a'.1 a.2 a'.2

-- ---- the claim, a field for each call

pub record OnNew (w w' : List ℕ) (f f' : List Float) (dimension : ℕ) (p : PipnnParams) (capacity : ℕ) : Type 0 where
  pub new : SameNew (words_size capacity p.max_degree) (floats_size capacity dimension) (new_spec dimension p capacity w f) (new_spec dimension p capacity w' f')
  pub new_from_c : (final_prune : ℕ)
      → SameNew (words_size capacity p.max_degree) (floats_size capacity dimension)
      (new_from dimension final_prune p capacity w f) (new_from dimension final_prune p capacity w' f')

pub record OnStores (w w' : List ℕ) (f f' : List Float) : Type 0 where
  pub add : (doc : ℕ) (v : List Float) → SameAnswer w (add_spec w f doc v) (add_spec w' f' doc v)
  pub build : (ws fs ws' fs' : ℕ) → AgreeScratch w ws fs ws' fs' → SameAnswer w (build_spec ws fs w f) (build_spec ws' fs' w' f')
  pub search_with_ef : (ws fs ws' fs' : ℕ) → AgreeScratch w ws fs ws' fs' → (query : List Float) (k ef : ℕ) (docs : List ℕ) (distances : List Float)
      → search_with_ef_spec ws fs w f query k ef docs distances ≡ search_with_ef_spec ws' fs' w' f' query k ef docs distances
  pub search : (ws fs ws' fs' : ℕ) → AgreeScratch w ws fs ws' fs' → (query : List Float) (k : ℕ) (docs : List ℕ) (distances : List Float)
      → search_spec ws fs w f query k docs distances ≡ search_spec ws' fs' w' f' query k docs distances
  pub recognise : (ws fs ws' fs' : ℕ) → AgreeScratch w ws fs ws' fs' → (query : List Float) (ef : ℕ) (limit : Float)
      → recognise_spec ws fs w f query ef limit ≡ recognise_spec ws' fs' w' f' query ef limit

pub record Footprint : Type 0 where
  pub on_new : (w w' : List ℕ) (f f' : List Float) (dimension : ℕ) (p : PipnnParams) (capacity : ℕ)
      → (words_size capacity p.max_degree ≤ length w) × (words_size capacity p.max_degree ≤ length w')
      → (floats_size capacity dimension ≤ length f) × (floats_size capacity dimension ≤ length f')
      → OnNew w w' f f' dimension p capacity
  pub on_stores : (w w' : List ℕ) (f f' : List Float) → Agree w w' f f' → OnStores w w' f f'
