-- Valid calls are accepted (scope, Refusals and demand 3). One claim about a whole list of calls, `Accepts`: a call returns 0 exactly if the scope's
-- table of refusals does not refuse it, which is said by its own arguments and by what is remembered of the calls before it.
use Rattle.std.specs.Prelude.{◌≡◌, true, List, [], ◌∷◌, ℕ, ◌≤◌, ◌<◌, min, length, Float}
use Rattle.std.specs.Float.Ieee.Scale.{finite}
use Rattle.basics.specs.Lists.{every}
use Rattle.params.specs.declared.PipnnParams.{PipnnParams}
use Rattle.params.specs.Limits.{dimension_within, capacity_within, within_limits}
use Rattle.store.specs.Layout.{words_size, floats_size, scratch_words, scratch_floats}
use Rattle.def_calls.specs.Search.{most_nodes, most_beam}
use Rattle.theorems.specs.Calls.{Call, new, add, build, search_with_ef, search, outcome, Index, Past, nothing, opened, built, then}
use Rattle.theorems.specs.Promise.{size}

-- ---- words of the claim

-- 0 is returned
abbrev pub Accepted : Call → List ℕ → List Float → Type 0
Accepted c w f = (outcome c w f).0 ≡ 0

-- A holds where P does, and nowhere else; A is that a call is accepted
pub record Exactly (P A : Type 0) : Type 0 where
  pub welcome : P → A
  pub earned : A → P

-- a call that needs an index, judged by what is remembered before it: what it needs on an open store, and what on a built one. Before the first
-- accepted `new` nothing is claimed of it.
abbrev pub Judged : (onOpen onBuilt : Index → Type 0) → Past → Type 0 → Type 0
Judged onOpen onBuilt nothing A = Unit
Judged onOpen onBuilt (opened x) A = Exactly (onOpen x) A
Judged onOpen onBuilt (built x) A = Exactly (onBuilt x) A

abbrev pub Finite : List Float → Type 0
Finite v = every finite v ≡ true

-- scratch of ws words and fs floats is enough for a capacity of C
pub record Scratch (C ws fs : ℕ) : Type 0 where
  pub words : scratch_words C ≤ ws
  pub floats : scratch_floats C ≤ fs

-- ---- what each call needs

-- `new`: all within the limits, and stores as long as the scope's sizes, of any content
pub record Opens (dimension : ℕ) (p : PipnnParams) (capacity : ℕ) (w : List ℕ) (f : List Float) : Type 0 where
  pub dimension_within_lem : dimension_within dimension ≡ true
  pub params_within : within_limits p ≡ true
  pub capacity_within_lem : capacity_within capacity ≡ true
  pub words : words_size capacity p.max_degree ≤ length w
  pub floats : floats_size capacity dimension ≤ length f

-- `add`: a finite vector of the index's dimension, and a place that is free
pub record Adds (x : Index) (v : List Float) : Type 0 where
  pub components : length v ≡ x.dimension
  pub numbers : Finite v
  pub free : size x < x.capacity

-- `build` on an open store: scratch, and a node
pub record Builds (x : Index) (ws fs : ℕ) : Type 0 where
  pub scratch : Scratch x.capacity ws fs
  pub some : 1 ≤ size x

-- a search, whatever its ef: scratch, a finite query of the index's dimension, k within its limit, room for min(k, n) answers
pub record Asks (x : Index) (ws fs : ℕ) (query : List Float) (k : ℕ) (docs : List ℕ) (distances : List Float) : Type 0 where
  pub scratch : Scratch x.capacity ws fs
  pub components : length query ≡ x.dimension
  pub numbers : Finite query
  pub few : k ≤ most_nodes
  pub docs_room : min k (size x) ≤ length docs
  pub distances_room : min k (size x) ≤ length distances

-- `search_with_ef`: its ef within the limit too
pub record AsksWithEf (x : Index) (ws fs : ℕ) (query : List Float) (k ef : ℕ) (docs : List ℕ) (distances : List Float) : Type 0 where
  pub asks : Asks x ws fs query k docs distances
  pub beam : ef ≤ most_beam

-- ---- the claim

-- Of one call, by what is remembered before it. `new` is judged on stores of any content. An add after a build is refused, and so is a search before
-- one. A built store has a node, and an ef_search that `new` has judged.
abbrev pub Welcome : Call → Past → List ℕ → List Float → Type 0
Welcome (new d p typed c) past w f = Exactly (Opens d p c w f) (Accepted (new d p typed c) w f)
Welcome (add doc v) past w f = Judged (λ x. Adds x v) (λ x. ⊥) past (Accepted (add doc v) w f)
Welcome (build ws fs) past w f = Judged (λ x. Builds x ws fs) (λ x. Scratch x.capacity ws fs) past (Accepted (build ws fs) w f)
Welcome (search_with_ef ws fs q k ef docs distances) past w f =
    Judged (λ x. ⊥) (λ x. AsksWithEf x ws fs q k ef docs distances) past (Accepted (search_with_ef ws fs q k ef docs distances) w f)
Welcome (search ws fs q k docs distances) past w f =
    Judged (λ x. ⊥) (λ x. Asks x ws fs q k docs distances) past (Accepted (search ws fs q k docs distances) w f)

-- of a list of calls: each call gets both stores as the call before left them
abbrev pub Accepts : List Call → Past → List ℕ → List Float → Type 0
Accepts [] past w f = Unit
Accepts (c ∷ calls) past w f = Welcome c past w f × Accepts calls (then c (outcome c w f).0 past) (outcome c w f).1 (outcome c w f).2
