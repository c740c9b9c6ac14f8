-- Stores that these calls have made are well formed. `Made` of the promise says what their view shows; `Sound` adds what it does not show: the
-- limits, two words of the header, the counts of the rows, the sizes, and that the vectors are finite. Together they pass the checks that every call
-- begins with. Assumes nothing.
use mathlib.Core.Path.{◌≡◌, sym, ap, ap₂, ◌∙◌, subst}
use mathlib.Core.Bool.{true, false, not, ◌||◌}
use mathlib.Core.List.{List}
use Prim.Native.Nat.{ℕ, ◌≤◌}
use native.Mathlib.Omega.{arith}
use lib.ListN.{length}
use lib.Ieee.{Float}
use lib.Ieee.Scale.{finite}
use borrow.Author.Tests.{le-ltb}
use Rattle.basics.specs.Lists.{every}
use Rattle.basics.proofs.Refusals.{Pass}
use Rattle.params.specs.Limits.{dimension_within, capacity_within, within_limits}
use Rattle.std.specs.Prelude.{Option}
use Rattle.store.specs.declared.Scratch.{Scratch}
use Rattle.store.specs.Layout.{word, header_size, dimension_at, nodes_at, degree_at, final_prune_at, capacity_at, zero_at, words_size, floats_size}
use Rattle.store.specs.View.{row_words, bridge_words, View, view}
use Rattle.store.specs.WellFormed.{header_ok, count_ok, rest_ok}
use Rattle.store.specs.Opening.{scratch_short, opening}
use Rattle.store.proofs.Header.{Open, Built}
use Rattle.store.proofs.Reading.{bridges_read}
use Rattle.def_walk.proofs.graph_utils.Bridges.{AllEnds}
use Rattle.def_calls.proofs.Graph.{Walkable}
use Rattle.theorems.specs.Calls.{Index, Past, nothing, opened, built, vectors_of, docs_of}
use Rattle.theorems.specs.Promise.{size}
use Rattle.theorems.proofs.promise.Made.{Shown, Made, shown_degree, open_shown}
use Rattle.theorems.proofs.acceptance.Parts.{Shape, header_ok_lem, open_ok_lem, built_ok_lem, all_nodes, rows_ok, empty_rows, rows_below_ok, bridges_ok, vectors_ok, rest_ok_lem}

-- ---- the invariant

pub record Sound (x : Index) (w : List ℕ) (f : List Float) : Type 0 where
  pub dimension : dimension_within x.dimension ≡ true
  pub limits : within_limits x.params ≡ true
  pub capacity : capacity_within x.capacity ≡ true
  pub nodes : size x ≤ x.capacity
  pub vectors : every (every finite) (vectors_of x) ≡ true
  pub final : word w final_prune_at ≤ 1
  pub zero_word : word w zero_at ≡ 0
  pub counts : every (count_ok x.params.max_degree) (row_words w) ≡ true
  pub words : words_size x.capacity x.params.max_degree ≤ length w
  pub floats : floats_size x.capacity x.dimension ≤ length f

abbrev pub Kept : Past → List ℕ → List Float → Type 0
Kept nothing w f = Unit
Kept (opened x) w f = Sound x w f
Kept (built x) w f = Sound x w f

-- ---- the header and the rest

module _ (x : Index) (w : List ℕ) (f : List Float) (s : Sound x w f) (h : Shown x (view w f)) where
  degree : word w degree_at ≡ x.params.max_degree
  degree = shown_degree x w f h

  shape : Shape w
  unfolding view
  shape = record {
    params = ap within_limits h.params ∙ s.limits;
    dimension = ap dimension_within h.dimension ∙ s.dimension;
    capacity = ap capacity_within h.capacity ∙ s.capacity;
    final = s.final;
    zero_word = s.zero_word;
    nodes = omega (arith, h.nodes, h.capacity, s.nodes);
  }

  rest : all_nodes (word w nodes_at) (view w f).rows ≡ true → AllEnds (word w nodes_at) (view w f).bridges → rest_ok w f ≡ true
  unfolding view
  rest rows bridges =
      rest_ok_lem w f
      (rows_ok (word w degree_at) (word w nodes_at) (row_words w) (ap (λ (D : ℕ). every (count_ok D) (row_words w)) degree ∙ s.counts) rows)
      (bridges_ok (word w nodes_at) (bridge_words w) bridges)
      (vectors_ok (word w dimension_at) (word w nodes_at) f (ap (every (every finite)) h.vectors ∙ s.vectors))

  -- long enough for what the header asks
  words_long : words_size (word w capacity_at) (word w degree_at) ≤ length w
  unfolding view
  words_long = subst (λ (k : ℕ). k ≤ length w) (sym (ap₂ words_size h.capacity degree)) s.words

  floats_long : floats_size (word w capacity_at) (word w dimension_at) ≤ length f
  unfolding view
  floats_long = subst (λ (k : ℕ). k ≤ length f) (sym (ap₂ floats_size h.capacity h.dimension)) s.floats

  passed : header_ok w ≡ true → rest_ok w f ≡ true → (lent : Option Scratch) → scratch_short (word w capacity_at) lent ≡ false → Pass (opening lent w f)
  unfolding opening
  passed header others lent enough =
      let sizes = ap₂ ◌||◌ (ap₂ ◌||◌ (le-ltb (length w) _ words_long) (le-ltb (length f) _ floats_long)) enough in
      (le-ltb (length w) header_size (omega (arith, words_long)), (ap not header, (sizes, (ap not others, tt))))

-- ---- an open store

open_words : (x : Index) (w : List ℕ) (f : List Float) → Made (opened x) w f → Open w
unfolding view
open_words x w f o = record {
  state = ap (λ (v : View). v.state) o.is;
  entry = ap (λ (v : View). v.entry) o.is;
  bridges = sym (bridges_read w f) ∙ ap (λ (v : View). length v.bridges) o.is;
}

pub open_passes : (x : Index) (w : List ℕ) (f : List Float) → Made (opened x) w f → Sound x w f → (lent : Option Scratch) → scratch_short (word w capacity_at) lent ≡ false
    → Pass (opening lent w f)
open_passes x w f o s =
    let h : Shown x (view w f) = open_shown x w f o in
    passed x w f s h (header_ok_lem w (shape x w f s h) (open_ok_lem w (open_words x w f o)))
    (rest x w f s h (ap (λ (v : View). all_nodes (word w nodes_at) v.rows) o.is ∙ empty_rows (word w nodes_at) (length (docs_of x)))
    (subst (λ (v : View). AllEnds (word w nodes_at) v.bridges) (sym o.is) tt))

-- ---- a built store

built_words_lem : (x : Index) (w : List ℕ) (f : List Float) → Made (built x) w f → Built w
unfolding view
built_words_lem x w f b =
    let g : Walkable (view w f) = b.graph in
    record { state = b.state; nodes = omega (arith, g.entry); entry = g.entry; bridges = omega (arith, g.few, bridges_read w f) }

pub built_passes : (x : Index) (w : List ℕ) (f : List Float) → Made (built x) w f → Sound x w f → (lent : Option Scratch) → scratch_short (word w capacity_at) lent ≡ false
    → Pass (opening lent w f)
unfolding view
built_passes x w f b s =
    let h : Shown x (view w f) = b.shown in
    passed x w f s h (header_ok_lem w (shape x w f s h) (built_ok_lem w (built_words_lem x w f b)))
    (rest x w f s h (rows_below_ok (word w nodes_at) (view w f).rows b.graph.below) b.graph.ends)
