-- Calls are accepted exactly if they are valid, over every list of calls on stores of any first content. By induction over the list: what `Made` and
-- `Kept` say between two calls lets a valid call pass all its checks, and every call keeps both. Assumes nothing.
use mathlib.Core.Path.{◌≡◌, refl, sym, ap, ap₂, ◌∙◌, subst}
use mathlib.Core.Bool.{false, not, ◌&&◌, ◌||◌}
use mathlib.Core.List.{List, [], ◌∷◌, ◌++◌}
use Prim.Native.Nat.{ℕ, ◌≤◌, min}
use native.Mathlib.Omega.{arith}
use lib.Dec.{eqb}
use lib.ListN.{length}
use lib.Ieee.{Float}
use borrow.Author.Tests.{le-leb, le-ltb, eq-eqb, ne_eqb, ltb-false}
use Rattle.basics.specs.Choice.{pick, pick_ind}
use Rattle.basics.specs.Refusals.{Check, first_refusal}
use Rattle.basics.proofs.Refusals.{Pass, none_turned}
use Rattle.basics.proofs.Tests.{both_false}
use Rattle.params.specs.declared.PipnnParams.{PipnnParams}
use Rattle.params.specs.Limits.{most_dimension, most_capacity, within_limits}
use Rattle.params.proofs.Laws.{within}
use Rattle.std.specs.Prelude.{None}
use Rattle.store.specs.Opening.{scratch as lent}
use Rattle.store.specs.Layout.{word, built_state, state_at, dimension_at, nodes_at, capacity_at, ef_search_at, scratch_words, scratch_floats}
use Rattle.store.specs.View.{params_of, view}
use Rattle.store.specs.Opening.{scratch_short, opening}
use Rattle.pipnn.specs.New.{new_checks, new_spec}
use Rattle.pipnn.specs.Add.{own_checks, add_checks, add_spec}
use Rattle.pipnn.proofs.Answer.{number_is}
use Rattle.pipnn.proofs.NewLaws.{new_taken}
use Rattle.pipnn.proofs.AddLaws.{AddTaken, add_taken}
use Rattle.def_walk.specs.Beam.{usual}
use Rattle.def_calls.specs.Build.{own_build_checks, build_checks, build_spec}
use Rattle.def_calls.specs.Search.{most_nodes, most_beam, own_search_checks, search_checks, Reply, refused, reply_of, search_with_ef_spec, search_spec}
use Rattle.def_calls.proofs.Taken.{build_taken, search_replied}
use Rattle.theorems.specs.Calls.{Typed, Call, new, add, build, search_with_ef, search, outcome, Index, Past, nothing, opened, built, then}
use Rattle.theorems.proofs.promise.Made.{Shown, Made, open_shown, open_state_lem, built_state_lem, call_made}
use Rattle.theorems.specs.Acceptance.{Accepted, Scratch, Opens, Adds, Builds, Asks, AsksWithEf, Welcome, Accepts}
use Rattle.theorems.proofs.acceptance.Sound.{Sound, Kept, open_passes, built_passes}
use Rattle.theorems.proofs.acceptance.Keeping.{call_kept}

pass_both : (first second : List Check) → Pass first → Pass second → Pass (first ++ second)
pass_both [] second p q = q
pass_both (c ∷ first) second p q = (p.0, pass_both first second p.1 q)

-- checks that pass, and no refusal
none : (cs : List Check) → Pass cs → first_refusal cs ≡ 0
none cs p = sym (none_turned cs p)

-- scratch that is enough for the index is enough for its store
scratch_enough : (C D ws fs : ℕ) → C ≡ D → Scratch D ws fs → scratch_short C (lent ws fs) ≡ false
scratch_enough C D ws fs e s =
    let enough : scratch_short D (lent ws fs) ≡ false = ap₂ ◌||◌ (le-ltb ws (scratch_words D) s.words) (le-ltb fs (scratch_floats D) s.floats) in
    ap (λ (k : ℕ). scratch_short k (lent ws fs)) e ∙ enough

scratch_passed : (C D ws fs : ℕ) → C ≡ D → scratch_short C (lent ws fs) ≡ false → Scratch D ws fs
scratch_passed C D ws fs e p =
    let t = both_false _ _ (ap (λ (k : ℕ). scratch_short k (lent ws fs)) (sym e) ∙ p) in
    record { words = ltb-false ws (scratch_words D) t.0; floats = ltb-false fs (scratch_floats D) t.1 }

-- ---- `new`

new_accepted : (d : ℕ) (p : PipnnParams) (t : Typed p) (c : ℕ) (w : List ℕ) (f : List Float) → Opens d p c w f → Accepted (new d p t c) w f
unfolding outcome new_spec new_checks
new_accepted d p t c w f o =
    let limits = ap not (ap₂ ◌&&◌ o.params_within o.capacity_within_lem) in
    let sizes = ap₂ ◌||◌ (le-ltb (length w) _ o.words) (le-ltb (length f) _ o.floats) in
    number_is (first_refusal (new_checks d p c w f)) w f _ _ ∙ none (new_checks d p c w f) (ap not o.dimension_within_lem, (limits, (sizes, tt)))

new_earned : (d : ℕ) (p : PipnnParams) (t : Typed p) (c : ℕ) (w : List ℕ) (f : List Float) → Accepted (new d p t c) w f → Opens d p c w f
unfolding outcome new_spec
new_earned d p t c w f e =
    let taken = new_taken d p c w f (sym (number_is (first_refusal (new_checks d p c w f)) w f _ _) ∙ e) in
    record {
      dimension_within_lem = ap₂ ◌&&◌ (le-leb 1 d taken.dimension.least) (le-leb d most_dimension taken.dimension.most);
      params_within = taken.limits;
      capacity_within_lem = ap₂ ◌&&◌ (le-leb 1 c taken.capacity.least) (le-leb c most_capacity taken.capacity.most);
      words = taken.words;
      floats = taken.floats;
    }

-- ---- add

add-accepted : (doc : ℕ) (v : List Float) (x : Index) (w : List ℕ) (f : List Float) → Made (opened x) w f → Sound x w f → Adds x v → Accepted (add doc v) w f
unfolding view outcome add_spec add_checks own_checks
add-accepted doc v x w f m s a =
    let h : Shown x (view w f) = open_shown x w f m in
    let state : word w state_at ≡ 0 = open_state_lem x w f m in
    let open-still : eqb (word w state_at) built_state ≡ false = ne_eqb (word w state_at) built_state (λ e. omega arith) in
    let components : not (eqb (length v) (word w dimension_at)) ≡ false = ap not (eq-eqb (length v) (word w dimension_at) (a.components ∙ sym h.dimension)) in
    let full : word w nodes_at ≡ word w capacity_at → ⊥ = λ e. omega (arith, h.nodes, h.capacity, a.free) in
    let own : Pass (own_checks w v) = (open-still, (components, (ap not a.numbers, (ne_eqb (word w nodes_at) (word w capacity_at) full, tt)))) in
    number_is (first_refusal (add_checks w f v)) w f _ _
    ∙ none (add_checks w f v) (pass_both (opening None w f) (own_checks w v) (open_passes x w f m s None refl) own)

add_passed : (doc : ℕ) (v : List Float) (w : List ℕ) (f : List Float) → Accepted (add doc v) w f → AddTaken w f v
unfolding outcome add_spec
add_passed doc v w f e = add_taken w f v (sym (number_is (first_refusal (add_checks w f v)) w f _ _) ∙ e)

add_earned : (doc : ℕ) (v : List Float) (x : Index) (w : List ℕ) (f : List Float) → Made (opened x) w f → Accepted (add doc v) w f → Adds x v
unfolding view
add_earned doc v x w f m e =
    let h : Shown x (view w f) = open_shown x w f m in
    let t : AddTaken w f v = add_passed doc v w f e in
    record { components = t.components ∙ h.dimension; numbers = t.numbers; free = omega (arith, t.free, h.nodes, h.capacity) }

-- ---- build

build_accepted : (ws fs : ℕ) (w : List ℕ) (f : List Float) → Pass (opening (lent ws fs) w f) → 1 ≤ word w nodes_at → Accepted (build ws fs) w f
unfolding outcome build_spec build_checks own_build_checks
build_accepted ws fs w f p some =
    let own : Pass (own_build_checks w) = (ne_eqb (word w nodes_at) 0 (λ e. omega arith), tt) in
    number_is (first_refusal (build_checks ws fs w f)) w f _ f ∙ none (build_checks ws fs w f) (pass_both (opening (lent ws fs) w f) (own_build_checks w) p own)

build_earned : (ws fs : ℕ) (x : Index) (w : List ℕ) (f : List Float) → Shown x (view w f) → Accepted (build ws fs) w f → Builds x ws fs
unfolding view outcome build_spec
build_earned ws fs x w f h e =
    let t = build_taken ws fs w f (sym (number_is (first_refusal (build_checks ws fs w f)) w f _ f) ∙ e) in
    record { scratch = scratch_passed (word w capacity_at) x.capacity ws fs h.capacity t.stores.scratch; some = omega (arith, t.some, h.nodes) }

-- ---- a search

answers : (refusal : ℕ) (reply : Reply) (docs : List ℕ) (distances : List Float) → refusal ≡ 0 → reply.number ≡ 0
    → (pick (eqb refusal 0) reply (refused refusal docs distances)).number ≡ 0
answers refusal reply docs distances e z = pick_ind (λ (r : Reply). r.number ≡ 0) (eqb refusal 0) (λ _. z) (λ _. e)

search_accepted : (ws fs : ℕ) (q : List Float) (k ef : ℕ) (docs : List ℕ) (distances : List Float) (x : Index) (w : List ℕ) (f : List Float)
    → Made (built x) w f → Sound x w f → Asks x ws fs q k docs distances → ef ≤ most_beam → (search_with_ef_spec ws fs w f q k ef docs distances).number ≡ 0
unfolding view search_with_ef_spec search_checks own_search_checks reply_of
search_accepted ws fs q k ef docs distances x w f m s a within-ef =
    let h : Shown x (view w f) = m.shown in
    let state = ap not (eq-eqb (word w state_at) built_state (built_state_lem x w f m)) in
    let components = ap not (eq-eqb (length q) (word w dimension_at) (a.components ∙ sym h.dimension)) in
    let limits = ap₂ ◌||◌ (le-ltb most_nodes k (omega (arith, a.few))) (le-ltb most_beam ef within-ef) in
    let docs_room : min k (word w nodes_at) ≤ length docs = subst (λ (n : ℕ). min k n ≤ length docs) (sym h.nodes) a.docs_room in
    let distances_room : min k (word w nodes_at) ≤ length distances = subst (λ (n : ℕ). min k n ≤ length distances) (sym h.nodes) a.distances_room in
    let room = ap₂ ◌||◌ (le-ltb (length docs) _ docs_room) (le-ltb (length distances) _ distances_room) in
    let own : Pass (own_search_checks w q k ef docs distances) = (state, (components, (ap not a.numbers, (limits, (room, tt))))) in
    let begin : Pass (opening (lent ws fs) w f) = built_passes x w f m s (lent ws fs) (scratch_enough (word w capacity_at) x.capacity ws fs h.capacity a.scratch) in
    answers (first_refusal (search_checks w q k ef docs distances ws fs f)) (reply_of usual (view w f) q k ef docs distances) docs distances
    (none (search_checks w q k ef docs distances ws fs f) (pass_both (opening (lent ws fs) w f) (own_search_checks w q k ef docs distances) begin own)) refl

module _ (ws fs : ℕ) (q : List Float) (k ef : ℕ) (docs : List ℕ) (distances : List Float) (x : Index) (w : List ℕ) (f : List Float) where
  search_earned : Made (built x) w f → (search_with_ef_spec ws fs w f q k ef docs distances).number ≡ 0 → AsksWithEf x ws fs q k ef docs distances
  unfolding view
  search_earned m e =
      let h : Shown x (view w f) = m.shown in
      let t = (search_replied ws fs w f q k ef docs distances e).0 in
      record {
        asks = record {
          scratch = scratch_passed (word w capacity_at) x.capacity ws fs h.capacity t.stores.scratch;
          components = t.components ∙ h.dimension;
          numbers = t.numbers;
          few = omega (arith, t.nodes);
          docs_room = subst (λ (n : ℕ). min k n ≤ length docs) h.nodes t.docs_room;
          distances_room = subst (λ (n : ℕ). min k n ≤ length distances) h.nodes t.distances_room;
        };
        beam = t.beam;
      }

  search_too_soon : Made (opened x) w f → (search_with_ef_spec ws fs w f q k ef docs distances).number ≡ 0 → ⊥
  search_too_soon m e = let t = (search_replied ws fs w f q k ef docs distances e).0 in omega (arith, t.built, open_state_lem x w f m)

-- the store's ef_search is one that `new` has judged
stored_ef : (x : Index) (w : List ℕ) (f : List Float) → Made (built x) w f → Sound x w f → word w ef_search_at ≤ most_beam
unfolding view params_of
stored_ef x w f m s = (within (params_of w) (ap within_limits m.shown.params ∙ s.limits)).ef_most

-- ---- one call

pub call_judged : (c : Call) (past : Past) (w : List ℕ) (f : List Float) → Made past w f → Kept past w f → Welcome c past w f
unfolding view outcome search_spec
call_judged (new d p t c) past w f m s = record { welcome = new_accepted d p t c w f; earned = new_earned d p t c w f }
call_judged (add doc v) nothing w f m s = tt
call_judged (add doc v) (opened x) w f m s = record { welcome = add-accepted doc v x w f m s; earned = add_earned doc v x w f m }
call_judged (add doc v) (built x) w f m s = record { welcome = λ n. absurd n; earned = λ e. (add_passed doc v w f e).state (built_state_lem x w f m) }
call_judged (build ws fs) nothing w f m s = tt
call_judged (build ws fs) (opened x) w f m s =
    let h : Shown x (view w f) = open_shown x w f m in
    record {
      welcome = λ b. build_accepted ws fs w f
          (open_passes x w f m s (lent ws fs) (scratch_enough (word w capacity_at) x.capacity ws fs h.capacity b.scratch)) (omega (arith, h.nodes, b.some));
      earned = build_earned ws fs x w f h;
    }
call_judged (build ws fs) (built x) w f m s =
    let h : Shown x (view w f) = m.shown in
    record {
      welcome = λ enough. build_accepted ws fs w f
          (built_passes x w f m s (lent ws fs) (scratch_enough (word w capacity_at) x.capacity ws fs h.capacity enough)) (omega (arith, m.graph.entry));
      earned = λ e. (build_earned ws fs x w f h e).scratch;
    }
call_judged (search_with_ef ws fs q k ef docs distances) nothing w f m s = tt
call_judged (search_with_ef ws fs q k ef docs distances) (opened x) w f m s =
    record { welcome = λ n. absurd n; earned = search_too_soon ws fs q k ef docs distances x w f m }
call_judged (search_with_ef ws fs q k ef docs distances) (built x) w f m s = record {
  welcome = λ a. search_accepted ws fs q k ef docs distances x w f m s a.asks a.beam;
  earned = search_earned ws fs q k ef docs distances x w f m;
}
call_judged (search ws fs q k docs distances) nothing w f m s = tt
call_judged (search ws fs q k docs distances) (opened x) w f m s =
    record { welcome = λ n. absurd n; earned = search_too_soon ws fs q k (word w ef_search_at) docs distances x w f m }
call_judged (search ws fs q k docs distances) (built x) w f m s = record {
  welcome = λ a. search_accepted ws fs q k (word w ef_search_at) docs distances x w f m s a (stored_ef x w f m s);
  earned = λ e. (search_earned ws fs q k (word w ef_search_at) docs distances x w f m e).asks;
}

-- ---- the whole list

all_judged : (calls : List Call) (past : Past) (w : List ℕ) (f : List Float) → Made past w f → Kept past w f → Accepts calls past w f
all_judged [] past w f m s = tt
all_judged (c ∷ calls) past w f m s = (
  call_judged c past w f m s,
  all_judged calls (then c (outcome c w f).0 past) (outcome c w f).1 (outcome c w f).2 (call_made c past w f m) (call_kept c past w f m s),
)

-- of any list of calls, from a word store and a float store of any content and length
pub accepts : (calls : List Call) (w : List ℕ) (f : List Float) → Accepts calls nothing w f
accepts calls w f = all_judged calls nothing w f tt tt
