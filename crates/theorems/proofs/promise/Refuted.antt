-- Four statements that are stronger than demand 3, each refuted by one index: four nodes, and D is 0, so that every entry is a bridge's. Nodes 0, the
-- entry, and 1 are equal; node 3's only bridge leads to node 2, which lies farther from the query than the entry does. Assumes nothing.
use mathlib.Core.Path.{◌≡◌, refl, sym, ap, subst, ◌∙◌}
use mathlib.Core.Bool.{true, false}
use mathlib.Core.List.Memᴰ.{eq_of_singleton as only}
use mathlib.Core.List.Memᴰ.{head as here}
use mathlib.Core.List.Memᴰ.{not-nil as in-nil}
use mathlib.Core.List.{List, [], ◌∷◌, map, Memᴰ as In}
use Prim.Native.Nat.{ℕ, ◌+◌, ◌*◌, ◌≤◌, ◌<◌, max}
use native.Mathlib.Omega.{arith}
use lib.ListN.{length, replicate}
use lib.Ieee.{Float, binary32, binary64, fits, of_bits, to_bits, add as plus, sub, mul, div, lt, le, eq, is_nan, of_int, to_unsigned, round}
use Rattle.basics.specs.Sum.{+zero, +one}
use Rattle.basics.specs.Graph.{list_of}
use Rattle.distance.specs.Order.{before}
use Rattle.norm.specs.Norm.{scaled_of}
use Rattle.params.specs.declared.PipnnParams.{PipnnParams}
use Rattle.store.specs.Layout.{word, bridge_count_at}
use Rattle.store.specs.View.{view}
use Rattle.def_graph.specs.Rows.{rows_of}
use Rattle.def_walk.specs.Lengths.{sum_to, total_length}
use Rattle.def_walk.specs.Beam.{far_from, places_for}
use Rattle.def_calls.specs.Search.{Reply, search_with_ef_spec}
use Rattle.def_calls.specs.Example.{minus_one}
use Rattle.theorems.specs.Calls.{Typed, Call, new, add, build, outcome, Index, nothing, built, then, vectors_of, docs_of}
use Rattle.theorems.specs.Promise.{size, list_before, list_now, far_of, NotBefore, Answered}
use Rattle.theorems.proofs.promise.Examples.{left}

-- ---- the wrong statements, each of what stands after a list of calls

-- of an index that a list of calls has built, with the stores that hold it
abbrev OfBuilt : (Index → List ℕ → List Float → Type 0) → Type 0
OfBuilt P = (calls : List Call) (w : List ℕ) (f : List Float) (x : Index) → (left calls nothing w f).0 ≡ built x
    → P x (left calls nothing w f).1 (left calls nothing w f).2

-- after repair a list has at most 2·D entries
abbrev TwiceTheDegree : Type 0
TwiceTheDegree = OfBuilt (λ x w f. (i : ℕ) → length (list_now w f i) ≤ 2 * x.params.max_degree)

-- a bridge adds one entry to the lists
abbrev OneEntryABridge : Type 0
OneEntryABridge = OfBuilt (λ x w f. total_length (size x) (list_now w f) ≡ total_length (size x) (list_before x) + 1 * word w bridge_count_at)

-- an accepted search scores at most max(1, 10·b) + 1 nodes
abbrev OneBeyondTheStop : Type 0
OneBeyondTheStop = OfBuilt (λ x w f. (ws fs : ℕ) (query : List Float) (k ef : ℕ) (docs : List ℕ) (distances : List Float)
    → (search_with_ef_spec ws fs w f query k ef docs distances).number ≡ 0
    → (search_with_ef_spec ws fs w f query k ef docs distances).scored ≤ max 1 (10 * places_for ef k) + 1)

-- nothing left out is nearer than anything returned, whatever b is
abbrev NothingEverMissed : Type 0
NothingEverMissed = OfBuilt (λ x w f. (ws fs : ℕ) (query : List Float) (k ef L : ℕ) (docs : List ℕ) (distances : List Float)
    → (a : Answered x query k ef L docs distances (search_with_ef_spec ws fs w f query k ef docs distances))
    → (i j : ℕ) → In i a.nodes → j < size x → (In j a.nodes → ⊥) → NotBefore (far_of x query j) (far_of x query i))

-- ---- the index

abbrev params : PipnnParams
params = record {
  max_leaf_size = 256;
  min_leaf_size = 0;
  leader_fraction = of_bits binary64 0x3fe0_0000_0000_0000;
  max_degree = 0;
  num_hash_bits = 0;
  final_prune = true;
  alpha = of_bits binary32 0x3f99_999a;
  ef_search = 3;
}

typed : Typed params
unfolding fits of_bits
typed = record { fraction = tt; alpha = tt }

abbrev calls : List Call
calls =
    new 2 params typed 4
    ∷ add 10 (minus_one ∷ minus_one ∷ [])
    ∷ add 11 (minus_one ∷ minus_one ∷ [])
    ∷ add 12 (+zero ∷ +one ∷ [])
    ∷ add 13 (+one ∷ +zero ∷ [])
    ∷ build 256 320
    ∷ []

abbrev index : Index
index = record {
  dimension = 2;
  params = params;
  capacity = 4;
  nodes =
      record { doc = 10; vector = scaled_of binary32 (minus_one ∷ minus_one ∷ []) }
      ∷ record { doc = 11; vector = scaled_of binary32 (minus_one ∷ minus_one ∷ []) }
      ∷ record { doc = 12; vector = scaled_of binary32 (+zero ∷ +one ∷ []) }
      ∷ record { doc = 13; vector = scaled_of binary32 (+one ∷ +zero ∷ []) }
      ∷ [];
}

abbrev words : List ℕ
words = (left calls nothing (replicate 32 7) (replicate 8 minus_one)).1

abbrev floats : List Float
floats = (left calls nothing (replicate 32 7) (replicate 8 minus_one)).2

is_built : (left calls nothing (replicate 32 7) (replicate 8 minus_one)).0 ≡ built index
unfolding left outcome then of_bits to_bits plus sub mul div lt le eq is_nan of_int to_unsigned round
is_built = refl

-- three bridges, and all entries are theirs
lists : map (list_now words floats) (0 ∷ 1 ∷ 2 ∷ 3 ∷ []) ≡ (1 ∷ 2 ∷ []) ∷ (0 ∷ []) ∷ (0 ∷ 3 ∷ []) ∷ (2 ∷ []) ∷ []
unfolding left outcome then view list_of of_bits to_bits plus sub mul div lt le eq is_nan of_int to_unsigned round
lists = refl

-- ---- 2·D entries after repair: node 0 has two, and D is 0

two-entries : length (list_now words floats 0) ≡ 2
unfolding left outcome then view list_of of_bits to_bits plus sub mul div lt le eq is_nan of_int to_unsigned round
two-entries = refl

pub twice_the_degree : TwiceTheDegree → ⊥
twice_the_degree claim =
    let few : length (list_now words floats 0) ≤ 0 = claim calls (replicate 32 7) (replicate 8 minus_one) index is_built 0 in
    omega (arith, two-entries)

-- ---- one entry a bridge: three bridges, six entries

six_entries : total_length 4 (list_now words floats) ≡ 6
unfolding left outcome then view list_of sum_to of_bits to_bits plus sub mul div lt le eq is_nan of_int to_unsigned round
six_entries = refl

none_before : total_length 4 (list_before index) ≡ 0
unfolding vectors_of rows_of sum_to of_bits to_bits plus sub mul div lt le eq is_nan of_int to_unsigned round
none_before = refl

three_bridges : word words bridge_count_at ≡ 3
unfolding left outcome then of_bits to_bits plus sub mul div lt le eq is_nan of_int to_unsigned round
three_bridges = refl

pub one_entry_a_bridge : OneEntryABridge → ⊥
one_entry_a_bridge claim =
    let total : total_length 4 (list_now words floats) ≡ total_length 4 (list_before index) + 1 * word words bridge_count_at =
    claim calls (replicate 32 7) (replicate 8 minus_one) index is_built in
    omega (arith, six_entries, none_before, three_bridges)

-- ---- one node beyond the stop: with b = 0 the walk ends after the first list, with three scored

abbrev query : List Float
query = +one ∷ minus_one ∷ []

abbrev asked : ℕ → List ℕ → List Float → Reply
asked b docs distances = search_with_ef_spec 256 320 words floats query b b docs distances

three_scored : asked 0 [] [] ≡ record { number = 0; count = 0; scored = 3; docs = []; distances = [] }
unfolding left outcome then search_with_ef_spec of_bits to_bits plus sub mul div lt le eq is_nan of_int to_unsigned round
three_scored = refl

pub one_beyond_the_stop : OneBeyondTheStop → ⊥
one_beyond_the_stop claim =
    let most : (asked 0 [] []).scored ≤ 2 =
    claim calls (replicate 32 7) (replicate 8 minus_one) index is_built 256 320 query 0 0 [] [] (ap (λ (r : Reply). r.number) three_scored) in
    omega (arith, ap (λ (r : Reply). r.scored) three_scored)

-- ---- nothing ever missed: with b = 1 node 2 lies beyond 1.5 times the cutoff, so the walk does not come to node 3, which is nearer than the answer

answer : asked 1 (0 ∷ []) (+zero ∷ []) ≡ record { number = 0; count = 1; scored = 3; docs = 10 ∷ []; distances = far_of index query 0 ∷ [] }
unfolding left outcome then search_with_ef_spec vectors_of far_from of_bits to_bits plus sub mul div lt le eq is_nan of_int to_unsigned round
answer = refl

nearer : before (far_of index query 3) (far_of index query 0) ≡ true
unfolding before vectors_of scaled_of far_from of_bits plus sub mul div lt le eq is_nan round
nearer = refl

unfoldable is_answered : Answered index query 1 1 2 (0 ∷ []) (+zero ∷ []) (asked 1 (0 ∷ []) (+zero ∷ []))
unfolding docs_of
is_answered = subst (Answered index query 1 1 2 (0 ∷ []) (+zero ∷ [])) (sym answer) (record {
  nodes = 0 ∷ [];
  different = (in-nil, tt);
  inside = λ i m. let e : i ≡ 0 = only m in omega arith;
  exactly = refl;
  count = refl;
  docs_written = refl;
  distances_written = refl;
  in_order = ((λ j m. absurd (in-nil m)), tt);
  scored_least = omega arith;
  scored_most = omega arith;
  nothing_missed = λ h. absurd (omega arith);
})

pub nothing_ever_missed : NothingEverMissed → ⊥
unfolding is_answered
nothing_ever_missed claim =
    let clear : before (far_of index query 3) (far_of index query 0) ≡ false =
    claim calls (replicate 32 7) (replicate 8 minus_one) index is_built 256 320 query 1 1 2 (0 ∷ []) (+zero ∷ []) is_answered 0 3 (here refl) (omega arith)
    (λ m. let e : 3 ≡ 0 = only m in omega arith) in
    let same : true ≡ false = sym nearer ∙ clear in
    let none : ◌≡◌ {A = ℕ} 0 1 = cc in
    omega arith
