-- What makes a store well formed, in parts: the header's, each row's count and entries, each bridge's ends, the vectors. Assumes nothing.
use mathlib.Core.Path.{◌≡◌, refl, ap, ap₂, ◌∙◌}
use mathlib.Core.Bool.{Bool, true, false, ◌&&◌, ◌||◌}
use mathlib.Core.List.Memᴰ.{head as here}
use mathlib.Core.List.Memᴰ.{tail as there}
use mathlib.Core.List.{List, [], ◌∷◌, ◌++◌, map, Memᴰ as In}
use Prim.Native.Nat.{ℕ, zero, suc, ◌+◌, ◌*◌, ◌≤◌, ◌<◌}
use native.Mathlib.Omega.{arith}
use lib.ListN.{length, get_or, take, drop, replicate}
use lib.Seq.{take-add}
use lib.Ieee.{Float}
use lib.Ieee.Scale.{finite}
use borrow.Author.Tests.{le-leb, lt-ltb, eq-eqb, ne_eqb}
use Rattle.basics.specs.Lists.{every, pieces}
use Rattle.basics.proofs.Tests.{both_true}
use Rattle.params.specs.Limits.{dimension_within, capacity_within, within_limits}
use Rattle.store.specs.Layout.{word, state_at, dimension_at, nodes_at, degree_at, final_prune_at, entry_at, bridge_count_at, capacity_at, zero_at}
use Rattle.store.specs.View.{params_of, row_words, bridge_words, entries_in, row_block, bridge_in}
use Rattle.store.specs.WellFormed.{open_ok, built_ok, header_ok, is_node, count_ok, row_ok, bridge_ok, rest_ok}
use Rattle.store.proofs.Header.{Open, Built}
use Rattle.store.proofs.Reading.{Short}
use Rattle.def_walk.proofs.graph_utils.Bridges.{AllEnds}

-- ---- tests of every element

pub every-both : {A : Type 0} (p : A → Bool) (xs ys : List A) → every p xs ≡ true → every p ys ≡ true → every p (xs ++ ys) ≡ true
unfolding every
every-both {A} p [] ys a b = b
every-both {A} p (x ∷ xs) ys a b = let t = both_true (p x) (every p xs) a in ap₂ ◌&&◌ t.0 (every-both p xs ys t.1 b)

-- ---- the header

pub record Shape (w : List ℕ) : Type 0 where
  pub params : within_limits (params_of w) ≡ true
  pub dimension : dimension_within (word w dimension_at) ≡ true
  pub capacity : capacity_within (word w capacity_at) ≡ true
  pub final : word w final_prune_at ≤ 1
  pub zero_word : word w zero_at ≡ 0
  pub nodes : word w nodes_at ≤ word w capacity_at

pub header_ok_lem : (w : List ℕ) → Shape w → (open_ok w || built_ok w) ≡ true → header_ok w ≡ true
unfolding header_ok
header_ok_lem w s h =
    ap₂ ◌&&◌
    (ap₂ ◌&&◌
    (ap₂ ◌&&◌ (ap₂ ◌&&◌ (ap₂ ◌&&◌ (ap₂ ◌&&◌ s.params s.dimension) s.capacity) (le-leb (word w final_prune_at) 1 s.final)) (eq-eqb (word w zero_at) 0 s.zero_word))
    (le-leb (word w nodes_at) (word w capacity_at) s.nodes))
    h

either_true : (a b : Bool) → b ≡ true → (a || b) ≡ true
either_true true b e = refl
either_true false b e = e

pub open_ok_lem : (w : List ℕ) → Open w → (open_ok w || built_ok w) ≡ true
open_ok_lem w o =
    ap (λ (b : Bool). b || built_ok w)
    (ap₂ ◌&&◌ (ap₂ ◌&&◌ (eq-eqb (word w state_at) 0 o.state) (eq-eqb (word w entry_at) 0 o.entry)) (eq-eqb (word w bridge_count_at) 0 o.bridges))

pub built_ok_lem : (w : List ℕ) → Built w → (open_ok w || built_ok w) ≡ true
built_ok_lem w b =
    either_true (open_ok w) (built_ok w)
    (ap₂ ◌&&◌
    (ap₂ ◌&&◌ (ap₂ ◌&&◌ (eq-eqb (word w state_at) 1 b.state) (le-leb 1 (word w nodes_at) b.nodes)) (lt-ltb (word w entry_at) (word w nodes_at) b.entry))
    (lt-ltb (word w bridge_count_at) (word w nodes_at) b.bridges))

-- ---- rows: their counts, which the view does not show, and their entries, which it does

abbrev pub all_nodes : ℕ → List (List ℕ) → Bool
all_nodes n = every (every (is_node n))

pub rows_ok : (D n : ℕ) (rows : List (List ℕ)) → every (count_ok D) rows ≡ true → all_nodes n (map entries_in rows) ≡ true → every (row_ok D n) rows ≡ true
unfolding every row_ok
rows_ok D n [] c e = refl
rows_ok D n (r ∷ rows) c e =
    let counts = both_true (count_ok D r) (every (count_ok D) rows) c in
    let entries = both_true (every (is_node n) (entries_in r)) (all_nodes n (map entries_in rows)) e in
    ap₂ ◌&&◌ (ap₂ ◌&&◌ counts.0 entries.0) (rows_ok D n rows counts.1 entries.1)

-- rows of no entries
pub empty_rows : (n k : ℕ) → all_nodes n (replicate k []) ≡ true
unfolding every
empty_rows n zero = refl
empty_rows n (suc k) = empty_rows n k

-- rows whose entries are below n
below_ok : (n : ℕ) (l : List ℕ) → ((v : ℕ) → In v l → v < n) → every (is_node n) l ≡ true
unfolding every
below_ok n [] h = refl
below_ok n (y ∷ l) h = ap₂ ◌&&◌ (lt-ltb y n (h y (here refl))) (below_ok n l (λ v m. h v (there m)))

pub rows_below_ok : (n : ℕ) (rows : List (List ℕ)) → ((u v : ℕ) → In v (get_or rows u []) → v < n) → all_nodes n rows ≡ true
unfolding every
rows_below_ok n [] h = refl
rows_below_ok n (r ∷ rows) h = ap₂ ◌&&◌ (below_ok n r (h 0)) (rows_below_ok n rows (λ u. h (suc u)))

-- rows as they are laid
pub blocks_ok : (D : ℕ) (rows : List (List ℕ)) → Short D rows → every (count_ok D) (map (row_block D) rows) ≡ true
unfolding every
blocks_ok D [] h = refl
blocks_ok D (r ∷ rows) h = ap₂ ◌&&◌ (le-leb (length r) D h.0) (blocks_ok D rows h.1)

-- ---- bridges and vectors, by what the view shows

pub bridges_ok : (n : ℕ) (pairs : List (List ℕ)) → AllEnds n (map bridge_in pairs) → every (bridge_ok n) pairs ≡ true
unfolding every
bridges_ok n [] h = refl
bridges_ok n (b ∷ pairs) h =
    ap₂ ◌&&◌
    (ap₂ ◌&&◌ (ap₂ ◌&&◌ (lt-ltb (get_or b 0 0) n h.0.near_below) (lt-ltb (get_or b 1 0) n h.0.far_below))
    (ap mathlib.Core.Bool.not (ne_eqb (get_or b 0 0) (get_or b 1 0) h.0.differ)))
    (bridges_ok n pairs h.1)

pub vectors_ok : (d n : ℕ) (f : List Float) → every (every finite) (pieces d n f) ≡ true → every finite (take (n * d) f) ≡ true
unfolding every pieces
vectors_ok d zero f h = let none : zero * d ≡ 0 = omega arith in ap (λ (k : ℕ). every finite (take k f)) none
vectors_ok d (suc n) f h =
    let t = both_true (every finite (take d f)) (every (every finite) (pieces d n (drop d f))) h in
    let whole : suc n * d ≡ d + n * d = omega arith in
    ap (λ (k : ℕ). every finite (take k f)) whole ∙ ap (every finite) (take-add d (n * d) f)
    ∙ every-both finite (take d f) (take (n * d) (drop d f)) t.0 (vectors_ok d n (drop d f) t.1)

pub rest_ok_lem : (w : List ℕ) (f : List Float) → every (row_ok (word w degree_at) (word w nodes_at)) (row_words w) ≡ true
    → every (bridge_ok (word w nodes_at)) (bridge_words w) ≡ true → every finite (take (word w nodes_at * word w dimension_at) f) ≡ true → rest_ok w f ≡ true
unfolding rest_ok
rest_ok_lem w f rows bridges vectors = ap₂ ◌&&◌ (ap₂ ◌&&◌ rows bridges) vectors
