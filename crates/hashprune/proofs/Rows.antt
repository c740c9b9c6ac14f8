-- A row's entries, the loops that drop equal neighbours and that write a row. Assumes nothing.
use mathlib.Core.Path.{◌≡◌, refl, sym, ap, ap₂, ◌∙◌}
use mathlib.Core.Bool.{Bool, true, false}
use mathlib.Core.List.{List, ◌∷◌, ◌++◌, map}
use Prim.Native.Nat.{ℕ, suc, ◌+◌, ◌-◌, ◌≤◌, ◌<◌, min}
use native.Mathlib.Numerals.{add-one}
use native.Mathlib.Omega.{arith}
use lib.ListN.{length, get_or, set, take, drop, replicate, length-take, length-drop, length-map, length-set, length-replicate}
use lib.Seq.{take_all, drop-length, drop-cons, get_or-take, get_or-set_same, take-set-le, take-take, drop-set-lt}
use Rattle.std.proofs.lemmas.List.{drop-replicate, take_rest}
use Rattle.sorting.proofs.Laws.{take-map}
use Rattle.basics.specs.Choice.{pick_true, pick_false}
use Rattle.sorting.specs.declared.Keyed.{Keyed}
use Rattle.sorting.specs.Inside.Pairs.{id_in}
use Rattle.sorting.proofs.Pairs.{no_pair}
use Rattle.def_graph.specs.Leaf.{starts_with, dedup}
use Rattle.store.specs.View.{entries_in, row_block}
use Rattle.hashprune.proofs.Lists.{written, written_more, take_least}

-- ---- entries

pub length-entries : (row : List ℕ) → length (entries_in row) ≡ min (get_or row 0 0) (length row - 1)
length-entries row = simp (length-take, length-drop) (omega arith)

-- ---- equal neighbours

-- what stands from `from` on is what stays of the pairs from i on; before i nothing changed
pub record Deduped (l₀ l : List Keyed) (i from : ℕ) : Type 0 where
  pub behind : i ≤ from
  pub within : from ≤ length l₀
  pub long : length l ≡ length l₀
  pub before : take i l ≡ take i l₀
  pub stays : map id_in (drop from l) ≡ dedup (map id_in (drop i l₀))

module _ (l₀ : List Keyed) where
  pub deduped_none : Deduped l₀ l₀ (length l₀) (length l₀)
  unfolding dedup
  deduped_none = record {
    behind = omega arith;
    within = omega arith;
    long = refl;
    before = refl;
    stays = ap (map id_in) (drop-length l₀) ∙ sym (ap (λ (r : List Keyed). dedup (map id_in r)) (drop-length l₀));
  }

  module _ (l : List Keyed) (i from : ℕ) (some : 0 < i) (d : Deduped l₀ l i from) where
    abbrev pair : Keyed
    pair = get_or l (i - 1) no_pair

    same_pair : pair ≡ get_or l₀ (i - 1) no_pair
    same_pair =
        sym (get_or-take i l (i - 1) no_pair (omega arith))
        ∙ ap (λ (r : List Keyed). get_or r (i - 1) no_pair) d.before
        ∙ get_or-take i l₀ (i - 1) no_pair (omega arith)

    longer : map id_in (drop (i - 1) l₀) ≡ pair.id ∷ map id_in (drop i l₀)
    longer =
        let e : suc (i - 1) ≡ i = omega arith in
        let k : i - 1 < length l₀ = omega (arith, d.behind, d.within) in
        ap (map id_in) (drop-cons l₀ (i - 1) no_pair k) ∙ (λ j. id_in (sym same_pair j) ∷ map id_in (drop (e j) l₀))

    before_less : (r : List Keyed) → take i r ≡ take i l₀ → take (i - 1) r ≡ take (i - 1) l₀
    before_less r e = sym (take-take (i - 1) i r (omega arith)) ∙ ap (take (i - 1)) e ∙ take-take (i - 1) i l₀ (omega arith)

    rest : {b : Bool} → starts_with pair.id (map id_in (take (length l - from) (drop from l))) ≡ b → starts_with pair.id (map id_in (drop from l)) ≡ b
    rest t = rw take_rest at t

    pub deduped_same : starts_with pair.id (map id_in (take (length l - from) (drop from l))) ≡ true → Deduped l₀ l (i - 1) from
    unfolding dedup
    deduped_same t = record {
      behind = omega (arith, d.behind);
      within = d.within;
      long = d.long;
      before = before_less l d.before;
      stays = d.stays ∙ sym (ap dedup longer ∙ pick_true _ _ (ap (starts_with pair.id) (sym d.stays) ∙ rest t));
    }

    pub deduped_kept : starts_with pair.id (map id_in (take (length l - from) (drop from l))) ≡ false → Deduped l₀ (set l (from - 1) pair) (i - 1) (from - 1)
    unfolding dedup
    deduped_kept t =
        let l' : List Keyed = set l (from - 1) pair in
        let inside : from - 1 < length l = omega (arith, d.behind, d.within, d.long) in
        let e : suc (from - 1) ≡ from = omega (arith, d.behind) in
        let grown : drop (from - 1) l' ≡ pair ∷ drop from l
        = drop-cons l' (from - 1) no_pair (omega (arith, length-set l (from - 1) pair))
        ∙ ap₂ (λ (y : Keyed) (r : List Keyed). y ∷ r) (get_or-set_same l (from - 1) pair no_pair inside)
        (drop-set-lt (suc (from - 1)) l (from - 1) pair (omega arith) ∙ ap (λ (j : ℕ). drop j l) e) in record {
          behind = omega (arith, d.behind);
          within = omega (arith, d.within);
          long = length-set l (from - 1) pair ∙ d.long;
          before = take-set-le (i - 1) l (from - 1) pair (omega (arith, d.behind)) ∙ before_less l d.before;
          stays =
              ap (map id_in) grown
              ∙ ap (λ (r : List ℕ). pair.id ∷ r) d.stays
              ∙ sym (ap dedup longer ∙ pick_false _ _ (ap (starts_with pair.id) (sym d.stays) ∙ rest t));
        }

-- ---- a row as words

-- a count, the ids of the first i pairs, and zeros
abbrev pub Written : ℕ → List Keyed → ℕ → List ℕ → Type 0
Written D ps i row = row ≡ length ps ∷ written id_in ps (replicate D 0) i

pub written_count : (row : List ℕ) (ps : List Keyed) (count : ℕ) → 1 ≤ length row → count ≡ length ps
    → Written (length row - 1) ps 0 (set (replicate (length row) 0) 0 count)
written_count row ps count h e =
    let n : length row ≡ suc (length row - 1) = omega arith in
    ap (λ (k : ℕ). set (replicate k 0) 0 count) n ∙ ap (λ (k : ℕ). k ∷ replicate (length row - 1) 0) e

pub written_next : (D : ℕ) (ps : List Keyed) (i : ℕ) (row : List ℕ) → i < length ps → length ps ≤ D → Written D ps i row
    → Written D ps (i + 1) (set row (i + 1) (get_or ps i no_pair).id)
written_next D ps i row h room w =
    rw (add-one i)
    (ap (λ (r : List ℕ). set r (suc i) (get_or ps i no_pair).id) w
    ∙ ap (λ (r : List ℕ). length ps ∷ r) (written_more id_in ps (replicate D 0) no_pair i h (omega (arith, length-replicate {A = ℕ} D 0)) ∙ ap (written id_in ps (replicate D 0)) (add-one i)))

whole : (ps : List Keyed) (i : ℕ) → i ≡ length ps → take i ps ≡ ps
whole ps i k = take_all i ps (omega arith)

entries_are : (D : ℕ) (ps all : List Keyed) → ps ≡ take (min (length all) D) all → map id_in ps ≡ take D (map id_in all)
entries_are D ps all e =
    let n : min (length all) D ≡ min D (length (map id_in all)) = omega (arith, length-map all id_in) in
    ap (map id_in) e ∙ sym (take-map id_in (min (length all) D) all) ∙ ap (λ (j : ℕ). take j (map id_in all)) n ∙ take_least D (map id_in all)

many : (D : ℕ) (ps all : List Keyed) → ps ≡ take (min (length all) D) all → length ps ≡ length (take D (map id_in all))
many D ps all e = sym (length-map ps id_in) ∙ ap length (entries_are D ps all e)

pub written_done : (D : ℕ) (ps all : List Keyed) (i : ℕ) (row : List ℕ) → ps ≡ take (min (length all) D) all → i ≡ length ps → Written D ps i row
    → row ≡ row_block D (take D (map id_in all))
written_done D ps all i row e k w =
    let front = ap (map id_in) (whole ps i k) ∙ entries_are D ps all e in
    let zeros : drop i (replicate {A = ℕ} D 0) ≡ replicate (D - length (take D (map id_in all))) 0
    = drop-replicate i D 0 ∙ ap (λ (j : ℕ). replicate (D - j) 0) (k ∙ many D ps all e) in
    w ∙ (λ j. many D ps all e j ∷ (front j ++ zeros j))
