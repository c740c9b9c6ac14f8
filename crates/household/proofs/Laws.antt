-- What the household count says: the doc ids of a day are those of its sightings, and they are counted once each, so that the count is the length of
-- every list without repeats that has the same members. Assumes nothing.
use mathlib.Core.Path.{◌≡◌, refl, sym, subst}
use mathlib.Core.Logic.{inl, inr}
use mathlib.Core.Bool.{Bool, true, false, not, true≢false}
use mathlib.Core.List.{List, [], ◌∷◌}
use mathlib.Core.List.Memᴰ.{cases_cons as in-cons}
use mathlib.Core.List.Memᴰ.{cast as in-cast}
use mathlib.Core.List.Memᴰ.{head as here}
use mathlib.Core.List.Memᴰ.{not-nil as in-nil}
use mathlib.Core.List.Memᴰ.{tail as there}
use mathlib.Core.List.{Memᴰ as In}
use Prim.Native.Nat.{ℕ, zero, suc, ◌≤◌, ◌<◌}
use native.Mathlib.Nat.{le_antisymm}
use native.Mathlib.Omega.{arith}
use borrow.Author.Tests.{ltb-false}
use lib.Dec.{T, eqb, ltb, eqb→eq}
use lib.ListN.{length, get_or}
use mir.Facts.{yes_eqb}
use Rattle.basics.specs.Choice.{pick_ind, pick_yes}
use Rattle.basics.specs.Nodes.{has, NoDup}
use Rattle.basics.proofs.Tests.{both_false}
use Rattle.basics.proofs.Counting.{has_in, hasn't, shorter}
use Rattle.household.specs.Day.{day_of}
use Rattle.household.specs.Household.{docs_on, different, turned_back}

-- ---- what is not refused

pub accepted : (seconds docs : List ℕ) → turned_back seconds docs ≡ false → (length seconds ≡ length docs) × (length docs ≤ 512)
accepted seconds docs e =
    let t = both_false (ltb 512 (length seconds)) (not (eqb (length seconds) (length docs))) e in
    let same : length seconds ≡ length docs = eqb→eq (length seconds) (length docs) (subst T (sym (not-false (eqb (length seconds) (length docs)) t.1)) tt) in
    (same, omega (arith, ltb-false 512 (length seconds) t.0))
  where
    not-false : (b : Bool) → not b ≡ false → b ≡ true
    not-false true e = refl
    not-false false e = absurd (true≢false e)

-- ---- a list without its repeats

pub different_short : (xs : List ℕ) → length (different xs) ≤ length xs
unfolding different
different_short [] = omega arith
different_short (x ∷ xs) =
    let r = different_short xs in
    pick_ind (λ (l : List ℕ). length l ≤ length (x ∷ xs)) (has x xs) (λ _. omega arith) (λ _. omega arith)

-- it has the members of the list
pub from-different : (z : ℕ) (xs : List ℕ) → In z (different xs) → In z xs
unfolding different
from-different z [] = λ m. m
from-different z (x ∷ xs) =
    pick_ind (λ (l : List ℕ). In z l → In z (x ∷ xs)) (has x xs) (λ _ m. there (from-different z xs m))
    (λ _ m. elim (in-cons {b = x} {l = different xs} m) [ inl e ↦ here e | inr i ↦ there (from-different z xs i) ])

pub to_different : (z : ℕ) (xs : List ℕ) → In z xs → In z (different xs)
unfolding different
to_different z [] m = m
to_different z (x ∷ xs) m = elim (in-cons m) [
  | inl e ↦ pick_ind (In z) (has x xs) (λ t. to_different z xs (in-cast e (has_in x xs t))) (λ _. here e)
  | inr i ↦ pick_ind (In z) (has x xs) (λ _. to_different z xs i) (λ _. there (to_different z xs i))
]

-- each once
pub different_once : (xs : List ℕ) → NoDup (different xs)
unfolding different
different_once [] = tt
different_once (x ∷ xs) =
    pick_ind NoDup (has x xs) (λ _. different_once xs) (λ t. ((λ m. hasn't x xs t (from-different x xs m)), different_once xs))

-- its length is that of every list without repeats that has the same members
pub counts_each_once : (xs l : List ℕ) → NoDup l → ((z : ℕ) → In z l → In z xs) → ((z : ℕ) → In z xs → In z l) → length (different xs) ≡ length l
counts_each_once xs l d into from =
    le_antisymm
    (shorter (different xs) l (different_once xs) (λ z m. from z (from-different z xs m)))
    (shorter l (different xs) d (λ z m. to_different z xs (into z m)))

-- ---- the doc ids of a day

-- doc is that of a sighting, the j-th, which lies in the day
pub record Sighted (day doc : ℕ) (seconds docs : List ℕ) : Type 0 where
  pub j : ℕ
  pub among : (j < length seconds) × (j < length docs)
  pub day_is : day_of (get_or seconds j 0) ≡ day
  pub doc_is : get_or docs j 0 ≡ doc

later : {day doc s d : ℕ} {seconds docs : List ℕ} → Sighted day doc seconds docs → Sighted day doc (s ∷ seconds) (d ∷ docs)
later w = record { j = suc w.j; among = (omega (arith, w.among.0), omega (arith, w.among.1)); day_is = w.day_is; doc_is = w.doc_is }

pub on_sighted : (day doc : ℕ) (seconds docs : List ℕ) → In doc (docs_on day seconds docs) → Sighted day doc seconds docs
unfolding docs_on
on_sighted day doc [] docs = λ m. absurd (in-nil m)
on_sighted day doc (s ∷ seconds) [] = λ m. absurd (in-nil m)
on_sighted day doc (s ∷ seconds) (d ∷ docs) =
    pick_ind (λ (l : List ℕ). In doc l → Sighted day doc (s ∷ seconds) (d ∷ docs)) (eqb (day_of s) day)
    (λ t m. elim (in-cons {b = d} {l = docs_on day seconds docs} m) [
      | inl e ↦ record { j = 0; among = (omega arith, omega arith); day_is = eqb→eq (day_of s) day t; doc_is = sym e }
      | inr i ↦ later (on_sighted day doc seconds docs i)
    ])
    (λ t m. later (on_sighted day doc seconds docs m))

pub sighted_on : (day doc : ℕ) (seconds docs : List ℕ) → Sighted day doc seconds docs → In doc (docs_on day seconds docs)
unfolding docs_on
sighted_on day doc seconds docs w = at day doc seconds docs w.j w.among.0 w.among.1 w.day_is w.doc_is
  where
    at : (day doc : ℕ) (seconds docs : List ℕ) (j : ℕ) → j < length seconds → j < length docs → day_of (get_or seconds j 0) ≡ day → get_or docs j 0 ≡ doc
        → In doc (docs_on day seconds docs)
    at day doc [] docs j h k q e = absurd (omega arith)
    at day doc (s ∷ seconds) [] j h k q e = absurd (omega arith)
    at day doc (s ∷ seconds) (d ∷ docs) zero h k q e =
        subst (In doc) (sym (pick_yes (eqb (day_of s) day) (d ∷ docs_on day seconds docs) (docs_on day seconds docs) (yes_eqb q))) (here (sym e))
    at day doc (s ∷ seconds) (d ∷ docs) (suc j) h k q e =
        let r = at day doc seconds docs j (omega arith) (omega arith) q e in
        pick_ind (In doc) (eqb (day_of s) day) (λ _. there r) (λ _. r)
