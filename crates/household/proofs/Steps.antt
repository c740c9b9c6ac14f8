-- What a turn of each loop does: a sighting is gathered or passed over, a number is counted or stands again further on, a number is looked for.
-- Assumes nothing.
use mathlib.Core.Path.{◌≡◌, refl, sym, ap, ◌∙◌}
use mathlib.Core.Bool.{Bool, true, false, not, ◌||◌, or_assoc, or-false}
use mathlib.Core.List.{List, [], ◌∷◌, ◌++◌, append-nil}
use mathlib.Core.Logic.{◌⊎◌, inl, inr}
use Prim.Native.Nat.{ℕ, ◌+◌, ◌-◌, ◌≤◌, ◌<◌}
use native.Mathlib.Numerals.{add-one}
use native.Mathlib.Omega.{arith}
use lib.Dec.{eqb}
use lib.ListN.{length, get_or, take, drop, length-drop, drop_of_length-le}
use lib.Seq.{take-length, drop-cons, append_snoc}
use mir.Val.{bool_byte}
use Rattle.std.specs.List.{fold}
use borrow.Author.Tests.{eq-eqb, ne_eqb}
use Rattle.basics.specs.Choice.{pick, pick_true, pick_false}
use Rattle.basics.specs.Nodes.{has}
use Rattle.household.specs.Day.{day_of}
use Rattle.household.specs.Household.{docs_on, different}

pub at_most_one : (b : Bool) → bool_byte b ≤ 1
at_most_one true = omega arith
at_most_one false = omega arith

-- ---- gathering: what is gathered, then the doc ids of the sightings that are left, are those of all

module _ (day second doc its : ℕ) (front ss ds seconds docs all : List ℕ) (day_is : its ≡ day_of second) (s : ss ≡ second ∷ seconds) (d : ds ≡ doc ∷ docs)
    (so : front ++ docs_on day ss ds ≡ all) where
  pub gathered : its ≡ day → (front ++ (doc ∷ [])) ++ docs_on day seconds docs ≡ all
  unfolding docs_on
  gathered h =
      let here : docs_on day ss ds ≡ doc ∷ docs_on day seconds docs = rw (s, d, ← day_is) (pick_true _ _ (eq-eqb its day h)) in
      append_snoc front doc (docs_on day seconds docs) ∙ ap (λ (r : List ℕ). front ++ r) (sym here) ∙ so

  pub passed_over : (its ≡ day → ⊥) → front ++ docs_on day seconds docs ≡ all
  unfolding docs_on
  passed_over h =
      let here : docs_on day ss ds ≡ docs_on day seconds docs = rw (s, d, ← day_is) (pick_false _ _ (ne_eqb its day h)) in
      ap (λ (r : List ℕ). front ++ r) (sym here) ∙ so

none_left : (day : ℕ) (seconds docs : List ℕ) → (length seconds ≡ 0) ⊎ (length docs ≡ 0) → docs_on day seconds docs ≡ []
unfolding docs_on
none_left day [] docs h = refl
none_left day (s ∷ seconds) [] h = refl
none_left day (s ∷ seconds) (d ∷ docs) (inl h) = absurd (omega (arith, h))
none_left day (s ∷ seconds) (d ∷ docs) (inr h) = absurd (omega (arith, h))

pub gather_end : (day : ℕ) (front seconds docs all : List ℕ) → (length seconds ≡ 0) ⊎ (length docs ≡ 0) → front ++ docs_on day seconds docs ≡ all → front ≡ all
gather_end day front seconds docs all h e = sym (append-nil front) ∙ (rw (none_left day seconds docs h) at e)

-- ---- counting: what the first of the numbers that are left adds to the count

counted : (b : Bool) (x : ℕ) (rest : List ℕ) → length (pick b rest (x ∷ rest)) ≡ bool_byte (not b) + length rest
unfolding pick
counted true x rest = omega arith
counted false x rest = omega arith

pub count_one : (xs : List ℕ) (i : ℕ) (again : Bool) → i < length xs → again ≡ has (get_or xs i 0) (take (length xs - (i + 1)) (drop (i + 1) xs))
    → length (different (drop i xs)) ≡ bool_byte (not again) + length (different (drop (i + 1) xs))
unfolding different
count_one xs i again h e =
    let rest : List ℕ = drop (i + 1) xs in
    let here : again ≡ has (get_or xs i 0) rest = e ∙ rw (← (length-drop (i + 1) xs), take-length rest) in
    let first : drop i xs ≡ get_or xs i 0 ∷ rest = rw (add-one i) (drop-cons xs i 0 h) in
    rw (first, here) (counted (has (get_or xs i 0) rest) (get_or xs i 0) (different rest))

pub none_different : (xs : List ℕ) (i : ℕ) → length xs ≤ i → length (different (drop i xs)) ≡ 0
unfolding different
none_different xs i h = rw (drop_of_length-le xs h) refl

-- ---- looking for a number

pub fold_of_looks : (x : ℕ) (found : Bool) (xs : List ℕ) → fold (λ (b : Bool) (y : ℕ). b || eqb x y) found xs ≡ (found || has x xs)
unfolding has
fold_of_looks x found [] = sym (or-false found)
fold_of_looks x found (y ∷ ys) = fold_of_looks x (found || eqb x y) ys ∙ or_assoc found (eqb x y) (has x ys)
