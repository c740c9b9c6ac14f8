-- Places offered one by one, and gathered: what a turn of each loop adds. Assumes nothing.
use mathlib.Core.Path.{◌≡◌, sym, ap, ap₂, ◌∙◌}
use mathlib.Core.List.{List, [], ◌∷◌, ◌++◌, map, map-append, append-nil, append_assoc}
use Prim.Native.Nat.{ℕ, suc, ◌+◌, ◌-◌, ◌≤◌, ◌<◌}
use native.Mathlib.Omega.{arith}
use native.Mathlib.Numerals.{add-one}
use lib.ListN.{length, get_or, take, length-take}
use lib.Seq.{take-suc}
use Rattle.sorting.specs.Sorting.{first_by}
use Rattle.sorting.specs.declared.Keyed.{Keyed}
use Rattle.sorting.specs.Inside.Pairs.{key_in, insert_after, kept_pairs, put_front}
use Rattle.sorting.proofs.Pairs.{no_pair, kept_are, none_kept}
use Rattle.build_leaf.specs.declared.leaf_candidates.Place.{Place}
use Rattle.build_leaf.specs.Inside.Candidates.{size_of, places_from, offer, Offered, NearestPlaces}

-- ---- offering

kept_few : (n : ℕ) (pair : Keyed) (xs : List Keyed) → length (kept_pairs n pair xs) ≤ length xs
unfolding kept_pairs
kept_few n pair xs = omega (arith, length-take (length xs) (insert_after key_in pair (take n xs)))

module _ (p : Place) (from : ℕ) (pairs : List Keyed) (held : ℕ) where
  pub offered_none : (k : ℕ) → k ≡ 0 → Offered p from k pairs held pairs held
  unfolding places_from
  offered_none k e = record {
    few = λ h. h;
    first = λ before h. h ∙ ap (first_by key_in (length pairs)) (sym (ap (λ (m : ℕ). before ++ map (offer p) (places_from from m)) e ∙ append-nil before));
  }

  pub offered_more : (k k' j r : ℕ) (ps ps' : List Keyed) (kept : ℕ) → k' ≡ suc k → j ≡ from + k → length ps ≡ length pairs
      → (r ≡ length (kept_pairs kept (offer p j) ps)) × (ps' ≡ put_front (kept_pairs kept (offer p j) ps) ps)
      → Offered p from k pairs held ps kept → Offered p from k' pairs held ps' r
  unfolding places_from
  offered_more k k' j r ps ps' kept next at size step o =
      record {
        few = λ h. omega (arith, step.0, kept_few kept (offer p j) ps);
        first = λ before h.
            let now : take kept ps ≡ first_by key_in (length ps) (before ++ map (offer p) (places_from from k)) =
            o.first before h ∙ ap (λ (a : ℕ). first_by key_in a (before ++ map (offer p) (places_from from k))) (sym size) in
            kept_are kept r (offer p j) ps ps' (before ++ map (offer p) (places_from from k)) step now
            ∙ ap₂ (λ (a : ℕ) (l : List Keyed). first_by key_in a l) size
            (append_assoc before (map (offer p) (places_from from k)) (offer p j ∷ [])
            ∙ ap (λ (i : ℕ). before ++ (map (offer p) (places_from from k) ++ (offer p i ∷ []))) at
            ∙ ap (λ (l : List Keyed). before ++ l) (sym (map-append (offer p) (places_from from k) ((from + k) ∷ [])))
            ∙ ap (λ (a : ℕ). before ++ map (offer p) (places_from from a)) (sym next));
      }

-- those before place i, then those behind it
pub nearest_of_lem : (p : Place) (held r : ℕ) (pairs pairs₁ pairs₂ : List Keyed) → length pairs₁ ≡ length pairs → length pairs₂ ≡ length pairs₁
    → Offered p 0 (p.i - 0) pairs 0 pairs₁ held → Offered p (p.i + 1) (size_of p - (p.i + 1)) pairs₁ held pairs₂ r → NearestPlaces p r pairs₂
nearest_of_lem p held r pairs pairs₁ pairs₂ a b one two =
    let zero-off : p.i - 0 ≡ p.i = omega arith in
    let first : List Keyed = map (offer p) (places_from 0 (p.i - 0)) in
    let start : take held pairs₁ ≡ first_by key_in (length pairs₁) first =
    one.first [] (none_kept (length pairs) pairs) ∙ ap (λ (x : ℕ). first_by key_in x first) (sym a) in
    record {
      few = omega (arith, two.few (omega (arith, one.few (omega arith))));
      first =
          two.first first start
          ∙ ap₂ (λ (x : ℕ) (l : List Keyed). first_by key_in x l) (sym b)
          (sym (map-append (offer p) (places_from 0 (p.i - 0)) (places_from (p.i + 1) (size_of p - (p.i + 1))))
          ∙ ap (λ (x : ℕ). map (offer p) (places_from 0 x ++ places_from (p.i + 1) (size_of p - (p.i + 1)))) zero-off);
    }

-- ---- gathering

-- one pair more
pub gathered_more : {A : Type 0} (f : Keyed → A) (pairs : List Keyed) (c : ℕ) (x : A) (now : List A) → c < length pairs → x ≡ f (get_or pairs c no_pair)
    → now ≡ map f (take c pairs) → now ++ (x ∷ []) ≡ map f (take (c + 1) pairs)
gathered_more {A} f pairs c x now h e p =
    ap₂ (λ (l : List A) (y : A). l ++ (y ∷ [])) p e
    ∙ sym (map-append f (take c pairs) (get_or pairs c no_pair ∷ []))
    ∙ ap (map f) (sym (ap (λ (k : ℕ). take k pairs) (add-one c) ∙ take-suc pairs c no_pair h))
