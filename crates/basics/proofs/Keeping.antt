-- Those of a list for which a test holds: which they are, and how many. Assumes nothing.
use mathlib.Core.Path.{◌≡◌, refl, ap, ◌∙◌}
use mathlib.Core.Logic.{inl, inr}
use mathlib.Core.Bool.{Bool, not}
use mathlib.Core.List.{List, [], ◌∷◌}
use mathlib.Core.List.Memᴰ.{cases_cons as in-cons}
use mathlib.Core.List.Memᴰ.{head as here}
use mathlib.Core.List.Memᴰ.{not-nil as in-nil}
use mathlib.Core.List.Memᴰ.{tail as there}
use mathlib.Core.List.{Memᴰ as In}
use Prim.Native.Nat.{ℕ, suc, ◌≤◌}
use native.Mathlib.Omega.{arith}
use lib.Dec.{T}
use lib.ListN.{length}
use Rattle.basics.specs.Choice.{pick_ind, pick_yes, pick_no}
use Rattle.basics.specs.Lists.{keep}
use Rattle.basics.specs.Nodes.{NoDup}

module _ {A : Type 0} (test : A → Bool) where
  pub keep_yes : (x : A) (l : List A) → T (test x) → keep test (x ∷ l) ≡ x ∷ keep test l
  unfolding keep
  keep_yes x l t = pick_yes (test x) _ _ t

  pub keep_no : (x : A) (l : List A) → T (not (test x)) → keep test (x ∷ l) ≡ keep test l
  unfolding keep
  keep_no x l t = pick_no (test x) _ _ t

  pub in_keep : {z : A} (l : List A) → In z (keep test l) → T (test z) × In z l
  unfolding keep
  in_keep [] = λ m. absurd (in-nil m)
  in_keep {z} (x ∷ l) =
      let later : In z (keep test l) → T (test z) × In z (x ∷ l) = λ m. let p = in_keep l m in (p.0, there p.1) in
      pick_ind (λ (k : List A). In z k → T (test z) × In z (x ∷ l)) (test x)
      (λ t m. elim (in-cons {b = x} {l = keep test l} m) [ inl e ↦ (rw e t, here e) | inr i ↦ later i ]) (λ _ m. later m)

  pub keep_in : {z : A} (l : List A) → T (test z) → In z l → In z (keep test l)
  unfolding keep
  keep_in [] t m = m
  keep_in {z} (x ∷ l) t m =
      let rec : In z l → In z (keep test l) = keep_in l t in
      pick_ind (In z) (test x) (λ _. elim (in-cons m) [ inl e ↦ here e | inr i ↦ there (rec i) ])
      (λ u. elim (in-cons m) [ inl e ↦ absurd (lib.Dec.T_not (test x) u (rw e at t)) | inr i ↦ rec i ])

  -- one element more makes them one more at most
  pub keep_one : (x : A) (l : List A) → length (keep test (x ∷ l)) ≤ suc (length (keep test l))
  unfolding keep
  keep_one x l = pick_ind (λ (k : List A). length k ≤ suc (length (keep test l))) (test x) (λ _. omega arith) (λ _. omega arith)

  pub keep_few : (l : List A) → length (keep test l) ≤ length l
  unfolding keep
  keep_few [] = omega arith
  keep_few (x ∷ l) = omega (arith, keep_one x l, keep_few l)

  -- all, where the test holds of all of them
  pub keep_every : (l : List A) → ((x : A) → In x l → T (test x)) → keep test l ≡ l
  unfolding keep
  keep_every [] h = refl
  keep_every (x ∷ l) h = pick_yes (test x) _ _ (h x (here refl)) ∙ ap (λ (k : List A). x ∷ k) (keep_every l (λ y m. h y (there m)))

pub nodup_keep : (test : ℕ → Bool) (l : List ℕ) → NoDup l → NoDup (keep test l)
unfolding keep
nodup_keep test [] d = tt
nodup_keep test (x ∷ l) d =
    let rec : NoDup (keep test l) = nodup_keep test l d.1 in
    pick_ind NoDup (test x) (λ _. ((λ m. d.0 (in_keep test l m).1), rec)) (λ _. rec)
