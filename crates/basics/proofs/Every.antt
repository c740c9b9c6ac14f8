-- What a loop that gathers a test over a slice, without a branch, has gathered so far. Assumes nothing.
use mathlib.Core.Path.{◌≡◌, refl, sym, ap, ◌∙◌}
use mathlib.Core.Bool.{Bool, true, ◌&&◌, and_assoc, and-true}
use mathlib.Core.List.{List, [], ◌∷◌, ◌++◌}
use Prim.Native.Nat.{ℕ, zero, suc, ◌+◌, ◌-◌, ◌*◌, ◌≤◌, ◌<◌}
use native.Mathlib.Nat.{sub-zero}
use native.Mathlib.Numerals.{add-one}
use native.Mathlib.Omega.{arith}
use lib.ListN.{length, length-append, get_or, take, drop, drop_of_length-le}
use lib.Seq.{drop-cons, drop-drop, take_at, drop_at}
use Rattle.std.specs.List.{fold}
use Rattle.basics.specs.Lists.{every, pieces}

-- a fold that joins the tests of all elements
pub fold_of_tests : {A : Type 0} (p : A → Bool) (ok : Bool) (xs : List A) → fold (λ (b : Bool) (x : A). b && p x) ok xs ≡ (ok && every p xs)
unfolding every
fold_of_tests p ok [] = sym (and-true ok)
fold_of_tests p ok (x ∷ xs) = fold_of_tests p (ok && p x) xs ∙ and_assoc ok (p x) (every p xs)

module _ {A : Type 0} (p : A → Bool) (xs : List A) where
  every_step : (d : A) (i : ℕ) → i < length xs → every p (drop i xs) ≡ (p (get_or xs i d) && every p (drop (i + 1) xs))
  unfolding every
  every_step d i h = rw (add-one i, drop-cons xs i d)

  -- one element more
  pub gather_step : (d : A) (i : ℕ) (ok b all : Bool) → i < length xs → b ≡ p (get_or xs i d)
      → (ok && every p (drop i xs)) ≡ all → (ok && b && every p (drop (i + 1) xs)) ≡ all
  gather_step d i ok b all h e g =
      and_assoc ok b (every p (drop (i + 1) xs))
      ∙ ap (λ (t : Bool). ok && (t && every p (drop (i + 1) xs))) e
      ∙ ap (λ (t : Bool). ok && t) (sym (every_step d i h))
      ∙ g

  -- past the last one
  pub gather_end : (i : ℕ) (ok all : Bool) → length xs ≤ i → (ok && every p (drop i xs)) ≡ all → ok ≡ all
  unfolding every
  gather_end i ok all h g = sym (and-true ok) ∙ sym (ap (λ (l : List A). ok && every p l) (drop_of_length-le xs h)) ∙ g

-- the same over the pieces of a list, from piece i on, which starts at `at`
module _ {A : Type 0} (p : List A → Bool) (xs : List A) (d n : ℕ) where
  pub gather_first : (at : ℕ) → (true && every p (pieces d (n - 0) (drop at xs))) ≡ every p (pieces d n (drop at xs))
  gather_first at = rw (sub-zero n)

  pub gather_piece : (i at : ℕ) (ok b all : Bool) → i < n → b ≡ p (take d (drop at xs))
      → (ok && every p (pieces d (n - i) (drop at xs))) ≡ all → (ok && b && every p (pieces d (n - (i + 1)) (drop (at + d) xs))) ≡ all
  unfolding every pieces
  gather_piece i at ok b all h e g =
      let more : n - i ≡ suc (n - (i + 1)) = omega arith in
      rw (e, and_assoc, ← (drop-drop d at xs)) (rw more at g)

  pub gather_last : (i at : ℕ) (ok all : Bool) → n ≤ i → (ok && every p (pieces d (n - i) (drop at xs))) ≡ all → ok ≡ all
  unfolding every pieces
  gather_last i at ok all h g =
      let none : n - i ≡ 0 = omega arith in
      sym (and-true ok) ∙ (rw none at g)

-- the same over the pieces of a list, where the next piece comes off the front of what is left
pub record Gathered {A : Type 0} (p : List A → Bool) (d : ℕ) (all ok : Bool) (rest : List A) : Type 0 where
  pub left : ℕ
  pub long : length rest ≡ left * d
  pub is : (ok && every p (pieces d left rest)) ≡ all

module _ {A : Type 0} (p : List A → Bool) (d : ℕ) where
  pub gathered_none : (n : ℕ) (xs : List A) → length xs ≡ n * d → Gathered p d (every p (pieces d n xs)) true xs
  gathered_none n xs h = record { left = n; long = h; is = refl }

  pub gathered_more : {all ok : Bool} {rest : List A} → (x after : List A) (b : Bool) → Gathered p d all ok rest → 0 < d → rest ≡ x ++ after → length x ≡ d
      → b ≡ p x → Gathered p d all (ok && b) after
  unfolding every pieces
  gathered_more {all} {ok} {rest} x after b g some e long t = more g.left g.long g.is
    where
      more : (n : ℕ) → length rest ≡ n * d → (ok && every p (pieces d n rest)) ≡ all → Gathered p d all (ok && b) after
      more zero l is = absurd (omega (arith, ap length e, length-append x after))
      more (suc n) l is = record {
        left = n;
        long = omega (arith, ap length e, length-append x after);
        is =
            rw (t, and_assoc, ← (take_at x after d long), ← e)
            (ap (λ (r : List A). ok && (p (take d rest) && every p (pieces d n r))) (sym (drop_at x after d long) ∙ ap (drop d) (sym e)) ∙ is);
      }

  pub gathered_end : {all ok : Bool} {rest : List A} → Gathered p d all ok rest → length rest < d → ok ≡ all
  unfolding every pieces
  gathered_end {all} {ok} {rest} g short = none g.left g.long g.is
    where
      none : (n : ℕ) → length rest ≡ n * d → (ok && every p (pieces d n rest)) ≡ all → ok ≡ all
      none zero l is = sym (and-true ok) ∙ is
      none (suc n) l is = absurd (omega arith)
