-- The two cases of what a call leaves. Assumes nothing.
use mathlib.Core.Path.{◌≡◌, refl, sym, ap, ◌∙◌}
use mathlib.Core.List.{List}
use Prim.Native.Nat.{ℕ}
use lib.Dec.{eqb, eqb→eq}
use lib.Ieee.{Float}
use borrow.Author.Tests.{eq-eqb, ne_eqb}
use Rattle.basics.specs.Choice.{pick_ind, pick_true, pick_false}
use Rattle.pipnn.specs.Answer.{Answer, unless_refused}

module _ (refusal : ℕ) (w : List ℕ) (f : List Float) (words : List ℕ) (floats : List Float) where
  -- code that found the refusal and returns it
  pub left_alone : (found : ℕ) → found ≡ refusal → (found ≡ 0 → ⊥) → ◌≡◌ {A = Answer} (found, w, f) (unless_refused refusal w f words floats)
  unfolding unless_refused
  left_alone found e n =
      ap (λ (k : ℕ). (k, w, f)) e ∙ sym (pick_false {X = Answer} (0, words, floats) (refusal, w, f) (ne_eqb refusal 0 (λ z. n (e ∙ z))))

  pub changed : refusal ≡ 0 → ◌≡◌ {A = Answer} (0, words, floats) (unless_refused refusal w f words floats)
  unfolding unless_refused
  changed e = sym (pick_true {X = Answer} (0, words, floats) (refusal, w, f) (eq-eqb refusal 0 e))

  -- the number is the refusal's, 0 where there is none
  pub number_is : (unless_refused refusal w f words floats).0 ≡ refusal
  unfolding unless_refused
  number_is =
      pick_ind (λ (a : Answer). a.0 ≡ refusal) (eqb refusal 0) (λ t. sym (eqb→eq refusal 0 t)) (λ t. refl)
