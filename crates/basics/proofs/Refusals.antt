-- How the number of the first check that fails is found: by its place in the list, and over two lists of checks. Assumes nothing.
use mathlib.Core.Path.{◌≡◌, refl, sym, subst, ◌∙◌}
use mathlib.Core.Bool.{true, false}
use mathlib.Core.List.{List, [], ◌∷◌, ◌++◌}
use Prim.Native.Nat.{ℕ, zero, suc}
use native.Mathlib.Omega.{arith}
use lib.Dec.{T}
use lib.ListN.{get_or, take}
use lib.Ieee.Bits.{is_false}
use Rattle.basics.specs.Choice.{pick_ind, pick_yes, pick_no, pick_true, pick_false}
use Rattle.basics.specs.Refusals.{Check, check, first_refusal, Numbered}

-- each check of a list passes
abbrev pub Pass : List Check → Type 0
Pass [] = Unit
Pass (c ∷ cs) = (c.fails ≡ false) × Pass cs

abbrev pub nth : List Check → ℕ → Check
nth cs i = get_or cs i (check false 0)

-- the i-th check fails, and those before it pass
pub turned_at : (i : ℕ) (cs : List Check) → Pass (take i cs) → (nth cs i).fails ≡ true → (nth cs i).number ≡ first_refusal cs
unfolding first_refusal
turned_at i [] p h = absurd (subst T (sym h) tt)
turned_at zero (c ∷ cs) p h = sym (pick_true c.number (first_refusal cs) h)
turned_at (suc i) (c ∷ cs) p h = turned_at i cs p.1 h ∙ sym (pick_false c.number (first_refusal cs) p.0)

-- none fails
pub none_turned : (cs : List Check) → Pass cs → 0 ≡ first_refusal cs
unfolding first_refusal
none_turned [] p = refl
none_turned (c ∷ cs) p = none_turned cs p.1 ∙ sym (pick_false c.number (first_refusal cs) p.0)

-- a second list counts where the first refuses nothing
pub then_second : (first second : List Check) → Numbered first → first_refusal first ≡ 0 → first_refusal (first ++ second) ≡ first_refusal second
unfolding first_refusal
then_second [] second k = λ e. refl
then_second (c ∷ cs) second k =
    pick_ind (λ (x : ℕ). x ≡ 0 → first_refusal ((c ∷ cs) ++ second) ≡ first_refusal second) c.fails
    (λ t e. absurd (omega (arith, k.0)))
    (λ t e. pick_no c.fails c.number (first_refusal (cs ++ second)) t ∙ then_second cs second k.1 e)

pub then_first : (first second : List Check) → (first_refusal first ≡ 0 → ⊥) → first_refusal (first ++ second) ≡ first_refusal first
unfolding first_refusal
then_first [] second = λ n. absurd (n refl)
then_first (c ∷ cs) second =
    pick_ind (λ (x : ℕ). (x ≡ 0 → ⊥) → first_refusal ((c ∷ cs) ++ second) ≡ x) c.fails
    (λ t n. pick_yes c.fails c.number (first_refusal (cs ++ second)) t)
    (λ t n. pick_no c.fails c.number (first_refusal (cs ++ second)) t ∙ then_first cs second n)

-- a list that refuses nothing passes check by check
pub passes : (cs : List Check) → Numbered cs → first_refusal cs ≡ 0 → Pass cs
unfolding first_refusal
passes [] k = λ e. tt
passes (c ∷ cs) k =
    pick_ind (λ (x : ℕ). x ≡ 0 → Pass (c ∷ cs)) c.fails (λ t e. absurd (omega (arith, k.0))) (λ t e. (is_false c.fails t, passes cs k.1 e))

-- two lists that refuse nothing together refuse nothing each
pub both_none : (first second : List Check) → Numbered first → first_refusal (first ++ second) ≡ 0 → (first_refusal first ≡ 0) × (first_refusal second ≡ 0)
unfolding first_refusal
both_none [] second k = λ e. (refl, e)
both_none (c ∷ cs) second k =
    pick_ind (λ (x : ℕ). x ≡ 0 → (first_refusal (c ∷ cs) ≡ 0) × (first_refusal second ≡ 0)) c.fails
    (λ t e. absurd (omega (arith, k.0)))
    (λ t e. let r = both_none cs second k.1 e in (pick_no c.fails c.number (first_refusal cs) t ∙ r.0, r.1))
