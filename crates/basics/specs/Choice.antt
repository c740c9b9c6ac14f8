-- A choice by a test. Definitions use it wherever a case is decided by numbers, and proofs take it apart by `pick_ind` alone, so that it
-- stays shut: a goal then shows the test and the two outcomes, and not what they compute to.
use Rattle.std.specs.Prelude.{◌≡◌, refl, Bool, true, false, not}
use Rattle.std.proofs.Common.{subst, sym}
use lib.Dec.{T}

unfoldable pub pick {ℓ} : {X : Type ℓ} → Bool → X → X → X
pick true x y = x
pick false x y = y

-- what holds of both outcomes, each under what the test then says, holds of the choice
pub pick_ind {ℓ κ} : {X : Type ℓ} (P : X → Type κ) (b : Bool) {x y : X} → (T b → P x) → (T (not b) → P y) → P (pick b x y)
unfolding pick
pick_ind P true f g = f tt
pick_ind P false f g = g tt

-- the choice under a test whose outcome is known, as a fact
pub pick_yes {ℓ} : {X : Type ℓ} (b : Bool) (x y : X) → T b → pick b x y ≡ x
pick_yes b x y t = pick_ind (λ z. z ≡ x) b (λ _. refl) (λ u. absurd (lib.Dec.T_not b u t))

pub pick_no {ℓ} : {X : Type ℓ} (b : Bool) (x y : X) → T (not b) → pick b x y ≡ y
pick_no b x y t = pick_ind (λ z. z ≡ y) b (λ u. absurd (lib.Dec.T_not b t u)) (λ _. refl)

-- the same, where the outcome is known as an equation
pub pick_true {ℓ} : {X : Type ℓ} {b : Bool} (x y : X) → b ≡ true → pick b x y ≡ x
pick_true {b} x y e = pick_yes b x y (subst T (sym e) tt)

pub pick_false {ℓ} : {X : Type ℓ} {b : Bool} (x y : X) → b ≡ false → pick b x y ≡ y
pick_false {b} x y e = pick_no b x y (subst (λ (c : Bool). T (not c)) (sym e) tt)
