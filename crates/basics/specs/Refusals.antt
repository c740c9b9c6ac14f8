-- What a call refuses, and with which number: its checks in their order, and the number of the first that fails.
use Rattle.std.specs.Prelude.{Bool, List, [], ◌∷◌, ℕ, ◌<◌}
use Rattle.basics.specs.Choice.{pick}

-- a test that refuses the call where it is true, and the number of that refusal
pub record Check : Type 0 where
  pub fails : Bool
  pub number : ℕ

abbrev pub check : Bool → ℕ → Check
check b k = record { fails = b; number = k }

-- the number of the first check that fails, 0 if none does
unfoldable pub first_refusal : List Check → ℕ
unfolding pick
first_refusal [] = 0
first_refusal (c ∷ cs) = pick c.fails c.number (first_refusal cs)

-- what a call answers: its number, 0 for success, and the values that come with it
abbrev pub Values : Type 0
Values = ℕ × List ℕ

-- no check's number is 0
abbrev pub Numbered : List Check → Type 0
Numbered [] = Unit
Numbered (c ∷ cs) = (0 < c.number) × Numbered cs
