-- Parts of a text, and texts of digits.
use Rattle.std.specs.Prelude.{Bool, true, ◌&&◌, List, [], ◌∷◌, ◌++◌, ◌≡◌, ℕ, leb, length, take, Result, Ok}
use mathlib.Core.Logic.{◌⊎◌}
use Rattle.basics.specs.Lists.{every}

-- the first bytes of a text
abbrev pub IsFront : List ℕ → List ℕ → Type 0
IsFront front text = front ≡ take (length front) text

-- a line, or what stands before its line feed
abbrev pub WithoutEnd : List ℕ → List ℕ → Type 0
WithoutEnd line rest = (rest ≡ line) ⊎ (line ≡ rest ++ (10 ∷ []))

-- the digits 0 to 9
abbrev pub is_digit : ℕ → Bool
is_digit b = leb 48 b && leb b 57

-- digits, and the number that std reads in them
abbrev pub IsDecimal : {N E : Type 0} → (List ℕ → Result N E → Type 0) → List ℕ → N → Type 0
IsDecimal reads text number = (every is_digit text ≡ true) × reads text (Ok number)
