-- Sums that run side by side. They serve the check of many floats at once, which implies `every finite`.
use Rattle.std.specs.Prelude.{◌≡◌, List, ℕ, ◌<◌, get_or, Float}
use Rattle.std.specs.Float.{binary32, nan}
use Rattle.std.specs.Float.Ieee.{add}

-- each of the first n sums has a component more
abbrev pub AddedUp : ℕ → List Float → List Float → List Float → Type 0
AddedUp n sums components sums' = (k : ℕ) → k < n → get_or sums' k nan ≡ add binary32 (get_or sums k nan) (get_or components k nan)
