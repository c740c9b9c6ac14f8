-- The recurrence that the hyperplanes' stream (scope, part 3) and the leaders' draws (part 4) share. Only their addends differ.
use Rattle.std.specs.Prelude.{ℕ, ◌+◌, ◌*◌, ◌/◌, ◌%◌, ◌^◌}

-- r becomes r·6364136223846793005 + addend, added and multiplied modulo 2^64
unfoldable pub next_of : ℕ → ℕ → ℕ
next_of addend r = (r * 6364136223846793005 + addend) % 2 ^ 64

-- h is r shifted right by 33
abbrev pub high : ℕ → ℕ
high r = r / 2 ^ 33

-- 1442695040888963407 for the hyperplanes
abbrev pub plane_addend : ℕ
plane_addend = 1442695040888963407

-- 1 for the draws
abbrev pub draw_addend : ℕ
draw_addend = 1
