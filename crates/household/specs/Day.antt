-- A sighting's day (scope, Recognising): its seconds since 1970-01-01 UTC over 86,400, rounded down.
use Rattle.std.specs.Prelude.{ℕ, ◌/◌}

unfoldable pub day_of : ℕ → ℕ
day_of second = second / 86400
