-- The score of a distance d (scope, Recognising): floor(100 · (1 − d)), held to 0..100. −infinity scores 100, +infinity 0, and a NaN 0.
use Rattle.std.specs.Prelude.{ℕ, ◌+◌, ◌-◌, ◌*◌, ◌/◌, min, Bool, Float}
use Rattle.std.specs.Float.{nan, inf, fin}
use Rattle.std.specs.Float.Ieee.{up, down}
use Rattle.basics.specs.Choice.{pick}

-- 100 · (1 − d) over w, where d is n / w, or −n / w with a sign; a difference below 0 is 0
abbrev pub hundredfold : Bool → ℕ → ℕ → ℕ
hundredfold sign n w = pick sign (100 * w + 100 * n) (100 * w - 100 * n)

-- a finite value m · 2^e is the fraction m · up e / down e
unfoldable pub score_of : Float → ℕ
unfolding pick
score_of nan = 0
score_of (inf sign) = pick sign 100 0
score_of (fin sign m e) = min 100 (hundredfold sign (m * up e) (down e) / down e)
