-- What stands before the line feed, or the line. Assumes nothing.
use Rattle.std.proofs.Common.{Option, None, Some, ◌≡◌, true, false, ℕ, ◌+◌, ◌-◌, length, take, drop, List, [], ◌∷◌, eqb, refl, inl}
use lib.Pointwise.{pointwise}
use denote.Bor.{Bor}
use Rattle.std.specs.Option.{MatchOption, unwrap_or}
use Rattle.replay.specs.Inside.Text.{WithoutEnd}
use Rattle.replay.proofs.Text.{before_feed}
use Rattle.replay.proofs.without_end.Goals as goal

rest_of : (line : Bor (List ℕ)) (o : Option (Bor (List ℕ)))
    → MatchOption o (pointwise eqb (drop (length line.now - 1) line.now) (10 ∷ []) ≡ false)
    (λ x. (pointwise eqb (drop (length line.now - 1) line.now) (10 ∷ []) ≡ true) × (x.now ≡ take (length line.now - 1) line.now) × (length x.now + 1 ≡ length line.now))
    → WithoutEnd line.now (unwrap_or o line).now
rest_of line None h = inl refl
rest_of line (Some x) h = before_feed line.now x.now (length line.now - 1) h.0 h.1

pub returns : goal.returns
returns c = rw (c.unwrap_or.ensures) (rest_of c.args.line c.strip_suffix.result c.strip_suffix.ensures.cases)
