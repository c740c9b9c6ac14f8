-- What a call that changes the stores leaves: its number, then the word store and the float store whole.
use Rattle.std.specs.Prelude.{List, ℕ, eqb, Float}
use Rattle.basics.specs.Choice.{pick}

abbrev pub Answer : Type 0
Answer = ℕ × List ℕ × List Float

-- a refusal leaves both stores as they were
unfoldable pub unless_refused : ℕ → List ℕ → List Float → List ℕ → List Float → Answer
unfolding pick
unless_refused refusal w f words floats = pick (eqb refusal 0) (0, words, floats) (refusal, w, f)
