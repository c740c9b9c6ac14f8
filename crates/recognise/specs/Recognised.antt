-- What recognising answers (scope, Recognising): Known with the doc id if the distance d is at most the limit, else New, each with d's score. The two
-- are compared as numbers, so −0 is 0, and a NaN is at most nothing: it is New with score 0.
--
-- The code returns an enum, or a refusal. What each stands for is `answer_values`: the scope's number, then the values that come with it. The
-- definitions of recognising speak of these alone.
use Rattle.std.specs.Prelude.{[], ◌∷◌, ℕ, Float, Result, Ok, Err}
use Rattle.std.specs.Float.Ieee.{le}
use Rattle.basics.specs.Choice.{pick}
use Rattle.basics.specs.Refusals.{Values}
use Rattle.error.specs.declared.Refusal.{Refusal}
use Rattle.error.specs.Inside.Refused.{number_of}
use Rattle.recognise.specs.declared.score.Recognised.{Recognised}
use Rattle.recognise.specs.declared.score.Recognised.TheVariants.{Known, New}
use Rattle.recognise.specs.Score.{score_of}

-- ---- the scope's numbers and values

-- Known has a doc id and a score, New a score, a refusal nothing but its number
abbrev pub known_as : (doc score : ℕ) → Values
known_as doc score = (0, doc ∷ score ∷ [])

abbrev pub new_as : (score : ℕ) → Values
new_as score = (0, score ∷ [])

abbrev pub refused_as : (number : ℕ) → Values
refused_as number = (number, [])

-- the cases of the code's enum
unfoldable pub recognised_values : Recognised → Values
recognised_values (Known doc score) = known_as doc.0 score
recognised_values (New score) = new_as score

-- of what the call returns
unfoldable pub answer_values : Result Recognised Refusal → Values
unfolding recognised_values
answer_values (Ok answer) = recognised_values answer
answer_values (Err refusal) = refused_as (number_of refusal)

-- ---- Known or New

unfoldable pub recognised_as : (doc : ℕ) (d limit : Float) → Values
unfolding pick score_of
recognised_as doc d limit = pick {X = Values} (le d limit) (known_as doc (score_of d)) (new_as (score_of d))
