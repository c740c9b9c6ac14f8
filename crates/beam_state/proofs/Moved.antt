-- What a walk has of the nodes scored stays in other words with the same held, whatever the floats. Assumes nothing.
use mathlib.Core.Path.{◌≡◌, subst}
use mathlib.Core.List.{List}
use Prim.Native.Nat.{ℕ, min}
use lib.Ieee.{Float}
use Rattle.def_walk.specs.KeepClosest.{held_of}
use Rattle.beam_state.specs.Inside.Queues.{Held}
use Rattle.beam_state.specs.Inside.State.{held_part, Scored}
use Rattle.beam_state.specs.declared.Walk.{Walk}
use Rattle.sorting.specs.declared.Keyed.{Keyed}

pub scored_moved : {far : ℕ → Float} {n b : ℕ} {answer₀ answer : List Keyed} {scored : List ℕ} {w : Walk} (words words' : List ℕ) (floats floats' : List Float)
    → held_part n b words ≡ held_part n b words'
    → Scored far n b answer₀ (record { words = words; floats = floats; answer = answer; walk = w }) scored
    → Scored far n b answer₀ (record { words = words'; floats = floats'; answer = answer; walk = w }) scored
scored_moved {far} {n} {b} {answer₀} {answer} {scored} {w} words words' floats floats' held t = record {
  held = subst (Held far (min b n) (held_of far b scored)) held t.held;
  held_count = t.held_count;
  cutoff_is = t.cutoff_is;
  answer = t.answer;
  scored_is = t.scored_is;
}
