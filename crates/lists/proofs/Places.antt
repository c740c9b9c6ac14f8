-- A place that a number of 64 bits has not is past the end of every slice: what is read there, and what a write there leaves. Assumes nothing.
use mathlib.Core.Path.{◌≡◌, sym, ap, ◌∙◌}
use mathlib.Core.List.{List}
use Prim.Native.Nat.{ℕ, ◌^◌, ◌<◌}
use native.Mathlib.Omega.{arith}
use lib.ListN.{length, get_or, set}
use Rattle.std.proofs.lemmas.List.{set_past, get_or_past}
use native.Mathlib.Decide.{dec_lt}
use Rattle.lists.specs.Inside.Chains.{capped}

module _ (l : List ℕ) (short : length l < 2 ^ 64) (place : ℕ) where
  pub get_capped : get_or l (capped place) 0 ≡ get_or l place 0
  get_capped = elim (dec_lt place (2 ^ 64)) [
    | yes k ↦ let same : capped place ≡ place = omega arith in ap (λ (p : ℕ). get_or l p 0) same
    | no k ↦ get_or_past l (capped place) 0 (omega arith) ∙ sym (get_or_past l place 0 (omega arith))
  ]

  pub set_capped : (x : ℕ) → set l (capped place) x ≡ set l place x
  set_capped x = elim (dec_lt place (2 ^ 64)) [
    | yes k ↦ let same : capped place ≡ place = omega arith in ap (λ (p : ℕ). set l p x) same
    | no k ↦ set_past l (capped place) x (omega arith) ∙ sym (set_past l place x (omega arith))
  ]
