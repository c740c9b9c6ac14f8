-- The pieces that stand whole in a list: which one stands where. Assumes nothing.
use mathlib.Core.Path.{◌≡◌}
use mathlib.Core.List.{List, []}
use Prim.Native.Nat.{ℕ, zero, suc, ◌+◌, ◌*◌, ◌/◌, ◌≤◌, ◌<◌}
use native.Mathlib.Nat.{div-zero, le_trans, mul-le-mul_right, div-mul-le_self, le-div_iff_mul-le}
use native.Mathlib.Decide.{dec_le}
use native.Mathlib.Omega.{arith}
use lib.ListN.{length, get_or, take, drop, get_or-eq_default}
use Rattle.basics.specs.Lists.{pieces}
use Rattle.basics.proofs.Pieces.{length_pieces, nth_piece}

module _ {A : Type 0} where
  -- piece i is there
  pub whole_piece : (d i : ℕ) (xs : List A) → i * d + d ≤ length xs → get_or (pieces d (length xs / d) xs) i [] ≡ take d (drop (i * d) xs)
  whole_piece zero i xs h =
      let none : length xs / 0 ≡ 0 = div-zero (length xs) in
      get_or-eq_default (pieces 0 (length xs / 0) xs) [] {n = i} (omega (arith, length_pieces 0 (length xs / 0) xs))
  whole_piece (suc d) i xs h =
      let within : suc i * suc d ≤ length xs = omega arith in
      nth_piece (suc d) (length xs / suc d) xs i ((le-div_iff_mul-le {k = suc d} (omega arith)).1 within)

  -- it is not
  pub no_piece : (d i : ℕ) (xs : List A) → length xs < i * d + d → get_or (pieces d (length xs / d) xs) i [] ≡ []
  no_piece d i xs h =
      get_or-eq_default (pieces d (length xs / d) xs) [] {n = i} (elim (dec_le (length xs / d) i) [
        | yes q ↦ omega (arith, length_pieces d (length xs / d) xs)
        | no q ↦
            let more : suc i ≤ length xs / d = omega arith in
            let fits : suc i * d ≤ length xs = le_trans (mul-le-mul_right d more) (div-mul-le_self (length xs) d) in
            absurd (omega arith)
      ])
