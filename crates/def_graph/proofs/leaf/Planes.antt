-- The first numbers of the stream, as a table of them has it. Assumes nothing.
use mathlib.Core.Path.{◌≡◌, refl, ◌∙◌}
use mathlib.Core.List.{[], ◌∷◌}
use Prim.Native.Nat.{ℕ, zero, suc, ◌<◌}
use native.Mathlib.Omega.{arith}
use native.Mathlib.Decide.{dec_lt}
use lib.ListN.{length, get_or, length-append, get_or-append}
use lib.Seq.{get_or_at}
use lib.Ieee.{Format, nan}
use Rattle.random.specs.Hyperplanes.{plane_number, plane_numbers}

pub length_numbers : (f : Format) (n : ℕ) → length (plane_numbers f n) ≡ n
unfolding plane_numbers
length_numbers f zero = refl
length_numbers f (suc n) = let r = length_numbers f n in omega (arith, length-append (plane_numbers f n) (plane_number f n ∷ []))

pub number_at : (f : Format) (n k : ℕ) → k < n → get_or (plane_numbers f n) k nan ≡ plane_number f k
unfolding plane_numbers
number_at f zero k h = absurd (omega arith)
number_at f (suc n) k h = elim (dec_lt k n) [
  | yes l ↦ get_or-append (plane_numbers f n) _ nan k (omega (arith, length_numbers f n)) ∙ number_at f n k l
  | no l ↦ let e : k ≡ n = omega arith in rw e (get_or_at (plane_numbers f n) (plane_number f n) [] nan n (length_numbers f n))
]
