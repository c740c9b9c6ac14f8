-- Words laid over others: before them and behind them all stays, and where they were laid they are read. Assumes nothing.
use mathlib.Core.Path.{◌≡◌, refl, sym, ap, ap₂, ◌∙◌}
use mathlib.Core.List.{List, ◌∷◌, ◌++◌}
use Prim.Native.Nat.{ℕ, zero, suc, ◌+◌, ◌*◌, ◌≤◌, ◌<◌}
use native.Mathlib.Omega.{arith}
use lib.ListN.{length, get_or, take, drop, length-append, length-drop}
use lib.Seq.{take-take, drop-drop, take-append-le, drop_at, get_or-take, length-take-le}
use Rattle.basics.specs.Lists.{pieces}
use Rattle.basics.proofs.Pieces.{drop-take}
use Rattle.def_calls.specs.Build.{laid}

-- ---- two lists that agree on their first B elements are read alike up to there

module _ {A : Type 0} (u v : List A) (B : ℕ) (agree : take B u ≡ take B v) where
  pub same_front : (k : ℕ) → k ≤ B → take k u ≡ take k v
  same_front k h = sym (take-take k B u h) ∙ ap (take k) agree ∙ take-take k B v h

  pub same_part : (a m : ℕ) → a + m ≤ B → take m (drop a u) ≡ take m (drop a v)
  same_part a m h = sym (drop-take a m u) ∙ ap (drop a) (same_front (a + m) h) ∙ drop-take a m v

  pub same_pieces : (d n a : ℕ) → a + n * d ≤ B → pieces d n (drop a u) ≡ pieces d n (drop a v)
  unfolding pieces
  same_pieces d zero a h = refl
  same_pieces d (suc n) a h =
      let rest : pieces d n (drop (a + d) u) ≡ pieces d n (drop (a + d) v) = same_pieces d n (a + d) (omega arith) in
      ap₂ (λ (x : List A) (l : List (List A)). x ∷ l) (same_part a d (omega arith))
      (ap (pieces d n) (drop-drop d a u) ∙ rest ∙ ap (pieces d n) (sym (drop-drop d a v)))

pub same_word : (u v : List ℕ) (B : ℕ) → take B u ≡ take B v → (k : ℕ) → k < B → get_or u k 0 ≡ get_or v k 0
same_word u v B agree k h = sym (get_or-take B u k 0 h) ∙ ap (λ (l : List ℕ). get_or l k 0) agree ∙ get_or-take B v k 0 h

-- ---- words xs laid over those of w from `at` on, all within w

module _ (at : ℕ) (xs w : List ℕ) (within : at + length xs ≤ length w) where
  front_length : length (take at w) ≡ at
  front_length = length-take-le at w (omega arith)

  pub laid_length : length (laid at xs w) ≡ length w
  laid_length =
      omega (
        arith,
        length-append (take at w) (xs ++ drop (at + length xs) w),
        length-append xs (drop (at + length xs) w),
        front_length,
        length-drop (at + length xs) w,
      )

  pub laid_before : take at (laid at xs w) ≡ take at w
  laid_before = take-append-le at (take at w) (xs ++ drop (at + length xs) w) (omega (arith, front_length)) ∙ take-take at at w (omega arith)

  pub laid_there : drop at (laid at xs w) ≡ xs ++ drop (at + length xs) w
  laid_there = drop_at (take at w) (xs ++ drop (at + length xs) w) at front_length
