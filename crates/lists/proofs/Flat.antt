-- Pieces of one length, laid one after the other: each is found in its place, and another can be put there. Assumes nothing.
use mathlib.Core.Path.{◌≡◌, sym, ap, ap₂, ◌∙◌}
use mathlib.Core.List.{List, [], ◌∷◌, ◌++◌, flatten, append_assoc}
use Prim.Native.Nat.{ℕ, zero, suc, ◌+◌, ◌*◌, ◌/◌, ◌≤◌, ◌<◌}
use native.Mathlib.Nat.{zero-mul, suc-mul, mul-div_cancel}
use native.Mathlib.Omega.{arith}
use lib.ListN.{length, get_or, take, drop, set, take-append-drop}
use lib.Seq.{length-take-le, take_at, drop_at, drop-append-add, take-append-add}
use Rattle.basics.specs.Lists.{pieces}
use Rattle.basics.proofs.Pieces.{Sized, pieces_front}

module _ {A : Type 0} where
  -- from piece i on, past the first one
  behind : (d i : ℕ) (x rest : List A) → length x ≡ d → drop (suc i * d) (x ++ rest) ≡ drop (i * d) rest
  behind d i x rest e =
      let size : suc i * d ≡ length x + i * d = omega (arith, suc-mul i d) in
      ap (λ (k : ℕ). drop k (x ++ rest)) size ∙ drop-append-add x rest (i * d)

  before : (d i : ℕ) (x rest : List A) → length x ≡ d → take (suc i * d) (x ++ rest) ≡ x ++ take (i * d) rest
  before d i x rest e =
      let size : suc i * d ≡ length x + i * d = omega (arith, suc-mul i d) in
      ap (λ (k : ℕ). take k (x ++ rest)) size ∙ take-append-add x rest (i * d)

  pub flatten_at : (d : ℕ) (xs : List (List A)) (i : ℕ) → Sized d xs → i < length xs → take d (drop (i * d) (flatten xs)) ≡ get_or xs i []
  unfolding flatten
  flatten_at d [] i s h = absurd (omega arith)
  flatten_at d (x ∷ xs) zero s h = ap (λ (k : ℕ). take d (drop k (x ++ flatten xs))) (zero-mul d) ∙ take_at x (flatten xs) d s.0
  flatten_at d (x ∷ xs) (suc i) s h = ap (take d) (behind d i x (flatten xs) s.0) ∙ flatten_at d xs i s.1 (omega arith)

  pub flatten_set : (d : ℕ) (xs : List (List A)) (i : ℕ) (y : List A) → Sized d xs → i < length xs
      → flatten (set xs i y) ≡ take (i * d) (flatten xs) ++ (y ++ drop (suc i * d) (flatten xs))
  unfolding flatten
  flatten_set d [] i y s h = absurd (omega arith)
  flatten_set d (x ∷ xs) zero y s h =
      let one : suc zero * d ≡ d = omega arith in
      ap (λ (l : List A). y ++ l) (sym (drop_at x (flatten xs) d s.0))
      ∙ ap₂ (λ (k : ℕ) (m : ℕ). take k (x ++ flatten xs) ++ (y ++ drop m (x ++ flatten xs))) (sym (zero-mul d)) (sym one)
  flatten_set d (x ∷ xs) (suc i) y s h =
      ap (λ (l : List A). x ++ l) (flatten_set d xs i y s.1 (omega arith))
      ∙ sym (append_assoc x (take (i * d) (flatten xs)) (y ++ drop (suc i * d) (flatten xs)))
      ∙ ap₂ (λ (p : List A) (q : List A). p ++ (y ++ q)) (sym (before d i x (flatten xs) s.0)) (sym (behind d (suc i) x (flatten xs) s.0))

  pub set_sized : (d : ℕ) (xs : List (List A)) (i : ℕ) (y : List A) → Sized d xs → length y ≡ d → Sized d (set xs i y)
  set_sized d [] i y s e = tt
  set_sized d (x ∷ xs) zero y s e = (e, s.1)
  set_sized d (x ∷ xs) (suc i) y s e = (s.0, set_sized d xs i y s.1 e)

  -- the pieces that stand whole in a list's first n are its first n pieces
  pub front_pieces : (d n : ℕ) (xs : List A) → 0 < d → n * d ≤ length xs → pieces d (length (take (n * d) xs) / d) (take (n * d) xs) ≡ pieces d n xs
  front_pieces d n xs some h =
      let size : length (take (n * d) xs) ≡ n * d = length-take-le (n * d) xs h in
      ap (λ (k : ℕ). pieces d (k / d) (take (n * d) xs)) size
      ∙ ap (λ (k : ℕ). pieces d k (take (n * d) xs)) (mul-div_cancel n some)
      ∙ sym (pieces_front d n (take (n * d) xs) (drop (n * d) xs) (omega (arith, size)))
      ∙ ap (pieces d n) (take-append-drop (n * d) xs)
