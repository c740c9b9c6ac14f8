-- Laws of lists that the loops of this crate use: elements put at the front one by one, a residual cut to the room there is. Assumes nothing.
use mathlib.Core.Path.{◌≡◌, sym, ap, ap₂, ◌∙◌}
use mathlib.Core.List.{List, [], ◌∷◌, ◌++◌, map, map-append, append-nil}
use Prim.Native.Nat.{ℕ, zero, suc, ◌+◌, ◌≤◌, ◌<◌, min}
use native.Mathlib.Nat.{zero-min}
use native.Mathlib.Numerals.{add-one}
use native.Mathlib.Omega.{arith}
use lib.ListN.{length, get_or, set, take, drop, length-map, drop_of_length-le}
use lib.Seq.{take_at, take-suc, take_all, length-take-le}
use lib.Ieee.{Float}
use Rattle.basics.proofs.Loops.{front_set}

-- ---- the images of a list, put at the front of another one by one

module _ {A B : Type 0} (f : A → B) (xs : List A) (ys : List B) where
  abbrev pub written : ℕ → List B
  written i = map f (take i xs) ++ drop i ys

  pub written_more : (d : A) (i : ℕ) → i < length xs → length xs ≤ length ys → set (written i) i (f (get_or xs i d)) ≡ written (i + 1)
  written_more d i h room =
      front_set ys (map f (take i xs)) i (f (get_or xs i d)) (length-map (take i xs) f ∙ length-take-le i xs (omega arith)) (omega arith)
      ∙ ap (λ (r : List B). r ++ drop (i + 1) ys)
      (sym (map-append f (take i xs) (get_or xs i d ∷ [])) ∙ ap (map f) (sym (take-suc xs i d h) ∙ ap (λ (k : ℕ). take k xs) (sym (add-one i))))

  pub written_end : (i : ℕ) → i ≡ length xs → written i ≡ map f xs ++ drop (length (map f xs)) ys
  written_end i e = ap₂ (λ (r : List A) (k : ℕ). map f r ++ drop k ys) (take_all i xs (omega arith)) (e ∙ sym (length-map xs f))

pub take_least : {A : Type 0} (n : ℕ) (l : List A) → take (min n (length l)) l ≡ take n l
take_least zero l = ap (λ (k : ℕ). take k l) (zero-min (length l))
take_least (suc n) [] = lib.Seq.take-nil (min (suc n) 0)
take_least (suc n) (x ∷ l) =
    let e : min (suc n) (suc (length l)) ≡ suc (min n (length l)) = omega arith in
    ap (λ (k : ℕ). take k (x ∷ l)) e ∙ ap (λ r. x ∷ r) (take_least n l)

-- what `residual_into` leaves in the part of an array that is as long as the residual, or whole
pub residual_cut : (r room left : List Float) (n : ℕ) → n ≡ min 64 (length r) → n ≤ length room
    → left ≡ take (length (take n room)) r ++ drop (length r) (take n room) → take n (left ++ drop n room) ≡ take 64 r
residual_cut r room left n e h q =
    let size : length (take n room) ≡ n = length-take-le n room h in
    let past : length (take n room) ≤ length r = omega arith in
    let is : left ≡ take n r
    = q ∙ ap₂ (λ (k : ℕ) (l : List Float). take k r ++ l) size (drop_of_length-le (take n room) past) ∙ append-nil (take n r) in
    let long : length left ≡ n = ap length is ∙ length-take-le n r (omega arith) in
    take_at left (drop n room) n long ∙ is ∙ ap (λ (k : ℕ). take k r) e ∙ take_least 64 r
