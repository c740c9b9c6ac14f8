-- The part of a slice from a place to the end, written anew in front. Assumes nothing.
use mathlib.Core.Path.{◌≡◌, ap, ◌∙◌}
use mathlib.Core.List.{List, ◌++◌, append-nil}
use Prim.Native.Nat.{ℕ, ◌+◌, ◌≤◌}
use native.Mathlib.Omega.{arith}
use lib.ListN.{length, take, drop, length-drop, drop_of_length-le}
use lib.Seq.{take_all, drop-drop}
use borrow.Rule.Slice.PartMut.{put_mid}

pub put_end : (xs : List ℕ) {x : List ℕ} (part : List ℕ) (at k n : ℕ) → length xs ≤ at + k → x ≡ part ++ drop n (take k (drop at xs))
    → put_mid at k xs x ≡ take at xs ++ (part ++ drop (at + n) xs)
put_end xs {x} part at k n h e =
    let size = length-drop at xs in
    ap (λ (r : List ℕ). take at xs ++ (x ++ r)) (drop_of_length-le (drop at xs) {i = k} (omega arith))
    ∙ ap (λ (r : List ℕ). take at xs ++ r)
    (append-nil x ∙ e ∙ ap (λ (r : List ℕ). part ++ r) (ap (drop n) (take_all k (drop at xs) (omega arith)) ∙ drop-drop n at xs))

-- the same where nothing is left behind it
pub put_all : (xs : List ℕ) {x : List ℕ} (part : List ℕ) (at k n : ℕ) → length xs ≤ at + k → length xs ≤ at + n → x ≡ part ++ drop n (take k (drop at xs))
    → put_mid at k xs x ≡ take at xs ++ part
put_all xs part at k n h all e =
    put_end xs part at k n h e
    ∙ ap (λ (r : List ℕ). take at xs ++ r) (ap (λ (r : List ℕ). part ++ r) (drop_of_length-le xs {i = at + n} all) ∙ append-nil part)
