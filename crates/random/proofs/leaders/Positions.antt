-- The numbers 0 up to n, and how many positions are drawn. Assumes nothing.
use Rattle.std.proofs.Common.{◌≡◌, ℕ, zero, suc, ◌%◌, ◌<◌, List, [], ◌∷◌, ◌++◌, length, sym, refl, ap, inl, inr, arith}
use mathlib.Core.List.Memᴰ.{append_cases as in-cases}
use mathlib.Core.List.Memᴰ.{append_left as in_left}
use mathlib.Core.List.Memᴰ.{append_right as in_right}
use mathlib.Core.List.Memᴰ.{eq_of_singleton as in_one}
use mathlib.Core.List.Memᴰ.{head as here}
use mathlib.Core.List.Memᴰ.{not-nil as in-nil}
use mathlib.Core.List.Memᴰ.{tail as there}
use mathlib.Core.List.{Memᴰ as In}
use native.Mathlib.Decide.{dec_lt}
use lib.Ieee.{Float}
use Rattle.basics.specs.Nodes.{NoDup, Below}
use Rattle.random.specs.Lcg.{next_of, high, draw_addend}
use Rattle.random.specs.Leaders.{up_to, drawn, swap_remove, leader_count, leader_positions}

pub in_up_to : (n x : ℕ) → x < n → In x (up_to n)
unfolding up_to
in_up_to zero x h = absurd (omega arith)
in_up_to (suc n) x h = elim (dec_lt x n) [
  | yes k ↦ in_left (n ∷ []) (in_up_to n x k)
  | no k ↦ in_right (up_to n) (here {x = n} (omega arith))
]

pub up_to_below : (n : ℕ) → Below n (up_to n)
unfolding up_to
up_to_below zero x m = absurd (in-nil m)
up_to_below (suc n) x m = elim (in-cases (up_to n) m) [ inl i ↦ let r = up_to_below n x i in omega arith | inr i ↦ let e = in_one i in omega arith ]

-- one more at the end, which was not there
nodup_snoc : (l : List ℕ) (x : ℕ) → NoDup l → (In x l → ⊥) → NoDup (l ++ (x ∷ []))
nodup_snoc [] x d f = ((λ m. in-nil m), tt)
nodup_snoc (y ∷ l) x d f =
    ((λ m. elim (in-cases l m) [ inl i ↦ d.0 i | inr i ↦ f (here (sym (in_one i))) ]), nodup_snoc l x d.1 (λ m. f (there m)))

pub nodup_up_to : (n : ℕ) → NoDup (up_to n)
unfolding up_to
nodup_up_to zero = tt
nodup_up_to (suc n) = nodup_snoc (up_to n) n (nodup_up_to n) (λ m. let h = up_to_below n n m in omega arith)

length-drawn : (count r : ℕ) (left : List ℕ) → length (drawn count r left) ≡ count
unfolding drawn
length-drawn zero r left = refl
length-drawn (suc count) r left =
    let p : ℕ = high (next_of draw_addend r) % length left in
    ap suc (length-drawn count (next_of draw_addend r) (swap_remove p left))

-- as many positions as leaders
pub length_positions : (level n : ℕ) (fraction : Float) → length (leader_positions level n fraction) ≡ leader_count n fraction
unfolding leader_positions
length_positions level n fraction = length-drawn (leader_count n fraction) _ (up_to n)
