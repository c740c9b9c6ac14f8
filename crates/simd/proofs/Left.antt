-- A loop over components holds `s` after i of them where what is left of the sum from `s` on is the whole dot. What each step keeps of that,
-- and what it says at the end. Assumes nothing.
use mathlib.Core.Path.{◌≡◌, refl, sym, ap, ap₂, ◌∙◌}
use mathlib.Core.List.{List, [], ◌∷◌, ◌++◌}
use Prim.Native.Nat.{ℕ, zero, suc, ◌+◌, ◌-◌, ◌≤◌, ◌<◌}
use native.Mathlib.Omega.{arith}
use lib.ListN.{length, get_or, take, drop, drop_of_length-le}
use lib.Ieee.{Float, nan, binary32, add, mul}
use Rattle.std.specs.List.{slice_range}
use Rattle.std.proofs.lemmas.List.{drop-drop}
use Rattle.basics.specs.Sum.{+zero, sum_from, products}
use Rattle.basics.proofs.Sums.{sum_step, sum_end_left}
use Rattle.simd.specs.Dot.{dot_of}

-- the sum from `s` on over what is left from component i on
abbrev pub Rest : List Float → List Float → Float → ℕ → Float → Type 0
Rest q r s i total = sum_from binary32 s (products binary32 (drop i q) (drop i r)) ≡ total

abbrev pub Left : List Float → List Float → Float → ℕ → Type 0
Left q r s i = Rest q r s i (dot_of binary32 q r)

pub left_start : (q r : List Float) → Left q r +zero 0
unfolding dot_of
left_start q r = refl

-- the next product
abbrev pub term : List Float → List Float → ℕ → Float
term q r i = mul binary32 (get_or q i nan) (get_or r i nan)

pub left_step : {total : Float} (q r : List Float) (s : Float) (i : ℕ) → i < length q → i < length r → Rest q r s i total
    → Rest q r (add binary32 s (term q r i)) (i + 1) total
left_step q r s i h e l = sym (sum_step binary32 s q r i h e) ∙ l

products-none : (xs : List Float) → products binary32 xs [] ≡ []
unfolding products
products-none [] = refl
products-none (x ∷ xs) = refl

-- all the products of the components from i on and before e
products-split : (n : ℕ) (xs ys : List Float) → products binary32 xs ys ≡ products binary32 (take n xs) (take n ys) ++ products binary32 (drop n xs) (drop n ys)
unfolding products
products-split zero xs ys = refl
products-split (suc n) [] ys = refl
products-split (suc n) (x ∷ xs) [] = sym (products-none (drop n xs))
products-split (suc n) (x ∷ xs) (y ∷ ys) = ap (λ (l : List Float). mul binary32 x y ∷ l) (products-split n xs ys)

sum-append : (s : Float) (xs ys : List Float) → sum_from binary32 s (xs ++ ys) ≡ sum_from binary32 (sum_from binary32 s xs) ys
unfolding sum_from
sum-append s [] ys = refl
sum-append s (x ∷ xs) ys = sum-append (add binary32 s x) xs ys

sum-none : (s : Float) → sum_from binary32 s [] ≡ s
unfolding sum_from
sum-none s = refl

pub left_part : {total : Float} (q r : List Float) (s : Float) (i e : ℕ) → i ≤ e → Rest q r s i total
    → Rest q r (sum_from binary32 s (products binary32 (slice_range q i e) (slice_range r i e))) e total
left_part {total} q r s i e h l =
    let n : ℕ = e - i in
    let at : i + n ≡ e = omega arith in
    let end : (xs : List Float) → drop n (drop i xs) ≡ drop e xs = λ xs. drop-drop n i xs ∙ ap (λ (k : ℕ). drop k xs) at in
    sym (ap₂ (λ (xs ys : List Float). sum_from binary32 (sum_from binary32 s (products binary32 (slice_range q i e) (slice_range r i e))) (products binary32 xs ys)) (end q) (end r))
    ∙ sym (sum-append s (products binary32 (take n (drop i q)) (take n (drop i r))) (products binary32 (drop n (drop i q)) (drop n (drop i r))))
    ∙ ap (sum_from binary32 s) (sym (products-split n (drop i q) (drop i r)))
    ∙ l

pub left_end : {total : Float} (q r : List Float) (s : Float) (i : ℕ) → length q ≤ i → Rest q r s i total → s ≡ total
left_end q r s i h l = sym (sum_end_left binary32 s q r i h) ∙ l

-- where the row ends
pub left_end_row : {total : Float} (q r : List Float) (s : Float) (i : ℕ) → length r ≤ i → Rest q r s i total → s ≡ total
left_end_row q r s i h l =
    sym (ap (λ (ys : List Float). sum_from binary32 s (products binary32 (drop i q) ys)) (drop_of_length-le r h) ∙ ap (sum_from binary32 s) (products-none (drop i q)) ∙ sum-none s) ∙ l
