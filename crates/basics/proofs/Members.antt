-- Membership in a part of a list, in a row that a store replaced, and under a map; the first few of a list and what follows them; tests joined by `&&`. Assumes nothing.
use mathlib.Core.Path.{◌≡◌, refl, sym, ap, ◌∙◌}
use mathlib.Core.Logic.{inl, inr}
use mathlib.Core.Bool.{Bool, true, false, ◌&&◌}
use mathlib.Core.List.{List, [], ◌∷◌, map}
use mathlib.Core.List.Memᴰ.{cases_cons as in-cons}
use mathlib.Core.List.Memᴰ.{head as here}
use mathlib.Core.List.Memᴰ.{not-nil as in-nil}
use mathlib.Core.List.Memᴰ.{tail as there}
use mathlib.Core.List.{Memᴰ as In}
use Prim.Native.Nat.{ℕ, zero, suc, ◌≤◌, ◌<◌, min}
use native.Mathlib.Omega.{arith}
use native.Mathlib.Decide.{dec_lt}
use lib.Dec.{T}
use lib.ListN.{length, get_or, take, drop, drop_of_length-le}
use lib.Seq.{take_all}
use Rattle.basics.specs.Nodes.{NoDup}

module _ {ℓ} {A : Type ℓ} {z : A} where
  pub in_take : (k : ℕ) (l : List A) → In z (take k l) → In z l
  in_take zero l m = absurd (in-nil m)
  in_take (suc k) [] m = m
  in_take (suc k) (x ∷ l) m = elim (in-cons m) [ inl e ↦ here e | inr i ↦ there (in_take k l i) ]

  pub in_drop : (k : ℕ) (l : List A) → In z (drop k l) → In z l
  in_drop zero l m = m
  in_drop (suc k) [] m = m
  in_drop (suc k) (x ∷ l) m = there (in_drop k l m)

-- the element at a place is one of the list's
pub in_get_d : {A : Type 0} (l : List A) (i : ℕ) (d : A) → i < length l → In (get_or l i d) l
in_get_d [] i d h = absurd (omega arith)
in_get_d (x ∷ l) zero d h = here refl
in_get_d (x ∷ l) (suc i) d h = there (in_get_d l i d (omega arith))

pub nodup_take : (k : ℕ) (l : List ℕ) → NoDup l → NoDup (take k l)
nodup_take zero l d = tt
nodup_take (suc k) [] d = tt
nodup_take (suc k) (x ∷ l) d = ((λ m. d.0 (in_take k l m)), nodup_take k l d.1)

-- two functions that agree on the elements of a list
-- an image of an image
pub map_map : {A B C : Type 0} (f : A → B) (g : B → C) (l : List A) → map g (map f l) ≡ map (λ x. g (f x)) l
map_map f g [] = refl
map_map {C = C} f g (x ∷ l) = ap (λ (m : List C). g (f x) ∷ m) (map_map f g l)

pub map_in : {A B : Type 0} (g h : A → B) (l : List A) → ((x : A) → In x l → g x ≡ h x) → map g l ≡ map h l
map_in g h [] e = refl
map_in g h (x ∷ l) e = λ i. e x (here refl) i ∷ map_in g h l (λ y m. e y (there m)) i

-- of a list of at most i elements, the first j
pub take_min : {A : Type 0} (i j : ℕ) (l : List A) → length l ≤ i → take (min i j) l ≡ take j l
take_min {A} i j l h = elim (dec_lt i j) [
  | yes k ↦ take_all (min i j) l (omega arith) ∙ sym (take_all j l (omega arith))
  | no k ↦ let s : min i j ≡ j = omega arith in ap (λ (x : ℕ). take x l) s
]

-- past the end of a list there is nothing, as at its end
pub drop_min : {A : Type 0} (j : ℕ) (l : List A) → drop (min j (length l)) l ≡ drop j l
drop_min {A} j l = elim (dec_lt j (length l)) [
  | yes k ↦ let s : min j (length l) ≡ j = omega arith in ap (λ (x : ℕ). drop x l) s
  | no k ↦
      let end : length l ≤ min j (length l) = omega arith in
      let past : length l ≤ j = omega arith in
      drop_of_length-le l end ∙ sym (drop_of_length-le l past)
]

-- ---- two tests

pub both_left : (a b : Bool) → T (a && b) → T a
both_left true b t = tt
both_left false b t = t

pub both_right : (a b : Bool) → T (a && b) → T b
both_right true b t = t
both_right false b t = absurd t
