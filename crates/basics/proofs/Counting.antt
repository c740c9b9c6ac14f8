-- Laws of lists of node numbers: the test says membership, and how many different numbers below n there can be.
-- Assumes nothing.
use mathlib.Core.Path.{◌≡◌, refl, sym, ap, ◌∙◌, subst}
use mathlib.Core.Logic.{◌≢◌, ◌⊎◌, inl, inr}
use mathlib.Core.Bool.{Bool, true, false, not, ◌||◌}
use mathlib.Core.List.{List, [], ◌∷◌}
use mathlib.Core.List.Memᴰ.{cases_cons as in-cons}
use mathlib.Core.List.Memᴰ.{cast as in-cast}
use mathlib.Core.List.Memᴰ.{head as here}
use mathlib.Core.List.Memᴰ.{not-nil as in-nil}
use mathlib.Core.List.Memᴰ.{tail as there}
use mathlib.Core.List.{Memᴰ as In}
use Prim.Native.Nat.{ℕ, zero, suc, ◌≤◌, ◌<◌}
use native.Mathlib.Omega.{arith}
use native.Mathlib.Decide.{dec_lt}
use lib.ListN.{length}
use lib.Dec.{T, eqb, eqb→eq}
use mir.Facts.{yes_eqb}
use Rattle.basics.specs.Choice.{pick, pick_ind, pick_yes}
use Rattle.basics.specs.Nodes.{has, NoDup, Below}

-- ---- membership, as a test

or_cases : (a b : Bool) → T (a || b) → T a ⊎ T b
or_cases true b t = inl tt
or_cases false b t = inr t

or_left : (a b : Bool) → T a → T (a || b)
or_left true b t = tt
or_left false b t = absurd t

or_right : (a b : Bool) → T b → T (a || b)
or_right true b t = tt
or_right false b t = t

pub has_in : (x : ℕ) (l : List ℕ) → T (has x l) → In x l
unfolding has
has_in x [] t = absurd t
has_in x (y ∷ l) t = elim (or_cases (eqb x y) (has x l) t) [ inl e ↦ here (eqb→eq x y e) | inr m ↦ there (has_in x l m) ]

pub in_has : {x : ℕ} {l : List ℕ} → In x l → T (has x l)
unfolding has
in_has {x} (here {x = y} {xs = l} e) = or_left (eqb x y) (has x l) (yes_eqb e)
in_has {x} (there {x = y} {xs = l} m) = or_right (eqb x y) (has x l) (in_has m)

pub hasn't : (x : ℕ) (l : List ℕ) → T (not (has x l)) → In x l → ⊥
hasn't x l t m = lib.Dec.T_not (has x l) t (in_has m)

pub in_or_not : (x : ℕ) (l : List ℕ) → In x l ⊎ (In x l → ⊥)
in_or_not x l = go (has x l) refl
  where
    go : (b : Bool) → has x l ≡ b → In x l ⊎ (In x l → ⊥)
    go true e = inl (has_in x l (subst T (sym e) tt))
    go false e = inr (λ m. subst T e (in_has m))

-- ---- no repeats

-- a list without one occurrence of x
unfoldable pub without : ℕ → List ℕ → List ℕ
without x [] = []
without x (y ∷ l) = pick (eqb x y) l (y ∷ without x l)

pub length_without : {x : ℕ} {l : List ℕ} → In x l → suc (length (without x l)) ≡ length l
unfolding without
length_without {x} (here {x = y} {xs = l} e) = ap (λ (r : List ℕ). suc (length r)) (pick_yes (eqb x y) _ _ (yes_eqb e))
length_without {x} (there {x = y} {xs = l} m) =
    pick_ind (λ (r : List ℕ). suc (length r) ≡ suc (length l)) (eqb x y) (λ _. refl) (λ _. ap suc (length_without m))

pub in_without : {z : ℕ} {l : List ℕ} (x : ℕ) → z ≢ x → In z l → In z (without x l)
unfolding without
in_without {z} x ne (here {x = y} {xs = l} e) =
    pick_ind (In z) (eqb x y) (λ t. absurd (ne (e ∙ sym (eqb→eq x y t)))) (λ _. here e)
in_without {z} x ne (there {x = y} {xs = l} m) =
    pick_ind (In z) (eqb x y) (λ _. m) (λ _. there (in_without x ne m))

-- a list with no repeats is no longer than one that holds all its elements
pub shorter : (l m : List ℕ) → NoDup l → ((x : ℕ) → In x l → In x m) → length l ≤ length m
shorter [] m d s = omega arith
shorter (x ∷ l) m d s =
    let q = length_without (s x (here refl)) in
    let r = shorter l (without x m) d.1 (λ z i. in_without x (λ e. d.0 (in-cast (sym e) i)) (s z (there i))) in
    omega arith

-- as long as that one, it holds all of them
pub all_in : (l m : List ℕ) → NoDup l → ((x : ℕ) → In x l → In x m) → length m ≤ length l → {y : ℕ} → In y m → In y l
all_in l m d s h {y} i = elim (in_or_not y l) [ inl k ↦ k | inr f ↦ absurd (let r = shorter (y ∷ l) m (f, d) within in omega arith) ]
  where
    within : (x : ℕ) → In x (y ∷ l) → In x m
    within x (here e) = in-cast e i
    within x (there k) = s x k

-- n − 1, .., 1, 0
unfoldable pub down_from : ℕ → List ℕ
down_from zero = []
down_from (suc n) = n ∷ down_from n

pub length_down_from : (n : ℕ) → length (down_from n) ≡ n
unfolding down_from
length_down_from zero = refl
length_down_from (suc n) = ap suc (length_down_from n)

pub in_down_from : (n x : ℕ) → x < n → In x (down_from n)
unfolding down_from
in_down_from zero x h = absurd (omega arith)
in_down_from (suc n) x h = elim (dec_lt x n) [ yes k ↦ there (in_down_from n x k) | no k ↦ here {x = n} (omega arith) ]

pub down_from_below : (n x : ℕ) → In x (down_from n) → x < n
unfolding down_from
down_from_below zero x m = absurd (in-nil m)
down_from_below (suc n) x m = elim (in-cons m) [ inl q ↦ omega arith | inr k ↦ let r = down_from_below n x k in omega arith ]

-- at most n nodes below n, without repeats
pub at_most : (n : ℕ) (l : List ℕ) → NoDup l → Below n l → length l ≤ n
at_most n l d b =
    let r = shorter l (down_from n) d (λ x i. in_down_from n x (b x i)) in
    omega (arith, length_down_from n)

-- n of them are all
pub all_of : (n : ℕ) (l : List ℕ) → NoDup l → Below n l → n ≤ length l → (x : ℕ) → x < n → In x l
all_of n l d b h x k = all_in l (down_from n) d (λ y i. in_down_from n y (b y i)) (omega (arith, length_down_from n)) (in_down_from n x k)

pub nodup_down_from : (n : ℕ) → NoDup (down_from n)
unfolding down_from
nodup_down_from zero = tt
nodup_down_from (suc n) = ((λ m. let h = down_from_below n n m in omega arith), nodup_down_from n)
