-- What a bridge is in the lists of its ends, and lists with one bridge more. Assumes nothing.
use mathlib.Core.Path.{◌≡◌, refl, sym, subst, ap, ◌∙◌}
use mathlib.Core.Logic.{◌≢◌, ◌⊎◌, inl, inr}
use mathlib.Core.List.{List, [], ◌∷◌, ◌++◌, append_assoc, append-nil}
use mathlib.Core.List.Memᴰ.{append_cases as in-cases}
use mathlib.Core.List.Memᴰ.{eq_of_singleton as in_one}
use mathlib.Core.List.Memᴰ.{head as here}
use mathlib.Core.List.Memᴰ.{not-nil as in-nil}
use mathlib.Core.List.{Memᴰ as In}
use Prim.Native.Nat.{ℕ, ◌<◌}
use native.Mathlib.Omega.{arith}
use lib.Dec.{eqb, eqb→eq, eqb_refl}
use lib.ListN.{get_or}
use Rattle.basics.specs.Choice.{pick_ind, pick_yes}
use Rattle.basics.specs.Graph.{Bridge, other_end, other_ends, list_of}

-- ---- one bridge more

other_ends_snoc : (bs : List Bridge) (b : Bridge) (i : ℕ) → other_ends (bs ++ (b ∷ [])) i ≡ other_ends bs i ++ other_end b i
unfolding other_ends
other_ends_snoc [] b i = append-nil (other_end b i)
other_ends_snoc (c ∷ bs) b i =
    ap (λ (l : List ℕ). other_end c i ++ l) (other_ends_snoc bs b i) ∙ sym (append_assoc (other_end c i) (other_ends bs i) (other_end b i))

pub list_snoc : (rows : List (List ℕ)) (bs : List Bridge) (b : Bridge) (i : ℕ) → list_of rows (bs ++ (b ∷ [])) i ≡ list_of rows bs i ++ other_end b i
unfolding list_of
list_snoc rows bs b i =
    ap (λ (l : List ℕ). get_or rows i [] ++ l) (other_ends_snoc bs b i) ∙ sym (append_assoc (get_or rows i []) (other_ends bs i) (other_end b i))

-- ---- the ends

pub record Ends (n : ℕ) (b : Bridge) : Type 0 where
  pub near_below : b.near < n
  pub far_below : b.far < n
  pub differ : b.near ≢ b.far

abbrev pub AllEnds : ℕ → List Bridge → Type 0
AllEnds n [] = Unit
AllEnds n (b ∷ bs) = Ends n b × AllEnds n bs

pub ends_snoc : (n : ℕ) (bs : List Bridge) (b : Bridge) → AllEnds n bs → Ends n b → AllEnds n (bs ++ (b ∷ []))
ends_snoc n [] b a q = (q, tt)
ends_snoc n (c ∷ bs) b a q = (a.0, ends_snoc n bs b a.1 q)

-- v is the end of b opposite to u
abbrev pub Opposite : Bridge → ℕ → ℕ → Type 0
Opposite b u v = ((u ≡ b.near) × (v ≡ b.far)) ⊎ ((u ≡ b.far) × (v ≡ b.near))

pub other_end_in : (b : Bridge) (u v : ℕ) → In v (other_end b u) → Opposite b u v
unfolding other_end
other_end_in b u v =
    pick_ind (λ (l : List ℕ). In v l → Opposite b u v) (eqb u b.near)
    (λ t m. inl (eqb→eq u b.near t, in_one m))
    (λ _. pick_ind (λ (l : List ℕ). In v l → Opposite b u v) (eqb u b.far)
    (λ t m. inr (eqb→eq u b.far t, in_one m)) (λ _ m. absurd (in-nil m)))

pub far_in_lem : (b : Bridge) → In b.far (other_end b b.near)
unfolding other_end
far_in_lem b = subst (In b.far) (sym (pick_yes (eqb b.near b.near) _ _ (eqb_refl b.near))) (here refl)

other_ends_below : (n : ℕ) (bs : List Bridge) → AllEnds n bs → (u v : ℕ) → In v (other_ends bs u) → v < n
unfolding other_ends
other_ends_below n [] a u v m = absurd (in-nil m)
other_ends_below n (b ∷ bs) a u v m = elim (in-cases (other_end b u) m) [
  | inl k ↦ elim (other_end_in b u v k) [ inl p ↦ omega (arith, a.0.far_below) | inr p ↦ omega (arith, a.0.near_below) ]
  | inr k ↦ other_ends_below n bs a.1 u v k
]

-- lists hold nodes, where rows do and bridges end at nodes
pub list_below : (rows : List (List ℕ)) (n : ℕ) → ((u v : ℕ) → In v (get_or rows u []) → v < n) → (bs : List Bridge) → AllEnds n bs
    → (u v : ℕ) → In v (list_of rows bs u) → v < n
unfolding list_of
list_below rows n below bs a u v m = elim (in-cases (get_or rows u []) m) [ inl k ↦ below u v k | inr k ↦ other_ends_below n bs a u v k ]
