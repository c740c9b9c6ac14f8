-- How long lists with bridges are: over all nodes together each bridge adds two entries, and the longest is the longest. Assumes nothing.
use mathlib.Core.Path.{◌≡◌, refl, sym, ap, ◌∙◌}
use mathlib.Core.Logic.{◌≢◌}
use mathlib.Core.List.{List, [], ◌∷◌, ◌++◌}
use Prim.Native.Nat.{ℕ, zero, suc, ◌+◌, ◌*◌, ◌≤◌, ◌<◌}
use native.Mathlib.Omega.{arith}
use native.Mathlib.Decide.{dec_lt}
use lib.Dec.{eqb, eqb→eq, eqb_refl}
use lib.ListN.{length, length-append, get_or}
use mir.Facts.{no_eqb}
use Rattle.basics.specs.Choice.{pick, pick_ind, pick_yes, pick_no}
use Rattle.basics.specs.Graph.{Bridge, other_end, other_ends, list_of}
use Rattle.def_walk.specs.Lengths.{sum_to, max_to, total_length}
use Rattle.def_walk.proofs.graph_utils.Bridges.{Ends, AllEnds}

-- ---- sums and largest values

pub max_least : (n : ℕ) (f : ℕ → ℕ) (i : ℕ) → i < n → f i ≤ max_to n f
unfolding max_to
max_least zero f i h = absurd (omega arith)
max_least (suc n) f i h =
    elim (dec_lt i n) [
      | yes k ↦ (let r = max_least n f i k in omega arith)
      | no k ↦ (let q : i ≡ n = omega arith in let z : f i ≡ f n = ap f q in omega arith)
    ]

sum-add : (n : ℕ) (f g h : ℕ → ℕ) → ((i : ℕ) → h i ≡ f i + g i) → sum_to n h ≡ sum_to n f + sum_to n g
unfolding sum_to
sum-add zero f g h q = refl
sum-add (suc n) f g h q = let r = sum-add n f g h q in omega (arith, q n)

sum-zero : (n : ℕ) → sum_to n (λ _. zero) ≡ zero
unfolding sum_to
sum-zero zero = refl
sum-zero (suc n) = omega (arith, sum-zero n)

-- ---- one at a, nothing elsewhere: the sum up to n is 1 where a is below n

abbrev is_at : ℕ → ℕ → ℕ
is_at a i = pick (eqb i a) 1 0

at_yes : (a : ℕ) → is_at a a ≡ 1
at_yes a = pick_yes (eqb a a) 1 0 (eqb_refl a)

at_no : (a i : ℕ) → i ≢ a → is_at a i ≡ 0
at_no a i f = pick_no (eqb i a) 1 0 (no_eqb f)

sum_out : (n a : ℕ) → n ≤ a → sum_to n (is_at a) ≡ 0
unfolding sum_to
sum_out zero a h = refl
sum_out (suc n) a h = let r = sum_out n a (omega arith) in omega (arith, at_no a n (omega arith))

sum_in_lem : (n a : ℕ) → a < n → sum_to n (is_at a) ≡ 1
unfolding sum_to
sum_in_lem zero a h = absurd (omega arith)
sum_in_lem (suc n) a h = elim (dec_lt a n) [
  | yes k ↦ omega (arith, sum_in_lem n a k, at_no a n (omega arith))
  | no k ↦
      let q : n ≡ a = omega arith in
      let z : is_at a n ≡ 1 = rw q (at_yes a) in
      omega (arith, sum_out n a (omega arith))
]

-- ---- bridges

-- a bridge is one entry at each of its ends
length_other_end : (n : ℕ) (b : Bridge) → Ends n b → (i : ℕ) → length (other_end b i) ≡ is_at b.near i + is_at b.far i
unfolding other_end
length_other_end n b q i =
    pick_ind (λ (l : List ℕ). length l ≡ is_at b.near i + is_at b.far i) (eqb i b.near)
    (λ t.
    let p : i ≡ b.near = eqb→eq i b.near t in
    omega (arith, pick_yes {X = ℕ} (eqb i b.near) 1 0 t, at_no b.far i (λ z. q.differ (sym p ∙ z))))
    (λ t. pick_ind (λ (l : List ℕ). length l ≡ is_at b.near i + is_at b.far i) (eqb i b.far)
    (λ t'. omega (arith, pick_no {X = ℕ} (eqb i b.near) 1 0 t, pick_yes {X = ℕ} (eqb i b.far) 1 0 t'))
    (λ t'. omega (arith, pick_no {X = ℕ} (eqb i b.near) 1 0 t, pick_no {X = ℕ} (eqb i b.far) 1 0 t')))

sum_other_ends : (n : ℕ) (bs : List Bridge) → AllEnds n bs → sum_to n (λ i. length (other_ends bs i)) ≡ 2 * length bs
unfolding other_ends
sum_other_ends n [] a = sum-zero n
sum_other_ends n (b ∷ bs) a =
    let r = sum_other_ends n bs a.1 in
    let p = sum-add n (λ i. length (other_end b i)) (λ i. length (other_ends bs i)) (λ i. length (other_end b i ++ other_ends bs i)) (λ i. length-append (other_end b i) (other_ends bs i)) in
    let q = sum-add n (is_at b.near) (is_at b.far) (λ i. length (other_end b i)) (length_other_end n b a.0) in
    omega (arith, sum_in_lem n b.near a.0.near_below, sum_in_lem n b.far a.0.far_below)

-- over all lists together, two entries for each bridge
pub lists_total : (rows : List (List ℕ)) (n : ℕ) (bs : List Bridge) → AllEnds n bs
    → total_length n (list_of rows bs) ≡ total_length n (λ i. get_or rows i []) + 2 * length bs
unfolding list_of
lists_total rows n bs a =
    let p = sum-add n (λ i. length (get_or rows i [])) (λ i. length (other_ends bs i)) (λ i. length (get_or rows i [] ++ other_ends bs i)) (λ i. length-append (get_or rows i []) (other_ends bs i)) in
    omega (arith, sum_other_ends n bs a)
