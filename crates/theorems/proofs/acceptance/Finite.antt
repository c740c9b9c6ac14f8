-- A finite vector, scaled, is finite. Where a component is 2^64 or more in size its square rounds to infinity, and so do the sum and the length,
-- and a quotient by an infinity is a zero. Otherwise a quotient is below 2^64 over 1e-10, which is below 2^98, and rounds to something finite:
-- rounding keeps the order (`round_mono`), and 2^98 is a value of binary32. Assumes nothing.
use mathlib.Core.Path.{◌≡◌, refl, sym, ap, ◌∙◌, subst}
use mathlib.Core.Logic.{◌⊎◌, inl, inr}
use mathlib.Core.Bool.{Bool, true, false, cond}
use mathlib.Core.List.{List, [], ◌∷◌, map}
use Prim.Native.Nat.{ℕ, zero, suc, ◌+◌, ◌*◌, ◌^◌, ◌≤◌, ◌<◌}
use native.Mathlib.Nat.{le_trans, le_of_eq, le_of_lt, lt_of_not-le, mul-one, mul_comm, mul-le-mul, mul-pos, mul-mul-mul_comm}
use native.Mathlib.Decide.{dec_le}
use native.Mathlib.Omega.{arith}
use lib.IntN.{ℤ, negsuc}
use lib.Dec.{T, ltb, ltb→lt}
use lib.Pow.{pow_pos}
use lib.Ieee.{Float, nan, inf, fin, Format, binary32, prec, emax, low, up, down, unlike, odd, units, round, sum, add, mul, div, lt, le}
use lib.Ieee.Scale.{finite}
use lib.Ieee.Fits.{down_pos, round_is}
use lib.Ieee.Order.{drop, kept, round_mono}
use lib.Ieee.Bits.{is_true}
use borrow.Author.Tests.{ne_eqb}
use Rattle.basics.specs.Choice.{pick, pick_ind}
use Rattle.basics.specs.Lists.{every}
use Rattle.basics.specs.Sum.{+zero, sum_from, products}
use Rattle.basics.proofs.Tests.{both_true}
use Rattle.norm.specs.Root.{root_of}
use Rattle.norm.specs.Norm.{tiny, squares_of, length_of, scaled_of}

-- ---- rounding: up to 2^98 it is finite, whatever the sign, and from 2^128 on it is an infinity

-- no finite value is above an infinity, and a value at most a finite one is no infinity above zero
under : (x y : Float) → T (le x y) → finite y ≡ true → (x ≡ inf false → ⊥)
unfolding le
under x nan h f e = absurd (subst T (sym f) tt)
under x (inf s) h f e = absurd (subst T (sym f) tt)
under x (fin s m d) h f e = subst (λ (z : Float). T (le z (fin s m d))) e h

above : (y : Float) → T (le (inf false) y) → y ≡ inf false
unfolding le
above nan h = absurd h
above (inf true) h = absurd h
above (inf false) h = refl
above (fin s m e) h = absurd h

odd-finite : (d : ℕ) (s : Bool) (q k l : ℕ) → finite (odd d s q k l) ≡ true
unfolding odd
odd-finite d s zero k l = refl
odd-finite d s (suc q) k l = refl

-- the sign plays no part
units-finite : (f : Format) (s : Bool) (q k : ℕ) → (units f false q k ≡ inf false → ⊥) → finite (units f s q k) ≡ true
unfolding units
units-finite f s q k = go (ltb (q * 2 ^ k) (2 ^ (low f + suc (emax f))))
  where
    go : (b : Bool) → (cond b (odd (suc (prec f)) false q k (low f)) (inf false) ≡ inf false → ⊥) → finite (cond b (odd (suc (prec f)) s q k (low f)) (inf s)) ≡ true
    go true h = odd-finite (suc (prec f)) s q k (low f)
    go false h = absurd (h refl)

round-finite : (f : Format) (s : Bool) (a c : ℕ) → (round f false a c ≡ inf false → ⊥) → finite (round f s a c) ≡ true
round-finite f s a c h =
    let q : ℕ = kept (prec f) (a * 2 ^ low f) c in
    let k : ℕ = drop (prec f) (a * 2 ^ low f) c in
    ap finite (round_is f s a c) ∙ units-finite f s q k (λ e. h (round_is f false a c ∙ e))

-- 2^98 and 2^128
large : finite (round binary32 false (2 ^ 98) 1) ≡ true
unfolding round
large = refl

too_large : round binary32 false (2 ^ 64 * 2 ^ 64) 1 ≡ inf false
unfolding round
too_large = refl

small_rounds : (s : Bool) (a c : ℕ) → 0 < c → a ≤ 2 ^ 98 * c → finite (round binary32 s a c) ≡ true
small_rounds s a c p h =
    round-finite binary32 s a c
    (under (round binary32 false a c) (round binary32 false (2 ^ 98) 1) (round_mono binary32 a c (2 ^ 98) 1 p (pow_pos 0) (subst (λ (k : ℕ). k ≤ 2 ^ 98 * c) (sym (mul-one a)) h)) large)

large_rounds : (a c : ℕ) → 0 < c → 2 ^ 64 * 2 ^ 64 * c ≤ a → round binary32 false a c ≡ inf false
large_rounds a c p h =
    above (round binary32 false a c)
    (subst (λ (x : Float). T (le x (round binary32 false a c))) too_large
    (round_mono binary32 (2 ^ 64 * 2 ^ 64) 1 a c (pow_pos 0) p (subst (λ (k : ℕ). 2 ^ 64 * 2 ^ 64 * c ≤ k) (sym (mul-one a)) h)))

-- ---- squares and their sum are no NaN and not below zero

abbrev Unsigned : Float → Type 0
Unsigned nan = ⊥
Unsigned (inf s) = s ≡ false
Unsigned (fin s m e) = s ≡ false

odd_unsigned : (d q k l : ℕ) → Unsigned (odd d false q k l)
unfolding odd
odd_unsigned d zero k l = refl
odd_unsigned d (suc q) k l = refl

units_unsigned : (f : Format) (q k : ℕ) → Unsigned (units f false q k)
unfolding units
units_unsigned f q k = elim (ltb (q * 2 ^ k) (2 ^ (low f + suc (emax f)))) as (λ b. Unsigned (cond b (odd (suc (prec f)) false q k (low f)) (inf false))) [
  | true ↦ odd_unsigned (suc (prec f)) q k (low f)
  | false ↦ refl
]

round_unsigned : (f : Format) (a c : ℕ) → Unsigned (round f false a c)
round_unsigned f a c = subst Unsigned (sym (round_is f false a c)) (units_unsigned f _ _)

-- a finite value's square, whichever its sign
square_is : (f : Format) (s : Bool) (m : ℕ) (e : ℤ) → mul f (fin s m e) (fin s m e) ≡ round f false (m * up e * (m * up e)) (down e * down e)
unfolding mul
square_is f true m e = refl
square_is f false m e = refl

square_unsigned : (f : Format) (x : Float) → finite x ≡ true → Unsigned (mul f x x)
square_unsigned f nan h = absurd (subst T (sym h) tt)
square_unsigned f (inf s) h = absurd (subst T (sym h) tt)
square_unsigned f (fin s m e) h = subst Unsigned (sym (square_is f s m e)) (round_unsigned f (m * up e * (m * up e)) (down e * down e))

add_unsigned : (f : Format) (x y : Float) → Unsigned x → Unsigned y → Unsigned (add f x y)
unfolding add sum
add_unsigned f nan y p q = elim p [ ]
add_unsigned f (inf true) y p q = absurd (subst T p tt)
add_unsigned f (inf false) nan p q = elim q [ ]
add_unsigned f (inf false) (inf true) p q = absurd (subst T q tt)
add_unsigned f (inf false) (inf false) p q = refl
add_unsigned f (inf false) (fin t n d) p q = refl
add_unsigned f (fin s m e) nan p q = elim q [ ]
add_unsigned f (fin s m e) (inf t) p q = q
add_unsigned f (fin true m e) (fin t n d) p q = absurd (subst T p tt)
add_unsigned f (fin false m e) (fin true n d) p q = absurd (subst T q tt)
add_unsigned f (fin false m e) (fin false n d) p q = round_unsigned f (m * up e * down d + n * up d * down e) (down e * down d)

-- an infinity stays in the sum
inf_first : (f : Format) (y : Float) → Unsigned y → add f (inf false) y ≡ inf false
unfolding add
inf_first f nan q = elim q [ ]
inf_first f (inf true) q = absurd (subst T q tt)
inf_first f (inf false) q = refl
inf_first f (fin t n d) q = refl

inf_second : (f : Format) (x : Float) → Unsigned x → add f x (inf false) ≡ inf false
unfolding add
inf_second f nan q = elim q [ ]
inf_second f (inf true) q = absurd (subst T q tt)
inf_second f (inf false) q = refl
inf_second f (fin t n d) q = refl

squares_stay : (f : Format) (v : List Float) → every finite v ≡ true → sum_from f (inf false) (products f v v) ≡ inf false
unfolding every sum_from products
squares_stay f [] h = refl
squares_stay f (x ∷ v) h =
    let t = both_true (finite x) (every finite v) h in
    ap (λ (a : Float). sum_from f a (products f v v)) (inf_first f (mul f x x) (square_unsigned f x t.0)) ∙ squares_stay f v t.1

-- ---- a sum of squares that is no infinity has no component of 2^64 or more

-- below 2^64 in size
abbrev Bounded : Float → Type 0
Bounded nan = ⊥
Bounded (inf s) = ⊥
Bounded (fin s m e) = m * up e ≤ 2 ^ 64 * down e

abbrev AllBounded : List Float → Type 0
AllBounded [] = Unit
AllBounded (x ∷ v) = Bounded x × AllBounded v

-- the square of what is not bounded
unbounded_square : (s : Bool) (m : ℕ) (e : ℤ) → 2 ^ 64 * down e ≤ m * up e → mul binary32 (fin s m e) (fin s m e) ≡ inf false
unbounded_square s m e h =
    square_is binary32 s m e
    ∙ large_rounds (m * up e * (m * up e)) (down e * down e) (mul-pos (down_pos e) (down_pos e))
    (le_trans (le_of_eq (mul-mul-mul_comm (2 ^ 64) (2 ^ 64) (down e) (down e))) (mul-le-mul h h))

bounded_or : (x : Float) → finite x ≡ true → Bounded x ⊎ (mul binary32 x x ≡ inf false)
bounded_or nan h = absurd (subst T (sym h) tt)
bounded_or (inf s) h = absurd (subst T (sym h) tt)
bounded_or (fin s m e) h = elim (dec_le (m * up e) (2 ^ 64 * down e)) [
  | yes l ↦ inl l
  | no l ↦ inr (unbounded_square s m e (le_of_lt (lt_of_not-le l)))
]

all_bounded : (v : List Float) → every finite v ≡ true → (a : Float) → Unsigned a → (sum_from binary32 a (products binary32 v v) ≡ inf false → ⊥) → AllBounded v
unfolding every sum_from products
all_bounded [] h a u n = tt
all_bounded (x ∷ v) h a u n =
    let t = both_true (finite x) (every finite v) h in
    let square : Float = mul binary32 x x in
    let rest : AllBounded v = all_bounded v t.1 (add binary32 a square) (add_unsigned binary32 a square u (square_unsigned binary32 x t.0)) n in
    let none : square ≡ inf false → ⊥ = λ e. n (ap (λ (y : Float). sum_from binary32 (add binary32 a y) (products binary32 v v)) e
    ∙ ap (λ (y : Float). sum_from binary32 y (products binary32 v v)) (inf_second binary32 a u) ∙ squares_stay binary32 v t.1) in
    (elim (bounded_or x t.0) [ inl b ↦ b | inr e ↦ absurd (none e) ], rest)

squares_unsigned : (v : List Float) → every finite v ≡ true → (a : Float) → Unsigned a → Unsigned (sum_from binary32 a (products binary32 v v))
unfolding every sum_from products
squares_unsigned [] h a u = u
squares_unsigned (x ∷ v) h a u =
    let t = both_true (finite x) (every finite v) h in
    squares_unsigned v t.1 (add binary32 a (mul binary32 x x)) (add_unsigned binary32 a (mul binary32 x x) u (square_unsigned binary32 x t.0))

-- ---- quotients by a length above 1e-10

tiny-is : tiny binary32 ≡ fin false 14411519 (negsuc 56)
unfolding tiny round
tiny-is = refl

-- by a length of n · 2^d: D is the length's denominator and N its numerator, E and M the component's
quotient_small : (M E N D : ℕ) → M ≤ 2 ^ 64 * E → 14411519 * 1 * D < N * 2 ^ 57 → M * D ≤ 2 ^ 98 * (N * E)
quotient_small M E N D h k =
    let length-least : D ≤ 2 ^ 34 * N = omega arith in
    le_trans (mul-le-mul h length-least) (le_of_eq (mul-mul-mul_comm (2 ^ 64) E (2 ^ 34) N ∙ ap (λ (z : ℕ). 2 ^ 98 * z) (mul_comm E N)))

some-length : (N D : ℕ) → 14411519 * 1 * D < N * 2 ^ 57 → 0 < N
some-length N D h = omega arith

divided_by : (x : Float) (t : Bool) (n : ℕ) (d : ℤ) → Bounded x → lt (fin false 14411519 (negsuc 56)) (fin t n d) ≡ true → finite (div binary32 x (fin t n d)) ≡ true
unfolding lt div
divided_by nan t n d b h = elim b [ ]
divided_by (inf _) t n d b h = elim b [ ]
divided_by (fin s m e) true n d b h = absurd (subst T (sym h) tt)
divided_by (fin s m e) false n d b h =
    let l : 14411519 * 1 * down d < n * up d * 2 ^ 57 = ltb→lt (14411519 * 1 * down d) (n * up d * 2 ^ 57) (subst T (sym h) tt) in
    let positive : 0 < n * up d = some-length (n * up d) (down d) l in
    let some : n ≡ 0 → ⊥ = λ z. absurd (omega (arith, ap (λ (k : ℕ). k * up d) z)) in
    rw (ne_eqb n 0 some)
    (small_rounds (unlike s false) (m * up e * down d) (n * up d * down e) (mul-pos positive (down_pos e)) (quotient_small (m * up e) (down e) (n * up d) (down d) b l))

by_infinity : (x : Float) (s : Bool) → finite x ≡ true → finite (div binary32 x (inf s)) ≡ true
unfolding div
by_infinity nan s h = h
by_infinity (inf t) s h = absurd (subst T (sym h) tt)
by_infinity (fin t m e) s h = refl

by_length : (x l : Float) → finite x ≡ true → Bounded x → lt (fin false 14411519 (negsuc 56)) l ≡ true → finite (div binary32 x l) ≡ true
unfolding lt
by_length x nan f b h = absurd (subst T (sym h) tt)
by_length x (inf s) f b h = by_infinity x s f
by_length x (fin t n d) f b h = divided_by x t n d b h

divided : (x l : Float) → finite x ≡ true → Bounded x → lt (tiny binary32) l ≡ true → finite (div binary32 x l) ≡ true
divided x l f b h = by_length x l f b (ap (λ (t : Float). lt t l) (sym tiny-is) ∙ h)

-- ---- the whole vector

all_by_infinity : (v : List Float) (s : Bool) → every finite v ≡ true → every finite (map (λ (x : Float). div binary32 x (inf s)) v) ≡ true
unfolding every
all_by_infinity [] s h = refl
all_by_infinity (x ∷ v) s h =
    let t = both_true (finite x) (every finite v) h in
    rw (by_infinity x s t.0) (all_by_infinity v s t.1)

all_divided : (v : List Float) (l : Float) → every finite v ≡ true → AllBounded v → lt (tiny binary32) l ≡ true
    → every finite (map (λ (x : Float). div binary32 x l) v) ≡ true
unfolding every
all_divided [] l h b k = refl
all_divided (x ∷ v) l h b k =
    let t = both_true (finite x) (every finite v) h in
    rw (divided x l t.0 b.0 k) (all_divided v l t.1 b.1 k)

-- by the root of a sum of squares
root_infinite : root_of binary32 (inf false) ≡ inf false
unfolding root_of pick
root_infinite = refl

quotients : (v : List Float) (q : Float) → every finite v ≡ true → Unsigned q → ((q ≡ inf false → ⊥) → AllBounded v) → lt (tiny binary32) (root_of binary32 q) ≡ true
    → every finite (map (λ (x : Float). div binary32 x (root_of binary32 q)) v) ≡ true
quotients v nan h u b k = elim u [ ]
quotients v (inf true) h u b k = absurd (subst T u tt)
quotients v (inf false) h u b k = subst (λ (l : Float). every finite (map (λ (x : Float). div binary32 x l) v) ≡ true) (sym root_infinite) (all_by_infinity v false h)
quotients v (fin s m e) h u b k = all_divided v (root_of binary32 (fin s m e)) h (b (λ p. subst (λ (x : Float). T (finite x)) p tt)) k

pub scaled-finite : (v : List Float) → every finite v ≡ true → every finite (scaled_of binary32 v) ≡ true
unfolding scaled_of length_of squares_of
scaled-finite v h =
    pick_ind (λ (u : List Float). every finite u ≡ true) (lt (tiny binary32) (length_of binary32 v))
    (λ t. quotients v (squares_of binary32 v) h (squares_unsigned v h +zero refl) (all_bounded v h +zero refl) (is_true _ t))
    (λ _. h)
