-- A residual's length, its component at a place, and how it is written from the front of a slice. Assumes nothing.
use mathlib.Core.Path.{◌≡◌, refl, ap, ◌∙◌}
use mathlib.Core.List.{List, [], ◌∷◌, ◌++◌, append-nil}
use Prim.Native.Nat.{ℕ, zero, suc, ◌+◌, ◌≤◌, ◌<◌, min}
use native.Mathlib.Numerals.{add-one}
use native.Mathlib.Omega.{arith}
use lib.ListN.{length, get_or, take, drop, set, length-take, drop_of_length-le}
use lib.Seq.{take-suc, length-take-le}
use lib.Ieee.{Float, Format, nan, sub}
use Rattle.std.proofs.lemmas.List.{take_min}
use Rattle.basics.proofs.Loops.{front_set}
use Rattle.basics.proofs.Members.{drop_min}
use Rattle.def_graph.specs.Simhash.{residual}

pub length-residual : (f : Format) (c p : List Float) → length (residual f c p) ≡ min (length c) (length p)
unfolding residual
length-residual f [] p = omega arith
length-residual f (x ∷ c) [] = omega arith
length-residual f (x ∷ c) (y ∷ p) = let r = length-residual f c p in omega arith

pub residual_at : (f : Format) (c p : List Float) (i : ℕ) → i < length c → i < length p
    → get_or (residual f c p) i nan ≡ sub f (get_or c i nan) (get_or p i nan)
unfolding residual
residual_at f [] p i h k = absurd (omega arith)
residual_at f (x ∷ c) [] i h k = absurd (omega arith)
residual_at f (x ∷ c) (y ∷ p) zero h k = refl
residual_at f (x ∷ c) (y ∷ p) (suc i) h k = residual_at f c p i (omega arith) (omega arith)

-- ---- floats written from the front

-- the first i of them, and then what was there
abbrev pub written : List Float → List Float → ℕ → List Float
written xs front i = take i xs ++ drop i front

pub written_more : (xs front : List Float) (i : ℕ) → i < length xs → i < length front → set (written xs front i) i (get_or xs i nan) ≡ written xs front (i + 1)
written_more xs front i h k =
    front_set front (take i xs) i (get_or xs i nan) (length-take-le i xs (omega arith)) k
    ∙ rw (add-one i, take-suc xs i nan h)

-- all of the front of a slice, as far as there are floats and room
pub written_all : (xs out items : List Float) (n i : ℕ) → n ≡ min (length out) (length xs) → length (take n out) ≤ i → i ≤ length (take n out)
    → items ≡ written xs (take n out) i → items ++ drop n out ≡ take (length out) xs ++ drop (length xs) out
written_all xs out items n i e least most is =
    let end : i ≡ n = omega (arith, length-take n out) in
    let other : n ≡ min (length xs) (length out) = omega arith in
    ap (λ (l : List Float). l ++ drop n out) (is ∙ rw (drop_of_length-le (take n out) least) (append-nil (take i xs)) ∙ ap (λ (k : ℕ). take k xs) (end ∙ e) ∙ take_min (length out) xs)
    ∙ ap (λ (l : List Float). take (length out) xs ++ l) (ap (λ (k : ℕ). drop k out) other ∙ drop_min (length xs) out)
