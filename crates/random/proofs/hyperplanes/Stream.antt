-- One test over a whole table: each entry is the pattern of the stream's number at its place, and no NaN's. What the test says at each place.
-- For any format and any table. Assumes nothing.
use Rattle.std.proofs.Common.{◌≡◌, ℕ, zero, suc, ◌+◌, ◌-◌, ◌^◌, ◌<◌, Bool, true, false, not, ◌&&◌, T, eqb, ltb, List, [], ◌∷◌, length, get_or, sym, ap, ◌∙◌, subst, le_of_suc-le-suc, not-suc-le-zero, add-zero, add-suc, suc-add, eqb→eq}
use lib.Ieee.{Format, Float, to_bits, of_bits, nan_bits, fits}
use lib.Ieee.Bits.{of_bits-to_bits}
use lib.Ieee.Fits.{and_l, and_r, round-fits}
use Rattle.basics.specs.Choice.{pick_ind}
use Rattle.random.specs.Lcg.{next_of, high, plane_addend}
use Rattle.random.specs.Hyperplanes.{stream, plane_value, plane_number}

-- x is the pattern for the state r, and no NaN's
unfoldable pub right : Format → ℕ → ℕ → Bool
unfolding plane_value to_bits nan_bits
right f r x = eqb x (to_bits f (plane_value f (high r))) && not (nan_bits f x)

-- each entry is right, where r is the state before the first
unfoldable pub runs : Format → ℕ → List ℕ → Bool
unfolding right next_of
runs f r [] = true
runs f r (x ∷ xs) = right f (next_of plane_addend r) x && runs f (next_of plane_addend r) xs

abbrev pub Right : Format → ℕ → ℕ → Type 0
Right f r x = (x ≡ to_bits f (plane_value f (high r))) × T (not (nan_bits f x))

of_right : (f : Format) (r x : ℕ) → T (right f r x) → Right f r x
unfolding right
of_right f r x t =
    let p : Bool = eqb x (to_bits f (plane_value f (high r))) in
    let q : Bool = not (nan_bits f x) in
    (eqb→eq x (to_bits f (plane_value f (high r))) (and_l p q t), and_r p q t)

pub at : (f : Format) (xs : List ℕ) (j : ℕ) → T (runs f (stream j) xs) → (k : ℕ) → k < length xs → Right f (stream (suc (j + k))) (get_or xs k 0)
unfolding runs stream
at f [] j t k h = absurd (not-suc-le-zero h)
at f (x ∷ xs) j t zero h =
    subst (λ (i : ℕ). Right f (stream (suc i)) x) (sym (add-zero j)) (of_right f (stream (suc j)) x (and_l (right f (stream (suc j)) x) (runs f (stream (suc j)) xs) t))
at f (x ∷ xs) j t (suc k) h =
    subst (λ (i : ℕ). Right f (stream (suc i)) (get_or xs k 0)) (suc-add j k ∙ sym (add-suc j k))
    (at f xs (suc j) (and_r (right f (stream (suc j)) x) (runs f (stream (suc j)) xs) t) k (le_of_suc-le-suc h))

value_fits : (f : Format) (h : ℕ) → T (fits f (plane_value f h))
unfolding plane_value
value_fits f h = pick_ind (λ (x : Float). T (fits f x)) (ltb h (2 ^ 30)) (λ _. round-fits f true (2 ^ 30 - h) (2 ^ 30)) (λ _. round-fits f false (h - 2 ^ 30) (2 ^ 30))

-- what is read from such a pattern is the stream's number
pub read : (f : Format) (k x : ℕ) → Right f (stream (suc k)) x → of_bits f x ≡ plane_number f k
unfolding plane_number
read f k x t = ap (of_bits f) t.0 ∙ of_bits-to_bits f (plane_value f (high (stream (suc k)))) (value_fits f (high (stream (suc k))))
