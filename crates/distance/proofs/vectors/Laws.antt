-- A distance is the same both ways: a product is, with its rounding, and so is the test of the two lengths. Assumes nothing.
use mathlib.Core.Path.{◌≡◌, refl, sym, ap, ap₂, ◌∙◌}
use mathlib.Core.Bool.{Bool, true, false, cond}
use mathlib.Core.List.{List, [], ◌∷◌}
use Prim.Native.Nat.{ℕ, zero, suc, ◌*◌}
use native.Mathlib.Nat.{mul_comm}
use lib.Dec.{eqb, eqb-suc-suc, eqb-zero-suc, eqb-suc-zero}
use lib.ListN.{length}
use lib.Ieee.{Float, nan, inf, fin, Format, binary32, unlike, up, down, mul, round, sub}
use Rattle.basics.specs.Choice.{pick}
use Rattle.basics.specs.Sum.{+one, sum_of, products}
use Rattle.simd.specs.Dot.{dot_of}
use Rattle.distance.specs.Distance.{distance_of}
use Rattle.distance.specs.Vectors.{vector_of, between}

unlike_comm : (s t : Bool) → unlike s t ≡ unlike t s
unlike_comm true true = refl
unlike_comm true false = refl
unlike_comm false true = refl
unlike_comm false false = refl

pub mul-sym : (f : Format) (x y : Float) → mul f x y ≡ mul f y x
unfolding mul
mul-sym f nan nan = refl
mul-sym f nan (inf t) = refl
mul-sym f nan (fin t n d) = refl
mul-sym f (inf s) nan = refl
mul-sym f (inf s) (inf t) = ap inf (unlike_comm s t)
mul-sym f (inf s) (fin t n d) = ap (λ (u : Bool). cond (eqb n 0) nan (inf u)) (unlike_comm s t)
mul-sym f (fin s m e) nan = refl
mul-sym f (fin s m e) (inf t) = ap (λ (u : Bool). cond (eqb m 0) nan (inf u)) (unlike_comm s t)
mul-sym f (fin s m e) (fin t n d) =
    λ i. round f (unlike_comm s t i) (mul_comm (m * up e) (n * up d) i) (mul_comm (down e) (down d) i)

pub products-sym : (f : Format) (xs ys : List Float) → products f xs ys ≡ products f ys xs
unfolding products
products-sym f [] [] = refl
products-sym f [] (y ∷ ys) = refl
products-sym f (x ∷ xs) [] = refl
products-sym f (x ∷ xs) (y ∷ ys) = ap₂ (λ (p : Float) (ps : List Float). p ∷ ps) (mul-sym f x y) (products-sym f xs ys)

pub eqb-sym : (m n : ℕ) → eqb m n ≡ eqb n m
eqb-sym zero zero = refl
eqb-sym zero (suc n) = eqb-zero-suc n ∙ sym (eqb-suc-zero n)
eqb-sym (suc m) zero = eqb-suc-zero m ∙ sym (eqb-zero-suc m)
eqb-sym (suc m) (suc n) = eqb-suc-suc m n ∙ eqb-sym m n ∙ sym (eqb-suc-suc n m)

pub distance_sym : (f : Format) (xs ys : List Float) → distance_of f xs ys ≡ distance_of f ys xs
unfolding distance_of dot_of
distance_sym f xs ys i =
    pick (eqb-sym (length xs) (length ys) i) (sub f +one (sum_of f (products-sym f xs ys i))) (inf false)

pub between-sym : (vs : List (List Float)) (i j : ℕ) → between vs i j ≡ between vs j i
unfolding between
between-sym vs i j = distance_sym binary32 (vector_of vs i) (vector_of vs j)
