-- The two cases of scaling, by how the length compares with the code's literal 1e-10; and scaling keeps the number of components. Assumes nothing.
use mathlib.Core.Path.{◌≡◌, refl, sym, ap, ◌∙◌}
use mathlib.Core.Bool.{Bool, true, false}
use mathlib.Core.List.{List, map}
use lib.ListN.{length, length-map}
use lib.Ieee.{Float, Format, binary32, lt, div, of_bits}
use Rattle.basics.specs.Choice.{pick_ind, pick_true, pick_false}
use Rattle.norm.specs.Norm.{tiny, length_of, scaled_of}

literal : of_bits binary32 0x2edb_e6ff ≡ tiny binary32
unfolding of_bits tiny
literal = refl

compared : (l : Float) (v : List Float) {b : Bool} → l ≡ length_of binary32 v → lt (of_bits binary32 0x2edb_e6ff) l ≡ b → lt (tiny binary32) (length_of binary32 v) ≡ b
compared l v e h = ap (lt (tiny binary32)) (sym e) ∙ ap (λ (t : Float). lt t l) (sym literal) ∙ h

pub scaled_long : (l : Float) (v : List Float) → l ≡ length_of binary32 v → lt (of_bits binary32 0x2edb_e6ff) l ≡ true
    → map (λ (x : Float). div binary32 x l) v ≡ scaled_of binary32 v
unfolding scaled_of
scaled_long l v e h = ap (λ (k : Float). map (λ (x : Float). div binary32 x k) v) e ∙ sym (pick_true _ v (compared l v e h))

pub scaled_short : (l : Float) (v : List Float) → l ≡ length_of binary32 v → lt (of_bits binary32 0x2edb_e6ff) l ≡ false → v ≡ scaled_of binary32 v
unfolding scaled_of
scaled_short l v e h = sym (pick_false (map (λ (x : Float). div binary32 x (length_of binary32 v)) v) v (compared l v e h))

pub length-scaled : (f : Format) (v : List Float) → length (scaled_of f v) ≡ length v
unfolding scaled_of
length-scaled f v =
    pick_ind (λ (w : List Float). length w ≡ length v) (lt (tiny f) (length_of f v)) (λ _. length-map v (λ (x : Float). div f x (length_of f v))) (λ _. refl)
