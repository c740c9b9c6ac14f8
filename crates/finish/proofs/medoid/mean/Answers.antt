-- Zeros, the rows added, the sums divided: each step is the definition's, on a slice whose length stays. Assumes nothing.
use mathlib.Core.Path.{◌≡◌, refl, sym, ap, ap₂, subst, ◌∙◌}
use mathlib.Core.List.{List, map}
use Prim.Native.Nat.{ℕ, ◌/◌, ◌^◌, ◌≤◌, ◌<◌}
use lib.Dec.{le→leb}
use lib.IntN.{pos}
use native.Mathlib.Omega.{arith}
use lib.ListN.{length, get_or, replicate, length-replicate}
use lib.Ieee.{Float, nan, of_bits, binary32, div, of_int, in_float}
use Rattle.std.proofs.lemmas.List.{same_lists, get_or_default, get_or-replicate}
use Rattle.basics.specs.Sum.{+zero}
use Rattle.def_graph.specs.Centroid.{row_sums_from, centroid_of}
use Rattle.basics.proofs.Pieces.{length_pieces}
use Rattle.distance.specs.Vectors.{vectors_in}
use Rattle.finish.proofs.medoid.mean.Goals as goal

pub sum_rows-requires : goal.sum_rows-requires
sum_rows-requires c =
    subst (λ (d : ℕ). 0 < d) (sym c.fill.ensures.len) c.requires.0

pub int_to_float-n : goal.int_to_float-n
unfolding in_float
int_to_float-n c =
    let long : length c.sum_rows.new.sums ≡ length c.args.out.now = c.sum_rows.auto.sums ∙ c.fill.ensures.len in
    le→leb (length c.args.rows.now / length c.sum_rows.new.sums) (2 ^ 24) (subst (λ (d : ℕ). length c.args.rows.now / d ≤ 2 ^ 24) (sym long) c.requires.1)

-- the three steps, one after the other
joined : (rows out cleared summed divided : List Float) → cleared ≡ replicate (length out) +zero
    → summed ≡ row_sums_from binary32 cleared (vectors_in (length cleared) rows) → length summed ≡ length cleared
    → divided ≡ map (λ (x : Float). div binary32 x (of_int binary32 (pos (length rows / length summed)))) summed → divided ≡ centroid_of binary32 (length out) (vectors_in (length out) rows)
unfolding centroid_of
joined rows out cleared summed divided a b e c =
    let d : length cleared ≡ length out = ap length a ∙ length-replicate (length out) +zero in
    let mean : ℕ → List Float → List Float = λ n. map (λ (x : Float). div binary32 x (of_int binary32 (pos n))) in
    let n : length rows / length summed ≡ length (vectors_in (length out) rows) = ap (λ (k : ℕ). length rows / k) (e ∙ d) ∙ sym (length_pieces (length out) _ rows) in
    c
    ∙ ap₂ mean n (b ∙ ap (λ (k : ℕ). row_sums_from binary32 cleared (vectors_in k rows)) d ∙ ap (λ (l : List Float). row_sums_from binary32 l (vectors_in (length out) rows)) a)

zeros : (out cleared : List Float) → length cleared ≡ length out → ((k : ℕ) → k < length out → get_or cleared k nan ≡ +zero) → cleared ≡ replicate (length out) +zero
zeros out cleared e z = same_lists cleared (replicate (length out) +zero) (e ∙ sym (length-replicate (length out) +zero))
    (λ k d h. get_or_default cleared k d nan h ∙ z k (omega (arith, e)) ∙ sym (get_or-replicate (length out) k +zero d (omega (arith, e))))

pub returns : goal.returns
unfolding of_bits
returns c =
    let x = c.args in
    joined x.rows.now x.out.now _ _ _
    (zeros x.out.now c.fill.new.self c.fill.ensures.len (λ k h. c.fill.ensures.clones k nan h refl))
    c.sum_rows.ensures c.sum_rows.auto.sums c.divide.ensures
