-- Buckets one after the other, and their marks: one more, and how many there are. Assumes nothing.
use mathlib.Core.Path.{◌≡◌, refl, sym, ap, ◌∙◌}
use mathlib.Core.List.{List, [], ◌∷◌, ◌++◌, flatten, append_assoc, append-nil}
use Prim.Native.Nat.{ℕ, zero, suc, ◌≤◌, ◌<◌}
use native.Mathlib.Omega.{arith}
use lib.ListN.{length, set, replicate, length-append, length-replicate}
use Rattle.dealing.specs.Inside.Marks.{run, marks_of}

pub length_run : (first n : ℕ) → length (run first n) ≡ n
unfolding run
length_run first zero = refl
length_run first (suc n) = ap suc (length-replicate n 0)

pub run-set : (first n : ℕ) → 0 < n → set (replicate n 0) 0 first ≡ run first n
unfolding run
run-set first zero h = absurd (omega arith)
run-set first (suc n) h = refl

pub run_none : (first n : ℕ) → n ≤ 0 → replicate n 0 ≡ run first n
unfolding run
run_none first zero h = refl
run_none first (suc n) h = absurd (omega arith)

pub flatten_append : (a b : List (List ℕ)) → flatten (a ++ b) ≡ flatten a ++ flatten b
unfolding flatten
flatten_append [] b = refl
flatten_append (x ∷ a) b = ap (λ (l : List ℕ). x ++ l) (flatten_append a b) ∙ sym (append_assoc x (flatten a) (flatten b))

pub marks_append : (a b : List (List ℕ)) → marks_of (a ++ b) ≡ marks_of a ++ marks_of b
unfolding marks_of
marks_append [] b = refl
marks_append (x ∷ a) b = ap (λ (l : List ℕ). run 1 (length x) ++ l) (marks_append a b) ∙ sym (append_assoc (run 1 (length x)) (marks_of a) (marks_of b))

pub flatten_one : (x : List ℕ) → flatten (x ∷ []) ≡ x
unfolding flatten
flatten_one x = append-nil x

pub marks_one : (x : List ℕ) → marks_of (x ∷ []) ≡ run 1 (length x)
unfolding marks_of
marks_one x = append-nil (run 1 (length x))

pub flatten_snoc : (a : List (List ℕ)) (x : List ℕ) → flatten (a ++ (x ∷ [])) ≡ flatten a ++ x
flatten_snoc a x = flatten_append a (x ∷ []) ∙ ap (λ (l : List ℕ). flatten a ++ l) (flatten_one x)

pub marks_snoc : (a : List (List ℕ)) (x : List ℕ) → marks_of (a ++ (x ∷ [])) ≡ marks_of a ++ run 1 (length x)
marks_snoc a x = marks_append a (x ∷ []) ∙ ap (λ (l : List ℕ). marks_of a ++ l) (marks_one x)

-- a mark for each node
pub length-marks : (bs : List (List ℕ)) → length (marks_of bs) ≡ length (flatten bs)
unfolding marks_of flatten
length-marks [] = refl
length-marks (b ∷ bs) =
    let r = length-marks bs in
    omega (arith, length-append (run 1 (length b)) (marks_of bs), length-append b (flatten bs), length_run 1 (length b))
