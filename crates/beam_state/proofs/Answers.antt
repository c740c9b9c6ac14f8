-- The answer with one node more. Assumes nothing.
use mathlib.Core.Path.{◌≡◌, sym, ap, ap₂, ◌∙◌}
use mathlib.Core.List.{List, [], ◌∷◌, ◌++◌, map, map-append, reverse, reverse-cons}
use Prim.Native.Nat.{ℕ, suc, ◌+◌, ◌-◌, min}
use native.Mathlib.Omega.{arith}
use lib.ListN.{length, take, drop, length-map, length-reverse}
use lib.Seq.{take_at, drop-append-add, drop-drop}
use lib.Ieee.{Float}
use Rattle.sorting.specs.declared.Keyed.{Keyed}
use Rattle.sorting.specs.Sorting.{first_by}
use Rattle.sorting.specs.Inside.Pairs.{key_in, insert_after, put_front, kept_pairs}
use Rattle.sorting.proofs.Laws.{length_first, first_map, keep_more}
use Rattle.def_walk.specs.KeepClosest.{key_at}
use Rattle.beam_state.specs.Inside.State.{pair_of, AnswerHeld}

module _ (far : ℕ → Float) (answer₀ answer : List Keyed) (kept v key r : ℕ) (seen : List ℕ) (answer' : List Keyed) (same : key ≡ key_at far v)
    (e : (r ≡ length (kept_pairs kept (record { key = key; id = v }) answer)) × (answer' ≡ put_front (kept_pairs kept (record { key = key; id = v }) answer) answer))
    (ln : length answer' ≡ length answer) (a : AnswerHeld far answer₀ answer kept seen) where
  abbrev m : ℕ
  m = length answer

  abbrev best : List ℕ → List ℕ
  best scored = first_by (key_at far) m (reverse scored)

  best_length : (scored : List ℕ) → length (map (pair_of far) (best scored)) ≡ min m (length scored)
  best_length scored =
      length-map (best scored) (pair_of far) ∙ length_first (key_at far) m (reverse scored) ∙ ap (min m) (length-reverse scored)

  before : length (map (pair_of far) (best seen)) ≡ kept
  before = best_length seen ∙ sym a.kept_is

  -- the pairs that are kept are the new answer's
  kept_best : kept_pairs kept (record { key = key; id = v }) answer ≡ map (pair_of far) (best (v ∷ seen))
  unfolding kept_pairs
  kept_best =
      ap (λ (l : List Keyed). take m (insert_after key_in (record { key = key; id = v }) l))
      (ap (take kept) a.pairs_are ∙ take_at (map (pair_of far) (best seen)) (drop kept answer₀) kept before ∙ sym (first_map key_in (pair_of far) m (reverse seen)))
      ∙ keep_more key_in m (map (pair_of far) (reverse seen)) (record { key = key; id = v })
      ∙ ap (λ (k : ℕ). first_by key_in m (map (pair_of far) (reverse seen) ++ (record { key = k; id = v } ∷ []))) same
      ∙ ap (first_by key_in m) (sym (map-append (pair_of far) (reverse seen) (v ∷ [])) ∙ ap (map (pair_of far)) (sym (reverse-cons v seen)))
      ∙ first_map key_in (pair_of far) m (reverse (v ∷ seen))

  r_is : r ≡ min m (suc (length seen))
  r_is = e.0 ∙ ap length kept_best ∙ best_length (v ∷ seen)

  rest : drop r answer ≡ drop r answer₀
  rest =
      let at : r ≡ length (map (pair_of far) (best seen)) + (r - kept) = omega (arith, r_is, before, a.kept_is) in
      let back : kept + (r - kept) ≡ r = omega (arith, r_is, a.kept_is) in
      ap₂ drop at a.pairs_are
      ∙ drop-append-add (map (pair_of far) (best seen)) (drop kept answer₀) (r - kept)
      ∙ drop-drop (r - kept) kept answer₀
      ∙ ap (λ (k : ℕ). drop k answer₀) back

  pub answer_more : AnswerHeld far answer₀ answer' r (v ∷ seen)
  answer_more = record {
    pairs_are =
        e.1 ∙ ap₂ (λ (x : List Keyed) (y : List Keyed). x ++ y) kept_best (ap (λ (k : ℕ). drop k answer) (sym e.0) ∙ rest)
        ∙ ap (λ (k : ℕ). map (pair_of far) (first_by (key_at far) k (reverse (v ∷ seen))) ++ drop r answer₀) (sym ln);
    kept_is = r_is ∙ ap (λ (k : ℕ). min k (suc (length seen))) (sym ln);
    long = ln ∙ a.long;
  }
