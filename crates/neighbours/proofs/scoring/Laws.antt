-- Distances at their nodes' places: what stands at a node afterwards (`scored_known`), and a list of nodes scored part by part.
-- Assumes nothing.
use mathlib.Core.Path.{◌≡◌, refl, sym, ap, ◌∙◌, subst}
use mathlib.Core.Logic.{◌⊎◌, inl, inr}
use mathlib.Core.List.Memᴰ.{cases_cons as in-cons}
use mathlib.Core.List.Memᴰ.{not-nil as in-nil}
use mathlib.Core.List.{List, [], ◌∷◌, ◌++◌, Memᴰ as In}
use Prim.Native.Nat.{ℕ, suc, ◌+◌, ◌-◌, ◌≤◌, ◌<◌, min}
use native.Mathlib.Omega.{arith}
use native.Mathlib.Numerals.{add-one}
use native.Mathlib.Decide.{ℕ_discrete, dec_lt}
use lib.ListN.{length, get_or, set, take, drop, length-set, length-drop}
use lib.Seq.{drop-cons, take_all, take-suc, get_or-drop, get_or-set_same, get_or-set_other, set_out, set-get_or}
use lib.Ieee.{Float}
use Rattle.basics.proofs.Members.{in_get_d}
use Rattle.neighbours.specs.Inside.Scoring.{scored_at, node_at, scored_eight, placed_eight}

module _ (far : ℕ → Float) where
  pub scored_append : (xs ys : List ℕ) (floats : List Float) → scored_at far (xs ++ ys) floats ≡ scored_at far ys (scored_at far xs floats)
  unfolding scored_at
  scored_append [] ys floats = refl
  scored_append (x ∷ xs) ys floats = scored_append xs ys (set floats x (far x))

  pub scored_length : (xs : List ℕ) (floats : List Float) → length (scored_at far xs floats) ≡ length floats
  unfolding scored_at
  scored_length [] floats = refl
  scored_length (x ∷ xs) floats = scored_length xs (set floats x (far x)) ∙ length-set floats x (far x)

  -- a node that has its distance keeps it
  pub scored_keeps : (d : Float) (v : ℕ) (xs : List ℕ) (floats : List Float) → v < length floats → get_or floats v d ≡ far v → get_or (scored_at far xs floats) v d ≡ far v
  unfolding scored_at
  scored_keeps d v [] floats h e = e
  scored_keeps d v (x ∷ xs) floats h e =
      scored_keeps d v xs (set floats x (far x)) (omega (arith, length-set floats x (far x)))
      (elim (ℕ_discrete v x) [
        | yes q ↦ subst (λ (y : ℕ). get_or (set floats x (far x)) y d ≡ far y) (sym q) (get_or-set_same floats x (far x) d (omega arith))
        | no q ↦ get_or-set_other floats x v (far x) d q ∙ e
      ])

  -- each of the nodes has its distance
  pub scored_known : (d : Float) (v : ℕ) (xs : List ℕ) (floats : List Float) → In v xs → v < length floats → get_or (scored_at far xs floats) v d ≡ far v
  unfolding scored_at
  scored_known d v [] floats m h = absurd (in-nil m)
  scored_known d v (x ∷ xs) floats m h = go (scored_known d v xs (set floats x (far x))) (in-cons m)
    where
      long : v < length (set floats x (far x))
      long = omega (arith, length-set floats x (far x))

      go : (In v xs → v < length (set floats x (far x)) → get_or (scored_at far xs (set floats x (far x))) v d ≡ far v) → (v ≡ x) ⊎ In v xs
          → get_or (scored_at far xs (set floats x (far x))) v d ≡ far v
      go rec (inl e) = scored_keeps d v xs (set floats x (far x)) long (subst (λ (y : ℕ). get_or (set floats x (far x)) y d ≡ far y) (sym e) (get_or-set_same floats x (far x) d (omega arith)))
      go rec (inr i) = rec i long

  pub scored_none : (xs : List ℕ) (floats : List Float) → length xs ≡ 0 → scored_at far xs floats ≡ floats
  unfolding scored_at
  scored_none [] floats e = refl
  scored_none (x ∷ xs) floats e = absurd (omega arith)

  -- ---- from one place of a list on

  pub scored_step : (nodes : List ℕ) (i : ℕ) (floats : List Float) → i < length nodes
      → scored_at far (drop (i + 1) nodes) (set floats (get_or nodes i 0) (far (get_or nodes i 0))) ≡ scored_at far (drop i nodes) floats
  unfolding scored_at
  scored_step nodes i floats h = rw (add-one i, drop-cons nodes i 0)

  pub scored_end : (nodes : List ℕ) (i : ℕ) (floats : List Float) → length nodes ≤ i → scored_at far (drop i nodes) floats ≡ floats
  unfolding scored_at
  scored_end nodes i floats h = rw (lib.ListN.drop_of_length-le nodes h)

  -- a node among those that are scored, scored again
  scored_again : (v : ℕ) (xs : List ℕ) (floats : List Float) → In v xs → set (scored_at far xs floats) v (far v) ≡ scored_at far xs floats
  scored_again v xs floats m = elim (dec_lt v (length floats)) [
    | no past ↦ set_out (scored_at far xs floats) v (far v) (omega (arith, scored_length xs floats))
    | yes here ↦ ap (set (scored_at far xs floats) v) (sym (scored_known (far v) v xs floats m here)) ∙ set-get_or (scored_at far xs floats) v (far v)
  ]

  -- eight nodes are one after the other; past the end the last one is scored again
  module _ (nodes : List ℕ) (i : ℕ) (floats : List Float) (h : i < length nodes) where
    -- the first k of them scored
    abbrev pub first : ℕ → List Float
    first k = scored_at far (take k (drop i nodes)) floats

    -- one more place
    abbrev put : ℕ → List Float → List Float
    put k l = set l (node_at nodes i k) (far (node_at nodes i k))

    one_more : (k : ℕ) → put k (first k) ≡ first (suc k)
    unfolding scored_at
    one_more k = elim (dec_lt (i + k) (length nodes)) [
      | no past ↦
          let last : min (i + k) (length nodes - 1) ≡ i + (length nodes - 1 - i) = omega arith in
          let all : length (drop i nodes) ≤ k = omega (arith, length-drop i nodes) in
          let here : node_at nodes i k ≡ get_or (drop i nodes) (length nodes - 1 - i) 0 =
          ap (λ (j : ℕ). get_or nodes j 0) last ∙ sym (get_or-drop i nodes (length nodes - 1 - i) 0) in
          let among : In (node_at nodes i k) (take k (drop i nodes)) =
          subst (In (node_at nodes i k)) (sym (take_all k (drop i nodes) all))
          (subst (λ (v : ℕ). In v (drop i nodes)) (sym here) (in_get_d (drop i nodes) (length nodes - 1 - i) 0 (omega (arith, length-drop i nodes)))) in
          scored_again (node_at nodes i k) (take k (drop i nodes)) floats among
          ∙ ap (λ (l : List ℕ). scored_at far l floats) (take_all k (drop i nodes) all ∙ sym (take_all (suc k) (drop i nodes) (omega arith)))
      | yes within ↦
          let place : min (i + k) (length nodes - 1) ≡ i + k = omega arith in
          let here : node_at nodes i k ≡ get_or (drop i nodes) k 0 =
          ap (λ (j : ℕ). get_or nodes j 0) place ∙ sym (get_or-drop i nodes k 0) in
          ap (λ (v : ℕ). set (first k) v (far v)) here
          ∙ sym (ap (λ (l : List ℕ). scored_at far l floats) (take-suc (drop i nodes) k 0 (omega (arith, length-drop i nodes)))
          ∙ scored_append (take k (drop i nodes)) (get_or (drop i nodes) k 0 ∷ []) floats)
    ]

    pub eight_are : placed_eight nodes i (scored_eight far nodes i) floats ≡ first 8
    unfolding scored_at
    eight_are =
        let e2 = ap (put 1) (one_more 0) ∙ one_more 1 in
        let e3 = ap (put 2) e2 ∙ one_more 2 in
        let e4 = ap (put 3) e3 ∙ one_more 3 in
        let e5 = ap (put 4) e4 ∙ one_more 4 in
        let e6 = ap (put 5) e5 ∙ one_more 5 in
        let e7 = ap (put 6) e6 ∙ one_more 6 in
        ap (put 7) e7 ∙ one_more 7
