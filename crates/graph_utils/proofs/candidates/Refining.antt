-- Candidates on words are those of the definition: a node is reached where its mark says so, and the distance that is kept is the nearest node's.
-- Assumes nothing.
use mathlib.Core.Path.{◌≡◌, refl, ap, ap₂, ◌∙◌}
use mathlib.Core.Logic.{inl, inr}
use mathlib.Core.Bool.{Bool, true, false, not, ◌&&◌, ◌||◌}
use mathlib.Core.List.{List, [], ◌∷◌, ◌++◌}
use mathlib.Core.List.Memᴰ.{append_cases as in-cases}
use mathlib.Core.List.Memᴰ.{cases_cons as in-cons}
use mathlib.Core.List.Memᴰ.{head as here}
use mathlib.Core.List.Memᴰ.{not-nil as in-nil}
use mathlib.Core.List.Memᴰ.{tail as there}
use mathlib.Core.List.{Memᴰ as In}
use Prim.Native.Nat.{ℕ, ◌<◌}
use native.Mathlib.Omega.{arith}
use lib.Ieee.{Float, lt}
use borrow.Author.Tests.{lt-leb}
use Rattle.basics.specs.Choice.{pick}
use Rattle.basics.specs.Nodes.{has, Below}
use Rattle.distance.specs.Vectors.{vector_of, between}
use Rattle.def_walk.specs.Repair.{lists_of, with_lists, candidates_for, nearest_reached}
use Rattle.graph_utils.proofs.marking.Refining.{Marked}
use Rattle.distance.specs.declared.vectors.Nearest.{Nearest}
use Rattle.graph_utils.specs.Inside.Candidates.{Seeking, nearest, distance_from, considered, considered_all, start_of}

-- ---- the nearest

module _ (words : List ℕ) (n : ℕ) (reached : List ℕ) (marked : Marked n reached words) (vs : List (List Float)) (i : ℕ) where
  abbrev k : Seeking
  k = record { marks = words; n = n; vs = vs; query = vector_of vs i }

  -- a node with its distance
  abbrev at : ℕ → Nearest
  at u = nearest u (distance_from k u)

  choose : (h l : Bool) (c u : ℕ) → pick (false || not h) (at u) (pick l (at c) (at u)) ≡ at (pick (h && l) c u)
  unfolding pick
  choose true true c u = refl
  choose true false c u = refl
  choose false l c u = refl

  one_refines : (c u : ℕ) → c < n → considered k c (at u) ≡ at (pick (has c reached && lt (between vs i c) (between vs i u)) c u)
  unfolding considered between
  one_refines c u h =
      ap₂ (λ (x : Bool) (y : Bool). pick (x || y) (at u) (pick (lt (distance_from k c) (distance_from k u)) (at c) (at u))) (lt-leb n c h) (marked.told c h)
      ∙ choose (has c reached) (lt (distance_from k c) (distance_from k u)) c u

  all_refines : (cs : List ℕ) (u : ℕ) → Below n cs → considered_all k cs (at u) ≡ at (nearest_reached vs reached i u cs)
  unfolding considered_all nearest_reached
  all_refines [] u b = refl
  all_refines (c ∷ cs) u b =
      ap (considered_all k cs) (one_refines c u (b c (here refl)))
      ∙ all_refines cs (pick (has c reached && lt (between vs i c) (between vs i u)) c u) (λ x m. b x (there m))

-- ---- the candidates

module _ (list list' : ℕ → List ℕ) (n : ℕ) (alike : (u : ℕ) → u < n → list' u ≡ list u) (within : (u v : ℕ) → In v (list u) → v < n) where
  same_lists : (us : List ℕ) → Below n us → lists_of list' us ≡ lists_of list us
  unfolding lists_of
  same_lists [] b = refl
  same_lists (u ∷ us) b = ap₂ (λ (x : List ℕ) (y : List ℕ). x ++ y) (alike u (b u (here refl))) (same_lists us (λ x m. b x (there m)))

  same_with : (us : List ℕ) → Below n us → with_lists list' us ≡ with_lists list us
  unfolding with_lists
  same_with [] b = refl
  same_with (u ∷ us) b = ap₂ (λ (x : List ℕ) (y : List ℕ). u ∷ (x ++ y)) (alike u (b u (here refl))) (same_with us (λ x m. b x (there m)))

  either : {a b : List ℕ} → Below n a → Below n b → Below n (a ++ b)
  either {a} {b} p q x m = elim (in-cases a m) [ inl k ↦ p x k | inr k ↦ q x k ]

  lists_below : (us : List ℕ) → Below n (lists_of list us)
  unfolding lists_of
  lists_below [] x m = absurd (in-nil m)
  lists_below (u ∷ us) x m = either (within u) (lists_below us) x m

  with_below : (us : List ℕ) → Below n us → Below n (with_lists list us)
  unfolding with_lists
  with_below [] b x m = absurd (in-nil m)
  with_below (u ∷ us) b x m = elim (in-cons m) [ inl e ↦ omega (arith, b u (here refl)) | inr k ↦ either (within u) (with_below us (λ y k. b y (there k))) x k ]

  -- the node that a bridge starts from, in words and in the definition
  pub start_refines : (words reached : List ℕ) → Marked n reached words → (vs : List (List Float)) (entry i : ℕ) → entry < n → i < n
      → start_of words n vs list' entry i ≡ nearest_reached vs reached i entry (candidates_for list entry i)
  unfolding start_of candidates_for
  start_refines words reached m vs entry i e h =
      let k : Seeking = record { marks = words; n = n; vs = vs; query = vector_of vs i } in
      let first : Nearest = nearest entry (distance_from k entry) in
      let a : lists_of list' (list' i) ≡ lists_of list (list i) = ap (lists_of list') (alike i h) ∙ same_lists (list i) (within i) in
      let b : with_lists list' (list' entry) ≡ with_lists list (list entry) = ap (with_lists list') (alike entry e) ∙ same_with (list entry) (within entry) in
      ap₂ (λ (x : List ℕ) (y : List ℕ). (considered_all k (x ++ y) first).node.0) a b
      ∙ ap (λ (z : Nearest). z.node.0) (all_refines words n reached m vs i (lists_of list (list i) ++ with_lists list (list entry)) entry
      (either (lists_below (list i)) (with_below (list entry) (within entry))))
