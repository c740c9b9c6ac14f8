-- The hash cells: each hash has one cell at most, cells stand in rising order, they hold candidates and no more of them than came. Assumes
-- nothing.
use mathlib.Core.Path.{◌≡◌}
use mathlib.Core.Logic.{◌≢◌, ◌⊎◌, inl, inr}
use mathlib.Core.List.{List, [], ◌∷◌, map}
use mathlib.Core.List.Memᴰ.{cases_cons as in-cons}
use mathlib.Core.List.Memᴰ.{head as here}
use mathlib.Core.List.Memᴰ.{not-nil as in-nil}
use mathlib.Core.List.Memᴰ.{tail as there}
use mathlib.Core.List.{Memᴰ as In}
use Prim.Native.Nat.{ℕ, suc, ◌+◌, ◌≤◌, ◌<◌}
use native.Mathlib.Omega.{arith}
use lib.Dec.{ltb, eqb, ltb→lt, eqb→eq}
use lib.ListN.{length}
use lib.Ieee.{Float, lt}
use mir.Facts.{ltb_no, eqb_no}
use Rattle.basics.specs.Choice.{pick_ind}
use Rattle.def_graph.specs.Leaf.{Cell, nodes_in, put_cell, cells_from}

abbrev pub hashes_in : List Cell → List ℕ
hashes_in cells = map (λ (cell : Cell). cell.hash) cells

-- each number is below all that come after it
abbrev pub Rising : List ℕ → Type 0
Rising [] = Unit
Rising (x ∷ l) = ((y : ℕ) → In y l → x < y) × Rising l

-- ---- one node comes

module _ (far : ℕ → Float) (new : Cell) where
  -- whatever the cells have then, they had, or it came
  came : (part : Cell → ℕ) (x : ℕ) (cells : List Cell)
      → In x (map part (put_cell far new cells)) → (x ≡ part new) ⊎ In x (map part cells)
  unfolding put_cell
  came part x [] = λ m. in-cons m
  came part x (old ∷ cells) =
      let rec : In x (map part (put_cell far new cells)) → (x ≡ part new) ⊎ In x (map part cells) = came part x cells in
      pick_ind Came (ltb new.hash old.hash) (λ _ m. in-cons m)
      (λ _. pick_ind Came (eqb new.hash old.hash)
      (λ _ m. pick_ind (λ (c : Cell). (x ≡ part c) ⊎ In x (map part cells) → (x ≡ part new) ⊎ In x (map part (old ∷ cells)))
      (lt (far new.node) (far old.node)) (λ _. first) (λ _. elim [ inl e ↦ inr (here e) | inr i ↦ inr (there i) ]) (in-cons m))
      (λ _ m. elim (in-cons {b = part old} {l = map part (put_cell far new cells)} m) [ inl e ↦ inr (here e) | inr i ↦ first (rec i) ]))
    where
      Came : List Cell → Type 0
      Came l = In x (map part l) → (x ≡ part new) ⊎ In x (map part (old ∷ cells))

      first : (x ≡ part new) ⊎ In x (map part cells) → (x ≡ part new) ⊎ In x (map part (old ∷ cells))
      first (inl e) = inl e
      first (inr i) = inr (there i)

  put_rising : (cells : List Cell) → Rising (hashes_in cells) → Rising (hashes_in (put_cell far new cells))
  unfolding put_cell
  put_rising [] r = ((λ y m. absurd (in-nil m)), tt)
  put_rising (old ∷ cells) r =
      let rec : Rising (hashes_in (put_cell far new cells)) = put_rising cells r.1 in
      pick_ind Up (ltb new.hash old.hash) (λ t. ((λ y m. below (ltb→lt new.hash old.hash t) y (in-cons m)), r))
      (λ t. pick_ind Up (eqb new.hash old.hash)
      (λ e. pick_ind (λ (c : Cell). Rising (c.hash ∷ hashes_in cells)) (lt (far new.node) (far old.node))
      (λ _. ((λ y i. omega (arith, eqb→eq new.hash old.hash e, r.0 y i)), r.1)) (λ _. r))
      (λ e. ((λ y m. above (ltb_no t) (eqb_no e) y (came (λ (c : Cell). c.hash) y cells m)), rec)))
    where
      Up : List Cell → Type 0
      Up l = Rising (hashes_in l)

      below : new.hash < old.hash → (y : ℕ) → (y ≡ old.hash) ⊎ In y (hashes_in cells) → new.hash < y
      below h y (inl e) = omega arith
      below h y (inr i) = let k = r.0 y i in omega arith

      above : old.hash ≤ new.hash → new.hash ≢ old.hash → (y : ℕ) → (y ≡ new.hash) ⊎ In y (hashes_in cells) → old.hash < y
      above h f y (inl e) = omega arith
      above h f y (inr i) = r.0 y i

  put_few : (cells : List Cell) → length (put_cell far new cells) ≤ suc (length cells)
  unfolding put_cell
  put_few [] = omega arith
  put_few (old ∷ cells) =
      let rec : length (put_cell far new cells) ≤ suc (length cells) = put_few cells in
      pick_ind Few (ltb new.hash old.hash) (λ _. omega arith)
      (λ _. pick_ind Few (eqb new.hash old.hash) (λ _. omega arith) (λ _. omega arith))
    where
      Few : List Cell → Type 0
      Few l = length l ≤ suc (suc (length cells))

-- ---- all candidates come

module _ (far : ℕ → Float) (hash : ℕ → ℕ) where
  pub cells_rising : (cells : List Cell) (candidates : List ℕ) → Rising (hashes_in cells) → Rising (hashes_in (cells_from far hash cells candidates))
  unfolding cells_from
  cells_rising cells [] r = r
  cells_rising cells (c ∷ candidates) r =
      let new : Cell = record { hash = hash c; node = c } in
      cells_rising (put_cell far new cells) candidates (put_rising far new cells r)

  pub cells_few : (cells : List Cell) (candidates : List ℕ) → length (cells_from far hash cells candidates) ≤ length cells + length candidates
  unfolding cells_from
  cells_few cells [] = omega arith
  cells_few cells (c ∷ candidates) =
      let new : Cell = record { hash = hash c; node = c } in
      let r = cells_few (put_cell far new cells) candidates in
      omega (arith, put_few far new cells)

  pub cells_in_lem : (x : ℕ) (cells : List Cell) (candidates : List ℕ)
      → In x (nodes_in (cells_from far hash cells candidates)) → In x (nodes_in cells) ⊎ In x candidates
  unfolding cells_from
  cells_in_lem x cells [] m = inl m
  cells_in_lem x cells (c ∷ candidates) m =
      let new : Cell = record { hash = hash c; node = c } in
      elim (cells_in_lem x (put_cell far new cells) candidates m) [
        | inl i ↦ elim (came far new (λ (d : Cell). d.node) x cells i) [ inl e ↦ inr (here e) | inr j ↦ inl j ]
        | inr i ↦ inr (there i)
      ]
