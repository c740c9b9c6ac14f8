-- Rows that come off the front of a slice one after the other, and the nearest of those passed. Assumes nothing.
use mathlib.Core.Path.{◌≡◌, refl, sym, ap, ap₂, ◌∙◌}
use mathlib.Core.Bool.{Bool, true, false}
use mathlib.Core.List.{List, [], ◌∷◌, ◌++◌}
use Prim.Native.Nat.{ℕ, suc, ◌+◌, ◌*◌, ◌/◌, ◌≤◌, ◌<◌, min}
use native.Mathlib.Nat.{mul-le-mul_right, le_trans, div-mul-le_self, mul-div_cancel, div-eq_of_lt, add-div_left}
use native.Mathlib.Numerals.{add-one}
use native.Mathlib.Omega.{arith}
use lib.ListN.{length, get_or, take, drop, length-append, length-drop}
use lib.Seq.{length-take-le, take_at, drop_at, drop-cons}
use lib.Ieee.{Float, binary32, lt}
use Rattle.basics.specs.Choice.{pick}
use Rattle.basics.specs.Lists.{pieces}
use Rattle.basics.proofs.Pieces.{length_pieces, pieces_take}
use Rattle.distance.specs.Distance.{distance_of}
use Rattle.distance.specs.Vectors.{vectors_in}
use Rattle.distance.specs.declared.vectors.Nearest.{Nearest}
use Rattle.def_graph.specs.Centroid.{rows_in}
use Rattle.def_graph.specs.Medoid.{nearest_to, Nearest as Held}

-- ---- rows

-- as many rows as fit
pub fit : (k d size : ℕ) → k ≤ size / d → k * d ≤ size
fit k d size h = le_trans (mul-le-mul_right d h) (div-mul-le_self size d)

module _ (d : ℕ) (some : 0 < d) where
  -- a slice that holds n rows and no more
  pub many_rows : (n : ℕ) (xs : List Float) → length xs ≡ n * d → length xs / d ≡ n
  many_rows n xs e = ap (λ (k : ℕ). k / d) e ∙ mul-div_cancel n some

  -- the rows at the front of a slice
  pub front_rows : (n : ℕ) (xs : List Float) → n ≤ length xs / d → pieces d n (take (n * d) xs) ≡ pieces d n xs
  front_rows n xs h = pieces_take d n xs (fit n d (length xs) h)

  pub front_many : (n : ℕ) (xs : List Float) → n ≤ length xs / d → length (take (n * d) xs) ≡ n * d
  front_many n xs h = length-take-le (n * d) xs (fit n d (length xs) h)

  -- no more rows than are counted
  pub first_few : (n : ℕ) (rows xs : List Float) → vectors_in d rows ≡ rows_in d n xs → length rows / d ≤ n
  first_few n rows xs e = omega (arith, ap length e, length_pieces d (length rows / d) rows, length_pieces d (min n (length xs / d)) xs)

  -- the row that comes off, and those that are left
  pub rows_more : (rest x after : List Float) → rest ≡ x ++ after → length x ≡ d → vectors_in d rest ≡ x ∷ vectors_in d after
  unfolding pieces
  rows_more rest x after e long =
      let many : length rest / d ≡ suc (length after / d) =
      ap (λ (k : ℕ). k / d) (ap length e ∙ length-append x after ∙ ap (λ (k : ℕ). k + length after) long) ∙ add-div_left (length after) some ∙ add-one (length after / d) in
      ap₂ (pieces d) many e ∙ ap₂ (λ (y l : List Float). y ∷ pieces d (length after / d) l) (take_at x after d long) (drop_at x after d long)

  -- none is left
  pub rows_none : (rest : List Float) → length rest < d → vectors_in d rest ≡ []
  unfolding pieces
  rows_none rest h = ap (λ (k : ℕ). pieces d k rest) (div-eq_of_lt h)

-- ---- the nearest so far

-- as the code holds it
abbrev pub held : Held → Nearest
held h = record { node = record { 0 = h.node }; distance = h.distance }

picked : (b : Bool) (x y : Held) → pick b (held x) (held y) ≡ held (pick b x y)
unfolding pick
picked true x y = refl
picked false x y = refl

-- of i rows of vs, where `left` follow them
pub record Passed (c : List Float) (vs : List (List Float)) (i : ℕ) (left : List (List Float)) (best : Nearest) : Type 0 where
  pub left_is : drop i vs ≡ left
  pub within : i ≤ length vs
  pub best_is : best ≡ held (nearest_to c vs i)

pub passed_none : (c : List Float) (vs : List (List Float)) (i : ℕ) (left : List (List Float)) (best : Nearest) → i ≡ 0 → left ≡ vs → best ≡ held (nearest_to c vs 0)
    → Passed c vs i left best
passed_none c vs i left best e l b = record {
  left_is = ap (λ (k : ℕ). drop k vs) e ∙ sym l;
  within = omega arith;
  best_is = b ∙ ap (λ (k : ℕ). held (nearest_to c vs k)) (sym e);
}

module _ (c : List Float) (vs : List (List Float)) (i : ℕ) (left : List (List Float)) (best : Nearest) (p : Passed c vs i left best) where
  -- one row more, which is row j, and then k are passed
  pub passed_more : (j k : ℕ) (x : List Float) (after : List (List Float)) (d : Float) (next : Nearest) → j ≡ i → k ≡ i + 1 → left ≡ x ∷ after
      → d ≡ distance_of binary32 c x → next ≡ pick (lt d best.distance) (record { node = record { 0 = j }; distance = d }) best → Passed c vs k after next
  unfolding nearest_to
  passed_more j k x after d next this more e f n =
      let here : i < length vs = omega (arith, ap length (p.left_is ∙ e), length-drop i vs) in
      let cut : get_or vs i [] ∷ drop (suc i) vs ≡ x ∷ after = sym (drop-cons vs i [] here) ∙ p.left_is ∙ e in
      let row : x ≡ get_or vs i [] = ap (λ (l : List (List Float)). get_or l 0 []) (sym cut) in
      let far : Float = distance_of binary32 c (get_or vs i []) in
      let before : Held = nearest_to c vs i in
      record {
        left_is = ap (λ (m : ℕ). drop m vs) (more ∙ add-one i) ∙ ap (drop 1) cut;
        within = omega arith;
        best_is =
            n
            ∙ ap (λ (m : ℕ). pick (lt d best.distance) (record { node = record { 0 = m }; distance = d }) best) this
            ∙ ap₂ (λ (y : Float) (b : Nearest). pick (lt y b.distance) (record { node = record { 0 = i }; distance = y }) b) (f ∙ ap (distance_of binary32 c) row) p.best_is
            ∙ picked (lt far before.distance) (record { node = i; distance = far }) before
            ∙ ap (λ (m : ℕ). held (nearest_to c vs m)) (sym (more ∙ add-one i));
      }

  -- no row is left
  pub passed_all : left ≡ [] → best ≡ held (nearest_to c vs (length vs))
  passed_all e =
      let end : i ≡ length vs = omega (arith, ap length (p.left_is ∙ e), length-drop i vs, p.within) in
      p.best_is ∙ ap (λ (k : ℕ). held (nearest_to c vs k)) end
