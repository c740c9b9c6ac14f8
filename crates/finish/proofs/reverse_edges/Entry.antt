-- One row in words: whether it holds a node, and the words with the node at its end. Assumes nothing.
use mathlib.Core.Path.{◌≡◌, refl, sym, ap, ap₂, ◌∙◌}
use mathlib.Core.Bool.{Bool, true, false, not, ◌&&◌}
use mathlib.Core.List.{List, [], ◌∷◌, ◌++◌, append_assoc}
use Prim.Native.Nat.{ℕ, suc, ◌+◌, ◌-◌, ◌≤◌, ◌<◌}
use native.Mathlib.Omega.{arith}
use lib.Dec.{T, ltb, ltb→lt}
use lib.ListN.{length, get_or, take, drop, set, replicate, length-append}
use lib.Seq.{take_at, set_at}
use borrow.Author.Tests.{lt-ltb, le-ltb}
use Rattle.basics.specs.Choice.{pick, pick_true, pick_false}
use Rattle.basics.specs.Nodes.{has}
use Rattle.basics.proofs.Members.{both_right}
use Rattle.store.specs.View.{row_block}
use Rattle.lists.proofs.Blocks.{block_length}
use Rattle.def_graph.specs.Refine.{takes}
use Rattle.finish.specs.Inside.Reversed.{EntryAdded}

-- ---- what a row takes

module _ (D i : ℕ) (row : List ℕ) where
  takes-full : D ≤ length row → takes D i row ≡ false
  unfolding takes
  takes-full h = ap (λ (b : Bool). not (has i row) && b) (le-ltb (length row) D h) ∙ no (not (has i row))
    where
      no : (b : Bool) → (b && false) ≡ false
      no true = refl
      no false = refl

  pub takes_had : has i row ≡ true → takes D i row ≡ false
  unfolding takes
  takes_had e = ap (λ (b : Bool). not b && ltb (length row) D) e

  pub takes_room : T (takes D i row) → length row < D
  unfolding takes
  takes_room t = ltb→lt (length row) D (both_right (not (has i row)) (ltb (length row) D) t)

  takes_new : has i row ≡ false → length row < D → takes D i row ≡ true
  unfolding takes
  takes_new e h = ap₂ (λ (a : Bool) (b : Bool). not a && b) e (lt-ltb (length row) D h)

-- ---- the words

-- a node behind the last entry, and the count one more
block_more : (D node : ℕ) (row : List ℕ) → length row < D
    → set (set (row_block D row) (1 + length row) node) 0 (1 + length row) ≡ row_block D (row ++ (node ∷ []))
block_more D node row h =
    let k : ℕ = D - suc (length row) in
    let room : D - length row ≡ suc k = omega arith in
    let long : length (row ++ (node ∷ [])) ≡ 1 + length row = omega (arith, length-append row (node ∷ [])) in
    let left : D - length (row ++ (node ∷ [])) ≡ k = omega arith in
    let one : 1 + length row ≡ suc (length row) = omega arith in
    ap (λ (m : ℕ). set (set (row_block D row) m node) 0 (1 + length row)) one
    ∙ ap (λ (m : ℕ). (1 + length row) ∷ set (row ++ replicate m 0) (length row) node) room
    ∙ ap (λ (l : List ℕ). (1 + length row) ∷ l) (set_at row 0 (replicate k 0) node (length row) refl)
    ∙ ap₂ (λ (m : ℕ) (l : List ℕ). m ∷ l) (sym long) (sym (append_assoc row (node ∷ []) (replicate k 0)))
    ∙ ap (λ (m : ℕ). length (row ++ (node ∷ [])) ∷ ((row ++ (node ∷ [])) ++ replicate m 0)) (sym left)

module _ (node : ℕ) (ws : List ℕ) where
  counted : (D : ℕ) (row : List ℕ) → ws ≡ row_block D row → get_or ws 0 0 ≡ length row
  counted D row e = ap (λ (l : List ℕ). get_or l 0 0) e

  entries : (D : ℕ) (row : List ℕ) → ws ≡ row_block D row → take (get_or ws 0 0) (drop 1 ws) ≡ row
  entries D row e = ap₂ (λ (k : ℕ) (l : List ℕ). take k (drop 1 l)) (counted D row e) e ∙ take_at row (replicate (D - length row) 0) (length row) refl

  stays : (D : ℕ) (row : List ℕ) → takes D node row ≡ false → ws ≡ row_block D row → ws ≡ row_block D (pick (takes D node row) (row ++ (node ∷ [])) row)
  stays D row t e = e ∙ ap (row_block D) (sym (pick_false (row ++ (node ∷ [])) row t))

  pub entry_full : length ws ≤ 1 + get_or ws 0 0 → EntryAdded node ws ws
  entry_full h D row s e = stays D row (takes-full D node row (omega (arith, ap length e, block_length D row s, counted D row e))) e

  pub entry_had : has node (take (get_or ws 0 0) (drop 1 ws)) ≡ true → EntryAdded node ws ws
  entry_had t D row s e = stays D row (takes_had D node row (ap (has node) (sym (entries D row e)) ∙ t)) e

  pub entry_new : 1 + get_or ws 0 0 < length ws → has node (take (get_or ws 0 0) (drop 1 ws)) ≡ false
      → EntryAdded node ws (set (set ws (1 + get_or ws 0 0) node) 0 (1 + get_or ws 0 0))
  entry_new h t D row s e =
      let room : length row < D = omega (arith, ap length e, block_length D row s, counted D row e) in
      ap₂ (λ (l : List ℕ) (k : ℕ). set (set l (1 + k) node) 0 (1 + k)) e (counted D row e)
      ∙ block_more D node row room
      ∙ ap (row_block D) (sym (pick_true (row ++ (node ∷ [])) row (takes_new D node row (ap (has node) (sym (entries D row e)) ∙ t) room)))
