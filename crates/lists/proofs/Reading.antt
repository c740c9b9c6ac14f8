-- What is read from what stands of a block: a word of it; a row, of its count and as many of the entries behind it. Assumes nothing.
use mathlib.Core.Path.{◌≡◌, refl, sym, ap, ◌∙◌}
use mathlib.Core.List.{List, []}
use Prim.Native.Nat.{ℕ, ◌+◌, ◌-◌, ◌*◌, ◌/◌, ◌≤◌, ◌<◌, min}
use native.Mathlib.Omega.{arith}
use lib.ListN.{length, get_or, take, drop, length-take, length-drop, get_or-map}
use lib.Seq.{take_all, get_or-take, get_or-drop}
use Rattle.basics.specs.Lists.{pieces}
use Rattle.basics.proofs.Whole.{whole_piece, no_piece}
use Rattle.store.specs.Layout.{word, row_size}
use Rattle.store.specs.View.{entries_in}
use Rattle.lists.specs.Inside.Words.{block_at, row_lists}

pub block_word : (size i k : ℕ) (ws : List ℕ) → k < size → word (block_at size i ws) k ≡ word ws (i * size + k)
block_word size i k ws h = get_or-take size (drop (i * size) ws) k 0 h ∙ get_or-drop (i * size) ws k 0

module _ (D i : ℕ) (ws block : List ℕ) (is : block ≡ block_at (row_size D) i ws) where
  row_is : get_or (row_lists D ws) i [] ≡ entries_in (get_or (pieces (row_size D) (length ws / row_size D) ws) i [])
  row_is = get_or-map entries_in (pieces (row_size D) (length ws / row_size D) ws) i []

  long : length block ≡ min (row_size D) (length ws - i * row_size D)
  long = ap length is ∙ length-take (row_size D) (drop (i * row_size D) ws) ∙ ap (min (row_size D)) (length-drop (i * row_size D) ws)

  -- a node whose block does not stand whole has no entries
  pub no_row : length block < row_size D → [] ≡ get_or (row_lists D ws) i []
  no_row h = sym (row_is ∙ ap entries_in (no_piece (row_size D) i ws (omega (arith, long))))

  -- as many as its count says
  pub counted_row : (count : ℕ) → row_size D ≤ length block → count ≡ get_or block 0 0 → take count (drop 1 block) ≡ get_or (row_lists D ws) i []
  counted_row count h e =
      ap (λ (k : ℕ). take k (drop 1 block)) e ∙ ap entries_in is
      ∙ sym (row_is ∙ ap entries_in (whole_piece (row_size D) i ws (omega (arith, long))))

  -- all of them, where the count says more
  pub full_row : row_size D ≤ length block → row_size D ≤ get_or block 0 0 → take (length block - 1) (drop 1 block) ≡ get_or (row_lists D ws) i []
  full_row h c =
      let room = length-drop 1 block in
      take_all (length block - 1) (drop 1 block) (omega arith)
      ∙ sym (take_all (get_or block 0 0) (drop 1 block) (omega (arith, long)))
      ∙ counted_row (get_or block 0 0) h refl

-- words that are one row
pub one_row : (row : List ℕ) → 1 ≤ length row → get_or (row_lists (length row - 1) row) 0 [] ≡ entries_in row
one_row row h =
    let size : row_size (length row - 1) ≡ length row = omega arith in
    let start : 0 * row_size (length row - 1) ≡ 0 = omega arith in
    let is : row ≡ block_at (row_size (length row - 1)) 0 row =
    sym (ap (λ (k : ℕ). take (row_size (length row - 1)) (drop k row)) start ∙ take_all (row_size (length row - 1)) row (omega arith)) in
    sym (counted_row (length row - 1) 0 row row is (get_or row 0 0) (omega arith) refl)
