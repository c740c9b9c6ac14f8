-- Rows as a build leaves them: how many words they are, what is read back, and what they are when one row's block is put in its place.
-- Assumes nothing.
use mathlib.Core.Path.{◌≡◌, refl, sym, ap, ap₂, ◌∙◌}
use mathlib.Core.List.{List, [], ◌∷◌, ◌++◌, map, flatten, append-nil}
use Prim.Native.Nat.{ℕ, zero, suc, ◌+◌, ◌-◌, ◌*◌, ◌/◌, ◌≤◌, ◌<◌}
use native.Mathlib.Nat.{mul-div_cancel, zero-mul, suc-mul}
use native.Mathlib.Omega.{arith}
use lib.ListN.{length, get_or, take, drop, set, replicate, length-map, length-append, length-replicate, replicate-append-replicate}
use Rattle.basics.specs.Lists.{pieces}
use Rattle.basics.proofs.Pieces.{Sized, length_flatten}
use Rattle.basics.proofs.Rows.{set_row, empty_rows}
use Rattle.store.specs.Layout.{row_size}
use Rattle.store.specs.View.{entries_in, row_block}
use Rattle.store.proofs.Reading.{Short, blocks_sized, rows_back}
use Rattle.lists.specs.Inside.Words.{row_lists, Blocks}
use Rattle.lists.proofs.Flat.{flatten_at, flatten_set}

short_all : (D : ℕ) (rows : List (List ℕ)) → ((u : ℕ) → length (get_or rows u []) ≤ D) → Short D rows
short_all D [] h = tt
short_all D (row ∷ rows) h = (h 0, short_all D rows (λ u. h (suc u)))

map-set : (D : ℕ) (rows : List (List ℕ)) (i : ℕ) (row : List ℕ) → map (row_block D) (set rows i row) ≡ set (map (row_block D) rows) i (row_block D row)
map-set D [] i row = refl
map-set D (x ∷ rows) zero row = refl
map-set D (x ∷ rows) (suc i) row = ap (λ (l : List (List ℕ)). row_block D x ∷ l) (map-set D rows i row)

map_at : (g : List ℕ → List ℕ) (rows : List (List ℕ)) (i : ℕ) (d e : List ℕ) → i < length rows → get_or (map g rows) i e ≡ g (get_or rows i d)
map_at g [] i d e h = absurd (omega arith)
map_at g (x ∷ rows) zero d e h = refl
map_at g (x ∷ rows) (suc i) d e h = map_at g rows i d e (omega arith)

pub block_length : (D : ℕ) (row : List ℕ) → length row ≤ D → length (row_block D row) ≡ row_size D
block_length D row h = omega (arith, length-append row (replicate (D - length row) 0), length-replicate {A = ℕ} (D - length row) 0)

module _ (D : ℕ) (rows : List (List ℕ)) (ws : List ℕ) (b : Blocks D rows ws) where
  sized : Sized (row_size D) (map (row_block D) rows)
  sized = blocks_sized D rows (short_all D rows b.short)

  many : length (map (row_block D) rows) ≡ length rows
  many = length-map rows (row_block D)

  pub blocks_length : length ws ≡ length rows * row_size D
  blocks_length = ap length b.words_are ∙ length_flatten (row_size D) (map (row_block D) rows) sized ∙ ap (λ (k : ℕ). k * row_size D) many

  -- there are as many rows as stand in the words
  pub blocks_count : length ws / row_size D ≡ length rows
  blocks_count = ap (λ (k : ℕ). k / row_size D) blocks_length ∙ mul-div_cancel (length rows) (omega arith)

  pub nth_block : (i : ℕ) → i < length rows → take (row_size D) (drop (i * row_size D) ws) ≡ row_block D (get_or rows i [])
  nth_block i h =
      ap (λ (l : List ℕ). take (row_size D) (drop (i * row_size D) l)) b.words_are
      ∙ flatten_at (row_size D) (map (row_block D) rows) i sized (omega (arith, many))
      ∙ map_at (row_block D) rows i [] [] h

  -- one row's block in its place
  pub put_block : (i : ℕ) (row : List ℕ) → i < length rows → length row ≤ D
      → Blocks D (set rows i row) (take (i * row_size D) ws ++ (row_block D row ++ drop (suc i * row_size D) ws))
  put_block i row h q = record {
    words_are =
        ap (λ (l : List ℕ). take (i * row_size D) l ++ (row_block D row ++ drop (suc i * row_size D) l)) b.words_are
        ∙ sym (flatten_set (row_size D) (map (row_block D) rows) i (row_block D row) sized (omega (arith, many)))
        ∙ ap flatten (sym (map-set D rows i row));
    short = λ u. set_row (λ (r : List ℕ). length r ≤ D) rows i row u q (b.short u);
  }

  -- a reader gets the rows back
  pub rows_read_back : row_lists D ws ≡ rows
  rows_read_back =
      ap (λ (k : ℕ). map entries_in (pieces (row_size D) k ws)) blocks_count
      ∙ ap (λ (l : List ℕ). map entries_in (pieces (row_size D) (length rows) l)) (b.words_are ∙ sym (append-nil (flatten (map (row_block D) rows))))
      ∙ rows_back D rows [] (short_all D rows b.short)

-- zeros are empty rows
zeros : (D n : ℕ) → replicate (n * row_size D) 0 ≡ flatten (map (row_block D) (replicate n []))
unfolding flatten
zeros D zero = ap (λ (k : ℕ). replicate {A = ℕ} k 0) (zero-mul (row_size D))
zeros D (suc n) =
    let size : suc n * row_size D ≡ suc (D + n * row_size D) = omega (arith, suc-mul n (row_size D)) in
    let all : D ≡ D - 0 = omega arith in
    ap (λ (k : ℕ). replicate {A = ℕ} k 0) size
    ∙ ap (λ (l : List ℕ). 0 ∷ l) (sym (replicate-append-replicate D (n * row_size D) 0) ∙ ap₂ (λ (k : ℕ) (l : List ℕ). replicate k 0 ++ l) all (zeros D n))

pub cleared_blocks : (D n : ℕ) → Blocks D (replicate n []) (replicate (n * row_size D) 0)
cleared_blocks D n = record { words_are = zeros D n; short = (empty_rows n D).short }
