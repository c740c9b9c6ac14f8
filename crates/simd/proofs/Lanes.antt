-- A row of a block: how long it is, and where its components stand. Assumes nothing.
use mathlib.Core.Path.{◌≡◌, refl, sym, ap, subst, ◌∙◌}
use mathlib.Core.List.{List, [], ◌∷◌, ◌++◌}
use Prim.Native.Nat.{ℕ, zero, suc, ◌+◌, ◌*◌, ◌/◌, ◌<◌}
use native.Mathlib.Decide.{dec_lt}
use native.Mathlib.Omega.{arith}
use lib.ListN.{length, get_or, take, drop, length-append, get_or-append}
use Rattle.std.specs.Simd.{first_chunks}
use Rattle.std.proofs.lemmas.List.{get_or-take, get_or-drop}
use Rattle.basics.specs.Lists.{pieces}
use Rattle.basics.proofs.Pieces.{length_pieces, nth_piece}
use lib.Seq.{get_or_at}
use lib.Ieee.{Float, nan, binary32, add, mul}
use Rattle.simd.specs.Inside.Eight.{lane_of, row_in}
use Rattle.simd.proofs.Left.{Rest, left_step}

pub length_lane : (block : List Float) (j n : ℕ) → length (lane_of block j n) ≡ n
unfolding lane_of
length_lane block j zero = refl
length_lane block j (suc n) = let r = length_lane block j n in omega (arith, length-append (lane_of block j n) (get_or block (8 * n + j) nan ∷ []))

pub lane_at : (block : List Float) (j n i : ℕ) → i < n → get_or (lane_of block j n) i nan ≡ get_or block (8 * i + j) nan
unfolding lane_of
lane_at block j zero i h = absurd (omega arith)
lane_at block j (suc n) i h = elim (dec_lt i n) [
  | yes k ↦ get_or-append (lane_of block j n) (get_or block (8 * n + j) nan ∷ []) nan i (subst-lt k) ∙ lane_at block j n i k
  | no k ↦ last (omega arith)
]
  where
    subst-lt : i < n → i < length (lane_of block j n)
    subst-lt k = omega (arith, length_lane block j n)

    last : i ≡ n → get_or (lane_of block j n ++ (get_or block (8 * n + j) nan ∷ [])) i nan ≡ get_or block (8 * i + j) nan
    last e = get_or_at (lane_of block j n) (get_or block (8 * n + j) nan) [] nan i (length_lane block j n ∙ sym e) ∙ ap (λ (k : ℕ). get_or block (8 * k + j) nan) (sym e)

-- the columns of a block, which each have a component of its eight rows
columns-pieces : (n k : ℕ) (xs : List Float) → first_chunks n k xs ≡ pieces n k xs
unfolding pieces
columns-pieces n zero xs = refl
columns-pieces n (suc k) xs = ap (λ (l : List (List Float)). take n xs ∷ l) (columns-pieces n k (drop n xs))

abbrev pub columns : List Float → List (List Float)
columns block = first_chunks 8 (length block / 8) block

pub length-columns : (block : List Float) → length (columns block) ≡ length block / 8
length-columns block = ap length (columns-pieces 8 (length block / 8) block) ∙ length_pieces 8 (length block / 8) block

pub column_at : (block : List Float) (i j : ℕ) → i < length block / 8 → j < 8 → get_or (get_or (columns block) i []) j nan ≡ get_or block (8 * i + j) nan
column_at block i j h l =
    let from : i * 8 ≡ 8 * i = omega arith in
    ap (λ (cs : List (List Float)). get_or (get_or cs i []) j nan) (columns-pieces 8 (length block / 8) block)
    ∙ ap (λ (c : List Float). get_or c j nan) (nth_piece 8 (length block / 8) block i h)
    ∙ get_or-take 8 (drop (i * 8) block) j nan l
    ∙ get_or-drop (i * 8) block j nan
    ∙ ap (λ (k : ℕ). get_or block (k + j) nan) from

-- a step of the sum with row j of a block
pub column_step : {total : Float} (q block : List Float) (j : ℕ) (s : Float) (i : ℕ) → i < length q → i < length block / 8 → Rest q (row_in block j) s i total
    → j < 8 → Rest q (row_in block j) (add binary32 s (mul binary32 (get_or q i nan) (get_or (get_or (columns block) i []) j nan))) (i + 1) total
column_step {total} q block j s i h l left e =
    subst (λ (x : Float). Rest q (row_in block j) (add binary32 s (mul binary32 (get_or q i nan) x)) (i + 1) total)
    (lane_at block j (length block / 8) i l ∙ sym (column_at block i j l e))
    (left_step q (row_in block j) s i h (omega (arith, length_lane block j (length block / 8))) left)
