-- The hash by blocks that are made of the hyperplanes' stream is the scope's hash of the residual, bit by bit. Assumes nothing.
use mathlib.Core.Path.{◌≡◌, refl, sym, ap, ap₂, ◌∙◌}
use mathlib.Core.List.{List, [], ◌∷◌, ◌++◌}
use Prim.Native.Nat.{ℕ, zero, suc, ◌+◌, ◌*◌, ◌/◌, ◌%◌, ◌^◌, ◌≤◌, ◌<◌, min}
use native.Mathlib.Nat.{mul_assoc, mul_comm, add-mul, mul-le-mul_right, mul-add-div_right, mul-add-mod_self_right, div-eq_of_lt, mod-eq_of_lt}
use native.Mathlib.Omega.{arith}
use lib.ListN.{length, get_or, drop, length-append, length-drop, get_or-append}
use lib.Seq.{get_or-drop}
use lib.Ieee.{Float, Format, binary32, nan, mul, le}
use Rattle.basics.specs.Choice.{pick}
use Rattle.basics.specs.Sum.{+zero, sum_of, products}
use Rattle.random.specs.Hyperplanes.{plane_number, plane_numbers}
use Rattle.def_graph.specs.Simhash.{residual, numbers_from, plane_of, bit_set, simhash_residual}
use Rattle.def_graph.proofs.leaf.Planes.{length_numbers, number_at}
use Rattle.simd.specs.Inside.Eight.{row_in}
use Rattle.simd.proofs.Lanes.{length_lane, lane_at}
use Rattle.simhash.specs.Inside.Blocks.{bits_of, side_of, bit_in, blocks_hash, plane_at, component_at, plane_blocks}
use Rattle.simhash.proofs.Bits.{bits_same}
use Rattle.simhash.proofs.Blocks.{within_planes, length_blocks, block_at}

-- products with two lists that agree as far as the first list goes
products_same : (f : Format) (xs ys zs : List Float) → length xs ≤ length ys → length xs ≤ length zs
    → ((i : ℕ) → i < length xs → get_or ys i nan ≡ get_or zs i nan) → products f xs ys ≡ products f xs zs
unfolding products
products_same f [] ys zs h k e = refl
products_same f (x ∷ xs) [] zs h k e = absurd (omega arith)
products_same f (x ∷ xs) (y ∷ ys) [] h k e = absurd (omega arith)
products_same f (x ∷ xs) (y ∷ ys) (z ∷ zs) h k e =
    ap₂ (λ (p : Float) (l : List Float). mul f x p ∷ l) (e 0 (omega arith)) (products_same f xs ys zs (omega arith) (omega arith) (λ i l. e (suc i) (omega arith)))

length_from : (f : Format) (k d : ℕ) → length (numbers_from f k d) ≡ d
unfolding numbers_from
length_from f k zero = refl
length_from f k (suc d) = ap suc (length_from f (suc k) d)

from_at : (f : Format) (k d i : ℕ) → i < d → get_or (numbers_from f k d) i nan ≡ plane_number f (k + i)
unfolding numbers_from
from_at f k zero i h = absurd (omega arith)
from_at f k (suc d) zero h = let e : k ≡ k + zero = omega arith in ap (plane_number f) e
from_at f k (suc d) (suc i) h =
    let e : suc k + i ≡ k + suc i = omega arith in
    from_at f (suc k) d i (omega arith) ∙ ap (plane_number f) e

-- component i of plane b stands at its place in the blocks
abbrev place_in : ℕ → ℕ → ℕ → ℕ
place_in d b i = b / 8 * (8 * d) + (8 * i + b % 8)

module _ (d b i : ℕ) (h : i < d) where
  place_start : b / 8 * (8 * d) ≡ 8 * (b / 8 * d)
  place_start = sym (mul_assoc (b / 8) 8 d) ∙ ap (λ (x : ℕ). x * d) (mul_comm (b / 8) 8) ∙ mul_assoc 8 (b / 8) d

  place_eighth : place_in d b i / 8 ≡ b / 8 * d + i
  place_eighth = omega (arith, place_start)

  place_rest : place_in d b i % 8 ≡ b % 8
  place_rest = omega (arith, place_start)

  place_plane : plane_at d (place_in d b i) ≡ b
  place_plane =
      let block : (b / 8 * d + i) / d ≡ b / 8 + i / d = mul-add-div_right (omega arith) (b / 8) i in
      let none : i / d ≡ 0 = div-eq_of_lt h in
      ap₂ (λ (x y : ℕ). 8 * (x / d) + y) place_eighth place_rest ∙ ap (λ (x : ℕ). 8 * x + b % 8) block ∙ omega arith

  place_component : component_at d (place_in d b i) ≡ i
  place_component = ap (λ (x : ℕ). x % d) place_eighth ∙ mul-add-mod_self_right (b / 8) d i ∙ mod-eq_of_lt h

-- a table of the stream's first n numbers, whatever follows them, in blocks of m numbers: enough of both for `bits` planes
module _ (n d bits m : ℕ) (rest : List Float) (numbers : bits * d ≤ n) (room : (bits + 7) / 8 * (8 * d) ≤ m) where
  abbrev table : List Float
  table = plane_numbers binary32 n ++ rest

  abbrev made : List Float
  made = plane_blocks table d bits m

  block_room : (b : ℕ) → b < bits → b / 8 * (8 * d) + 8 * d ≤ m
  block_room b h =
      let blocks : b / 8 + 1 ≤ (bits + 7) / 8 = omega arith in
      let all : (b / 8 + 1) * (8 * d) ≤ (bits + 7) / 8 * (8 * d) = mul-le-mul_right (8 * d) blocks in
      omega (arith, add-mul (b / 8) 1 (8 * d))

  number_room : (b i : ℕ) → b < bits → i < d → b * d + i < n
  number_room b i h k = let all : (b + 1) * d ≤ bits * d = mul-le-mul_right d (omega arith) in omega (arith, add-mul b 1 d)

  table_at : (k : ℕ) → k < n → (k < length table) × (get_or table k nan ≡ plane_number binary32 k)
  table_at k h = (
    omega (arith, length-append (plane_numbers binary32 n) rest, length_numbers binary32 n),
    get_or-append (plane_numbers binary32 n) rest nan k (omega (arith, length_numbers binary32 n)) ∙ number_at binary32 n k h,
  )

  made_at : (b i : ℕ) → b < bits → i < d → get_or made (place_in d b i) nan ≡ plane_number binary32 (b * d + i)
  made_at b i h k =
      let place = place_in d b i in
      let spot : plane_at d place * d + component_at d place ≡ b * d + i = ap₂ (λ (x y : ℕ). x * d + y) (place_plane d b i k) (place_component d b i k) in
      let held = table_at (b * d + i) (number_room b i h k) in
      block_at table d bits m place (omega (arith, block_room b h))
      ∙ within_planes table d bits place (omega arith) (omega (arith, place_plane d b i k)) (omega arith)
      ∙ ap (λ (x : ℕ). get_or table x nan) spot
      ∙ held.1

  row_room : (b : ℕ) → b < bits → d ≤ length (drop (b / 8 * (8 * d)) made) / 8
  row_room b h = omega (arith, block_room b h, length-drop (b / 8 * (8 * d)) made, length_blocks table d bits m)

  plane_row : (b i : ℕ) → b < bits → i < d → get_or (row_in (drop (b / 8 * (8 * d)) made) (b % 8)) i nan ≡ get_or (plane_of binary32 d b) i nan
  plane_row b i h k =
      let from = drop (b / 8 * (8 * d)) made in
      lane_at from (b % 8) (length from / 8) i (omega (arith, row_room b h))
      ∙ get_or-drop (b / 8 * (8 * d)) made (8 * i + b % 8) nan
      ∙ made_at b i h k
      ∙ sym (from_at binary32 (b * d) d i k)

  side_of_plane : (r : List Float) (b : ℕ) → length r ≡ d → b < bits → bit_in r made b ≡ le +zero (sum_of binary32 (products binary32 r (plane_of binary32 d b)))
  side_of_plane r b e h =
      let from = drop (b / 8 * (8 * d)) made in
      ap (λ (x : ℕ). side_of r (drop (b / 8 * (8 * x)) made) (b % 8)) e
      ∙ ap (λ (l : List Float). le +zero (sum_of binary32 l))
      (products_same binary32 r (row_in from (b % 8)) (plane_of binary32 d b)
      (omega (arith, row_room b h, length_lane from (b % 8) (length from / 8)))
      (omega (arith, length_from binary32 (b * d) d))
      (λ i k. plane_row b i h (omega arith)))

  side_is_bit : (p c : List Float) (b : ℕ) → length (residual binary32 c p) ≡ d → b < bits → bit_in (residual binary32 c p) made b ≡ bit_set binary32 d p c b
  unfolding bit_set
  side_is_bit p c b e h = side_of_plane (residual binary32 c p) b e h

as_bits : (f : Format) (d : ℕ) (p c : List Float) (bits : ℕ) → simhash_residual f d p c bits ≡ bits_of (bit_set f d p c) bits
unfolding simhash_residual bits_of
as_bits f d p c zero = refl
as_bits f d p c (suc bits) = ap (λ (x : ℕ). x + pick (bit_set f d p c bits) (2 ^ bits) 0) (as_bits f d p c bits)

-- what `simhash_residual` says of a residual of full dimension, by blocks that `plane_blocks_into` made of a table that `planes_into` filled
pub hash_is_simhash : (n d bits m : ℕ) (rest p c : List Float) → bits * d ≤ n → (bits + 7) / 8 * (8 * d) ≤ m → bits ≤ 16
    → length (residual binary32 c p) ≡ d
    → blocks_hash (residual binary32 c p) (plane_blocks (plane_numbers binary32 n ++ rest) d bits m) (min bits 16) ≡ simhash_residual binary32 d p c bits
hash_is_simhash n d bits m rest p c numbers room few e =
    let blocks = plane_blocks (plane_numbers binary32 n ++ rest) d bits m in
    let all : min bits 16 ≡ bits = omega arith in
    ap (blocks_hash (residual binary32 c p) blocks) all
    ∙ bits_same (bit_in (residual binary32 c p) blocks) (bit_set binary32 d p c) bits
    (λ b h. side_is_bit n d bits m rest numbers room p c b e h)
    ∙ sym (as_bits binary32 d p c bits)
