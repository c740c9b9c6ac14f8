-- Of a query as long as the block's rows each number is 1 − its dot; otherwise every row is infinitely far. Assumes nothing.
use mathlib.Core.Path.{◌≡◌, ap, sym, ◌∙◌}
use mathlib.Core.Bool.{true, false}
use mathlib.Core.List.{List, map}
use Prim.Native.Nat.{ℕ, ◌/◌}
use borrow.Author.Tests.{eq-eqb, ne_eqb}
use lib.Dec.{eqb}
use lib.ListN.{length}
use lib.Ieee.{Float, binary32, of_bits, sub}
use Rattle.std.proofs.Common.{rules}
use Rattle.std.specs.List.{range_with_len}
use Rattle.basics.specs.Sum.{+one}
use Rattle.basics.proofs.Arrays.{array_map}
use Rattle.simd.specs.Inside.Eight.{row_in}
use Rattle.simd.proofs.Lanes.{length_lane}
use Rattle.distance.proofs.Laws.{one_minus_dot, unlike_lengths}
use Rattle.distance.proofs.cosine_distance_normalized_block.Goals as goal

-- how the query's length compares with a row's
as_long : (q block : List Float) (j : ℕ) → length q ≡ length block / 8 → eqb (length q) (length (row_in block j)) ≡ true
as_long q block j e = eq-eqb _ _ (e ∙ sym (length_lane block j (length block / 8)))

not_as_long : (q block : List Float) (j : ℕ) → (length q ≡ length block / 8 → ⊥) → eqb (length q) (length (row_in block j)) ≡ false
not_as_long q block j n = ne_eqb _ _ (λ e. n (e ∙ length_lane block j (length block / 8)))

pub returns-then-q-block : goal.returns-then-q-block
unfolding of_bits
returns-then-q-block c =
    let q = c.args.q.now in
    let b = c.args.block.now in
    array_map _ (λ (x : Float). sub binary32 +one x) _ (λ x y q k. search rules) c.dot_block.result c.map.result 8 (ap length c.dot_block.ensures) c.map.ensures.items
    ∙ ap (map (λ (x : Float). sub binary32 +one x)) c.dot_block.ensures
    ∙ (λ i. map (λ (j : ℕ). one_minus_dot binary32 q (row_in b j) (as_long q b j c.if-q-block.true) i) (range_with_len 0 8))

pub returns : goal.returns
unfolding of_bits
returns c =
    let q = c.args.q.now in
    let b = c.args.block.now in
    λ i. map (λ (j : ℕ). unlike_lengths binary32 q (row_in b j) (not_as_long q b j c.if-q-block.false) i) (range_with_len 0 8)
