-- The number at a place of the blocks, by the cases that the code distinguishes, and how blocks grow by a number. Assumes nothing.
use mathlib.Core.Path.{◌≡◌, refl, sym, ap, ap₂, ◌∙◌, subst}
use mathlib.Core.Bool.{Bool, true, false, ◌&&◌}
use mathlib.Core.List.{List, [], ◌∷◌, ◌++◌}
use Prim.Native.Nat.{ℕ, zero, suc, ◌+◌, ◌*◌, ◌≤◌, ◌<◌}
use native.Mathlib.Decide.{dec_lt}
use native.Mathlib.Numerals.{add-one}
use native.Mathlib.Omega.{arith}
use borrow.Author.Tests.{lt-ltb, le-ltb}
use lib.Dec.{ltb}
use lib.ListN.{length, get_or, drop, set, length-append, get_or-append}
use lib.Seq.{get_or_at}
use lib.Ieee.{Float, nan}
use Rattle.std.proofs.lemmas.List.{get_or_default}
use Rattle.basics.specs.Choice.{pick_true, pick_false}
use Rattle.basics.specs.Sum.{+zero}
use Rattle.basics.proofs.Loops.{front_set}
use Rattle.simhash.specs.Inside.Blocks.{plane_at, component_at, block_number, plane_blocks}

second_false : (a b : Bool) → b ≡ false → (a && b) ≡ false
second_false true b e = e
second_false false b e = refl

module _ (planes : List Float) (d bits k : ℕ) where
  pub no_dimension : d ≡ 0 → block_number planes d bits k ≡ +zero
  unfolding block_number
  no_dimension e = pick_false _ _ (ap (λ (t : Bool). t && ltb (plane_at d k) bits) (le-ltb 0 d (omega arith)))

  pub past_planes : bits ≤ plane_at d k → block_number planes d bits k ≡ +zero
  unfolding block_number
  past_planes h = pick_false _ _ (second_false (ltb 0 d) (ltb (plane_at d k) bits) (le-ltb (plane_at d k) bits h))

  pub in_planes : 0 < d → plane_at d k < bits → block_number planes d bits k ≡ get_or planes (plane_at d k * d + component_at d k) +zero
  unfolding block_number
  in_planes p h = pick_true _ _ (ap₂ (λ (s t : Bool). s && t) (lt-ltb 0 d p) (lt-ltb (plane_at d k) bits h))

  pub within_planes : 0 < d → plane_at d k < bits → plane_at d k * d + component_at d k < length planes
      → block_number planes d bits k ≡ get_or planes (plane_at d k * d + component_at d k) nan
  within_planes p h l = in_planes p h ∙ get_or_default planes (plane_at d k * d + component_at d k) +zero nan l

module _ (planes : List Float) (d bits : ℕ) where
  pub length_blocks : (n : ℕ) → length (plane_blocks planes d bits n) ≡ n
  unfolding plane_blocks
  length_blocks zero = refl
  length_blocks (suc n) = let r = length_blocks n in omega (arith, length-append (plane_blocks planes d bits n) (block_number planes d bits n ∷ []))

  pub block_at : (n k : ℕ) → k < n → get_or (plane_blocks planes d bits n) k nan ≡ block_number planes d bits k
  unfolding plane_blocks
  block_at zero k h = absurd (omega arith)
  block_at (suc n) k h = go (block_at n k) (dec_lt k n)
    where
      go : (k < n → get_or (plane_blocks planes d bits n) k nan ≡ block_number planes d bits k) → Dec (k < n)
          → get_or (plane_blocks planes d bits n ++ (block_number planes d bits n ∷ [])) k nan ≡ block_number planes d bits k
      go rec (yes l) = get_or-append (plane_blocks planes d bits n) _ nan k (omega (arith, length_blocks n)) ∙ rec l
      go rec (no l) =
          let e : n ≡ k = omega arith in
          subst (λ (j : ℕ). get_or (plane_blocks planes d bits n ++ (block_number planes d bits n ∷ [])) j nan ≡ block_number planes d bits j) e
          (get_or_at (plane_blocks planes d bits n) (block_number planes d bits n) [] nan n (length_blocks n))

  blocks_more : (k : ℕ) → plane_blocks planes d bits k ++ (block_number planes d bits k ∷ []) ≡ plane_blocks planes d bits (k + 1)
  unfolding plane_blocks
  blocks_more k = ap (plane_blocks planes d bits) (sym (add-one k))

  -- the turn at k, of an `out` that has the first k numbers
  pub blocks_set : (out₀ out : List Float) (k : ℕ) (v : Float) → out ≡ plane_blocks planes d bits k ++ drop k out₀ → k < length out₀
      → v ≡ block_number planes d bits k → set out k v ≡ plane_blocks planes d bits (k + 1) ++ drop (k + 1) out₀
  blocks_set out₀ out k v e h q =
      ap (λ (l : List Float). set l k v) e
      ∙ front_set out₀ (plane_blocks planes d bits k) k v (length_blocks k) h
      ∙ ap (λ (x : Float). (plane_blocks planes d bits k ++ (x ∷ [])) ++ drop (k + 1) out₀) q
      ∙ ap (λ (l : List Float). l ++ drop (k + 1) out₀) (blocks_more k)
