-- `scale` returns q and k, the shift makes the number of part 2, and `root_law` says what pattern the half of its whole root is. The bounds keep
-- every step within 64 bits. Assumes nothing.
use mathlib.Core.Path.{◌≡◌, sym, ap, subst, ◌∙◌}
use Prim.Native.Nat.{ℕ, ◌+◌, ◌-◌, ◌*◌, ◌/◌, ◌%◌, ◌^◌, ◌≤◌, ◌<◌}
use native.Mathlib.Decide.{ℕ_discrete}
use native.Mathlib.Omega.{arith}
use lib.Pow.{shl_exact}
use lib.Ieee.{binary32, of_bits}
use Rattle.norm.specs.Root.{isqrt, nearest_root}
use Rattle.norm.proofs.root.Law.{N-bounds, m_bounds, root_law}
use Rattle.norm.proofs.root.root_bits.Goals as goal
use Rattle.norm.proofs.root.root_bits.Goals.{After-whole_root}

halved : (q e : ℕ) → e < 2 → q * 2 ^ 24 / 2 ^ e ≡ q * 2 ^ (24 - e)
halved q e h = elim (ℕ_discrete e 0) [
  | yes z ↦ rw z (omega arith)
  | no z ↦ let one : e ≡ 1 = omega arith in rw one (omega arith)
]

shifted : (q k : ℕ) → q < 2 ^ 24 → q * 2 ^ 24 % 2 ^ 64 / 2 ^ (k % 2) ≡ q * 2 ^ (24 - k % 2)
shifted q k h = ap (λ (n : ℕ). n / 2 ^ (k % 2)) (shl_exact {a = q} 24 24 64 h (omega arith)) ∙ halved q (k % 2) (omega arith)

-- four times the shifted number is below 2 ^ 50
small : (q k : ℕ) → 2 ^ 23 ≤ q → q < 2 ^ 24 → 4 * (q * 2 ^ 24 % 2 ^ 64 / 2 ^ (k % 2)) < 2 ^ 50
small q k l h = omega (arith, shifted q k h, (N-bounds q (k % 2) l h (omega arith)).1)

-- what is known where the root of the whole number is
root_is : (g q k : ℕ) → q < 2 ^ 24 → g ≡ isqrt (4 * (q * 2 ^ 24 % 2 ^ 64 / 2 ^ (k % 2))) → (g + 1) / 2 ≡ nearest_root (q * 2 ^ (24 - k % 2))
root_is g q k h e = ap (λ (n : ℕ). (n + 1) / 2) (e ∙ ap (λ (n : ℕ). isqrt (4 * n)) (shifted q k h))

digits : (g q k : ℕ) → 2 ^ 23 ≤ q → q < 2 ^ 24 → g ≡ isqrt (4 * (q * 2 ^ 24 % 2 ^ 64 / 2 ^ (k % 2))) → (g + 1) / 2 < 2 ^ 24
digits g q k l h e =
    let n = N-bounds q (k % 2) l h (omega arith) in
    subst (λ (m : ℕ). m < 2 ^ 24) (sym (root_is g q k h e)) (m_bounds (q * 2 ^ (24 - k % 2)) n.0 n.1).1

few : (c : After-whole_root) → (c.whole_root.result + 1) / 2 < 2 ^ 24
few c = digits c.whole_root.result c.scale-q.result.q c.scale-q.result.k (omega arith) (omega arith) c.whole_root.ensures

pub returns : goal.returns
returns c =
    let b = c.args.b in
    let v = c.scale-q.result in
    let e = c.scale-q.ensures in (
      ap (λ (m : ℕ). of_bits binary32 (((v.k + 1) / 2 + 51) * 2 ^ 23 + m)) (root_is c.whole_root.result v.q v.k e.2 c.whole_root.ensures)
          ∙ root_law b v.q v.k c.requires.1 e.0 e.1 e.2 e.3,
      omega (arith, few (goal.at.returns c).After-whole_root),
    )

pub overflow_mul-n : goal.overflow_mul-n
overflow_mul-n c = omega (arith, small c.scale-q.result.q c.scale-q.result.k (omega arith) (omega arith))

pub whole_root-requires : goal.whole_root-requires
whole_root-requires c = small c.scale-q.result.q c.scale-q.result.k (omega arith) (omega arith)

pub overflow_add-m : goal.overflow_add-m
overflow_add-m c = omega (arith, few (goal.at.overflow_add-m c).After-whole_root)

pub overflow_add-result-3 : goal.overflow_add-result-3
overflow_add-result-3 c = omega (arith, few (goal.at.overflow_add-result-3 c).After-whole_root)

pub overflow_cast-result : goal.overflow_cast-result
overflow_cast-result c = omega (arith, few (goal.at.overflow_cast-result c).After-whole_root)
