-- A product modulo P * P from halves in base P, with each step reduced. Assumes nothing.
use Rattle.std.proofs.Common.{◌≡◌, ℕ, ◌+◌, ◌*◌, ◌/◌, ◌%◌, ◌^◌, ◌<◌, sym, refl, ap, ◌∙◌, lt_of_le_of_lt, le_of_lt, add_assoc, mul_assoc, mul_comm, add-mul, add_comm, mul-le-mul_left, mul-lt-mul_of_pos_right, div-add-mod', mul-add, mul_left_comm, pow_pos, pow-add}
use mathlib.Core.Path.{subst⁻¹}
use native.Mathlib.Nat.{add_left_comm, add-mod-mod, mul-add-mod_self_right}

-- a factor may be reduced first
regroup : (q n r k : ℕ) → (q * n + r) * k ≡ q * k * n + r * k
regroup q n r k = simp (add-mul, mul_assoc, mul_comm, add_comm) refl

pub mod_mul : (x k n : ℕ) → x % n * k % n ≡ x * k % n
mod_mul x k n =
    sym (mul-add-mod_self_right (x / n * k) n (x % n * k))
    ∙ ap (λ (y : ℕ). y % n) (sym (regroup (x / n) n (x % n) k))
    ∙ ap (λ (y : ℕ). y * k % n) (div-add-mod' x n)

columns : (P a₀ a₁ b₀ b₁ : ℕ) → (a₁ * P + a₀) * (b₁ * P + b₀) ≡ a₁ * b₁ * (P * P) + (a₀ * b₀ + (a₁ * b₀ + a₀ * b₁) * P)
columns P a₀ a₁ b₀ b₁ = simp (mul-add, add-mul, mul_assoc, mul_comm, mul_left_comm, add_assoc, add_comm, add_left_comm) refl

pub halves : (P a₀ a₁ b₀ b₁ : ℕ) → (a₀ * b₀ + (a₁ * b₀ + a₀ * b₁) % (P * P) * P % (P * P)) % (P * P) ≡ (a₁ * P + a₀) * (b₁ * P + b₀) % (P * P)
halves P a₀ a₁ b₀ b₁ =
    ap (λ (y : ℕ). (a₀ * b₀ + y) % (P * P)) (mod_mul (a₁ * b₀ + a₀ * b₁) P (P * P))
    ∙ add-mod-mod (a₀ * b₀) ((a₁ * b₀ + a₀ * b₁) * P) (P * P)
    ∙ sym (mul-add-mod_self_right (a₁ * b₁) (P * P) (a₀ * b₀ + (a₁ * b₀ + a₀ * b₁) * P))
    ∙ ap (λ (y : ℕ). y % (P * P)) (sym (columns P a₀ a₁ b₀ b₁))

-- the product of two numbers of k bits has at most k + k
pub below : (k : ℕ) {a b : ℕ} → a < 2 ^ k → b < 2 ^ k → a * b < 2 ^ (k + k)
below k {a} {b} ha hb =
    subst⁻¹ (λ (n : ℕ). a * b < n) (pow-add 2 k k)
    (lt_of_le_of_lt (mul-le-mul_left a (le_of_lt hb)) (mul-lt-mul_of_pos_right ha (pow_pos k)))
