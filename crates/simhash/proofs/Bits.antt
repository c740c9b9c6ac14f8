-- Laws of bits at their weights: they are below the next weight, the low ones are a remainder, and two runs of bits join. Assumes nothing.
use mathlib.Core.Path.{◌≡◌, refl, sym, ap, ap₂, ◌∙◌}
use mathlib.Core.Bool.{Bool, true, false}
use Prim.Native.Nat.{ℕ, zero, suc, ◌+◌, ◌-◌, ◌*◌, ◌%◌, ◌^◌, ◌≤◌, ◌<◌}
use native.Mathlib.Nat.{pow-suc, mod-eq_of_lt, mul-zero, mul-add, add-mul-mod_self_left}
use native.Mathlib.Omega.{arith}
use lib.Pow.{pow-add}
use Rattle.basics.specs.Choice.{pick, pick_ind}
use Rattle.simhash.specs.Inside.Blocks.{bits_of}

pub bits_same : (f g : ℕ → Bool) (n : ℕ) → ((b : ℕ) → b < n → f b ≡ g b) → bits_of f n ≡ bits_of g n
unfolding bits_of
bits_same f g zero e = refl
bits_same f g (suc n) e =
    ap₂ (λ (x : ℕ) (t : Bool). x + pick t (2 ^ n) 0) (bits_same f g n (λ b h. e b (omega arith))) (e n (omega arith))

pub bits_below : (f : ℕ → Bool) (n : ℕ) → bits_of f n < 2 ^ n
unfolding bits_of
bits_below f zero = omega arith
bits_below f (suc n) =
    let rec = bits_below f n in
    let double = pow-suc 2 n in
    pick_ind (λ (w : ℕ). bits_of f n + w < 2 ^ suc n) (f n) (λ _. omega arith) (λ _. omega arith)

scaled : (t : Bool) (m n : ℕ) → 2 ^ m * pick t (2 ^ n) 0 ≡ pick t (2 ^ (m + n)) 0
unfolding pick
scaled true m n = sym (pow-add 2 m n)
scaled false m n = mul-zero (2 ^ m)

-- the bits from m on, in place
pub bits_join : (f : ℕ → Bool) (m n : ℕ) → bits_of f (m + n) ≡ bits_of f m + 2 ^ m * bits_of (λ b. f (m + b)) n
unfolding bits_of
bits_join f m zero = let e : m + zero ≡ m = omega arith in ap (bits_of f) e ∙ omega (arith, mul-zero (2 ^ m))
bits_join f m (suc n) =
    let e : m + suc n ≡ suc (m + n) = omega arith in
    let rec = bits_join f m n in
    ap (bits_of f) e
    ∙ omega (arith, rec, mul-add (2 ^ m) (bits_of (λ b. f (m + b)) n) (pick (f (m + n)) (2 ^ n) 0), scaled (f (m + n)) m n)

-- the low bits are the remainder
pub bits_cut : (f : ℕ → Bool) (m n : ℕ) → m ≤ n → bits_of f n % 2 ^ m ≡ bits_of f m
bits_cut f m n h =
    let e : n ≡ m + (n - m) = omega arith in
    ap (λ (k : ℕ). bits_of f k % 2 ^ m) e
    ∙ ap (λ (k : ℕ). k % 2 ^ m) (bits_join f m (n - m))
    ∙ add-mul-mod_self_left (bits_of f m) (2 ^ m) (bits_of (λ b. f (m + b)) (n - m))
    ∙ mod-eq_of_lt (bits_below f m)
