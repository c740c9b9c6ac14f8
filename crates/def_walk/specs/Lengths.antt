-- The lengths of the lists of the nodes below n, repeats counted (scope, demand 3).
use Rattle.std.specs.Prelude.{List, ℕ, zero, suc, ◌+◌, max, length}

-- f 0 + f 1 + .. + f (n − 1)
unfoldable pub sum_to : ℕ → (ℕ → ℕ) → ℕ
sum_to zero f = 0
sum_to (suc n) f = sum_to n f + f n

-- the largest of f 0, f 1, .., f (n − 1), and 0 if there is none
unfoldable pub max_to : ℕ → (ℕ → ℕ) → ℕ
max_to zero f = 0
max_to (suc n) f = max (max_to n f) (f n)

abbrev pub total_length : ℕ → (ℕ → List ℕ) → ℕ
total_length n list = sum_to n (λ i. length (list i))

abbrev pub longest_length : ℕ → (ℕ → List ℕ) → ℕ
longest_length n list = max_to n (λ i. length (list i))
