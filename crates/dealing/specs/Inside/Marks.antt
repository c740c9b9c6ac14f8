-- Buckets as two slices hold them (scope, part 4): their nodes one after the other, and beside each node a mark, 1 for the first node of a bucket and
-- 0 for the others. An empty bucket has neither node nor mark.
use Rattle.std.specs.Prelude.{List, [], ◌∷◌, ◌++◌, ℕ, zero, suc, length, replicate}

-- n marks, the first of which is `first`
unfoldable pub run : ℕ → ℕ → List ℕ
run first zero = []
run first (suc n) = first ∷ replicate n 0

unfoldable pub marks_of : List (List ℕ) → List ℕ
unfolding run
marks_of [] = []
marks_of (bucket ∷ buckets) = run 1 (length bucket) ++ marks_of buckets
