-- Pairs at the front of a slice, sorted there, and others put right behind them. Assumes nothing.
use mathlib.Core.Path.{◌≡◌, sym, ap, ◌∙◌}
use mathlib.Core.List.{List, ◌++◌, append_assoc}
use Prim.Native.Nat.{ℕ, ◌+◌, ◌≤◌, min}
use native.Mathlib.Omega.{arith}
use lib.ListN.{length, take, drop}
use lib.Seq.{take_at, drop_at, take-append-add, take-append-le}
use Rattle.sorting.specs.declared.Keyed.{Keyed}
use Rattle.sorting.specs.Sorting.{sort_by}
use Rattle.sorting.specs.Inside.Pairs.{key_in, put_front, sorted_first}
use Rattle.sorting.proofs.Laws.{length_sort}
use Rattle.sorting.proofs.Pairs.{sorted_all}
use Rattle.hashprune.specs.Inside.Steps.{Selected}
use Rattle.hashprune.proofs.Lists.{take_least}

-- pairs put at the front, and then sorted
pub put_sorted : (ps : List Keyed) (n held m : ℕ) (pairs put sorted : List Keyed) → length ps ≡ held → held ≤ n → put ≡ put_front ps pairs
    → m ≡ held → sorted ≡ sorted_first m (take held put) → Selected (sort_by key_in ps) n held pairs (sorted ++ drop held put)
put_sorted ps n held m pairs put sorted long few e w q =
    let front : take held put ≡ ps = ap (take held) e ∙ take_at ps (drop (length ps) pairs) held long in
    let back : drop held put ≡ drop (length ps) pairs = ap (drop held) e ∙ drop_at ps (drop (length ps) pairs) held long in
    let are : sorted ≡ sort_by key_in ps = q ∙ ap (sorted_first m) front ∙ sorted_all m ps (omega arith) in
    let same : length ps ≡ length (sort_by key_in ps) = sym (length_sort key_in ps) in
    record { many = sym (length_sort key_in ps ∙ long); few = few; are = λ i. are i ++ (back ∙ ap (λ (k : ℕ). drop k pairs) same) i }

-- the pairs ps at the front of a slice, ss put right behind them: all of ps and the first D of ss
pub joined : (D : ℕ) (ps ss : List Keyed) (a m : ℕ) (pairs put part more post : List Keyed) → a ≡ length ps → m ≡ min (length ss) D
    → put ≡ put_front ps pairs → more ≡ put_front ss part → take (a + m) (take a put ++ (more ++ post)) ≡ ps ++ take D ss
joined D ps ss a m pairs put part more post ea em e f =
    let front : take a put ≡ ps = ap (take a) e ∙ take_at ps (drop (length ps) pairs) a (sym ea) in
    let behind : more ++ post ≡ ss ++ (drop (length ss) part ++ post) = ap (λ (l : List Keyed). l ++ post) f ∙ append_assoc ss (drop (length ss) part) post in
    let n : m ≡ min D (length ss) = omega arith in
    (λ i. take (ea i + m) (front i ++ behind i))
    ∙ take-append-add ps (ss ++ (drop (length ss) part ++ post)) m
    ∙ ap (λ (l : List Keyed). ps ++ l) (take-append-le m ss (drop (length ss) part ++ post) (omega arith) ∙ ap (λ (k : ℕ). take k ss) n ∙ take_least D ss)
