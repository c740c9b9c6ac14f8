-- Repairs that compute, with the Rust's outcome. Assumes nothing.
use mathlib.Core.Path.{◌≡◌, refl}
use mathlib.Core.Bool.{true, false}
use mathlib.Core.List.{List, [], ◌∷◌, map}
use Prim.Native.Nat.{ℕ}
use lib.IntN.{pos, negsuc}
use lib.Ieee.{Float, fin, add, sub, mul, lt}
use Rattle.basics.specs.Graph.{Bridge, list_of}
use Rattle.basics.specs.Sum.{+zero, +one}
use Rattle.def_walk.specs.Repair.{ensure_connectivity}

abbrev bridge : ℕ → ℕ → Bridge
bridge a b = record { near = a; far = b }

abbrev half : Float
half = fin false 1 (negsuc 0)

abbrev -half : Float
-half = fin true 1 (negsuc 0)

abbrev -one : Float
-one = fin true 1 (pos 0)

-- ---- the worked example: node 2 leads to 1, and nothing leads to it

abbrev worked_rows : List (List ℕ)
worked_rows = (1 ∷ []) ∷ (0 ∷ []) ∷ (1 ∷ []) ∷ []

abbrev worked_vectors : List (List Float)
worked_vectors = (+one ∷ +zero ∷ []) ∷ (+zero ∷ +one ∷ []) ∷ (-one ∷ +zero ∷ []) ∷ []

pub worked_bridges : ensure_connectivity worked_rows 1 worked_vectors ≡ bridge 1 2 ∷ []
unfolding ensure_connectivity add sub mul lt
worked_bridges = refl

-- the bridge repeats node 2's one entry
pub worked_lists : map (list_of worked_rows (bridge 1 2 ∷ [])) (0 ∷ 1 ∷ 2 ∷ []) ≡ (1 ∷ []) ∷ (0 ∷ 2 ∷ []) ∷ (1 ∷ 1 ∷ []) ∷ []
unfolding list_of
worked_lists = refl

-- ---- the order of candidates

-- Nothing is reached from the entry, node 3. Node 0 gets a bridge from it. Node 1's own list leads to 0, whose list holds the entry by then;
-- 0 itself is a candidate as the entry's neighbour, and nearer. Node 2 finds 0 and 1 equally near, and 0 came first. Node 4 lists itself and
-- 2, so that by its own list it is a candidate, not reached, and 2 is one; 1 is as near, and comes later, by the entry's neighbour 0.
order_rows : List (List ℕ)
order_rows = [] ∷ (0 ∷ []) ∷ [] ∷ [] ∷ (4 ∷ 2 ∷ []) ∷ []

order_vectors : List (List Float)
order_vectors = (-half ∷ half ∷ []) ∷ (+zero ∷ half ∷ []) ∷ (+zero ∷ half ∷ []) ∷ (+one ∷ -one ∷ []) ∷ (half ∷ half ∷ []) ∷ []

order_bridges : ensure_connectivity order_rows 3 order_vectors ≡ bridge 3 0 ∷ bridge 0 1 ∷ bridge 0 2 ∷ bridge 2 4 ∷ []
unfolding ensure_connectivity order_rows order_vectors add sub mul lt
order_bridges = refl

-- ---- distances that are no numbers

2^127 : Float
2^127 = fin false 1 (pos 127)

-2^127 : Float
-2^127 = fin true 1 (pos 127)

-- of node 2 and the entry the products overflow both ways: no candidate is nearer than that
nan_keeps_entry : ensure_connectivity ((1 ∷ []) ∷ [] ∷ [] ∷ []) 0 ((2^127 ∷ -2^127 ∷ []) ∷ (+one ∷ +zero ∷ []) ∷ (2^127 ∷ 2^127 ∷ []) ∷ []) ≡ bridge 0 2 ∷ []
unfolding ensure_connectivity 2^127 -2^127 add sub mul lt
nan_keeps_entry = refl
