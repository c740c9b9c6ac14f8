-- Searches that compute: the worked example, and others with the Rust's outcome. Assumes nothing.
use mathlib.Core.Path.{◌≡◌, refl}
use mathlib.Core.Bool.{Bool, true, false, not}
use mathlib.Core.List.{List, [], ◌∷◌, map}
use Prim.Native.Nat.{ℕ, ◌+◌, ◌*◌}
use lib.IntN.{pos, negsuc}
use lib.ListN.{get_or}
use lib.Ieee.{Float, nan, inf, fin, binary32, add, sub, mul, lt, is_nan, to_bits}
use Rattle.basics.specs.Nodes.{has}
use Rattle.basics.specs.Sum.{+zero, +one}
use Rattle.def_walk.specs.Beam.{usual, far_from, beam_search, answer_of}

-- a walk with the stop numbers of part 8, over n nodes that are all live
abbrev pub searched : (ℕ → List ℕ) → (n entry : ℕ) → (ℕ → Float) → ℕ → List ℕ
searched list n entry = beam_search usual (record { n = n; list = list; live = λ _. true; entry = entry })

-- ---- the worked example

abbrev -one : Float
-one = fin true 1 (pos 0)

-- the lists after repair
abbrev pub worked_list : ℕ → List ℕ
worked_list i = get_or ((1 ∷ []) ∷ (0 ∷ 2 ∷ []) ∷ (1 ∷ 1 ∷ []) ∷ []) i []

-- the query is node 0's vector
abbrev pub worked_far : ℕ → Float
worked_far = far_from (+one ∷ +zero ∷ []) ((+one ∷ +zero ∷ []) ∷ (+zero ∷ +one ∷ []) ∷ (-one ∷ +zero ∷ []) ∷ [])

pub worked_scored : searched worked_list 3 1 worked_far 3 ≡ 1 ∷ 0 ∷ 2 ∷ []
unfolding beam_search far_from add sub mul lt is_nan to_bits
worked_scored = refl

pub worked_answer : answer_of worked_far 3 (1 ∷ 0 ∷ 2 ∷ []) ≡ 0 ∷ 1 ∷ 2 ∷ []
unfolding answer_of far_from add sub mul is_nan to_bits
worked_answer = refl

-- 0, 1 and 2
pub worked_distances : map (λ v. to_bits binary32 (worked_far v)) (0 ∷ 1 ∷ 2 ∷ []) ≡ 0x0000_0000 ∷ 0x3f80_0000 ∷ 0x4000_0000 ∷ []
unfolding far_from add sub mul to_bits
worked_distances = refl

-- k 1, ef 1: node 0, and all three are scored, since the entry node's cutoff is infinite and its list has both others
pub worked_one : searched worked_list 3 1 worked_far 1 ≡ 1 ∷ 0 ∷ 2 ∷ []
unfolding beam_search far_from add sub mul lt is_nan to_bits
worked_one = refl

pub worked_one_answer : answer_of worked_far 1 (1 ∷ 0 ∷ 2 ∷ []) ≡ 0 ∷ []
unfolding answer_of far_from add sub mul is_nan to_bits
worked_one_answer = refl

-- k 0, ef 0: no place, no answer; the walk ends after the first expansion, with three scored
pub worked_none : searched worked_list 3 1 worked_far 0 ≡ 1 ∷ 0 ∷ 2 ∷ []
unfolding beam_search far_from add sub mul lt is_nan to_bits
worked_none = refl

pub worked_none_answer : answer_of worked_far 0 (1 ∷ 0 ∷ 2 ∷ []) ≡ []
unfolding answer_of far_from add sub mul is_nan to_bits
worked_none_answer = refl

-- ---- both orders, and the stop by distance

abbrev lists : List (List ℕ) → ℕ → List ℕ
lists rows i = get_or rows i []

abbrev distances : List Float → ℕ → Float
distances ds v = get_or ds v nan

abbrev quarter : Float
quarter = fin false 1 (negsuc 1)

abbrev three_halves : Float
three_halves = fin false 3 (negsuc 0)

abbrev two : Float
two = fin false 1 (pos 1)

-- Three places. The entry, node 1, scores 4 and 0, equally near; these fill the places, and 0, the lower, is expanded first. It scores 3, the
-- cutoff is now 1, and 4 scores 2. Node 3 lies at 1.5 times the cutoff, not beyond it: it is expanded and scores 5. Node 2 lies beyond, and the
-- walk ends. Of the two nearest, 4 was scored first.
order_lists : ℕ → List ℕ
order_lists = lists ((3 ∷ []) ∷ (1 ∷ 4 ∷ 0 ∷ []) ∷ [] ∷ (5 ∷ []) ∷ (2 ∷ 3 ∷ []) ∷ (0 ∷ []) ∷ [])

order_far : ℕ → Float
order_far = distances (quarter ∷ +one ∷ two ∷ three_halves ∷ quarter ∷ two ∷ [])

order_scored : searched order_lists 6 1 order_far 3 ≡ 1 ∷ 4 ∷ 0 ∷ 3 ∷ 2 ∷ 5 ∷ []
unfolding beam_search order_lists order_far mul lt is_nan to_bits
order_scored = refl

order_answer : answer_of order_far 2 (1 ∷ 4 ∷ 0 ∷ 3 ∷ 2 ∷ 5 ∷ []) ≡ 4 ∷ 0 ∷ []
unfolding answer_of order_far is_nan to_bits
order_answer = refl

-- With the cutoff 1 + 2^-23 the product is half way between two f32, and rounded up to the even one. Node 2 lies there, above the exact
-- product: it is expanded.
just_above : Float
just_above = fin false 0x80_0001 (negsuc 22)

rounded_product : searched (lists ((1 ∷ 2 ∷ []) ∷ [] ∷ (3 ∷ []) ∷ [] ∷ [])) 4 0 (distances (two ∷ just_above ∷ fin false 0xc0_0002 (negsuc 22) ∷ two ∷ [])) 1
    ≡ 0 ∷ 1 ∷ 2 ∷ 3 ∷ []
unfolding beam_search just_above mul lt is_nan to_bits
rounded_product = refl

-- Node 2 lies at the first f32 above 1.5 times the cutoff, 1, and is not expanded: node 3, as near as node 1, is not scored.
beyond_factor : searched (lists ((1 ∷ 2 ∷ []) ∷ [] ∷ (3 ∷ []) ∷ [] ∷ [])) 4 0 (distances (two ∷ +one ∷ fin false 0xc0_0001 (negsuc 22) ∷ +one ∷ [])) 1 ≡ 0 ∷ 1 ∷ 2 ∷ []
unfolding beam_search mul lt is_nan to_bits
beyond_factor = refl

-- ---- the cutoff on the push that fills the places

-- It is still infinite when the entry, with a distance below 0, is expanded. Then it is −1, and times 1.5 it is lower than any distance left.
filling_push : searched (lists ((1 ∷ []) ∷ (2 ∷ []) ∷ [] ∷ [])) 3 0 (distances (-one ∷ -one ∷ -one ∷ [])) 1 ≡ 0 ∷ 1 ∷ []
unfolding beam_search mul lt is_nan to_bits
filling_push = refl

-- ---- the stop by count

-- Each node leads to three more, all equally near. With one place ten nodes are not too many, so that a fourth list is looked at, to its end.
count_stop : searched (λ u. (3 * u + 1) ∷ (3 * u + 2) ∷ (3 * u + 3) ∷ []) 40 0 (λ _. +one) 1
    ≡ 0 ∷ 1 ∷ 2 ∷ 3 ∷ 4 ∷ 5 ∷ 6 ∷ 7 ∷ 8 ∷ 9 ∷ 10 ∷ 11 ∷ 12 ∷ []
unfolding beam_search mul lt is_nan to_bits
count_stop = refl

-- In a chain of equally near nodes each list scores one more: with one place the walk ends at the eleventh.
eleven_scored : searched (λ u. (u + 1) ∷ []) 40 0 (λ _. +one) 1 ≡ 0 ∷ 1 ∷ 2 ∷ 3 ∷ 4 ∷ 5 ∷ 6 ∷ 7 ∷ 8 ∷ 9 ∷ 10 ∷ []
unfolding beam_search mul lt is_nan to_bits
eleven_scored = refl

-- ---- graphs that no build makes

-- A distance that is no number holds its place against any other, and the cutoff is none either: nothing lies beyond it. It comes last.
nan_cutoff : searched (lists ((1 ∷ 2 ∷ []) ∷ [] ∷ (3 ∷ []) ∷ [] ∷ [])) 4 0 (distances (nan ∷ +one ∷ inf false ∷ two ∷ [])) 1 ≡ 0 ∷ 1 ∷ 2 ∷ 3 ∷ []
unfolding beam_search mul lt is_nan to_bits
nan_cutoff = refl

nan_last : answer_of (distances (nan ∷ +one ∷ inf false ∷ two ∷ [])) 4 (0 ∷ 1 ∷ 2 ∷ 3 ∷ []) ≡ 1 ∷ 3 ∷ 2 ∷ 0 ∷ []
unfolding answer_of is_nan to_bits
nan_last = refl

-- a node that nothing leads to is not found, however near
out_of_reach : answer_of (distances (two ∷ +zero ∷ [])) 2 (searched (lists ([] ∷ (0 ∷ []) ∷ [])) 2 0 (distances (two ∷ +zero ∷ [])) 2) ≡ 0 ∷ []
unfolding answer_of beam_search mul lt is_nan to_bits
out_of_reach = refl

-- ---- nodes that are not live

-- every node but these
abbrev but : List ℕ → ℕ → Bool
but gone v = not (has v gone)

abbrev searched_but : List ℕ → (ℕ → List ℕ) → (n entry : ℕ) → (ℕ → Float) → ℕ → List ℕ
searched_but gone list n entry = beam_search usual (record { n = n; list = list; live = but gone; entry = entry })

-- A chain of equally near nodes, of which five are not live: they are walked through, and neither scored nor counted. With one place the walk
-- ends at the eleventh live one.
through : searched_but (0 ∷ 2 ∷ 4 ∷ 6 ∷ 8 ∷ []) (λ u. (u + 1) ∷ []) 40 0 (λ _. +one) 1
    ≡ 1 ∷ 3 ∷ 5 ∷ 7 ∷ 9 ∷ 10 ∷ 11 ∷ 12 ∷ 13 ∷ 14 ∷ 15 ∷ []
unfolding beam_search has mul lt is_nan to_bits
through = refl

-- Node 1, the nearest, is not live, and sets no cutoff: node 2 is expanded though it lies beyond 1.5 times node 1's distance.
no_cutoff : searched_but (1 ∷ []) (lists ((1 ∷ 2 ∷ []) ∷ [] ∷ (3 ∷ []) ∷ [] ∷ [])) 4 0 (distances (two ∷ quarter ∷ two ∷ +one ∷ [])) 1 ≡ 0 ∷ 2 ∷ 3 ∷ []
unfolding beam_search has mul lt is_nan to_bits
no_cutoff = refl

-- with no place, and neither the entry node nor the next one live, the first expansion scores nothing, so that the walk goes on
none_live_yet : searched_but (0 ∷ 1 ∷ []) (λ u. (u + 1) ∷ []) 9 0 (λ _. +one) 0 ≡ 2 ∷ []
unfolding beam_search has mul lt is_nan to_bits
none_live_yet = refl
