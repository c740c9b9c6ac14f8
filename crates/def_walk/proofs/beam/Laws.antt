-- What a search promises on a graph in which every node is reached from the entry node. The walk ends with an empty frontier, and then has
-- scored all live nodes, or is stopped, and then b are scored at least. Before an expansion at most the multiplier times b are scored, or the entry
-- node alone, and an expansion adds at most a list's length. Assumes nothing.
use mathlib.Core.Path.{◌≡◌, refl, sym, ap, ◌∙◌, subst}
use mathlib.Core.Logic.{inl, inr}
use mathlib.Core.Bool.{Bool, false, not, ◌&&◌}
use mathlib.Core.List.Memᴰ.{eq_of_singleton as in_one}
use mathlib.Core.List.Memᴰ.{head as here}
use mathlib.Core.List.Memᴰ.{not-nil as in-nil}
use mathlib.Core.List.{List, [], ◌∷◌, reverse, Memᴰ as In}
use Prim.Native.Nat.{ℕ, ◌+◌, ◌*◌, ◌≤◌, ◌<◌, min, max}
use native.Mathlib.Omega.{arith}
use native.Mathlib.Nat.{mul-le-mul_right}
use lib.Dec.{T, leb, ltb, leb→le, ltb→lt, nltb→le}
use lib.ListN.{length, length-reverse, length-take}
use lib.IntN.{negsuc}
use lib.Ieee.{Float, fin, binary32, mul, lt}
use Rattle.basics.specs.Lists.{keep}
use Rattle.basics.specs.Nodes.{NoDup, Below}
use Rattle.basics.proofs.Counting.{shorter, all_in, down_from, length_down_from, in_down_from, down_from_below, nodup_down_from}
use Rattle.basics.proofs.Keeping.{in_keep, keep_in, keep_one, keep_few, keep_every, nodup_keep}
use Rattle.basics.proofs.Members.{both_left, in_take, nodup_take}
use Rattle.sorting.specs.Sorting.{sort_by, first_by}
use Rattle.sorting.specs.Inside.Pairs.{Rising}
use Rattle.sorting.proofs.Laws.{sort_in, in_sort, length_sort, sort_nodup, sort_rising, rising_take}
use Rattle.def_walk.specs.declared.Stops.{Stops}
use Rattle.def_walk.specs.Walk.{Reach, start, walk}
use Rattle.def_walk.proofs.walk.Laws.{Inv, Ended, walk_ended, walk_short, walk_same, reach_in}
use Rattle.def_walk.specs.KeepClosest.{key_at, held_of, cutoff_of}
use Rattle.def_walk.specs.Beam.{Network, usual, places_for, to_frontier, too_far, too_many, walked, beam_search, answer_of}
use Rattle.def_walk.proofs.beam.Reverse.{in_reverse, reverse_in, nodup_reverse}
use Rattle.def_walk.proofs.beam.Nearest.{left_out}
use Rattle.def_walk.proofs.beam.Inserting.{frontier_laws, held_length}

-- how many nodes are live
abbrev pub alive : Network → ℕ
alive g = length (keep g.live (down_from g.n))

pub alive_few : (g : Network) → alive g ≤ g.n
alive_few g = omega (arith, keep_few g.live (down_from g.n), length_down_from g.n)

-- what a walk with b places over lists of at most L entries promises of the nodes scored, and of the first k of them
pub record Found (stops : Stops) (g : Network) (L k b : ℕ) (far : ℕ → Float) (scored answer : List ℕ) : Type 0 where
  pub once : NoDup scored
  pub nodes : Below g.n scored
  pub living : (x : ℕ) → In x scored → T (g.live x)
  pub low : min (alive g) b ≤ length scored
  pub high : length scored ≤ min (alive g) (max 1 (stops.multiplier * b) + L)
  pub many : length answer ≡ min k (alive g)
  pub distinct : NoDup answer
  pub inside : Below g.n answer
  pub answered : (x : ℕ) → In x answer → T (g.live x)
  pub rising : Rising (key_at far) answer
  pub nearest : alive g ≤ b → (x y : ℕ) → In x answer → y < g.n → T (g.live y) → (In y answer → ⊥) → key_at far x ≤ key_at far y

-- ---- where every node is live, every node seen is scored

pub alive_every : (g : Network) → ((v : ℕ) → T (g.live v)) → alive g ≡ g.n
alive_every g all = ap length (keep_every g.live (down_from g.n) (λ v m. all v)) ∙ length_down_from g.n

pub all_live : (stops : Stops) (g : Network) (far : ℕ → Float) (b : ℕ) → ((v : ℕ) → T (g.live v))
    → beam_search stops g far b ≡ reverse (walk g.list (to_frontier far) (too_far stops far b) (too_many stops b) g.n (g.entry ∷ []) (g.entry ∷ []))
unfolding beam_search walked
all_live stops g far b all =
    let whole : (l : List ℕ) → keep g.live l ≡ l = λ l. keep_every g.live l (λ v m. all v) in
    ap reverse
    (whole (walked stops g far b)
    ∙ walk_same g.list (to_frontier far) (λ seen u. ap (λ (l : List ℕ). too_far stops far b l u) (whole seen)) (λ seen. ap (too_many stops b) (whole seen))
    g.n (g.entry ∷ []) (g.entry ∷ []))

-- the answer is the first k of what is scored
pub answer_first : (far : ℕ → Float) (k : ℕ) (scored : List ℕ) → answer_of far k scored ≡ first_by (key_at far) k scored
unfolding answer_of
answer_first far k scored = refl

-- ---- part 8's stop numbers: 1.5 times the cutoff, 10 times b

pub usual_far : (far : ℕ → Float) (b : ℕ) (scored : List ℕ) (u : ℕ)
    → too_far usual far b scored u ≡ (leb b (length (held_of far b scored)) && lt (mul binary32 (cutoff_of far b scored) (fin false 3 (negsuc 0))) (far u))
unfolding too_far
usual_far far b scored u = refl

pub usual_many : (b : ℕ) (scored : List ℕ) → too_many usual b scored ≡ ltb (10 * b) (length scored)
unfolding too_many
usual_many b scored = refl

-- ---- on any graph: what is scored are live nodes, each once, and no more than the stops allow

module _ (stops : Stops) (g : Network) (e-below : g.entry < g.n) (inside : (u v : ℕ) → In v (g.list u) → v < g.n) (far : ℕ → Float) (b : ℕ) where
  -- those of some nodes that are live
  abbrev living : List ℕ → List ℕ
  living seen = keep g.live seen

  begun : Inv g.list g.n g.entry (g.entry ∷ []) (g.entry ∷ [])
  begun = record {
    nodup = ((λ m. in-nil m), tt);
    below = λ x m. let q = in_one m in omega arith;
    root = here refl;
    sub = λ x m. m;
    reach = λ x m. subst (Reach g.list g.entry) (sym (in_one m)) start;
    closed = λ u m. inl m;
  }

  -- a walk that was stopped has scored b nodes at least; where it was stopped by the count that needs a multiplier of 1 or more
  abbrev Late : List ℕ → Type 0
  Late l = 1 ≤ stops.multiplier → b ≤ length (living l)

  far_late : (l : List ℕ) (u : ℕ) → T (too_far stops far b (living l) u) → Late l
  unfolding too_far
  far_late l u t some =
      let full : Bool = leb b (length (held_of far b (living l))) in
      omega (
        arith,
        leb→le b (length (held_of far b (living l))) (both_left full (lt (mul binary32 (cutoff_of far b (living l)) stops.factor) (far u)) t),
        held_length far b (living l),
      )

  many_late : (l : List ℕ) → T (too_many stops b (living l)) → Late l
  unfolding too_many
  many_late l t some = omega (arith, ltb→lt (stops.multiplier * b) (length (living l)) t, mul-le-mul_right b some)

  few_else : (l : List ℕ) → T (not (too_many stops b (living l))) → length (living l) ≤ max 1 (stops.multiplier * b)
  unfolding too_many
  few_else l t = omega (arith, nltb→le (stops.multiplier * b) (length (living l)) t)

  abbrev pub seen : List ℕ
  seen = walked stops g far b

  abbrev pub scored : List ℕ
  scored = beam_search stops g far b

  -- all that their lists lead to is seen, or b are scored
  pub ended : Ended g.list g.n g.entry Late (g.entry ∷ []) seen
  unfolding walked
  ended =
      walk_ended g.list g.n g.entry (to_frontier far) (frontier_laws far) (λ l u. too_far stops far b (living l) u) (λ l. too_many stops b (living l))
      Late far_late many_late (λ u v h. inside u v) g.n (g.entry ∷ []) (g.entry ∷ []) begun (omega arith)

  living_short : (L : ℕ) → ((u : ℕ) → u < g.n → length (g.list u) ≤ L) → length (living seen) ≤ max 1 (stops.multiplier * b) + L
  unfolding walked
  living_short L longest =
      walk_short g.list g.n g.entry (to_frontier far) (frontier_laws far) (λ l u. too_far stops far b (living l) u) (λ l. too_many stops b (living l))
      Late far_late many_late (λ u v h. inside u v) (λ l. length (living l)) (keep_one g.live)
      (max 1 (stops.multiplier * b)) L few_else longest g.n (g.entry ∷ []) (g.entry ∷ []) begun
      (omega (arith, keep_few g.live (g.entry ∷ [])))

  -- what is scored, in order, and the answer: on a store that no build made there may be fewer
  scored_seen : {x : ℕ} → In x scored → T (g.live x) × In x seen
  unfolding beam_search
  scored_seen m = in_keep g.live seen (in_reverse (living seen) m)

  scored_many : length scored ≡ length (living seen)
  unfolding beam_search
  scored_many = length-reverse (living seen)

  pub scored_once : NoDup scored
  unfolding beam_search
  scored_once = nodup_reverse (living seen) (nodup_keep g.live seen ended.nodup)

  pub scored_nodes : Below g.n scored
  scored_nodes x m = ended.below x (scored_seen m).1

  -- the entry node, if it is live
  pub entry_scored : T (g.live g.entry) → In g.entry scored
  unfolding beam_search
  entry_scored t = reverse_in (living seen) (keep_in g.live seen t (ended.keeps g.entry (here refl)))

  among_live : (x : ℕ) → In x scored → In x (keep g.live (down_from g.n))
  among_live x m = keep_in g.live (down_from g.n) (scored_seen m).0 (in_down_from g.n x (scored_nodes x m))

  pub scored_few : length scored ≤ alive g
  scored_few = shorter scored (keep g.live (down_from g.n)) scored_once among_live

  pub answer_few : (k : ℕ) → length (answer_of far k scored) ≤ min k (alive g)
  unfolding answer_of
  answer_few k = omega (arith, length-take k (sort_by (key_at far) scored), length_sort (key_at far) scored, scored_few)

  -- ---- where every node is reached

  module _ (some : 1 ≤ stops.multiplier) (reached : (x : ℕ) → x < g.n → Reach g.list g.entry x) where
    -- the live nodes, if the walk ends by itself
    holds_live : ((u : ℕ) → In u seen → (v : ℕ) → In v (g.list u) → In v seen) → alive g ≤ length (living seen)
    holds_live c =
        shorter (keep g.live (down_from g.n)) (living seen) (nodup_keep g.live (down_from g.n) (nodup_down_from g.n))
        (λ x m. let p = in_keep g.live (down_from g.n) m in
        keep_in g.live seen p.0 (reach_in seen (ended.keeps g.entry (here refl)) c (reached x (down_from_below g.n x p.1))))

    scored_enough : min (alive g) b ≤ length scored
    scored_enough = elim ended.why [ inl c ↦ omega (arith, holds_live c, scored_many) | inr h ↦ omega (arith, h some, scored_many) ]

    -- with a place for every live node, every live node is scored
    scored_whole : alive g ≤ b → (y : ℕ) → y < g.n → T (g.live y) → In y scored
    scored_whole h y l t =
        all_in scored (keep g.live (down_from g.n)) scored_once among_live (omega (arith, scored_enough))
        (keep_in g.live (down_from g.n) t (in_down_from g.n y l))

    -- ---- the search

    found : (L : ℕ) → ((u : ℕ) → u < g.n → length (g.list u) ≤ L) → (k : ℕ) → k ≤ b → Found stops g L k b far scored (answer_of far k scored)
    unfolding answer_of
    found L longest k few =
        let sorted : List ℕ = sort_by (key_at far) scored in record {
          once = scored_once;
          nodes = scored_nodes;
          living = λ x m. (scored_seen m).0;
          low = scored_enough;
          high = omega (arith, living_short L longest, scored_few, scored_many);
          many = omega (arith, length-take k sorted, length_sort (key_at far) scored, scored_few, scored_enough);
          distinct = nodup_take k sorted (sort_nodup (key_at far) scored scored_once);
          inside = λ y m. scored_nodes y (in_sort (key_at far) scored (in_take k sorted m));
          answered = λ y m. (scored_seen (in_sort (key_at far) scored (in_take k sorted m))).0;
          rising = rising_take (key_at far) k sorted (sort_rising (key_at far) scored);
          nearest = λ h x y m l t out.
              left_out (key_at far) k sorted (sort_rising (key_at far) scored) x y m (sort_in (key_at far) scored (scored_whole h y l t)) out;
        }

pub search_found : (stops : Stops) → 1 ≤ stops.multiplier → (g : Network) → g.entry < g.n → ((u v : ℕ) → In v (g.list u) → v < g.n)
    → ((x : ℕ) → x < g.n → Reach g.list g.entry x) → (far : ℕ → Float) (L : ℕ) → ((u : ℕ) → u < g.n → length (g.list u) ≤ L) → (k ef : ℕ)
    → Found stops g L k (places_for ef k) far (beam_search stops g far (places_for ef k)) (answer_of far k (beam_search stops g far (places_for ef k)))
search_found stops some g e-below inside reached far L longest k ef =
    found stops g e-below inside far (places_for ef k) some reached L longest k (omega arith)
