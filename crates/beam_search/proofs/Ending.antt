-- How a walk begins and what it leaves: there is room, nothing is marked, the entry node is taken in, and at the end the answer stands with its
-- distances. Assumes nothing.
use mathlib.Core.Path.{◌≡◌, refl, sym, ap, ap₂, ◌∙◌, subst}
use mathlib.Core.Bool.{Bool, true, false, ◌||◌}
use mathlib.Core.List.{List, [], ◌∷◌, ◌++◌, map, reverse}
use mathlib.Core.List.Memᴰ.{not-nil as in-nil}
use mathlib.Core.List.{Memᴰ as In}
use Prim.Native.Nat.{ℕ, ◌-◌, ◌/◌, ◌≤◌, ◌<◌, min}
use native.Mathlib.Omega.{arith}
use lib.Dec.{T, ltb}
use borrow.Author.Tests.{lt-ltb, le-ltb, ltb-false}
use lib.ListN.{length, get_or, take, drop, replicate, length-drop, length-map, length-append, length-replicate, length-reverse, get_or-replicate, get_or-append}
use lib.Seq.{length-take-le, take-nil, take_at}
use lib.Ieee.{Float, binary32, fits, inf}
use Rattle.basics.specs.Choice.{pick, pick_true}
use Rattle.basics.specs.Lists.{keep}
use Rattle.basics.specs.Nodes.{has}
use Rattle.basics.proofs.Members.{map_in}
use Rattle.basics.proofs.Tests.{both_false}
use Rattle.basics.proofs.Counting.{at_most}
use Rattle.basics.proofs.Keeping.{in_keep, keep_few}
use Rattle.sorting.specs.declared.Keyed.{Keyed}
use Rattle.sorting.specs.Sorting.{sort_by, first_by}
use Rattle.sorting.proofs.Laws.{length_first, first_in}
use Rattle.beam_state.specs.Inside.Tournament.{empty_rank, Tournament}
use Rattle.def_walk.specs.Walk.{State, visit, expand}
use Rattle.def_walk.specs.KeepClosest.{key_at, insert_in, held_of, cutoff_of}
use Rattle.def_walk.specs.Beam.{to_frontier, walked, beam_search, answer_of}
use Rattle.def_walk.proofs.beam.Reverse.{in_reverse}
use Rattle.beam_state.specs.Inside.Queues.{front_rank}
use Rattle.beam_state.proofs.queues.Laws.{empty_queue}
use Rattle.beam_state.proofs.queues.Holding.{none_held}
use Rattle.neighbours.specs.Inside.Gathering.{fresh_end, Beginning}
use Rattle.beam_state.specs.Inside.State.{part, frontier_at, held_at, words_for, held_end, frontier_part, held_part, pair_of, Memory, AnswerHeld, Standing}
use Rattle.beam_state.specs.declared.Walk.{Walk}
use Rattle.beam_state.proofs.Parts.{lay, lay_length, part_here, part_before, take_before}
use Rattle.beam_search.specs.declared.Sizes.{Sizes}
use Rattle.beam_search.specs.declared.Reads.{Reads}
use Rattle.beam_search.specs.Inside.Search.{within, far_of, live_of, scored_by, Searched}
use Rattle.beam_search.specs.Inside.Steps.{Between, TakingIn, walk_on, Prepared, Starting, PutDistances}
use Rattle.beam_search.proofs.Taking.{gathered_in, same_mark}

-- ---- room

-- the words of scratch, the nodes or the words of bridges do not fit
abbrev short : ℕ → ℕ → ℕ → Bool
short words n bridges = (ltb (words / 14) n || ltb 1024 n) || ltb n (bridges / 2)

pub record Room (words n bridges : ℕ) : Type 0 where
  pub scratch : n ≤ words / 14
  pub nodes : n ≤ 1024
  pub pairs : bridges / 2 ≤ n

module _ (words n bridges : ℕ) where
  pub has_room : short words n bridges ≡ false → Room words n bridges
  has_room e =
      let t2 = both_false (ltb (words / 14) n || ltb 1024 n) (ltb n (bridges / 2)) e in
      let t1 = both_false (ltb (words / 14) n) (ltb 1024 n) t2.0 in record {
        scratch = ltb-false (words / 14) n t1.0;
        nodes = ltb-false 1024 n t1.1;
        pairs = ltb-false n (bridges / 2) t2.1;
      }

  pub no_room : short words n bridges ≡ true → Room words n bridges → ⊥
  no_room e r =
      mathlib.Core.Bool.true≢false
      (sym e ∙ ap₂ ◌||◌ (ap₂ ◌||◌ (le-ltb (words / 14) n r.scratch) (le-ltb 1024 n r.nodes)) (le-ltb n (bridges / 2) r.pairs))

-- ---- the distances of the answer

-- ---- cleared

module _ (n b : ℕ) (words x y z : List ℕ) (long : words_for n ≤ length words) (xi : x ≡ replicate (length (take n words)) 0) where
  abbrev w₁ : List ℕ
  w₁ = x ++ drop n words

  lx : length x ≡ n
  lx = ap length xi ∙ length-replicate {A = ℕ} (length (take n words)) 0 ∙ length-take-le n words (omega arith)

  l₁ : length w₁ ≡ length words
  l₁ = omega (arith, length-append x (drop n words), length-drop n words, lx)

  module _ (ly : length y ≡ length (frontier_part n w₁)) where
    abbrev w₂ : List ℕ
    w₂ = lay (frontier_at n) (held_at n) y w₁

    part₁ : length (frontier_part n w₁) ≡ held_at n - frontier_at n
    part₁ = length-take-le (held_at n - frontier_at n) (drop (frontier_at n) w₁) (omega (arith, length-drop (frontier_at n) w₁, l₁))

    l₂ : length w₂ ≡ length words
    l₂ = lay_length (frontier_at n) (held_at n) y w₁ (omega arith) (omega (arith, l₁)) (ly ∙ part₁) ∙ l₁

    module _ (e : ℕ) (e-is : e ≡ held_end n b) (lz : length z ≡ length (part (held_at n) e w₂)) where
      abbrev w₃ : List ℕ
      w₃ = lay (held_at n) e z w₂

      from : held_at n ≤ e
      from = omega arith

      upto : e ≤ length w₂
      upto = omega (arith, l₂)

      part₂ : length (part (held_at n) e w₂) ≡ e - held_at n
      part₂ = length-take-le (e - held_at n) (drop (held_at n) w₂) (omega (arith, length-drop (held_at n) w₂, upto))

      pub prepared : Tournament (replicate (length (frontier_part n w₁) / 4) empty_rank) y → Tournament (replicate (length (part (held_at n) e w₂) / 4) empty_rank) z → Prepared n b w₃
      prepared ty tz = record {
        marks = λ v h. same_mark n v w₁ w₃ h same ∙ get_or-append x (drop n words) 0 v (omega (arith, lx)) ∙ ap (λ (l : List ℕ). get_or l v 0) xi
            ∙ get_or-replicate (length (take n words)) v 0 0 (omega (arith, length-take-le n words (omega arith)));
        front = let four : length (frontier_part n w₁) / 4 ≡ n = omega (arith, part₁) in rw front_is (rw four at ty);
        held =
            let four : length (part (held_at n) e w₂) / 4 ≡ min b n = omega (arith, part₂) in
            subst (λ (i : ℕ). Tournament (replicate (min b n) empty_rank) (part (held_at n) i w₃)) e-is
            (rw (part_here (held_at n) e z w₂ from upto (lz ∙ part₂)) (rw four at tz));
      }
        where
          same : take (frontier_at n) w₃ ≡ take (frontier_at n) w₁
          same =
              take_before (held_at n) e z w₂ from upto (lz ∙ part₂) (frontier_at n) (omega arith)
              ∙ take_before (frontier_at n) (held_at n) y w₁ (omega arith) (omega (arith, l₁)) (ly ∙ part₁) (frontier_at n) (omega arith)

          front_is : frontier_part n w₃ ≡ y
          front_is =
              part_before (held_at n) e z w₂ from upto (lz ∙ part₂) (frontier_at n) (held_at n) (omega arith) (omega arith)
              ∙ part_here (frontier_at n) (held_at n) y w₁ (omega arith) (omega (arith, l₁)) (ly ∙ part₁)

-- ---- begun

abbrev pub no_walk : Walk
no_walk = record { scored = 0; held = 0; cutoff = inf false; kept = 0 }

none_standing : (far : ℕ → Float) (live : ℕ → Bool) (n b : ℕ) (words : List ℕ) (floats : List Float) (answer : List Keyed) → n ≤ 1024 → Prepared n b words
    → Standing far live n b answer (record { words = words; floats = floats; answer = answer; walk = no_walk }) [] []
unfolding held_of cutoff_of sort_by keep
none_standing far live n b words floats answer few p = record {
  frontier = empty_queue (front_rank far) n (frontier_part n words) p.front;
  scored = record {
    held = none_held far (min b n) (held_part n b words) (omega arith) p.held;
    held_count = refl;
    cutoff_is = refl;
    answer = record {
      pairs_are = sym (ap (λ (l : List ℕ). map (pair_of far) l ++ answer) (take-nil (length answer)));
      kept_is = omega arith;
      long = refl;
    };
    scored_is = refl;
  };
  once = tt;
  inside = λ x m. absurd (in-nil m);
  sub = λ x m. m;
}

-- the entry node alone is expanded to from nothing
first_one : (far : ℕ → Float) (n e : ℕ) → e < n → expand (to_frontier far) (record { seen = []; front = [] }) (within n (e ∷ [])) ≡ record { seen = e ∷ []; front = e ∷ [] }
unfolding keep expand visit has pick to_frontier insert_in
first_one far n e h = ap (λ (l : List ℕ). expand (to_frontier far) (record { seen = []; front = [] }) l) (pick_true (e ∷ []) [] (lt-ltb e n h))

pub started : (sizes : Sizes) (far : ℕ → Float) (live : ℕ → Bool) (count : ℕ) (words between : List ℕ) (floats : List Float) (answer : List Keyed) (m' : Memory) → ((v : ℕ) → T (fits binary32 (far v)))
    → fresh_end sizes.shape.n ≤ length words → Prepared sizes.shape.n sizes.places words → Beginning sizes.shape.n sizes.entry.0 words between count
    → TakingIn sizes far live count (record { words = between; floats = floats; answer = answer; walk = no_walk }) m'
    → take (frontier_at sizes.shape.n) m'.words ≡ take (frontier_at sizes.shape.n) between → Starting sizes far live floats answer m'
unfolding has pick
started sizes far live count words between floats answer m' f32s long p begin taking frame h few room =
    subst (λ (s : State). Between sizes far live answer m' s.seen s.front) (first_one far sizes.shape.n sizes.entry.0 h)
    (gathered_in sizes far live count (sizes.entry.0 ∷ []) between (record { words = words; floats = floats; answer = answer; walk = no_walk }) m' answer (record { seen = []; front = [] }) long (begin h) taking frame
    p.marks (none_standing far live sizes.shape.n sizes.places words floats answer few p) (record { few = few; f32s = f32s; there = λ v i. absurd (in-nil i) }) room)

-- ---- ended

module _ (reads : Reads) (answer : List Keyed) (m : Memory) (front : List ℕ) (distances distances' : List Float) (count : ℕ)
    (t : Between reads.sizes (far_of reads) (live_of reads) answer m (walk_on reads reads.sizes.shape.n (reads.sizes.entry.0 ∷ []) (reads.sizes.entry.0 ∷ [])) front) (few : reads.sizes.shape.n ≤ 1024)
    (room : length answer ≤ length distances) (put : PutDistances m.walk.kept m.answer m.floats distances distances') (count_is : m.walk.kept < 4294967296 → count ≡ m.walk.kept) where
  abbrev n : ℕ
  n = reads.sizes.shape.n

  abbrev far : ℕ → Float
  far = far_of reads

  abbrev r : Walk
  r = m.walk

  abbrev seen : List ℕ
  seen = walk_on reads n (reads.sizes.entry.0 ∷ []) (reads.sizes.entry.0 ∷ [])

  -- those of them that are live
  abbrev scored : List ℕ
  scored = keep (live_of reads) seen

  a : AnswerHeld far answer m.answer r.kept scored
  a = t.standing.scored.answer

  scored_few : length scored ≤ n
  scored_few = omega (arith, keep_few (live_of reads) seen, at_most n seen t.standing.once t.standing.inside)

  abbrev found : List ℕ
  found = answer_of far (length answer) (reverse scored)

  found_length : length found ≡ r.kept
  unfolding answer_of
  found_length =
      length_first (key_at far) (length answer) (reverse scored) ∙ ap (min (length answer)) (length-reverse scored)
      ∙ ap (λ (k : ℕ). min k (length scored)) (sym a.long) ∙ sym a.kept_is

  kept_few : (r.kept ≤ n) × (r.kept ≤ length answer)
  kept_few = (omega (arith, a.kept_is, scored_few), omega (arith, a.kept_is, a.long))

  answer_is : m.answer ≡ map (pair_of far) found ++ drop r.kept answer
  unfolding answer_of
  answer_is = a.pairs_are ∙ ap (λ (k : ℕ). map (pair_of far) (first_by (key_at far) k (reverse scored)) ++ drop r.kept answer) a.long

  front_is : take r.kept m.answer ≡ map (pair_of far) found
  front_is = ap (take r.kept) answer_is ∙ take_at (map (pair_of far) found) (drop r.kept answer) r.kept (length-map found (pair_of far) ∙ found_length)

  found_in_lem : (x : ℕ) → In x found → In x seen
  unfolding answer_of
  found_in_lem x i = (in_keep (live_of reads) seen (in_reverse scored (first_in (key_at far) (length answer) (reverse scored) i))).1

  -- the distance of an answer's node is read at the node
  read : (l : List ℕ) → map (λ (p : Keyed). get_or m.floats p.id (inf false)) (map (pair_of far) l) ≡ map (λ v. get_or m.floats v (inf false)) l
  read [] = refl
  read (v ∷ l) = ap (λ (x : List Float). get_or m.floats v (inf false) ∷ x) (read l)

  pub searched : Searched far (answer_of far (length answer) (scored_by reads)) (scored_by reads) answer m.answer distances distances'
      (record { count = count; scored = r.scored })
  unfolding beam_search walked
  searched = record {
    count_is = count_is (omega (arith, kept_few.0)) ∙ sym found_length;
    scored_is = t.standing.scored.scored_is ∙ sym (length-reverse scored);
    answer_is = answer_is ∙ ap (λ (k : ℕ). map (pair_of far) found ++ drop k answer) (sym found_length);
    distances_are =
        put (omega (arith, kept_few.1, a.long)) (omega (arith, kept_few.1))
        ∙ ap₂ (λ (l : List Float) (k : ℕ). l ++ drop k distances)
        (ap (map (λ (p : Keyed). get_or m.floats p.id (inf false))) front_is
        ∙ read found
        ∙ map_in (λ v. get_or m.floats v (inf false)) far found (λ x i. t.known.there x (found_in_lem x i)))
        (sym found_length);
  }
