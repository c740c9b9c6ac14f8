-- Steps of the walk: where the frontier is empty, where it ends before an expansion, and where a node is expanded; and all steps one after the other.
-- Assumes nothing.
use mathlib.Core.Path.{◌≡◌, refl, sym, ap, ap₂, ◌∙◌, subst}
use mathlib.Core.Logic.{inl, inr}
use mathlib.Core.Bool.{Bool, true, false, ◌&&◌, ◌||◌}
use mathlib.Core.List.Memᴰ.{head as here}
use mathlib.Core.List.Memᴰ.{tail as there}
use mathlib.Core.List.{List, [], ◌∷◌, Memᴰ as In}
use Prim.Native.Nat.{ℕ, suc, ◌-◌, ◌*◌, ◌≤◌, ◌<◌}
use native.Mathlib.Omega.{arith}
use lib.Dec.{T, leb, ltb, leb→le}
use lib.ListN.{length, drop, length-drop}
use lib.Seq.{length-take-le}
use lib.Ieee.{Float, binary32, mul, lt}
use Rattle.basics.specs.Choice.{pick, pick_true, pick_false}
use Rattle.basics.specs.Lists.{keep}
use Rattle.basics.proofs.Counting.{all_of}
use Rattle.basics.proofs.Keeping.{keep_few}
use Rattle.basics.proofs.Tests.{one_true, both_false}
use Rattle.def_walk.specs.declared.Stops.{Stops}
use Rattle.def_walk.specs.Walk.{State, expand, walk}
use Rattle.def_walk.specs.Beam.{to_frontier, too_far, too_many}
use Rattle.beam_state.specs.Inside.Queues.{front_rank, Queue, Taken, Popping}
use Rattle.words.specs.declared.ids.Node.{Node}
use Rattle.beam_state.specs.declared.queues.Popped.{Popped}
use Rattle.beam_state.specs.declared.queues.Popped.TheVariants.{At, Empty}
use Rattle.sorting.specs.declared.Keyed.{Keyed}
use Rattle.neighbours.specs.Inside.Gathering.{Linked}
use Rattle.beam_state.specs.Inside.State.{part, frontier_at, held_at, words_for, held_end, frontier_part, Memory}
use Rattle.beam_state.specs.declared.Walk.{Walk}
use Rattle.beam_state.proofs.Moved.{scored_moved}
use Rattle.beam_state.proofs.Parts.{lay, lay_length, part_here, part_after, take_before}
use Rattle.beam_search.specs.declared.Reads.{Reads}
use Rattle.beam_search.specs.Inside.Search.{far_of, live_of, lists_of}
use Rattle.beam_search.specs.Inside.Steps.{Between, walk_on, Stepping, Walking}
use Rattle.beam_search.proofs.Taking.{same_mark, Expanding}
use Rattle.beam_search.proofs.Full.{same, walk_full, within_below}

module _ (reads : Reads) (links : List ℕ) (m : Memory) (x : List ℕ) (long : words_for reads.sizes.shape.n ≤ length m.words)
    (lx : length x ≡ length (frontier_part reads.sizes.shape.n m.words)) where
  abbrev n : ℕ
  n = reads.sizes.shape.n

  abbrev b : ℕ
  b = reads.sizes.places

  abbrev far : ℕ → Float
  far = far_of reads

  abbrev live : ℕ → Bool
  live = live_of reads

  abbrev stops : Stops
  stops = reads.sizes.stops

  abbrev w : Walk
  w = m.walk

  -- the memory with another frontier
  abbrev pub popped_to : Memory
  popped_to = record { words = lay (frontier_at n) (held_at n) x m.words; floats = m.floats; answer = m.answer; walk = m.walk }

  size : length x ≡ held_at n - frontier_at n
  size = lx ∙ length-take-le (held_at n - frontier_at n) (drop (frontier_at n) m.words) (omega (arith, length-drop (frontier_at n) m.words))

  pub popped_long : words_for n ≤ length popped_to.words
  popped_long = omega (arith, lay_length (frontier_at n) (held_at n) x m.words (omega arith) (omega arith) size)

  -- another frontier, and the rest as before
  after_pop : (answer₀ : List Keyed) (seen front rest : List ℕ) → Between reads.sizes far live answer₀ m seen front → Queue (front_rank far) n rest x → ((y : ℕ) → In y rest → In y front)
      → Between reads.sizes far live answer₀ popped_to seen rest
  after_pop answer₀ seen front rest t q s = record {
    marks = λ v h. same_mark n v m.words popped_to.words h (take_before (frontier_at n) (held_at n) x m.words (omega arith) (omega arith) size (frontier_at n) (omega arith)) ∙ t.marks v h;
    standing = record {
      frontier = subst (Queue (front_rank far) n rest) (sym (part_here (frontier_at n) (held_at n) x m.words (omega arith) (omega arith) size)) q;
      scored = scored_moved m.words popped_to.words m.floats m.floats (kept (held_at n) (held_end n b) (omega arith)) t.standing.scored;
      once = t.standing.once;
      inside = t.standing.inside;
      sub = λ y i. t.standing.sub y (s y i);
    };
    known = t.known;
    room = t.room;
  }
    where
      kept : (a e : ℕ) → held_at n ≤ a → part a e m.words ≡ part a e popped_to.words
      kept a e h = sym (part_after (frontier_at n) (held_at n) x m.words (omega arith) (omega arith) size a e h)

  module _ (popped : Popped) (pop : Popping m.floats (frontier_part n m.words) x popped) where
    taken : (answer₀ : List Keyed) (seen front : List ℕ) → Between reads.sizes far live answer₀ m seen front → Taken far n front x popped
    taken answer₀ seen front t = pop far n front (record { few = t.known.few; f32s = t.known.f32s; there = λ v i. t.known.there v (t.standing.sub v i) }) t.standing.frontier

    not-both : (d : Float) (v : Node) → popped ≡ Empty → popped ≡ At d v → ⊥
    not-both d v p q = let z : ◌≡◌ {A = ℕ} 0 1 = cc in omega arith

    pub step_empty : popped ≡ Empty → Stepping reads links m popped_to true
    unfolding walk
    step_empty e linked answer₀ seen [] t = record {
      seen' = seen;
      front' = [];
      stands = after_pop answer₀ seen [] [] t (taken answer₀ seen [] t).1 (λ y i. i);
      ends = λ _ more. refl;
      goes = λ f. absurd (mathlib.Core.Bool.true≢false f);
    }
    step_empty e linked answer₀ seen (u ∷ rest) t = absurd (not-both (far u) (record { 0 = u }) e (taken answer₀ seen (u ∷ rest) t).0)

    module _ (d : Float) (v : Node) (got : popped ≡ At d v) (stop : Bool) (stop_is : stop ≡ (leb b w.held && lt (mul binary32 w.cutoff stops.factor) d)) where
      -- what is in it
      abbrev content : Popped → Float × Node
      content Empty = (d, v)
      content (At x u) = (x, u)

      same_distance : (u : ℕ) → popped ≡ At (far u) (record { 0 = u }) → d ≡ far u
      same_distance u e = ap (λ (o : Popped). (content o).0) (sym got ∙ e)

      same_node : (u : ℕ) → popped ≡ At (far u) (record { 0 = u }) → v.0 ≡ u
      same_node u e = ap (λ (o : Popped). (content o).1.0) (sym got ∙ e)

      too_far_is : (answer₀ : List Keyed) (seen rest : List ℕ) (u : ℕ) → Between reads.sizes far live answer₀ m seen (u ∷ rest) → too_far stops far b (keep live seen) u ≡ stop
      unfolding too_far
      too_far_is answer₀ seen rest u t =
          sym (stop_is
          ∙ ap₂ (λ (p : Bool) (q : Bool). p && q) (ap (leb b) t.standing.scored.held_count)
          (ap₂ (λ (p : Float) (q : Float). lt (mul binary32 p stops.factor) q) t.standing.scored.cutoff_is (same_distance u (taken answer₀ seen (u ∷ rest) t).0)))

      pub step_far : stop ≡ true → Stepping reads links m popped_to true
      unfolding walk
      step_far s linked answer₀ seen [] t = absurd (not-both d v (taken answer₀ seen [] t).0 got)
      step_far s linked answer₀ seen (u ∷ rest) t = record {
        seen' = seen;
        front' = rest;
        stands = after_pop answer₀ seen (u ∷ rest) rest t (taken answer₀ seen (u ∷ rest) t).1 (λ y i. there i);
        ends = λ _ more. pick_true _ _ (too_far_is answer₀ seen rest u t ∙ s);
        goes = λ f. absurd (mathlib.Core.Bool.true≢false f);
      }

      pub step_on : (m' : Memory) (done : Bool) → stop ≡ false → Expanding reads links v.0 popped_to m'
          → done ≡ (ltb (stops.multiplier * b) m'.walk.scored || leb n m'.walk.scored) → Stepping reads links m m' done
      unfolding walk too_many
      step_on m' done s expanding di linked answer₀ seen [] t = absurd (not-both d v (taken answer₀ seen [] t).0 got)
      step_on m' done s expanding di linked answer₀ seen (u ∷ rest) t = record {
        seen' = next.seen;
        front' = next.front;
        stands = there';
        ends = λ f more. on more ∙ elim (one_true (ltb (stops.multiplier * b) m'.walk.scored) (leb n m'.walk.scored) (sym di ∙ f)) [
          | inl e ↦ pick_true next.seen (walk_on reads more next.seen next.front) (many ∙ e)
          | inr e ↦
              let all : n ≤ length next.seen = omega (arith, leb→le n m'.walk.scored (subst T (sym e) tt), there'.standing.scored.scored_is, keep_few live next.seen) in
              same (too_many stops b (keep live next.seen)) next.seen _ next.seen refl
              (walk_full (lists_of reads) (to_frontier far) (λ l z. too_far stops far b (keep live l) z) (λ l. too_many stops b (keep live l)) next.seen
              (λ a y i. all_of n next.seen there'.standing.once there'.standing.inside all y (within_below n _ y i)) more next.front)
        ];
        goes = λ f more. on more ∙ pick_false next.seen (walk_on reads more next.seen next.front) (many ∙ (both_false _ _ (sym di ∙ f)).0);
      }
        where
          -- the state where node y is expanded
          expanded : ℕ → State
          expanded y = expand (to_frontier far) (record { seen = seen; front = rest }) (lists_of reads y)

          next : State
          next = expanded u

          at : v.0 ≡ u
          at = same_node u (taken answer₀ seen (u ∷ rest) t).0

          v_below : v.0 < n
          v_below = subst (λ (y : ℕ). y < n) (sym at) (t.standing.inside u (t.standing.sub u (here refl)))

          there' : Between reads.sizes far live answer₀ m' next.seen next.front
          there' = subst (λ (y : ℕ). Between reads.sizes far live answer₀ m' (expanded y).seen (expanded y).front) at
              (expanding linked v_below answer₀ seen rest (after_pop answer₀ seen (u ∷ rest) rest t (taken answer₀ seen (u ∷ rest) t).1 (λ y i. there i)))

          many : too_many stops b (keep live next.seen) ≡ ltb (stops.multiplier * b) m'.walk.scored
          many = ap (ltb (stops.multiplier * b)) (sym there'.standing.scored.scored_is)

          on : (more : ℕ) → walk_on reads (suc more) seen (u ∷ rest) ≡ pick (too_many stops b (keep live next.seen)) next.seen (walk_on reads more next.seen next.front)
          on more = pick_false _ _ (too_far_is answer₀ seen rest u t ∙ s)

-- ---- all steps

pub record Along (reads : Reads) (answer₀ : List Keyed) (m : Memory) (left : ℕ) (whole : List ℕ) : Type 0 where
  pub seen' : List ℕ
  pub front' : List ℕ
  pub stands : Between reads.sizes (far_of reads) (live_of reads) answer₀ m seen' front'
  pub same : whole ≡ walk_on reads left seen' front'

-- from the memory m₀ on, with `left` steps to go
pub record Onward (reads : Reads) (links : List ℕ) (m₀ m : Memory) (left : ℕ) : Type 0 where
  pub within : left ≤ reads.sizes.shape.n
  pub words_kept : length m.words ≡ length m₀.words
  pub floats_kept : length m.floats ≡ length m₀.floats
  pub answer_kept : length m.answer ≡ length m₀.answer
  pub so_far : Linked reads.sizes.shape.n reads.bridges.now links → (answer₀ : List Keyed) (seen front : List ℕ) → Between reads.sizes (far_of reads) (live_of reads) answer₀ m₀ seen front
      → Along reads answer₀ m left (walk_on reads reads.sizes.shape.n seen front)

pub onward_none : (reads : Reads) (links : List ℕ) (m : Memory) → Onward reads links m m reads.sizes.shape.n
onward_none reads links m = record {
  within = omega arith;
  words_kept = refl;
  floats_kept = refl;
  answer_kept = refl;
  so_far = λ linked answer₀ seen front t. record { seen' = seen; front' = front; stands = t; same = refl };
}

module _ {reads : Reads} {links : List ℕ} {m₀ m : Memory} {left : ℕ} (o : Onward reads links m₀ m left) where
  pub onward_all : left ≤ 0 → Walking reads links m₀ m
  unfolding walk
  onward_all h linked answer₀ seen front t =
      let a = o.so_far linked answer₀ seen front t in
      let none : left ≡ 0 = omega arith in
      let e : walk_on reads reads.sizes.shape.n seen front ≡ a.seen' = a.same ∙ ap (λ (k : ℕ). walk_on reads k a.seen' a.front') none in
      record { front = a.front'; stands = subst (λ (l : List ℕ). Between reads.sizes (far_of reads) (live_of reads) answer₀ m l a.front') (sym e) a.stands }

  module _ (m' : Memory) (done : Bool) (more : 0 < left) (step : Stepping reads links m m' done) where
    one_less : left ≡ suc (left - 1)
    one_less = omega arith

    pub onward_more : done ≡ false → length m'.words ≡ length m.words → length m'.floats ≡ length m.floats → length m'.answer ≡ length m.answer
        → Onward reads links m₀ m' (left - 1)
    onward_more d lw lf ln = record {
      within = omega (arith, o.within);
      words_kept = lw ∙ o.words_kept;
      floats_kept = lf ∙ o.floats_kept;
      answer_kept = ln ∙ o.answer_kept;
      so_far = λ linked answer₀ seen front t.
          let a = o.so_far linked answer₀ seen front t in
          let s = step linked answer₀ a.seen' a.front' a.stands in record {
            seen' = s.seen';
            front' = s.front';
            stands = s.stands;
            same = a.same ∙ ap (λ (k : ℕ). walk_on reads k a.seen' a.front') one_less ∙ s.goes d (left - 1);
          };
    }

    pub onward_ends : done ≡ true → Walking reads links m₀ m'
    onward_ends d linked answer₀ seen front t =
        let a = o.so_far linked answer₀ seen front t in
        let s = step linked answer₀ a.seen' a.front' a.stands in
        let e : walk_on reads reads.sizes.shape.n seen front ≡ s.seen' = a.same ∙ ap (λ (k : ℕ). walk_on reads k a.seen' a.front') one_less ∙ s.ends d (left - 1) in
        record { front = s.front'; stands = subst (λ (l : List ℕ). Between reads.sizes (far_of reads) (live_of reads) answer₀ m' l s.front') (sym e) s.stands }
