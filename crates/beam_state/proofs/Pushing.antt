-- One node pushed, and several. Assumes nothing.
use mathlib.Core.Path.{◌≡◌, refl, sym, ap, ◌∙◌, subst}
use mathlib.Core.Logic.{inl, inr}
use mathlib.Core.Bool.{Bool, true, false}
use mathlib.Core.List.Memᴰ.{cases_cons as in-cons}
use mathlib.Core.List.Memᴰ.{head as here}
use mathlib.Core.List.Memᴰ.{tail as there}
use mathlib.Core.List.{List, [], ◌∷◌, Memᴰ as In}
use Prim.Native.Nat.{ℕ, suc, ◌+◌, ◌-◌, ◌≤◌, ◌<◌, min}
use native.Mathlib.Omega.{arith}
use native.Mathlib.Numerals.{add-one}
use lib.Dec.{T}
use lib.ListN.{length, get_or, take, drop, length-drop}
use lib.Seq.{length-take-le, take_all, take-suc, split_at, get_or-take, get_or-drop}
use lib.Ieee.{Float, binary32, inf}
use Rattle.basics.specs.Lists.{keep}
use Rattle.basics.specs.Nodes.{NoDup, Below}
use Rattle.basics.proofs.Counting.{at_most}
use Rattle.basics.proofs.Keeping.{keep_yes, keep_no, keep_few}
use Rattle.distance.specs.Order.{key_of}
use Rattle.sorting.specs.declared.Keyed.{Keyed}
use Rattle.sorting.specs.Inside.Pairs.{put_front, kept_pairs}
use Rattle.def_walk.specs.Walk.{State}
use Rattle.def_walk.specs.KeepClosest.{key_at, keep_closest, held_of, cutoff_of}
use Rattle.def_walk.specs.Beam.{to_frontier}
use Rattle.beam_state.specs.Inside.Queues.{front_rank, Queue, Held, Known, Entering, Keeping}
use Rattle.beam_state.specs.declared.queues.Closest.{Closest}
use Rattle.def_walk.proofs.beam.Inserting.{frontier_laws, held_length}
use Rattle.beam_state.specs.Inside.State.{part, frontier_at, held_at, words_for, held_end, frontier_part, live_by, Memory, Scored, Standing, Pushing, PushingAll, pushed}
use Rattle.beam_state.specs.declared.Walk.{Walk}
use Rattle.beam_state.proofs.Parts.{lay, lay_length, part_here, part_before, part_after, take_before}
use Rattle.beam_state.proofs.Pushed.{pushed_append, pushed_keeps, pushed_once}
use Rattle.beam_state.proofs.Moved.{scored_moved}
use Rattle.beam_state.proofs.Answers.{answer_more}

-- ---- one node

-- The frontier is written first: x is what it becomes, and the parts behind it stay.
module _ (n b v : ℕ) (floats : List Float) (walk : Walk) (words : List ℕ) (answer : List Keyed) (withdrawn : List ℕ) (long : words_for n ≤ length words) (x : List ℕ)
    (lx : length x ≡ length (frontier_part n words)) where
  abbrev w₁ : List ℕ
  w₁ = lay (frontier_at n) (held_at n) x words

  size_x : length x ≡ held_at n - frontier_at n
  size_x = lx ∙ length-take-le (held_at n - frontier_at n) (drop (frontier_at n) words) (omega (arith, length-drop (frontier_at n) words))

  l₁ : length w₁ ≡ length words
  l₁ = lay_length (frontier_at n) (held_at n) x words (omega arith) (omega arith) size_x

  pub enter_frame : take (frontier_at n) w₁ ≡ take (frontier_at n) words
  enter_frame = take_before (frontier_at n) (held_at n) x words (omega arith) (omega arith) size_x (frontier_at n) (omega arith)

  front₁ : frontier_part n w₁ ≡ x
  front₁ = part_here (frontier_at n) (held_at n) x words (omega arith) (omega arith) size_x

  behind₁ : (from to : ℕ) → held_at n ≤ from → part from to w₁ ≡ part from to words
  behind₁ from to h = part_after (frontier_at n) (held_at n) x words (omega arith) (omega arith) size_x from to h

  -- what a node that has its distance and key does to what stands, whatever the words are that it leaves
  module _ (d : Float) (key : ℕ) (enter : Entering v key (frontier_part n words) x) (di : d ≡ get_or floats v (inf false)) (ki : key ≡ key_of binary32 d) (far : ℕ → Float) (live : ℕ → Bool) (answer₀ : List Keyed) (seen front : List ℕ) (known : Known far n (v ∷ seen) floats)
      (low : v < n) (out : In v seen → ⊥)
      (s : Standing far live n b answer₀ (record { words = words; floats = floats; answer = answer; walk = walk }) seen front) where
    same_distance : d ≡ far v
    same_distance = di ∙ known.there v (here refl)

    same_key : key ≡ key_at far v
    same_key = ki ∙ ap (key_of binary32) same_distance

    below : Below n (v ∷ seen)
    below u m = elim (in-cons m) [ inl e ↦ omega arith | inr i ↦ s.inside u i ]

    few : suc (length (keep live seen)) ≤ n
    few = omega (arith, keep_few live seen, at_most n (v ∷ seen) (out, s.once) below)

    stands_more : (m' : Memory) → frontier_part n m'.words ≡ x → Scored far n b answer₀ m' (keep live (v ∷ seen))
        → Standing far live n b answer₀ m' (v ∷ seen) (to_frontier far v front)
    stands_more m' fi scored = record {
      frontier = subst (Queue (front_rank far) n (to_frontier far v front)) (sym fi) (enter far n front known.few known.f32s same_key low (λ m. out (s.sub v m)) s.frontier);
      scored = scored;
      once = (out, s.once);
      inside = below;
      sub = λ u m. elim ((frontier_laws far).only u v front m) [ inl e ↦ here e | inr i ↦ there (s.sub u i) ];
    }

  -- a node that is not live changes nothing else
  pub push_not : (d : Float) (key : ℕ) → Entering v key (frontier_part n words) x → d ≡ get_or floats v (inf false) → key ≡ key_of binary32 d
      → live_by withdrawn v ≡ false → Pushing n b v withdrawn (record { words = words; floats = floats; answer = answer; walk = walk })
      (record { words = w₁; floats = floats; answer = answer; walk = walk })
  push_not d key enter di ki off far answer₀ seen front known low out s =
      let live : ℕ → Bool = live_by withdrawn in
      stands_more d key enter di ki far live answer₀ seen front known low out s _ front₁
      (subst (Scored far n b answer₀ _) (sym (keep_no live v seen (subst (λ (t : Bool). T (mathlib.Core.Bool.not t)) (sym off) tt)))
      (scored_moved words w₁ floats floats (sym (behind₁ (held_at n) (held_end n b) (omega arith))) s.scored))

  -- then the held, y, and the answer
  module _ (e : ℕ) (e-is : e ≡ held_end n b) (y : List ℕ) (answer' : List Keyed) (ly : length y ≡ length (part (held_at n) e w₁)) where
    from : held_at n ≤ e
    from = omega arith

    upto : e ≤ words_for n
    upto = omega arith

    abbrev w₂ : List ℕ
    w₂ = lay (held_at n) e y w₁

    size_y : length y ≡ e - held_at n
    size_y = ly ∙ length-take-le (e - held_at n) (drop (held_at n) w₁) (omega (arith, length-drop (held_at n) w₁, l₁, upto))

    pub push_frame : take (frontier_at n) w₂ ≡ take (frontier_at n) words
    push_frame = take_before (held_at n) e y w₁ from (omega (arith, l₁, upto)) size_y (frontier_at n) (omega arith) ∙ enter_frame

    front_is : frontier_part n w₂ ≡ x
    front_is =
        part_before (held_at n) e y w₁ from (omega (arith, l₁, upto)) size_y (frontier_at n) (held_at n) (omega arith) (omega arith) ∙ front₁

    held_is : part (held_at n) e w₂ ≡ y
    held_is = part_here (held_at n) e y w₁ from (omega (arith, l₁, upto)) size_y

    pub push_is : (closest : Closest) (d : Float) (key r scored' : ℕ) → Entering v key (frontier_part n words) x
        → Keeping b walk.held d key (part (held_at n) e w₁) y closest → d ≡ get_or floats v (inf false) → key ≡ key_of binary32 d
        → (r ≡ length (kept_pairs walk.kept (record { key = key; id = v }) answer)) × (answer' ≡ put_front (kept_pairs walk.kept (record { key = key; id = v }) answer) answer)
        → length answer' ≡ length answer → scored' ≡ min (walk.scored + 1) 4294967295 → live_by withdrawn v ≡ true
        → Pushing n b v withdrawn (record { words = words; floats = floats; answer = answer; walk = walk })
        (record { words = w₂; floats = floats; answer = answer'; walk = record { scored = scored'; held = closest.held; cutoff = closest.cutoff; kept = r } })
    unfolding held_of cutoff_of
    push_is closest d key r scored' enter keeping di ki first ln sc on far answer₀ seen front known low out s =
        stands_more d key enter di ki far live answer₀ seen front known low out s _ front_is
        (subst (Scored far n b answer₀ _) (sym (keep_yes live v seen (subst T (sym on) tt))) (record {
          held = subst (λ (i : ℕ). Held far (min b n) (keep_closest far b v (held_of far b scored)) (part (held_at n) i w₂)) e-is
              (subst (Held far (min b n) (keep_closest far b v (held_of far b scored))) (sym held_is) kept.stands);
          held_count = kept.count;
          cutoff_is = kept.cutoff;
          answer = answer_more far answer₀ answer walk.kept v key r scored answer' at_key first ln s.scored.answer;
          scored_is = omega (arith, sc, s.scored.scored_is, enough, known.few);
        }))
      where
        live : ℕ → Bool
        live = live_by withdrawn

        scored : List ℕ
        scored = keep live seen

        at_key : key ≡ key_at far v
        at_key = same_key d key enter di ki far live answer₀ seen front known low out s

        enough : suc (length scored) ≤ n
        enough = few d key enter di ki far live answer₀ seen front known low out s

        -- the held are among the nodes scored, so that there is a free slot while they are fewer than b
        slot : length (held_of far b scored) < b → length (held_of far b scored) < min b n
        slot h = omega (arith, held_length far b scored, enough)

        kept : Rattle.beam_state.specs.Inside.Queues.Kept far (min b n) b v (held_of far b scored) y closest
        kept = keeping far v (min b n) (held_of far b scored) known.f32s (same_distance d key enter di ki far live answer₀ seen front known low out s) at_key
            s.scored.held_count slot
            (subst (Held far (min b n) (held_of far b scored)) (sym (behind₁ (held_at n) e (omega arith)))
            (subst (λ (i : ℕ). Held far (min b n) (held_of far b scored) (part (held_at n) i words)) (sym e-is) s.scored.held))

-- ---- several

-- the first i of the fresh nodes are pushed
pub record Going (n b count many : ℕ) (withdrawn : List ℕ) (m₀ m : Memory) (i : ℕ) : Type 0 where
  pub within : i ≤ many
  pub words_kept : length m.words ≡ length m₀.words
  pub answer_kept : length m.answer ≡ length m₀.answer
  pub frame : take (frontier_at n) m.words ≡ take (frontier_at n) m₀.words
  pub so_far : (far : ℕ → Float) (old : List Keyed) (fresh : List ℕ) (s : State) → fresh ≡ take count (drop n m₀.words) → count ≡ length fresh → count ≤ n → NoDup (pushed far fresh s).seen
      → Below n (pushed far fresh s).seen → Known far n (pushed far fresh s).seen m₀.floats → Standing far (live_by withdrawn) n b old m₀ s.seen s.front
      → Standing far (live_by withdrawn) n b old m (pushed far (take i fresh) s).seen (pushed far (take i fresh) s).front

pub going_none : (n b count many : ℕ) (withdrawn : List ℕ) (m : Memory) → Going n b count many withdrawn m m 0
unfolding pushed
going_none n b count many withdrawn m = record { within = omega arith; words_kept = refl; answer_kept = refl; frame = refl; so_far = λ far old fresh s f c l d w k t. t }

module _ {n b count many i : ℕ} {withdrawn : List ℕ} {m₀ m : Memory} where
  pub going_more : {m' : Memory} → Going n b count many withdrawn m₀ m i → m.floats ≡ m₀.floats → many ≡ min count n → i < many → frontier_at n ≤ length m₀.words
      → length m'.words ≡ length m.words → length m'.answer ≡ length m.answer → take (frontier_at n) m'.words ≡ take (frontier_at n) m.words
      → Pushing n b (get_or m.words (n + i) 0) withdrawn m m' → Going n b count many withdrawn m₀ m' (i + 1)
  unfolding pushed
  going_more {m'} g same mi h long lw ln f push = record {
    within = omega arith;
    words_kept = lw ∙ g.words_kept;
    answer_kept = ln ∙ g.answer_kept;
    frame = f ∙ g.frame;
    so_far = λ far old fresh s fi ci cn d w k t. one far old fresh s fi ci cn d w k (g.so_far far old fresh s fi ci cn d w k t);
  }
    where
      one : (far : ℕ → Float) (old : List Keyed) (fresh : List ℕ) (s : State) → fresh ≡ take count (drop n m₀.words) → count ≡ length fresh → count ≤ n → NoDup (pushed far fresh s).seen
          → Below n (pushed far fresh s).seen → Known far n (pushed far fresh s).seen m₀.floats
          → Standing far (live_by withdrawn) n b old m (pushed far (take i fresh) s).seen (pushed far (take i fresh) s).front
          → Standing far (live_by withdrawn) n b old m' (pushed far (take (i + 1) fresh) s).seen (pushed far (take (i + 1) fresh) s).front
      one far old fresh s fi ci cn d w k t =
          subst (λ (q : State). Standing far (live_by withdrawn) n b old m' q.seen q.front) (sym after)
          (push far old before.seen before.front
          (subst (λ (l : List Float). Known far n (get_or m.words (n + i) 0 ∷ before.seen) l) (sym same) (subst (λ (y : ℕ). Known far n (y ∷ before.seen) m₀.floats) (sym node) known))
          (subst (λ (y : ℕ). y < n) (sym node) (w v (keeps v (here refl))))
          (subst (λ (y : ℕ). In y before.seen → ⊥) (sym node) once.0)
          t)
        where
          at : i < length fresh
          at = omega (arith, mi)

          v : ℕ
          v = get_or fresh i 0

          before : State
          before = pushed far (take i fresh) s

          then : State
          then = record { seen = v ∷ before.seen; front = to_frontier far v before.front }

          whole : pushed far fresh s ≡ pushed far (drop (suc i) fresh) then
          whole = ap (λ (l : List ℕ). pushed far l s) (split_at fresh i 0 at) ∙ pushed_append far (take i fresh) (get_or fresh i 0 ∷ drop (suc i) fresh) s

          once : NoDup (v ∷ before.seen)
          once = pushed_once far (drop (suc i) fresh) then (subst (λ (q : State). NoDup q.seen) whole d)

          keeps : (x : ℕ) → In x (v ∷ before.seen) → In x (pushed far fresh s).seen
          keeps x j = subst (λ (q : State). In x q.seen) (sym whole) (pushed_keeps far (drop (suc i) fresh) then x j)

          known : Known far n (v ∷ before.seen) m₀.floats
          known = record { few = k.few; f32s = k.f32s; there = λ x j. k.there x (keeps x j) }

          node : get_or m.words (n + i) 0 ≡ v
          node =
              sym (get_or-take (frontier_at n) m.words (n + i) 0 (omega (arith, mi)))
              ∙ ap (λ (l : List ℕ). get_or l (n + i) 0) g.frame
              ∙ get_or-take (frontier_at n) m₀.words (n + i) 0 (omega (arith, mi))
              ∙ sym (get_or-drop n m₀.words i 0)
              ∙ sym (get_or-take count (drop n m₀.words) i 0 (omega (arith, mi)))
              ∙ ap (λ (l : List ℕ). get_or l i 0) (sym fi)

          after : pushed far (take (i + 1) fresh) s ≡ record { seen = get_or m.words (n + i) 0 ∷ before.seen; front = to_frontier far (get_or m.words (n + i) 0) before.front }
          after =
              ap (λ (l : List ℕ). pushed far l s) (ap (λ (j : ℕ). take j fresh) (add-one i) ∙ take-suc fresh i 0 at)
              ∙ pushed_append far (take i fresh) (get_or fresh i 0 ∷ []) s
              ∙ ap (λ (y : ℕ). record { seen = y ∷ before.seen; front = to_frontier far y before.front }) (sym node)

  pub going_all : Going n b count many withdrawn m₀ m i → many ≡ min count n → many ≤ i → PushingAll n b count withdrawn m₀ m
  going_all g mi h long far old fresh s fi ci cn d w k t =
      subst (λ (l : List ℕ). Standing far (live_by withdrawn) n b old m (pushed far l s).seen (pushed far l s).front) (take_all i fresh (omega (arith, mi))) (g.so_far far old fresh s fi ci cn d w k t)
