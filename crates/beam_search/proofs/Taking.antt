-- Fresh nodes scored and pushed, and a list looked at: what is gathered and pushed is what the definition's expansion makes. Assumes nothing.
use mathlib.Core.Path.{◌≡◌, refl, sym, ap, ◌∙◌, subst}
use mathlib.Core.Logic.{◌⊎◌, inl, inr}
use mathlib.Core.Bool.{Bool, true, false}
use mathlib.Core.List.Memᴰ.{cases_cons as in-cons}
use mathlib.Core.List.Memᴰ.{head as here}
use mathlib.Core.List.Memᴰ.{tail as there}
use mathlib.Core.List.{List, [], ◌∷◌, ◌++◌, Memᴰ as In}
use Prim.Native.Nat.{ℕ, ◌+◌, ◌-◌, ◌≤◌, ◌<◌, min}
use native.Mathlib.Omega.{arith}
use lib.Dec.{ltb}
use lib.ListN.{length, get_or, take, drop}
use lib.Seq.{get_or-take}
use lib.Ieee.{Float, inf}
use lib.Ieee.Bits.{is_true}
use Rattle.basics.specs.Choice.{pick, pick_ind, pick_no}
use Rattle.basics.specs.Graph.{list_of}
use Rattle.basics.specs.Lists.{keep}
use Rattle.basics.specs.Nodes.{has, NoDup, Below}
use Rattle.basics.proofs.Counting.{at_most}
use Rattle.def_walk.specs.Walk.{State, visit, expand}
use Rattle.def_walk.specs.Beam.{to_frontier}
use Rattle.beam_state.specs.Inside.Queues.{front_rank, Queue, Known}
use Rattle.neighbours.specs.Inside.Scoring.{scored_at}
use Rattle.neighbours.proofs.scoring.Laws.{scored_known, scored_keeps}
use Rattle.lists.specs.Inside.Words.{row_lists, bridge_list}
use Rattle.neighbours.specs.Inside.Gathering.{Fresh, visit_one, gather_fresh, fresh_end, FreshIn, GatheringAll, Linked, GatheringList}
use Rattle.beam_state.specs.Inside.State.{part, frontier_at, held_at, words_for, held_end, live_by, Memory, Standing, PushingAll, pushed}
use Rattle.beam_state.specs.declared.Walk.{Walk}
use Rattle.beam_state.proofs.Parts.{part_behind}
use Rattle.beam_state.proofs.Moved.{scored_moved}
use Rattle.beam_state.proofs.Pushed.{pushed_append}
use Rattle.beam_search.specs.declared.Sizes.{Sizes}
use Rattle.sorting.specs.declared.Keyed.{Keyed}
use denote.Ref.{Bor}
use Rattle.beam_search.specs.declared.Reads.{Reads}
use Rattle.beam_search.specs.Inside.Search.{within, far_of, live_of, lists_of}
use Rattle.beam_search.specs.Inside.Steps.{Between, TakenIn, TakingIn}

-- the same state in words that are the same behind marks and fresh nodes, whatever the floats
standing_behind : {far : ℕ → Float} {live : ℕ → Bool} {n b : ℕ} {answer₀ answer : List Keyed} {w : Walk} {seen front : List ℕ} (words words' : List ℕ) (floats floats' : List Float)
    → drop (fresh_end n) words' ≡ drop (fresh_end n) words
    → Standing far live n b answer₀ (record { words = words; floats = floats; answer = answer; walk = w }) seen front
    → Standing far live n b answer₀ (record { words = words'; floats = floats'; answer = answer; walk = w }) seen front
standing_behind {far} {live} {n} {b} {answer₀} {answer} {w} {seen} {front} words words' floats floats' same t = record {
  frontier = subst (Queue (front_rank far) n front) (moved (frontier_at n) (held_at n) (omega arith)) t.frontier;
  scored = scored_moved words words' floats floats' (moved (held_at n) (held_end n b) (omega arith)) t.scored;
  once = t.once;
  inside = t.inside;
  sub = t.sub;
}
  where
    moved : (a e : ℕ) → fresh_end n ≤ a → part a e words ≡ part a e words'
    moved a e h = sym (part_behind (fresh_end n) a e words' words h same)

-- ---- scored and pushed

-- what is seen was seen before, or was pushed
pushed_in : (far : ℕ → Float) (vs : List ℕ) (s : State) (x : ℕ) → In x (pushed far vs s).seen → In x s.seen ⊎ In x vs
unfolding pushed
pushed_in far [] s x m = inl m
pushed_in far (v ∷ vs) s x m = elim (pushed_in far vs (record { seen = v ∷ s.seen; front = to_frontier far v s.front }) x m) [
  | inl i ↦ elim (in-cons i) [ inl e ↦ inr (here e) | inr j ↦ inl j ]
  | inr i ↦ inr (there i)
]

pub taking_in : (sizes : Sizes) (far : ℕ → Float) (withdrawn : List ℕ) (count many : ℕ) (m m' : Memory) → many ≡ min count sizes.shape.n
    → words_for sizes.shape.n ≤ length m.words → m'.floats ≡ scored_at far (take (sizes.shape.n + many - sizes.shape.n) (drop sizes.shape.n m.words)) m.floats
    → length m'.floats ≡ length m.floats
    → PushingAll sizes.shape.n sizes.places many withdrawn (record { words = m.words; floats = m'.floats; answer = m.answer; walk = m.walk }) m' → TakingIn sizes far (live_by withdrawn) count m m'
taking_in sizes far withdrawn count many m m' mi long score lf push answer₀ fresh s fi ci cn d below room known t = record {
  standing = push long far answer₀ fresh s (fi ∙ ap (λ (k : ℕ). take k (drop sizes.shape.n m.words)) (sym all)) (all ∙ ci) (omega arith) d below known'
      (standing_behind m.words m.words m.floats m'.floats refl t);
  known = known';
  room = omega arith;
}
  where
    all : many ≡ count
    all = omega arith

    ids : take (sizes.shape.n + many - sizes.shape.n) (drop sizes.shape.n m.words) ≡ fresh
    ids = let e : sizes.shape.n + many - sizes.shape.n ≡ count = omega (arith, all) in ap (λ (k : ℕ). take k (drop sizes.shape.n m.words)) e ∙ sym fi

    scored : m'.floats ≡ scored_at far fresh m.floats
    scored = score ∙ ap (λ (l : List ℕ). scored_at far l m.floats) ids

    known' : Known far sizes.shape.n (pushed far fresh s).seen m'.floats
    known' = record {
      few = known.few;
      f32s = known.f32s;
      there = λ x i. rw scored (elim (pushed_in far fresh s x i) [
        | inl j ↦ scored_keeps far (inf false) x fresh m.floats (omega (arith, below x i)) (known.there x j)
        | inr j ↦ scored_known far (inf false) x fresh m.floats j (omega (arith, below x i))
      ]);
    }

-- ---- gathered and pushed is expanded

record Alike (far : ℕ → Float) (s s₀ : State) (g : Fresh) : Type 0 where
  made : pushed far g.fresh s₀ ≡ s
  seen_is : s.seen ≡ g.seen

module _ (far : ℕ → Float) (n : ℕ) (s₀ : State) where
  visit_alike : (v : ℕ) (s : State) (g : Fresh) → ltb v n ≡ true → Alike far s s₀ g → Alike far (visit (to_frontier far) v s) s₀ (visit_one n v g)
  unfolding visit visit_one pushed pick
  visit_alike v s g l a = let same : has v g.seen ≡ has v s.seen = ap (has v) (sym a.seen_is) in rw (visit_one, l, same) (either (has v s.seen))
    where
      either : (old : Bool) → Alike far (pick old s (record { seen = v ∷ s.seen; front = to_frontier far v s.front })) s₀
          (pick old g (record { seen = v ∷ g.seen; fresh = g.fresh ++ (v ∷ []) }))
      either true = a
      either false = record {
        made = pushed_append far g.fresh (v ∷ []) s₀ ∙ ap (λ (z : State). pushed far (v ∷ []) z) a.made;
        seen_is = ap (λ (z : List ℕ). v ∷ z) a.seen_is;
      }

  expand_alike : (list : List ℕ) (s : State) (g : Fresh) → Alike far s s₀ g → Alike far (expand (to_frontier far) s (within n list)) s₀ (gather_fresh n list g)
  unfolding expand gather_fresh keep visit_one
  expand_alike [] s g a = a
  expand_alike (v ∷ list) s g a =
      pick_ind (λ (l : List ℕ). Alike far (expand (to_frontier far) s l) s₀ (gather_fresh n list (visit_one n v g))) (ltb v n)
      (λ t. expand_alike list (visit (to_frontier far) v s) (visit_one n v g) (visit_alike v s g (is_true _ t) a))
      (λ t.
      let past : visit_one n v g ≡ g = pick_no (ltb v n) _ g t in
      subst (λ (h : Fresh). Alike far (expand (to_frontier far) s (within n list)) s₀ (gather_fresh n list h)) (sym past) (expand_alike list s g a))

-- the marks of words that are the same up to the fresh nodes
pub same_mark : (n v : ℕ) (words words' : List ℕ) → v < n → take (frontier_at n) words' ≡ take (frontier_at n) words → get_or words' v 0 ≡ get_or words v 0
same_mark n v words words' h same =
    sym (get_or-take (frontier_at n) words' v 0 (omega arith)) ∙ ap (λ (l : List ℕ). get_or l v 0) same ∙ get_or-take (frontier_at n) words v 0 (omega arith)

-- what is gathered is taken in: marks and all
module _ (sizes : Sizes) (far : ℕ → Float) (live : ℕ → Bool) (count : ℕ) (list between : List ℕ) (m m' : Memory) where
  abbrev n : ℕ
  n = sizes.shape.n

  -- the memory where the list has been gathered
  abbrev gathered : Memory
  gathered = record { words = between; floats = m.floats; answer = m.answer; walk = m.walk }

  pub gathered_in : (answer₀ : List Keyed) (s : State) → fresh_end n ≤ length m.words → GatheringAll n list m.words between count → TakingIn sizes far live count gathered m'
      → take (frontier_at n) m'.words ≡ take (frontier_at n) between → ((v : ℕ) → v < n → get_or m.words v 0 ≡ pick (has v s.seen) 1 0)
      → Standing far live n sizes.places answer₀ m s.seen s.front → Known far n s.seen m.floats → n ≤ length m.floats
      → Between sizes far live answer₀ m' (expand (to_frontier far) s (within n list)).seen (expand (to_frontier far) s (within n list)).front
  unfolding pushed
  gathered_in answer₀ s long gather taking frame marks t known room = record {
    marks = λ v h. same_mark n v between m'.words h frame ∙ got.marks v h ∙ ap (λ (l : List ℕ). pick {X = ℕ} (has v l) 1 0) (sym like.seen_is);
    standing = subst (λ (z : State). Standing far live n sizes.places answer₀ m' z.seen z.front) like.made taken.standing;
    known = subst (λ (z : State). Known far n z.seen m'.floats) like.made taken.known;
    room = taken.room;
  }
    where
      none : Fresh
      none = record { seen = s.seen; fresh = [] }

      all : Fresh
      all = gather_fresh n list none

      got : FreshIn n (drop (fresh_end n) m.words) between count all
      got = gather long (drop (fresh_end n) m.words) none
          (record { marks = marks; buffer = refl; count_is = refl; behind = refl; once = t.once; inside = t.inside; fewer = omega arith })

      like : Alike far (expand (to_frontier far) s (within n list)) s all
      like = expand_alike far n s list s none (record { made = refl; seen_is = refl })

      final : all.seen ≡ (pushed far all.fresh s).seen
      final = sym (ap (λ (z : State). z.seen) like.made ∙ like.seen_is)

      taken : TakenIn sizes far live answer₀ m' (pushed far all.fresh s)
      taken = taking answer₀ all.fresh s (sym got.buffer) got.count_is (omega (arith, at_most n all.seen got.once got.inside, got.fewer, got.count_is))
          (subst NoDup final got.once) (subst (Below n) final got.inside) room known
          (standing_behind m.words between m.floats m.floats got.behind t)

-- a node's list looked at, of linked bridges
abbrev pub Expanding : Reads → List ℕ → ℕ → Memory → Memory → Type 0
Expanding reads links u m m' =
    Linked reads.sizes.shape.n reads.bridges.now links → u < reads.sizes.shape.n → (answer₀ : List Keyed) (seen front : List ℕ) → Between reads.sizes (far_of reads) (live_of reads) answer₀ m seen front
    → Between reads.sizes (far_of reads) (live_of reads) answer₀ m' (expand (to_frontier (far_of reads)) (record { seen = seen; front = front }) (lists_of reads u)).seen
    (expand (to_frontier (far_of reads)) (record { seen = seen; front = front }) (lists_of reads u)).front

pub expanding : (reads : Reads) (links : Bor (List ℕ)) (u count : ℕ) (between : List ℕ) (m m' : Memory) → words_for reads.sizes.shape.n ≤ length m.words
    → GatheringList (record { shape = reads.sizes.shape; rows = reads.rows; bridges = reads.bridges; links = links }) u m.words between count
    → TakingIn reads.sizes (far_of reads) (live_of reads) count (gathered reads.sizes (far_of reads) (live_of reads) count [] between m m') m'
    → take (frontier_at reads.sizes.shape.n) m'.words ≡ take (frontier_at reads.sizes.shape.n) between → Expanding reads links.now u m m'
expanding reads links u count between m m' long gather taking frame linked below answer₀ seen front t =
    gathered_in reads.sizes (far_of reads) (live_of reads) count (list_of (row_lists reads.sizes.shape.degree reads.rows.now) (bridge_list reads.bridges.now) u) between m m' answer₀ (record { seen = seen; front = front })
    (omega arith) (gather linked below) taking frame t.marks t.standing t.known t.room
