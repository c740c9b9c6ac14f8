-- What each step of the frontier's code does to the list that its tree stands for. Assumes nothing.
use mathlib.Core.Path.{◌≡◌, refl, ap, ap₂, ◌∙◌, subst}
use mathlib.Core.Bool.{false}
use mathlib.Core.List.Memᴰ.{head as here}
use mathlib.Core.List.{List, [], ◌∷◌}
use Prim.Native.Nat.{ℕ, ◌/◌, ◌≤◌, ◌<◌}
use native.Mathlib.Omega.{arith}
use native.Mathlib.Decide.{dec_lt}
use borrow.Author.Tests.{lt-ltb, le-ltb}
use lib.ListN.{length, get_or}
use lib.Ieee.{Float, inf}
use Rattle.basics.specs.Choice.{pick_true, pick_false}
use Rattle.beam_state.specs.Inside.Tournament.{rank_of, empty_rank, Putting, first_of}
use Rattle.sorting.specs.declared.Keyed.{Keyed}
use Rattle.beam_state.proofs.tournament.Laws.{rank_id}
use Rattle.def_walk.specs.KeepClosest.{key_at, sooner}
use Rattle.def_walk.specs.Beam.{to_frontier}
use Rattle.beam_state.specs.Inside.Queues.{front_rank, Queue, Known, Entering, Popping}
use Rattle.words.specs.declared.ids.Node.{Node}
use Rattle.beam_state.specs.declared.queues.Popped.TheVariants.{At, Empty}
use Rattle.beam_state.proofs.queues.Laws.{put_in, take_out, first_node, none_first, queue_size}
use Rattle.beam_state.proofs.queues.Ranks.{front_order, front_below, front_one}

-- ---- the id that stands first

module _ (a b : ℕ → ℕ) (n : ℕ) (tree : List ℕ) where
  pub first_id : (u : ℕ) (l : List ℕ) → ((v : ℕ) → v < n → rank_of (a v) (b v) < empty_rank) → b u < 4294967296 → get_or tree 2 0 < 4294967296
      → Queue (λ v. rank_of (a v) (b v)) n (u ∷ l) tree → (first_of tree).id ≡ b u
  unfolding first_of
  first_id u l below h k q =
      let low : u < n = q.inside u (here refl) in
      let size : length tree / 4 ≡ n = queue_size (λ v. rank_of (a v) (b v)) n (u ∷ l) tree q in
      ap (λ (p : Keyed). p.id) (pick_false _ _ (le-ltb (length tree) 4 (omega arith)))
      ∙ rank_id (get_or tree 3 0) (get_or tree 2 0) (a u) (b u) k h (first_node (λ v. rank_of (a v) (b v)) n u l tree below q)

  pub none_id : get_or tree 3 0 < 4294967296 → get_or tree 2 0 < 4294967296 → Queue (λ v. rank_of (a v) (b v)) n [] tree → (first_of tree).id ≡ 0xffff_ffff
  unfolding first_of
  none_id j k q = elim (dec_lt 0 n) [
    | yes h ↦
        let size : length tree / 4 ≡ n = queue_size (λ v. rank_of (a v) (b v)) n [] tree q in
        let all : rank_of (get_or tree 3 0) (get_or tree 2 0) ≡ empty_rank = none_first (λ v. rank_of (a v) (b v)) n tree h q in
        ap (λ (p : Keyed). p.id) (pick_false _ _ (le-ltb (length tree) 4 (omega arith))) ∙ omega arith
    | no h ↦
        let size : length tree / 4 ≡ n = queue_size (λ v. rank_of (a v) (b v)) n [] tree q in
        ap (λ (p : Keyed). p.id) (pick_true _ _ (lt-ltb (length tree) 4 (omega arith)))
  ]

-- ---- the frontier

abbrev node : ℕ → Node
node v = record { 0 = v }

pub entering : (v k : ℕ) (tree tree' : List ℕ) → Putting v (rank_of k v) tree tree' → Entering v k tree tree'
unfolding to_frontier
entering v k tree tree' put far n front few f32s same low out q =
    put_in (front_rank far) n (sooner far) v front tree tree' low
    (λ w h. front_order far f32s v w (omega arith) (omega arith))
    (λ w h s. front_one far f32s v w (omega arith) (omega arith) s)
    out (subst (λ (j : ℕ). Putting v (rank_of j v) tree tree') same put) q

module _ (floats : List Float) (tree tree' : List ℕ) (id : ℕ) (first : id ≡ (first_of tree).id) (j : get_or tree 3 0 < 4294967296) (k : get_or tree 2 0 < 4294967296) where
  front_id : (far : ℕ → Float) (n u : ℕ) (l : List ℕ) → Known far n (u ∷ l) floats → Queue (front_rank far) n (u ∷ l) tree → id ≡ u
  front_id far n u l known q =
      let few : n ≤ 1024 = known.few in
      let low : u < n = q.inside u (here refl) in
      first ∙ first_id (key_at far) (λ v. v) n tree u l (λ v h. front_below far known.f32s v (omega arith)) (omega arith) k q

  pub pop_empty : id ≡ 0xffff_ffff → Popping floats tree tree Empty
  pop_empty e far n [] known q = (refl, q)
  pop_empty e far n (u ∷ l) known q =
      let few : n ≤ 1024 = known.few in
      let low : u < n = q.inside u (here refl) in
      let same : id ≡ u = front_id far n u l known q in
      absurd (omega arith)

  pub pop_at : (id ≡ 0xffff_ffff → ⊥) → (d : Float) → d ≡ get_or floats id (inf false) → Putting id empty_rank tree tree' → Popping floats tree tree' (At d (node id))
  pop_at ne d e put far n [] known q = absurd (ne (first ∙ none_id (key_at far) (λ v. v) n tree j k q))
  pop_at ne d e put far n (u ∷ l) known q =
      let same : id ≡ u = front_id far n u l known q in (
        ap₂ (λ (x : Float) (y : Node). At x y) (e ∙ ap (λ (v : ℕ). get_or floats v (inf false)) same ∙ known.there u (here refl)) (ap node same),
        take_out (front_rank far) n u l tree tree' (subst (λ (v : ℕ). Putting v empty_rank tree tree') same put) q,
      )
