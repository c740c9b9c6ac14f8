-- Queues: an empty one, a node put in, the first taken out, and which pair the tree then has first. The tree knows only which nodes are in the
-- queue; the list's order is that of the ranks, so that the least rank is the first node's. Assumes nothing.
use mathlib.Core.Path.{◌≡◌, refl, sym, ap, ◌∙◌, subst}
use mathlib.Core.Logic.{inl, inr}
use mathlib.Core.Bool.{Bool, true, false, ◌||◌}
use mathlib.Core.List.{List, [], ◌∷◌}
use mathlib.Core.List.Memᴰ.{cases_cons as in-cons}
use mathlib.Core.List.Memᴰ.{head as here}
use mathlib.Core.List.Memᴰ.{not-nil as in-nil}
use mathlib.Core.List.Memᴰ.{tail as there}
use mathlib.Core.List.{Memᴰ as In}
use Prim.Native.Nat.{ℕ, ◌/◌, ◌≤◌, ◌<◌}
use native.Mathlib.Omega.{arith}
use native.Mathlib.Decide.{ℕ_discrete}
use borrow.Author.Tests.{eq-eqb, ne_eqb}
use lib.Arith.{lt_of_le-ne}
use lib.Dec.{T, eqb, ltb, ltb→lt, nltb→le}
use lib.Ieee.Bits.{is_true}
use lib.ListN.{length, get_or, set, replicate, length-replicate, get_or-replicate, length-set}
use lib.Seq.{get_or-set_same, get_or-set_other}
use Rattle.basics.specs.Choice.{pick, pick_ind, pick_true, pick_false}
use Rattle.basics.specs.Nodes.{has}
use Rattle.basics.proofs.Counting.{has_in, in_has, in_or_not}
use Rattle.beam_state.specs.Inside.Tournament.{rank_at, empty_rank, Tournament, Putting}
use Rattle.beam_state.proofs.tournament.Laws.{Winner, first_least, first_wins}
use Rattle.def_walk.specs.KeepClosest.{insert_in}
use Rattle.def_walk.proofs.beam.Inserting.{insert_only}
use Rattle.beam_state.specs.Inside.Queues.{Ordered, Queue}

-- ---- membership

pub has-yes : (x : ℕ) (l : List ℕ) → In x l → has x l ≡ true
has-yes x l m = is_true (has x l) (in_has m)

pub has_no : (x : ℕ) (l : List ℕ) → (In x l → ⊥) → has x l ≡ false
has_no x l n = (elim (has x l) as (λ t. (T t → ⊥) → t ≡ false) [ true ↦ λ h. absurd (h tt) | false ↦ λ h. refl ]) (λ t. n (has_in x l t))

or_swap : (a b c : Bool) → (a || (b || c)) ≡ (b || (a || c))
or_swap true true c = refl
or_swap true false c = refl
or_swap false true c = refl
or_swap false false c = refl

-- an inserted node is one more
pub has_insert : (precedes : ℕ → ℕ → Bool) (x v : ℕ) (l : List ℕ) → has x (insert_in precedes v l) ≡ has x (v ∷ l)
unfolding has insert_in
has_insert precedes x v [] = refl
has_insert precedes x v (w ∷ l) =
    pick_ind (λ (r : List ℕ). has x r ≡ (eqb x v || (eqb x w || has x l))) (precedes v w)
    (λ _. refl) (λ _. ap (λ (t : Bool). eqb x w || t) (has_insert precedes x v l) ∙ or_swap (eqb x w) (eqb x v) (has x l))

-- ---- order

module _ (rank : ℕ → ℕ) where
  -- v goes before the first node whose rank is above its own
  pub insert_ordered : (precedes : ℕ → ℕ → Bool) (v : ℕ) (l : List ℕ) → ((w : ℕ) → In w l → precedes v w ≡ ltb (rank v) (rank w))
      → ((w : ℕ) → In w l → rank v ≡ rank w → ⊥) → Ordered rank l → Ordered rank (insert_in precedes v l)
  unfolding insert_in
  insert_ordered precedes v [] p ne o = ((λ w m. absurd (in-nil m)), tt)
  insert_ordered precedes v (w ∷ l) p ne o =
      pick_ind (Ordered rank) (precedes v w)
      (λ t.
      let first : rank v < rank w = ltb→lt _ _ (rw (p w (here refl)) at t) in
      ((λ x m. elim (in-cons {b = w} {l = l} m) [ inl e ↦ omega (arith, ap rank e) | inr i ↦ omega (arith, o.0 x i) ]), o))
      (λ t.
      let later : rank w < rank v = lt_of_le-ne (nltb→le _ _ (rw (p w (here refl)) at t)) (λ e. ne w (here refl) (sym e)) in (
        (λ x m. elim (insert_only precedes x v l m) [ inl e ↦ omega (arith, ap rank e) | inr i ↦ o.0 x i ]),
        insert_ordered precedes v l (λ x m. p x (there m)) (λ x m. ne x (there m)) o.1,
      ))

-- ---- queues

module _ (rank : ℕ → ℕ) (n : ℕ) where
  pub empty_queue : (tree : List ℕ) → Tournament (replicate n empty_rank) tree → Queue rank n [] tree
  unfolding has pick
  empty_queue tree t = record {
    leaves = replicate n empty_rank;
    tournament = t;
    many = length-replicate n empty_rank;
    stands = λ v h. get_or-replicate n v empty_rank empty_rank h;
    ordered = tt;
    inside = λ x m. absurd (in-nil m);
  }

  pub put_in : (precedes : ℕ → ℕ → Bool) (v : ℕ) (l tree tree' : List ℕ) → v < n → ((w : ℕ) → w < n → precedes v w ≡ ltb (rank v) (rank w))
      → ((w : ℕ) → w < n → rank v ≡ rank w → v ≡ w) → (In v l → ⊥) → Putting v (rank v) tree tree' → Queue rank n l tree → Queue rank n (insert_in precedes v l) tree'
  unfolding has
  put_in precedes v l tree tree' h p one out put q = record {
    leaves = set q.leaves v (rank v);
    tournament = put q.leaves q.tournament (omega (arith, q.many));
    many = length-set q.leaves v (rank v) ∙ q.many;
    stands = stands';
    ordered = insert_ordered rank precedes v l (λ w m. p w (q.inside w m)) (λ w m e. out (subst (λ (x : ℕ). In x l) (sym (one w (q.inside w m) e)) m)) q.ordered;
    inside = λ x m. elim (insert_only precedes x v l m) [ inl e ↦ omega arith | inr i ↦ q.inside x i ];
  }
    where
      stands' : (w : ℕ) → w < n → get_or (set q.leaves v (rank v)) w empty_rank ≡ pick (has w (insert_in precedes v l)) (rank w) empty_rank
      stands' w k = elim (ℕ_discrete w v) [
        | yes e ↦ ap (λ (x : ℕ). get_or (set q.leaves v (rank v)) x empty_rank) e ∙ get_or-set_same q.leaves v (rank v) empty_rank (omega (arith, q.many)) ∙ ap rank (sym e)
            ∙ sym (pick_true (rank w) empty_rank (has_insert precedes w v l ∙ ap (λ (t : Bool). t || has w l) (eq-eqb w v e)))
        | no e ↦ get_or-set_other q.leaves v w (rank v) empty_rank e ∙ q.stands w k
            ∙ ap (λ (t : Bool). pick t (rank w) empty_rank) (sym (has_insert precedes w v l ∙ ap (λ (t : Bool). t || has w l) (ne_eqb w v e)))
      ]

  pub take_out : (u : ℕ) (l tree tree' : List ℕ) → Putting u empty_rank tree tree' → Queue rank n (u ∷ l) tree → Queue rank n l tree'
  unfolding has
  take_out u l tree tree' put q = record {
    leaves = set q.leaves u empty_rank;
    tournament = put q.leaves q.tournament (omega (arith, q.many, low));
    many = length-set q.leaves u empty_rank ∙ q.many;
    stands = stands';
    ordered = q.ordered.1;
    inside = λ x m. q.inside x (there m);
  }
    where
      low : u < n
      low = q.inside u (here refl)

      gone : In u l → ⊥
      gone m = let r = q.ordered.0 u m in omega arith

      stands' : (w : ℕ) → w < n → get_or (set q.leaves u empty_rank) w empty_rank ≡ pick (has w l) (rank w) empty_rank
      stands' w k = elim (ℕ_discrete w u) [
        | yes e ↦ ap (λ (x : ℕ). get_or (set q.leaves u empty_rank) x empty_rank) e ∙ get_or-set_same q.leaves u empty_rank empty_rank (omega (arith, q.many, low))
            ∙ sym (pick_false (rank w) empty_rank (has_no w l (λ m. gone (subst (λ (x : ℕ). In x l) e m))))
        | no e ↦ get_or-set_other q.leaves u w empty_rank empty_rank e ∙ q.stands w k
            ∙ ap (λ (t : Bool). pick (t || has w l) (rank w) empty_rank) (ne_eqb w u e)
      ]

  -- the pair that the tree has first
  pub first_node : (u : ℕ) (l tree : List ℕ) → ((v : ℕ) → v < n → rank v < empty_rank) → Queue rank n (u ∷ l) tree → rank_at tree 1 ≡ rank u
  first_node u l tree below q = elim (in_or_not w (u ∷ l)) [
    | inl m ↦ elim (in-cons m) [ inl e ↦ held m ∙ ap rank e | inr i ↦ absurd (let a = q.ordered.0 w i in let b = held m in omega (arith, least)) ]
    | inr m ↦
        let e : rank_at tree 1 ≡ empty_rank = sym won.wins ∙ q.stands w inside ∙ pick_false (rank w) empty_rank (has_no w (u ∷ l) m) in
        absurd (let a = below u low in omega (arith, least))
  ]
    where
      low : u < n
      low = q.inside u (here refl)

      won : Winner q.leaves (rank_at tree 1)
      won = first_wins q.leaves tree q.tournament (omega (arith, q.many, low))

      w : ℕ
      w = won.place

      inside : w < n
      inside = omega (arith, won.inside, q.many)

      u_stands : get_or q.leaves u empty_rank ≡ rank u
      u_stands = q.stands u low ∙ pick_true (rank u) empty_rank (has-yes u (u ∷ l) (here refl))

      least : rank_at tree 1 ≤ rank u
      least = let h = first_least q.leaves tree q.tournament u (omega (arith, q.many, low)) in omega (arith, u_stands)

      -- the winner is in the queue, and no node behind the first has so low a rank
      held : In w (u ∷ l) → rank_at tree 1 ≡ rank w
      held m = sym won.wins ∙ q.stands w inside ∙ pick_true (rank w) empty_rank (has-yes w (u ∷ l) m)

  pub none_first : (tree : List ℕ) → 0 < n → Queue rank n [] tree → rank_at tree 1 ≡ empty_rank
  unfolding has pick
  none_first tree h q =
      let won : Winner q.leaves (rank_at tree 1) = first_wins q.leaves tree q.tournament (omega (arith, q.many)) in
      sym won.wins ∙ q.stands won.place (omega (arith, won.inside, q.many))

  pub queue_size : (l tree : List ℕ) → Queue rank n l tree → length tree / 4 ≡ n
  queue_size l tree q = sym q.tournament.size ∙ q.many
