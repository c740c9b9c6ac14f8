-- The held: none, one more at a free place, the worst's place taken, and which pair the tree has first. The tree knows the keys, each as often as
-- the nodes have it; the worst of the nodes comes first among them, so that the least rank is that of its key. Assumes nothing.
use mathlib.Core.Path.{◌≡◌, refl, sym, ap, ◌∙◌}
use mathlib.Core.Logic.{inl, inr}
use mathlib.Core.Bool.{true, false, ◌&&◌}
use mathlib.Core.List.{List, [], ◌∷◌, ◌++◌, map}
use mathlib.Core.List.Memᴰ.{cases_cons as in-cons}
use mathlib.Core.List.Memᴰ.{head as here}
use mathlib.Core.List.Memᴰ.{not-nil as in-nil}
use mathlib.Core.List.Memᴰ.{tail as there}
use mathlib.Core.List.{Memᴰ as In}
use Prim.Native.Nat.{ℕ, suc, ◌+◌, ◌-◌, ◌/◌, ◌≤◌, ◌<◌}
use native.Mathlib.Omega.{arith}
use native.Mathlib.Decide.{ℕ_discrete, dec_lt}
use borrow.Author.Tests.{lt-ltb, le-ltb, ltb-true, ltb-false, eqb-true, ne_eqb}
use lib.Arith.{lt_of_le-ne}
use lib.Dec.{T, eqb, ltb}
use lib.ListN.{length, get_or, set, replicate, length-append, length-replicate, get_or-replicate, length-set, get_or-append}
use lib.Seq.{get_or-set_same, get_or-set_other, get_or-append_seam}
use lib.Ieee.{Float, binary32, fits}
use lib.Ieee.Bits.{is_true, is_false}
use Rattle.basics.specs.Choice.{pick, pick_ind, pick_true, pick_false}
use Rattle.basics.proofs.Tests.{one_true, both_true, both_false}
use Rattle.distance.proofs.order.Laws.{key_below}
use Rattle.beam_state.specs.Inside.Tournament.{rank_of, rank_at, empty_rank, Tournament, Putting, first_of}
use Rattle.sorting.specs.declared.Keyed.{Keyed}
use Rattle.beam_state.proofs.tournament.Laws.{Winner, first_least, first_wins}
use Rattle.def_walk.specs.KeepClosest.{key_at, sooner, insert_in, hold}
use Rattle.beam_state.specs.Inside.Queues.{held_rank, times, Falling, Held}
use Rattle.def_walk.proofs.beam.Inserting.{insert_only, hold_one}
use Rattle.beam_state.proofs.queues.Times.{once, times_more, times-set, times_insert, times_at, Place, place_of, times_key}

-- ---- the order of the held

module _ (far : ℕ → Float) where
  -- a test that says which of two nodes is taken sooner says which is not farther
  sooner_nearer : (v w : ℕ) → sooner far v w ≡ true → key_at far v ≤ key_at far w
  unfolding sooner
  sooner_nearer v w e = elim (one_true (ltb (key_at far v) (key_at far w)) (eqb (key_at far v) (key_at far w) && ltb v w) e) [
    | inl p ↦ (let l : key_at far v < key_at far w = ltb-true _ _ p in omega arith)
    | inr p ↦ (let l : key_at far v ≡ key_at far w = eqb-true _ _ (both_true _ _ p).0 in omega arith)
  ]

  later_farther : (v w : ℕ) → sooner far v w ≡ false → key_at far w ≤ key_at far v
  unfolding sooner
  later_farther v w e = ltb-false _ _ (both_false _ _ e).0

  hold_falling : (v : ℕ) (l : List ℕ) → Falling far l → Falling far (hold far v l)
  unfolding hold insert_in
  hold_falling v [] f = ((λ w m. absurd (in-nil m)), tt)
  hold_falling v (w ∷ l) f =
      pick_ind (Falling far) (sooner far w v)
      (λ t.
      let first : key_at far w ≤ key_at far v = sooner_nearer w v (is_true _ t) in
      ((λ x m. elim (in-cons {b = w} {l = l} m) [ inl e ↦ omega (arith, ap (key_at far) e) | inr i ↦ omega (arith, f.0 x i) ]), f))
      (λ t.
      let later : key_at far v ≤ key_at far w = later_farther w v (is_false _ t) in
      ((λ x m. elim (insert_only (λ x y. sooner far y x) x v l m) [ inl e ↦ omega (arith, ap (key_at far) e) | inr i ↦ f.0 x i ]), hold_falling v l f.1))

  hold_times : (x v : ℕ) (l : List ℕ) → times x (map (key_at far) (hold far v l)) ≡ once x (key_at far v) + times x (map (key_at far) l)
  unfolding hold
  hold_times x v l = times_insert x (key_at far) (λ a b. sooner far b a) v l

  -- no key of the nodes is above the first one's
  first_most : (u : ℕ) (l : List ℕ) → Falling far (u ∷ l) → (x : ℕ) → 0 < times x (map (key_at far) (u ∷ l)) → x ≤ key_at far u
  unfolding times
  first_most u l f x h = among (u ∷ l) (λ w m. elim (in-cons {b = u} {l = l} m) [ inl e ↦ omega (arith, ap (key_at far) e) | inr i ↦ f.0 w i ]) h
    where
      among : (l : List ℕ) → ((w : ℕ) → In w l → key_at far w ≤ key_at far u) → 0 < times x (map (key_at far) l) → x ≤ key_at far u
      among [] g h = absurd (omega arith)
      among (w ∷ l) g h = elim (ℕ_discrete x (key_at far w)) [
        | yes e ↦ omega (arith, g w (here refl))
        | no e ↦ among l (λ y m. g y (there m)) (let z : once x (key_at far w) ≡ 0 = pick_false 1 0 (ne_eqb _ _ e) in omega arith)
      ]

-- ---- none

pub none_held : (far : ℕ → Float) (size : ℕ) (tree : List ℕ) → size ≤ 1024 → Tournament (replicate size empty_rank) tree → Held far size [] tree
unfolding pick times
none_held far size tree few t = record {
  keys = [];
  leaves = replicate size empty_rank;
  tournament = t;
  many = length-replicate size empty_rank;
  few = few;
  within = omega arith;
  stands = λ i h. get_or-replicate size i empty_rank empty_rank h ∙ sym (pick_false _ _ (le-ltb i 0 (omega arith)));
  as_many = refl;
  same = λ x. refl;
  falling = tt;
}

module _ {far : ℕ → Float} {size : ℕ} {tree : List ℕ} where
  size_is : {held : List ℕ} → Held far size held tree → length tree / 4 ≡ size
  size_is h = sym h.tournament.size ∙ h.many

  pub none_first : get_or tree 3 0 < 4294967296 → get_or tree 2 0 < 4294967296 → Held far size [] tree → (first_of tree).id ≡ 0xffff_ffff
  unfolding first_of
  none_first j k h = elim (dec_lt 0 size) [
    | yes p ↦
        let won : Winner h.leaves (rank_at tree 1) = first_wins h.leaves tree h.tournament (omega (arith, h.many)) in
        let no : ltb won.place (length h.keys) ≡ false = le-ltb won.place (length h.keys) (omega (arith, h.as_many)) in
        let all : rank_at tree 1 ≡ empty_rank = sym won.wins ∙ h.stands won.place (omega (arith, won.inside, h.many)) ∙ pick_false _ _ no in
        let s = size_is h in
        ap (λ (p : Keyed). p.id) (pick_false _ _ (le-ltb (length tree) 4 (omega arith))) ∙ omega arith
    | no p ↦
        let s = size_is h in
        ap (λ (p : Keyed). p.id) (pick_true _ _ (lt-ltb (length tree) 4 (omega arith)))
  ]

-- ---- the first pair is the worst's

-- where the worst's key stands, and what the first pair says of it
pub record First (far : ℕ → Float) (u : ℕ) (keys tree : List ℕ) : Type 0 where
  pub inside : (first_of tree).id < length keys
  pub is : get_or keys (first_of tree).id 0 ≡ key_at far u
  pub key : (first_of tree).key ≡ 0xffff_ffff - key_at far u

-- a rank that is a key's at a place, and not above the worst key's at another
exactly : (a b y worst p q : ℕ) → a < 4294967296 → b < 4294967296 → p < 1024 → q < 1024 → worst < 4294967296 → y ≤ worst → rank_of a b ≡ held_rank y p → rank_of a b ≤ held_rank worst q
    → (y ≡ worst) × (b ≡ p) × (a ≡ 0xffff_ffff - worst)
exactly a b y worst p q ha hb hp hq hw hy e l = (omega arith, omega arith, omega arith)

pub first_held : {far : ℕ → Float} {size : ℕ} {tree : List ℕ} → ((v : ℕ) → T (fits binary32 (far v))) → get_or tree 3 0 < 4294967296 → get_or tree 2 0 < 4294967296
    → (u : ℕ) (l : List ℕ) (h : Held far size (u ∷ l) tree) → First far u h.keys tree
unfolding first_of
first_held {far} {size} {tree} f32s j k u l h =
    let room : 0 < size = omega (arith, h.within, h.as_many) in
    let won : Winner h.leaves (rank_at tree 1) = first_wins h.leaves tree h.tournament (omega (arith, h.many)) in
    let shape : first_of tree ≡ record { key = get_or tree 3 0; id = get_or tree 2 0 } = pick_false _ _ (le-ltb (length tree) 4 (omega (arith, size_is h))) in
    let at_key : (i : ℕ) → i < length h.keys → get_or h.leaves i empty_rank ≡ held_rank (get_or h.keys i 0) i =
    λ i p. h.stands i (omega (arith, h.within)) ∙ pick_true _ _ (lt-ltb i (length h.keys) p) in
    let worst : Place (key_at far u) h.keys = place_of (key_at far u) h.keys (omega (arith, h.same (key_at far u), times_key (key_at far) u l)) in
    let inside : (i : ℕ) → i < length h.keys → i < 1024 = λ i p. omega (arith, h.within, h.few) in
    let top : rank_at tree 1 ≤ held_rank (key_at far u) worst.at = omega (
      arith,
      first_least h.leaves tree h.tournament worst.at (omega (arith, h.within, worst.inside, h.many)),
      at_key worst.at worst.inside ∙ ap (λ (x : ℕ). held_rank x worst.at) worst.is,
    ) in
    let won-in : won.place < length h.keys = elim (dec_lt won.place (length h.keys)) [
      | yes p ↦ p
      | no p ↦
          let out : ltb won.place (length h.keys) ≡ false = le-ltb won.place (length h.keys) (omega arith) in
          let e : rank_at tree 1 ≡ empty_rank = sym won.wins ∙ h.stands won.place (omega (arith, won.inside, h.many)) ∙ pick_false _ _ out in
          absurd (omega (arith, top, inside worst.at worst.inside))
    ] in
    let key : ℕ = get_or h.keys won.place 0 in
    let won-key : key ≤ key_at far u = first_most far u l h.falling key (omega (arith, h.same key, times_at h.keys won.place won-in)) in
    let all = exactly (get_or tree 3 0) (get_or tree 2 0) key (key_at far u) won.place worst.at j k (inside won.place won-in)
    (inside worst.at worst.inside) (key_below (far u) (f32s u)) won-key (sym won.wins ∙ at_key won.place won-in) top in
    record {
      inside = rw (shape, all.1) won-in;
      is = rw (shape, all.1) all.0;
      key = rw shape all.2;
    }

-- ---- one more, at a free place

module _ {far : ℕ → Float} {size : ℕ} {tree tree' : List ℕ} where
  -- v's key is put at a place: the keys are now those of l and v's, and every other place is as it was
  held_put : {held : List ℕ} (v : ℕ) (l : List ℕ) (h : Held far size held tree) (place : ℕ) (keys : List ℕ)
      → Putting place (held_rank (key_at far v) place) tree tree' → place < length keys → length keys ≤ size → get_or keys place 0 ≡ key_at far v
      → ((i : ℕ) → (i ≡ place → ⊥)
      → pick (ltb i (length h.keys)) (held_rank (get_or h.keys i 0) i) empty_rank ≡ pick (ltb i (length keys)) (held_rank (get_or keys i 0) i) empty_rank)
      → length keys ≡ suc (length l) → ((x : ℕ) → times x keys ≡ once x (key_at far v) + times x (map (key_at far) l)) → Falling far l
      → Held far size (hold far v l) tree'
  held_put v l h place keys put inside within mine others long same falling = record {
    keys = keys;
    leaves = set h.leaves place (held_rank (key_at far v) place);
    tournament = put h.leaves h.tournament (omega (arith, h.many));
    many = length-set h.leaves place _ ∙ h.many;
    few = h.few;
    within = within;
    stands = λ i p. elim (ℕ_discrete i place) [
      | yes e ↦ rw e (get_or-set_same h.leaves place _ empty_rank (omega (arith, h.many)) ∙ ap (λ (k : ℕ). held_rank k place) (sym mine)
          ∙ sym (pick_true _ _ (lt-ltb place (length keys) inside)))
      | no e ↦ get_or-set_other h.leaves place i _ empty_rank e ∙ h.stands i p ∙ others i e
    ];
    as_many = long ∙ sym (hold_one far v l);
    same = λ x. same x ∙ sym (hold_times far x v l);
    falling = hold_falling far v l falling;
  }

  pub held_more : (v : ℕ) (held : List ℕ) → length held < size → Putting (length held) (held_rank (key_at far v) (length held)) tree tree'
      → Held far size held tree → Held far size (hold far v held) tree'
  held_more v held room put h =
      held_put v held h (length held) keys' put (omega (arith, long, h.as_many)) (omega (arith, long, h.as_many))
      (rw (← h.as_many) (get_or-append_seam h.keys (key_at far v) [] 0)) others (long ∙ ap suc h.as_many)
      (λ x. omega (arith, times_more x (key_at far v) h.keys, h.same x)) h.falling
    where
      keys' : List ℕ
      keys' = h.keys ++ (key_at far v ∷ [])

      long : length keys' ≡ suc (length h.keys)
      long = omega (arith, length-append h.keys (key_at far v ∷ []))

      others : (i : ℕ) → (i ≡ length held → ⊥)
          → pick (ltb i (length h.keys)) (held_rank (get_or h.keys i 0) i) empty_rank ≡ pick (ltb i (length keys')) (held_rank (get_or keys' i 0) i) empty_rank
      others i e = elim (dec_lt i (length h.keys)) [
        | yes l ↦ pick_true _ _ (lt-ltb i (length h.keys) l)
            ∙ ap (λ (k : ℕ). held_rank k i) (sym (get_or-append h.keys (key_at far v ∷ []) 0 i l))
            ∙ sym (pick_true _ _ (lt-ltb i (length keys') (omega (arith, long))))
        | no l ↦
            let past : length held < i = lt_of_le-ne (omega (arith, h.as_many)) (λ q. e (sym q)) in
            pick_false _ _ (le-ltb i (length h.keys) (omega arith)) ∙ sym (pick_false _ _ (le-ltb i (length keys') (omega (arith, long, h.as_many))))
      ]

  -- ---- a node takes the worst's place

  pub held_over : (u v : ℕ) (l : List ℕ) (h : Held far size (u ∷ l) tree) (place : ℕ) → place < length h.keys → get_or h.keys place 0 ≡ key_at far u
      → Putting place (held_rank (key_at far v) place) tree tree' → Held far size (hold far v l) tree'
  unfolding times
  held_over u v l h place inside is put =
      let long : length (set h.keys place (key_at far v)) ≡ length h.keys = length-set h.keys place (key_at far v) in
      held_put v l h place (set h.keys place (key_at far v)) put (omega arith) (omega (arith, h.within))
      (get_or-set_same h.keys place (key_at far v) 0 inside) (λ i e. rw (long, get_or-set_other h.keys place i (key_at far v) 0 e)) (long ∙ h.as_many)
      (λ x. omega (arith, times-set x (key_at far v) h.keys place inside, h.same x, ap (once x) is)) h.falling.1
