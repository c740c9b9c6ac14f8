-- One segment and its buckets, as the slices hold them, against the equations of carving. Assumes nothing.
use mathlib.Core.Path.{◌≡◌, refl, sym, ap, ap₂, ◌∙◌, subst}
use mathlib.Core.Bool.{true}
use mathlib.Core.List.{List, [], ◌∷◌, ◌++◌, map, flatten, append-nil, append_assoc}
use Prim.Native.Nat.{ℕ, ◌-◌, ◌*◌, ◌/◌, ◌≤◌, ◌<◌, min}
use native.Mathlib.Nat.{mul-le-mul_right}
use native.Mathlib.Omega.{arith}
use native.Mathlib.Decide.{dec_le}
use lib.Dec.{leb, eqb}
use lib.ListN.{length, get_or, take, drop, length-append, drop_of_length-le, take-append-drop, get_or-append}
use borrow.Rule.Slice.PartMut.{put_mid}
use lib.Seq.{take_at, drop_at, take_all, take-append-le, length-take-le}
use borrow.Author.Tests.{eq-eqb, ne_eqb, le-leb, lt-leb}
use Rattle.basics.specs.Choice.{pick, pick_true, pick_false, pick_ind}
use Rattle.random.specs.Leaders.{up_to}
use Rattle.random.proofs.leaders.Draws.{length-up_to}
use Rattle.distance.specs.Vectors.{vectors_of}
use Rattle.distance.specs.declared.vectors.Vectors.{Vectors}
use Rattle.def_graph.specs.Partition.{fanout, is_leaf, carve_buckets, leaves_of, each_by, segment_equation}
use Rattle.dealing.specs.Inside.Marks.{run, marks_of}
use Rattle.dealing.specs.Inside.Deal.{Fitting, Holding}
use Rattle.dealing.specs.declared.Segment.{Segment}
use Rattle.dealing.proofs.Marks.{marks_one, flatten_one, length-marks}
use Rattle.carving.specs.Inside.Carving.{non_empty, Laid}
use Rattle.carving.specs.Inside.Steps.{below, dealt_in, leaves_in, leaves_under, segment_size, Dealing, CarvesSegment}
use Rattle.carving.specs.declared.CarveParams.{CarveParams}
use Rattle.carving.specs.declared.Carve.{Carve}
use Rattle.carving.proofs.Leaves.{Last, last_of, one_first, none_left, flatten-full}

-- ---- the fanout

pub fan_one : (level : ℕ) → 1 ≤ level → level ≤ 20 → fanout level ≡ 1
unfolding fanout
fan_one level h k = pick_false {X = ℕ} 2 _ (ne_eqb level 0 (λ e. omega arith)) ∙ pick_true {X = ℕ} 1 0 (le-leb level 20 k)

pub fan_top : fanout 0 ≡ 2
unfolding fanout
fan_top = pick_true {X = ℕ} 2 (pick (leb 0 20) 1 0) (eq-eqb 0 0 refl)

pub fan_some : (level : ℕ) → (fanout level ≡ 0 → ⊥) → level ≤ 20
unfolding fanout
fan_some level =
    pick_ind (λ (k : ℕ). (k ≡ 0 → ⊥) → level ≤ 20) (eqb level 0) (λ t _. omega (arith, lib.Dec.eqb→eq level 0 t))
    (λ _. pick_ind (λ (k : ℕ). (k ≡ 0 → ⊥) → level ≤ 20) (leb level 20) (λ t _. lib.Dec.leb→le level 20 t) (λ _ f. absurd (f refl)))

-- ---- a segment that is dealt over a slice

-- it is no longer than the slice
pub segment_within : (c : Carve) (nodes marks : List ℕ) → Dealing c nodes marks → segment_size c nodes ≤ length nodes
segment_within c nodes marks d = let m = mul-le-mul_right (segment_size c nodes) d.deals in omega (arith, d.whole)

-- below the top it is the slice
pub size_down : (c : Carve) (nodes : List ℕ) → fanout c.level ≡ 1 → segment_size c nodes ≡ length nodes
size_down c nodes e = ap (λ (k : ℕ). length nodes / k) e ∙ omega arith

-- at the top half of it
pub size_top : (c : Carve) (nodes : List ℕ) (n : ℕ) → fanout c.level ≡ 2 → length nodes ≡ 2 * n → segment_size c nodes ≡ n
size_top c nodes n e h = ap (λ (k : ℕ). length nodes / k) e ∙ omega arith

-- so it is dealt
pub dealing : (c : Carve) (nodes marks : List ℕ) (k n : ℕ) → fanout c.level ≡ k → segment_size c nodes ≡ n → 1 ≤ k → 2 ≤ n → length nodes ≡ k * n
    → length nodes ≤ 2048 → length marks ≡ length nodes → Dealing c nodes marks
dealing c nodes marks k n e f deals two whole few marked = record {
  deals = omega arith;
  two = omega arith;
  whole = whole ∙ ap₂ (λ (a : ℕ) (b : ℕ). a * b) (sym e) (sym f);
  few = few;
  marked = marked;
}

-- and fits
pub fitting : (c : Carve) (s : Segment) (nodes marks : List ℕ) → Dealing c nodes marks → s.level ≡ c.level → s.ids.now ≡ take (segment_size c nodes) nodes
    → (room cards : ℕ) → 2048 ≤ room → cards ≡ segment_size c nodes → Fitting s nodes marks room cards
fitting c s nodes marks d l e room cards r f =
    let size = ap length e ∙ length-take-le (segment_size c nodes) nodes (segment_within c nodes marks d) in
    record {
      deals = rw l d.deals;
      two = omega (arith, size, d.two);
      nodes_size = d.whole ∙ ap₂ (λ (k : ℕ) (n : ℕ). k * n) (ap fanout (sym l)) (sym size);
      marks_size = d.marked;
      few = d.few;
      room_size = omega (arith, d.few);
      cards_size = f ∙ sym size;
    }

-- ---- the end of a front part: what stands before it, and behind

module _ (xs front part : List ℕ) (at end : ℕ) (within : end ≤ length xs) (before : at ≤ end) (size : length front ≡ at) (is : take end xs ≡ front ++ part) where
  part_size : length part ≡ end - at
  part_size = omega (arith, ap length is, length-append front part, length-take-le end xs within)

  whole : xs ≡ front ++ (part ++ drop end xs)
  whole = sym (take-append-drop end xs) ∙ ap (λ (r : List ℕ). r ++ drop end xs) is ∙ append_assoc front part (drop end xs)

  behind_front : drop at xs ≡ part ++ drop end xs
  behind_front = ap (drop at) whole ∙ drop_at front (part ++ drop end xs) at size

  pub front_is : take at xs ≡ front
  front_is = ap (take at) whole ∙ take_at front (part ++ drop end xs) at size

  pub part_is : take (end - at) (drop at xs) ≡ part
  part_is = ap (take (end - at)) behind_front ∙ take_at part (drop end xs) (end - at) part_size

  -- something else is put in place of the part
  pub put_front : (x : List ℕ) → take at (put_mid at (end - at) xs x) ≡ front
  put_front x = take_at (take at xs) (x ++ drop (end - at) (drop at xs)) at (ap length front_is ∙ size) ∙ front_is

  pub put_behind : (x : List ℕ) → drop at (put_mid at (end - at) xs x) ≡ x ++ drop end xs
  put_behind x =
      drop_at (take at xs) (x ++ drop (end - at) (drop at xs)) at (ap length front_is ∙ size)
      ∙ ap (λ (r : List ℕ). x ++ r) (ap (drop (end - at)) behind_front ∙ drop_at part (drop end xs) (end - at) part_size)

module _ (c : Carve) where
  -- ---- a leaf, and what is none

  leaf_or : (ids : List ℕ) → is_leaf c.p.max_leaf c.level ids ≡ true → leaves_in c ids ≡ ids ∷ []
  leaf_or ids e = segment_equation c.p.max_leaf c.p.dealing.min_leaf c.p.dealing.leader_fraction (vectors_of c.vectors) c.level ids ∙ pick_true _ _ e

  pub leaf_small : (ids : List ℕ) → length ids ≤ c.p.max_leaf → leaves_in c ids ≡ ids ∷ []
  unfolding is_leaf
  leaf_small ids h = leaf_or ids (ap (λ (b : mathlib.Core.Bool.Bool). mathlib.Core.Bool.◌||◌ b (eqb (fanout c.level) 0)) (le-leb (length ids) c.p.max_leaf h))

  pub leaf_deep : (ids : List ℕ) → fanout c.level ≡ 0 → leaves_in c ids ≡ ids ∷ []
  unfolding is_leaf
  leaf_deep ids e =
      leaf_or ids
      (ap (λ (b : mathlib.Core.Bool.Bool). mathlib.Core.Bool.◌||◌ (leb (length ids) c.p.max_leaf) b) (eq-eqb (fanout c.level) 0 e) ∙ mathlib.Core.Bool.or-true (leb (length ids) c.p.max_leaf))

  pub dealt_down : (ids : List ℕ) → c.p.max_leaf < length ids → (fanout c.level ≡ 0 → ⊥) → leaves_in c ids ≡ leaves_under (below c) (dealt_in c ids)
  unfolding is_leaf
  dealt_down ids h f =
      segment_equation c.p.max_leaf c.p.dealing.min_leaf c.p.dealing.leader_fraction (vectors_of c.vectors) c.level ids
      ∙ pick_false _ _ (ap₂ mathlib.Core.Bool.◌||◌ (lt-leb (length ids) c.p.max_leaf h) (ne_eqb (fanout c.level) 0 f))

  -- a leaf stays as it is
  pub leaf_stays : (nodes marks : List ℕ) → leaves_in c nodes ≡ nodes ∷ [] → CarvesSegment c nodes marks nodes marks
  leaf_stays nodes marks e m = (sym (ap flatten e ∙ flatten_one nodes), m ∙ sym (ap marks_of e))

  -- ---- buckets, one after the other, the last first

  empty_leaf : leaves_in c [] ≡ [] ∷ []
  empty_leaf = leaf_small [] (omega arith)

  -- in front of `end` stand some buckets, from there on the leaves of the others; from `at` on no bucket in front begins
  pub record Partly (buckets : List (List ℕ)) (nodes marks : List ℕ) (at end : ℕ) : Type 0 where
    pub front : List (List ℕ)
    pub left : Holding front (take end nodes) (take end marks)
    pub nodes_done : flatten (leaves_under c buckets) ≡ flatten (leaves_under c front) ++ drop end nodes
    pub marks_done : marks_of (leaves_under c buckets) ≡ marks_of (leaves_under c front) ++ drop end marks
    pub zeroes : (i : ℕ) → at ≤ i → i < end → get_or marks i 0 ≡ 0

  module _ (bs : List (List ℕ)) (nodes marks : List ℕ) (even : length marks ≡ length nodes) where
    pub partly_none : Holding bs nodes marks → Partly bs nodes marks (length nodes) (length nodes)
    partly_none h =
        let under : List (List ℕ) = leaves_under c bs in
        record {
          front = bs;
          left = (take_all (length nodes) nodes (omega arith) ∙ h.0, take_all (length nodes) marks (omega arith) ∙ h.1);
          nodes_done = sym (ap (λ (r : List ℕ). flatten under ++ r) (drop_of_length-le nodes {i = length nodes} (omega arith)) ∙ append-nil (flatten under));
          marks_done = sym (ap (λ (r : List ℕ). marks_of under ++ r) (drop_of_length-le marks {i = length nodes} (omega arith)) ∙ append-nil (marks_of under));
          zeroes = λ i h k. absurd (omega arith);
        }

    module _ (at end : ℕ) (within : end ≤ length nodes) (p : Partly bs nodes marks at end) where
      front_long : length (marks_of p.front) ≡ end
      front_long = ap length (sym p.left.1) ∙ length-take-le end marks (omega arith)

      front_mark : (i : ℕ) → i < end → get_or (marks_of p.front) i 0 ≡ get_or marks i 0
      front_mark i h = ap (λ (r : List ℕ). get_or r i 0) (sym p.left.1)
          ∙ sym (get_or-append (take end marks) (drop end marks) 0 i (omega (arith, length-take-le end marks (omega arith))))
          ∙ ap (λ (r : List ℕ). get_or r i 0) (take-append-drop end marks)

      pub partly_done : at ≡ 0 → Holding (leaves_under c bs) nodes marks
      unfolding carve_buckets
      partly_done e = (
        sym (p.nodes_done ∙ ap₂ (λ (a : List ℕ) (k : ℕ). a ++ drop k nodes) none.0 ended),
        sym (p.marks_done ∙ ap₂ (λ (a : List ℕ) (k : ℕ). a ++ drop k marks) none.1 ended),
      )
        where
          ended : end ≡ 0
          ended = elim (dec_le end 0) [
            | yes h ↦ omega arith
            | no h ↦ absurd (omega (arith, one_first p.front 0 (omega (arith, front_long)), front_mark 0 (omega arith), p.zeroes 0 (omega arith) (omega arith)))
          ]

          none : (flatten (each_by (leaves_in c) p.front) ≡ []) × (marks_of (each_by (leaves_in c) p.front) ≡ [])
          none = (none_left p.front (omega (arith, ended, front_long, length-marks p.front))).1 (leaves_in c) empty_leaf

      -- no bucket begins at the node before
      pub partly_same : 0 < at → get_or marks (at - 1) 0 ≡ 0 → Partly bs nodes marks (at - 1) end
      partly_same h e = record {
        front = p.front;
        left = p.left;
        nodes_done = p.nodes_done;
        marks_done = p.marks_done;
        zeroes = λ i j k. elim (dec_le at i) [
          | yes m ↦ p.zeroes i m k
          | no m ↦ let same : i ≡ at - 1 = omega arith in ap (λ (n : ℕ). get_or marks n 0) same ∙ e
        ];
      }

      -- a bucket begins there, and is carved
      module _ (j : ℕ) (is : j ≡ at - 1) (some : 0 < at) (before : at ≤ end) (begins : get_or marks j 0 ≡ 0 → ⊥) (n₁ m₁ : List ℕ)
          (one : CarvesSegment c (take (end - j) (drop j nodes)) (take (end - j) (drop j marks)) n₁ m₁) where
        l : Last p.front j
        l = last_of p.front j (omega (arith, front_long)) (λ e. begins (sym (front_mark j (omega arith)) ∙ e))
            (λ i h k. front_mark i (omega (arith, front_long)) ∙ p.zeroes i (omega arith) (omega (arith, front_long)))

        nodes_in : take end nodes ≡ flatten l.others ++ l.bucket
        nodes_in = p.left.0 ∙ l.nodes_are

        marks_in : take end marks ≡ marks_of l.others ++ run 1 (length l.bucket)
        marks_in = p.left.1 ∙ l.marks_are

        marks_long : length (marks_of l.others) ≡ j
        marks_long = length-marks l.others ∙ l.begins

        bucket_nodes : take (end - j) (drop j nodes) ≡ l.bucket
        bucket_nodes = part_is nodes (flatten l.others) l.bucket j end within (omega arith) l.begins nodes_in

        bucket_marks : take (end - j) (drop j marks) ≡ marks_of (take (end - j) (drop j nodes) ∷ [])
        bucket_marks =
            part_is marks (marks_of l.others) (run 1 (length l.bucket)) j end (omega arith) (omega arith) marks_long marks_in
            ∙ ap (λ (b : List ℕ). run 1 (length b)) (sym bucket_nodes) ∙ sym (marks_one (take (end - j) (drop j nodes)))

        held : Holding (leaves_in c l.bucket) n₁ m₁
        held = subst (λ (b : List ℕ). Holding (leaves_in c b) n₁ m₁) bucket_nodes (one bucket_marks)

        pub partly_more : Partly bs (put_mid j (end - j) nodes n₁) (put_mid j (end - j) marks m₁) j j
        unfolding carve_buckets
        partly_more = record {
          front = l.others;
          left = (
            put_front nodes (flatten l.others) l.bucket j end within (omega arith) l.begins nodes_in n₁,
            put_front marks (marks_of l.others) (run 1 (length l.bucket)) j end (omega arith) (omega arith) marks_long marks_in m₁,
          );
          nodes_done = p.nodes_done
              ∙ ap (λ (r : List ℕ). r ++ drop end nodes) ((l.each (leaves_in c) empty_leaf).0 ∙ ap (λ (r : List ℕ). flatten (each_by (leaves_in c) l.others) ++ r) (sym held.0))
              ∙ append_assoc (flatten (each_by (leaves_in c) l.others)) n₁ (drop end nodes)
              ∙ ap (λ (r : List ℕ). flatten (each_by (leaves_in c) l.others) ++ r)
              (sym (put_behind nodes (flatten l.others) l.bucket j end within (omega arith) l.begins nodes_in n₁));
          marks_done = p.marks_done
              ∙ ap (λ (r : List ℕ). r ++ drop end marks) ((l.each (leaves_in c) empty_leaf).1 ∙ ap (λ (r : List ℕ). marks_of (each_by (leaves_in c) l.others) ++ r) (sym held.1))
              ∙ append_assoc (marks_of (each_by (leaves_in c) l.others)) m₁ (drop end marks)
              ∙ ap (λ (r : List ℕ). marks_of (each_by (leaves_in c) l.others) ++ r)
              (sym (put_behind marks (marks_of l.others) (run 1 (length l.bucket)) j end (omega arith) (omega arith) marks_long marks_in m₁));
          zeroes = λ i h k. absurd (omega arith);
        }

-- ---- the first segment

pub positions_front : (n : ℕ) (to x : List ℕ) → n ≤ length to → x ≡ up_to (min n (length to)) ++ drop (min n (length to)) to → take n x ≡ up_to n
positions_front n to x h p =
    let m : min n (length to) ≡ n = omega arith in
    ap (take n) (p ∙ ap (λ (k : ℕ). up_to k ++ drop k to) m) ∙ take_at (up_to n) (drop n to) n (length-up_to n)

module _ (vectors : Vectors) (p : CarveParams) (n : ℕ) (many : length (vectors_of vectors) ≡ n) where
  abbrev top : Carve
  top = record { vectors = vectors; p = p; level = 0 }

  abbrev leaves : List (List ℕ)
  leaves = leaves_of p.max_leaf p.dealing.min_leaf p.dealing.leader_fraction (vectors_of vectors)

  all_in : leaves ≡ leaves_in top (up_to n)
  unfolding leaves_of
  all_in = ap (λ (k : ℕ). leaves_in top (up_to k)) many

  -- it is one leaf
  pub top_leaf : n ≤ p.max_leaf → (nodes marks : List ℕ) → nodes ≡ up_to n → marks ≡ run 1 n → Holding leaves nodes marks
  top_leaf h nodes marks a b =
      let one : leaves ≡ up_to n ∷ [] = all_in ∙ leaf_small top (up_to n) (omega (arith, length-up_to n)) in
      (a ∙ sym (ap flatten one ∙ flatten_one (up_to n)), b ∙ ap (run 1) (sym (length-up_to n)) ∙ sym (ap marks_of one ∙ marks_one (up_to n)))

  -- it is dealt
  pub top_dealt : p.max_leaf < n → (part : List ℕ) → part ≡ up_to n → leaves ≡ leaves_under (below top) (dealt_in top part)
  top_dealt h part e =
      all_in
      ∙ dealt_down top (up_to n) (omega (arith, length-up_to n)) (λ z. omega (arith, fan_top))
      ∙ ap (λ (l : List ℕ). leaves_under (below top) (dealt_in top l)) (sym e)

-- ---- what is left in the words

pub laid : (leaves : List (List ℕ)) (nodes sizes : List ℕ) (n total count : ℕ) → length nodes ≡ 2 * n → total ≤ length nodes → take total nodes ≡ flatten leaves
    → (count ≡ length (non_empty leaves)) × (take (length (non_empty leaves)) sizes ≡ map length (non_empty leaves))
    → Laid (non_empty leaves) count (2 * n) (nodes ++ sizes)
laid leaves nodes sizes n total count e h are c =
    let all = flatten-full leaves in
    let size : length (flatten (non_empty leaves)) ≡ total = ap length (all ∙ sym are) ∙ length-take-le total nodes h in
    record {
      counted = c.0;
      nodes = ap (λ (k : ℕ). take k (nodes ++ sizes)) size ∙ take-append-le total nodes sizes h ∙ are ∙ sym all;
      sizes = ap (take (length (non_empty leaves))) (drop_at nodes sizes (2 * n) e) ∙ c.1;
    }
