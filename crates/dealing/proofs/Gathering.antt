-- Gathering as the slices hold it: one bucket more, and what remains at the end. Assumes nothing.
use mathlib.Core.Path.{◌≡◌, refl, sym, ap, ap₂, ◌∙◌}
use mathlib.Core.List.{List, [], ◌∷◌, ◌++◌, map-append, flatten, append_assoc, append-nil}
use Prim.Native.Nat.{ℕ, zero, suc, ◌+◌, ◌≤◌, ◌<◌}
use native.Mathlib.Numerals.{add-one}
use native.Mathlib.Omega.{arith}
use native.Mathlib.Decide.{dec_le}
use lib.Dec.{leb, eqb, eqb→eq}
use lib.ListN.{length, take, drop, length-append, replicate-append-replicate}
use lib.Seq.{take_at, drop_at, length-take-le}
use mir.Facts.{leb_no}
use borrow.Author.Tests.{le-leb, lt-leb, eq-eqb, ne_eqb}
use Rattle.basics.specs.Choice.{pick, pick_ind, pick_true, pick_false}
use Rattle.random.specs.Leaders.{up_to}
use Rattle.def_graph.specs.Partition.{Gathered, gather_one, gather_all, onto_last, gathered}
use Rattle.def_graph.specs.Inside.Occurrences.{entries}
use Rattle.def_graph.proofs.partition.Gathering.{all_weight, weigh_all_append}
use Rattle.def_graph.proofs.partition.Laws.{weight_length, entries-length}
use Rattle.dealing.specs.Inside.Marks.{run, marks_of}
use Rattle.dealing.specs.Inside.Cards.{bucket_at, buckets_by}
use Rattle.dealing.specs.Inside.Steps.{Holds, Gathers, Roomy, none_yet}
use Rattle.dealing.specs.declared.Carded.{Carded}
use Rattle.dealing.specs.declared.Held.{Held}
use Rattle.dealing.proofs.Marks.{length_run, length-marks, flatten_snoc, marks_snoc, marks_one}

-- ---- a part put behind what is placed

-- `part` stands behind the first `at`, and is marked as a bucket
abbrev Put : List ℕ → ℕ → (nodes marks nodes' marks' : List ℕ) → Type 0
Put part at nodes marks nodes' marks' =
    (nodes' ≡ take at nodes ++ (part ++ drop (at + length part) nodes)) × (marks' ≡ take at marks ++ (run 1 (length part) ++ drop (at + length part) marks))

-- the first words of a slice, once more are put behind them
put_front_lem : (front part rest : List ℕ) (k : ℕ) → length front + length part ≡ k → take k (front ++ (part ++ rest)) ≡ front ++ part
put_front_lem front part rest k e = rw (← append_assoc front part rest) (take_at (front ++ part) rest k (omega (arith, length-append front part)))

holds_more : {g : Gathered} {w : Held} {small nodes marks : List ℕ} → Holds g w small nodes marks
    → (part nodes' marks' : List ℕ) → Put part w.at nodes marks nodes' marks'
    → {held' : ℕ} {small' kept : List ℕ} → held' ≡ length kept → take held' small' ≡ kept
    → Holds (record { placed = g.placed ++ (part ∷ []); small = kept }) (record { at = w.at + length part; held = held' }) small' nodes' marks'
holds_more {g} {w} {small} {nodes} {marks} h part nodes' marks' put size kept_is = record {
  placed_size = omega (arith, h.placed_size, ap length (flatten_snoc g.placed part), length-append (flatten g.placed) part);
  small_size = size;
  placed_nodes =
      ap (take (w.at + length part)) put.0 ∙ put_front_lem (take w.at nodes) part _ (w.at + length part) (omega (arith, h.placed_size, ap length h.placed_nodes))
      ∙ rw (h.placed_nodes, flatten_snoc);
  placed_marks =
      ap (take (w.at + length part)) put.1
      ∙ put_front_lem (take w.at marks) (run 1 (length part)) _ (w.at + length part)
      (omega (arith, h.placed_size, ap length h.placed_marks, length-marks g.placed, length_run 1 (length part)))
      ∙ rw (h.placed_marks, marks_snoc);
  small_nodes = kept_is;
}

-- ---- the bucket found, behind what has gathered

module _ (bucket small small' : List ℕ) (held size : ℕ) (within : held ≤ length small) (size_is : size ≡ length bucket)
    (found : small' ≡ take held small ++ (bucket ++ drop (held + size) small)) where
  small_front : length (take held small) ≡ held
  small_front = length-take-le held small within

  pub found_bucket : (k : ℕ) → k ≡ size → take k (drop held small') ≡ bucket
  found_bucket k e =
      ap (λ (r : List ℕ). take k (drop held r)) found
      ∙ ap (take k) (drop_at (take held small) (bucket ++ drop (held + size) small) held small_front)
      ∙ take_at bucket (drop (held + size) small) k (omega arith)

  pub found_before : take held small' ≡ take held small
  found_before = ap (take held) found ∙ take_at (take held small) (bucket ++ drop (held + size) small) held small_front

  pub found_joined : take (held + size) small' ≡ take held small ++ bucket
  found_joined = ap (take (held + size)) found ∙ put_front_lem (take held small) bucket (drop (held + size) small) (held + size) (omega (arith, small_front))

-- ---- the three ways of a bucket

module _ (minLeaf : ℕ) (g : Gathered) (bucket : List ℕ) where
  one_large : minLeaf ≤ length bucket → gather_one minLeaf g bucket ≡ record { placed = g.placed ++ (bucket ∷ []); small = g.small }
  unfolding gather_one
  one_large h = pick_true _ _ (le-leb minLeaf (length bucket) h)

  one_joined : length bucket < minLeaf → minLeaf ≤ length (g.small ++ bucket) → gather_one minLeaf g bucket ≡ record { placed = g.placed ++ ((g.small ++ bucket) ∷ []); small = [] }
  unfolding gather_one
  one_joined h k = pick_false _ _ (lt-leb minLeaf (length bucket) h) ∙ pick_true _ _ (le-leb minLeaf (length (g.small ++ bucket)) k)

  one_small : length bucket < minLeaf → length (g.small ++ bucket) < minLeaf → gather_one minLeaf g bucket ≡ record { placed = g.placed; small = g.small ++ bucket }
  unfolding gather_one
  one_small h k = pick_false _ _ (lt-leb minLeaf (length bucket) h) ∙ pick_false _ _ (lt-leb minLeaf (length (g.small ++ bucket)) k)

module _ (minLeaf : ℕ) {bucket : List ℕ} {w : Held} {carded : Carded} {small nodes marks small' : List ℕ} {size : ℕ}
    (room : Roomy bucket w carded small nodes marks) (size_is : size ≡ length bucket)
    (found : small' ≡ take w.held small ++ (bucket ++ drop (w.held + size) small)) where
  within : w.held ≤ length small
  within = omega (arith, room.small_room)

  joined_is : (g : Gathered) → Holds g w small nodes marks → take (w.held + size) small' ≡ g.small ++ bucket
  joined_is g h = found_joined bucket small small' w.held size within size_is found ∙ ap (λ (r : List ℕ). r ++ bucket) h.small_nodes

  joined_size : (g : Gathered) → Holds g w small nodes marks → w.held + size ≡ length (g.small ++ bucket)
  joined_size g h = omega (arith, length-append g.small bucket, h.small_size)

  -- placed: its own place
  pub gathers_large : {k : ℕ} {part nodes' marks' : List ℕ} → part ≡ take k (drop w.held small') → k ≡ size → minLeaf ≤ size
      → Put part w.at nodes marks nodes' marks' → Gathers minLeaf bucket w small nodes marks (record { at = w.at + size; held = w.held }) small' nodes' marks'
  gathers_large {k} {part} {nodes'} {marks'} p many large put g h =
      let is : part ≡ bucket = p ∙ found_bucket bucket small small' w.held size within size_is found k many in
      let ends : size ≡ length part = omega (arith, ap length is) in
      rw (one_large minLeaf g bucket (omega arith), ← is, ends)
      (holds_more h part nodes' marks' put h.small_size (found_before bucket small small' w.held size within size_is found ∙ h.small_nodes))

  -- placed with those before it
  pub gathers_joined : {part nodes' marks' : List ℕ} → part ≡ take (w.held + size) small' → size < minLeaf → minLeaf ≤ w.held + size
      → Put part w.at nodes marks nodes' marks' → Gathers minLeaf bucket w small nodes marks (record { at = w.at + (w.held + size); held = 0 }) small' nodes' marks'
  gathers_joined {part} {nodes'} {marks'} p few enough put g h =
      let is : part ≡ g.small ++ bucket = p ∙ joined_is g h in
      let ends : w.held + size ≡ length part = omega (arith, ap length is, joined_size g h) in
      rw (one_joined minLeaf g bucket (omega arith) (omega (arith, joined_size g h)), ← is, ends) (holds_more h part nodes' marks' put refl refl)

  -- it stays with them
  pub gathers_small : size < minLeaf → w.held + size < minLeaf → Gathers minLeaf bucket w small nodes marks (record { at = w.at; held = w.held + size }) small' nodes marks
  gathers_small few small-yet g h = rw (one_small minLeaf g bucket (omega arith) (omega (arith, joined_size g h))) record {
    placed_size = h.placed_size;
    small_size = joined_size g h;
    placed_nodes = h.placed_nodes;
    placed_marks = h.placed_marks;
    small_nodes = joined_is g h;
  }

-- ---- all buckets

all_snoc : (minLeaf : ℕ) (g : Gathered) (bs : List (List ℕ)) (b : List ℕ) → gather_all minLeaf g (bs ++ (b ∷ [])) ≡ gather_one minLeaf (gather_all minLeaf g bs) b
unfolding gather_all
all_snoc minLeaf g [] b = refl
all_snoc minLeaf g (c ∷ bs) b = all_snoc minLeaf (gather_one minLeaf g c) bs b

module _ (ids cards : List ℕ) where
  by_more : (l : ℕ) → buckets_by (l + 1) ids cards ≡ buckets_by l ids cards ++ (bucket_at l ids cards ∷ [])
  unfolding buckets_by up_to
  by_more l = ap (λ (k : ℕ). buckets_by k ids cards) (add-one l) ∙ map-append (λ (k : ℕ). bucket_at k ids cards) (up_to l) (l ∷ [])

  entries_more : (l : ℕ) → entries (buckets_by (l + 1) ids cards) ≡ entries (buckets_by l ids cards) + length (bucket_at l ids cards)
  entries_more l =
      ap entries (by_more l) ∙ weigh_all_append (λ (y : ℕ). 1) (buckets_by l ids cards) (bucket_at l ids cards ∷ [])
      ∙ omega (arith, weight_length (bucket_at l ids cards))

  entries_upto : (l k : ℕ) → l ≤ k → entries (buckets_by l ids cards) ≤ entries (buckets_by k ids cards)
  entries_upto l zero h = let e : l ≡ 0 = omega arith in rw e (omega arith)
  entries_upto l (suc k) h = elim (dec_le l k) [
    | yes j ↦ omega (arith, entries_upto l k j, rw add-one at (entries_more k))
    | no j ↦ let e : l ≡ suc k = omega arith in rw e (omega arith)
  ]

  module _ (minLeaf : ℕ) where
    abbrev pub so_far : ℕ → Gathered
    so_far l = gather_all minLeaf none_yet (buckets_by l ids cards)

    pub so_far_none : (small nodes marks : List ℕ) → Holds (so_far 0) (record { at = 0; held = 0 }) small nodes marks
    unfolding buckets_by up_to gather_all flatten marks_of
    so_far_none small nodes marks = record { placed_size = refl; small_size = refl; placed_nodes = refl; placed_marks = refl; small_nodes = refl }

    module _ (l : ℕ) {w : Held} {small nodes marks : List ℕ} (h : Holds (so_far l) w small nodes marks) where
      pub so_far_all : w.at + w.held ≡ entries (buckets_by l ids cards)
      so_far_all =
          omega (arith, all_weight (λ (y : ℕ). 1) minLeaf none_yet (buckets_by l ids cards), entries-length (so_far l).placed, weight_length (so_far l).small, h.placed_size, h.small_size)

      pub so_far_room : (leaders : ℕ) → l < leaders → w.at + (w.held + length (bucket_at l ids cards)) ≤ entries (buckets_by leaders ids cards)
      so_far_room leaders k = omega (arith, so_far_all, entries_more l, entries_upto (l + 1) leaders (omega arith))

      pub so_far_more : {w' : Held} {small' nodes' marks' : List ℕ}
          → Gathers minLeaf (bucket_at l ids cards) w small nodes marks w' small' nodes' marks' → Holds (so_far (l + 1)) w' small' nodes' marks'
      so_far_more step = rw (by_more l, all_snoc minLeaf none_yet (buckets_by l ids cards) (bucket_at l ids cards)) (step (so_far l) h)

-- ---- what remains

-- no bucket is empty
abbrev Full : List (List ℕ) → Type 0
Full [] = Unit
Full (b ∷ bs) = (0 < length b) × Full bs

full_snoc : (bs : List (List ℕ)) (b : List ℕ) → Full bs → 0 < length b → Full (bs ++ (b ∷ []))
full_snoc [] b f h = (h, tt)
full_snoc (c ∷ bs) b f h = (f.0, full_snoc bs b f.1 h)

one_full : (minLeaf : ℕ) (g : Gathered) (b : List ℕ) → 0 < minLeaf → Full g.placed → Full (gather_one minLeaf g b).placed
unfolding gather_one
one_full minLeaf g b h f =
    pick_ind (λ (r : Gathered). Full r.placed) (leb minLeaf (length b)) (λ t. full_snoc g.placed b f (omega (arith, lib.Dec.leb→le minLeaf (length b) t)))
    (λ _. pick_ind (λ (r : Gathered). Full r.placed) (leb minLeaf (length (g.small ++ b)))
    (λ t. full_snoc g.placed (g.small ++ b) f (omega (arith, lib.Dec.leb→le minLeaf (length (g.small ++ b)) t))) (λ _. f))

all_full : (minLeaf : ℕ) (g : Gathered) (bs : List (List ℕ)) → 0 < minLeaf → Full g.placed → Full (gather_all minLeaf g bs).placed
unfolding gather_all
all_full minLeaf g [] h f = f
all_full minLeaf g (b ∷ bs) h f = all_full minLeaf (gather_one minLeaf g b) bs h (one_full minLeaf g b h f)

-- where every bucket is large enough none gathers
one_none : (minLeaf : ℕ) (g : Gathered) (b : List ℕ) → minLeaf ≤ 0 → length g.small ≡ 0 → length (gather_one minLeaf g b).small ≡ 0
unfolding gather_one
one_none minLeaf g b h e =
    pick_ind (λ (r : Gathered). length r.small ≡ 0) (leb minLeaf (length b)) (λ _. e) (λ t. absurd (omega (arith, leb_no {a = minLeaf} {b = length b} t)))

all_none : (minLeaf : ℕ) (g : Gathered) (bs : List (List ℕ)) → minLeaf ≤ 0 → length g.small ≡ 0 → length (gather_all minLeaf g bs).small ≡ 0
unfolding gather_all
all_none minLeaf g [] h e = e
all_none minLeaf g (b ∷ bs) h e = all_none minLeaf (gather_one minLeaf g b) bs h (one_none minLeaf g b h e)

flatten_last : (bs : List (List ℕ)) (rest : List ℕ) → flatten (onto_last bs rest) ≡ flatten bs ++ rest
unfolding onto_last flatten
flatten_last [] rest = append-nil rest
flatten_last (b ∷ []) rest = append-nil (b ++ rest) ∙ ap (λ (r : List ℕ). r ++ rest) (sym (append-nil b))
flatten_last (b ∷ c ∷ bs) rest = ap (λ (r : List ℕ). b ++ r) (flatten_last (c ∷ bs) rest) ∙ sym (append_assoc b (flatten (c ∷ bs)) rest)

run_more : (first m k : ℕ) → 0 < m → run first (m + k) ≡ run first m ++ run 0 k
unfolding run
run_more first zero k h = absurd (omega arith)
run_more first (suc m) zero h =
    let e : suc m + zero ≡ suc m = omega arith in
    ap (run first) e ∙ sym (append-nil (run first (suc m)))
run_more first (suc m) (suc k) h =
    let e : suc m + suc k ≡ suc (m + suc k) = omega arith in
    ap (run first) e ∙ ap (λ (r : List ℕ). first ∷ r) (sym (replicate-append-replicate m (suc k) 0))

marks_last : (b : List ℕ) (bs : List (List ℕ)) (rest : List ℕ) → Full (b ∷ bs) → marks_of (onto_last (b ∷ bs) rest) ≡ marks_of (b ∷ bs) ++ run 0 (length rest)
unfolding onto_last marks_of
marks_last b [] rest f =
    append-nil (run 1 (length (b ++ rest))) ∙ ap (run 1) (length-append b rest) ∙ run_more 1 (length b) (length rest) f.0
    ∙ ap (λ (r : List ℕ). r ++ run 0 (length rest)) (sym (append-nil (run 1 (length b))))
marks_last b (c ∷ bs) rest f =
    ap (λ (r : List ℕ). run 1 (length b) ++ r) (marks_last c bs rest f.1) ∙ sym (append_assoc (run 1 (length b)) (marks_of (c ∷ bs)) (run 0 (length rest)))

-- what remains begins a bucket only where none stands before it
marks_onto : (bs : List (List ℕ)) (rest : List ℕ) → Full bs → marks_of (onto_last bs rest) ≡ marks_of bs ++ run (pick (eqb (length (flatten bs)) 0) 1 0) (length rest)
unfolding onto_last flatten marks_of
marks_onto [] rest f = marks_one rest ∙ ap (λ (first : ℕ). run first (length rest)) (sym (pick_true {X = ℕ} 1 0 (eq-eqb 0 0 refl)))
marks_onto (b ∷ bs) rest f =
    marks_last b bs rest f
    ∙ ap (λ (first : ℕ). marks_of (b ∷ bs) ++ run first (length rest))
    (sym (pick_false {X = ℕ} 1 0 (ne_eqb (length (b ++ flatten bs)) 0 (λ e. omega (arith, f.0, length-append b (flatten bs))))))

module _ (minLeaf : ℕ) (buckets : List (List ℕ)) (w : Held) (small nodes marks : List ℕ) (h : Holds (gather_all minLeaf none_yet buckets) w small nodes marks) where
  abbrev all : Gathered
  all = gather_all minLeaf none_yet buckets

  none_left : (l : List ℕ) → length l ≡ 0 → l ≡ []
  none_left [] e = refl
  none_left (x ∷ l) e = absurd (omega arith)

  pub gathered_nodes : take w.at nodes ++ take w.held small ≡ flatten (gathered minLeaf buckets)
  unfolding gathered
  gathered_nodes =
      ap₂ (λ (a : List ℕ) (b : List ℕ). a ++ b) h.placed_nodes h.small_nodes
      ∙ pick_ind (λ (r : List (List ℕ)). flatten all.placed ++ all.small ≡ flatten r) (eqb (length all.small) 0)
      (λ t. ap (λ (r : List ℕ). flatten all.placed ++ r) (none_left all.small (eqb→eq (length all.small) 0 t)) ∙ append-nil (flatten all.placed))
      (λ _. sym (flatten_last all.placed all.small))

  marks_so : (rest : ℕ) → rest ≡ length all.small
      → marks_of all.placed ++ run (pick (eqb (length (flatten all.placed)) 0) 1 0) rest ≡ marks_of (gathered minLeaf buckets)
  unfolding gathered run
  marks_so rest e =
      ap (λ (n : ℕ). marks_of all.placed ++ run (pick (eqb (length (flatten all.placed)) 0) 1 0) n) e
      ∙ pick_ind (λ (r : List (List ℕ)). marks_of all.placed ++ run (pick (eqb (length (flatten all.placed)) 0) 1 0) (length all.small) ≡ marks_of r) (eqb (length all.small) 0)
      (λ t. ap (λ (n : ℕ). marks_of all.placed ++ run (pick (eqb (length (flatten all.placed)) 0) 1 0) n) (eqb→eq (length all.small) 0 t) ∙ append-nil (marks_of all.placed))
      (λ t. sym (marks_onto all.placed all.small (all_full minLeaf none_yet buckets (some t) tt)))
    where
      some : lib.Dec.T (mathlib.Core.Bool.not (eqb (length all.small) 0)) → 0 < minLeaf
      some t = elim (dec_le minLeaf 0) [
        | yes k ↦ absurd (lib.Dec.T_not (eqb (length all.small) 0) t (mir.Facts.yes_eqb (all_none minLeaf none_yet buckets k refl)))
        | no k ↦ omega arith
      ]

  pub gathered_marks : (rest : ℕ) → rest ≡ w.held → take w.at marks ++ run (pick (eqb w.at 0) 1 0) rest ≡ marks_of (gathered minLeaf buckets)
  gathered_marks rest e =
      ap₂ (λ (a : List ℕ) (n : ℕ). a ++ run (pick (eqb n 0) 1 0) rest) h.placed_marks h.placed_size
      ∙ marks_so rest (e ∙ h.small_size)
