-- Cards say where nodes go: a bucket for each leader by cards is the definition's bucket. Assumes nothing.
use mathlib.Core.Path.{◌≡◌, refl, sym, ap, ap₂, ◌∙◌}
use mathlib.Core.Bool.{Bool, true, false, ◌||◌}
use mathlib.Core.List.Memᴰ.{head as here}
use mathlib.Core.List.Memᴰ.{tail as there}
use mathlib.Core.List.{List, [], ◌∷◌, ◌++◌, map, map-append, append-nil}
use Prim.Native.Nat.{ℕ, ◌+◌, ◌-◌, ◌*◌, ◌/◌, ◌%◌, ◌≤◌, ◌<◌, min}
use native.Mathlib.Numerals.{add-one}
use native.Mathlib.Nat.{mul-le-mul_right}
use native.Mathlib.Omega.{arith}
use lib.Dec.{eqb, leb}
use lib.ListN.{length, get_or, set, take, drop, length-map, drop_of_length-le, get_or-append, get_or-map}
use lib.Seq.{take-suc, take_all, length-take-le}
use lib.Ieee.{Float}
use Rattle.basics.specs.Choice.{pick, pick_ind}
use Rattle.basics.specs.Lists.{keep}
use Rattle.basics.specs.Nodes.{has, Below}
use Rattle.basics.proofs.Members.{in_get_d}
use Rattle.basics.proofs.Loops.{front_set}
use Rattle.sorting.specs.declared.Keyed.{Keyed}
use Rattle.sorting.specs.Inside.Pairs.{id_in}
use Rattle.sorting.proofs.Pairs.{no_pair}
use Rattle.random.specs.Leaders.{up_to, drawn, draw_start, drawn_into, leader_count, leader_positions}
use Rattle.random.proofs.leaders.Positions.{length_positions}
use Rattle.def_graph.specs.Partition.{nearest_leaders, dealt, leaders_of, gathered, buckets_of, fanout}
use Rattle.def_graph.specs.Inside.Occurrences.{entries}
use Rattle.def_graph.proofs.partition.Dealing.{nearest_below, nearest_length, dealt_weight}
use Rattle.dealing.specs.declared.Segment.{Segment}
use Rattle.dealing.specs.Inside.Deal.{Fitting, buckets_for}
use Rattle.distance.specs.Vectors.{vectors_of}
use Rattle.dealing.specs.Inside.Cards.{card_of, names, bucket_at, buckets_by}
use Rattle.def_graph.proofs.partition.Laws.{weight_length}

or_same : (a : Bool) → (a || a) ≡ (a || false)
or_same true = refl
or_same false = refl

or_two : (a b : Bool) → (a || b) ≡ (a || (b || false))
or_two true b = refl
or_two false true = refl
or_two false false = refl

-- a card of one leader or two names those
names-has : (l : ℕ) (xs : List ℕ) → 1 ≤ length xs → length xs ≤ 2 → Below 65536 xs → names l (card_of xs) ≡ has l xs
unfolding card_of has
names-has l [] h k b = absurd (omega arith)
names-has l (x ∷ []) h k b =
    let s = b x (here refl) in
    let low : (x + 65536 * x) % 65536 ≡ x = omega arith in
    let high : (x + 65536 * x) / 65536 ≡ x = omega arith in
    ap₂ (λ (m : ℕ) (n : ℕ). eqb l m || eqb l n) low high ∙ or_same (eqb l x)
names-has l (x ∷ y ∷ []) h k b =
    let s = b x (here refl) in
    let t = b y (there (here refl)) in
    let low : (x + 65536 * y) % 65536 ≡ x = omega arith in
    let high : (x + 65536 * y) / 65536 ≡ y = omega arith in
    ap₂ (λ (m : ℕ) (n : ℕ). eqb l m || eqb l n) low high ∙ or_two (eqb l x) (eqb l y)
names-has l (x ∷ y ∷ z ∷ xs) h k b = absurd (omega arith)

module _ (vs : List (List Float)) (fan : ℕ) (leaders : List ℕ) (some : 1 ≤ fan) (most : fan ≤ 2) (many : fan ≤ length leaders) (few : length leaders ≤ 2048) where
  abbrev pub card : ℕ → ℕ
  card id = card_of (nearest_leaders vs fan leaders id)

  card_names : (l id : ℕ) → names l (card id) ≡ has l (nearest_leaders vs fan leaders id)
  card_names l id =
      let n = nearest_length vs fan leaders id in
      names-has l (nearest_leaders vs fan leaders id) (omega arith) (omega arith) (λ x m. let b = nearest_below vs fan leaders id x m in omega arith)

  kept : (l : ℕ) (ids : List ℕ) → bucket_at l ids (map card ids) ≡ keep (λ (id : ℕ). has l (nearest_leaders vs fan leaders id)) ids
  unfolding bucket_at keep
  kept l [] = refl
  kept l (x ∷ ids) = ap₂ (λ (b : Bool) (r : List ℕ). pick b (x ∷ r) r) (card_names l x) (kept l ids)

  pub by_cards : (ids : List ℕ) → buckets_by (length leaders) ids (map card ids) ≡ dealt vs fan leaders ids
  unfolding buckets_by dealt
  by_cards ids = λ i. map (λ (l : ℕ). kept l ids i) (up_to (length leaders))

  pub all_dealt : (ids : List ℕ) → entries (buckets_by (length leaders) ids (map card ids)) ≡ fan * length ids
  all_dealt ids =
      let fewer : min fan (length leaders) ≡ fan = omega arith in
      ap entries (by_cards ids) ∙ dealt_weight (λ (y : ℕ). 1) vs fan leaders ids ∙ rw (fewer, weight_length)

-- ---- cards, as a loop over nodes writes them

module _ (g : ℕ → ℕ) (ids cards : List ℕ) where
  abbrev pub written : ℕ → List ℕ
  written i = map g (take i ids) ++ drop i cards

  module _ (same : length cards ≡ length ids) where
    written_size : (i : ℕ) → i ≤ length ids → length (map g (take i ids)) ≡ i
    written_size i h = length-map (take i ids) g ∙ length-take-le i ids h

    pub written_more : (i : ℕ) → i < length ids → set (written i) i (g (get_or ids i 0)) ≡ written (i + 1)
    written_more i h =
        front_set cards (map g (take i ids)) i (g (get_or ids i 0)) (written_size i (omega arith)) (omega arith)
        ∙ ap (λ (r : List ℕ). r ++ drop (i + 1) cards)
        (sym (map-append g (take i ids) (get_or ids i 0 ∷ [])) ∙ ap (map g) (sym (take-suc ids i 0 h) ∙ ap (λ (k : ℕ). take k ids) (sym (add-one i))))

    pub written_end : (i : ℕ) → length ids ≤ i → written i ≡ map g ids
    written_end i h =
        ap₂ (λ (a : List ℕ) (b : List ℕ). map g a ++ b) (take_all i ids h) (drop_of_length-le cards {i = i} (omega arith)) ∙ append-nil (map g ids)

-- ---- the draws, where there is room for all

pub drawn_all : (level n room : ℕ) (out : List ℕ) → n ≤ room → length out ≤ n → drawn_into level (min n room) out ≡ drawn (length out) (draw_start level) (up_to n)
unfolding drawn_into
drawn_all level n room out h k =
    let a : min n room ≡ n = omega arith in
    let b : min (length out) n ≡ length out = omega arith in
    rw (a, b, drop_of_length-le out {i = length out} (omega arith), append-nil)

-- ---- a card, read from the nearest leaders

module _ (vs : List (List Float)) (fan : ℕ) (leaders : List ℕ) (found rest : List Keyed) (id : ℕ) (is : map id_in found ≡ nearest_leaders vs fan leaders id)
    (some : 1 ≤ fan) (many : fan ≤ length leaders) where
  abbrev read : ℕ → ℕ
  read i = (get_or (found ++ rest) i no_pair).id

  found_size : length found ≡ fan
  found_size = sym (length-map found id_in) ∙ ap length is ∙ nearest_length vs fan leaders id ∙ omega arith

  read_is : (i : ℕ) → i < fan → read i ≡ get_or (nearest_leaders vs fan leaders id) i 0
  read_is i h =
      let size = found_size in
      ap id_in (get_or-append found rest no_pair i (omega arith)) ∙ sym (get_or-map id_in found i no_pair) ∙ ap (λ (l : List ℕ). get_or l i 0) is

  pub entry_small : length leaders ≤ 2048 → (i : ℕ) → i < fan → read i < 2048
  entry_small few i h =
      let size = found_size in
      let m = in_get_d (nearest_leaders vs fan leaders id) i 0 (omega (arith, length-map found id_in, ap length is)) in
      let b = nearest_below vs fan leaders id (get_or (nearest_leaders vs fan leaders id) i 0) m in
      omega (arith, read_is i h)

  pub card_read : read 0 + 65536 * read (fan - 1) ≡ card_of (nearest_leaders vs fan leaders id)
  unfolding card_of
  card_read =
      let size = found_size in
      let last : fan - 1 ≡ length (nearest_leaders vs fan leaders id) - 1 = omega (arith, length-map found id_in, ap length is) in
      ap₂ (λ (a : ℕ) (b : ℕ). a + 65536 * b) (read_is 0 some) (read_is (fan - 1) (omega arith) ∙ ap (λ (k : ℕ). get_or (nearest_leaders vs fan leaders id) k 0) last)

-- ---- the whole

-- at most two
pub fan_most : (level : ℕ) → fanout level ≤ 2
unfolding fanout
fan_most level = pick_ind (λ (k : ℕ). k ≤ 2) (eqb level 0) (λ _. omega arith) (λ _. pick_ind (λ (k : ℕ). k ≤ 2) (leb level 20) (λ _. omega arith) (λ _. omega arith))

module _ (s : Segment) (k : ℕ) (leaders cards : List ℕ)
    (some : 1 ≤ fanout s.level) (two : 2 ≤ length s.ids.now) (few : length s.ids.now ≤ 2048) (count : k ≡ leader_count (length s.ids.now) s.p.leader_fraction)
    (leaders_are : leaders ≡ map (λ (p : ℕ). get_or s.ids.now p 0) (drawn k (draw_start s.level) (up_to (length s.ids.now))))
    (cards_are : cards ≡ map (λ (id : ℕ). card_of (nearest_leaders (vectors_of s.vectors) (fanout s.level) leaders id)) s.ids.now) where
  leaders_of_lem : leaders ≡ leaders_of s.p.leader_fraction s.level s.ids.now
  unfolding leaders_of leader_positions
  leaders_of_lem = leaders_are ∙ ap (λ (m : ℕ). map (λ (p : ℕ). get_or s.ids.now p 0) (drawn m (draw_start s.level) (up_to (length s.ids.now)))) count

  leaders_size : length leaders ≡ k
  unfolding leaders_of
  leaders_size =
      ap length leaders_of_lem ∙ length-map (leader_positions s.level (length s.ids.now) s.p.leader_fraction) _
      ∙ length_positions s.level (length s.ids.now) s.p.leader_fraction ∙ sym count

  cards_deal : buckets_by k s.ids.now cards ≡ dealt (vectors_of s.vectors) (fanout s.level) leaders s.ids.now
  cards_deal =
      let m = fan_most s.level in
      let size = leaders_size in
      ap₂ (λ (j : ℕ) (c : List ℕ). buckets_by j s.ids.now c) (sym size) cards_are
      ∙ by_cards (vectors_of s.vectors) (fanout s.level) leaders some (omega arith) (omega arith) (omega arith) s.ids.now

  pub deal_is : gathered s.p.min_leaf (buckets_by k s.ids.now cards) ≡ buckets_for s
  unfolding buckets_of
  deal_is = ap (gathered s.p.min_leaf) (cards_deal ∙ ap (λ (l : List ℕ). dealt (vectors_of s.vectors) (fanout s.level) l s.ids.now) leaders_of_lem)

  pub deal_entries : entries (buckets_by k s.ids.now cards) ≡ fanout s.level * length s.ids.now
  deal_entries =
      let m = fan_most s.level in
      let size = leaders_size in
      ap₂ (λ (j : ℕ) (c : List ℕ). entries (buckets_by j s.ids.now c)) (sym size) cards_are
      ∙ all_dealt (vectors_of s.vectors) (fanout s.level) leaders some (omega arith) (omega arith) (omega arith) s.ids.now

-- a segment that fits has few nodes
pub few_ids : {s : Segment} {nodes marks : List ℕ} {room cards : ℕ} → Fitting s nodes marks room cards → (length s.ids.now ≤ 2048) × (length s.ids.now ≤ length nodes)
few_ids {s} f =
    let m = mul-le-mul_right (length s.ids.now) f.deals in
    (omega (arith, f.nodes_size, f.few), omega (arith, f.nodes_size))
