-- The leaders stand at the front of the room, the cards in a slice of their own; what they deal is the definition's (`deal_is`), and as many entries as
-- there is room for (`deal_entries`). No loop. Assumes nothing.
use mathlib.Core.Path.{◌≡◌, sym, ap, ◌∙◌}
use mathlib.Core.List.{List, ◌++◌, map, flatten}
use Prim.Native.Nat.{ℕ, ◌*◌, ◌≤◌}
use lib.ListN.{length, get_or, take, drop}
use lib.Seq.{length-take-le, take_at}
use Rattle.distance.specs.Vectors.{vectors_of}
use Rattle.random.specs.Leaders.{drawn, draw_start, up_to, leader_count}
use Rattle.def_graph.specs.Partition.{nearest_leaders, gathered}
use Rattle.def_graph.specs.Inside.Occurrences.{entries}
use Rattle.dealing.specs.Inside.Marks.{marks_of}
use Rattle.dealing.specs.Inside.Cards.{card_of, buckets_by}
use Rattle.dealing.specs.Inside.Deal.{Fitting, buckets_for}
use Rattle.dealing.specs.declared.Segment.{Segment}
use Rattle.def_graph.specs.Partition.{fanout}
use Rattle.dealing.proofs.Dealing.{few_ids, fan_most, deal_is, deal_entries}
use native.Mathlib.Omega.{arith}
use Rattle.dealing.proofs.deal_all.Goals as goal

-- there are as many leaders as nodes at most, and room for them
within : {s : Segment} {k : ℕ} {nodes marks : List ℕ} {room cards : ℕ} → Fitting s nodes marks room cards
    → k ≡ leader_count (length s.ids.now) s.p.leader_fraction → (k ≤ length s.ids.now) × (k ≤ room)
within fits count = let f = few_ids fits in (omega arith, omega (arith, fits.room_size))

-- ---- the leaders, at the front of the room
module _ {k : ℕ} (leaders room : List ℕ) (fit : k ≤ length room) (as-many : length leaders ≡ length (take k room)) where
  leaders_size : length leaders ≡ k
  leaders_size = as-many ∙ length-take-le _ _ fit

  leaders_part : take k (leaders ++ drop k room) ≡ leaders
  leaders_part = take_at leaders _ _ leaders_size

  part_size : length (take k (leaders ++ drop k room)) ≡ k
  part_size = ap length leaders_part ∙ leaders_size

-- ---- the cards, and what they deal
module _ (s : Segment) (room : List ℕ) {k : ℕ} {nodes marks leaders cards : List ℕ} {many : ℕ}
    (fits : Fitting s nodes marks (length room) many) (count : k ≡ leader_count (length s.ids.now) s.p.leader_fraction)
    (as-many : length leaders ≡ length (take k room))
    (draws : leaders ≡ map (λ (q : ℕ). get_or s.ids.now q 0) (drawn (length (take k room)) (draw_start s.level) (up_to (length s.ids.now))))
    (given : cards ≡ map (λ (id : ℕ). card_of (nearest_leaders (vectors_of s.vectors) (fanout s.level) (take k (leaders ++ drop k room)) id)) s.ids.now) where
  leaders_are : leaders ≡ map (λ (q : ℕ). get_or s.ids.now q 0) (drawn k (draw_start s.level) (up_to (length s.ids.now)))
  leaders_are =
      draws
      ∙ ap (λ (m : ℕ). map (λ (q : ℕ). get_or s.ids.now q 0) (drawn m (draw_start s.level) (up_to (length s.ids.now)))) (length-take-le _ _ (within fits count).1)

  cards_are : cards ≡ map (λ (id : ℕ). card_of (nearest_leaders (vectors_of s.vectors) (fanout s.level) leaders id)) s.ids.now
  cards_are =
      given
      ∙ ap (λ (l : List ℕ). map (λ (id : ℕ). card_of (nearest_leaders (vectors_of s.vectors) (fanout s.level) l id)) s.ids.now)
      (leaders_part leaders room (within fits count).1 as-many)

  buckets_are : gathered s.p.min_leaf (buckets_by k s.ids.now cards) ≡ buckets_for s
  buckets_are = deal_is s k leaders cards fits.deals fits.two (few_ids fits).0 count leaders_are cards_are

  entries_are : entries (buckets_by k s.ids.now cards) ≡ fanout s.level * length s.ids.now
  entries_are = deal_entries s k leaders cards fits.deals fits.two (few_ids fits).0 count leaders_are cards_are

-- ---- the answers
pub invariant_of-leaders : goal.invariant_of-leaders
invariant_of-leaders c =
    let fits = c.requires in
    let f = few_ids fits in
    let k = c.leader_count-count.ensures in
    let part = part_size _ _ (within fits k).1 c.draw.auto.leaders in
    let most = fan_most c.args.segment.level in
    record {
      enough = (omega (arith, part), omega (arith, c.fan_of.ensures, fits.deals), omega (arith, c.fan_of.ensures), omega (arith, part, c.fan_of.ensures, fits.two));
    }

pub gather-requires-clause-dealt : goal.gather-requires-clause-dealt
gather-requires-clause-dealt c =
    let s = c.args.segment in
    let fits = c.requires in
    let left = c.draw.auto.left in
    record {
      cards_size = c.assign.auto.cards ∙ fits.cards_size;
      marks_size = fits.marks_size ∙ sym left;
      all_entries = entries_are s c.args.room.now fits c.leader_count-count.ensures c.draw.auto.leaders c.draw.ensures (rw c.fan_of.ensures at c.assign.ensures)
          ∙ sym fits.nodes_size ∙ sym left;
      few = omega (arith, fits.few, left);
    }

pub returns : goal.returns
returns c =
    let s = c.args.segment in
    let same = buckets_are s c.args.room.now c.requires c.leader_count-count.ensures c.draw.auto.leaders c.draw.ensures (rw c.fan_of.ensures at c.assign.ensures) in
    (c.gather.ensures.0 ∙ ap flatten same, c.gather.ensures.1 ∙ ap marks_of same)
