-- The cells' places, their pairs, and these sorted. Assumes nothing.
use mathlib.Core.Path.{◌≡◌, sym, ap, subst, ◌∙◌}
use mathlib.Core.List.{List, ◌++◌, map, map-map, Memᴰ as In}
use Prim.Native.Nat.{◌≤◌}
use lib.ListN.{length, drop, length-map, length-take}
use Rattle.def_graph.specs.Leaf.{nodes_in}
use Rattle.sorting.specs.Sorting.{sort_by}
use Rattle.sorting.specs.Inside.Pairs.{key_in}
use Rattle.hashprune.specs.declared.Cell.{Cell}
use Rattle.hashprune.specs.Inside.Steps.{Selected, place_in, far_at, hash_at, cells_of, ranked_place}
use Rattle.hashprune.proofs.Cells.{cells_below, places_are}
use Rattle.hashprune.proofs.Ranked.{put_sorted}
use native.Mathlib.Omega.{arith}
use Rattle.hashprune.proofs.select.Goals as goal
use Rattle.hashprune.proofs.select.Goals.{After-as_slice}

-- the places that hold cells
places : (c : After-as_slice) → map place_in c.as_slice.result.now
    ≡ nodes_in (cells_of c.args.offer.point c.args.offer.vectors c.args.offer.planes.now c.args.offer.candidates.now)
places c =
    let a = c.args in
    let f = c.cells_after-cells in
    ap (map place_in) c.as_slice.ensures.value
    ∙ places_are (far_at a.offer.candidates.now) (hash_at a.offer.point a.offer.vectors a.offer.planes.now a.offer.candidates.now) f.result.items
    (cells_of a.offer.point a.offer.vectors a.offer.planes.now a.offer.candidates.now) f.ensures.1

pub rank_places-requires : goal.rank_places-requires
rank_places-requires c =
    let a = c.args in
    let f = c.cells_after-cells in
    let are = places (goal.at.rank_places-requires c).After-as_slice in
    let below = cells_below (far_at a.offer.candidates.now) (hash_at a.offer.point a.offer.vectors a.offer.planes.now a.offer.candidates.now) (length a.offer.candidates.now) in
    record {
      held = λ x m. below x (subst (In x) are m);
      room = omega (arith, ap length c.as_slice.ensures.value, f.ensures.0, c.requires.room);
    }

pub returns : goal.returns
returns c =
    let a = c.args in
    let f = c.cells_after-cells in
    let cells : List Cell = c.as_slice.result.now in
    let held = c.len-held in
    let ps = map (λ (cell : Cell). ranked_place a.offer.candidates.now (place_in cell)) cells in
    let are : ps ≡ map (ranked_place a.offer.candidates.now) (nodes_in (cells_of a.offer.point a.offer.vectors a.offer.planes.now a.offer.candidates.now))
    = sym (map-map (ranked_place a.offer.candidates.now) place_in cells) ∙ ap (map (ranked_place a.offer.candidates.now)) (places (goal.at.returns c).After-as_slice) in
    let long : length ps ≡ held.result
    = length-map cells (λ (cell : Cell). ranked_place a.offer.candidates.now (place_in cell)) ∙ ap length c.as_slice.ensures.value ∙ sym held.ensures.value in
    let few : held.result ≤ length a.offer.candidates.now = omega (arith, held.ensures.value, f.ensures.0) in
    subst (λ qs. Selected (sort_by key_in qs) (length a.offer.candidates.now) held.result a.pairs.now (c.sort_pairs.new.pairs ++ drop held.result c.rank_places.new.pairs)) are
    (put_sorted ps (length a.offer.candidates.now) held.result _ a.pairs.now c.rank_places.new.pairs c.sort_pairs.new.pairs long few c.rank_places.ensures
    (omega (arith, length-take held.result c.rank_places.new.pairs, c.rank_places.auto.pairs, c.requires.room, c.requires.spare_room, few)) c.sort_pairs.ensures)
