-- The part that is passed on is as long as the lesser of n and the room. Assumes nothing.
use Rattle.std.proofs.Common.{ℕ, sym, ap, ◌∙◌, arith, length-take, length-take-le}
use Rattle.random.specs.Leaders.{drawn_into}
use Rattle.random.proofs.leaders.draw_leaders.Goals as goal

pub returns : goal.returns
returns c =
    let x = c.args in
    let room = c.min-room in
    let long = length-take-le room.result x.left.now (omega (arith, room.ensures)) in
    c.draw_segment.ensures ∙ ap (λ (n : ℕ). drawn_into x.level n x.out.now) (long ∙ room.ensures)

pub slice_bounds-draw_segment-end-2 : goal.slice_bounds-draw_segment-end-2
slice_bounds-draw_segment-end-2 c = sym (length-take-le _ _ (omega (arith, c.min-room.ensures)))

pub draw_segment-requires : goal.draw_segment-requires
draw_segment-requires c = simp length-take (omega (arith, c.min-room.ensures))
