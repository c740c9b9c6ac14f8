-- The invariant is `Drawing`; the measure is how many are left to draw. A position is below those left, being a remainder by their number.
-- Assumes nothing.
use Rattle.std.proofs.Common.{◌-◌, ◌/◌, ◌%◌, ◌<◌, length, mod-lt, arith, rules}
use Rattle.random.proofs.leaders.Draws.{drawing_none, drawing_turn, drawing_done}
use Rattle.random.proofs.leaders.draw.Goals as goal
use Rattle.random.proofs.leaders.draw.Goals.{After-next_draw-r}

-- a remainder by how many are left is a place of theirs
place_within : (c : After-next_draw-r) → let l = c.loop-i in
    c.next_draw-r.result / 8589934592 % (length l.left - l.i) < length l.left
place_within c =
    let l = c.loop-i in
    let some : 0 < length l.left - l.i = omega (arith, l.invariant.within, l.invariant.same_left) in
    omega (arith, mod-lt (c.next_draw-r.result / 8589934592) some)

pub loop-i-init : goal.loop-i-init
loop-i-init c =
    let x = c.args in
    drawing_none x.start x.left.now x.out.now

pub loop-i-preserved : goal.loop-i-preserved
loop-i-preserved c =
    let l = c.loop-i in
    let x = c.args in
    let next = c.next_draw-r in
    drawing_turn x.start x.left.now x.out.now l.i l.r l.left l.out l.invariant (omega arith) c.requires next.result next.ensures

pub returns : goal.returns
returns c =
    let l = c.loop-i in
    let x = c.args in
    drawing_done x.start x.left.now x.out.now l.i l.r l.left l.out l.invariant (omega arith)

pub bounds-left-rest : goal.bounds-left-rest
bounds-left-rest c = let l = c.loop-i in omega (arith, l.invariant.same_left)

pub offset_bounds-left-p : goal.offset_bounds-left-p
offset_bounds-left-p c = let h = place_within (goal.at.offset_bounds-left-p c).After-next_draw-r in search rules

pub bounds-left-p : goal.bounds-left-p
bounds-left-p c = place_within (goal.at.bounds-left-p c).After-next_draw-r

pub offset_bounds-left-p-in-loop-i : goal.offset_bounds-left-p-in-loop-i
offset_bounds-left-p-in-loop-i c = let h = place_within (goal.at.offset_bounds-left-p-in-loop-i c).After-next_draw-r in search rules

pub bounds-left-p-in-loop-i : goal.bounds-left-p-in-loop-i
bounds-left-p-in-loop-i c = place_within (goal.at.bounds-left-p-in-loop-i c).After-next_draw-r

pub shape_of-left : goal.shape_of-left
shape_of-left c = c.loop-i.invariant.same_left

pub shape_of-out : goal.shape_of-out
shape_of-out c = c.loop-i.invariant.same_out
