-- The part that is passed on is as long as the lesser of n and the room. Assumes nothing.
use Rattle.std.proofs.Common.{ℕ, List, ◌++◌, drop, sym, ap, ◌∙◌, ap₂, arith, length-take, length-take-le}
use Rattle.random.specs.Leaders.{up_to}
use Rattle.random.proofs.leaders.all_positions.Goals as goal

pub returns : goal.returns
returns c =
    let x = c.args in
    let room = c.min-room in
    let long = length-take-le room.result x.left.now (omega (arith, room.ensures)) in
    ap₂ (λ (r : List ℕ) (k : ℕ). r ++ drop k x.left.now) (c.count_up.ensures ∙ ap up_to (long ∙ room.ensures)) room.ensures

pub slice_bounds-count_up-end-2 : goal.slice_bounds-count_up-end-2
slice_bounds-count_up-end-2 c = sym (length-take-le _ _ (omega (arith, c.min-room.ensures)))

pub count_up-requires : goal.count_up-requires
count_up-requires c = simp length-take (omega (arith, c.min-room.ensures))
