-- The invariant: the cells before this one, the one carried and the others are the new cell and those that there were. Assumes nothing.
use Rattle.std.proofs.Common.{◌≡◌, ◌∷◌, ◌++◌, take, drop}
use Rattle.hashprune.proofs.carry.Given as goal

abbrev pub invariant-loop-cell : goal.invariant-loop-cell
invariant-loop-cell l = take l.cell-index l.cells ++ l.moved ∷ drop l.cell-index l.cells ≡ l.fn.new ∷ l.fn.cells
