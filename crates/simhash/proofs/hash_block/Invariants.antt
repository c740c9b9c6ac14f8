-- The bits before j are in the hash.
use mathlib.Core.Path.{◌≡◌}
use Rattle.simhash.specs.Inside.Blocks.{bits_of, side_of}
use Rattle.simhash.proofs.hash_block.Given as goal

abbrev pub invariant-loop-j : goal.invariant-loop-j
invariant-loop-j l = l.hash ≡ bits_of (side_of l.r l.block) l.j
