-- The scope's checked values hold of the definitions: each side computes to the other; those of the draw and of the worked example do so where they are defined.
-- Assumes nothing.
use mathlib.Core.Path.{refl}
use Rattle.norm.specs.Root.{root_of}
use Rattle.random.specs.Hyperplanes.{stream, plane_number}
use Rattle.random.proofs.leaders.Examples.{first_draw}
use Rattle.def_calls.proofs.Examples.{worked_lists, worked_find, worked_one, worked_none, three_components}
use Rattle.theorems.specs.Starred.{Starred}

pub starred : Starred
unfolding root_of stream plane_number
starred = record {
  root_of_25 = refl;
  root_of_2 = refl;
  first_h = refl;
  first_plane = refl;
  first_draw = first_draw;
  worked_lists = worked_lists;
  worked_find = worked_find;
  worked_one = worked_one;
  worked_none = worked_none;
  three_components = three_components;
}
