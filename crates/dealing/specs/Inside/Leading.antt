-- To which leaders a node goes, as the code passes the leaders (scope, part 4).
use Rattle.std.specs.Prelude.{List, ℕ}
use Rattle.distance.specs.Vectors.{vectors_of}
use Rattle.def_graph.specs.Partition.{nearest_leaders}
use Rattle.dealing.specs.declared.Leaders.{Leaders}

-- the numbers of the leaders nearest to a node
abbrev pub nearest_to : Leaders → ℕ → List ℕ
nearest_to leaders id = nearest_leaders (vectors_of leaders.vectors) leaders.fan leaders.nodes.now id
