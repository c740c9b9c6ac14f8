-- The first `fan` pairs of an array hold the nearest leaders, whose numbers are below 2,048: the card fits. Assumes nothing.
use mathlib.Core.Path.{◌≡◌}
use mathlib.Core.List.{List, [], ◌∷◌, ◌++◌, map}
use Prim.Native.Nat.{ℕ, ◌-◌, ◌<◌}
use lib.ListN.{get_or, drop}
use Rattle.distance.specs.Vectors.{vectors_of}
use Rattle.sorting.specs.declared.Keyed.{Keyed}
use Rattle.sorting.specs.Inside.Pairs.{id_in}
use Rattle.sorting.proofs.Pairs.{no_pair}
use Rattle.dealing.specs.Inside.Leading.{nearest_to}
use Rattle.dealing.proofs.Dealing.{entry_small, card_read}
use native.Mathlib.Omega.{arith}
use Rattle.dealing.proofs.Leaders.card_of.Goals as goal
use Rattle.dealing.proofs.Leaders.card_of.Goals.{After-nearest}

abbrev two : List Keyed
two = no_pair ∷ no_pair ∷ []

found : (c : After-nearest) → map id_in c.nearest.new.found ≡ nearest_to c.args.self c.args.id
found c = c.nearest.ensures

small : (c : After-nearest) (i : ℕ) → i < c.args.self.fan → (get_or (c.nearest.new.found ++ drop c.args.self.fan two) i no_pair).id < 2048
small c i h =
    let x = c.args in
    entry_small (vectors_of x.self.vectors) x.self.fan x.self.nodes.now c.nearest.new.found (drop x.self.fan two) x.id (found c) c.args.self.enough.1 c.args.self.enough.3 c.args.self.enough.0 i h

pub overflow_mul-result : goal.overflow_mul-result
overflow_mul-result c = omega (arith, small (goal.at.overflow_mul-result c).After-nearest (c.args.self.fan - 1) (omega arith))

pub overflow_add-result : goal.overflow_add-result
overflow_add-result c =
    let near = (goal.at.overflow_add-result c).After-nearest in
    omega (arith, small near 0 (omega arith), small near (c.args.self.fan - 1) (omega arith))

pub returns : goal.returns
returns c =
    let x = c.args in
    card_read (vectors_of x.self.vectors) x.self.fan x.self.nodes.now c.nearest.new.found (drop x.self.fan two) x.id (found (goal.at.returns c).After-nearest)
    c.args.self.enough.1 c.args.self.enough.3
