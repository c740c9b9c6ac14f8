-- Repair (scope, part 7; `ensure_connectivity`). Each node that is not reached at its turn gets a bridge from a reached one: near is that one, far
-- the node newly reached. Lists include the bridges built so far. A bridge may repeat an entry, and lists may then exceed D.
use Rattle.std.specs.Prelude.{false, ◌&&◌, length, Float}
use mathlib.Core.List.{List, [], ◌∷◌, ◌++◌}
use Prim.Native.Nat.{ℕ, zero, suc}
use Rattle.std.specs.Float.Ieee.{lt}
use Rattle.basics.specs.Choice.{pick}
use Rattle.basics.specs.Nodes.{has}
use Rattle.basics.specs.Graph.{Bridge, list_of}
use Rattle.distance.specs.Vectors.{between}
use Rattle.def_walk.specs.Walk.{walk}

-- ---- marking

abbrev pub stack : ℕ → List ℕ → List ℕ
stack v front = v ∷ front

-- `mark_reachable`: the nodes reached so far, and with them all that out-edges lead to from a node; of n nodes, so by n expansions at most
unfoldable pub mark_reachable : (ℕ → List ℕ) → ℕ → List ℕ → ℕ → List ℕ
unfolding pick has walk
mark_reachable list n reached s =
    pick (has s reached) reached (walk list stack (λ _ _. false) (λ _. false) n (s ∷ reached) (s ∷ []))

-- ---- where a bridge starts

-- the lists of some nodes, one after the other
unfoldable pub lists_of : (ℕ → List ℕ) → List ℕ → List ℕ
lists_of list [] = []
lists_of list (u ∷ us) = list u ++ lists_of list us

-- each of some nodes, followed by its list
unfoldable pub with_lists : (ℕ → List ℕ) → List ℕ → List ℕ
with_lists list [] = []
with_lists list (u ∷ us) = u ∷ (list u ++ with_lists list us)

-- i's out-neighbours' lists, then the entry's out-neighbours, each followed by its list
unfoldable pub candidates_for : (ℕ → List ℕ) → ℕ → ℕ → List ℕ
unfolding lists_of with_lists
candidates_for list entry i = lists_of list (list i) ++ with_lists list (list entry)

-- Of the candidates, in their order, the reached one that is nearest to i, and `best` if none is nearer. Nearer by the comparison of numbers:
-- of equally near ones the first stays, and a distance that is no number changes nothing.
unfoldable pub nearest_reached : List (List Float) → List ℕ → ℕ → ℕ → List ℕ → ℕ
unfolding pick has between
nearest_reached vs reached i best [] = best
nearest_reached vs reached i best (c ∷ cs) =
    nearest_reached vs reached i (pick (has c reached && lt (between vs i c) (between vs i best)) c best) cs

-- ---- the turns

pub record Repaired : Type 0 where
  pub reached : List ℕ
  pub bridges : List Bridge

module _ (rows : List (List ℕ)) (entry : ℕ) (vs : List (List Float)) where
  -- to node i from the nearest reached candidate, or from the entry
  unfoldable pub bridge_to : Repaired → ℕ → Bridge
  unfolding nearest_reached candidates_for list_of
  bridge_to r i = record { near = nearest_reached vs r.reached i entry (candidates_for (list_of rows r.bridges) entry i); far = i }

  unfoldable pub turn : ℕ → Repaired → Repaired
  unfolding pick has bridge_to mark_reachable list_of
  turn i r =
      let bridges : List Bridge = r.bridges ++ (bridge_to r i ∷ []) in
      pick (has i r.reached) r (record { reached = mark_reachable (list_of rows bridges) (length rows) r.reached i; bridges = bridges })

  -- after the turns of the nodes below i
  unfoldable pub turns_to : ℕ → Repaired
  unfolding turn mark_reachable list_of
  turns_to zero = record { reached = mark_reachable (list_of rows []) (length rows) [] entry; bridges = [] }
  turns_to (suc i) = turn i (turns_to i)

  -- the bridges, in order
  unfoldable pub ensure_connectivity : List Bridge
  unfolding turns_to
  ensure_connectivity = (turns_to (length rows)).bridges
