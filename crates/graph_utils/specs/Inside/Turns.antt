-- The turns of repair as words do them (scope, part 7): the bridges so far are in their words, chains link their ends, and marks show which nodes are
-- reached.
use mathlib.Core.List.{List}
use Prim.Native.Nat.{ℕ, zero, suc, ◌+◌, ◌*◌}
use Rattle.std.specs.Prelude.{eqb, get_or, set, Float}
use Rattle.basics.specs.Choice.{pick}
use Rattle.distance.specs.Vectors.{vectors_of}
use Rattle.lists.specs.Inside.Chains.{cleared_links, chain_bridge}
use Rattle.lists.specs.declared.Shape.{Shape}
use Rattle.lists.specs.Inside.Lists.{list_words}
use Rattle.graph_utils.specs.declared.Index.{Index}
use Rattle.graph_utils.specs.Inside.Marking.{marked}
use Rattle.graph_utils.specs.Inside.Candidates.{start_of}

pub record Work : Type 0 where
  pub count : ℕ
  pub bridges : List ℕ
  pub links : List ℕ
  pub state : List ℕ

abbrev pub work : ℕ → List ℕ → List ℕ → List ℕ → Work
work count bridges links state = record { count = count; bridges = bridges; links = links; state = state }

-- a bridge's two words
abbrev pub put_bridge : ℕ → ℕ → ℕ → List ℕ → List ℕ
put_bridge count near far bridges = set (set bridges (2 * count) near) (2 * count + 1) far

module _ (s : Shape) (rows : List ℕ) (vs : List (List Float)) (entry : ℕ) where
  -- a bridge from a node to node i, and what it makes reachable
  unfoldable pub bridged : ℕ → Work → ℕ → Work
  unfolding chain_bridge marked
  bridged i w near =
      let bridges : List ℕ = put_bridge w.count near i w.bridges in
      let links : List ℕ = chain_bridge s.n w.count near i w.links in
      work (w.count + 1) bridges links (marked s.n (list_words s rows bridges links) i w.state)

  -- the turn of node i
  unfoldable pub turned : ℕ → Work → Work
  unfolding pick bridged start_of
  turned i w =
      pick (eqb (get_or w.state i 0) 0) (bridged i w (start_of w.state s.n vs (list_words s rows w.bridges w.links) entry i)) w

  -- before the first turn
  unfoldable pub begun : List ℕ → List ℕ → List ℕ → Work
  unfolding marked
  begun bridges links state = work 0 bridges (cleared_links s.n links) (marked s.n (list_words s rows bridges (cleared_links s.n links)) entry state)

  -- after the turns of the nodes below i
  unfoldable pub turned_to : Work → ℕ → Work
  unfolding turned
  turned_to w zero = w
  turned_to w (suc i) = turned i (turned_to w i)

  -- after all turns
  abbrev pub repaired : List ℕ → List ℕ → List ℕ → Work
  repaired bridges links state = turned_to (begun bridges links state) s.n

-- both, of an index in slices
abbrev pub turned_in : Index → ℕ → Work → Work
turned_in x = turned x.shape x.rows.now (vectors_of x.vectors) x.entry.0

abbrev pub repaired_in : Index → List ℕ → List ℕ → List ℕ → Work
repaired_in x = repaired x.shape x.rows.now (vectors_of x.vectors) x.entry.0
