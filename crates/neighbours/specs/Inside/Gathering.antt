-- The fresh nodes of a list (scope, part 8: a node is scored at most once), and the words that hold marks and fresh nodes while a walk looks at a
-- list.
use Rattle.std.specs.Prelude.{◌≡◌, List, [], ◌∷◌, ◌++◌, ℕ, ◌+◌, ◌≤◌, ◌<◌, ltb, length, get_or, take, drop}
use Rattle.basics.specs.Choice.{pick}
use Rattle.basics.specs.Graph.{list_of}
use Rattle.basics.specs.Nodes.{has, NoDup, Below}
use Rattle.lists.specs.Inside.Words.{row_lists, bridge_list}
use Rattle.lists.specs.Inside.Chains.{Chained}
use Rattle.lists.specs.declared.chains.Lists.{Lists}

-- the nodes seen, latest first, and those of them that are fresh, in order
pub record Fresh : Type 0 where
  pub seen : List ℕ
  pub fresh : List ℕ

-- a node of the first n that is not seen yet is seen, and fresh
unfoldable pub visit_one : ℕ → ℕ → Fresh → Fresh
unfolding pick has
visit_one n v g = pick (ltb v n) (pick (has v g.seen) g (record { seen = v ∷ g.seen; fresh = g.fresh ++ (v ∷ []) })) g

unfoldable pub gather_fresh : ℕ → List ℕ → Fresh → Fresh
unfolding visit_one
gather_fresh n [] g = g
gather_fresh n (v ∷ vs) g = gather_fresh n vs (visit_one n v g)

-- where the fresh nodes end, behind n marks: there is room for n of them
abbrev pub fresh_end : ℕ → ℕ
fresh_end n = n + n

-- Words that hold this: a mark for each node, then the fresh ones; what stands behind both is `tail`.
pub record FreshIn (n : ℕ) (tail words : List ℕ) (count : ℕ) (g : Fresh) : Type 0 where
  pub marks : (v : ℕ) → v < n → get_or words v 0 ≡ pick (has v g.seen) 1 0
  pub buffer : take count (drop n words) ≡ g.fresh
  pub count_is : count ≡ length g.fresh
  pub behind : drop (fresh_end n) words ≡ tail
  pub once : NoDup g.seen
  pub inside : Below n g.seen
  pub fewer : length g.fresh ≤ length g.seen

-- words in which a list has been looked at
abbrev pub Gathering : ℕ → ℕ → List ℕ → List ℕ → List ℕ → ℕ → Type 0
Gathering n count list words words' r =
    (tail : List ℕ) (g : Fresh)
    → FreshIn n tail words count g
    → FreshIn n tail words' r (gather_fresh n list g)

-- from the first fresh node on
abbrev pub GatheringAll : ℕ → List ℕ → List ℕ → List ℕ → ℕ → Type 0
GatheringAll n list words words' r = fresh_end n ≤ length words → Gathering n 0 list words words' r

-- the links of some bridges among n nodes
abbrev pub Linked : ℕ → List ℕ → List ℕ → Type 0
Linked n bridges links = Chained n (bridge_list bridges) links

-- words in which the list of node u has been looked at, of rows and linked bridges
abbrev pub GatheringList : Lists → ℕ → List ℕ → List ℕ → ℕ → Type 0
GatheringList l u words words' r =
    Linked l.shape.n l.bridges.now l.links.now → u < l.shape.n
    → GatheringAll l.shape.n (list_of (row_lists l.shape.degree l.rows.now) (bridge_list l.bridges.now) u) words words' r

-- words in which node u alone has been looked at
abbrev pub Beginning : ℕ → ℕ → List ℕ → List ℕ → ℕ → Type 0
Beginning n u words words' r = u < n → GatheringAll n (u ∷ []) words words' r
