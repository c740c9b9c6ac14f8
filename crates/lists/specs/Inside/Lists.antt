-- A node's list, as words hold it (scope, Records): its row, then the other ends of its bridges, by their chain.
use Rattle.std.specs.Prelude.{List, [], ◌++◌, ℕ, get_or}
use Rattle.lists.specs.Inside.Words.{row_lists}
use Rattle.lists.specs.declared.Shape.{Shape}
use Rattle.lists.specs.declared.chains.Ends.{Ends}
use Rattle.lists.specs.declared.chains.Entries.{Entries}
use Rattle.lists.specs.declared.chains.Lists.{Lists}
use Rattle.lists.specs.Inside.Chains.{first_link, linked_ends, ends_after}

-- the other ends of node u's bridges
abbrev pub ends_words : ℕ → List ℕ → List ℕ → ℕ → List ℕ
ends_words n bridges links u = linked_ends n bridges links (first_link n links u)

-- the list of node u
abbrev pub list_words : Shape → List ℕ → List ℕ → List ℕ → ℕ → List ℕ
list_words s rows bridges links u = get_or (row_lists s.degree rows) u [] ++ ends_words s.n bridges links u

-- both, of an index's lists in slices
abbrev pub ends_of : Lists → ℕ → List ℕ
ends_of l = ends_words l.shape.n l.bridges.now l.links.now

abbrev pub list_in : Lists → ℕ → List ℕ
list_in l = list_words l.shape l.rows.now l.bridges.now l.links.now

-- what is left of them
abbrev pub ends_left : Ends → List ℕ
ends_left e = ends_after e.bridges.now e.nexts.now e.link

abbrev pub entries_left : Entries → List ℕ
entries_left e = e.row.now ++ ends_left e.ends
