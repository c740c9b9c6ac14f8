-- Marking as words do it (scope, part 7). Of n nodes the first n words are marks, not 0 where a node is reached, and the next n a stack of nodes
-- whose lists are still to be looked at.
use Rattle.std.specs.Prelude.{◌&&◌, List, [], ◌∷◌, ℕ, zero, suc, ◌+◌, eqb, ltb, get_or, set}
use Rattle.basics.specs.Choice.{pick}

-- the words, and how many nodes stand on the stack
pub record Marks : Type 0 where
  pub words : List ℕ
  pub top : ℕ

abbrev pub marks : List ℕ → ℕ → Marks
marks words top = record { words = words; top = top }

-- a node that is not marked is marked, and goes on the stack
unfoldable pub visited : ℕ → ℕ → Marks → Marks
unfolding pick
visited n v s =
    pick ((ltb v n && eqb (get_or s.words v 0) 0) && ltb s.top n) (marks (set (set s.words v 1) (n + s.top) v) (s.top + 1)) s

unfoldable pub visited_all : ℕ → List ℕ → Marks → Marks
unfolding visited
visited_all n [] s = s
visited_all n (v ∷ vs) s = visited_all n vs (visited n v s)

-- the lists of the stack's nodes are read, the latest first, at most this many
unfoldable pub marked_from : ℕ → (ℕ → List ℕ) → ℕ → List ℕ → ℕ → List ℕ
unfolding visited_all
marked_from n list zero words top = words
marked_from n list (suc more) words zero = words
marked_from n list (suc more) words (suc top) =
    let s : Marks = visited_all n (list (get_or words (n + top) 0)) (marks words top) in
    marked_from n list more s.words s.top

-- `mark_reachable`, from a node on
unfoldable pub marked : ℕ → (ℕ → List ℕ) → ℕ → List ℕ → List ℕ
unfolding visited marked_from
marked n list start words =
    let s : Marks = visited n start (marks words 0) in
    marked_from n list n s.words s.top
