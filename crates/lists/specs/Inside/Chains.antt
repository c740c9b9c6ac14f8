-- The other ends of a node's bridges, linked (scope, Records: a node's list is its row, then the other ends of its bridges, in order). Slot s is word
-- s of the bridges: bridge j has slot 2·j for its near node and 2·j + 1 for its far node. A link is a slot and 1, and 0 is none. Of n nodes the links
-- are words: n heads, n tails, and then for each slot the next link of its node's chain.
use Rattle.std.specs.Prelude.{◌≡◌, ◌&&◌, ℕ, zero, suc, ◌+◌, ◌-◌, ◌*◌, ◌%◌, ◌^◌, ◌<◌, min, eqb, ltb, leb, length, get_or, set, drop, replicate, Option, Some, None}
use mathlib.Core.List.{List, [], ◌∷◌, ◌++◌, map, Memᴰ as In}
use Rattle.basics.specs.Choice.{pick}
use Rattle.basics.specs.Graph.{Bridge}
use Rattle.basics.specs.Lists.{pieces}
use Rattle.store.specs.Layout.{bridge_size}
use Rattle.store.specs.View.{bridge_in}

-- ---- reading a chain

-- the other slot of the same bridge
abbrev pub other_slot : ℕ → ℕ
other_slot s = s + 1 - 2 * (s % 2)

-- the other end that a link leads to
unfoldable pub other_end_at : List ℕ → ℕ → ℕ
other_end_at bridges link = get_or bridges (other_slot (link - 1)) 0

-- the link that a word is, of `nexts`, the words behind heads and tails: larger than a link before it, and with a place
abbrev pub link_above : List ℕ → ℕ → ℕ → ℕ
link_above nexts before word = pick (ltb before word && leb word (length nexts)) word 0

-- a link as a reader has it: 0 is none
abbrev pub as_link : ℕ → Option ℕ
as_link zero = None
as_link (suc s) = Some (suc s)

-- the first link of a node; a link without a place is none
unfoldable pub first_link : ℕ → List ℕ → ℕ → ℕ
unfolding pick
first_link n links node = pick (leb (2 * n + get_or links node 0) (length links)) (get_or links node 0) 0

-- the link after a link: larger, and one that has a place, so that every chain ends
unfoldable pub next_link : ℕ → List ℕ → ℕ → ℕ
unfolding pick
next_link n links link =
    let next : ℕ = get_or links (2 * n + link - 1) 0 in
    pick (ltb link next && leb (2 * n + next) (length links)) next 0

-- the other ends from a link on, at most this many
unfoldable pub ends_from : ℕ → List ℕ → List ℕ → ℕ → ℕ → List ℕ
unfolding other_end_at next_link
ends_from n bridges links zero link = []
ends_from n bridges links (suc more) zero = []
ends_from n bridges links (suc more) (suc s) = other_end_at bridges (suc s) ∷ ends_from n bridges links more (next_link n links (suc s))

-- the other ends from a link on
unfoldable pub linked_ends : ℕ → List ℕ → List ℕ → ℕ → List ℕ
unfolding ends_from
linked_ends n bridges links link = ends_from n bridges links (suc (length links)) link

-- the same as a reader has it, of the words behind heads and tails
abbrev pub ends_after : List ℕ → List ℕ → Option ℕ → List ℕ
ends_after bridges nexts None = []
ends_after bridges nexts (Some link) = other_end_at bridges link ∷ linked_ends 0 bridges nexts (next_link 0 nexts link)

-- ---- building chains

-- a place, as a number of 64 bits has it: one that is too large is past the end of every slice, and so is the largest
abbrev pub capped : ℕ → ℕ
capped place = min place (2 ^ 64 - 1)

-- no node has a link
abbrev pub cleared_links : ℕ → List ℕ → List ℕ
cleared_links n links = replicate (min (2 * n) (length links)) 0 ++ drop (2 * n) links

-- where the link to a node's next slot goes: to its head while it has none, else behind its last slot
abbrev pub link_place : ℕ → ℕ → ℕ → ℕ
link_place n node tail = pick (eqb tail 0) node (2 * n + tail - 1)

-- a slot at the end of a node's chain
unfoldable pub append_slot : ℕ → ℕ → ℕ → List ℕ → List ℕ
unfolding pick
append_slot n node slot links =
    set (set (set links (link_place n node (get_or links (n + node) 0)) (slot + 1)) (2 * n + slot) 0) (n + node) (slot + 1)

-- bridge j at the end of both its ends' chains; there are fewer than 2^30 of them
unfoldable pub chain_bridge : ℕ → ℕ → ℕ → ℕ → List ℕ → List ℕ
unfolding pick append_slot
chain_bridge n j near far links =
    let one : List ℕ = append_slot n near (2 * j) links in
    pick (ltb j (2 ^ 30)) (pick (eqb near far) one (append_slot n far (2 * j + 1) one)) links

-- ---- what chains say

-- the slot of bridge j that is node i's, if it is one end
unfoldable pub slot_at : ℕ → Bridge → ℕ → List ℕ
unfolding pick
slot_at j b i = pick (eqb i b.near) ((2 * j) ∷ []) (pick (eqb i b.far) ((2 * j + 1) ∷ []) [])

-- the slots of node i among some bridges, of which the first is bridge j
unfoldable pub slots_from : ℕ → List Bridge → ℕ → List ℕ
unfolding slot_at
slots_from j [] i = []
slots_from j (b ∷ bs) i = slot_at j b i ++ slots_from (suc j) bs i

-- the chain from a link on goes through some slots and ends
abbrev pub Path : ℕ → List ℕ → ℕ → List ℕ → Type 0
Path n links link [] = link ≡ 0
Path n links link (s ∷ ss) = (link ≡ suc s) × (2 * n + s < length links) × Path n links (next_link n links (suc s)) ss

-- the link to the last of some slots, `link` if there is none
abbrev pub last_link : ℕ → List ℕ → ℕ
last_link link [] = link
last_link link (s ∷ ss) = last_link (suc s) ss

-- node i's chain goes through its slots, its tail is the last of them; slots are below m, and each is one node's
pub record Chains (n m : ℕ) (slots : ℕ → List ℕ) (links : List ℕ) : Type 0 where
  pub paths : (i : ℕ) → i < n → Path n links (get_or links i 0) (slots i)
  pub tails : (i : ℕ) → i < n → get_or links (n + i) 0 ≡ last_link 0 (slots i)
  pub small : (i s : ℕ) → In s (slots i) → s < m
  pub owned : (i k s : ℕ) → In s (slots i) → In s (slots k) → i ≡ k

-- every node's chain is its slots among some bridges
abbrev pub Chained : ℕ → List Bridge → List ℕ → Type 0
Chained n bs links = Chains n (2 * length bs) (slots_from 0 bs) links

-- the first k bridges that stand in some words
abbrev pub bridges_in : ℕ → List ℕ → List Bridge
bridges_in k words = map bridge_in (pieces bridge_size k words)
