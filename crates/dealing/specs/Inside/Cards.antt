-- To which leaders the nodes of a segment go, as a slice holds it (scope, part 4): a card for each node, which names one leader or two.
use Rattle.std.specs.Prelude.{Bool, ◌||◌, List, [], ◌∷◌, map, ℕ, ◌+◌, ◌-◌, ◌*◌, ◌/◌, ◌%◌, eqb, length, get_or}
use Rattle.basics.specs.Choice.{pick}
use Rattle.random.specs.Leaders.{up_to}
use Rattle.dealing.specs.declared.Carded.{Carded}

-- the first of the leaders that a node goes to, and 2^16 times the last
unfoldable pub card_of : List ℕ → ℕ
card_of nearest = get_or nearest 0 0 + 65536 * get_or nearest (length nearest - 1) 0

abbrev pub names : ℕ → ℕ → Bool
names l card = eqb l (card % 65536) || eqb l (card / 65536)

-- the nodes whose cards name leader l, in their order
unfoldable pub bucket_at : ℕ → List ℕ → List ℕ → List ℕ
unfolding pick
bucket_at l [] cards = []
bucket_at l (x ∷ ids) [] = []
bucket_at l (x ∷ ids) (card ∷ cards) = let rest : List ℕ = bucket_at l ids cards in pick (names l card) (x ∷ rest) rest

-- a bucket for each leader
unfoldable pub buckets_by : ℕ → List ℕ → List ℕ → List (List ℕ)
unfolding bucket_at up_to
buckets_by leaders ids cards = map (λ (l : ℕ). bucket_at l ids cards) (up_to leaders)

-- the same of nodes and cards as the code passes them
abbrev pub bucket_in : ℕ → Carded → List ℕ
bucket_in l c = bucket_at l c.ids.now c.cards.now

abbrev pub buckets_in : Carded → List (List ℕ)
buckets_in c = buckets_by c.leaders c.ids.now c.cards.now
