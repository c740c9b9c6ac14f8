-- Without bridges there is nothing to link, and a row of one entry is the list of one node. Assumes nothing.
use mathlib.Core.Path.{◌≡◌, refl, subst}
use mathlib.Core.List.Memᴰ.{not-nil as in-nil}
use mathlib.Core.List.{List, [], ◌∷◌}
use Prim.Native.Nat.{ℕ, ◌+◌, ◌*◌, ◌/◌, ◌<◌}
use native.Mathlib.Omega.{arith}
use lib.ListN.{length, get_or}
use Rattle.basics.specs.Graph.{other_ends, list_of}
use Rattle.basics.specs.Lists.{pieces}
use Rattle.lists.specs.Inside.Words.{row_lists, bridge_list}
use Rattle.lists.specs.Inside.Chains.{slots_from, Chained, bridges_in}
use Rattle.neighbours.specs.Inside.Gathering.{Linked}

-- zeros are the chains of no bridges
pub no_chain : (n : ℕ) (ws links : List ℕ) → ((i : ℕ) → i < 2 * n → get_or links i 0 ≡ 0) → Chained n (bridges_in 0 ws) links
unfolding slots_from pieces
no_chain n ws links zero = record {
  paths = λ i k. zero i (omega arith);
  tails = λ i k. zero (n + i) (omega arith);
  small = λ i s k. absurd (in-nil k);
  owned = λ i j s k. absurd (in-nil k);
}

-- no bridges need no links
pub none_linked : (n : ℕ) (bridges links : List ℕ) → length bridges < 2 → ((i : ℕ) → i < 2 * n → get_or links i 0 ≡ 0) → Linked n bridges links
none_linked n bridges links none zero =
    let all : 0 ≡ length bridges / 2 = omega arith in
    subst (λ (m : ℕ). Chained n (bridges_in m bridges) links) all (no_chain n bridges links zero)

pub one_alone : (v : ℕ) → list_of (row_lists 1 (1 ∷ v ∷ [])) (bridge_list []) 0 ≡ v ∷ []
unfolding list_of other_ends pieces
one_alone v = refl
