-- The first pair of a tournament is one of the places' and no place's comes before it. Assumes nothing.
use mathlib.Core.Path.{◌≡◌, sym, ap, ◌∙◌}
use mathlib.Core.List.{List}
use Prim.Native.Nat.{ℕ, zero, suc, ◌+◌, ◌*◌, ◌-◌, ◌/◌, ◌≤◌, ◌<◌}
use native.Mathlib.Omega.{arith}
use native.Mathlib.Decide.{ℕ_discrete, dec_lt}
use lib.ListN.{length, get_or}
use Rattle.beam_state.specs.Inside.Tournament.{rank_of, rank_at, empty_rank, Tournament}

-- some place has this rank
pub record Winner (leaves : List ℕ) (rank : ℕ) : Type 0 where
  pub place : ℕ
  pub inside : place < length leaves
  pub wins : get_or leaves place empty_rank ≡ rank

module _ (leaves tree : List ℕ) (t : Tournament leaves tree) where
  -- pair 1 comes after no pair
  first_under : (more p : ℕ) → p ≤ more → 1 ≤ p → p < 2 * length leaves → rank_at tree 1 ≤ rank_at tree p
  first_under zero p h a b = absurd (omega arith)
  first_under (suc more) p h a b = elim (ℕ_discrete p 1) [
    | yes e ↦ omega (arith, ap (rank_at tree) e)
    | no e ↦
        let up : rank_at tree 1 ≤ rank_at tree (p / 2) = first_under more (p / 2) (omega arith) (omega arith) (omega arith) in
        let least = t.inner (p / 2) (omega arith) (omega arith) in
        elim (dec_lt (2 * (p / 2)) p) [
          | yes l ↦ (let odd : 2 * (p / 2) + 1 ≡ p = omega arith in omega (arith, ap (rank_at tree) odd))
          | no l ↦ (let even : 2 * (p / 2) ≡ p = omega arith in omega (arith, ap (rank_at tree) even))
        ]
  ]

  -- no place's rank is below the first pair's
  pub first_least : (i : ℕ) → i < length leaves → rank_at tree 1 ≤ get_or leaves i empty_rank
  first_least i h = let l = first_under (length leaves + i) (length leaves + i) (omega arith) (omega arith) (omega arith) in omega (arith, t.leaf i h)

  winner_of : (more p : ℕ) → 2 * length leaves ≤ p + more → 1 ≤ p → p < 2 * length leaves → Winner leaves (rank_at tree p)
  winner_of zero p h a b = absurd (omega arith)
  winner_of (suc more) p h a b = elim (dec_lt p (length leaves)) [
    | no l ↦
        let back : length leaves + (p - length leaves) ≡ p = omega arith in
        record { place = p - length leaves; inside = omega arith; wins = sym (t.leaf (p - length leaves) (omega arith)) ∙ ap (rank_at tree) back }
    | yes l ↦ elim (dec_lt (rank_at tree (2 * p + 1)) (rank_at tree (2 * p))) [
      | yes r ↦ same (2 * p + 1) (winner_of more (2 * p + 1) (omega arith) (omega arith) (omega arith)) (omega (arith, t.inner p a l))
      | no r ↦ same (2 * p) (winner_of more (2 * p) (omega arith) (omega arith) (omega arith)) (omega (arith, t.inner p a l))
    ]
  ]
    where
      same : (q : ℕ) → Winner leaves (rank_at tree q) → rank_at tree q ≡ rank_at tree p → Winner leaves (rank_at tree p)
      same q w e = record { place = w.place; inside = w.inside; wins = w.wins ∙ e }

  -- and some place has it
  pub first_wins : 0 < length leaves → Winner leaves (rank_at tree 1)
  first_wins h = winner_of (2 * length leaves) 1 (omega arith) (omega arith) (omega arith)

pub rank_id : (k i k' i' : ℕ) → i < 4294967296 → i' < 4294967296 → rank_of k i ≡ rank_of k' i' → i ≡ i'
rank_id k i k' i' h h' e = omega arith
