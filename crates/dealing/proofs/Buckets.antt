-- The nodes whose cards name a leader, as a loop over nodes and cards finds them. Assumes nothing.
use mathlib.Core.Path.{◌≡◌, refl, sym, ap, ap₂, ◌∙◌}
use mathlib.Core.Bool.{true, false}
use mathlib.Core.List.{List, [], ◌∷◌, ◌++◌, append-nil}
use Prim.Native.Nat.{ℕ, ◌+◌, ◌≤◌, ◌<◌}
use native.Mathlib.Numerals.{add-one}
use native.Mathlib.Omega.{arith}
use lib.ListN.{length, set, take, drop, take-append-drop}
use lib.Seq.{take-suc-set, drop-set-lt, drop-drop, append_snoc}
use Rattle.basics.specs.Choice.{pick_true, pick_false}
use Rattle.dealing.specs.Inside.Cards.{names, bucket_at}

bucket_named : (l x card : ℕ) (xs cards : List ℕ) → true ≡ names l card → bucket_at l (x ∷ xs) (card ∷ cards) ≡ x ∷ bucket_at l xs cards
unfolding bucket_at
bucket_named l x card xs cards t = pick_true _ _ (sym t)

bucket_other : (l x card : ℕ) (xs cards : List ℕ) → false ≡ names l card → bucket_at l (x ∷ xs) (card ∷ cards) ≡ bucket_at l xs cards
unfolding bucket_at
bucket_other l x card xs cards t = pick_false _ _ (sym t)

empty : (xs : List ℕ) → length xs ≡ 0 → xs ≡ []
empty [] e = refl
empty (x ∷ xs) e = absurd (omega arith)

-- of all nodes and cards these are left; the nodes found among the others stand at the front, up to `count`
pub record Taken (l : ℕ) (all_ids all_cards before : List ℕ) (ids cards : List ℕ) (count : ℕ) (to : List ℕ) : Type 0 where
  pub same : length cards ≡ length ids
  pub count_is : count + length (bucket_at l ids cards) ≡ length (bucket_at l all_ids all_cards)
  pub found : take count to ++ bucket_at l ids cards ≡ bucket_at l all_ids all_cards
  pub behind : drop count to ≡ drop count before

module _ {l : ℕ} {all_ids all_cards before : List ℕ} where
  module _ {ids cards : List ℕ} {count : ℕ} {to : List ℕ} (a : Taken l all_ids all_cards before ids cards count to) where
    module _ {x card : ℕ} {xs rest : List ℕ} (p : ids ≡ x ∷ xs) (q : cards ≡ card ∷ rest) where
      as-long : length rest ≡ length xs
      as-long = omega (arith, a.same, ap length p, ap length q)

      named : true ≡ names l card → bucket_at l ids cards ≡ x ∷ bucket_at l xs rest
      named t = ap₂ (bucket_at l) p q ∙ bucket_named l x card xs rest t

      -- room for the next
      pub taken_room : length to ≡ length before → length (bucket_at l all_ids all_cards) ≤ length before → true ≡ names l card → count < length to
      taken_room k h t = omega (arith, a.count_is, ap length (named t))

      pub taken_more : count < length to → true ≡ names l card → Taken l all_ids all_cards before xs rest (count + 1) (set to count x)
      taken_more h t = record {
        same = as-long;
        count_is = omega (arith, a.count_is, ap length (named t));
        found =
            rw add-one (ap (λ (r : List ℕ). r ++ bucket_at l xs rest) (take-suc-set to count x h) ∙ append_snoc (take count to) x (bucket_at l xs rest))
            ∙ ap (λ (r : List ℕ). take count to ++ r) (sym (named t)) ∙ a.found;
        behind =
            drop-set-lt (count + 1) to count x (omega arith) ∙ sym (drop-drop 1 count to) ∙ ap (drop 1) a.behind ∙ drop-drop 1 count before;
      }

      pub taken_same : false ≡ names l card → Taken l all_ids all_cards before xs rest count to
      taken_same t =
          let e : bucket_at l ids cards ≡ bucket_at l xs rest = ap₂ (bucket_at l) p q ∙ bucket_other l x card xs rest t in
          record { same = as-long; count_is = rw e at a.count_is; found = rw e at a.found; behind = a.behind }

    -- none is left
    pub taken_done : length ids ≡ 0
        → (count ≡ length (bucket_at l all_ids all_cards)) × (to ≡ bucket_at l all_ids all_cards ++ drop count before)
    unfolding bucket_at
    taken_done p =
        let none : bucket_at l ids cards ≡ [] = ap (λ (r : List ℕ). bucket_at l r cards) (empty ids p) in (
          omega (arith, a.count_is, ap length none),
          sym (take-append-drop count to)
              ∙ (λ i. (sym (append-nil (take count to)) ∙ ap (λ (r : List ℕ). take count to ++ r) (sym none) ∙ a.found) i ++ a.behind i),
        )
