-- The equations of a chain's reader: from no link on nothing is read, and from a link on its other end and then what the next link leads to. Links
-- rise, so that the fuel does not show. The words behind heads and tails are chains of no nodes. Assumes nothing.
use mathlib.Core.Path.{◌≡◌, refl, sym, ap, ◌∙◌}
use mathlib.Core.Logic.{◌⊎◌, inl, inr}
use mathlib.Core.Bool.{Bool, true, false, ◌&&◌}
use mathlib.Core.List.{List, [], ◌∷◌}
use Prim.Native.Nat.{ℕ, zero, suc, ◌+◌, ◌-◌, ◌*◌, ◌≤◌, ◌<◌}
use native.Mathlib.Omega.{arith}
use lib.Dec.{ltb, leb, ltb→lt, leb→le}
use lib.ListN.{length, get_or, drop, length-drop}
use lib.Seq.{get_or-drop}
use borrow.Author.Tests.{lt-ltb}
use Rattle.std.specs.Prelude.{None}
use Rattle.std.specs.Bool.{then_some}
use Rattle.std.proofs.lemmas.Bool.Decides.{nat_tests}
use Rattle.basics.specs.Choice.{pick, pick_ind}
use Rattle.basics.proofs.Members.{both_left, both_right}
use Rattle.lists.specs.Inside.Chains.{other_end_at, link_above, as_link, first_link, next_link, ends_from, linked_ends, ends_after}

-- ---- links have places

pub first_place : (n : ℕ) (links : List ℕ) (node : ℕ) → first_link n links node ≤ length links
unfolding first_link
first_place n links node =
    pick_ind (λ (x : ℕ). x ≤ length links) (leb (2 * n + get_or links node 0) (length links))
    (λ t. omega (arith, leb→le (2 * n + get_or links node 0) (length links) t)) (λ _. omega arith)

-- the next link is none, or it is larger and has a place
pub next_cases : (n : ℕ) (links : List ℕ) (link : ℕ) → (next_link n links link ≡ 0) ⊎ ((link < next_link n links link) × (2 * n + next_link n links link ≤ length links))
unfolding next_link
next_cases n links link =
    let next : ℕ = get_or links (2 * n + link - 1) 0 in
    pick_ind (λ (x : ℕ). (x ≡ 0) ⊎ ((link < x) × (2 * n + x ≤ length links))) (ltb link next && leb (2 * n + next) (length links))
    (λ t. inr (ltb→lt link next (both_left (ltb link next) (leb (2 * n + next) (length links)) t), leb→le (2 * n + next) (length links) (both_right (ltb link next) (leb (2 * n + next) (length links)) t))) (λ _. inl refl)

pub next_place : (n : ℕ) (links : List ℕ) (link : ℕ) → next_link n links link ≤ length links
next_place n links link = elim (next_cases n links link) [ inl e ↦ omega arith | inr h ↦ omega arith ]

-- ---- the equations

module _ (n : ℕ) (bridges links : List ℕ) where
  ends_none : (more : ℕ) → ends_from n bridges links more 0 ≡ []
  unfolding ends_from
  ends_none zero = refl
  ends_none (suc more) = refl

  -- any fuel that reaches past the last link leads to the same
  ends_fuel : (a b link : ℕ) → link ≤ length links → length links < a + link → length links < b + link
      → ends_from n bridges links a link ≡ ends_from n bridges links b link
  unfolding ends_from
  ends_fuel zero b zero p h k = sym (ends_none b)
  ends_fuel zero b (suc s) p h k = absurd (omega arith)
  ends_fuel (suc a) b zero p h k = sym (ends_none b)
  ends_fuel (suc a) zero (suc s) p h k = absurd (omega arith)
  ends_fuel (suc a) (suc b) (suc s) p h k =
      ap (λ (l : List ℕ). other_end_at bridges (suc s) ∷ l) (elim (next_cases n links (suc s)) [
        | inl e ↦ rw e (ends_none a ∙ sym (ends_none b))
        | inr q ↦ ends_fuel a b (next_link n links (suc s)) (omega arith) (omega arith) (omega arith)
      ])

  pub linked_none : linked_ends n bridges links 0 ≡ []
  unfolding linked_ends
  linked_none = ends_none (suc (length links))

  -- from a link on; one that has no place leads to no other
  pub linked_more : (s : ℕ) → linked_ends n bridges links (suc s) ≡ other_end_at bridges (suc s) ∷ linked_ends n bridges links (next_link n links (suc s))
  unfolding linked_ends ends_from
  linked_more s =
      ap (λ (l : List ℕ). other_end_at bridges (suc s) ∷ l) (elim (next_cases n links (suc s)) [
        | inl e ↦ rw e (ends_none (length links) ∙ sym (ends_none (suc (length links))))
        | inr q ↦ ends_fuel (length links) (suc (length links)) (next_link n links (suc s)) (omega arith) (omega arith) (omega arith)
      ])

  -- the same of a link that is not none
  pub linked_step : (link : ℕ) → (link ≡ 0 → ⊥) → linked_ends n bridges links link ≡ other_end_at bridges link ∷ linked_ends n bridges links (next_link n links link)
  linked_step zero h = absurd (h refl)
  linked_step (suc s) h = linked_more s

-- ---- a reader's links

pub some_link : (t : Bool) (word : ℕ) → (t ≡ true → 0 < word) → then_some t word ≡ as_link (pick t word 0)
unfolding pick
some_link true zero h = absurd (omega (arith, h refl))
some_link true (suc s) h = refl
some_link false word h = refl

pub no_link : (word : ℕ) → None ≡ as_link (pick {X = ℕ} false word 0)
unfolding pick
no_link word = refl

pub none_above : (nexts : List ℕ) → None ≡ as_link (link_above nexts 0 0)
none_above nexts = pick_ind (λ (x : ℕ). None ≡ as_link x) (ltb 0 0 && leb 0 (length nexts)) (λ _. refl) (λ _. refl)

pub next_above : (nexts : List ℕ) (link : ℕ) → link_above nexts link (get_or nexts (link - 1) 0) ≡ next_link 0 nexts link
unfolding next_link
next_above nexts link =
    let at : link - 1 ≡ 2 * 0 + link - 1 = omega arith in
    let word : ℕ = get_or nexts (2 * 0 + link - 1) 0 in
    let place : word ≡ 2 * 0 + word = omega arith in
    ap (λ (k : ℕ). link_above nexts link (get_or nexts k 0)) at ∙ ap (λ (k : ℕ). pick (ltb link word && leb k (length nexts)) word 0) place

pub as_after : (bridges nexts : List ℕ) (link : ℕ) → ends_after bridges nexts (as_link link) ≡ linked_ends 0 bridges nexts link
as_after bridges nexts zero = sym (linked_none 0 bridges nexts)
as_after bridges nexts (suc s) = sym (linked_more 0 bridges nexts s)

-- ---- behind heads and tails

module _ (n : ℕ) (links : List ℕ) where
  abbrev nexts : List ℕ
  nexts = drop (2 * n) links

  behind : length nexts ≡ length links - 2 * n
  behind = length-drop (2 * n) links

  -- a word above another has a place among all words where it has one behind heads and tails
  same_above : (before word : ℕ) → link_above nexts before word ≡ pick (ltb before word && leb (2 * n + word) (length links)) word 0
  same_above before word = ap (λ (t : Bool). pick {X = ℕ} t word 0) same
    where
      same : (ltb before word && leb word (length nexts)) ≡ (ltb before word && leb (2 * n + word) (length links))
      same = grind (arith, nat_tests, behind)

  first_behind : (node : ℕ) → link_above nexts 0 (get_or links node 0) ≡ first_link n links node
  unfolding first_link pick
  first_behind node = same_above 0 (get_or links node 0) ∙ either (get_or links node 0)
    where
      either : (word : ℕ) → pick (ltb 0 word && leb (2 * n + word) (length links)) word 0 ≡ pick (leb (2 * n + word) (length links)) word 0
      either zero = pick_ind (λ (x : ℕ). 0 ≡ x) (leb (2 * n + 0) (length links)) (λ _. refl) (λ _. refl)
      either (suc s) = let above : ltb 0 (suc s) ≡ true = lt-ltb 0 (suc s) (omega arith) in ap (λ (t : Bool). pick (t && leb (2 * n + suc s) (length links)) (suc s) 0) above

  next_behind : (s : ℕ) → next_link 0 nexts (suc s) ≡ next_link n links (suc s)
  unfolding next_link
  next_behind s =
      let at : 2 * n + (suc s - 1) ≡ 2 * n + suc s - 1 = omega arith in
      sym (next_above nexts (suc s))
      ∙ ap (link_above nexts (suc s)) (get_or-drop (2 * n) links (suc s - 1) 0 ∙ ap (λ (k : ℕ). get_or links k 0) at)
      ∙ same_above (suc s) (get_or links (2 * n + suc s - 1) 0)

  from_behind : (bridges : List ℕ) (more link : ℕ) → ends_from 0 bridges nexts more link ≡ ends_from n bridges links more link
  unfolding ends_from
  from_behind bridges zero link = refl
  from_behind bridges (suc more) zero = refl
  from_behind bridges (suc more) (suc s) =
      ap (λ (l : List ℕ). other_end_at bridges (suc s) ∷ l)
      (from_behind bridges more (next_link 0 nexts (suc s)) ∙ ap (ends_from n bridges links more) (next_behind s))

  -- a node's ends, read behind heads and tails
  pub ends_behind : (bridges : List ℕ) (node : ℕ) → ends_after bridges nexts (as_link (link_above nexts 0 (get_or links node 0))) ≡ linked_ends n bridges links (first_link n links node)
  unfolding linked_ends
  ends_behind bridges node =
      let first : ℕ = link_above nexts 0 (get_or links node 0) in
      as_after bridges nexts first
      ∙ ends_fuel 0 bridges nexts (suc (length nexts)) (suc (length links)) first (placed (get_or links node 0)) (omega arith) (omega (arith, behind))
      ∙ from_behind bridges (suc (length links)) first
      ∙ ap (ends_from n bridges links (suc (length links))) (first_behind node)
    where
      placed : (word : ℕ) → link_above nexts 0 word ≤ length nexts
      placed word = pick_ind (λ (x : ℕ). x ≤ length nexts) (ltb 0 word && leb word (length nexts))
          (λ t. omega (arith, leb→le word (length nexts) (both_right (ltb 0 word) (leb word (length nexts)) t))) (λ _. omega arith)
