-- The four answers of the call, each from what its search has left: a search into one place has room, so its checks are search's without 12, and the
-- one node that it returns is at the front of both outputs. Assumes nothing.
use mathlib.Core.Path.{◌≡◌, refl, sym, ap, ap₂, ◌∙◌}
use mathlib.Core.Bool.{Bool, false, true, not, ◌||◌}
use mathlib.Core.List.{List, [], ◌∷◌, ◌++◌, map, append_assoc}
use Prim.Native.Nat.{ℕ, min}
use native.Mathlib.Decide.{ℕ_discrete}
use native.Mathlib.Omega.{arith}
use lib.Dec.{eqb, ltb, eqb→eq}
use lib.ListN.{length, get_or, drop}
use lib.Ieee.{Float, nan}
use lib.Ieee.Scale.{finite}
use borrow.Author.Tests.{eq-eqb, ne_eqb, le-ltb}
use Rattle.basics.specs.Choice.{pick, pick_ind, pick_true, pick_false}
use Rattle.basics.specs.Refusals.{Check, check, first_refusal, Values}
use Rattle.error.specs.Numbers.{limit_not_finite}
use Rattle.basics.proofs.Refusals.{then_first, then_second, both_none}
use Rattle.store.specs.Layout.{word, nodes_at}
use Rattle.store.specs.View.{view}
use Rattle.store.specs.Opening.{scratch, opening}
use Rattle.store.proofs.Opened.{opening_numbered}
use Rattle.def_walk.specs.Beam.{usual}
use Rattle.def_calls.specs.Search.{asking_checks, own_search_checks, search_checks, far_in, found_in, Reply, refused, reply_of, search_with_ef_spec}
use Rattle.recognise.specs.Recognised.{new_as, refused_as, recognised_as}
use Rattle.recognise.specs.Recognise.{recognise_checks, nearest_of, doc_in, recognise_spec}

-- ---- a check at the end of a list

last_passes : (cs : List Check) (c : Check) → c.fails ≡ false → first_refusal (cs ++ (c ∷ [])) ≡ first_refusal cs
unfolding first_refusal
last_passes [] c e = pick_false c.number 0 e
last_passes (b ∷ cs) c e = ap (λ (n : ℕ). pick b.fails b.number n) (last_passes cs c e)

-- one place is room for one node
one_fits : (n a b : ℕ) → a ≡ 1 → b ≡ 1 → (ltb a (min 1 n) || ltb b (min 1 n)) ≡ false
one_fits n a b ea eb = ap₂ ◌||◌ (le-ltb a (min 1 n) (omega arith)) (le-ltb b (min 1 n) (omega arith))

module _ (ws fs : ℕ) (w : List ℕ) (f query : List Float) (ef : ℕ) (limit : Float) where
  abbrev first : List Check
  first = opening (scratch ws fs) w f

  abbrev asked : List Check
  asked = first ++ asking_checks w query 1 ef

  abbrev limit_check : Check
  limit_check = check (not (finite limit)) limit_not_finite

  abbrev refusal : ℕ
  refusal = first_refusal (recognise_checks ws fs w f query ef limit)

  abbrev answer : Values
  answer = nearest_of (doc_in (view w f)) (far_in (view w f) query) limit (found_in usual (view w f) query 1 ef)

  checks_are : recognise_checks ws fs w f query ef limit ≡ asked ++ (limit_check ∷ [])
  unfolding recognise_checks
  checks_are = sym (append_assoc first (asking_checks w query 1 ef) (limit_check ∷ []))

  -- a call that was asked for something wrong is refused by that
  asked_first : (first_refusal asked ≡ 0 → ⊥) → refusal ≡ first_refusal asked
  asked_first n = ap first_refusal checks_are ∙ then_first asked (limit_check ∷ []) n

  asked_right : first_refusal asked ≡ 0 → refusal ≡ first_refusal (limit_check ∷ [])
  unfolding recognise_checks
  asked_right e =
      let lists = both_none first (asking_checks w query 1 ef) (opening_numbered (scratch ws fs) w f) e in
      then_second first (asking_checks w query 1 ef ++ (limit_check ∷ [])) (opening_numbered (scratch ws fs) w f) lists.0
      ∙ then_second (asking_checks w query 1 ef) (limit_check ∷ []) (omega arith) lists.1

  turned_with : (number : ℕ) → refusal ≡ number → (number ≡ 0 → ⊥) → refused_as number ≡ recognise_spec ws fs w f query ef limit
  unfolding recognise_spec
  turned_with number e n = ap (λ (m : ℕ). refused_as m) (sym e) ∙ sym (pick_false {X = Values} answer (refused_as refusal) (ne_eqb refusal 0 (λ z. n (sym e ∙ z))))

  answered : refusal ≡ 0 → answer ≡ recognise_spec ws fs w f query ef limit
  unfolding recognise_spec
  answered e = sym (pick_true {X = Values} answer (refused_as refusal) (eq-eqb refusal 0 e))

  limit_passed : first_refusal asked ≡ 0 → finite limit ≡ true → refusal ≡ 0
  unfolding first_refusal
  limit_passed e h = asked_right e ∙ pick_false 13 0 (ap not h)

  limit_failed : first_refusal asked ≡ 0 → finite limit ≡ false → refusal ≡ limit_not_finite
  unfolding first_refusal
  limit_failed e h = asked_right e ∙ pick_true 13 0 (ap not h)

  -- a call that is accepted was asked for nothing wrong, with a limit that is finite
  asked-accepted : refusal ≡ 0 → first_refusal asked ≡ 0
  asked-accepted e = elim (ℕ_discrete (first_refusal asked) 0) [ yes h ↦ h | no h ↦ absurd (h (sym (asked_first h) ∙ e)) ]

  pub limit_accepted : refusal ≡ 0 → finite limit ≡ true
  limit_accepted e = go (finite limit) refl
    where
      go : (b : Bool) → finite limit ≡ b → finite limit ≡ true
      go true h = h
      go false h = absurd (omega (arith, limit_failed (asked-accepted e) h))

  -- ---- the search that the call makes, into one place each

  module _ (docs : List ℕ) (distances : List Float) (one-doc : length docs ≡ 1) (one-distance : length distances ≡ 1) where
    abbrev reply : Reply
    reply = search_with_ef_spec ws fs w f query 1 ef docs distances

    searched_first : first_refusal (search_checks w query 1 ef docs distances ws fs f) ≡ first_refusal asked
    unfolding search_checks own_search_checks
    searched_first =
        ap first_refusal (sym (append_assoc first (asking_checks w query 1 ef) _))
        ∙ last_passes asked _ (one_fits (word w nodes_at) (length docs) (length distances) one-doc one-distance)

    -- the number of a search is that of its checks
    searched_number : reply.number ≡ first_refusal asked
    unfolding search_with_ef_spec
    searched_number =
        pick_ind (λ (a : Reply). a.number ≡ first_refusal (search_checks w query 1 ef docs distances ws fs f))
        (eqb (first_refusal (search_checks w query 1 ef docs distances ws fs f)) 0)
        (λ t. sym (eqb→eq _ 0 t))
        (λ t. refl)
        ∙ searched_first

    searched_reply : first_refusal asked ≡ 0 → reply ≡ reply_of usual (view w f) query 1 ef docs distances
    unfolding search_with_ef_spec
    searched_reply e =
        pick_true {X = Reply} (reply_of usual (view w f) query 1 ef docs distances) (refused (first_refusal (search_checks w query 1 ef docs distances ws fs f)) docs distances)
        (eq-eqb _ 0 (searched_first ∙ e))

    -- the call is accepted exactly if this search is and the limit is finite
    pub search_accepted : refusal ≡ 0 → reply.number ≡ 0
    search_accepted e = searched_number ∙ asked-accepted e

    pub call_accepted : reply.number ≡ 0 → finite limit ≡ true → refusal ≡ 0
    call_accepted e h = limit_passed (sym searched_number ∙ e) h

    -- what it has left: its number, how many nodes it returns, both outputs
    module _ (left : Reply) (same : left ≡ reply) where
      numbered : left.number ≡ first_refusal asked
      numbered = ap (λ (r : Reply). r.number) same ∙ searched_number

      pub search_refused : (left.number ≡ 0 → ⊥) → refused_as left.number ≡ recognise_spec ws fs w f query ef limit
      search_refused n = turned_with left.number (asked_first (λ e. n (numbered ∙ e)) ∙ sym numbered) n

      pub limit_refused : left.number ≡ 0 → finite limit ≡ false → refused_as limit_not_finite ≡ recognise_spec ws fs w f query ef limit
      limit_refused e h = turned_with limit_not_finite (limit_failed (sym numbered ∙ e) h) (λ z. omega arith)

      module _ (e : left.number ≡ 0) (h : finite limit ≡ true) where
        left_is : left ≡ reply_of usual (view w f) query 1 ef docs distances
        left_is = same ∙ searched_reply (sym numbered ∙ e)

        done : answer ≡ recognise_spec ws fs w f query ef limit
        done = answered (limit_passed (sym numbered ∙ e) h)

        pub found_none : left.count ≡ 0 → new_as 0 ≡ recognise_spec ws fs w f query ef limit
        unfolding reply_of
        found_none z = sym (ap (nearest_of (doc_in (view w f)) (far_in (view w f) query) limit) (empty (found_in usual (view w f) query 1 ef) (sym (ap (λ (r : Reply). r.count) left_is) ∙ z))) ∙ done
          where
            empty : (l : List ℕ) → length l ≡ 0 → l ≡ []
            empty [] z = refl
            empty (x ∷ l) z = absurd (omega arith)

        pub found_one : (left.count ≡ 0 → ⊥) → recognised_as (get_or left.docs 0 0) (get_or left.distances 0 nan) limit ≡ recognise_spec ws fs w f query ef limit
        unfolding reply_of
        found_one n =
            ap₂ (λ (doc : ℕ) (d : Float). recognised_as doc d limit) (ap (λ (r : Reply). get_or r.docs 0 0) left_is) (ap (λ (r : Reply). get_or r.distances 0 nan) left_is)
            ∙ first_is (found_in usual (view w f) query 1 ef) (λ z. n (ap (λ (r : Reply). r.count) left_is ∙ z))
            ∙ done
          where
            first_is : (l : List ℕ) → (length l ≡ 0 → ⊥)
                → recognised_as (get_or (map (λ i. get_or (view w f).docs i 0) l ++ drop (length l) docs) 0 0) (get_or (map (far_in (view w f) query) l ++ drop (length l) distances) 0 nan) limit
                ≡ nearest_of (doc_in (view w f)) (far_in (view w f) query) limit l
            first_is [] n = absurd (n refl)
            first_is (x ∷ l) n = refl
