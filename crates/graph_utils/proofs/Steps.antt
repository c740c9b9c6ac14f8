-- What the code of a turn and the loop over turns have done so far, as words. Assumes nothing.
use mathlib.Core.Path.{◌≡◌, refl, sym, ap, ap₂, ◌∙◌}
use mathlib.Core.List.{List}
use Prim.Native.Nat.{ℕ, ◌+◌, ◌≤◌, ◌<◌}
use native.Mathlib.Numerals.{add-one}
use native.Mathlib.Omega.{arith}
use lib.Dec.{eqb}
use lib.ListN.{get_or}
use lib.Ieee.{Float}
use borrow.Author.Tests.{eq-eqb, ne_eqb}
use Rattle.basics.specs.Choice.{pick_ind, pick_true, pick_false}
use Rattle.lists.specs.Inside.Chains.{cleared_links, chain_bridge}
use Rattle.lists.specs.declared.Shape.{Shape}
use Rattle.lists.specs.Inside.Lists.{list_words}
use Rattle.graph_utils.specs.Inside.Marking.{marked}
use Rattle.graph_utils.specs.Inside.Candidates.{start_of}
use Rattle.graph_utils.specs.Inside.Turns.{Work, work, put_bridge, bridged, turned, begun, turned_to}

module _ (h : Shape) (rows : List ℕ) (vs : List (List Float)) (entry : ℕ) where
  -- ---- a turn

  module _ (i count mark : ℕ) (bridges links state : List ℕ) (m : mark ≡ get_or state i 0) where
    pub turn_passed : 0 < mark → work count bridges links state ≡ turned h rows vs entry i (work count bridges links state)
    unfolding turned
    turn_passed k = sym (pick_false _ _ (ne_eqb (get_or state i 0) 0 (λ e. omega arith)))

    pub turn_bridged : (near : ℕ) (bridges' links' state' : List ℕ) → mark ≤ 0 → near ≡ start_of state h.n vs (list_words h rows bridges links) entry i
        → bridges' ≡ put_bridge count near i bridges → links' ≡ chain_bridge h.n count near i links → state' ≡ marked h.n (list_words h rows bridges' links') i state
        → work (count + 1) bridges' links' state' ≡ turned h rows vs entry i (work count bridges links state)
    unfolding turned bridged
    turn_bridged near bridges' links' state' z e b l s =
        ap (work (count + 1) bridges' links') s
        ∙ ap₂ (λ (x : List ℕ) (y : List ℕ). work (count + 1) x y (marked h.n (list_words h rows x y) i state)) b l
        ∙ ap (bridged h rows vs entry i (work count bridges links state)) e
        ∙ sym (pick_true _ _ (eq-eqb (get_or state i 0) 0 (omega arith)))

  pub turned_count : (i : ℕ) (w : Work) → (turned h rows vs entry i w).count ≤ w.count + 1
  unfolding turned bridged
  turned_count i w = pick_ind (λ (x : Work). x.count ≤ w.count + 1) (eqb (get_or w.state i 0) 0) (λ _. omega arith) (λ _. omega arith)

  -- ---- the loop

  pub no_turn : (w : Work) → w ≡ turned_to h rows vs entry w 0
  unfolding turned_to
  no_turn w = refl

  pub one_turn : (w w' w'' : Work) (i : ℕ) → w' ≡ turned_to h rows vs entry w i → w'' ≡ turned h rows vs entry i w' → w'' ≡ turned_to h rows vs entry w (i + 1)
  unfolding turned_to
  one_turn w w' w'' i e f = f ∙ ap (turned h rows vs entry i) e ∙ ap (turned_to h rows vs entry w) (sym (add-one i))

  pub begin_is : (bridges links state links' state' : List ℕ) → links' ≡ cleared_links h.n links → state' ≡ marked h.n (list_words h rows bridges links') entry state
      → work 0 bridges links' state' ≡ begun h rows vs entry bridges links state
  unfolding begun
  begin_is bridges links state links' state' l s =
      ap (work 0 bridges links') s ∙ ap (λ (x : List ℕ). work 0 bridges x (marked h.n (list_words h rows bridges x) entry state)) l
