-- Three words are set, one after the other. A place that is too large is past the end, as the number is that stands for it. Assumes nothing.
use mathlib.Core.Path.{◌≡◌, ap, ◌∙◌}
use mathlib.Core.List.{List}
use native.Mathlib.Omega.{arith}
use Prim.Native.Nat.{ℕ, ◌+◌, ◌*◌}
use lib.ListN.{get_or, set}
use Rattle.lists.specs.Inside.Chains.{capped, link_place, append_slot}
use Rattle.lists.proofs.Places.{get_capped, set_capped}
use Rattle.lists.proofs.chains.append_slot.Goals as goal

pub returns : goal.returns
unfolding append_slot
returns c =
    let a = c.args in
    let links = a.links.now in
    let one : List ℕ = c.put.new.items in
    let two : List ℕ = c.put-2.new.items in
    let tail_place = c.saturating_add-tail_place in
    let tail : c.word_at-tail.result ≡ get_or links (a.n + a.node.0) 0 =
    c.word_at-tail.ensures ∙ ap (λ (p : ℕ). get_or links p 0) tail_place.ensures ∙ get_capped links (omega arith) (a.n + a.node.0) in
    let first : one ≡ set links (link_place a.n a.node.0 (get_or links (a.n + a.node.0) 0)) (a.slot + 1) =
    c.put.ensures
    ∙ ap (λ (p : ℕ). set links p (a.slot + 1)) (c.link_place-place.ensures ∙ ap (λ (t : ℕ). capped (link_place a.n a.node.0 t)) tail)
    ∙ set_capped links (omega arith) (link_place a.n a.node.0 (get_or links (a.n + a.node.0) 0)) (a.slot + 1) in
    let second : two ≡ set one (2 * a.n + a.slot) 0 =
    c.put-2.ensures ∙ ap (λ (p : ℕ). set one p 0) c.next_place.ensures ∙ set_capped one (omega arith) (2 * a.n + a.slot) 0 in
    c.put-3.ensures
    ∙ ap (λ (p : ℕ). set two p (a.slot + 1)) tail_place.ensures
    ∙ set_capped two (omega arith) (a.n + a.node.0) (a.slot + 1)
    ∙ ap (λ (l : List ℕ). set l (a.n + a.node.0) (a.slot + 1)) (second ∙ ap (λ (l : List ℕ). set l (2 * a.n + a.slot) 0) first)
