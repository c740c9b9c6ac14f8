-- One bridge more, and the end. Assumes nothing.
use Rattle.std.proofs.Common.{◌≡◌, ℕ, List, ◌*◌, length, get_or, drop, sym, ap, ap₂, subst, ◌∙◌, arith}
use lib.ListN.{length-drop}
use Rattle.std.specs.Iterator.Adapters.{enumerate_source, enumerate_count}
use Rattle.std.specs.Slice.Iter.{chunks_exact_rest, chunks_exact_size}
use Rattle.std.specs.declared.iter.Enumerate.{Enumerate}
use Rattle.std.specs.declared.slice.ChunksExact.{ChunksExact}
use Rattle.lists.specs.Inside.Chains.{chain_bridge}
use Rattle.beam_search.proofs.Linking.{Chaining, cut, chaining_none, chaining_more, chaining_all}
use Rattle.beam_search.proofs.link_bridges.Goals as goal

pub loop-j-init : goal.loop-j-init
loop-j-init c =
    let a = c.args in
    let same = c.into_iter-j-iterator.ensures.into_iter_gives in
    let source = ap (λ (e : Enumerate (ChunksExact ℕ)). enumerate_source e) same ∙ c.enumerate-j-items.ensures.source in
    let none : enumerate_count c.into_iter-j-iterator.result ≡ 0 = ap (λ (e : Enumerate (ChunksExact ℕ)). enumerate_count e) same ∙ c.enumerate-j-items.ensures.count in (
      ap (λ (s : ChunksExact ℕ). chunks_exact_size s) source ∙ c.chunks_exact.ensures.size,
      ap (λ (s : ChunksExact ℕ). chunks_exact_rest s) source ∙ c.chunks_exact.ensures.rest ∙ sym (ap (λ (k : ℕ). drop (2 * k) a.bridges.now) none),
      subst (λ (k : ℕ). Chaining a.n a.bridges.now a.links.now k a.links.now) (sym none) (chaining_none a.n a.bridges.now a.links.now),
    )

pub overflow_cast-j : goal.overflow_cast-j
overflow_cast-j c =
    let a = c.args in
    let l = c.loop-j in
    let steps = c.in-Some.ensures.steps in
    let next = cut a.n a.bridges.now a.links.now _ l.links l.invariant.2 c.in-Some.ends.now _ _ l.invariant.1 steps.0.1.0 (steps.0.1.1 ∙ l.invariant.0) in
    omega (arith, next.2, steps.1, c.requires.0, c.requires.1)

pub loop-j-preserved : goal.loop-j-preserved
loop-j-preserved c =
    let a = c.args in
    let l = c.loop-j in
    let b = c.chain_bridge in
    let steps = c.in-Some.ensures.steps in
    let next = cut a.n a.bridges.now a.links.now _ l.links l.invariant.2 c.in-Some.ends.now _ _ l.invariant.1 steps.0.1.0 (steps.0.1.1 ∙ l.invariant.0) in
    let linked = b.ensures ∙ ap₂ (λ (k : ℕ) (two : List ℕ). chain_bridge a.n k (get_or two 0 0) (get_or two 1 0) l.links) steps.1 next.0 in (
      steps.0.0 ∙ l.invariant.0,
      next.1 ∙ sym (ap (λ (k : ℕ). drop (2 * k) a.bridges.now) steps.2),
      subst (λ (k : ℕ). Chaining a.n a.bridges.now a.links.now k b.new.links) (sym steps.2)
          (chaining_more a.n a.bridges.now a.links.now _ l.links l.invariant.2 b.new.links c.requires.1 next.2 b.auto.links linked),
    )

pub returns : goal.returns
returns c =
    let a = c.args in
    let l = c.loop-j in
    let none = c.in-None.ensures.steps in
    chaining_all a.n a.bridges.now a.links.now _ l.links l.invariant.2
    (omega (arith, none.0.1.0, l.invariant.0, ap length l.invariant.1, length-drop (2 * enumerate_count l.j-iterator) a.bridges.now))
