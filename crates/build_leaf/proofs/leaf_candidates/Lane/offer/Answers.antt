-- The places from `from` to j were offered. Assumes nothing.
use native.Mathlib.Omega.{arith}
use mathlib.Core.Path.{◌≡◌, refl, ap, subst, ◌∙◌}
use Prim.Native.Nat.{ℕ, ◌+◌, ◌-◌}
use lib.ListN.{length}
use lib.Ieee.{binary32}
use Rattle.distance.specs.Order.{key_of}
use Rattle.sorting.specs.declared.Keyed.{Keyed}
use Rattle.sorting.specs.Inside.Pairs.{kept_pairs, put_front}
use Rattle.build_leaf.specs.Inside.Candidates.{offer}
use Rattle.build_leaf.proofs.leaf_candidates.Offers.{offered_none, offered_more}
use Rattle.build_leaf.proofs.leaf_candidates.Lane.offer.Goals as goal

pub loop-j-init : goal.loop-j-init
loop-j-init c =
    let x = c.args in
    (omega arith, omega arith, refl, offered_none x.self.place x.from x.pairs.now x.held _ (omega arith))

pub loop-j-preserved : goal.loop-j-preserved
loop-j-preserved c =
    let l = c.loop-j in
    let x = c.args in
    let k = c.keep_first-kept in
    let pair : record { key = c.key.result; id = l.j } ≡ offer x.self.place l.j = ap (λ (key : ℕ). record { key = key; id = l.j }) (c.key.ensures ∙ ap (key_of binary32) c.distance.ensures) in (
      omega arith,
      omega arith,
      k.auto.pairs ∙ l.invariant.2,
      offered_more x.self.place x.from x.pairs.now x.held (l.j - x.from) ((l.j + 1) - x.from) l.j k.result l.pairs _ l.kept (omega arith) (omega arith) l.invariant.2
          (subst (λ (p : Keyed). (k.result ≡ length (kept_pairs l.kept p l.pairs)) × (k.new.pairs ≡ put_front (kept_pairs l.kept p l.pairs) l.pairs)) pair k.ensures) l.invariant.3,
    )

pub returns : goal.returns
returns c =
    let l = c.loop-j in
    let x = c.args in
    let e : l.j ≡ x.to = omega arith in
    rw e at l.invariant.3
