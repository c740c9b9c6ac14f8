-- The part up to the last tail is cleared, and the rest stays. Assumes nothing.
use native.Mathlib.Omega.{arith}
use mathlib.Core.Path.{◌≡◌, ap, ap₂, ◌∙◌}
use mathlib.Core.List.{List, ◌++◌}
use Prim.Native.Nat.{ℕ, ◌*◌, min}
use lib.ListN.{length, take, drop, replicate}
use lib.Seq.{length-take-le}
use Rattle.basics.proofs.Members.{drop_min}
use Rattle.lists.specs.Inside.Chains.{cleared_links}
use Rattle.lists.proofs.chains.clear_links.Goals as goal

cleared : (n end : ℕ) (links part : List ℕ) → end ≡ min (2 * n) (length links) → part ≡ replicate (length (take end links)) 0
    → part ++ drop end links ≡ cleared_links n links
cleared n end links part e p =
    let k : length (take end links) ≡ min (2 * n) (length links) = length-take-le end links (omega arith) ∙ e in
    ap₂ (λ (x : List ℕ) (y : List ℕ). x ++ y) (p ∙ ap (λ (i : ℕ). replicate i 0) k) (ap (λ (i : ℕ). drop i links) e ∙ drop_min (2 * n) links)

pub returns : goal.returns
returns c =
    let a = c.args in
    let end = c.min-end in
    cleared a.n end.result a.links.now c.fill.new.self (omega (arith, end.ensures, c.next_place.ensures)) (c.fill.ensures.after (λ _ e. e))
