-- The product is reduced before the addend is added, which the sum's own reduction makes no difference to. Assumes nothing.
use Rattle.std.proofs.Common.{ℕ, ◌+◌, ◌*◌, ◌%◌, ◌^◌, ap, ◌∙◌}
use native.Mathlib.Nat.{mod-add-mod}
use Rattle.random.specs.Lcg.{next_of}
use Rattle.random.proofs.lcg.next.Goals as goal

pub returns : goal.returns
unfolding next_of
returns c =
    let x = c.args in
    ap (λ (m : ℕ). (m + x.addend) % 2 ^ 64) c.wrapping_mul.ensures
    ∙ mod-add-mod (x.r * 6364136223846793005) (2 ^ 64) x.addend
