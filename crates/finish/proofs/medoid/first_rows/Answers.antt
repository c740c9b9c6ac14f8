-- The part holds as many rows as are taken, and they are the first. Assumes nothing.
use native.Mathlib.Omega.{arith}
use mathlib.Core.Path.{ap, ◌∙◌}
use Prim.Native.Nat.{ℕ, ◌*◌, ◌/◌, ◌≤◌}
use lib.ListN.{length, take}
use Rattle.basics.specs.Lists.{pieces}
use Rattle.finish.proofs.medoid.Rows.{many_rows, front_rows, front_many}
use Rattle.finish.proofs.medoid.first_rows.Goals as goal

pub returns : goal.returns
returns c =
    let x = c.args in
    let count = c.min-count in
    let d = x.dimension in
    let xs = x.vectors.now in
    let within : count.result ≤ length xs / d = omega (arith, count.ensures) in
    let front = take (count.result * d) xs in
    ap (λ (n : ℕ). pieces d n front) (many_rows d c.requires count.result front (front_many d c.requires count.result xs within))
    ∙ front_rows d c.requires count.result xs within ∙ ap (λ (n : ℕ). pieces d n xs) count.ensures
