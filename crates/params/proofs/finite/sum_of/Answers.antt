-- `finite::sum_of` meets its contract: a sum that is finite is of finite components. Assumes nothing.
use mathlib.Core.Path.{◌≡◌, refl, sym, ap, ◌∙◌}
use mathlib.Core.Bool.{Bool, true, ◌&&◌}
use mathlib.Core.List.{List, [], ◌∷◌}
use lib.Ieee.{Float, binary32, add, of_bits}
use lib.Ieee.Scale.{finite}
use Rattle.std.proofs.Common.{rules, tests}
use Rattle.std.specs.List.{fold}
use Rattle.std.proofs.lemmas.Iterator.{YieldsList-from_slice}
use Rattle.std.proofs.lemmas.Iterator.Consumers.{fold_from_yields_List}
use Rattle.basics.specs.Lists.{every}
use Rattle.basics.specs.Sum.{+zero}
use Rattle.params.proofs.finite.Sums.{both-finite}
use Rattle.params.proofs.finite.sum_of.Goals as goal

finite_parts : (s : Float) (xs : List Float) → finite (fold (add binary32) s xs) ≡ true → (finite s ≡ true) × (every finite xs ≡ true)
unfolding every
finite_parts s [] e = (e, refl)
finite_parts s (x ∷ xs) e =
    let rest = finite_parts (add binary32 s x) xs e in
    let both = both-finite binary32 s x rest.0 in
    (both.0, ap (λ (b : Bool). b && every finite xs) both.1 ∙ rest.1)

pub returns : goal.returns
unfolding of_bits
returns c =
    let sum = fold_from_yields_List _ (add binary32) +zero c.fold.result c.fold.ensures.ran (YieldsList-from_slice c.args.v.now cc) (λ b x r q k. search (rules, tests)) in
    λ e. (finite_parts +zero c.args.v.now (ap finite (sym sum) ∙ e)).1
