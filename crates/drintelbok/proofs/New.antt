-- `new_from` by whether final_prune is refused, where `within` is the outcome of the dimension's test. Assumes nothing.
use mathlib.Core.Path.{◌≡◌, sym, ap, ◌∙◌}
use mathlib.Core.Bool.{Bool, true, false, ◌&&◌}
use mathlib.Core.List.{List}
use Prim.Native.Nat.{ℕ}
use lib.Dec.{ltb}
use lib.Ieee.{Float}
use Rattle.basics.specs.Choice.{pick_true, pick_false}
use Rattle.error.specs.Numbers.{parameter_out_of_range}
use Rattle.params.specs.declared.PipnnParams.{PipnnParams}
use Rattle.params.specs.Limits.{dimension_within}
use Rattle.pipnn.specs.Answer.{Answer}
use Rattle.pipnn.specs.New.{new_spec}
use Rattle.drintelbok.specs.New.{new_from}

module _ (dimension final_prune : ℕ) (p : PipnnParams) (capacity : ℕ) (w : List ℕ) (f : List Float) (within : Bool) (e : within ≡ dimension_within dimension) where
  same_test : (dimension_within dimension && ltb 1 final_prune) ≡ (within && ltb 1 final_prune)
  same_test = ap (λ (b : Bool). b && ltb 1 final_prune) (sym e)

  pub turned_back_lem : (within && ltb 1 final_prune) ≡ true → ◌≡◌ {A = Answer} (parameter_out_of_range, w, f) (new_from dimension final_prune p capacity w f)
  unfolding new_from
  turned_back_lem t = sym (pick_true _ _ (same_test ∙ t))

  pub passed_on : (within && ltb 1 final_prune) ≡ false → new_spec dimension p capacity w f ≡ new_from dimension final_prune p capacity w f
  unfolding new_from
  passed_on t = sym (pick_false _ _ (same_test ∙ t))
