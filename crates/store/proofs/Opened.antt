-- What a call that has passed the checks it begins with knows of the stores. Assumes nothing.
use mathlib.Core.Path.{◌≡◌, sym, ◌∙◌}
use mathlib.Core.Bool.{true, false}
use mathlib.Core.List.{List, ◌++◌}
use Prim.Native.Nat.{ℕ, ◌≤◌}
use native.Mathlib.Omega.{arith}
use lib.ListN.{length}
use lib.Ieee.{Float}
use borrow.Author.Tests.{ltb-false, not-false}
use Rattle.error.specs.declared.Refusal.{Refusal}
use Rattle.error.specs.Inside.Refused.{number_of}
use Rattle.error.proofs.Laws.{never_zero}
use Rattle.basics.specs.Refusals.{Check, Numbered, first_refusal}
use Rattle.basics.proofs.Refusals.{passes, then_first, then_second}
use Rattle.basics.proofs.Tests.{both_false}
use Rattle.std.proofs.Common.{Option}
use Rattle.store.specs.declared.Scratch.{Scratch}
use Rattle.store.specs.Layout.{word, header_size, dimension_at, degree_at, capacity_at, words_size, floats_size}
use Rattle.store.specs.WellFormed.{rest_ok}
use Rattle.store.specs.Opening.{scratch_short, opening}
use Rattle.store.proofs.Header.{Header, header}
use Rattle.store.proofs.Sizes.{Room, room}

module _ (lent : Option Scratch) (w : List ℕ) (f : List Float) where
  pub opening_numbered : Numbered (opening lent w f)
  unfolding opening
  opening_numbered = omega arith

  -- where the first checks pass, a call's own decide
  pub own_decide : (own : List Check) → 0 ≡ first_refusal (opening lent w f) → first_refusal own ≡ first_refusal (opening lent w f ++ own)
  own_decide own e = sym (then_second (opening lent w f) own opening_numbered (sym e))

  -- and where one of them fails, it is the call's refusal
  pub first_decide : (own : List Check) (r : Refusal) → number_of r ≡ first_refusal (opening lent w f) → number_of r ≡ first_refusal (opening lent w f ++ own)
  first_decide own r e = e ∙ sym (then_first (opening lent w f) own (λ z. never_zero r (e ∙ z)))

  pub record Opened : Type 0 where
    pub long : header_size ≤ length w
    pub header : Header w
    pub words : words_size (word w capacity_at) (word w degree_at) ≤ length w
    pub floats : floats_size (word w capacity_at) (word w dimension_at) ≤ length f
    pub room : Room w f
    pub scratch : scratch_short (word w capacity_at) lent ≡ false
    pub rest : rest_ok w f ≡ true

  pub opened : first_refusal (opening lent w f) ≡ 0 → Opened
  unfolding opening
  opened e =
      let t = passes (opening lent w f) (omega arith) e in
      let sizes = both_false _ _ t.1.1.0 in
      let two = both_false _ _ sizes.0 in
      let head : Header w = header w (not-false _ t.1.0) in
      let words = ltb-false _ _ two.0 in
      let floats = ltb-false _ _ two.1 in
      record {
        long = ltb-false _ _ t.0;
        header = head;
        words = words;
        floats = floats;
        room = room w f head words floats;
        scratch = sizes.1;
        rest = not-false _ t.1.1.1.0;
      }
