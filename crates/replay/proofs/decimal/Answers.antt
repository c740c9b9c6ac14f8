-- Digits alone, and what std reads in them. Assumes nothing.
use Rattle.std.proofs.Common.{◌≡◌, true, sym, ap, ◌∙◌, List, ℕ, Option, Some, Result, Ok, Err, subst}
use denote.Bor.{Bor}
use mathlib.Core.Bool.{true≢false}
use Rattle.std.specs.Option.{IfSome, is_some, unwrap_or}
use Rattle.std.specs.Result.{MatchResult, result_ok}
use Rattle.basics.specs.Lists.{every}
use Rattle.replay.specs.Inside.Text.{IsDecimal, is_digit}
use Rattle.replay.proofs.decimal.Goals as goal

-- the text that is read is the one that came
same_text : {E : Type 0} (Q : E → Type 0) (text : List ℕ) (U : Type 0) (r : Result (Bor (List ℕ)) E) (s : Bor (List ℕ))
    → MatchResult r (λ t. (t.now ≡ text) × U) Q → Some s ≡ result_ok r → s.now ≡ text
same_text Q text U (Ok t) s h e = ap (λ (o : Option (Bor (List ℕ))). (unwrap_or o s).now) e ∙ h.0
same_text Q text U (Err x) s h e = absurd (true≢false (ap is_some e))

-- the number that is returned is the one that was read
read : {N E : Type 0} (reads : List ℕ → Result N E → Type 0) (text given : List ℕ) (r : Result N E) (o : Option N) → every is_digit text ≡ true → given ≡ text
    → reads given r → o ≡ result_ok r → IfSome o (λ number. IsDecimal reads text number)
read reads text given (Ok n) o d same h e = subst (λ (p : Option _). IfSome p (λ number. IsDecimal reads text number)) (sym e) (d, subst (λ (t : List ℕ). reads t (Ok n)) same h)
read reads text given (Err x) o d same h e = subst (λ (p : Option _). IfSome p (λ number. IsDecimal reads text number)) (sym e) tt

pub returns : goal.returns
returns g c =
    let text = c.args.text.now in
    let given = same_text _ text _ c.from_utf8.result c.in_ok-ok.field-0 c.from_utf8.ensures.cases c.in_ok-ok.ensures.value in
    read g.N.FromStr.from_str_gives text c.in_ok-ok.field-0.now c.parse.result c.ok-2.result (sym c.is_digits.ensures ∙ c.if-not-is_digits.false) given c.parse.ensures.value c.ok-2.ensures.value
