-- Part 2's words on the root (scope, part 2), over any format f. `IsRoot` is what part 2 says of the root of a finite s > 0, and `Roots` that the
-- definition is that root for every s that the format holds. `roots` of proofs/Words proves it; the code at binary32 is proved by it.
use Rattle.std.specs.Prelude.{◌≡◌, Bool, true, false, ℕ, suc, ◌+◌, ◌-◌, ◌*◌, ◌^◌, ◌≤◌, ◌<◌, ℤ, T, Float}
use Rattle.std.specs.Float.{nan, inf, fin, Format}
use Rattle.std.specs.Float.Ieee.{up, down, prec, fits}
use Rattle.std.specs.Float.Ieee.Exact.{HasValue}
use Rattle.std.specs.Float.Ieee.Positive.{num, den, positive}
use Rattle.norm.specs.Root.{root_of}

-- 2^e is up e / down e, so for s = a / c the number s / 2^(2e) is `over a e` / `under c e`
abbrev pub over : ℕ → ℤ → ℕ
over a e = a * (down e * down e)

abbrev pub under : ℕ → ℤ → ℕ
under c e = c * (up e * up e)

-- r is the root of s = a / c. There are a whole e and a whole m with
pub record IsRoot (f : Format) (a c : ℕ) (r : Float) : Type 0 where
  pub e : ℤ
  pub m : ℕ
  -- 2^(2p−2) ≤ s / 2^(2e) < 2^(2p), where p is the format's precision
  pub from : 2 ^ (2 * prec f - 2) * under c e ≤ over a e
  pub below : over a e < 2 ^ (2 * prec f) * under c e
  -- (2m − 1)² < 4 s / 2^(2e) < (2m + 1)²
  pub above_lower : (2 * m - 1) * (2 * m - 1) * under c e < 4 * over a e
  pub below_upper : 4 * over a e < (2 * m + 1) * (2 * m + 1) * under c e
  -- r is m · 2^e, and the format holds it
  pub value : HasValue r false (m * up e) (down e)
  pub held : T (fits f r)

-- `positive s` is finite and above zero; its value is num s / den s
pub record Roots (f : Format) : Type 0 where
  pub of_positive : (s : Float) → T (fits f s) → T (positive s) → IsRoot f (num s) (den s) (root_of f s)
  pub of_zero : (sign : Bool) (e : ℤ) → root_of f (fin sign 0 e) ≡ fin sign 0 e
  pub of_infinity : root_of f (inf false) ≡ inf false
  -- and where there is none
  pub of_negative : (m : ℕ) (e : ℤ) → root_of f (fin true (suc m) e) ≡ nan
  pub of_negative_infinity : root_of f (inf true) ≡ nan
  pub of_nan : root_of f nan ≡ nan
