-- One element more, and the end, where one of the two ends. Assumes nothing.
use mathlib.Core.Path.{◌≡◌, refl, ◌∙◌}
use mathlib.Core.List.{List, ◌++◌, append-nil}
use Prim.Native.Nat.{ℕ, ◌+◌, ◌≤◌, ◌<◌, min}
use native.Mathlib.Numerals.{add-one}
use native.Mathlib.Omega.{arith}
use native.Mathlib.Decide.{dec_lt}
use lib.ListN.{length, get_or, take, drop, set, drop_of_length-le}
use lib.Seq.{take-suc, length-take-le, take_all, take-length, drop-length}
use Rattle.basics.proofs.Loops.{front_set}
use Rattle.words.proofs.slices.copy.Goals as goal

module _ {A : Type 0} (to from : List A) where
  copied : ℕ → List A
  copied i = take i from ++ drop i to

  copied_more : (d : A) (i : ℕ) → i < length to → i < length from → set (copied i) i (get_or from i d) ≡ copied (i + 1)
  unfolding copied
  copied_more d i h k =
      front_set to (take i from) i (get_or from i d) (length-take-le i from (omega arith)) h
      ∙ rw (add-one i, take-suc from i d k)

  -- it ends where one of the two ends
  copied_end : (i : ℕ) → i ≡ min (length to) (length from) → copied i ≡ take (length to) from ++ drop (length from) to
  unfolding copied
  copied_end i e = elim (dec_lt (length from) (length to)) [
    | yes more ↦
        let whole : i ≡ length from = omega (arith, e) in
        rw (whole, take-length from, take_all (length to) from (omega arith))
    | no fewer ↦
        let whole : i ≡ length to = omega (arith, e) in
        let past : length to ≤ length from = omega arith in
        rw (whole, drop-length to, drop_of_length-le to past)
  ]

  copied_all : length to ≡ length from → take (length to) from ++ drop (length from) to ≡ from
  copied_all e =
      let past : length to ≤ length from = omega arith in
      rw (e, take-length from, drop_of_length-le to past) (append-nil from)

pub loop-i-init : goal.loop-i-init
loop-i-init g c = refl

pub loop-i-preserved : goal.loop-i-preserved
unfolding copied
loop-i-preserved g c =
    let l = c.loop-i in
    rw (l.invariant, c.index-from-i.is) (copied_more c.args.to.now c.args.from.now c.index-from-i.result l.i (omega arith) (omega arith))

pub returns-clause-both : goal.returns-clause-both
unfolding copied
returns-clause-both g c =
    let l = c.loop-i in
    l.invariant ∙ copied_end c.args.to.now c.args.from.now l.i (omega arith)

pub returns-clause-after : goal.returns-clause-after
unfolding copied
returns-clause-after g c e =
    let l = c.loop-i in
    l.invariant ∙ copied_end c.args.to.now c.args.from.now l.i (omega arith) ∙ copied_all c.args.to.now c.args.from.now e
