-- What a `new` that is accepted has passed, and that what it writes is the definition's. Assumes nothing.
use mathlib.Core.Path.{◌≡◌, refl, ap, ◌∙◌}
use mathlib.Core.Bool.{true}
use mathlib.Core.List.{List, ◌++◌}
use Prim.Native.Nat.{ℕ, ◌+◌, ◌-◌, ◌≤◌}
use native.Mathlib.Omega.{arith}
use lib.ListN.{length, take, drop, replicate, length-take, length-drop}
use lib.Seq.{take_at, drop_at, drop-drop, length-take-le}
use lib.Ieee.{Float}
use borrow.Author.Tests.{ltb-false, not-false}
use borrow.Rule.Slice.PartMut.{put_mid}
use Rattle.basics.specs.Sum.{+zero}
use Rattle.basics.specs.Refusals.{first_refusal}
use Rattle.basics.proofs.Refusals.{passes}
use Rattle.basics.proofs.Tests.{both_true, both_false}
use Rattle.params.specs.declared.PipnnParams.{PipnnParams}
use Rattle.params.specs.Limits.{within_limits}
use Rattle.params.proofs.Laws.{Dimension, dimension, Capacity, capacity, Within, within}
use Rattle.store.specs.Layout.{header_size, words_size, floats_size}
use Rattle.store.specs.View.{empty_header}
use Rattle.pipnn.specs.New.{new_checks, new_words, new_floats}

pub sixteen_words : (d : ℕ) (p : PipnnParams) (c : ℕ) → length (empty_header d p c) ≡ header_size
unfolding empty_header
sixteen_words d p c = refl

module _ (d : ℕ) (p : PipnnParams) (c : ℕ) (w : List ℕ) (f : List Float) where
  pub record NewTaken : Type 0 where
    pub dimension : Dimension d
    pub limits : within_limits p ≡ true
    pub params : Within p
    pub capacity : Capacity c
    pub words : words_size c p.max_degree ≤ length w
    pub floats : floats_size c d ≤ length f

  pub new_taken : first_refusal (new_checks d p c w f) ≡ 0 → NewTaken
  unfolding new_checks
  new_taken e =
      let t = passes (new_checks d p c w f) (omega arith) e in
      let two = both_true _ _ (not-false _ t.1.0) in
      let three = both_false _ _ t.1.1.0 in
      record {
        dimension = dimension d (not-false _ t.0);
        limits = two.0;
        params = within p two.0;
        capacity = capacity c two.1;
        words = ltb-false _ _ three.0;
        floats = ltb-false _ _ three.1;
      }

  -- the header and zeros after it, as the code writes them: the header's words h, then zeros z in place of the part up to the size
  pub new_words_made : (size : ℕ) (h z : List ℕ) → size ≡ words_size c p.max_degree → size ≤ length w → h ≡ empty_header d p c ++ drop header_size w
      → z ≡ replicate (length (take (size - header_size) (drop header_size h))) 0 → put_mid header_size (size - header_size) h z ≡ new_words d p c w f
  unfolding new_words
  new_words_made size h z s l e g =
      let sixteen : length (empty_header d p c) ≡ header_size = sixteen_words d p c in
      let front : take header_size h ≡ empty_header d p c = ap (take header_size) e ∙ take_at (empty_header d p c) (drop header_size w) header_size sixteen in
      let back : drop header_size h ≡ drop header_size w = ap (drop header_size) e ∙ drop_at (empty_header d p c) (drop header_size w) header_size sixteen in
      let least : header_size ≤ size = omega arith in
      let many : length (take (size - header_size) (drop header_size w)) ≡ size - header_size = simp (length-take, length-drop) (omega arith) in
      let past : header_size + (size - header_size) ≡ size = omega arith in
      rw (front, g, back, many, drop-drop, past, s)

  pub new_floats_made : (size : ℕ) (z : List Float) → size ≡ floats_size c d → size ≤ length f → z ≡ replicate (length (take size f)) +zero
      → z ++ drop size f ≡ new_floats d p c w f
  unfolding new_floats
  new_floats_made size z s l e = rw (e, length-take-le size f l, s)
