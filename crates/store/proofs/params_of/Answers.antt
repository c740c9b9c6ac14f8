-- Field by field. Assumes nothing.
use mathlib.Core.Path.{ap, ap₂, ◌∙◌}
use Prim.Native.Nat.{ℕ, ◌+◌, ◌*◌}
use lib.Dec.{eqb}
use lib.Ieee.{binary32, binary64, of_bits}
use Rattle.store.specs.View.{params_of}
use Rattle.store.proofs.params_of.Goals as goal

pub returns : goal.returns
unfolding params_of
returns c = λ i. record {
  max_leaf_size = c.word_at.ensures i;
  min_leaf_size = c.word_at-2.ensures i;
  leader_fraction = (c.f64_from_bits_with_nan.ensures ∙ ap₂ (λ (h l : ℕ). of_bits binary64 (h * 4294967296 + l)) c.word_at-high.ensures c.word_at-low.ensures) i;
  max_degree = c.word_at-3.ensures i;
  num_hash_bits = c.word_at-4.ensures i;
  final_prune = eqb (c.word_at-5.ensures i) 1;
  alpha = (c.f32_from_bits_with_nan.ensures ∙ ap (of_bits binary32) c.word_at-6.ensures) i;
  ef_search = c.word_at-7.ensures i;
}
