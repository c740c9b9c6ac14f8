-- What the limits say of each parameter. Assumes nothing.
use mathlib.Core.Path.{◌≡◌}
use mathlib.Core.Bool.{true}
use Prim.Native.Nat.{ℕ, ◌≤◌}
use lib.Ieee.{le}
use lib.Ieee.Scale.{finite}
use borrow.Author.Tests.{leb-true}
use Rattle.basics.specs.Sum.{+zero, +one}
use Rattle.basics.proofs.Tests.{both_true}
use Rattle.params.specs.declared.PipnnParams.{PipnnParams}
use Rattle.params.specs.Limits.{most_dimension, most_capacity, most_leaf_size, most_min_leaf_size, most_degree, most_hash_bits, most_ef, dimension_within, capacity_within, within_limits}

pub record Dimension (d : ℕ) : Type 0 where
  pub least : 1 ≤ d
  pub most : d ≤ most_dimension

pub dimension : (d : ℕ) → dimension_within d ≡ true → Dimension d
dimension d h = let t = both_true _ _ h in record { least = leb-true _ _ t.0; most = leb-true _ _ t.1 }

pub record Capacity (c : ℕ) : Type 0 where
  pub least : 1 ≤ c
  pub most : c ≤ most_capacity

pub capacity : (c : ℕ) → capacity_within c ≡ true → Capacity c
capacity c h = let t = both_true _ _ h in record { least = leb-true _ _ t.0; most = leb-true _ _ t.1 }

pub record Within (p : PipnnParams) : Type 0 where
  pub leaf_least : 1 ≤ p.max_leaf_size
  pub leaf_most : p.max_leaf_size ≤ most_leaf_size
  pub min_leaf_most : p.min_leaf_size ≤ most_min_leaf_size
  pub fraction_least : le +zero p.leader_fraction ≡ true
  pub fraction_most : le p.leader_fraction +one ≡ true
  pub degree_most : p.max_degree ≤ most_degree
  pub hash_bits_most : p.num_hash_bits ≤ most_hash_bits
  pub alpha_finite : finite p.alpha ≡ true
  pub ef_most : p.ef_search ≤ most_ef

pub within : (p : PipnnParams) → within_limits p ≡ true → Within p
unfolding within_limits
within p h =
    let t8 = both_true _ _ h in
    let t7 = both_true _ _ t8.0 in
    let t6 = both_true _ _ t7.0 in
    let t5 = both_true _ _ t6.0 in
    let t4 = both_true _ _ t5.0 in
    let t3 = both_true _ _ t4.0 in
    let t2 = both_true _ _ t3.0 in
    let t1 = both_true _ _ t2.0 in
    record {
      leaf_least = leb-true _ _ t1.0;
      leaf_most = leb-true _ _ t1.1;
      min_leaf_most = leb-true _ _ t2.1;
      fraction_least = t3.1;
      fraction_most = t4.1;
      degree_most = leb-true _ _ t5.1;
      hash_bits_most = leb-true _ _ t6.1;
      alpha_finite = t7.1;
      ef_most = leb-true _ _ t8.1;
    }
