-- What a well-formed header says of each word. Assumes nothing.
use mathlib.Core.Path.{◌≡◌}
use mathlib.Core.Logic.{◌⊎◌, inl, inr, ⊎_elim}
use mathlib.Core.Bool.{true}
use mathlib.Core.List.{List}
use Prim.Native.Nat.{ℕ, ◌≤◌, ◌<◌}
use native.Mathlib.Omega.{arith}
use borrow.Author.Tests.{leb-true, ltb-true, eqb-true}
use Rattle.basics.proofs.Tests.{both_true, one_true}
use Rattle.params.specs.Limits.{most_degree}
use Rattle.params.proofs.Laws.{Dimension, dimension, Capacity, capacity, Within, within}
use Rattle.store.specs.Layout.{word, open_state, built_state, state_at, dimension_at, nodes_at, degree_at, final_prune_at, entry_at, bridge_count_at, capacity_at, zero_at}
use Rattle.store.specs.View.{params_of}
use Rattle.store.specs.WellFormed.{open_ok, built_ok, header_ok}

pub record Open (w : List ℕ) : Type 0 where
  pub state : word w state_at ≡ open_state
  pub entry : word w entry_at ≡ 0
  pub bridges : word w bridge_count_at ≡ 0

pub record Built (w : List ℕ) : Type 0 where
  pub state : word w state_at ≡ built_state
  pub nodes : 1 ≤ word w nodes_at
  pub entry : word w entry_at < word w nodes_at
  pub bridges : word w bridge_count_at < word w nodes_at

pub record Header (w : List ℕ) : Type 0 where
  pub params : Within (params_of w)
  pub dimension : Dimension (word w dimension_at)
  pub capacity : Capacity (word w capacity_at)
  pub degree : word w degree_at ≤ most_degree
  pub final : word w final_prune_at ≤ 1
  pub zero : word w zero_at ≡ 0
  pub nodes : word w nodes_at ≤ word w capacity_at
  pub bridges : word w bridge_count_at ≤ word w nodes_at
  pub state : Open w ⊎ Built w

open_header : (w : List ℕ) → open_ok w ≡ true → Open w
open_header w h =
    let t2 = both_true _ _ h in
    let t1 = both_true _ _ t2.0 in
    record { state = eqb-true _ _ t1.0; entry = eqb-true _ _ t1.1; bridges = eqb-true _ _ t2.1 }

built_header_lem : (w : List ℕ) → built_ok w ≡ true → Built w
built_header_lem w h =
    let t3 = both_true _ _ h in
    let t2 = both_true _ _ t3.0 in
    let t1 = both_true _ _ t2.0 in
    record { state = eqb-true _ _ t1.0; nodes = leb-true _ _ t1.1; entry = ltb-true _ _ t2.1; bridges = ltb-true _ _ t3.1 }

pub header : (w : List ℕ) → header_ok w ≡ true → Header w
unfolding header_ok params_of
header w h =
    let t6 = both_true _ _ h in
    let t5 = both_true _ _ t6.0 in
    let t4 = both_true _ _ t5.0 in
    let t3 = both_true _ _ t4.0 in
    let t2 = both_true _ _ t3.0 in
    let t1 = both_true _ _ t2.0 in
    let limits : Within (params_of w) = within (params_of w) t1.0 in
    let state : Open w ⊎ Built w = ⊎_elim (λ o. inl (open_header w o)) (λ b. inr (built_header_lem w b)) (one_true (open_ok w) (built_ok w) t6.1) in
    record {
      params = limits;
      dimension = dimension (word w dimension_at) t1.1;
      capacity = capacity (word w capacity_at) t2.1;
      degree = limits.degree_most;
      final = leb-true _ _ t3.1;
      zero = eqb-true _ _ t4.1;
      nodes = leb-true _ _ t5.1;
      bridges = ⊎_elim (λ o. omega arith) (λ b. omega arith) state;
      state = state;
    }
