-- What an add that is accepted has passed, and that what it writes is the definition's. Assumes nothing.
use mathlib.Core.Path.{◌≡◌, sym, ap, ◌∙◌}
use mathlib.Core.Bool.{true}
use mathlib.Core.List.{List, ◌++◌}
use Prim.Native.Nat.{ℕ, ◌+◌, ◌*◌, ◌≤◌, ◌<◌}
use native.Mathlib.Omega.{arith}
use lib.ListN.{length, take, drop}
use lib.Seq.{take_at, drop_at, drop-drop, length-take-le}
use lib.Ieee.{Float, binary32}
use lib.Ieee.Scale.{finite}
use borrow.Author.Tests.{eqb-true, eqb-false, not-false}
use borrow.Rule.Slice.PartMut.{put_mid}
use Rattle.basics.specs.Lists.{every}
use Rattle.basics.specs.Refusals.{first_refusal}
use Rattle.basics.proofs.Refusals.{passes, both_none}
use Rattle.std.proofs.Common.{None}
use Rattle.store.specs.Layout.{word, built_state, state_at, dimension_at, nodes_at, capacity_at, docs_at}
use Rattle.store.specs.Opening.{opening}
use Rattle.store.proofs.Sizes.{product_le}
use Rattle.store.proofs.Opened.{Opened, opened, opening_numbered}
use Rattle.norm.specs.Norm.{scaled_of}
use Rattle.pipnn.specs.Add.{own_checks, add_checks}

module _ (w : List ℕ) (f v : List Float) where
  pub record AddTaken : Type 0 where
    pub stores : Opened None w f
    pub state : word w state_at ≡ built_state → ⊥
    pub components : length v ≡ word w dimension_at
    pub numbers : every finite v ≡ true
    pub free : word w nodes_at < word w capacity_at
    pub doc : docs_at + word w nodes_at < length w
    pub vector : word w nodes_at * word w dimension_at + length v ≤ length f

  pub add_taken : first_refusal (add_checks w f v) ≡ 0 → AddTaken
  unfolding add_checks own_checks
  add_taken e =
      let lists = both_none (opening None w f) (own_checks w v) (opening_numbered None w f) e in
      let o : Opened None w f = opened None w f lists.0 in
      let t = passes (own_checks w v) (omega arith) lists.1 in
      let n = word w nodes_at in
      let d = word w dimension_at in
      let c = word w capacity_at in
      let other : n ≡ c → ⊥ = eqb-false _ _ t.1.1.1.0 in
      let few : n ≤ c = o.header.nodes in
      let less : n < c = omega (arith, other) in
      let same : length v ≡ d = eqb-true _ _ (not-false _ t.1.0) in
      record {
        stores = o;
        state = eqb-false _ _ t.0;
        components = same;
        numbers = not-false _ t.1.1.0;
        free = less;
        doc = omega (arith, o.room.docs);
        vector = omega (arith, product_le (n + 1) d c d (omega arith) (omega arith), o.floats);
      }

module _ (at k : ℕ) (f x : List Float) (fits : at + k ≤ length f) (full : length x ≡ k) where
  front : length (take at f) ≡ at
  front = length-take-le at f (omega arith)

  pub part_back : take k (drop at (put_mid at k f x)) ≡ x
  part_back = rw (drop_at (take at f) (x ++ drop k (drop at f)) at front) (take_at x (drop k (drop at f)) k full)

  pub put_again : (y : List Float) → put_mid at k (put_mid at k f x) y ≡ put_mid at k f y
  put_again y =
      let rest = drop k (drop at f) in
      rw (take_at (take at f) (x ++ rest) at front, drop_at (take at f) (x ++ rest) at front, drop_at x rest k full)

-- The vector copied to its place, then that place scaled: x is the part as copied, y as scaled.
pub scaled_put : (f v : List Float) (at k : ℕ) (x y : List Float) → k ≡ length v → at + length v ≤ length f
    → x ≡ v
    → y ≡ scaled_of binary32 (take k (drop at (put_mid at k f x)))
    → put_mid at k (put_mid at k f x) y ≡ take at f ++ (scaled_of binary32 v ++ drop (at + length v) f)
scaled_put f v at k x y e fits same scaled =
    let inside : at + k ≤ length f = omega arith in
    let full : length x ≡ k = ap length same ∙ sym e in
    let done : y ≡ scaled_of binary32 v = scaled ∙ ap (scaled_of binary32) (part_back at k f x inside full ∙ same) in
    put_again at k f x inside full y ∙ rw (done, drop-drop, e)
