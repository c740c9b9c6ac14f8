-- Dealing puts each node into as many buckets as the fanout says, or into those of all leaders if there are fewer: any weight is multiplied by that
-- number. Assumes nothing.
use mathlib.Core.Path.{◌≡◌, refl, sym, ap, ◌∙◌}
use mathlib.Core.Bool.{Bool, true, false}
use mathlib.Core.List.{List, [], ◌∷◌, map}
use Prim.Native.Nat.{ℕ, ◌+◌, ◌*◌, min}
use native.Mathlib.Omega.{arith}
use native.Mathlib.Nat.{add-mul, mul-add}
use lib.ListN.{length, length-take}
use lib.Ieee.{Float}
use Rattle.basics.specs.Choice.{pick}
use Rattle.basics.specs.Lists.{keep}
use Rattle.basics.specs.Nodes.{has, NoDup, Below}
use Rattle.basics.proofs.Counting.{has_in, in_has, shorter}
use Rattle.basics.proofs.Members.{in_take, nodup_take}
use Rattle.basics.proofs.Keeping.{in_keep, keep_in, nodup_keep}
use Rattle.sorting.proofs.Laws.{in_sort, length_sort, sort_nodup}
use Rattle.random.specs.Leaders.{up_to}
use Rattle.random.proofs.leaders.Draws.{length-up_to}
use Rattle.random.proofs.leaders.Positions.{in_up_to, up_to_below, nodup_up_to}
use Rattle.def_graph.specs.Partition.{nearest_leaders, dealt}
use Rattle.def_graph.specs.Inside.Occurrences.{weigh, weigh_all}

-- of the numbers below m as many are in a list of different ones of them as it has
members : (m : ℕ) (l : List ℕ) → NoDup l → Below m l → length (keep (λ (x : ℕ). has x l) (up_to m)) ≡ length l
members m l d b =
    let few = shorter (keep (λ (x : ℕ). has x l) (up_to m)) l (nodup_keep (λ (x : ℕ). has x l) (up_to m) (nodup_up_to m))
    (λ x i. has_in x l (in_keep (λ (y : ℕ). has y l) (up_to m) i).0) in
    let many = shorter l (keep (λ (x : ℕ). has x l) (up_to m)) d (λ x i. keep_in (λ (y : ℕ). has y l) (up_to m) (in_has i) (in_up_to m x (b x i))) in
    omega arith

-- ---- a node's nearest leaders

module _ (vs : List (List Float)) (fan : ℕ) (leaders : List ℕ) (id : ℕ) where
  nearest_nodup : NoDup (nearest_leaders vs fan leaders id)
  unfolding nearest_leaders
  nearest_nodup = nodup_take fan _ (sort_nodup _ (up_to (length leaders)) (nodup_up_to (length leaders)))

  pub nearest_below : Below (length leaders) (nearest_leaders vs fan leaders id)
  unfolding nearest_leaders
  nearest_below x m = up_to_below (length leaders) x (in_sort _ (up_to (length leaders)) (in_take fan _ m))

  pub nearest_length : length (nearest_leaders vs fan leaders id) ≡ min fan (length leaders)
  unfolding nearest_leaders
  nearest_length = length-take fan _ ∙ ap (min fan) (length_sort _ (up_to (length leaders)) ∙ length-up_to (length leaders))

  -- how many buckets the node goes to
  goes_to : length (keep (λ (l : ℕ). has l (nearest_leaders vs fan leaders id)) (up_to (length leaders))) ≡ min fan (length leaders)
  goes_to = members (length leaders) (nearest_leaders vs fan leaders id) nearest_nodup nearest_below ∙ nearest_length

-- ---- weights

module _ (w : ℕ → ℕ) where
  kept_weight : (b : Bool) (x : ℕ) (l : List ℕ) → weigh w (pick b (x ∷ l) l) ≡ pick b 1 0 * w x + weigh w l
  unfolding pick
  kept_weight true x l = omega arith
  kept_weight false x l = omega arith

  kept-length : (b : Bool) (x : ℕ) (l : List ℕ) → length (pick b (x ∷ l) l) ≡ pick b 1 0 + length l
  unfolding pick
  kept-length true x l = omega arith
  kept-length false x l = omega arith

  -- one bucket more
  bucket_weight : (test : ℕ → Bool) (count count' : ℕ → ℕ) → ((x : ℕ) → count' x ≡ pick (test x) 1 0 + count x) → (ids : List ℕ)
      → weigh w (keep test ids) + weigh (λ (x : ℕ). count x * w x) ids ≡ weigh (λ (x : ℕ). count' x * w x) ids
  unfolding keep
  bucket_weight test count count' more [] = refl
  bucket_weight test count count' more (x ∷ ids) =
      let rec = bucket_weight test count count' more ids in
      let e = kept_weight (test x) x (keep test ids) in
      let d = ap (λ (c : ℕ). c * w x) (more x) ∙ add-mul (pick (test x) 1 0) (count x) (w x) in
      omega arith

  no_weight : (ids : List ℕ) → weigh (λ (x : ℕ). 0 * w x) ids ≡ 0
  no_weight [] = refl
  no_weight (x ∷ ids) = let r = no_weight ids in omega arith

  buckets_weight : (test : ℕ → ℕ → Bool) (ids ls : List ℕ)
      → weigh_all w (map (λ (l : ℕ). keep (test l) ids) ls)
      ≡ weigh (λ (x : ℕ). length (keep (λ (l : ℕ). test l x) ls) * w x) ids
  unfolding keep
  buckets_weight test ids [] = sym (no_weight ids)
  buckets_weight test ids (l ∷ ls) =
      ap (λ (k : ℕ). weigh w (keep (test l) ids) + k) (buckets_weight test ids ls)
      ∙ bucket_weight (test l) (λ x. length (keep (λ (k : ℕ). test k x) ls)) (λ x. length (keep (λ (k : ℕ). test k x) (l ∷ ls)))
      (λ x. kept-length (test l x) l (keep (λ (k : ℕ). test k x) ls)) ids

  same_weight : (count : ℕ → ℕ) (k : ℕ) → ((x : ℕ) → count x ≡ k) → (ids : List ℕ) → weigh (λ (x : ℕ). count x * w x) ids ≡ k * weigh w ids
  same_weight count k same [] = omega arith
  same_weight count k same (x ∷ ids) =
      let rec = same_weight count k same ids in
      let e = ap (λ (c : ℕ). c * w x) (same x) in
      let d = mul-add k (w x) (weigh w ids) in
      omega arith

  pub dealt_weight : (vs : List (List Float)) (fan : ℕ) (leaders ids : List ℕ)
      → weigh_all w (dealt vs fan leaders ids) ≡ min fan (length leaders) * weigh w ids
  unfolding dealt
  dealt_weight vs fan leaders ids =
      buckets_weight (λ l id. has l (nearest_leaders vs fan leaders id)) ids (up_to (length leaders))
      ∙ same_weight (λ id. length (keep (λ (l : ℕ). has l (nearest_leaders vs fan leaders id)) (up_to (length leaders)))) (min fan (length leaders))
      (goes_to vs fan leaders) ids
