-- Gathering moves nodes between buckets and loses none: any weight stays. Assumes nothing.
use mathlib.Core.Path.{◌≡◌, refl}
use mathlib.Core.List.{List, [], ◌∷◌, ◌++◌}
use Prim.Native.Nat.{ℕ, ◌+◌}
use native.Mathlib.Omega.{arith}
use lib.Dec.{leb, eqb, eqb→eq}
use lib.ListN.{length}
use Rattle.basics.specs.Choice.{pick_ind}
use Rattle.def_graph.specs.Partition.{Gathered, gather_one, gather_all, onto_last, gathered}
use Rattle.def_graph.specs.Inside.Occurrences.{weigh, weigh_all}

module _ (w : ℕ → ℕ) where
  pub weigh_append : (a b : List ℕ) → weigh w (a ++ b) ≡ weigh w a + weigh w b
  weigh_append [] b = omega arith
  weigh_append (x ∷ a) b = let r = weigh_append a b in omega arith

  pub weigh_all_append : (a b : List (List ℕ)) → weigh_all w (a ++ b) ≡ weigh_all w a + weigh_all w b
  weigh_all_append [] b = omega arith
  weigh_all_append (x ∷ a) b = let r = weigh_all_append a b in omega arith

  -- of what is placed and what has gathered
  abbrev pub held : Gathered → ℕ
  held g = weigh_all w g.placed + weigh w g.small

  one_weight : (minLeaf : ℕ) (g : Gathered) (bucket : List ℕ) → held (gather_one minLeaf g bucket) ≡ held g + weigh w bucket
  unfolding gather_one
  one_weight minLeaf g bucket =
      let joined = weigh_append g.small bucket in
      let placed = weigh_all_append g.placed (bucket ∷ []) in
      let placed-joined = weigh_all_append g.placed ((g.small ++ bucket) ∷ []) in
      pick_ind (λ (r : Gathered). held r ≡ held g + weigh w bucket) (leb minLeaf (length bucket)) (λ _. omega arith)
      (λ _. pick_ind (λ (r : Gathered). held r ≡ held g + weigh w bucket) (leb minLeaf (length (g.small ++ bucket))) (λ _. omega arith) (λ _. omega arith))

  pub all_weight : (minLeaf : ℕ) (g : Gathered) (buckets : List (List ℕ)) → held (gather_all minLeaf g buckets) ≡ held g + weigh_all w buckets
  unfolding gather_all
  all_weight minLeaf g [] = omega arith
  all_weight minLeaf g (bucket ∷ buckets) =
      let r = all_weight minLeaf (gather_one minLeaf g bucket) buckets in
      omega (arith, one_weight minLeaf g bucket)

  last_weight : (buckets : List (List ℕ)) (rest : List ℕ) → weigh_all w (onto_last buckets rest) ≡ weigh_all w buckets + weigh w rest
  unfolding onto_last
  last_weight [] rest = omega arith
  last_weight (b ∷ []) rest = omega (arith, weigh_append b rest)
  last_weight (b ∷ c ∷ buckets) rest = let r = last_weight (c ∷ buckets) rest in omega arith

  nothing : (l : List ℕ) → length l ≡ 0 → weigh w l ≡ 0
  nothing [] e = refl
  nothing (x ∷ l) e = absurd (omega arith)

  pub gathered_weight : (minLeaf : ℕ) (buckets : List (List ℕ)) → weigh_all w (gathered minLeaf buckets) ≡ weigh_all w buckets
  unfolding gathered
  gathered_weight minLeaf buckets =
      let g : Gathered = gather_all minLeaf (record { placed = []; small = [] }) buckets in
      let all = all_weight minLeaf (record { placed = []; small = [] }) buckets in
      pick_ind (λ (r : List (List ℕ)). weigh_all w r ≡ weigh_all w buckets) (eqb (length g.small) 0)
      (λ t. omega (arith, all, nothing g.small (eqb→eq (length g.small) 0 t)))
      (λ _. omega (arith, all, last_weight g.placed g.small))
