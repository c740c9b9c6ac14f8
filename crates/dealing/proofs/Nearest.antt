-- The nearest leaders as `keep_first` finds them: each leader is offered with its rank, in the order of drawing. Assumes nothing.
use mathlib.Core.Path.{◌≡◌, refl, sym, ap, ◌∙◌}
use mathlib.Core.List.{List, [], ◌∷◌, ◌++◌, map, map-append, map-map, map-id}
use Prim.Native.Nat.{ℕ, ◌+◌, ◌≤◌}
use native.Mathlib.Numerals.{add-one}
use native.Mathlib.Omega.{arith}
use lib.ListN.{length, get_or, take, length-map}
use lib.Seq.{take_all, take_at}
use lib.Ieee.{Float}
use Rattle.distance.specs.Vectors.{rank}
use Rattle.random.specs.Leaders.{up_to}
use Rattle.random.proofs.leaders.Draws.{length-up_to}
use Rattle.sorting.specs.declared.Keyed.{Keyed}
use Rattle.sorting.specs.Sorting.{first_by}
use Rattle.sorting.specs.Inside.Pairs.{key_in, id_in, kept_pairs, put_front}
use Rattle.sorting.proofs.Laws.{length_first, first_map}
use Rattle.sorting.proofs.Pairs.{none_kept, kept_are}
use Rattle.def_graph.specs.Partition.{nearest_leaders}

module _ (vs : List (List Float)) (leaders : List ℕ) (id : ℕ) where
  -- a leader's number, with its rank
  abbrev offer : ℕ → Keyed
  offer l = record { key = rank vs id (get_or leaders l 0); id = l }

  abbrev pub offered : ℕ → List Keyed
  offered l = map offer (up_to l)

  offered_more : (l : ℕ) → offered (l + 1) ≡ offered l ++ (offer l ∷ [])
  unfolding up_to
  offered_more l = ap offered (add-one l) ∙ map-append offer (up_to l) (l ∷ [])

  -- the first `held` of m pairs are the nearest of the first l leaders
  pub record Found (m l held : ℕ) (found : List Keyed) : Type 0 where
    pub held_is : held ≡ length (first_by key_in m (offered l))
    pub pairs_are : take held found ≡ first_by key_in m (offered l)

  pub found_none : (found : List Keyed) → Found (length found) 0 0 found
  unfolding up_to
  found_none found = record { held_is = sym (length_first key_in (length found) [] ∙ omega arith); pairs_are = none_kept (length found) found }

  pub found_more : (m l held : ℕ) (found : List Keyed) → length found ≡ m → Found m l held found
      → (key r : ℕ) (found' : List Keyed) → key ≡ rank vs id (get_or leaders l 0)
      → (r ≡ length (kept_pairs held (record { key = key; id = l }) found)) × (found' ≡ put_front (kept_pairs held (record { key = key; id = l }) found) found)
      → Found m (l + 1) r found'
  found_more m l held found size f key r found' e k =
      let pair : Keyed = record { key = key; id = l } in
      let kept : take r found' ≡ first_by key_in m (offered (l + 1))
      = kept_are held r pair found found' (offered l) k (f.pairs_are ∙ ap (λ (n : ℕ). first_by key_in n (offered l)) (sym size))
      ∙ (λ i. first_by key_in (size i) (offered l ++ ((record { key = e i; id = l }) ∷ [])))
      ∙ ap (first_by key_in m) (sym (offered_more l)) in
      let put : take r found' ≡ kept_pairs held pair found
      = (λ i. take (k.0 i) (k.1 i)) ∙ take_at (kept_pairs held pair found) _ (length (kept_pairs held pair found)) refl in
      record { held_is = k.0 ∙ ap length (sym put ∙ kept); pairs_are = kept }

  pub found_done : (m l held : ℕ) (found : List Keyed) → Found m l held found → length found ≡ m → l ≡ length leaders → m ≤ length leaders
      → map id_in found ≡ nearest_leaders vs m leaders id
  unfolding nearest_leaders
  found_done m l held found f size all few =
      ap (map id_in) (sym (take_all held found (omega (arith, whole))) ∙ f.pairs_are ∙ ap (λ (k : ℕ). first_by key_in m (offered k)) all ∙ first_map key_in offer m (up_to (length leaders)))
      ∙ map-map id_in offer nearest
      ∙ map-id nearest
    where
      nearest : List ℕ
      nearest = first_by (λ (k : ℕ). rank vs id (get_or leaders k 0)) m (up_to (length leaders))

      whole : held ≡ m
      whole = f.held_is ∙ length_first key_in m (offered l) ∙ omega (arith, length-map (up_to l) offer, length-up_to l)
