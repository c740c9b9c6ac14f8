-- A node is remembered with its vector as stored, scaled at its add. To remember the vector as passed in, and to scale it where it is read, comes to
-- the same: `scaled_past` turns the one past into the other, before and after each accepted call alike. Assumes nothing.
use mathlib.Core.Path.{◌≡◌, refl, sym, ap}
use mathlib.Core.List.{List, [], ◌∷◌, map, map-append}
use Prim.Native.Nat.{ℕ}
use lib.Ieee.{Float, binary32}
use Rattle.norm.specs.Norm.{scaled_of}
use Rattle.theorems.specs.Calls.{Call, new, add, build, search_with_ef, search, Added, Index, Past, nothing, opened, built, with_node, accepted, vectors_of, docs_of}

-- after an accepted call, with vectors as passed in
unfoldable pub accepted_as_given : Call → Past → Past
unfolding accepted
accepted_as_given (new d p typed c) past = accepted (new d p typed c) past
accepted_as_given (add doc v) nothing = nothing
accepted_as_given (add doc v) (opened x) = opened (with_node doc v x)
accepted_as_given (add doc v) (built x) = built (with_node doc v x)
accepted_as_given (build ws fs) past = accepted (build ws fs) past
accepted_as_given (search_with_ef ws fs q k ef docs distances) past = past
accepted_as_given (search ws fs q k docs distances) past = past

-- the vectors, scaled where they are read
abbrev vectors_as_given : Index → List (List Float)
vectors_as_given x = map (λ (a : Added). scaled_of binary32 a.vector) x.nodes

-- ---- from the one to the other

abbrev scaled : Added → Added
scaled a = record { doc = a.doc; vector = scaled_of binary32 a.vector }

abbrev scaled_in : Index → Index
scaled_in x = record { dimension = x.dimension; params = x.params; capacity = x.capacity; nodes = map scaled x.nodes }

abbrev scaled_past : Past → Past
scaled_past nothing = nothing
scaled_past (opened x) = opened (scaled_in x)
scaled_past (built x) = built (scaled_in x)

with_node_lem : (doc : ℕ) (v : List Float) (x : Index) → with_node doc (scaled_of binary32 v) (scaled_in x) ≡ scaled_in (with_node doc v x)
with_node_lem doc v x =
    ap (λ (nodes : List Added). record { dimension = x.dimension; params = x.params; capacity = x.capacity; nodes = nodes })
    (sym (map-append scaled x.nodes (record { doc = doc; vector = v } ∷ [])))

pub accepted_same : (c : Call) (past : Past) → accepted c (scaled_past past) ≡ scaled_past (accepted_as_given c past)
unfolding accepted accepted_as_given
accepted_same (new d p typed c) past = refl
accepted_same (add doc v) nothing = refl
accepted_same (add doc v) (opened x) = ap opened (with_node_lem doc v x)
accepted_same (add doc v) (built x) = ap built (with_node_lem doc v x)
accepted_same (build ws fs) nothing = refl
accepted_same (build ws fs) (opened x) = refl
accepted_same (build ws fs) (built x) = refl
accepted_same (search_with_ef ws fs q k ef docs distances) past = refl
accepted_same (search ws fs q k docs distances) past = refl

module _ {A : Type 0} (f g : Added → A) (same : (a : Added) → f (scaled a) ≡ g a) where
  map_same : (l : List Added) → map f (map scaled l) ≡ map g l
  map_same [] = refl
  map_same (a ∷ l) = λ i. same a i ∷ map_same l i

pub vectors_same : (x : Index) → vectors_of (scaled_in x) ≡ vectors_as_given x
unfolding vectors_of
vectors_same x = map_same (λ a. a.vector) (λ a. scaled_of binary32 a.vector) (λ a. refl) x.nodes

pub docs_same : (x : Index) → docs_of (scaled_in x) ≡ docs_of x
unfolding docs_of
docs_same x = map_same (λ a. a.doc) (λ a. a.doc) (λ a. refl) x.nodes
