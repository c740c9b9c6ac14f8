-- How a candidate comes to its cell: it belongs behind the hashes below its own, and there it meets the cell that has its hash, or a new cell is put.
-- Assumes nothing.
use mathlib.Core.Path.{◌≡◌, refl, sym, ap, ◌∙◌, subst}
use mathlib.Core.Bool.{Bool, true, false}
use mathlib.Core.Logic.{inl, inr}
use mathlib.Core.List.{List, [], ◌∷◌, ◌++◌, map, map-map}
use mathlib.Core.List.Memᴰ.{append_cases as in-cases}
use mathlib.Core.List.Memᴰ.{eq_of_singleton as in_one}
use mathlib.Core.List.Memᴰ.{not-nil as in-nil}
use mathlib.Core.List.{Memᴰ as In}
use Prim.Native.Nat.{ℕ, zero, suc, ◌+◌, ◌≤◌, ◌<◌}
use native.Mathlib.Numerals.{add-one}
use native.Mathlib.Omega.{arith}
use borrow.Author.Tests.{lt-ltb, le-ltb, eq-eqb, ne_eqb, leb-true, leb-false}
use lib.Arith.{lt_of_le-ne}
use lib.Dec.{leb}
use lib.ListN.{length, get_or, set, length-map, get_or-map}
use lib.Ieee.{Float, lt}
use Rattle.std.specs.List.{position, position_or_len}
use Rattle.std.specs.Prelude.{nat_lt, insert}
use Rattle.std.specs.Option.{unwrap_or}
use borrow.Author.Tests.{ltb-false}
use Rattle.std.proofs.lemmas.List.Sums.{fails_before_first, passes_at_first, prefix_len-le-length}
use Rattle.basics.specs.Choice.{pick, pick_true, pick_false}
use Rattle.basics.specs.Nodes.{Below}
use Rattle.basics.proofs.Members.{in_get_d}
use Rattle.def_graph.specs.Leaf.{Cell, nodes_in, put_cell, cells_from}
use Rattle.def_graph.proofs.leaf.Cells.{cells_in_lem}
use Rattle.hashprune.specs.declared.Candidate.{Candidate}
use Rattle.hashprune.specs.declared.Cell.{Cell as Taken}
use Rattle.hashprune.specs.Inside.Steps.{no_cell, place_in, cell_in, cells_in, far_at, winner, first_places}

-- ---- where a hash belongs

position_len : {A : Type 0} (p : A → Bool) (xs : List A) → unwrap_or (position p xs) (length xs) ≡ position_or_len p xs
position_len p xs = go (nat_lt (position_or_len p xs) (length xs)) refl
  where
    go : (t : Bool) → nat_lt (position_or_len p xs) (length xs) ≡ t
        → unwrap_or (mathlib.Core.Bool.cond t (Rattle.std.specs.Prelude.Some (position_or_len p xs)) Rattle.std.specs.Prelude.None) (length xs) ≡ position_or_len p xs
    go true e = refl
    go false e = omega (arith, ltb-false (position_or_len p xs) (length xs) e, prefix_len-le-length (λ x. mathlib.Core.Bool.not (p x)) xs)

-- ---- one candidate comes

module _ (far : ℕ → Float) (new d : Cell) where
  -- to no cell that is there
  put_new : (cells : List Cell) (j : ℕ) → j ≤ length cells → ((k : ℕ) → k < j → (get_or cells k d).hash < new.hash)
      → (j < length cells → new.hash < (get_or cells j d).hash) → put_cell far new cells ≡ insert cells j new
  unfolding put_cell
  put_new [] zero h b n = refl
  put_new [] (suc j) h b n = absurd (omega arith)
  put_new (c ∷ cells) zero h b n = pick_true _ _ (lt-ltb new.hash c.hash (n (omega arith)))
  put_new (c ∷ cells) (suc j) h b n =
      let less : c.hash < new.hash = b 0 (omega arith) in
      pick_false _ _ (le-ltb new.hash c.hash (omega arith))
      ∙ pick_false _ _ (ne_eqb new.hash c.hash (λ e. omega arith))
      ∙ ap (λ (l : List Cell). c ∷ l) (put_new cells j (omega arith) (λ k g. b (suc k) (omega arith)) (λ k. n (omega arith)))

  -- to the cell that has its hash
  put_taken : (cells : List Cell) (j : ℕ) → j < length cells → ((k : ℕ) → k < j → (get_or cells k d).hash < new.hash) → (get_or cells j d).hash ≡ new.hash
      → put_cell far new cells ≡ set cells j (pick (lt (far new.node) (far (get_or cells j d).node)) new (get_or cells j d))
  unfolding put_cell
  put_taken [] j h b e = absurd (omega arith)
  put_taken (c ∷ cells) zero h b e =
      pick_false _ _ (le-ltb new.hash c.hash (omega arith)) ∙ pick_true _ _ (eq-eqb new.hash c.hash (sym e))
  put_taken (c ∷ cells) (suc j) h b e =
      let less : c.hash < new.hash = b 0 (omega arith) in
      pick_false _ _ (le-ltb new.hash c.hash (omega arith))
      ∙ pick_false _ _ (ne_eqb new.hash c.hash (λ e. omega arith))
      ∙ ap (λ (l : List Cell). c ∷ l) (put_taken cells j (omega arith) (λ k g. b (suc k) (omega arith)) e)

-- ---- lists

map_set : {A B : Type 0} (f : A → B) (xs : List A) (j : ℕ) (v : A) → map f (set xs j v) ≡ set (map f xs) j (f v)
map_set f [] j v = refl
map_set f (x ∷ xs) zero v = refl
map_set f (x ∷ xs) (suc j) v = ap (λ l. f x ∷ l) (map_set f xs j v)

map_inserted : {A B : Type 0} (f : A → B) (xs : List A) (j : ℕ) (v : A) → map f (insert xs j v) ≡ insert (map f xs) j (f v)
map_inserted f xs zero v = refl
map_inserted f [] (suc j) v = refl
map_inserted f (x ∷ xs) (suc j) v = ap (λ l. f x ∷ l) (map_inserted f xs j v)

pick_place : (t : Bool) (h a b : ℕ) → cell_in (record { hash = h; place = pick t a b }) ≡ pick t (cell_in (record { hash = h; place = a })) (cell_in (record { hash = h; place = b }))
unfolding pick
pick_place true h a b = refl
pick_place false h a b = refl

module _ (candidates : List Candidate) (new : Taken) (cells : List Taken) (at : ℕ)
    (found : at ≡ unwrap_or (position (λ (c : Taken). leb new.hash c.hash) cells) (length cells)) where
  abbrev far : ℕ → Float
  far = far_at candidates

  abbrev none : Cell
  none = cell_in no_cell

  is : at ≡ position_or_len (λ (c : Taken). leb new.hash c.hash) cells
  is = found ∙ position_len (λ (c : Taken). leb new.hash c.hash) cells

  pub at_within : at ≤ length cells
  at_within = omega (arith, is, prefix_len-le-length (λ (c : Taken). mathlib.Core.Bool.not (leb new.hash c.hash)) cells)

  many : length (cells_in cells) ≡ length cells
  many = length-map cells cell_in

  read : (k : ℕ) → get_or (cells_in cells) k none ≡ cell_in (get_or cells k no_cell)
  read k = get_or-map cell_in cells k no_cell

  -- all before it are below its hash
  before : (k : ℕ) → k < at → (get_or (cells_in cells) k none).hash < new.hash
  before k h =
      let fails = fails_before_first (λ (c : Taken). leb new.hash c.hash) cells k no_cell (subst (λ (j : ℕ). k < j) is h) in
      let less : (get_or cells k no_cell).hash < new.hash = leb-false _ _ fails in
      subst (λ (c : Cell). c.hash < new.hash) (sym (read k)) less

  -- the one there is not
  here : at < length cells → new.hash ≤ (get_or cells at no_cell).hash
  here h =
      let passes = passes_at_first (λ (c : Taken). leb new.hash c.hash) cells no_cell (omega (arith, is)) in
      let more = leb-true _ _ passes in
      subst (λ (c : Taken). new.hash ≤ c.hash) (ap (λ (j : ℕ). get_or cells j no_cell) (sym is)) more

  -- its hash is there
  pub taken_cells : (cells' : List Taken) → at < length cells → (get_or cells at no_cell).hash ≡ new.hash
      → cells' ≡ set cells at (winner candidates new.place (get_or cells at no_cell)) → cells_in cells' ≡ put_cell far (cell_in new) (cells_in cells)
  taken_cells cells' h same e =
      let old : Taken = get_or cells at no_cell in
      let won : Bool = lt (far new.place) (far old.place) in
      ap cells_in e
      ∙ map_set cell_in cells at (winner candidates new.place old)
      ∙ ap (set (cells_in cells) at) (pick_place won old.hash new.place old.place ∙ ap (λ (k : ℕ). pick won (cell_in (record { hash = k; place = new.place })) (cell_in old)) same)
      ∙ ap (λ (c : Cell). set (cells_in cells) at (pick (lt (far new.place) (far c.node)) (cell_in new) c)) (sym (read at))
      ∙ sym (put_taken far (cell_in new) none (cells_in cells) at (omega (arith, many)) before (ap (λ (c : Cell). c.hash) (read at) ∙ same))

  -- it is not
  pub new_cells : (cells' : List Taken) → (at < length cells → (get_or cells at no_cell).hash ≡ new.hash → ⊥)
      → cells' ≡ insert cells at new → cells_in cells' ≡ put_cell far (cell_in new) (cells_in cells)
  new_cells cells' other e =
      ap cells_in e
      ∙ map_inserted cell_in cells at new
      ∙ sym (put_new far (cell_in new) none (cells_in cells) at (omega (arith, many, at_within)) before (λ k.
      let h : at < length cells = omega (arith, many) in
      subst (λ (c : Cell). new.hash < c.hash) (sym (read at)) (lt_of_le-ne (here h) (λ q. other h (sym q)))))

  -- the place that holds the cell is among those held
  pub holder_inside : (m : ℕ) → Below m (map place_in cells) → at < length cells → place_in (get_or cells at no_cell) < m
  holder_inside m b h =
      subst (λ (x : ℕ). x < m) (get_or-map place_in cells at no_cell)
      (b _ (in_get_d (map place_in cells) at 0 (omega (arith, length-map cells place_in))))

-- ---- all candidates come

pub places_below : (i x : ℕ) → In x (first_places i) → x < i
unfolding first_places
places_below zero x m = absurd (in-nil m)
places_below (suc i) x m = elim (in-cases (first_places i) m) [
  | inl n ↦ let k = places_below i x n in omega arith
  | inr n ↦ let e = in_one n in omega arith
]

module _ (far : ℕ → Float) (hash : ℕ → ℕ) where
  cells_snoc : (cs : List Cell) (xs : List ℕ) (x : ℕ)
      → cells_from far hash cs (xs ++ (x ∷ [])) ≡ put_cell far (record { hash = hash x; node = x }) (cells_from far hash cs xs)
  unfolding cells_from
  cells_snoc cs [] x = refl
  cells_snoc cs (y ∷ xs) x = cells_snoc (put_cell far (record { hash = hash y; node = y }) cs) xs x

  -- places that hold cells are places that came
  pub cells_below : (i : ℕ) → Below i (nodes_in (cells_from far hash [] (first_places i)))
  cells_below i x m = elim (cells_in_lem far hash x [] (first_places i) m) [ inl n ↦ absurd (in-nil n) | inr n ↦ places_below i x n ]

  -- the first i have come, and these are the cells
  pub record Came (i : ℕ) (cells : List Taken) : Type 0 where
    pub few : length cells ≤ i
    pub cells_are : cells_in cells ≡ cells_from far hash [] (first_places i)

  pub came_none : Came 0 []
  unfolding cells_from first_places
  came_none = record { few = omega arith; cells_are = refl }

  pub came_more : (i h : ℕ) (cells cells' : List Taken) → Came i cells → h ≡ hash i → length cells' ≤ length cells + 1
      → cells_in cells' ≡ put_cell far (cell_in (record { hash = h; place = i })) (cells_in cells) → Came (i + 1) cells'
  unfolding first_places
  came_more i h cells cells' c e n q = record {
    few = omega (arith, c.few, n);
    cells_are = q ∙ rw (e, c.cells_are, add-one) (sym (cells_snoc [] (first_places i) i));
  }

  -- the places that hold them
  pub places_are : (cells : List Taken) (all : List Cell) → cells_in cells ≡ all → map place_in cells ≡ nodes_in all
  places_are cells all e = sym (map-map (λ (c : Cell). c.node) cell_in cells) ∙ ap nodes_in e

  pub came_below : (i : ℕ) (cells : List Taken) → Came i cells → Below i (map place_in cells)
  came_below i cells c x m = cells_below i x (rw (places_are cells _ c.cells_are) at m)
