-- Stores that agree up to their sizes are opened and read alike: every check that a call begins with reads the header's words, the lengths, or
-- what lies within the sizes, and so does the view. Assumes nothing.
use mathlib.Core.Path.{◌≡◌, refl, sym, ap, ap₂, ◌∙◌}
use mathlib.Core.Bool.{Bool, true, false, ◌||◌, ◌&&◌}
use mathlib.Core.List.{List, ◌++◌}
use Prim.Native.Nat.{ℕ, ◌+◌, ◌*◌, ◌≤◌, ◌<◌}
use native.Mathlib.Omega.{arith}
use borrow.Author.Tests.{le-ltb}
use lib.Dec.{ltb, leb, eqb}
use lib.ListN.{length, take, drop}
use lib.Ieee.{Float}
use Rattle.basics.specs.Lists.{pieces}
use Rattle.basics.specs.Refusals.{Check, first_refusal}
use Rattle.std.specs.Prelude.{Option}
use Rattle.store.specs.declared.Scratch.{Scratch}
use Rattle.store.specs.Layout.{word, header_size, state_at, dimension_at, nodes_at, max_leaf_size_at, min_leaf_size_at, degree_at, hash_bits_at, final_prune_at, ef_search_at, entry_at, bridge_count_at, capacity_at, fraction_high_at, fraction_low_at, alpha_at, zero_at, docs_at, rows_at, row_size, bridges_at, bridge_size}
use Rattle.store.specs.View.{view, params_of, row_words, bridge_words}
use Rattle.store.specs.WellFormed.{header_ok, rest_ok, open_ok, built_ok}
use Rattle.store.specs.Opening.{scratch_short, store_short, opening}
use Rattle.params.specs.Limits.{within_limits, dimension_within, capacity_within}
use Rattle.store.proofs.Header.{Header, header}
use Rattle.store.proofs.Sizes.{product_le}
use Rattle.def_calls.proofs.Laid.{same_front, same_part, same_pieces, same_word}
use Rattle.theorems.specs.Footprint.{words_in, floats_in, AlikeIn, Agree}

-- ---- the words of the header

pub record Words (w w' : List ℕ) : Type 0 where
  pub w0 : word w state_at ≡ word w' state_at
  pub w1 : word w dimension_at ≡ word w' dimension_at
  pub w2 : word w nodes_at ≡ word w' nodes_at
  pub w3 : word w max_leaf_size_at ≡ word w' max_leaf_size_at
  pub w4 : word w min_leaf_size_at ≡ word w' min_leaf_size_at
  pub w5 : word w degree_at ≡ word w' degree_at
  pub w6 : word w hash_bits_at ≡ word w' hash_bits_at
  pub w7 : word w final_prune_at ≡ word w' final_prune_at
  pub w8 : word w ef_search_at ≡ word w' ef_search_at
  pub w9 : word w entry_at ≡ word w' entry_at
  pub w10 : word w bridge_count_at ≡ word w' bridge_count_at
  pub w11 : word w capacity_at ≡ word w' capacity_at
  pub w12 : word w fraction_high_at ≡ word w' fraction_high_at
  pub w13 : word w fraction_low_at ≡ word w' fraction_low_at
  pub w14 : word w alpha_at ≡ word w' alpha_at
  pub w15 : word w zero_at ≡ word w' zero_at

pub words : (w w' : List ℕ) → take header_size w ≡ take header_size w' → Words w w'
words w w' e = record {
  w0 = at 0 (omega arith);
  w1 = at 1 (omega arith);
  w2 = at 2 (omega arith);
  w3 = at 3 (omega arith);
  w4 = at 4 (omega arith);
  w5 = at 5 (omega arith);
  w6 = at 6 (omega arith);
  w7 = at 7 (omega arith);
  w8 = at 8 (omega arith);
  w9 = at 9 (omega arith);
  w10 = at 10 (omega arith);
  w11 = at 11 (omega arith);
  w12 = at 12 (omega arith);
  w13 = at 13 (omega arith);
  w14 = at 14 (omega arith);
  w15 = at 15 (omega arith);
}
  where
    at : (i : ℕ) → i < header_size → word w i ≡ word w' i
    at i h = same_word w w' header_size e i h

module _ {w w' : List ℕ} (h : Words w w') where
  pub params_same : params_of w ≡ params_of w'
  unfolding params_of
  params_same = cc

  pub header_same : header_ok w ≡ header_ok w'
  unfolding header_ok
  header_same = λ i.
      within_limits (params_same i) && dimension_within (h.w1 i) && capacity_within (h.w11 i)
      && leb (h.w7 i) 1 && eqb (h.w15 i) 0
      && leb (h.w2 i) (h.w11 i)
      && (open_same i || built_same i)
    where
      open_same : open_ok w ≡ open_ok w'
      open_same = cc

      built_same : built_ok w ≡ built_ok w'
      built_same = cc

-- ---- what lies within the sizes, for a header that is well formed

module _ {w w' : List ℕ} {f f' : List Float} (h : Words w w') (ok : header_ok w ≡ true) (a : AlikeIn w w w' f f') where
  abbrev C : ℕ
  C = word w capacity_at

  abbrev D : ℕ
  D = word w degree_at

  abbrev d : ℕ
  d = word w dimension_at

  abbrev n : ℕ
  n = word w nodes_at

  head : Header w
  head = header w ok

  rows_within : rows_at C + n * row_size D ≤ words_in w
  rows_within = omega (arith, head.nodes, product_le n D C D head.nodes (omega arith))

  bridges_within : bridges_at C D + word w bridge_count_at * bridge_size ≤ words_in w
  bridges_within = omega (arith, head.nodes, head.bridges)

  vectors_within : n * d ≤ floats_in w
  vectors_within = omega (arith, product_le n d C d head.nodes (omega arith))

  pub docs_same : take (word w nodes_at) (drop docs_at w) ≡ take (word w' nodes_at) (drop docs_at w')
  docs_same = same_part w w' (words_in w) a.words docs_at n (omega (arith, head.nodes)) ∙ ap (λ (k : ℕ). take k (drop docs_at w')) h.w2

  pub rows_same : row_words w ≡ row_words w'
  unfolding row_words
  rows_same = same_pieces w w' (words_in w) a.words (row_size D) n (rows_at C) rows_within ∙ cc

  pub bridges_same : bridge_words w ≡ bridge_words w'
  unfolding bridge_words
  bridges_same = same_pieces w w' (words_in w) a.words bridge_size (word w bridge_count_at) (bridges_at C D) bridges_within ∙ cc

  pub vectors_same : pieces (word w dimension_at) (word w nodes_at) f ≡ pieces (word w' dimension_at) (word w' nodes_at) f'
  vectors_same = same_pieces f f' (floats_in w) a.floats d n 0 (omega (arith, vectors_within)) ∙ cc

  floats_same : take (word w nodes_at * word w dimension_at) f ≡ take (word w' nodes_at * word w' dimension_at) f'
  floats_same = same_front f f' (floats_in w) a.floats (n * d) vectors_within ∙ cc

  pub view_same : view w f ≡ view w' f'
  unfolding view
  view_same = cc (params_same h, docs_same, rows_same, bridges_same, vectors_same)

  pub rest_same : rest_ok w f ≡ rest_ok w' f'
  unfolding rest_ok
  rest_same = cc (rows_same, bridges_same, floats_same)

  -- no store is too short
  long_enough : (u : List ℕ) (g : List Float) → words_in w ≤ length u → floats_in w ≤ length g → store_short (word w capacity_at) (word w degree_at) (word w dimension_at) u g ≡ false
  long_enough u g x y = ap₂ ◌||◌ (le-ltb _ _ x) (le-ltb _ _ y)

  stores_long : store_short (word w capacity_at) (word w degree_at) (word w dimension_at) w f ≡ store_short (word w' capacity_at) (word w' degree_at) (word w' dimension_at) w' f'
  stores_long =
      long_enough w f a.words_reach.0 a.floats_reach.0
      ∙ sym (long_enough w' f' a.words_reach.1 a.floats_reach.1)
      ∙ cc

-- ---- the number of the first check that fails

-- whatever checks a call has besides: they agree too
module _ {w w' : List ℕ} {f f' : List Float} (lent lent' : Option Scratch) {more more' : List Check} (a : Agree w w' f f')
    (s : scratch_short (word w capacity_at) lent ≡ scratch_short (word w capacity_at) lent') (m : more ≡ more') where
  heads : Words w w'
  heads = words w w' a.header

  long : ltb (length w) header_size ≡ false
  long = le-ltb _ _ a.header_reach.0

  long' : ltb (length w') header_size ≡ false
  long' = le-ltb _ _ a.header_reach.1

  -- a header that is not well formed is refused with 4, whatever follows
  refused : (u : List ℕ) (g : List Float) (l : Option Scratch) (rest : List Check) → ltb (length u) header_size ≡ false → header_ok u ≡ false
      → first_refusal (opening l u g ++ rest) ≡ 4
  unfolding opening first_refusal
  refused u g l rest x y = rw (x, y)

  checks_same : header_ok w ≡ true → opening lent w f ≡ opening lent' w' f'
  unfolding opening heads
  checks_same e = cc (long, long', header_same heads, stores_long heads e (a.rest e), rest_same heads e (a.rest e), s, heads.w11)

  pub numbers_same : first_refusal (opening lent w f ++ more) ≡ first_refusal (opening lent' w' f' ++ more')
  numbers_same = either (header_ok w) refl
    where
      either : (ok : Bool) → header_ok w ≡ ok → first_refusal (opening lent w f ++ more) ≡ first_refusal (opening lent' w' f' ++ more')
      either true e = ap₂ (λ (x y : List Check). first_refusal (x ++ y)) (checks_same e) m
      either false e = refused w f lent more long e ∙ sym (refused w' f' lent' more' long' (sym (header_same heads) ∙ e))

  -- and then it is not 0
  pub not_opened : header_ok w ≡ false → first_refusal (opening lent w f ++ more) ≡ 0 → ⊥
  not_opened e z = let four : ◌≡◌ {A = ℕ} 4 0 = sym (refused w f lent more long e) ∙ z in omega arith
