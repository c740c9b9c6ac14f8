-- What a call writes over two stores that agree up to a size agrees up to that size: elements laid over others, and an element set. Assumes nothing.
use mathlib.Core.Path.{◌≡◌, sym, ap, ap₂, ◌∙◌}
use mathlib.Core.List.{List, ◌++◌}
use Prim.Native.Nat.{ℕ, ◌+◌, ◌-◌, ◌≤◌}
use native.Mathlib.Nat.{lt_of_not-le, le_of_lt}
use native.Mathlib.Decide.{dec_le}
use native.Mathlib.Omega.{arith}
use lib.ListN.{length, take, drop, set, length-append, length-drop, length-take, length-set}
use lib.Seq.{take-take, take-append-le, take-append-add, take-set-le, take-set-lt}
use lib.Ieee.{Float}
use Rattle.def_calls.proofs.Laid.{same_front, same_part}
use Rattle.theorems.specs.Footprint.{Alike}

-- elements xs over those of u from `at` on
abbrev pub over : {A : Type 0} → ℕ → List A → List A → List A
over at xs u = take at u ++ (xs ++ drop (at + length xs) u)

module _ {A : Type 0} (at : ℕ) (xs : List A) where
  over_long : (B : ℕ) (u : List A) → B ≤ length u → B ≤ length (over at xs u)
  over_long B u h =
      omega (
        arith,
        length-append (take at u) (xs ++ drop (at + length xs) u),
        length-append xs (drop (at + length xs) u),
        length-take at u,
        length-drop (at + length xs) u,
      )

  -- up to B: the elements laid, then those of u
  past_all : (B : ℕ) (u : List A) → B ≤ length u → B ≤ at → take B (over at xs u) ≡ take B u
  past_all B u h g =
      take-append-le B (take at u) (xs ++ drop (at + length xs) u) (omega (arith, length-take at u)) ∙ take-take B at u g

  front_then : (B : ℕ) (u : List A) → at ≤ B → B ≤ length u → take B (over at xs u) ≡ take at u ++ take (B - at) (xs ++ drop (at + length xs) u)
  front_then B u g h =
      let sized : B ≡ length (take at u) + (B - at) = omega (arith, length-take at u) in
      ap (λ (k : ℕ). take k (over at xs u)) sized ∙ take-append-add (take at u) (xs ++ drop (at + length xs) u) (B - at)

  over_same : (B : ℕ) (u v : List A) → B ≤ length u → B ≤ length v → take B u ≡ take B v → take B (over at xs u) ≡ take B (over at xs v)
  over_same B u v h k e = elim (dec_le B at) [
    | yes g ↦ past_all B u h g ∙ e ∙ sym (past_all B v k g)
    | no g ↦
        let l : at ≤ B = le_of_lt (lt_of_not-le g) in
        front_then B u l h ∙ ap₂ (λ (x y : List A). x ++ y) (same_front u v B e at l) (behind (dec_le (B - at) (length xs))) ∙ sym (front_then B v l k)
  ]
    where
      behind : Dec (B - at ≤ length xs) → take (B - at) (xs ++ drop (at + length xs) u) ≡ take (B - at) (xs ++ drop (at + length xs) v)
      behind (yes g) = take-append-le (B - at) xs (drop (at + length xs) u) g ∙ sym (take-append-le (B - at) xs (drop (at + length xs) v) g)
      behind (no g) =
          let parted : B - at ≡ length xs + (B - at - length xs) = omega (arith, lt_of_not-le g) in
          ap (λ (j : ℕ). take j (xs ++ drop (at + length xs) u)) parted
          ∙ take-append-add xs (drop (at + length xs) u) (B - at - length xs)
          ∙ ap (λ (y : List A). xs ++ y) (same_part u v B e (at + length xs) (B - at - length xs) (omega arith))
          ∙ sym (take-append-add xs (drop (at + length xs) v) (B - at - length xs))
          ∙ ap (λ (j : ℕ). take j (xs ++ drop (at + length xs) v)) (sym parted)

set_same : {A : Type 0} (B i : ℕ) (a : A) (u v : List A) → take B u ≡ take B v → take B (set u i a) ≡ take B (set v i a)
set_same B i a u v e = elim (dec_le B i) [
  | yes g ↦ take-set-le B u i a g ∙ e ∙ sym (take-set-le B v i a g)
  | no g ↦ take-set-lt B u i a (lt_of_not-le g) ∙ ap (λ l. set l i a) e ∙ sym (take-set-lt B v i a (lt_of_not-le g))
]

-- ---- the same of stores

module _ {W F : ℕ} {w w' : List ℕ} {f f' : List Float} (a : Alike W F w w' f f') where
  -- a word set
  pub alike_set : (i x : ℕ) → Alike W F (set w i x) (set w' i x) f f'
  alike_set i x = record {
    words_reach = (omega (arith, length-set w i x), omega (arith, length-set w' i x));
    floats_reach = a.floats_reach;
    words = set_same W i x w w' a.words;
    floats = a.floats;
  }

  -- words laid over others
  pub alike_words : (at : ℕ) (xs : List ℕ) → Alike W F (over at xs w) (over at xs w') f f'
  alike_words at xs = record {
    words_reach = (over_long at xs W w a.words_reach.0, over_long at xs W w' a.words_reach.1);
    floats_reach = a.floats_reach;
    words = over_same at xs W w w' a.words_reach.0 a.words_reach.1 a.words;
    floats = a.floats;
  }

  -- and floats
  pub alike_floats : (at : ℕ) (xs : List Float) → Alike W F w w' (over at xs f) (over at xs f')
  alike_floats at xs = record {
    words_reach = a.words_reach;
    floats_reach = (over_long at xs F f a.floats_reach.0, over_long at xs F f' a.floats_reach.1);
    words = a.words;
    floats = over_same at xs F f f' a.floats_reach.0 a.floats_reach.1 a.floats;
  }
