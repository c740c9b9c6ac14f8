-- Eight numbers. One of them written: what each is, of those before it and of those from it on; eight numbers that are those of eight rows. Assumes nothing.
use mathlib.Core.Path.{◌≡◌, sym, subst, ◌∙◌}
use mathlib.Core.List.{List, map}
use Prim.Native.Nat.{ℕ, ◌+◌, ◌≤◌, ◌<◌}
use native.Mathlib.Decide.{dec_lt}
use native.Mathlib.Omega.{arith}
use lib.ListN.{length, get_or, set, length-set}
use lib.Ieee.{Float, nan}
use denote.Ref.{Bor}
use Rattle.std.proofs.lemmas.List.{same_lists, get_or_default, length-map, get_or-map}
use Rattle.simd.specs.Inside.Eight.{none}
use Rattle.std.proofs.lemmas.List.{get_or-set_other}
use Rattle.std.proofs.lemmas.Grind.{get_or-set_at}

-- xs are eight numbers: those of `done` before j, and those of `left` from j on
abbrev pub UpTo : (ℕ → Float) → (ℕ → Float) → List Float → ℕ → Type 0
UpTo done left xs j = (length xs ≡ 8) × ((k : ℕ) → k < j → get_or xs k nan ≡ done k) × ((k : ℕ) → j ≤ k → get_or xs k nan ≡ left k)

pub one_more : (done left : ℕ → Float) (xs : List Float) (j : ℕ) (v : Float) → j < 8 → UpTo done left xs j → v ≡ done j
    → UpTo done left (set xs j v) (j + 1)
one_more done left xs j v h u e = (length-set xs j v ∙ u.0, before, after)
  where
    before : (k : ℕ) → k < j + 1 → get_or (set xs j v) k nan ≡ done k
    before k l = elim (dec_lt k j) [
      | yes p ↦ get_or-set_other xs j k v nan (λ q. omega arith) ∙ u.1 k p
      | no p ↦ at_it k (omega arith)
    ]
      where
        at_it : (k : ℕ) → k ≡ j → get_or (set xs j v) k nan ≡ done k
        at_it k q = get_or-set_at xs j k v nan q (omega (arith, u.0)) ∙ subst (λ (m : ℕ). v ≡ done m) (sym q) e

    after : (k : ℕ) → j + 1 ≤ k → get_or (set xs j v) k nan ≡ left k
    after k l = get_or-set_other xs j k v nan (λ q. omega arith) ∙ u.2 k (omega arith)

-- numbers that are those of rows, one by one
pub numbers_of : (number : Bor (List Float) → Float) (rows : List (Bor (List Float))) (xs : List Float) → length rows ≡ 8 → length xs ≡ 8
    → ((j : ℕ) → j < 8 → get_or xs j nan ≡ number (get_or rows j none)) → xs ≡ map number rows
numbers_of number rows xs m n e = same_lists xs (map number rows) (n ∙ sym (length-map rows number ∙ m))
    (λ k d h. get_or_default xs k d nan h ∙ e k (omega (arith, n)) ∙ sym (get_or-map number rows k none d (omega (arith, m, n))))
