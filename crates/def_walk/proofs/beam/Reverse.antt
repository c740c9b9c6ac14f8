-- A list turned round has the same elements, each as often. Assumes nothing.
use mathlib.Core.Path.{sym, subst}
use mathlib.Core.Logic.{inl, inr}
use mathlib.Core.List.{List, [], ◌∷◌, ◌++◌, reverse, reverse-cons}
use mathlib.Core.List.Memᴰ.{append_cases as in-cases}
use mathlib.Core.List.Memᴰ.{append_left as in_left}
use mathlib.Core.List.Memᴰ.{append_right as in_right}
use mathlib.Core.List.Memᴰ.{cases_cons as in-cons}
use mathlib.Core.List.Memᴰ.{eq_of_singleton as in_one}
use mathlib.Core.List.Memᴰ.{head as here}
use mathlib.Core.List.Memᴰ.{tail as there}
use mathlib.Core.List.{Memᴰ as In}
use Prim.Native.Nat.{ℕ}
use Rattle.basics.specs.Nodes.{NoDup}

module _ {x : ℕ} where
  pub in_reverse : (l : List ℕ) → In x (reverse l) → In x l
  in_reverse [] m = m
  in_reverse (y ∷ l) m = elim (in-cases (reverse l) (rw (reverse-cons y l) at m)) [ inl k ↦ there (in_reverse l k) | inr k ↦ here (in_one k) ]

  pub reverse_in : (l : List ℕ) → In x l → In x (reverse l)
  reverse_in [] m = m
  reverse_in (y ∷ l) m = rw (reverse-cons y l) (elim (in-cons m) [ inl e ↦ in_right (reverse l) (here e) | inr k ↦ in_left (y ∷ []) (reverse_in l k) ])

nodup_snoc : (l : List ℕ) (x : ℕ) → NoDup l → (In x l → ⊥) → NoDup (l ++ (x ∷ []))
nodup_snoc [] x d out = (out, tt)
nodup_snoc (y ∷ l) x d out =
    ((λ m. elim (in-cases l m) [ inl k ↦ d.0 k | inr k ↦ out (here (sym (in_one k))) ]), nodup_snoc l x d.1 (λ m. out (there m)))

pub nodup_reverse : (l : List ℕ) → NoDup l → NoDup (reverse l)
nodup_reverse [] d = tt
nodup_reverse (x ∷ l) d = subst NoDup (sym (reverse-cons x l)) (nodup_snoc (reverse l) x (nodup_reverse l d.1) (λ m. d.0 (in_reverse l m)))
