-- What an array's `map` gives, where the closure says its result and stays as it is. Assumes nothing.
use mathlib.Core.Path.{◌≡◌, refl, sym, ap, subst, ◌∙◌}
use mathlib.Core.List.{List, [], ◌∷◌, map}
use Prim.Native.Nat.{ℕ, zero, suc, ◌+◌, ◌<◌}
use native.Mathlib.Omega.{arith}
use lib.ListN.{length, get_or}
use denote.Param.Members.{Mut}
use Rattle.std.specs.Array.{MapsFrom, IsMapOf}
use Rattle.std.specs.Fn.{Called}
use Rattle.std.proofs.lemmas.List.{same_lists, length-map, get_or-map}

module _ {F A B : Type 0} (g : Mut F (A × Unit {0}) B) (h : A → B) (f : F) (says : (x : A) (y : B) (q : F) → Called g f (x, tt) y q → (q ≡ f) × (y ≡ h x)) where
  each : (xs : List A) (ys : List B) (n i : ℕ) (p : F) → p ≡ f → MapsFrom g p xs ys i n → (k : ℕ) → k < n → (d : A) (e : B) → get_or ys (i + k) e ≡ h (get_or xs (i + k) d)
  each xs ys zero i p s m k l d e = absurd (omega arith)
  each xs ys (suc n) i p s m zero l d e =
      let here : i + 0 ≡ i = omega arith in
      let call : Called g f (m.1, tt) m.2 m.0 = subst (λ (o : F). Called g o (m.1, tt) m.2 m.0) s m.5 in
      ap (λ (j : ℕ). get_or ys j e) here ∙ m.4.1 e ∙ (says m.1 m.2 m.0 call).1 ∙ sym (ap (λ (j : ℕ). h (get_or xs j d)) here ∙ ap h (m.3.1 d))
  each xs ys (suc n) i p s m (suc k) l d e =
      let next : i + suc k ≡ i + 1 + k = omega arith in
      let call : Called g f (m.1, tt) m.2 m.0 = subst (λ (o : F). Called g o (m.1, tt) m.2 m.0) s m.5 in
      ap (λ (j : ℕ). get_or ys j e) next ∙ each xs ys n (i + 1) m.0 (says m.1 m.2 m.0 call).0 m.6 k (omega arith) d e ∙ sym (ap (λ (j : ℕ). h (get_or xs j d)) next)

  pub array_map : (xs : List A) (ys : List B) (n : ℕ) → length xs ≡ n → IsMapOf g f xs ys n → ys ≡ map h xs
  array_map xs ys n long m = same_lists ys (map h xs) (m.long ∙ sym (length-map xs h ∙ long)) (λ k e l. at xs k e (omega (arith, m.long, long)) (each xs ys n 0 f refl m.each k (omega (arith, m.long))))
    where
      at : (zs : List A) (k : ℕ) (e : B) → k < length zs → ((d : A) (e : B) → get_or ys (0 + k) e ≡ h (get_or zs (0 + k) d)) → get_or ys k e ≡ get_or (map h zs) k e
      at [] k e l by = absurd (omega arith)
      at (z ∷ zs) k e l by =
          let here : 0 + k ≡ k = omega arith in
          ap (λ (j : ℕ). get_or ys j e) (sym here) ∙ by z e ∙ ap (λ (j : ℕ). h (get_or (z ∷ zs) j z)) here ∙ sym (get_or-map h (z ∷ zs) k z e l)
