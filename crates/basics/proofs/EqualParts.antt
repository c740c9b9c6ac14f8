-- A loop that takes several elements a turn, one of each of m parts of a slice that are equally long: what holds of those taken so far, and of all at
-- the end. What stands past the parts is looked at apart. Assumes nothing.
use mathlib.Core.Path.{◌≡◌, sym, ap, subst, ◌∙◌}
use mathlib.Core.Bool.{Bool, true}
use mathlib.Core.List.{List}
use Prim.Native.Nat.{ℕ, ◌+◌, ◌-◌, ◌*◌, ◌/◌, ◌%◌, ◌≤◌, ◌<◌}
use native.Mathlib.Nat.{mul-zero, mod-lt, div-add-mod', div-lt_iff_lt-mul}
use native.Mathlib.Omega.{arith}
use native.Mathlib.Decide.{dec_lt}
use lib.ListN.{length, get_or, take, drop, length-take, length-drop}
use lib.Seq.{get_or-take, get_or-drop}
use Rattle.basics.specs.Lists.{every}
use Rattle.basics.proofs.Pieces.{every_at, every_of}

module _ {A : Type 0} (p : A → Bool) (xs : List A) (d : A) (m : ℕ) where
  -- the test holds at a place
  abbrev pub Holds : ℕ → Type 0
  Holds k = p (get_or xs k d) ≡ true

  -- the first i of each part, of q elements, and what stands past the parts
  pub record EqualParts (q i : ℕ) : Type 0 where
    pub taken : (c j : ℕ) → c < m → j < i → Holds (c * q + j)
    pub past : (k : ℕ) → m * q ≤ k → k < length xs → Holds k

  pub parts_none : (q n : ℕ) → length xs ≤ m * q + n → every p (take n (drop (m * q) xs)) ≡ true → EqualParts q 0
  parts_none q n room e = record { taken = λ c j l u. absurd (omega arith); past = at }
    where
      part : List A
      part = take n (drop (m * q) xs)

      at : (k : ℕ) → m * q ≤ k → k < length xs → Holds k
      at k l u =
          let back : m * q + (k - m * q) ≡ k = omega arith in
          sym (ap p (get_or-take n (drop (m * q) xs) (k - m * q) d (omega arith) ∙ get_or-drop (m * q) xs (k - m * q) d ∙ ap (λ (j : ℕ). get_or xs j d) back))
          ∙ every_at p part d (k - m * q) e (omega (arith, length-take n (drop (m * q) xs), length-drop (m * q) xs))

  pub parts_more : (q i : ℕ) → EqualParts q i → ((c : ℕ) → c < m → Holds (c * q + i)) → EqualParts q (i + 1)
  parts_more q i h one = record {
    taken = λ c j l u. elim (dec_lt j i) [
      | yes t ↦ h.taken c j l t
      | no t ↦ let e : i ≡ j = omega arith in subst (λ (k : ℕ). Holds (c * q + k)) e (one c l)
    ];
    past = h.past;
  }

  pub parts_all : (q i : ℕ) → q ≤ i → EqualParts q i → every p xs ≡ true
  parts_all q i most h = every_of p xs d (λ k u. elim (dec_lt k (m * q)) [ yes t ↦ within k t (dec_lt 0 q) | no t ↦ h.past k (omega arith) u ])
    where
      within : (k : ℕ) → k < m * q → Dec (0 < q) → Holds k
      within k t (yes some) =
          let l = mod-lt k some in
          subst Holds (div-add-mod' k q) (h.taken (k / q) (k % q) ((div-lt_iff_lt-mul some).1 t) (omega arith))
      within k t (no none) = let e : q ≡ 0 = omega arith in absurd (omega (arith, ap (λ (x : ℕ). m * x) e, mul-zero m))
