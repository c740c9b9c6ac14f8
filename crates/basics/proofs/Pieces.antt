-- Laws of a list in pieces: how many there are, which one stands where, and that pieces laid one after the other are read back.
-- Assumes nothing.
use mathlib.Core.Path.{◌≡◌, refl, sym, ap, ap₂, ◌∙◌}
use mathlib.Core.Bool.{Bool, true}
use mathlib.Core.List.{List, [], ◌∷◌, ◌++◌, flatten, append_assoc}
use Prim.Native.Nat.{ℕ, zero, suc, ◌+◌, ◌*◌, ◌≤◌, ◌<◌}
use native.Mathlib.Nat.{zero-mul}
use native.Mathlib.Omega.{arith}
use lib.ListN.{length, get_or, take, drop, length-append, take-append-drop}
use lib.Seq.{drop-drop, take_at, drop_at, take-append-le, drop-append-le, length-take-le}
use Rattle.basics.specs.Lists.{every, pieces}
use Rattle.basics.proofs.Tests.{both_true}

-- a part of a part
pub drop-take {ℓ} : {A : Type ℓ} (a b : ℕ) (l : List A) → drop a (take (a + b) l) ≡ take b (drop a l)
drop-take zero b l = let same : zero + b ≡ b = omega arith in ap (λ (k : ℕ). take k l) same
drop-take (suc a) b [] = ap (drop (suc a)) (lib.Seq.take-nil (suc a + b)) ∙ sym (lib.Seq.take-nil b)
drop-take (suc a) b (x ∷ l) =
    let next : suc a + b ≡ suc (a + b) = omega arith in
    ap (λ (k : ℕ). drop (suc a) (take k (x ∷ l))) next ∙ drop-take a b l

module _ {A : Type 0} where
  pub length_pieces : (d n : ℕ) (xs : List A) → length (pieces d n xs) ≡ n
  unfolding pieces
  length_pieces d zero xs = refl
  length_pieces d (suc n) xs = ap suc (length_pieces d n (drop d xs))

  pub nth_piece : (d n : ℕ) (xs : List A) (i : ℕ) → i < n → get_or (pieces d n xs) i [] ≡ take d (drop (i * d) xs)
  unfolding pieces
  nth_piece d zero xs i h = absurd (omega arith)
  nth_piece d (suc n) xs zero h = ap (λ (k : ℕ). take d (drop k xs)) (sym (zero-mul d))
  nth_piece d (suc n) xs (suc i) h =
      let next : d + i * d ≡ suc i * d = omega arith in
      nth_piece d n (drop d xs) i (omega arith) ∙ ap (take d) (drop-drop (i * d) d xs ∙ ap (λ (k : ℕ). drop k xs) next)

  -- one piece more
  pub pieces_more : (d n : ℕ) (xs : List A) → pieces d (suc n) xs ≡ pieces d n xs ++ (take d (drop (n * d) xs) ∷ [])
  unfolding pieces
  pieces_more d zero xs = ap (λ (k : ℕ). take d (drop k xs) ∷ []) (sym (zero-mul d))
  pieces_more d (suc n) xs =
      let next : d + n * d ≡ suc n * d = omega arith in
      ap (λ (l : List (List A)). take d xs ∷ l)
      (pieces_more d n (drop d xs) ∙ ap (λ (l : List A). pieces d n (drop d xs) ++ (take d l ∷ [])) (drop-drop (n * d) d xs ∙ ap (λ (k : ℕ). drop k xs) next))

  -- what lies past the pieces is not in them
  pub pieces_front : (d n : ℕ) (xs ys : List A) → n * d ≤ length xs → pieces d n (xs ++ ys) ≡ pieces d n xs
  unfolding pieces
  pieces_front d zero xs ys h = refl
  pieces_front d (suc n) xs ys h =
      let within : d ≤ length xs = omega arith in
      ap₂ (λ (x : List A) (l : List (List A)). x ∷ l) (take-append-le d xs ys within)
      (ap (pieces d n) (drop-append-le d xs ys within) ∙ pieces_front d n (drop d xs) ys (omega (arith, lib.ListN.length-drop d xs)))

  -- nor do they need more than their own elements
  pub pieces_take : (d n : ℕ) (xs : List A) → n * d ≤ length xs → pieces d n (take (n * d) xs) ≡ pieces d n xs
  pieces_take d n xs h =
      let long : n * d ≤ length (take (n * d) xs) = omega (arith, length-take-le (n * d) xs h) in
      sym (pieces_front d n (take (n * d) xs) (drop (n * d) xs) long) ∙ ap (pieces d n) (take-append-drop (n * d) xs)

-- each of a list of pieces has d elements
abbrev pub Sized {ℓ} : {A : Type ℓ} → ℕ → List (List A) → Type 0
Sized d [] = Unit
Sized d (x ∷ xs) = (length x ≡ d) × Sized d xs

module _ {A : Type 0} where
  pub pieces_back : (d : ℕ) (xs : List (List A)) (rest : List A) → Sized d xs → pieces d (length xs) (flatten xs ++ rest) ≡ xs
  unfolding pieces flatten
  pieces_back d [] rest h = refl
  pieces_back d (x ∷ xs) rest h =
      let whole : x ++ flatten xs ++ rest ≡ x ++ (flatten xs ++ rest) = append_assoc x (flatten xs) rest in
      ap₂ (λ (y : List A) (l : List A). y ∷ pieces d (length xs) l)
      (ap (take d) whole ∙ take_at x (flatten xs ++ rest) d h.0)
      (ap (drop d) whole ∙ drop_at x (flatten xs ++ rest) d h.0)
      ∙ ap (λ (l : List (List A)). x ∷ l) (pieces_back d xs rest h.1)

  pub length_flatten : (d : ℕ) (xs : List (List A)) → Sized d xs → length (flatten xs) ≡ length xs * d
  unfolding flatten
  length_flatten d [] h = sym (zero-mul d)
  length_flatten d (x ∷ xs) h = let q = length_flatten d xs h.1 in omega (arith, length-append x (flatten xs), h.0)

  pub sized_more : (d : ℕ) (xs : List (List A)) (x : List A) → Sized d xs → length x ≡ d → Sized d (xs ++ (x ∷ []))
  sized_more d [] x h q = (q, tt)
  sized_more d (y ∷ xs) x h q = (h.0, sized_more d xs x h.1 q)

  -- as many pieces as a list has are all of the same length
  pub pieces_sized : (d n : ℕ) (xs : List A) → n * d ≤ length xs → Sized d (pieces d n xs)
  unfolding pieces
  pieces_sized d zero xs h = tt
  pieces_sized d (suc n) xs h = (length-take-le d xs (omega arith), pieces_sized d n (drop d xs) (omega (arith, lib.ListN.length-drop d xs)))

  -- a test of every element holds of each
  pub every_at : (p : A → Bool) (xs : List A) (d : A) (i : ℕ) → every p xs ≡ true → i < length xs → p (get_or xs i d) ≡ true
  unfolding every
  every_at p [] d i e h = absurd (omega arith)
  every_at p (x ∷ xs) d zero e h = (both_true (p x) (every p xs) e).0
  every_at p (x ∷ xs) d (suc i) e h = every_at p xs d i (both_true (p x) (every p xs) e).1 (omega arith)

  -- and of every element where it holds of each
  pub every_of : (p : A → Bool) (xs : List A) (d : A) → ((i : ℕ) → i < length xs → p (get_or xs i d) ≡ true) → every p xs ≡ true
  unfolding every
  every_of p [] d h = refl
  every_of p (x ∷ xs) d h = rw (h 0 (omega arith)) (every_of p xs d (λ i l. h (suc i) (omega arith)))

  pub every_take : (p : A → Bool) (k : ℕ) (xs : List A) → every p xs ≡ true → every p (take k xs) ≡ true
  unfolding every
  every_take p zero xs e = refl
  every_take p (suc k) [] e = refl
  every_take p (suc k) (x ∷ xs) e = let t = both_true (p x) (every p xs) e in rw t.0 (every_take p k xs t.1)

  pub every_drop : (p : A → Bool) (k : ℕ) (xs : List A) → every p xs ≡ true → every p (drop k xs) ≡ true
  unfolding every
  every_drop p zero xs e = e
  every_drop p (suc k) [] e = refl
  every_drop p (suc k) (x ∷ xs) e = every_drop p k xs (both_true (p x) (every p xs) e).1
