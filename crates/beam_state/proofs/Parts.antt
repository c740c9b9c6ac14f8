-- A part of some words after another part was written: what is read there is what was there. Assumes nothing.
use mathlib.Core.Path.{◌≡◌, sym, ap, ◌∙◌}
use mathlib.Core.List.{List, ◌++◌, append_assoc}
use Prim.Native.Nat.{ℕ, ◌+◌, ◌-◌, ◌≤◌}
use native.Mathlib.Omega.{arith}
use lib.ListN.{length, take, drop, length-append, length-drop, take-append-drop}
use lib.Seq.{length-take-le, take_at, drop_at, take-append-le, drop-append-le, drop-append-add, drop-drop, take-take}
use Rattle.beam_state.specs.Inside.State.{part}

-- words with a part written anew
abbrev pub lay : ℕ → ℕ → List ℕ → List ℕ → List ℕ
lay a e x w = take a w ++ (x ++ drop (e - a) (drop a w))

module _ (a e : ℕ) (x w : List ℕ) (order : a ≤ e) (long : e ≤ length w) (size : length x ≡ e - a) where
  rest : drop (e - a) (drop a w) ≡ drop e w
  rest = let at : a + (e - a) ≡ e = omega arith in drop-drop (e - a) a w ∙ ap (λ (k : ℕ). drop k w) at

  head-length : length (take a w) ≡ a
  head-length = length-take-le a w (omega arith)

  pub lay_length : length (lay a e x w) ≡ length w
  lay_length = omega (arith, length-append (take a w) (x ++ drop (e - a) (drop a w)), length-append x (drop (e - a) (drop a w)), length-drop (e - a) (drop a w), length-drop a w, head-length)

  pub part_here : part a e (lay a e x w) ≡ x
  part_here = ap (take (e - a)) (drop_at (take a w) (x ++ drop (e - a) (drop a w)) a head-length) ∙ take_at x (drop (e - a) (drop a w)) (e - a) size

  front_part : (b f : ℕ) (p q r : List ℕ) → b ≤ f → f ≤ length p → part b f (p ++ q) ≡ part b f (p ++ r)
  front_part b f p q r h l = one q ∙ sym (one r)
    where
      one : (y : List ℕ) → part b f (p ++ y) ≡ part b f p
      one y = ap (take (f - b)) (drop-append-le b p y (omega arith)) ∙ take-append-le (f - b) (drop b p) y (omega (arith, length-drop b p))

  pub part_before : (b f : ℕ) → b ≤ f → f ≤ a → part b f (lay a e x w) ≡ part b f w
  part_before b f h l = front_part b f (take a w) (x ++ drop (e - a) (drop a w)) (drop a w) h (omega (arith, head-length)) ∙ ap (part b f) (take-append-drop a w)

  pub part_after : (b f : ℕ) → e ≤ b → part b f (lay a e x w) ≡ part b f w
  part_after b f h =
      let front : length (take a w ++ x) ≡ e = omega (arith, length-append (take a w) x, head-length) in
      let at : b ≡ length (take a w ++ x) + (b - e) = omega arith in
      let back : e + (b - e) ≡ b = omega arith in
      ap (take (f - b))
      (ap (drop b) (ap (λ (r : List ℕ). take a w ++ (x ++ r)) rest ∙ sym (append_assoc (take a w) x (drop e w)))
      ∙ ap (λ (k : ℕ). drop k ((take a w ++ x) ++ drop e w)) at
      ∙ drop-append-add (take a w ++ x) (drop e w) (b - e)
      ∙ drop-drop (b - e) e w
      ∙ ap (λ (k : ℕ). drop k w) back)

  pub take_before : (m : ℕ) → m ≤ a → take m (lay a e x w) ≡ take m w
  take_before m h = take-append-le m (take a w) (x ++ drop (e - a) (drop a w)) (omega (arith, head-length)) ∙ take-take m a w h

-- a part depends only on what is behind a place before it
pub part_behind : (m a e : ℕ) (v w : List ℕ) → m ≤ a → drop m v ≡ drop m w → part a e v ≡ part a e w
part_behind m a e v w h same = ap (take (e - a)) (one v ∙ ap (drop (a - m)) same ∙ sym (one w))
  where
    one : (y : List ℕ) → drop a y ≡ drop (a - m) (drop m y)
    one y = let at : m + (a - m) ≡ a = omega arith in sym (drop-drop (a - m) m y ∙ ap (λ (k : ℕ). drop k y) at)
