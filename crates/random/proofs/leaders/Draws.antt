-- The draws as a loop makes them, one for each place of `out`: positions drawn stand at the front of `out`, those not drawn at the front of `left`,
-- and what is left to draw completes the whole. One turn, and the end. Assumes nothing.
use Rattle.std.proofs.Common.{◌≡◌, ℕ, zero, suc, ◌+◌, ◌-◌, ◌%◌, ◌<◌, ◌≤◌, List, [], ◌∷◌, ◌++◌, length, get_or, take, set, sym, refl, ap, ◌∙◌, subst, ap₂, append-nil, mod-lt, add-one, arith, length-append, length-set, length-take-le, get_or-take, take-take, take-suc-set}
use lib.Seq.{take-length, take_all, append_snoc, take-set-lt}
use Rattle.random.specs.Lcg.{next_of, high, draw_addend}
use Rattle.random.specs.Leaders.{swap_remove, drawn, up_to}

pub length-up_to : (n : ℕ) → length (up_to n) ≡ n
unfolding up_to
length-up_to zero = refl
length-up_to (suc n) = let r = length-up_to n in omega (arith, length-append (up_to n) (n ∷ []))

pub record Drawing (start : ℕ) (left₀ out₀ : List ℕ) (i r : ℕ) (left out : List ℕ) : Type 0 where
  pub within : i ≤ length out₀
  pub same_left : length left ≡ length left₀
  pub same_out : length out ≡ length out₀
  pub whole : take i out ++ drawn (length out₀ - i) r (take (length left₀ - i) left) ≡ drawn (length out₀) start left₀

pub drawing_none : (start : ℕ) (left out : List ℕ) → Drawing start left out 0 start left out
drawing_none start left out = record {
  within = omega arith;
  same_left = refl;
  same_out = refl;
  whole =
      let c : length out - 0 ≡ length out = omega arith in
      let n : length left - 0 ≡ length left = omega arith in
      ap₂ (λ (k : ℕ) (m : ℕ). drawn k start (take m left)) c n ∙ ap (drawn (length out) start) (take-length left);
}

-- the first m of a list, with the last of them moved to p
pub moved : (left : List ℕ) (m p : ℕ) → m < length left → p ≤ m → swap_remove p (take (suc m) left) ≡ take m (set left p (get_or left m 0))
unfolding swap_remove
moved left m p h l =
    let e : length (take (suc m) left) - 1 ≡ m = omega (arith, length-take-le (suc m) left h) in
    ap (λ (k : ℕ). take k (set (take (suc m) left) p (get_or (take (suc m) left) k 0))) e
    ∙ ap (λ (x : ℕ). take m (set (take (suc m) left) p x)) (get_or-take (suc m) left m 0 (omega arith))
    ∙ ap (take m) (sym (take-set-lt (suc m) left p (get_or left m 0) (omega arith)))
    ∙ take-take m (suc m) (set left p (get_or left m 0)) (omega arith)

-- one draw from the first m + 1 of `left`
one_draw : (k r m : ℕ) (left : List ℕ) → m < length left
    → drawn (suc k) r (take (suc m) left)
    ≡ get_or left (high (next_of draw_addend r) % suc m) 0 ∷ drawn k (next_of draw_addend r) (take m (set left (high (next_of draw_addend r) % suc m) (get_or left m 0)))
unfolding drawn
one_draw k r m left h =
    let r' : ℕ = next_of draw_addend r in
    let h' : ℕ = high r' in
    let p-lt : h' % suc m < suc m = mod-lt h' (omega arith) in
    ap (λ (n : ℕ). get_or (take (suc m) left) (h' % n) 0 ∷ drawn k r' (swap_remove (h' % n) (take (suc m) left))) (length-take-le (suc m) left h)
    ∙ ap₂ (λ (x : ℕ) (l : List ℕ). x ∷ drawn k r' l) (get_or-take (suc m) left (h' % suc m) 0 p-lt) (moved left m (h' % suc m) h (omega (arith, p-lt)))

module _ (start : ℕ) (left₀ out₀ : List ℕ) where
  abbrev count : ℕ
  count = length out₀

  pub drawing_more : (i r : ℕ) (left out : List ℕ) → Drawing start left₀ out₀ i r left out → i < count → count ≤ length left₀
      → (p : ℕ) → p ≡ high (next_of draw_addend r) % (length left₀ - i)
      → Drawing start left₀ out₀ (i + 1) (next_of draw_addend r) (set left p (get_or left (length left₀ - i - 1) 0)) (set out i (get_or left p 0))
  drawing_more i r left out d h hl p e =
      let k : ℕ = count - i - 1 in
      let m : ℕ = length left₀ - i - 1 in
      let r' : ℕ = next_of draw_addend r in
      let last : ℕ = get_or left m 0 in
      let x : ℕ = get_or left p 0 in
      let rest' : List ℕ = drawn k r' (take m (set left p last)) in
      let a : count - (i + 1) ≡ k = omega arith in
      let b : length left₀ - (i + 1) ≡ m = omega arith in
      let c : count - i ≡ suc k = omega arith in
      let suc-m : length left₀ - i ≡ suc m = omega arith in
      let q : high r' % suc m ≡ p = ap (λ (n : ℕ). high r' % n) (sym suc-m) ∙ sym e in
      let one : drawn (count - i) r (take (length left₀ - i) left) ≡ x ∷ rest'
      = ap₂ (λ (a : ℕ) (n : ℕ). drawn a r (take n left)) c suc-m
      ∙ one_draw k r m left (omega (arith, d.same_left))
      ∙ ap (λ (z : ℕ). get_or left z 0 ∷ drawn k r' (take m (set left z (get_or left m 0)))) q in record {
        within = omega arith;
        same_left = length-set left p last ∙ d.same_left;
        same_out = length-set out i x ∙ d.same_out;
        whole =
            ap₂ (λ (a : List ℕ) (b : List ℕ). a ++ b)
            (ap (λ (j : ℕ). take j (set out i x)) (add-one i) ∙ take-suc-set out i x (omega (arith, d.same_out)))
            (ap₂ (λ (c : ℕ) (n : ℕ). drawn c r' (take n (set left p last))) a b)
            ∙ append_snoc (take i out) x rest'
            ∙ ap (λ (l : List ℕ). take i out ++ l) (sym one)
            ∙ d.whole;
      }

  pub drawing_done : (i r : ℕ) (left out : List ℕ) → Drawing start left₀ out₀ i r left out → count ≤ i → out ≡ drawn count start left₀
  unfolding drawn
  drawing_done i r left out d h =
      let none : count - i ≡ 0 = omega arith in
      sym (take_all i out (omega (arith, d.same_out)))
      ∙ sym (append-nil (take i out)) ∙ sym (ap (λ (n : ℕ). take i out ++ drawn n r (take (length left₀ - i) left)) none) ∙ d.whole

  -- the same, with the numbers as the code has them
  pub drawing_turn : (i r : ℕ) (left out : List ℕ) → Drawing start left₀ out₀ i r left out → i < count → count ≤ length left₀
      → (r' : ℕ) → r' ≡ next_of draw_addend r
      → Drawing start left₀ out₀ (i + 1) r' (set left (high r' % (length left - i)) (get_or left (length left - i - 1) 0)) (set out i (get_or left (high r' % (length left - i)) 0))
  drawing_turn i r left out d h hl r' e =
      subst (λ (s : ℕ). Drawing start left₀ out₀ (i + 1) s (set left (high s % (length left - i)) (get_or left (length left - i - 1) 0)) (set out i (get_or left (high s % (length left - i)) 0))) (sym e)
      (subst (λ (n : ℕ). Drawing start left₀ out₀ (i + 1) (next_of draw_addend r) (set left (high (next_of draw_addend r) % (n - i)) (get_or left (n - i - 1) 0)) (set out i (get_or left (high (next_of draw_addend r) % (n - i)) 0))) (sym d.same_left)
      (drawing_more i r left out d h hl (high (next_of draw_addend r) % (length left₀ - i)) refl))
