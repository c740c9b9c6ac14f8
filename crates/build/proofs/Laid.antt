-- Parts of the word store that were passed on and written: what the store then is, as words laid over others. Assumes nothing.
use mathlib.Core.Path.{◌≡◌, sym, ap, ap₂, ◌∙◌}
use mathlib.Core.List.{List, ◌++◌}
use Prim.Native.Nat.{ℕ, ◌+◌, ◌≤◌, ◌<◌}
use native.Mathlib.Omega.{arith}
use lib.ListN.{length, take, drop, set}
use lib.Seq.{drop-drop, length-take-le, take-set-lt, drop-set-lt, set-append_left}
use borrow.Rule.Slice.PartMut.{put_mid}
use Rattle.def_calls.specs.Build.{laid}

-- a part in place of which xs was put
pub put_laid : (at k : ℕ) (w xs : List ℕ) → k ≡ length xs → put_mid at k w xs ≡ laid at xs w
put_laid at k w xs e = ap (λ (l : List ℕ). take at w ++ (xs ++ l)) (drop-drop k at w ∙ ap (λ (j : ℕ). drop (at + j) w) e)

-- a word before the place can be set first
pub set-laid : (at i v : ℕ) (xs w : List ℕ) → i < at → at ≤ length w → set (laid at xs w) i v ≡ laid at xs (set w i v)
set-laid at i v xs w h fits =
    set-append_left (take at w) (xs ++ drop (at + length xs) w) i v (omega (arith, length-take-le at w fits))
    ∙ ap₂ (λ (p : List ℕ) (q : List ℕ). p ++ (xs ++ q)) (sym (take-set-lt at w i v h)) (sym (drop-set-lt (at + length xs) w i v (omega arith)))
