-- Empty rows are well bounded, and rows stay so where one is replaced by another that is. Assumes nothing.
use mathlib.Core.Path.{◌≡◌, refl, sym, ap, ◌∙◌, subst}
use mathlib.Core.List.Memᴰ.{not-nil as in-nil}
use mathlib.Core.List.{List, [], Memᴰ as In}
use Prim.Native.Nat.{ℕ, zero, suc, ◌≤◌}
use native.Mathlib.Omega.{arith}
use native.Mathlib.Decide.{ℕ_discrete, dec_lt}
use lib.ListN.{length, get_or, set, replicate, length-set, length-replicate}
use lib.Seq.{get_or-set_same, get_or-set_other, set_out}
use Rattle.basics.specs.Nodes.{Below}
use Rattle.basics.specs.Inside.Rows.{Rows}

empty_at : (n u : ℕ) → ◌≡◌ {A = List ℕ} (get_or (replicate n []) u []) []
empty_at zero u = refl
empty_at (suc n) zero = refl
empty_at (suc n) (suc u) = empty_at n u

pub empty_rows : (n d : ℕ) → Rows n d (replicate n [])
empty_rows n d = record {
  many = length-replicate n [];
  short = λ u. subst (λ (r : List ℕ). length r ≤ d) (sym (empty_at n u)) (omega arith);
  inside = λ u v m. absurd (in-nil (subst (In v) (empty_at n u) m));
}

-- what holds of the new row and of the old ones holds of each
pub set_row : (Q : List ℕ → Type 0) (rows : List (List ℕ)) (u : ℕ) (row : List ℕ) (w : ℕ)
    → Q row → Q (get_or rows w []) → Q (get_or (set rows u row) w [])
set_row Q rows u row w new old = elim (ℕ_discrete w u) [
  | yes e ↦ elim (dec_lt u (length rows)) [
    | yes k ↦ subst Q (sym (ap (λ (x : ℕ). get_or (set rows u row) x []) e ∙ get_or-set_same rows u row [] k)) new
    | no k ↦ subst Q (ap (λ (x : List (List ℕ)). get_or x w []) (sym (set_out rows u row (omega arith)))) old
  ]
  | no e ↦ subst Q (sym (get_or-set_other rows u w row [] e)) old
]

pub set_rows : (n d : ℕ) (rows : List (List ℕ)) (u : ℕ) (row : List ℕ) → Rows n d rows → length row ≤ d → Below n row → Rows n d (set rows u row)
set_rows n d rows u row h short below = record {
  many = length-set rows u row ∙ h.many;
  short = λ w. set_row (λ (r : List ℕ). length r ≤ d) rows u row w short (h.short w);
  inside = λ w. set_row (Below n) rows u row w below (h.inside w);
}
