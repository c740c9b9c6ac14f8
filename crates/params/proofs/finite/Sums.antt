-- A sum is finite only if all that it is of are. Assumes nothing.
use mathlib.Core.Path.{◌≡◌, refl, sym, ap, subst, ◌∙◌}
use mathlib.Core.Bool.{Bool, true, false, false≢true, beq, cond}
use mathlib.Core.List.{List, [], ◌∷◌, ◌++◌}
use Prim.Native.Nat.{ℕ, ◌+◌, ◌-◌, ◌*◌, ◌%◌, ◌≤◌, ◌<◌}
use native.Mathlib.Omega.{arith}
use native.Mathlib.Decide.{dec_lt}
use lib.ListN.{length, get_or, set, drop, length-set, length-drop, length-append}
use lib.Seq.{get_or-set_same, get_or-set_other, drop-drop}
use Rattle.std.proofs.lemmas.List.{drop_at}
use lib.Ieee.{Float, Format, binary32, nan, inf, fin, add}
use lib.Ieee.Scale.{finite}
use Rattle.basics.specs.Lists.{every}
use Rattle.basics.proofs.Pieces.{every_at, every_of}
use Rattle.basics.proofs.Tests.{both_true}
use Rattle.params.specs.Inside.Sums.{AddedUp}

infinite : (b s : Bool) → finite (cond b (inf s) nan) ≡ true → ⊥
infinite true s e = false≢true e
infinite false s e = false≢true e

pub both-finite : (f : Format) (x y : Float) → finite (add f x y) ≡ true → (finite x ≡ true) × (finite y ≡ true)
unfolding add
both-finite f nan y e = absurd (false≢true e)
both-finite f (inf s) nan e = absurd (false≢true e)
both-finite f (inf s) (inf t) e = absurd (infinite (beq s t) s e)
both-finite f (inf s) (fin t n d) e = absurd (false≢true e)
both-finite f (fin s m c) nan e = absurd (false≢true e)
both-finite f (fin s m c) (inf t) e = absurd (false≢true e)
both-finite f (fin s m c) (fin t n d) e = (refl, refl)

-- ---- one component to each sum

-- the first k of 32 sums have their components, the others are as they were
pub record Adding (sums₀ components sums : List Float) (k : ℕ) : Type 0 where
  pub long : length sums ≡ 32
  pub done : AddedUp k sums₀ components sums
  pub left : (c : ℕ) → k ≤ c → get_or sums c nan ≡ get_or sums₀ c nan

pub adding_none : (sums components : List Float) → length sums ≡ 32 → Adding sums components sums 0
adding_none sums components e = record { long = e; done = λ c h. absurd (omega arith); left = λ c h. refl }

pub adding_more : (sums₀ components sums : List Float) (k : ℕ) → k < 32 → Adding sums₀ components sums k
    → Adding sums₀ components (set sums k (add binary32 (get_or sums k nan) (get_or components k nan))) (k + 1)
adding_more sums₀ components sums k more a = record {
  long = length-set sums k sum ∙ a.long;
  done = λ c h. elim (dec_lt c k) [
    | yes t ↦ get_or-set_other sums k c sum nan (λ e. absurd (omega arith)) ∙ a.done c t
    | no t ↦
        let e : c ≡ k = omega arith in
        rw e
        (get_or-set_same sums k sum nan (omega (arith, a.long)) ∙ ap (λ (x : Float). add binary32 x (get_or components k nan)) (a.left k (omega arith)))
  ];
  left = λ c h. get_or-set_other sums k c sum nan (λ e. absurd (omega arith)) ∙ a.left c (omega arith);
}
  where
    sum : Float
    sum = add binary32 (get_or sums k nan) (get_or components k nan)

-- ---- turns of 32 components

-- after some turns, of which `rest` is left: what finite sums say
pub record Gathered (v sums rest : List Float) : Type 0 where
  pub long : length sums ≡ 32
  pub turns : ℕ
  pub at : rest ≡ drop (32 * turns) v
  pub within : 32 * turns ≤ length v
  pub tells : every finite sums ≡ true → every finite rest ≡ true → every finite v ≡ true

pub gathered_none : (v sums : List Float) → length sums ≡ 32 → Gathered v sums v
gathered_none v sums e = record { long = e; turns = 0; at = refl; within = omega arith; tells = λ f r. r }

every-append : (xs ys : List Float) → every finite xs ≡ true → every finite ys ≡ true → every finite (xs ++ ys) ≡ true
unfolding every
every-append [] ys e f = f
every-append (x ∷ xs) ys e f = let both = both_true (finite x) (every finite xs) e in rw both.0 (every-append xs ys both.1 f)

pub gathered_more : (v sums rest chunk rest' sums' : List Float) → Gathered v sums rest → rest ≡ chunk ++ rest' → length chunk ≡ 32 → length sums' ≡ 32 → AddedUp 32 sums chunk sums'
    → Gathered v sums' rest'
gathered_more v sums rest chunk rest' sums' g e size long added = record {
  long = long;
  turns = g.turns + 1;
  at = sym (drop_at chunk rest' 32 size) ∙ ap (drop 32) (sym e ∙ g.at) ∙ drop-drop 32 (32 * g.turns) v ∙ ap (λ (n : ℕ). drop n v) next;
  within = omega (arith, length-drop (32 * g.turns) v, ap length g.at, ap length e, length-append chunk rest', size);
  tells = λ f r. g.tells (every_of finite sums nan (λ k h. (both f k (omega (arith, g.long))).0))
      (subst (λ (xs : List Float). every finite xs ≡ true) (sym e) (every-append chunk rest' (every_of finite chunk nan (λ k h. (both f k (omega (arith, size))).1)) r));
}
  where
    next : 32 * g.turns + 32 ≡ 32 * (g.turns + 1)
    next = omega arith

    both : every finite sums' ≡ true → (k : ℕ) → k < 32 → (finite (get_or sums k nan) ≡ true) × (finite (get_or chunk k nan) ≡ true)
    both f k h = both-finite binary32 _ _ (sym (ap finite (added k h)) ∙ every_at finite sums' nan k f (omega (arith, long)))

-- all turns
pub gathered_all : (v sums rest : List Float) → Gathered v sums rest → length rest < 32 → every finite sums ≡ true
    → every finite (drop (length v - length v % 32) v) ≡ true → every finite v ≡ true
gathered_all v sums rest g few f r =
    let same : length v - length v % 32 ≡ 32 * g.turns = omega (arith, length-drop (32 * g.turns) v, ap length g.at, g.within) in
    g.tells f (subst (λ (xs : List Float). every finite xs ≡ true) (sym (g.at ∙ ap (λ (n : ℕ). drop n v) (sym same))) r)
