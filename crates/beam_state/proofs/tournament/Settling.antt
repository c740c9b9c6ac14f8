-- What a pair written, and the pair above one settled, leave of a tournament. Assumes nothing.
use mathlib.Core.Path.{◌≡◌, sym, ap, ap₂, ◌∙◌, subst}
use mathlib.Core.List.{List}
use Prim.Native.Nat.{ℕ, ◌+◌, ◌-◌, ◌*◌, ◌/◌, ◌%◌, ◌≤◌, ◌<◌, min}
use native.Mathlib.Omega.{arith}
use native.Mathlib.Decide.{ℕ_discrete, dec_lt}
use lib.ListN.{length, get_or, set, replicate, length-set, length-replicate, get_or-replicate}
use lib.Seq.{get_or-set_same, get_or-set_other}
use Rattle.beam_state.specs.Inside.Tournament.{rank_of, rank_at, with_pair, empty_rank, Tournament, Open}

-- ---- a pair written

module _ (tree : List ℕ) (p rank : ℕ) (h : 2 * p + 1 < length tree) where
  pub laid_here : rank_at (with_pair tree p rank) p ≡ rank
  laid_here =
      let i : get_or (with_pair tree p rank) (2 * p) 0 ≡ rank % 4294967296 = get_or-set_other (set tree (2 * p) (rank % 4294967296)) (2 * p + 1) (2 * p) (rank / 4294967296) 0 (λ e. omega arith) ∙ get_or-set_same tree (2 * p) (rank % 4294967296) 0 (omega arith) in
      let k : get_or (with_pair tree p rank) (2 * p + 1) 0 ≡ rank / 4294967296 = get_or-set_same (set tree (2 * p) (rank % 4294967296)) (2 * p + 1) (rank / 4294967296) 0 (omega (arith, length-set tree (2 * p) (rank % 4294967296))) in
      ap₂ rank_of k i ∙ omega arith

  pub laid_other : (q : ℕ) → (q ≡ p → ⊥) → rank_at (with_pair tree p rank) q ≡ rank_at tree q
  laid_other q ne = ap₂ rank_of (word (2 * q + 1) (λ e. omega arith) (λ e. ne (omega arith))) (word (2 * q) (λ e. ne (omega arith)) (λ e. omega arith))
    where
      word : (w : ℕ) → (w ≡ 2 * p → ⊥) → (w ≡ 2 * p + 1 → ⊥) → get_or (with_pair tree p rank) w 0 ≡ get_or tree w 0
      word w a b = get_or-set_other (set tree (2 * p) (rank % 4294967296)) (2 * p + 1) w (rank / 4294967296) 0 b ∙ get_or-set_other tree (2 * p) w (rank % 4294967296) 0 a

pub laid_length : (tree : List ℕ) (p rank : ℕ) → length (with_pair tree p rank) ≡ length tree
laid_length tree p rank = length-set (set tree (2 * p) (rank % 4294967296)) (2 * p + 1) (rank / 4294967296) ∙ length-set tree (2 * p) (rank % 4294967296)

-- ---- going up

-- the pair beside pair q
abbrev pub beside : ℕ → ℕ
beside q = q + 1 - 2 * (q % 2)

-- the pair above gets the lesser of pair q and the one beside it
module _ (leaves : List ℕ) (q : ℕ) (tree : List ℕ) (low : 1 < q) (high : q < 2 * (length tree / 4)) where
  abbrev pub above : ℕ
  above = q / 2

  abbrev pub least : ℕ
  least = min (rank_at tree q) (rank_at tree (beside q))

  abbrev pub tree' : List ℕ
  tree' = with_pair tree above least

  fits : 2 * above + 1 < length tree
  fits = omega arith

  -- of two numbers, whichever comes first
  either : min (rank_at tree (2 * above)) (rank_at tree (2 * above + 1)) ≡ least
  either = elim (dec_lt 0 (q % 2)) [
    | yes odd ↦
        let left : 2 * above ≡ beside q = omega arith in
        let right : 2 * above + 1 ≡ q = omega arith in
        omega (arith, ap (rank_at tree) left, ap (rank_at tree) right)
    | no even ↦
        let left : 2 * above ≡ q = omega arith in
        let right : 2 * above + 1 ≡ beside q = omega arith in
        omega (arith, ap (rank_at tree) left, ap (rank_at tree) right)
  ]

  pub open_up : Open leaves q tree → Open leaves above tree'
  open_up o = record {
    size = o.size ∙ ap (λ (k : ℕ). k / 4) (sym (laid_length tree above least));
    leaf = λ i h. laid_other tree above least fits (length leaves + i) (λ e. omega (arith, o.size)) ∙ o.leaf i h;
    inner = inner';
  }
    where
      inner' : (p : ℕ) → 1 ≤ p → p < length leaves → (p ≡ above / 2 → ⊥) → rank_at tree' p ≡ min (rank_at tree' (2 * p)) (rank_at tree' (2 * p + 1))
      inner' p a b ne =
          let x : rank_at tree' (2 * p) ≡ rank_at tree (2 * p) = laid_other tree above least fits (2 * p) (λ e. ne (omega arith)) in
          let y : rank_at tree' (2 * p + 1) ≡ rank_at tree (2 * p + 1) = laid_other tree above least fits (2 * p + 1) (λ e. ne (omega arith)) in
          elim (ℕ_discrete p above) [
            | yes e ↦ subst (λ (k : ℕ). rank_at tree' k ≡ min (rank_at tree (2 * k)) (rank_at tree (2 * k + 1))) (sym e) (laid_here tree above least fits ∙ sym either) ∙ sym (ap₂ min x y)
            | no e ↦ laid_other tree above least fits p e ∙ o.inner p a b e ∙ sym (ap₂ min x y)
          ]

pub open_end : (leaves : List ℕ) (q : ℕ) (tree : List ℕ) → q ≤ 1 → Open leaves q tree → Tournament leaves tree
open_end leaves q tree h o = record { size = o.size; leaf = o.leaf; inner = λ p a b. o.inner p a b (λ e. omega arith) }

-- up to pair p, whose rank is known
pub record Climbed (tree₀ : List ℕ) (from : ℕ) (tree : List ℕ) (p least : ℕ) : Type 0 where
  pub kept : length tree ≡ length tree₀
  pub inside : p < 2 * (length tree₀ / 4)
  pub rank_is : rank_at tree p ≡ least
  pub so_far : (leaves : List ℕ) → Open leaves from tree₀ → Open leaves p tree

pub climbed_more : (tree₀ tree tree' : List ℕ) (from p least other r : ℕ) → Climbed tree₀ from tree p least → 1 < p → other ≡ rank_at tree (beside p) → r ≡ min least other
    → tree' ≡ with_pair tree (p / 2) r → Climbed tree₀ from tree' (p / 2) r
climbed_more tree₀ tree tree' from p least other r c low o m e = record {
  kept = ap length e ∙ laid_length tree (p / 2) r ∙ c.kept;
  inside = omega (arith, c.inside);
  rank_is = ap (λ (t : List ℕ). rank_at t (p / 2)) e ∙ laid_here tree (p / 2) r (omega (arith, high));
  so_far = λ leaves x. subst (Open leaves (p / 2)) (sym (e ∙ ap (with_pair tree (p / 2)) least_is)) (open_up leaves p tree low high (c.so_far leaves x));
}
  where
    high : p < 2 * (length tree / 4)
    high = omega (arith, c.inside, c.kept)

    least_is : r ≡ min (rank_at tree p) (rank_at tree (beside p))
    least_is = m ∙ ap₂ min (sym c.rank_is) o

-- a rank put at a place leaves open the pair above it
pub open_put : (leaves tree : List ℕ) (place rank : ℕ) → Tournament leaves tree → place < length leaves
    → Open (set leaves place rank) (length tree / 4 + place) (with_pair tree (length tree / 4 + place) rank)
open_put leaves tree place rank t h = record {
  size = length-set leaves place rank ∙ t.size ∙ ap (λ (k : ℕ). k / 4) (sym (laid_length tree at rank));
  leaf = leaf';
  inner = inner';
}
  where
    at : ℕ
    at = length tree / 4 + place

    size_is : length leaves ≡ length tree / 4
    size_is = t.size

    fits : 2 * at + 1 < length tree
    fits = omega arith

    new : List ℕ
    new = set leaves place rank

    size_new : length new ≡ length leaves
    size_new = length-set leaves place rank

    leaf' : (i : ℕ) → i < length new → rank_at (with_pair tree at rank) (length new + i) ≡ get_or new i empty_rank
    leaf' i l = elim (ℕ_discrete i place) [
      | yes e ↦ ap (rank_at (with_pair tree at rank)) (here e) ∙ laid_here tree at rank fits ∙ sym (ap (λ (k : ℕ). get_or new k empty_rank) e ∙ get_or-set_same leaves place rank empty_rank h)
      | no e ↦ laid_other tree at rank fits (length new + i) (λ q. e (omega (arith, size_new, size_is))) ∙ ap (λ (k : ℕ). rank_at tree (k + i)) size_new ∙ t.leaf i (omega (arith, size_new, size_is)) ∙ sym (get_or-set_other leaves place i rank empty_rank e)
    ]
      where
        here : i ≡ place → length new + i ≡ at
        here e = omega (arith, size_new, size_is)

    inner' : (p : ℕ) → 1 ≤ p → p < length new → (p ≡ at / 2 → ⊥) → rank_at (with_pair tree at rank) p ≡ min (rank_at (with_pair tree at rank) (2 * p)) (rank_at (with_pair tree at rank) (2 * p + 1))
    inner' p a b ne =
        laid_other tree at rank fits p (λ e. omega (arith, size_new, size_is))
        ∙ t.inner p a (omega (arith, size_new, size_is))
        ∙ sym (ap₂ min (laid_other tree at rank fits (2 * p) (λ e. ne (omega (arith, size_new, size_is)))) (laid_other tree at rank fits (2 * p + 1) (λ e. ne (omega (arith, size_new, size_is)))))

-- ---- all empty

pub all_empty : (tree : List ℕ) → Tournament (replicate (length tree / 4) empty_rank) (replicate (length tree) 0xffff_ffff)
all_empty tree = record {
  size = size_is ∙ ap (λ (k : ℕ). k / 4) (sym (length-replicate (length tree) 0xffff_ffff));
  leaf = λ i h. empty (length (replicate (length tree / 4) empty_rank) + i) (omega (arith, size_is)) ∙ sym (get_or-replicate (length tree / 4) i empty_rank empty_rank (omega (arith, size_is)));
  inner = λ p a b. empty p (omega (arith, size_is)) ∙ sym (ap₂ min (empty (2 * p) (omega (arith, size_is))) (empty (2 * p + 1) (omega (arith, size_is))));
}
  where
    size_is : length (replicate (length tree / 4) empty_rank) ≡ length tree / 4
    size_is = length-replicate (length tree / 4) empty_rank

    empty : (p : ℕ) → 2 * p + 1 < length tree → rank_at (replicate (length tree) 0xffff_ffff) p ≡ empty_rank
    empty p h = ap₂ rank_of (get_or-replicate (length tree) (2 * p + 1) 0xffff_ffff 0 h) (get_or-replicate (length tree) (2 * p) 0xffff_ffff 0 (omega arith))
