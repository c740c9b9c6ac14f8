-- `tournament::put` meets its contract: the pair written leaves open the pair above it, which `climb` settles. Assumes nothing.
use mathlib.Core.Path.{◌∙◌, ap, sym, subst}
use mathlib.Core.List.{List}
use Prim.Native.Nat.{ℕ, ◌+◌, ◌/◌}
use lib.ListN.{length, set}
use Rattle.beam_state.specs.Inside.Tournament.{rank_at, with_pair, Open}
use Rattle.beam_state.proofs.tournament.Settling.{open_put, laid_here, laid_length}
use native.Mathlib.Omega.{arith}
use Rattle.beam_state.proofs.tournament.put.Goals as goal

pub climb-requires : goal.climb-requires
climb-requires c =
    let t = c.args.tree.now in
    let p : ℕ = length t / 4 + c.args.place in
    let r = c.rank-new.result in
    let l = c.lay in (
      omega (arith, c.if-at-size.false, ap length l.ensures ∙ laid_length t p r),
      ap (λ (x : List ℕ). rank_at x p) l.ensures ∙ laid_here t p r (omega (arith, c.if-at-size.false)),
    )

pub shape_of-tree : goal.shape_of-tree
shape_of-tree c = c.climb.auto.tree ∙ c.lay.auto.tree

pub returns : goal.returns
returns c =
    let a = c.args in
    let t = a.tree.now in
    let k = c.rank-new.ensures in
    let l = c.lay.ensures in
    λ leaves x h. c.climb.ensures _ (subst (Open (set leaves a.place _) (length t / 4 + a.place)) (sym (l ∙ ap (with_pair t (length t / 4 + a.place)) k)) (open_put leaves t a.place _ x h))
