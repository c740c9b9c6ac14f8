-- Every lane holds the distances of the places passed. Assumes nothing.
use native.Mathlib.Omega.{arith}
use mathlib.Core.Path.{◌≡◌, refl, ap, ap₂, ◌∙◌}
use mathlib.Core.List.{List, ◌++◌}
use Prim.Native.Nat.{ℕ, ◌+◌, ◌-◌, ◌*◌, ◌≤◌}
use borrow.Rule.Slice.PartMut.{put_mid}
use lib.ListN.{length, take, drop, length-append, length-take, length-drop}
use lib.Seq.{drop-drop}
use Rattle.std.proofs.Common.{rules}
use lib.Ieee.{Float}
use Rattle.distance.specs.Distance.{block_distances_of}
use Rattle.build_leaf.proofs.leaf_distances.Laws.{filled_none, filled_more, filled_all}
use Rattle.build_leaf.proofs.leaf_distances.Leaf.distance_rows.Goals as goal

pub loop-j-init : goal.loop-j-init
loop-j-init c = let x = c.args in (refl, filled_none x.self x.block.now x.floats.now)

-- eight numbers written side by side
written : (f e part : List Float) (at k : ℕ) → at + k ≡ at + 8 → part ≡ e → put_mid at k f part ≡ take at f ++ (e ++ drop (at + 8) f)
written f e part at k size is =
    ap₂ (λ (p rest : List Float). take at f ++ (p ++ rest)) is (drop-drop k at f ∙ ap (λ (n : ℕ). drop n f) size)

as_long : (f e next : List Float) (at : ℕ) → at + 8 ≤ length f → length e ≡ 8 → next ≡ take at f ++ (e ++ drop (at + 8) f) → length next ≡ length f
as_long f e next at room eight w =
    omega (arith, ap length w, length-append (take at f) (e ++ drop (at + 8) f), length-append e (drop (at + 8) f), length-take at f, length-drop (at + 8) f)

pub loop-j-preserved : goal.loop-j-preserved
loop-j-preserved c =
    let l = c.loop-j in
    let x = c.args in
    let e = c.cosine_distance_normalized_block-distances in
    let at : ℕ = 8 * l.j in
    let room : at + 8 ≤ length l.floats = omega (arith, l.invariant.0, c.requires) in
    let next = written l.floats e.result c.copy_from_slice.new.self at (at + 8 - at) (omega arith) (search rules) in (
      as_long l.floats e.result _ at room (ap length e.ensures) next ∙ l.invariant.0,
      filled_more x.self x.block.now l.j at l.floats _ e.result (omega arith) refl room
          (e.ensures ∙ ap (λ (q : List Float). block_distances_of q x.block.now) c.get-v.ensures) next l.invariant.1,
    )

pub returns : goal.returns
returns c =
    let l = c.loop-j in
    let x = c.args in
    filled_all x.self x.block.now l.j l.floats (omega arith) (omega arith) l.invariant.1
