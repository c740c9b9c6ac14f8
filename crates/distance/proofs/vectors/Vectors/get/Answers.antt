-- The part is the node's piece, or there is no such piece and the part is empty.
use native.Mathlib.Omega.{arith}
use mathlib.Core.Path.{◌≡◌, refl, sym, ap, ◌∙◌}
use mathlib.Core.List.{List, []}
use Prim.Native.Nat.{ℕ, ◌+◌, ◌-◌, ◌*◌, ◌/◌}
use lib.ListN.{length, get_or, take, drop}
use denote.Ref.{Bor}
use Rattle.std.proofs.Common.{inl, inr}
use Rattle.std.specs.Option.{unwrap_or}
use Rattle.std.specs.Prelude.{Option, Some, None}
use Rattle.std.specs.Slice.{IsGetRangeResult}
use Rattle.basics.specs.Lists.{pieces}
use Rattle.basics.proofs.Whole.{whole_piece, no_piece}
use Rattle.distance.proofs.vectors.Vectors.get.Goals as goal

piece_or : {A : Type 0} (d i : ℕ) (xs : List A) (e : Bor (List A)) (r : Option (Bor (List A))) → e.now ≡ [] → IsGetRangeResult xs (i * d) (i * d + d) r
    → (unwrap_or r e).now ≡ get_or (pieces d (length xs / d) xs) i []
piece_or d i xs e (Some part) n h =
    let size : i * d + d - i * d ≡ d = omega arith in
    h.0.2 ∙ ap (λ (k : ℕ). take k (drop (i * d) xs)) size ∙ sym (whole_piece d i xs h.0.1)
piece_or d i xs e None n h = elim h.0 [
  | inl p ↦ absurd (omega arith)
  | inr p ↦ n ∙ sym (no_piece d i xs p)
]

pub returns : goal.returns
returns c = ap (λ (r : Bor _). r.now) c.unwrap_or.ensures ∙ piece_or c.args.self.dimension c.args.node.0 c.args.self.components.now _ c.get.result refl c.get.ensures.lookup
