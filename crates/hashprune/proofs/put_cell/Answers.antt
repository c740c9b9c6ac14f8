-- The hash belongs behind those below it. Where it stands there already the cell is contested, else the cell is inserted there; proofs/Cells says
-- that either is what `put_cell` does. Assumes nothing.
use mathlib.Core.Path.{◌≡◌, sym, ap, ap₂, subst, ◌∙◌}
use mathlib.Core.List.{List}
use Prim.Native.Nat.{◌<◌}
use native.Mathlib.Omega.{arith}
use lib.Dec.{leb}
use lib.ListN.{length, get_or, set, length-set}
use Rattle.std.specs.List.{position}
use Rattle.std.specs.Option.{unwrap_or}
use Rattle.arrayvec.proofs.ArrayVecLemmas.{items-with_items}
use Rattle.hashprune.specs.declared.Cell.{Cell}
use Rattle.hashprune.specs.Inside.Steps.{no_cell, place_in, cells_in, winner}
use Rattle.hashprune.proofs.Cells.{taken_cells, new_cells, holder_inside}
use Rattle.hashprune.proofs.put_cell.Goals as goal
use Rattle.hashprune.proofs.put_cell.Goals.{After-unwrap_or-at, else-at-len-via-then-at-len+else-as_slice-at, else-at-len-via-else-at-len}

found : (c : After-unwrap_or-at)
    → c.unwrap_or-at.result ≡ unwrap_or (position (λ (cell : Cell). leb c.args.new.hash cell.hash) c.args.cells.now.items) (length c.args.cells.now.items)
found c =
    c.unwrap_or-at.ensures
    ∙ ap₂ unwrap_or (c.place_of.ensures ∙ ap (position (λ (cell : Cell). leb c.args.new.hash cell.hash)) c.as_slice.ensures.value) c.len.ensures.value

pub contest-requires : goal.contest-requires
contest-requires c =
    let a = c.args in
    let cells = a.cells.now.items in
    let at = c.unwrap_or-at.result in
    let inside : at < length cells = omega (arith, c.if-at-len.true, c.len-2.ensures.value) in
    let holder = holder_inside a.candidates.now a.new cells at (found (goal.at.contest-requires c).After-unwrap_or-at) (length a.candidates.now) c.requires.inside inside in
    subst (λ (l : List Cell). (at < length l) × (a.new.place < length a.candidates.now) × (place_in (get_or l at no_cell) < length a.candidates.now))
    (sym c.as_mut_slice.ensures.value) (inside, c.requires.place_inside, holder)

pub returns-then-as_slice-at : goal.returns-then-as_slice-at
returns-then-as_slice-at c =
    let a = c.args in
    let cells = a.cells.now.items in
    let at = c.unwrap_or-at.result in
    let inside : at < length cells = omega (arith, c.if-at-len.true, c.len-2.ensures.value) in
    let same : (get_or cells at no_cell).hash ≡ a.new.hash
    = subst (λ (l : List Cell). (get_or l at no_cell).hash ≡ a.new.hash) c.as_slice-then-at-len.ensures.value c.if-as_slice-at.true in
    let won : c.contest.new.cells ≡ set cells at (winner a.candidates.now a.new.place (get_or cells at no_cell))
    = c.contest.ensures ∙ ap (λ (l : List Cell). set l at (winner a.candidates.now a.new.place (get_or l at no_cell))) c.as_mut_slice.ensures.value in
    let long : length c.contest.new.cells ≡ length cells = ap length won ∙ length-set cells at (winner a.candidates.now a.new.place (get_or cells at no_cell)) in
    let after = items-with_items a.cells.now c.contest.new.cells long in
    let put = taken_cells a.candidates.now a.new cells at (found (goal.at.returns-then-as_slice-at c).After-unwrap_or-at) c.contest.new.cells inside same won in
    (omega (arith, ap length after, long), ap cells_in after ∙ put)

pub returns : goal.returns
returns c =
    let a = c.args in
    let cells = a.cells.now.items in
    let at = c.unwrap_or-at.result in
    let other : at < length cells → (get_or cells at no_cell).hash ≡ a.new.hash → ⊥
    = λ h e. elim c.else-at-len.branch [
      | else-at-len-via-then-at-len+else-as_slice-at w ↦
          w.if-as_slice-at.false (subst (λ (l : List Cell). (get_or l at no_cell).hash ≡ a.new.hash) (sym w.as_slice-then-at-len.ensures.value) e)
      | else-at-len-via-else-at-len w ↦ absurd (omega (arith, w.if-at-len.false, c.len-2.ensures.value))
    ] in
    let put = new_cells a.candidates.now a.new cells at (found (goal.at.returns c).After-unwrap_or-at) c.open_cell.new.cells.items other c.open_cell.ensures.items in
    (omega (arith, c.open_cell.ensures.len), put)
