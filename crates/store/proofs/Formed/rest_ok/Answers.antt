-- The header puts each part within the store, and the three tests are the definition's. Assumes nothing.
use Rattle.std.proofs.Common.{◌≡◌, ℕ, ◌+◌, ◌-◌, ◌*◌, ◌≤◌, length, take, drop, List, refl, sym, ap, ◌∙◌, arith, length-drop, length-take-le}
use Rattle.basics.specs.Lists.{pieces}
use Rattle.basics.proofs.Pieces.{pieces_take}
use Rattle.store.specs.Layout.{row_size, bridge_size}
use Rattle.store.specs.View.{row_words, bridge_words}
use Rattle.store.specs.WellFormed.{rest_ok}
use Rattle.store.proofs.Header.{header}
use Rattle.store.proofs.Sizes.{Room, room}
use Rattle.store.proofs.Formed.rest_ok.Goals as goal
use Rattle.store.proofs.Formed.rest_ok.Goals.{Start}

within : (s : Start) → Room s.args.self.words.now s.args.floats.now
within s =
    room s.args.self.words.now s.args.floats.now (header s.args.self.words.now s.args.self.header) s.requires.degree_at_in_bounds s.requires.dimension_at_in_bounds

-- n blocks of d words, which stand from `from` on, as a part of the words
blocks : (d n from to : ℕ) (xs : List ℕ) → to ≡ from + n * d → to ≤ length xs → pieces d n (take (to - from) (drop from xs)) ≡ pieces d n (drop from xs)
blocks d n from to xs e h =
    let m : to - from ≡ n * d = omega arith in
    ap (λ (k : ℕ). pieces d n (take k (drop from xs))) m ∙ pieces_take d n (drop from xs) (omega (arith, length-drop from xs))

pub slice_bounds-rows-end : goal.slice_bounds-rows-end
slice_bounds-rows-end c =
    rw (c.row_at-rows_to.ensures, c.layout-layout.ensures.0, c.layout-layout.ensures.1, c.word_at-n.ensures) (within (goal.at.slice_bounds-rows-end c).Start).rows

pub slice_bounds-bridges_ok-end : goal.slice_bounds-bridges_ok-end
slice_bounds-bridges_ok-end c =
    rw (c.bridge_at-bridges_to.ensures, c.layout-layout.ensures.0, c.layout-layout.ensures.1, c.word_at-count.ensures) (within (goal.at.slice_bounds-bridges_ok-end c).Start).bridges

pub slice_bounds-all_finite-end : goal.slice_bounds-all_finite-end
slice_bounds-all_finite-end c =
    sym (length-take-le _ _ (rw (c.floats_size-vectors_end.ensures, c.word_at.ensures, c.word_at-n.ensures) (within (goal.at.slice_bounds-all_finite-end c).Start).vectors))

pub returns : goal.returns
unfolding rest_ok row_words bridge_words
returns c =
    let words = c.args.self.words.now in
    let layout = c.layout-layout in
    let r = within (goal.at.returns c).Start in
    let rows = blocks (row_size layout.result.degree) c.word_at-n.result c.rows_at-rows_from.result c.row_at-rows_to.result words
    (rw (c.row_at-rows_to.ensures, c.rows_at-rows_from.ensures) refl)
    (rw (c.row_at-rows_to.ensures, layout.ensures.0, layout.ensures.1, c.word_at-n.ensures) r.rows) in
    let bridges = blocks bridge_size c.word_at-count.result c.bridges_at-bridges_from.result c.bridge_at-bridges_to.result words
    (rw (c.bridge_at-bridges_to.ensures, c.bridges_at-bridges_from.ensures) refl)
    (rw (c.bridge_at-bridges_to.ensures, layout.ensures.0, layout.ensures.1, c.word_at-count.ensures) r.bridges) in
    rw (c.all_finite.ensures, c.bridges_ok.ensures, c.ok.ensures, rows, bridges)
    (rw (c.rows_at-rows_from.ensures, c.bridges_at-bridges_from.ensures, c.floats_size-vectors_end.ensures)
    (rw (layout.ensures.0, layout.ensures.1, c.word_at.ensures, c.word_at-count.ensures, c.word_at-n.ensures) refl))
