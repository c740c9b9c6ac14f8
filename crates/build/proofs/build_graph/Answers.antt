-- The numbers that are read are the header's, so the parts that are passed on are those of the view; the rows and then the repair make the
-- definition's store (proofs/Graph). Assumes nothing.
use mathlib.Core.Path.{◌≡◌, sym, ap, ap₂, ◌∙◌}
use mathlib.Core.List.{List}
use Prim.Native.Nat.{ℕ, ◌-◌, ◌*◌, ◌≤◌}
use lib.ListN.{length, take, drop, length-drop}
use lib.Seq.{length-take-le}
use lib.Ieee.{Float}
use borrow.Rule.Slice.PartMut.{same_len_mid}
use Rattle.params.specs.declared.PipnnParams.{PipnnParams}
use Rattle.store.specs.Layout.{word, nodes_at, dimension_at, capacity_at, degree_at, rows_at, row_size, row_at}
use Rattle.store.specs.View.{params_of}
use Rattle.lists.proofs.Parts.{row_part, vector_part}
use Rattle.def_calls.proofs.Taken.{BuildTaken, build_taken}
use Rattle.build.proofs.Graph.{rows_fit, rows_fit_at, repair_fits, repair_fits_at, graph_built_at}
use native.Mathlib.Nat.{le_refl}
use native.Mathlib.Omega.{arith}
use Rattle.build.proofs.build_graph.Goals as goal
use Rattle.build.proofs.build_graph.Goals.{After-row_at-to, Start}

abbrev Taken : Start → Type 0
Taken s = BuildTaken (length s.args.scratch_words.now) (length s.args.scratch_floats.now) s.args.words.now s.args.floats.now

taken : (s : Start) → Taken s
taken s = build_taken _ _ _ _ s.requires

abbrev w : After-row_at-to → List ℕ
w c = c.args.words.now

abbrev f : After-row_at-to → List Float
f c = c.args.floats.now

n_is : (c : After-row_at-to) → c.word_at-n.result ≡ word (w c) nodes_at
n_is c = c.word_at-n.ensures

d_is : (c : After-row_at-to) → c.word_at-dimension.result ≡ word (w c) dimension_at
d_is c = c.word_at-dimension.ensures

C-is : (c : After-row_at-to) → c.word_at.result ≡ word (w c) capacity_at
C-is c = c.word_at.ensures

p_is : (c : After-row_at-to) → c.params_of-p.result ≡ params_of (w c)
p_is c = c.params_of-p.ensures

D-is : (c : After-row_at-to) → c.params_of-p.result.max_degree ≡ word (w c) degree_at
unfolding params_of
D-is c = ap (λ (q : PipnnParams). q.max_degree) (p_is c)

end_is : (c : After-row_at-to) → c.floats_size-end.result ≡ word (w c) nodes_at * word (w c) dimension_at
end_is c = c.floats_size-end.ensures ∙ ap₂ (λ (x : ℕ) (y : ℕ). x * y) (n_is c) (d_is c)

from_is : (c : After-row_at-to) → c.rows_at-from.result ≡ rows_at (word (w c) capacity_at)
from_is c = c.rows_at-from.ensures ∙ ap rows_at (C-is c)

to_is : (c : After-row_at-to) → c.row_at-to.result ≡ row_at (word (w c) capacity_at) (word (w c) degree_at) (word (w c) nodes_at)
to_is c = c.row_at-to.ensures ∙ (λ i. row_at (C-is c i) (D-is c i) (n_is c i))

row_size_is : (c : After-row_at-to) → c.row_at-to.result - c.rows_at-from.result ≡ word (w c) nodes_at * row_size (word (w c) degree_at)
row_size_is c = omega (arith, to_is c, from_is c)

rows_are : (c : After-row_at-to) → take (c.row_at-to.result - c.rows_at-from.result) (drop c.rows_at-from.result (w c)) ≡ row_part (w c) (f c) (build_taken _ _ _ _ c.requires).stores.room
rows_are c = ap₂ (λ (k : ℕ) (j : ℕ). take k (drop j (w c))) (row_size_is c) (from_is c)

vectors_are : (c : After-row_at-to) → take c.floats_size-end.result (f c) ≡ vector_part (w c) (f c) (build_taken _ _ _ _ c.requires).stores.room
vectors_are c = ap (λ (k : ℕ). take k (f c)) (end_is c)

part-within : (c : After-row_at-to) → c.row_at-to.result - c.rows_at-from.result ≤ length (drop c.rows_at-from.result (w c))
part-within c = omega (arith, to_is c, from_is c, (build_taken _ _ _ _ c.requires).stores.room.rows, length-drop c.rows_at-from.result (w c))

vectors_within : (c : After-row_at-to) → c.floats_size-end.result ≤ length (f c)
vectors_within c = omega (arith, end_is c, (build_taken _ _ _ _ c.requires).stores.room.vectors)

pub put_rows-requires : goal.put_rows-requires
put_rows-requires c =
    let t = taken (goal.at.put_rows-requires c).Start in
    rows_fit_at (n_is (goal.at.put_rows-requires c).After-row_at-to) (d_is (goal.at.put_rows-requires c).After-row_at-to) (p_is (goal.at.put_rows-requires c).After-row_at-to) (rows_are (goal.at.put_rows-requires c).After-row_at-to) (vectors_are (goal.at.put_rows-requires c).After-row_at-to) (rows_fit _ _ _ _ t)

pub repair_rows-requires : goal.repair_rows-requires
repair_rows-requires c =
    let put = c.put_rows in
    let k : ℕ = c.row_at-to.result - c.rows_at-from.result in
    repair_fits_at (n_is (goal.at.repair_rows-requires c).After-row_at-to) (C-is (goal.at.repair_rows-requires c).After-row_at-to) (D-is (goal.at.repair_rows-requires c).After-row_at-to) (d_is (goal.at.repair_rows-requires c).After-row_at-to) (vectors_are (goal.at.repair_rows-requires c).After-row_at-to)
    (repair_fits _ _ _ _ (taken (goal.at.repair_rows-requires c).Start) _ _ _ _ (same_len_mid c.rows_at-from.result k (w (goal.at.repair_rows-requires c).After-row_at-to) put.new.rows put.auto.rows) (le_refl 2048)
    put.auto.scratch_words put.auto.scratch_floats)

pub returns : goal.returns
returns c =
    let put = c.put_rows in
    let full = put.auto.rows ∙ length-take-le _ _ (part-within (goal.at.returns c).After-row_at-to) in
    graph_built_at (taken (goal.at.returns c).Start) (n_is (goal.at.returns c).After-row_at-to) (C-is (goal.at.returns c).After-row_at-to) (D-is (goal.at.returns c).After-row_at-to) (d_is (goal.at.returns c).After-row_at-to) (p_is (goal.at.returns c).After-row_at-to) (vectors_are (goal.at.returns c).After-row_at-to) (from_is (goal.at.returns c).After-row_at-to) (sym full)
    put.ensures c.repair_rows.ensures

pub overflow_cast-layout : goal.overflow_cast-layout
overflow_cast-layout c = omega (arith, ap (λ (q : PipnnParams). q.max_degree) c.params_of-p.ensures, (taken (goal.at.overflow_cast-layout c).Start).stores.header.params.degree_most)

pub slice_bounds-put_rows-end : goal.slice_bounds-put_rows-end
slice_bounds-put_rows-end c = omega (arith, to_is (goal.at.slice_bounds-put_rows-end c).After-row_at-to, (taken (goal.at.slice_bounds-put_rows-end c).Start).stores.room.rows)

pub slice_bounds-vectors-end : goal.slice_bounds-vectors-end
slice_bounds-vectors-end c =
    let t = taken (goal.at.slice_bounds-vectors-end c).Start in
    let end : c.floats_size-end.result ≡ word c.args.words.now nodes_at * word c.args.words.now dimension_at =
    c.floats_size-end.ensures ∙ ap₂ (λ (x : ℕ) (y : ℕ). x * y) c.word_at-n.ensures c.word_at-dimension.ensures in
    sym (length-take-le _ _ (omega (arith, end, t.stores.room.vectors)))
