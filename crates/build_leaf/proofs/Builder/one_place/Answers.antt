-- The candidates are passed on (`place_put`). Assumes nothing.
use mathlib.Core.Path.{subst}
use mathlib.Core.List.{List, map}
use Rattle.hashprune.specs.declared.Candidate.{Candidate}
use Rattle.hashprune.specs.Inside.Hashprune.{node_of, far_of}
use Rattle.build_leaf.specs.Inside.Built.{RowPut}
use Rattle.build_leaf.specs.Inside.Candidates.{node_in}
use Rattle.build_leaf.proofs.Rows.{place_put}
use Rattle.build_leaf.proofs.Builder.one_place.Goals as goal

pub returns : goal.returns
returns c =
    let x = c.args in
    let k = c.candidates_at-candidates in
    place_put x.self x.place x.rows.now _ k.result.items c.requires k.ensures
    (subst (λ (l : List Candidate). RowPut x.self (node_in x.place x.place.i) (map node_of l) (map far_of l) x.rows.now c.put_row.new.rows) c.as_slice.ensures.value c.put_row.ensures)
