-- Where there are more rows than an index has nodes nothing is promised; else the turns on words are the definition's, from marks that are all
-- zero. Assumes nothing.
use native.Mathlib.Omega.{arith}
use mathlib.Core.Path.{◌≡◌, sym, ap, ◌∙◌}
use mathlib.Core.List.{List, []}
use Prim.Native.Nat.{ℕ, ◌/◌, ◌≤◌}
use lib.ListN.{length, replicate, length-map, length-replicate, get_or-replicate}
use lib.Dec.{eqb}
use Rattle.basics.specs.Nodes.{has}
use Rattle.basics.specs.Lists.{pieces}
use Rattle.basics.proofs.Pieces.{length_pieces}
use Rattle.store.specs.Layout.{row_size}
use Rattle.store.specs.View.{entries_in}
use Rattle.lists.specs.Inside.Words.{row_lists}
use Rattle.distance.specs.Vectors.{vectors_of}
use Rattle.graph_utils.proofs.marking.Refining.{Marked}
use Rattle.graph_utils.specs.Inside.Turns.{work}
use Rattle.graph_utils.proofs.Refining.{all_repaired}
use Rattle.graph_utils.proofs.ensure_connectivity.Goals as goal

many_rows : (D : ℕ) (ws : List ℕ) → length (row_lists D ws) ≡ length ws / row_size D
many_rows D ws = length-map (pieces (row_size D) (length ws / row_size D) ws) entries_in ∙ length_pieces (row_size D) (length ws / row_size D) ws

-- of zeroes no node is marked
none_marked : (n : ℕ) → n ≤ 1024 → Marked n [] (replicate 2048 0)
unfolding has
none_marked n h = record {
  room = omega (arith, length-replicate {A = ℕ} 2048 0);
  told = λ v k. ap (λ (x : ℕ). eqb x 0) (get_or-replicate 2048 v 0 0 (omega arith));
  once = tt;
  below = λ x m. absurd (mathlib.Core.List.Memᴰ.not-nil m);
}

pub returns-then-n-gt1024 : goal.returns-then-n-gt1024
returns-then-n-gt1024 c =
    let a = c.args in
    λ g. absurd (omega (arith, g.many, many_rows a.degree a.rows.now))

pub returns : goal.returns
returns c =
    let a = c.args in
    let p = c.repair in
    let n : ℕ = length a.rows.now / row_size a.degree in
    λ g. all_repaired a.degree a.rows.now a.entry.0 (vectors_of a.vectors) a.bridges.now a.words.now g (replicate 2048 0)
    (none_marked (length (row_lists a.degree a.rows.now)) g.many) n (sym (many_rows a.degree a.rows.now))
    (work p.result p.new.bridges p.new.links p.new.state) p.ensures
