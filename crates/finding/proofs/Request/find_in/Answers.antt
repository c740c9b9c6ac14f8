-- The nodes found stand at the front of `nodes`, and their doc ids go to the output (proofs/Replying). Assumes nothing.
use Rattle.std.proofs.Common.{ℕ, length, refl, ap, ◌∙◌}
use Rattle.store.specs.View.{view}
use Rattle.finding.specs.Inside.Finding.{nodes_found}
use Rattle.finding.proofs.Replying.{checked_into, docs_reply}
use Rattle.finding.proofs.Request.find_in.Goals as goal

pub returns : goal.returns
returns c room checked =
    let a = c.args in
    docs_reply _ _ a.self.words.now a.self.floats.now a.self.query.now a.self.k _ _ checked a.self.stops a.ef c.find_nodes-walked.result a.nodes.now _ a.docs.now _ a.distances.now _
    (c.find_nodes-walked.ensures (checked_into _ _ a.self.words.now a.self.floats.now a.self.query.now a.self.k _ _ checked (length a.nodes.now) room)
    ∙ ap (λ (places : ℕ). nodes_found a.self.stops (view a.self.words.now a.self.floats.now) a.self.query.now a.self.k places a.nodes.now a.distances.now) c.max-places.ensures)
    _ refl refl c.put_docs.ensures
