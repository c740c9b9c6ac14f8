-- The entry first, then the candidates around the lists of both nodes. Assumes nothing.
use Rattle.std.proofs.Common.{rules, ◌∷◌}
use Rattle.distance.specs.Vectors.{vectors_of}
use Rattle.lists.specs.Inside.Lists.{list_in}
use Rattle.graph_utils.specs.Inside.Candidates.{Seeking, considered_all}
use Rattle.graph_utils.proofs.candidates.Steps.{entries_fold, start_is}
use Rattle.graph_utils.proofs.candidates.bridge_start.Goals as goal

pub returns : goal.returns
returns c =
    let a = c.args in
    let k : Seeking = record { marks = a.state.now; n = a.lists.shape.n; vs = vectors_of a.vectors; query = c.get-query.result.now } in
    start_is a.state.now a.lists.shape.n (vectors_of a.vectors) (list_in a.lists) a.entry.0 a.i.0 _ _ c.fold-own.result c.fold-last.result c.get-query.ensures
    c.distance_from.ensures
    (entries_fold _ (λ b u. considered_all k (list_in a.lists u) b) _ c.fold-own.result c.of.ensures c.fold-own.ensures.ran (λ b x r f' h. search rules))
    (entries_fold _ (λ b u. considered_all k (u ∷ list_in a.lists u) b) _ c.fold-last.result c.of-2.ensures c.fold-last.ensures.ran (λ b x r f' h. search rules))
