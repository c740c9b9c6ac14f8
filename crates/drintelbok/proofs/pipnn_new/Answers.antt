-- A final_prune that is neither 0 nor 1 is refused where the dimension is not; all else is `new`. Assumes nothing.
use mathlib.Core.Path.{◌∙◌}
use Rattle.params.specs.declared.PipnnParams.{PipnnParams}
use Rattle.pipnn.specs.New.{new_spec}
use Rattle.drintelbok.specs.New.{params_from}
use Rattle.drintelbok.proofs.New.{turned_back_lem, passed_on}
use Rattle.drintelbok.proofs.pipnn_new.Goals as goal
use Rattle.drintelbok.proofs.pipnn_new.Goals.{Start}

pub returns-then-dimension_within-final_prune : goal.returns-then-dimension_within-final_prune
returns-then-dimension_within-final_prune c =
    let a = c.args in
    (λ i. (c.number.ensures i, a.words.now, a.floats.now))
    ∙ turned_back_lem a.dimension a.final_prune _ a.capacity a.words.now a.floats.now c.dimension_within.result c.dimension_within.ensures c.if-dimension_within-final_prune.true

abbrev params : Start → PipnnParams
params s =
    let a = s.args in
    params_from a.max_leaf_size a.min_leaf_size a.leader_fraction a.max_degree a.num_hash_bits a.final_prune a.alpha a.ef_search

pub returns : goal.returns
returns c =
    let a = c.args in
    let within = c.dimension_within in
    ◌∙◌ {b = new_spec a.dimension (params (goal.at.returns c).Start) a.capacity a.words.now a.floats.now}
    ((λ i. (c.number_or_zero.ensures i, c.new.new.words, c.new.new.floats)) ∙ c.new.ensures)
    (passed_on a.dimension a.final_prune (params (goal.at.returns c).Start) a.capacity a.words.now a.floats.now within.result within.ensures c.if-dimension_within-final_prune.false)
