-- A refusal has written nothing, a built store stays, and an open one gets its graph. Assumes nothing.
use mathlib.Core.Path.{sym, ◌∙◌}
use mathlib.Core.List.{List}
use Prim.Native.Nat.{ℕ}
use lib.ListN.{length}
use native.Mathlib.Omega.{arith}
use borrow.Author.Tests.{eq-eqb, ne_eqb}
use Rattle.std.proofs.lemmas.Result.{err_from_is_err_and}
use Rattle.error.specs.Inside.Refused.{number_of}
use Rattle.error.proofs.Laws.{never_zero}
use Rattle.basics.specs.Choice.{pick_true, pick_false}
use Rattle.basics.specs.Refusals.{first_refusal}
use Rattle.store.specs.View.{view}
use Rattle.pipnn.specs.Answer.{Answer}
use Rattle.pipnn.proofs.Answer.{left_alone, changed}
use Rattle.def_calls.specs.Graph.{graph_for}
use Rattle.def_calls.specs.Build.{build_checks, built_words, build_spec}
use Rattle.build.proofs.build.Goals as goal
use Rattle.build.proofs.build.Goals.{Start}

abbrev refusal : Start → ℕ
refusal s = first_refusal (build_checks (length s.args.scratch_words.now) (length s.args.scratch_floats.now) s.args.words.now s.args.floats.now)

abbrev words : Start → List ℕ
words s = built_words (graph_for (view s.args.words.now s.args.floats.now)) s.args.words.now

pub returns-in_err-check_build : goal.returns-in_err-check_build
unfolding build_spec
returns-in_err-check_build c =
    let p = err_from_is_err_and c.from_residual.result c.from_residual.ensures.1 in
    rw (p.1, p.2) (left_alone (refusal (goal.at.returns-in_err-check_build c).Start) _ _ _ _ (number_of _) c.in_err-check_build.ensures (never_zero _))

pub returns-then-word_at-eq-BUILT : goal.returns-then-word_at-eq-BUILT
unfolding build_spec
returns-then-word_at-eq-BUILT c =
    let s = (goal.at.returns-then-word_at-eq-BUILT c).Start in
    let same = pick_true c.args.words.now (words s) (eq-eqb _ _ (omega (arith, c.word_at.ensures))) in
    ◌∙◌ {A = Answer} (λ i. (0, sym same i, c.args.floats.now)) (changed (refusal s) _ _ _ _ (sym c.in_ok-check_build.ensures))

pub returns : goal.returns
unfolding build_spec
returns c =
    let s = (goal.at.returns c).Start in
    let graph = pick_false c.args.words.now (words s) (ne_eqb _ _ (λ e. omega (arith, c.word_at.ensures, e))) in
    ◌∙◌ {A = Answer} (λ i. (0, (c.build_graph.ensures ∙ sym graph) i, c.args.floats.now)) (changed (refusal s) _ _ _ _ (sym c.in_ok-check_build.ensures))

pub build_graph-requires : goal.build_graph-requires
build_graph-requires c = sym c.in_ok-check_build.ensures
