-- A refusal has written nothing; accepted, node n's places are free and the three stores go there. Assumes nothing.
use mathlib.Core.Path.{◌≡◌, sym, ◌∙◌}
use Prim.Native.Nat.{◌+◌}
use native.Mathlib.Omega.{arith}
use lib.ListN.{set}
use Rattle.std.proofs.lemmas.Result.{err_from_is_err_and}
use Rattle.basics.specs.Refusals.{first_refusal}
use Rattle.error.specs.Inside.Refused.{number_of}
use Rattle.error.proofs.Laws.{never_zero}
use Rattle.store.specs.Layout.{nodes_at}
use Rattle.pipnn.specs.Answer.{Answer}
use Rattle.pipnn.specs.Add.{add_checks, added_words, added_floats, add_spec}
use Rattle.pipnn.proofs.Answer.{left_alone, changed}
use Rattle.pipnn.proofs.AddLaws.{add_taken}
use Rattle.pipnn.proofs.add_slice.Goals as goal

pub returns-in_err-check_add : goal.returns-in_err-check_add
unfolding add_spec
returns-in_err-check_add c =
    let a = c.args in
    let p = err_from_is_err_and c.from_residual.result c.from_residual.ensures.1 in
    rw (p.1, p.2) (left_alone (first_refusal (add_checks a.words.now a.floats.now a.vector.now)) _ _ _ _ (number_of _) c.in_err-check_add.ensures (never_zero _))

pub put_vector-requires : goal.put_vector-requires
put_vector-requires c =
    let a = c.args in
    rw (c.floats_size-at.ensures, c.word_at.ensures, c.word_at-n.ensures) (add_taken a.words.now a.floats.now a.vector.now (sym c.in_ok-check_add.ensures)).vector

pub overflow_add-words : goal.overflow_add-words
overflow_add-words c =
    let a = c.args in
    let t = add_taken a.words.now a.floats.now a.vector.now (sym c.in_ok-check_add.ensures) in
    omega (arith, c.word_at-n.ensures, t.free, t.stores.header.capacity.most)

pub bounds-words-2 : goal.bounds-words-2
bounds-words-2 c =
    let a = c.args in
    let t = add_taken a.words.now a.floats.now a.vector.now (sym c.in_ok-check_add.ensures) in
    omega (arith, c.put_doc.auto.words, t.stores.long)

pub returns : goal.returns
unfolding add_spec added_words added_floats
returns c =
    let a = c.args in
    let n = c.word_at-n in
    let doc = c.put_doc in
    let vector = c.put_vector in
    let words : set doc.new.words nodes_at (n.result + 1) ≡ added_words a.words.now a.doc.0 = rw (doc.ensures, n.ensures) in
    let floats : vector.new.floats ≡ added_floats a.words.now a.floats.now a.vector.now =
    rw (vector.ensures, c.floats_size-at.ensures, n.ensures, c.word_at.ensures) in
    ◌∙◌ {A = Answer} (λ i. (0, words i, floats i)) (changed (first_refusal (add_checks a.words.now a.floats.now a.vector.now)) _ _ _ _ (sym c.in_ok-check_add.ensures))
