-- A refusal has written nothing; accepted, the sizes lie within both stores, and the header, then zeros, take their place. Assumes nothing.
use Rattle.std.proofs.Common.{◌≡◌, refl, sym, ◌∙◌, arith, length-take-le}
use Rattle.std.proofs.lemmas.Result.{err_from_is_err_and}
use lib.Ieee.{binary32, of_bits}
use Rattle.basics.specs.Sum.{+zero}
use Rattle.basics.specs.Refusals.{first_refusal}
use Rattle.error.specs.Inside.Refused.{number_of}
use Rattle.error.proofs.Laws.{never_zero}
use Rattle.pipnn.specs.Answer.{Answer}
use Rattle.pipnn.specs.New.{new_checks, new_spec}
use Rattle.pipnn.proofs.Answer.{left_alone, changed}
use Rattle.pipnn.proofs.NewLaws.{new_taken, new_words_made, new_floats_made}
use Rattle.pipnn.proofs.new.Goals as goal

-- the float that is written
blank : of_bits binary32 0 ≡ +zero
unfolding of_bits
blank = refl

pub returns-in_err-check_new : goal.returns-in_err-check_new
unfolding new_spec
returns-in_err-check_new c =
    let a = c.args in
    let p = err_from_is_err_and c.from_residual.result c.from_residual.ensures.1 in
    rw (p.1, p.2)
    (left_alone (first_refusal (new_checks a.dimension a.params a.capacity a.words.now a.floats.now)) _ _ _ _ (number_of _) c.in_err-check_new.ensures (never_zero _))

pub overflow_cast-degree : goal.overflow_cast-degree
overflow_cast-degree c = let t = new_taken _ _ _ _ _ (sym c.in_ok-check_new.ensures) in omega (arith, t.params.degree_most)

pub put_header-requires : goal.put_header-requires
put_header-requires c =
    let t = new_taken _ _ _ _ _ (sym c.in_ok-check_new.ensures) in
    record { header_size_in_bounds = omega arith; p_value = t.limits }

pub slice_bounds-fill-end : goal.slice_bounds-fill-end
slice_bounds-fill-end c = let t = new_taken _ _ _ _ _ (sym c.in_ok-check_new.ensures) in omega arith

pub slice_bounds-fill-end-2 : goal.slice_bounds-fill-end-2
slice_bounds-fill-end-2 c = let t = new_taken _ _ _ _ _ (sym c.in_ok-check_new.ensures) in rw c.floats_size-floats_end.ensures t.floats

pub slice_bounds-fill-end-3 : goal.slice_bounds-fill-end-3
slice_bounds-fill-end-3 c =
    let t = new_taken _ _ _ _ _ (sym c.in_ok-check_new.ensures) in
    sym (length-take-le _ _ (rw c.floats_size-floats_end.ensures t.floats))

pub returns : goal.returns
unfolding new_spec
returns c =
    let a = c.args in
    let t = new_taken a.dimension a.params a.capacity a.words.now a.floats.now (sym c.in_ok-check_new.ensures) in
    let put = c.put_header in
    let words_size = c.words_size-words_end in
    let floats_size = c.floats_size-floats_end in
    let made_words = new_words_made a.dimension a.params a.capacity a.words.now a.floats.now
    words_size.result put.new.words c.fill.new.self words_size.ensures (rw words_size.ensures t.words) put.ensures (c.fill.ensures.after (λ _ e. e)) in
    let made_floats = new_floats_made a.dimension a.params a.capacity a.words.now a.floats.now
    floats_size.result c.fill-2.new.self floats_size.ensures (rw floats_size.ensures t.floats) (rw blank at c.fill-2.ensures.after (λ _ e. e)) in
    ◌∙◌ {A = Answer} (λ i. (0, made_words i, made_floats i))
    (changed (first_refusal (new_checks a.dimension a.params a.capacity a.words.now a.floats.now)) _ _ _ _ (sym c.in_ok-check_new.ensures))
