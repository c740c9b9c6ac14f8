-- The worked example (scope, Checked values): three phones in an index of two features, from `new` to the answers.
use Rattle.std.specs.Prelude.{true, List, [], ◌∷◌, map, ℕ, pos, replicate, Float}
use Rattle.std.specs.Float.{fin, binary32}
use Rattle.std.specs.Float.Ieee.{to_bits}
use Rattle.basics.specs.Sum.{+zero, +one}
use Rattle.store.specs.View.{view, list_in}
use Rattle.pipnn.specs.Answer.{Answer}
use Rattle.pipnn.specs.New.{new_spec}
use Rattle.pipnn.specs.Add.{add_spec}
use Rattle.pipnn.specs.Example.{params}
use Rattle.def_calls.specs.Build.{build_spec}
use Rattle.def_calls.specs.Search.{Reply, search_with_ef_spec}

abbrev pub minus_one : Float
minus_one = fin true 1 (pos 0)

-- after cap, on stores that held something else; after the three adds; after build, with as much scratch as it needs
abbrev pub example_opened : Answer
example_opened = new_spec 2 params 8 (replicate 56 7) (replicate 16 minus_one)

abbrev pub added : Answer
added =
    let one : Answer = add_spec example_opened.1 example_opened.2 10 (+one ∷ +zero ∷ []) in
    let two : Answer = add_spec one.1 one.2 20 (+zero ∷ +one ∷ []) in
    add_spec two.1 two.2 30 (minus_one ∷ +zero ∷ [])

abbrev pub example_built : Answer
example_built = build_spec 512 384 added.1 added.2

abbrev pub lists : List (List ℕ)
lists = map (list_in (view example_built.1 example_built.2)) (0 ∷ 1 ∷ 2 ∷ [])

-- a find, into outputs of four places each
abbrev pub asked : ℕ → ℕ → List Float → Reply
asked k ef query = search_with_ef_spec 512 384 example_built.1 example_built.2 query k ef (replicate 4 7) (replicate 4 minus_one)

-- what it returns: number, count, scored, the doc ids, the distances' bits
abbrev pub Printed : Type 0
Printed = ℕ × ℕ × ℕ × List ℕ × List ℕ

abbrev pub printed : Reply → Printed
printed r = (r.number, r.count, r.scored, r.docs, map (to_bits binary32) r.distances)
