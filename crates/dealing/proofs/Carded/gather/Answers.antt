-- After all leaders the nodes that are placed and those that have gathered are as many as there is room for; what has gathered goes behind the
-- others (`gathered_nodes`, `gathered_marks`). No loop. Assumes nothing.
use mathlib.Core.Path.{◌≡◌, refl, ap, sym, ◌∙◌}
use mathlib.Core.Bool.{Bool, true, false}
use mathlib.Core.List.{List, ◌++◌}
use Prim.Native.Nat.{ℕ, ◌+◌, ◌-◌, ◌≤◌}
use lib.ListN.{length, take, length-take, length-drop}
use lib.Seq.{length-take-le}
use Rattle.std.specs.Int.{from_bool}
use Rattle.basics.specs.Choice.{pick}
use Rattle.dealing.specs.Inside.Marks.{run}
use Rattle.dealing.specs.Inside.Cards.{buckets_in}
use Rattle.dealing.proofs.Placing.{put_all}
use Rattle.dealing.proofs.Gathering.{so_far_all, gathered_nodes, gathered_marks}
use native.Mathlib.Omega.{arith}
use Rattle.dealing.proofs.Carded.gather.Goals as goal
use Rattle.dealing.proofs.Carded.gather.Goals.{After-gather_all-at}

-- what has gathered after all leaders
abbrev small : After-gather_all-at → List ℕ
small c = c.gather_all-at.new.small

-- placed and gathered, they are all entries
all_held : (c : After-gather_all-at) → c.gather_all-at.result.at + c.gather_all-at.result.held ≡ length c.args.nodes.now
all_held c =
    let x = c.args in
    so_far_all x.self.ids.now x.self.cards.now x.self.min_leaf x.self.leaders c.gather_all-at.ensures ∙ c.requires.dealt.all_entries

held_fits : (c : After-gather_all-at) → c.gather_all-at.result.held ≤ length (small c)
held_fits c = omega (arith, all_held c, c.requires.nodes_in_bounds, c.gather_all-at.auto.small)

pub place-requires : goal.place-requires
place-requires c =
    let all = (goal.at.place-requires c).After-gather_all-at in
    let kept = c.gather_all-at.auto in
    let room = all_held all in
    let part = length-take-le c.gather_all-at.result.held (small all) (held_fits all) in
    simp (length-take, length-drop) (omega (arith, part, room, kept.nodes), omega (arith, room, kept.nodes, kept.marks, c.requires.dealt.marks_size))

one_if : (t : Bool) → from_bool t ≡ pick t 1 0
unfolding pick
one_if true = refl
one_if false = refl

pub returns : goal.returns
returns c =
    let x = c.args in
    let all = (goal.at.returns c).After-gather_all-at in
    let kept = c.gather_all-at.auto in
    let at = c.gather_all-at.result.at in
    let nodes = c.gather_all-at.new.nodes in
    let marks = c.gather_all-at.new.marks in
    let part = length-take-le c.gather_all-at.result.held (small all) (held_fits all) in
    let whole : length nodes ≤ at + length (take c.gather_all-at.result.held (small all)) = omega (arith, part, all_held all, kept.nodes) in
    let even : length marks ≡ length nodes = kept.marks ∙ c.requires.dealt.marks_size ∙ sym kept.nodes in
    let put = c.place.ensures in
    let buckets = buckets_in x.self in (
      put_all nodes _ at (length nodes - at) _ (omega arith) whole put.0 ∙ gathered_nodes x.self.min_leaf buckets _ _ _ _ c.gather_all-at.ensures,
      put_all marks _ at (length marks - at) _ (omega arith) (omega (arith, whole, even)) put.1
          ∙ ap (λ (first : ℕ). take at marks ++ run first (length (take c.gather_all-at.result.held (small all)))) (c.from-first.ensures ∙ one_if _)
          ∙ gathered_marks x.self.min_leaf buckets _ _ _ _ c.gather_all-at.ensures _ part,
    )
