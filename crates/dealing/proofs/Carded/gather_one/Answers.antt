-- The bucket found stands behind what has gathered. Three ways, as in `gather_one`: placed, placed with those before it, or kept with them. Assumes nothing.
use mathlib.Core.Path.{◌≡◌, refl}
use Prim.Native.Nat.{◌+◌, ◌-◌}
use lib.ListN.{length}
use Rattle.dealing.proofs.Placing.{put_end}
use Rattle.dealing.proofs.Gathering.{gathers_large, gathers_joined, gathers_small}
use native.Mathlib.Omega.{arith}
use Rattle.dealing.proofs.Carded.gather_one.Goals as goal

pub returns-then-size-self : goal.returns-then-size-self
returns-then-size-self c =
    let x = c.args in
    let h = x.g.held in
    let found = c.bucket_of-size.ensures in
    let put = c.place.ensures in
    let room = c.requires in
    let many : h + c.bucket_of-size.result - h ≡ c.bucket_of-size.result = omega arith in
    gathers_large x.self.min_leaf room found.0
    (put_end x.small.now _ h (length x.small.now - h) _ (omega (arith, room.small_room)) found.1) refl many c.if-size-self.true (
      put_end x.nodes.now _ x.g.at (length x.nodes.now - x.g.at) _ (omega (arith, room.nodes_room)) put.0,
      put_end x.marks.now _ x.g.at (length x.marks.now - x.g.at) _ (omega (arith, room.nodes_room, room.marks_size)) put.1,
    )

pub returns-then-end-self : goal.returns-then-end-self
returns-then-end-self c =
    let x = c.args in
    let h = x.g.held in
    let found = c.bucket_of-size.ensures in
    let put = c.place-then-end-self.ensures in
    let room = c.requires in
    gathers_joined x.self.min_leaf room found.0
    (put_end x.small.now _ h (length x.small.now - h) _ (omega (arith, room.small_room)) found.1) refl c.if-size-self.false c.if-end-self.true (
      put_end x.nodes.now _ x.g.at (length x.nodes.now - x.g.at) _ (omega (arith, room.nodes_room)) put.0,
      put_end x.marks.now _ x.g.at (length x.marks.now - x.g.at) _ (omega (arith, room.nodes_room, room.marks_size)) put.1,
    )

pub returns : goal.returns
returns c =
    let x = c.args in
    let h = x.g.held in
    let found = c.bucket_of-size.ensures in
    gathers_small x.self.min_leaf c.requires found.0
    (put_end x.small.now _ h (length x.small.now - h) _ (omega (arith, c.requires.small_room)) found.1) c.if-size-self.false c.if-end-self.false
