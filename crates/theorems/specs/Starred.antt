-- The scope's checked values (those marked * there): one statement over the definitions.
use Rattle.std.specs.Prelude.{◌≡◌, false, [], ◌∷◌, pos, negsuc, replicate}
use Rattle.std.specs.Float.{fin, binary32}
use Rattle.basics.specs.Sum.{+zero, +one}
use Rattle.random.specs.Lcg.{high}
use Rattle.norm.specs.Root.{root_of}
use Rattle.random.specs.Hyperplanes.{stream, plane_number}
use Rattle.random.specs.Leaders.{draw_start, drawn, up_to}
use Rattle.def_calls.specs.Search.{refused}
use Rattle.def_calls.specs.Example.{minus_one, lists, asked, printed}

pub record Starred : Type 0 where
  -- root of 25 is 5; of 2 is 11863283/2^23
  pub root_of_25 : root_of binary32 (fin false 25 (pos 0)) ≡ fin false 5 (pos 0)
  pub root_of_2 : root_of binary32 (fin false 1 (pos 1)) ≡ fin false 11863283 (negsuc 22)
  -- first hyperplane: h 1220265334, value 9157719/2^26
  pub first_h : high (stream 1) ≡ 1220265334
  pub first_plane : plane_number binary32 0 ≡ fin false 9157719 (negsuc 25)
  -- first draw, level 0, three ids: position 2
  pub first_draw : drawn 1 (draw_start 0) (up_to 3) ≡ 2 ∷ []
  -- lists here: 0:[1], 1:[0,2], 2:[1,1]
  pub worked_lists : lists ≡ (1 ∷ []) ∷ (0 ∷ 2 ∷ []) ∷ (1 ∷ 1 ∷ []) ∷ []
  -- this find: three ranks, and nothing written past them
  pub worked_find : printed (asked 3 3 (+one ∷ +zero ∷ [])) ≡ (0, 3, 3, 10 ∷ 20 ∷ 30 ∷ 7 ∷ [], 0x0000_0000 ∷ 0x3f80_0000 ∷ 0x4000_0000 ∷ 0xbf80_0000 ∷ [])
  -- k 1, ef 1: doc 10, scored 3
  pub worked_one : printed (asked 1 1 (+one ∷ +zero ∷ [])) ≡ (0, 1, 3, 10 ∷ 7 ∷ 7 ∷ 7 ∷ [], 0x0000_0000 ∷ 0xbf80_0000 ∷ 0xbf80_0000 ∷ 0xbf80_0000 ∷ [])
  -- k 0, ef 0: none, scored 3
  pub worked_none : printed (asked 0 0 (+one ∷ +zero ∷ [])) ≡ (0, 0, 3, replicate 4 7, replicate 4 0xbf80_0000)
  -- three components: 6
  pub three_components : asked 3 3 (+one ∷ +zero ∷ +zero ∷ []) ≡ refused 6 (replicate 4 7) (replicate 4 minus_one)
