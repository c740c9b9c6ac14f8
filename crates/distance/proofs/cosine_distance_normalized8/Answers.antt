-- Of rows as long as the query each number is 1 − its dot; otherwise eight single distances are the definition itself. Assumes nothing.
use native.Mathlib.Omega.{arith}
use mathlib.Core.Path.{◌≡◌, sym, ap, ◌∙◌}
use mathlib.Core.List.{List, map}
use borrow.Author.Tests.{eq-eqb}
use lib.ListN.{length}
use lib.Ieee.{Float, binary32, sub, of_bits}
use denote.Ref.{Bor}
use Rattle.std.proofs.Common.{rules}
use Rattle.std.specs.List.{All}
use Rattle.std.proofs.lemmas.List.{same_lists, length-map, get_or-map}
use Rattle.std.proofs.lemmas.List.Elements.{All-get_or}
use Rattle.std.proofs.lemmas.Simd.{map-map}
use Rattle.basics.specs.Sum.{+one}
use Rattle.basics.proofs.Arrays.{array_map}
use Rattle.simd.specs.Dot.{dot_of}
use Rattle.simd.specs.Inside.Eight.{none}
use Rattle.distance.specs.Distance.{distance_of}
use Rattle.distance.proofs.Laws.{one_minus_dot}
use Rattle.distance.proofs.cosine_distance_normalized8.Goals as goal

-- the distances of rows that are as long as the query
long_rows : (q : List Float) (rows : List (Bor (List Float))) → All (λ (r : Bor (List Float)). length q ≡ length r.now) rows
    → map (λ (r : Bor (List Float)). sub binary32 +one (dot_of binary32 q r.now)) rows ≡ map (λ (r : Bor (List Float)). distance_of binary32 q r.now) rows
long_rows q rows all = same_lists (map far rows) (map (λ (r : Bor (List Float)). distance_of binary32 q r.now) rows) (length-map rows far ∙ sym (length-map rows _))
    (λ k d h. get_or-map far rows k none d (omega (arith, length-map rows far))
    ∙ one_minus_dot binary32 q _ (eq-eqb _ _ (All-get_or (λ (r : Bor (List Float)). length q ≡ length r.now) rows k none (omega (arith, length-map rows far)) all))
    ∙ sym (get_or-map (λ (r : Bor (List Float)). distance_of binary32 q r.now) rows k none d (omega (arith, length-map rows far))))
  where
    far : Bor (List Float) → Float
    far r = sub binary32 +one (dot_of binary32 q r.now)

pub returns-then-all : goal.returns-then-all
unfolding of_bits
returns-then-all c =
    let q = c.args.q.now in
    let rows = c.args.rows in
    let long : All (λ (r : Bor (List Float)). length q ≡ length r.now) rows = search rules in
    array_map _ (λ (x : Float). sub binary32 +one x) _ (λ x y q k. search rules) c.dot8.result c.map.result 8 (omega (arith, ap length c.dot8.ensures, length-map rows (λ (r : Bor (List Float)). dot_of binary32 q r.now), c.well_formed)) c.map.ensures.items
    ∙ ap (map (λ (x : Float). sub binary32 +one x)) c.dot8.ensures
    ∙ map-map (λ (x : Float). sub binary32 +one x) (λ (r : Bor (List Float)). dot_of binary32 q r.now) rows
    ∙ long_rows q rows long

pub returns : goal.returns
returns c =
    array_map _ (λ (r : Bor (List Float)). distance_of binary32 c.args.q.now r.now) _ (λ x y q k. search rules) c.args.rows c.map-2.result 8 (omega (arith, c.well_formed)) c.map-2.ensures.items
