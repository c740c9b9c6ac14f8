-- `params::within_limits` meets its contract: the tests are the definition's, in its order. Assumes nothing.
use mathlib.Core.Path.{◌≡◌, refl, sym, ap, ◌∙◌}
use mathlib.Core.Bool.{Bool, true, false, ◌&&◌, ◌||◌, cond, and_assoc}
use lib.Dec.{leb}
use lib.Ieee.{Float, of_bits, le, lt, eq}
use Rattle.std.specs.Prelude.{Some, None}
use Rattle.std.specs.Ordering.{partial_le, float_partial_cmp, is_some_and}
use Rattle.std.specs.Range.{range_inclusive_contains, range_inclusive_start, range_inclusive_end, range_inclusive_exhausted}
use Rattle.std.proofs.Common.{rules, is_le, Less, Equal, Greater}
use Rattle.std.specs.declared.ops.RangeInclusive.{RangeInclusive}
use lib.Ieee.Scale.{finite}
use Rattle.basics.specs.Sum.{+zero, +one}
use Rattle.params.specs.Limits.{within_limits}
use Rattle.params.proofs.within_limits.Goals as goal

-- `<=` of floats, as the order of a range tests it
le_is : (x y : Float) → partial_le float_partial_cmp x y ≡ le x y
unfolding le
le_is x y = go (lt x y) (eq x y) (lt y x)
  where
    go : (a b d : Bool) → is_some_and is_le (cond a (Some Less) (cond b (Some Equal) (cond d (Some Greater) None))) ≡ (a || b)
    go true b d = refl
    go false true d = refl
    go false false true = refl
    go false false false = refl

between : (r : RangeInclusive Float) (x lo hi : Float) → range_inclusive_start r ≡ lo → range_inclusive_end r ≡ hi → range_inclusive_exhausted r ≡ false
    → range_inclusive_contains float_partial_cmp r x ≡ (le lo x && le x hi)
between r x lo hi a b e = rw (a, b, e, le_is lo x, le_is x hi)

pub returns : goal.returns
unfolding within_limits of_bits
returns c =
    let p = c.args.p in
    let size : c.contains.result ≡ (leb 1 p.max_leaf_size && leb p.max_leaf_size 2048) = search rules in
    let n = c.new-2.ensures in
    let fraction = c.contains-2.ensures.value ∙ between c.new-2.result p.leader_fraction +zero +one n.start n.end n.exhausted in
    rw (size, fraction, c.is_finite.ensures)
    (ap (λ (b : Bool). b && leb p.max_degree 32 && leb p.num_hash_bits 16 && finite p.alpha && leb p.ef_search 1024)
    (sym (and_assoc (leb 1 p.max_leaf_size && leb p.max_leaf_size 2048 && leb p.min_leaf_size 1024) (le +zero p.leader_fraction) (le p.leader_fraction +one))))
