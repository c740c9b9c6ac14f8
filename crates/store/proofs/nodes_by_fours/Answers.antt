-- `store::nodes_by_fours` meets its contract: while all were nodes so far, the first i of each quarter are. Assumes nothing.
use mathlib.Core.Path.{◌≡◌, sym, subst, ◌∙◌}
use mathlib.Core.Bool.{Bool, true, ◌&&◌}
use mathlib.Core.List.{List}
use Prim.Native.Nat.{ℕ, zero, suc, ◌+◌, ◌-◌, ◌*◌, ◌/◌, ◌<◌}
use native.Mathlib.Omega.{arith}
use lib.ListN.{length, get_or}
use Rattle.basics.proofs.EqualParts.{EqualParts, parts_none, parts_more, parts_all}
use Rattle.basics.proofs.Tests.{both_true}
use Rattle.store.specs.WellFormed.{is_node}
use Rattle.store.proofs.nodes_by_fours.Goals as goal

-- four entries more, one of each quarter
more : (ws : List ℕ) (n q i : ℕ) (ok : Bool) → (ok ≡ true → EqualParts (is_node n) ws 0 4 q i)
    → (ok && ((is_node n (get_or ws i 0) && is_node n (get_or ws (q + i) 0)) && (is_node n (get_or ws (2 * q + i) 0) && is_node n (get_or ws (3 * q + i) 0)))) ≡ true
    → EqualParts (is_node n) ws 0 4 q (i + 1)
more ws n q i ok so t =
    let both = both_true ok _ t in
    let halves = both_true (is_node n (get_or ws i 0) && is_node n (get_or ws (q + i) 0)) _ both.1 in
    let low = both_true (is_node n (get_or ws i 0)) _ halves.0 in
    let high = both_true (is_node n (get_or ws (2 * q + i) 0)) _ halves.1 in
    parts_more (is_node n) ws 0 4 q i (so both.0) (each low.0 low.1 high.0 high.1)
  where
    each : is_node n (get_or ws i 0) ≡ true → is_node n (get_or ws (q + i) 0) ≡ true → is_node n (get_or ws (2 * q + i) 0) ≡ true → is_node n (get_or ws (3 * q + i) 0) ≡ true
        → (c : ℕ) → c < 4 → is_node n (get_or ws (c * q + i) 0) ≡ true
    each w x y z zero h = let e : i ≡ 0 * q + i = omega arith in subst (λ (k : ℕ). is_node n (get_or ws k 0) ≡ true) e w
    each w x y z (suc zero) h = let e : q + i ≡ 1 * q + i = omega arith in subst (λ (k : ℕ). is_node n (get_or ws k 0) ≡ true) e x
    each w x y z (suc (suc zero)) h = y
    each w x y z (suc (suc (suc zero))) h = z
    each w x y z (suc (suc (suc (suc c)))) h = absurd (omega arith)

pub loop-i-init : goal.loop-i-init
loop-i-init c =
    let a = c.args in
    let ws = a.entries.now in
    (omega arith, λ t. parts_none (is_node a.n) ws 0 4 (length ws / 4) (length ws - 4 * (length ws / 4)) (omega arith) (sym c.all_nodes-ok.ensures ∙ t))

pub loop-i-preserved : goal.loop-i-preserved
loop-i-preserved c =
    let a = c.args in
    let l = c.loop-i in
    (omega arith, more a.entries.now a.n (length a.entries.now / 4) l.i l.ok l.invariant.1)

pub returns : goal.returns
returns c =
    let a = c.args in
    let l = c.loop-i in
    λ t. parts_all (is_node a.n) a.entries.now 0 4 (length a.entries.now / 4) l.i (omega arith) (l.invariant.1 t)
