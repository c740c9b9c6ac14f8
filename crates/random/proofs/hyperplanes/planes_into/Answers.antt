-- Of the places that are written, as many as there is room for, the first k hold their numbers. Assumes nothing.
use Rattle.std.proofs.Common.{◌≡◌, ℕ, zero, suc, ◌+◌, ◌<◌, ◌≤◌, min, List, [], ◌∷◌, ◌++◌, length, get_or, take, drop, set, sym, refl, ap, ap₂, ◌∙◌, append-nil, add-one, arith, length-append, length-take, length-set}
use lib.ListN.{drop_of_length-le}
use lib.Ieee.{Float, binary32, of_bits}
use Rattle.basics.proofs.Loops.{front_set}
use Rattle.random.specs.Hyperplanes.{plane_number, plane_numbers}
use Rattle.random.proofs.hyperplanes.Stream.{read}
use Rattle.random.proofs.hyperplanes.Table.{table, rule}
use Rattle.random.proofs.hyperplanes.planes_into.Goals as goal

length_planes : (n : ℕ) → length (plane_numbers binary32 n) ≡ n
unfolding plane_numbers
length_planes zero = refl
length_planes (suc n) = let r = length_planes n in omega (arith, length-append (plane_numbers binary32 n) (plane_number binary32 n ∷ []))

planes_more : (k : ℕ) → plane_numbers binary32 k ++ (plane_number binary32 k ∷ []) ≡ plane_numbers binary32 (k + 1)
unfolding plane_numbers
planes_more k = ap (plane_numbers binary32) (sym (add-one k))

-- the turn at k, of an `out` that has the first k numbers
written : (out₀ out : List Float) (k : ℕ) (v : Float) → out ≡ plane_numbers binary32 k ++ drop k out₀ → k < length out₀ → v ≡ plane_number binary32 k
    → set out k v ≡ plane_numbers binary32 (k + 1) ++ drop (k + 1) out₀
written out₀ out k v e h q =
    ap (λ (l : List Float). set l k v) e
    ∙ front_set out₀ (plane_numbers binary32 k) k v (length_planes k) h
    ∙ ap (λ (x : Float). (plane_numbers binary32 k ++ (x ∷ [])) ++ drop (k + 1) out₀) q
    ∙ ap (λ (l : List Float). l ++ drop (k + 1) out₀) (planes_more k)

pub loop-k-init : goal.loop-k-init
unfolding plane_numbers
loop-k-init c = (refl, refl)

-- a place that is written is one of the table
within : (n k : ℕ) (out : List Float) → n ≡ min (length out) 1024 → k < length (take n out) → k < 1024
within n k out e h = omega (arith, length-take n out)

pub bounds-table-k : goal.bounds-table-k
unfolding table
bounds-table-k c = within c.min-n.result c.loop-k.k c.args.out.now c.min-n.ensures (omega arith)

pub float_from_bits-x : goal.float_from_bits-x
unfolding table
float_from_bits-x c = (rule c.loop-k.k (within c.min-n.result c.loop-k.k c.args.out.now c.min-n.ensures (omega arith))).1

pub loop-k-preserved : goal.loop-k-preserved
unfolding table
loop-k-preserved c =
    let l = c.loop-k in
    let front = take c.min-n.result c.args.out.now in
    let bits : ℕ = get_or table l.k 0 in
    let v : Float = of_bits binary32 bits in
    let number = rule l.k (within c.min-n.result l.k c.args.out.now c.min-n.ensures (omega arith)) in (
      length-set l.x-items l.k v ∙ l.invariant.0,
      written front l.x-items l.k v l.invariant.1 (omega arith) (read binary32 l.k bits number),
    )

-- the loop ends where all places are written
all_written : (k n : ℕ) (out items : List Float) → n ≡ min (length out) 1024 → length items ≡ length (take n out) → k ≤ length (take n out) → length (take n out) ≤ k
    → items ≡ plane_numbers binary32 k ++ drop k (take n out) → items ++ drop n out ≡ plane_numbers binary32 n ++ drop n out
all_written k n out items e long most least is =
    let front : List Float = take n out in
    let end : k ≡ n = omega (arith, length-take n out) in
    ap (λ (l : List Float). l ++ drop n out)
    (is ∙ ap₂ (λ (j : ℕ) (l : List Float). plane_numbers binary32 j ++ l) end (drop_of_length-le front least) ∙ append-nil (plane_numbers binary32 n))

pub returns : goal.returns
returns c =
    let l = c.loop-k in
    let out = c.args.out.now in
    all_written l.k c.min-n.result out l.x-items c.min-n.ensures l.invariant.0 (omega arith) (omega arith) l.invariant.1
    ∙ ap (λ (n : ℕ). plane_numbers binary32 n ++ drop n out) c.min-n.ensures
