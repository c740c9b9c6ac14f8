-- After `count_up` those left are all positions, and the start does not reach 2^64 from a level of 32 bits. Assumes nothing.
use Rattle.std.proofs.Common.{◌≡◌, ℕ, ◌+◌, ◌*◌, ◌^◌, ◌<◌, min, List, ◌++◌, length, take, drop, sym, refl, ap, ◌∙◌, mod-eq_of_lt, arith, length-take-le}
use Rattle.random.specs.Leaders.{draw_start, drawn, drawn_into, up_to}
use Rattle.random.proofs.leaders.Draws.{length-up_to}
use Rattle.random.proofs.leaders.draw_segment.Goals as goal

-- what the draws leave, with each number as the definition has it
joined : (level n count start : ℕ) (left out : List ℕ) → level < 2 ^ 32 → left ≡ up_to n → count ≡ min (length out) (length left) → start ≡ level * 2654435761 + 42
    → drawn count start left ++ drop count out ≡ drawn_into level n out
unfolding drawn_into
joined level n count start left out h e k s =
    let small : level * 2654435761 + 42 < 2 ^ 64 = omega arith in
    let c : count ≡ min (length out) n = k ∙ ap (λ (l : List ℕ). min (length out) (length l)) e ∙ ap (min (length out)) (length-up_to n) in
    let t : start ≡ draw_start level = s ∙ sym (mod-eq_of_lt small) in
    ap (λ (j : ℕ). drawn j start left ++ drop j out) c
    ∙ ap (λ (r : ℕ). drawn (min (length out) n) r left ++ drop (min (length out) n) out) t
    ∙ ap (λ (l : List ℕ). drawn (min (length out) n) (draw_start level) l ++ drop (min (length out) n) out) e

pub returns : goal.returns
returns c =
    let lesser = c.min-count in
    let up = c.count_up in
    let x = c.args in
    let long : length (take lesser.result x.out.now) ≡ lesser.result = length-take-le lesser.result x.out.now (omega (arith, lesser.ensures)) in
    ap (λ (l : List ℕ). l ++ drop lesser.result x.out.now) (c.draw.ensures ∙ ap (λ (k : ℕ). drawn k (x.level * 2654435761 + 42) up.new.left) long)
    ∙ joined x.level (length x.left.now) lesser.result _ up.new.left x.out.now c.ranges.level.fits up.ensures lesser.ensures refl
