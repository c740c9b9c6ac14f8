-- What each step of the held's code does to the nodes that the tree stands for: the worst distance, and the four cases of `keep_closest`. Assumes
-- nothing.
use mathlib.Core.Path.{◌≡◌, refl, sym, ap, ap₂, ◌∙◌, subst}
use mathlib.Core.Bool.{true, false}
use mathlib.Core.List.{List, [], ◌∷◌}
use Prim.Native.Nat.{ℕ, ◌+◌, ◌-◌, ◌≤◌, ◌<◌}
use native.Mathlib.Omega.{arith}
use borrow.Author.Tests.{lt-ltb, le-ltb}
use lib.Dec.{T, ltb}
use lib.ListN.{length, get_or}
use lib.Ieee.{Float, binary32, fits, inf, lt}
use Rattle.basics.specs.Choice.{pick_true, pick_false}
use Rattle.distance.specs.Order.{value_of}
use Rattle.distance.proofs.order.Laws.{key_below, value_key}
use Rattle.beam_state.specs.Inside.Tournament.{Putting, first_of}
use Rattle.sorting.specs.declared.Keyed.{Keyed}
use Rattle.def_walk.specs.KeepClosest.{key_at, hold, replace_worst, keep_closest, worst_of}
use Rattle.beam_state.specs.Inside.Queues.{held_rank, Held, Worst, Keeping}
use Rattle.def_walk.proofs.beam.Inserting.{hold_one}
use Rattle.beam_state.proofs.queues.Holding.{none_first, first_held, held_more, held_over}

module _ (tree : List ℕ) (top : Keyed) (first : top ≡ first_of tree) (j : get_or tree 3 0 < 4294967296) (k : get_or tree 2 0 < 4294967296) where
  top_id : top.id ≡ (first_of tree).id
  top_id = ap (λ (p : Keyed). p.id) first

  module _ {far : ℕ → Float} {size : ℕ} (f32s : (v : ℕ) → T (fits binary32 (far v))) where
    -- where some are held the first pair is no empty place's
    not_none : (u : ℕ) (l : List ℕ) → Held far size (u ∷ l) tree → top.id ≡ 0xffff_ffff → ⊥
    not_none u l h e = let f = first_held f32s j k u l h in let i = f.inside in let w = h.within in let s = h.few in absurd (omega (arith, top_id))

    is_none : Held far size [] tree → top.id ≡ 0xffff_ffff
    is_none h = top_id ∙ none_first j k h

    -- its key shows the worst distance
    worst_is : (u : ℕ) (l : List ℕ) → Held far size (u ∷ l) tree → value_of binary32 (0xffff_ffff - top.key) ≡ far u
    worst_is u l h =
        let f = first_held f32s j k u l h in
        let small : key_at far u < 4294967296 = key_below (far u) (f32s u) in
        let turned : 0xffff_ffff - top.key ≡ key_at far u = ap (λ (p : Keyed). 0xffff_ffff - p.key) first ∙ ap (λ (x : ℕ). 0xffff_ffff - x) f.key ∙ omega arith in
        ap (value_of binary32) turned ∙ value_key (far u) (f32s u)

  pub worst_none : top.id ≡ 0xffff_ffff → Worst tree (inf false)
  worst_none e far size [] f32s h = refl
  worst_none e far size (u ∷ l) f32s h = absurd (not_none f32s u l h e)

  pub worst_at : (top.id ≡ 0xffff_ffff → ⊥) → (d : Float) → d ≡ value_of binary32 (0xffff_ffff - top.key) → Worst tree d
  worst_at ne d e far size [] f32s h = absurd (ne (is_none f32s h))
  worst_at ne d e far size (u ∷ l) f32s h = e ∙ worst_is f32s u l h

  module _ (b count : ℕ) (d : Float) (key : ℕ) where
    -- a free slot
    pub kept_free : (tree' : List ℕ) → count < b → Putting count (held_rank key count) tree tree'
        → Keeping b count d key tree tree' (record { held = count + 1; cutoff = inf false })
    unfolding keep_closest
    kept_free tree' l put far v size held f32s d_is key_is e room h =
        let free : ltb (length held) b ≡ true = lt-ltb (length held) b (omega arith) in
        let after : keep_closest far b v held ≡ hold far v held = pick_true (hold far v held) (replace_worst far v held) free in
        let put' : Putting (length held) (held_rank (key_at far v) (length held)) tree tree' =
        subst (λ (x : ℕ). Putting x (held_rank (key_at far v) x) tree tree') e (subst (λ (x : ℕ). Putting count (held_rank x count) tree tree') key_is put) in record {
          stands = subst (λ (l : List ℕ). Held far size l tree') (sym after) (held_more v held (room (omega arith)) put' h);
          count = omega (arith, ap length after, hold_one far v held);
          cutoff = sym (pick_true (inf false) (worst_of far (keep_closest far b v held)) free);
        }

    module _ (full : b ≤ count) where
      no_slot : (held : List ℕ) → count ≡ length held → ltb (length held) b ≡ false
      no_slot held e = le-ltb (length held) b (omega arith)

      replaced : (far : ℕ → Float) (v : ℕ) (held : List ℕ) → count ≡ length held → keep_closest far b v held ≡ replace_worst far v held
      unfolding keep_closest
      replaced far v held e = pick_false (hold far v held) (replace_worst far v held) (no_slot held e)

      -- no slot at all
      pub kept_none : top.id ≡ 0xffff_ffff → Keeping b count d key tree tree (record { held = count; cutoff = inf false })
      unfolding replace_worst
      kept_none z far v size [] f32s d_is key_is e room h =
          let after : keep_closest far b v [] ≡ [] = replaced far v [] e in record {
            stands = subst (λ (l : List ℕ). Held far size l tree) (sym after) h;
            count = e ∙ ap length (sym after);
            cutoff = sym (pick_false (inf false) (worst_of far (keep_closest far b v [])) (no_slot [] e) ∙ ap (worst_of far) after);
          }
      kept_none z far v size (w ∷ l) f32s d_is key_is e room h = absurd (not_none f32s w l h z)

      module _ (ne : top.id ≡ 0xffff_ffff → ⊥) (most : Float) (most-is : most ≡ value_of binary32 (0xffff_ffff - top.key)) where
        nearer : {far : ℕ → Float} {size : ℕ} (v w : ℕ) (l : List ℕ) → ((x : ℕ) → T (fits binary32 (far x))) → d ≡ far v → Held far size (w ∷ l) tree → lt (far v) (far w) ≡ lt d most
        nearer v w l f32s d_is h = sym (ap₂ lt d_is (most-is ∙ worst_is f32s w l h))

        -- the worst leaves its slot
        pub kept_new : (tree' : List ℕ) (cutoff : Float) → lt d most ≡ true → Putting top.id (held_rank key top.id) tree tree' → Worst tree' cutoff
            → Keeping b count d key tree tree' (record { held = count; cutoff = cutoff })
        unfolding replace_worst
        kept_new tree' cutoff t put worst far v size [] f32s d_is key_is e room h = absurd (ne (is_none f32s h))
        kept_new tree' cutoff t put worst far v size (w ∷ l) f32s d_is key_is e room h =
            let after : keep_closest far b v (w ∷ l) ≡ hold far v l = replaced far v (w ∷ l) e ∙ pick_true (hold far v l) (w ∷ l) (nearer v w l f32s d_is h ∙ t) in
            let f = first_held f32s j k w l h in
            let put' : Putting (first_of tree).id (held_rank (key_at far v) (first_of tree).id) tree tree' =
            subst (λ (x : ℕ). Putting x (held_rank (key_at far v) x) tree tree') top_id (subst (λ (x : ℕ). Putting top.id (held_rank x top.id) tree tree') key_is put) in
            let with : Held far size (hold far v l) tree' = held_over w v l h (first_of tree).id f.inside f.is put' in record {
              stands = subst (λ (m : List ℕ). Held far size m tree') (sym after) with;
              count = omega (arith, e, ap length after, hold_one far v l);
              cutoff = worst far size (hold far v l) f32s with ∙ ap (worst_of far) (sym after) ∙ sym (pick_false (inf false) (worst_of far (keep_closest far b v (w ∷ l))) (no_slot (w ∷ l) e));
            }

        -- it stays
        pub kept_same : lt d most ≡ false → Keeping b count d key tree tree (record { held = count; cutoff = most })
        unfolding replace_worst
        kept_same t far v size [] f32s d_is key_is e room h = absurd (ne (is_none f32s h))
        kept_same t far v size (w ∷ l) f32s d_is key_is e room h =
            let after : keep_closest far b v (w ∷ l) ≡ w ∷ l = replaced far v (w ∷ l) e ∙ pick_false (hold far v l) (w ∷ l) (nearer v w l f32s d_is h ∙ t) in record {
              stands = subst (λ (m : List ℕ). Held far size m tree) (sym after) h;
              count = e ∙ ap length (sym after);
              cutoff = most-is ∙ worst_is f32s w l h ∙ ap (worst_of far) (sym after) ∙ sym (pick_false (inf false) (worst_of far (keep_closest far b v (w ∷ l))) (no_slot (w ∷ l) e));
            }
