-- One node looked at, a list piece by piece, and the other ends of bridges by their chain. Assumes nothing.
use mathlib.Core.Path.{◌≡◌, refl, sym, ap, ◌∙◌, subst}
use mathlib.Core.Logic.{inl, inr}
use mathlib.Core.Bool.{Bool, true, false, ◌||◌}
use mathlib.Core.List.Memᴰ.{cases_cons as in-cons}
use mathlib.Core.List.{List, [], ◌∷◌, ◌++◌, Memᴰ as In}
use Prim.Native.Nat.{ℕ, suc, ◌+◌, ◌/◌, ◌≤◌, ◌<◌}
use native.Mathlib.Omega.{arith}
use native.Mathlib.Numerals.{add-one}
use native.Mathlib.Decide.{ℕ_discrete}
use borrow.Author.Tests.{eq-eqb, ne_eqb, lt-ltb, le-ltb}
use lib.Dec.{T, eqb}
use lib.ListN.{length, get_or, take, drop, set, length-append, length-drop, length-map}
use lib.Seq.{get_or-set_same, get_or-set_other, take_all, take-suc, take-suc-set, take-set-le, drop-set-lt, drop-set-add}
use mir.Val.{bool_byte}
use Rattle.basics.specs.Choice.{pick, pick_true, pick_false}
use Rattle.basics.specs.Nodes.{has, Below}
use Rattle.basics.specs.Lists.{pieces}
use Rattle.basics.specs.Graph.{other_ends}
use Rattle.basics.proofs.Counting.{in_has, at_most}
use Rattle.basics.proofs.Pieces.{length_pieces}
use Rattle.store.specs.Layout.{bridge_size}
use Rattle.store.specs.View.{bridge_in}
use Rattle.lists.specs.Inside.Words.{bridge_list}
use Rattle.lists.specs.Inside.Chains.{first_link, linked_ends, bridges_in}
use Rattle.lists.proofs.chains.Laws.{chained_ends}
use Rattle.neighbours.specs.Inside.Gathering.{Fresh, visit_one, gather_fresh, fresh_end, FreshIn, Gathering, Linked}

pub at_most_one : (b : Bool) → bool_byte b ≤ 1
at_most_one true = omega arith
at_most_one false = omega arith

-- a list in two parts
pub gather_append : (n : ℕ) (xs ys : List ℕ) (g : Fresh) → gather_fresh n (xs ++ ys) g ≡ gather_fresh n ys (gather_fresh n xs g)
unfolding gather_fresh
gather_append n [] ys g = refl
gather_append n (x ∷ xs) ys g = gather_append n xs ys (visit_one n x g)

pub gathering_then : {n a b r : ℕ} {v w x : List ℕ} (xs ys : List ℕ) → Gathering n a xs v w b → Gathering n b ys w x r → Gathering n a (xs ++ ys) v x r
gathering_then {n} {r = r} {x = x} xs ys p q tail g h = subst (FreshIn n tail x r) (sym (gather_append n xs ys g)) (q tail (gather_fresh n xs g) (p tail g h))

pub gathering_none : (n count : ℕ) (words : List ℕ) → Gathering n count [] words words count
unfolding gather_fresh
gathering_none n count words tail g h = h

-- ---- one node

first_has : (w v : ℕ) (s : List ℕ) → w ≡ v → has w (v ∷ s) ≡ true
unfolding has
first_has w v s e = ap (λ (t : Bool). t || has w s) (eq-eqb w v e)

other_has : (w v : ℕ) (s : List ℕ) → (w ≡ v → ⊥) → has w (v ∷ s) ≡ has w s
unfolding has
other_has w v s e = ap (λ (t : Bool). t || has w s) (ne_eqb w v e)

module _ (n count v : ℕ) (words : List ℕ) where
  same : ((g : Fresh) (tail : List ℕ) → FreshIn n tail words count g → visit_one n v g ≡ g) → Gathering n count (v ∷ []) words words count
  unfolding gather_fresh
  same e tail g h = subst (FreshIn n tail words count) (sym (e g tail h)) h

  pub visit_past : n ≤ v → Gathering n count (v ∷ []) words words count
  unfolding visit_one
  visit_past l = same (λ g tail h. pick_false _ _ (le-ltb v n l))

  -- what a mark says of the test that it stands for
  no_mark : (t : Bool) → pick {X = ℕ} t 1 0 ≡ 0 → t ≡ false
  unfolding pick
  no_mark true e = absurd (omega arith)
  no_mark false e = refl

  marked : (t : Bool) (m : ℕ) → (m ≡ 0 → ⊥) → m ≡ pick {X = ℕ} t 1 0 → (m ≡ 1) × (t ≡ true)
  unfolding pick
  marked true m ne e = (e, refl)
  marked false m ne e = absurd (ne e)

  pub visit_again : v < n → (get_or words v 0 ≡ 0 → ⊥) → Gathering n count (v ∷ []) words words count
  unfolding visit_one
  visit_again l ne =
      same (λ g tail h. pick_true (pick (has v g.seen) g (record { seen = v ∷ g.seen; fresh = g.fresh ++ (v ∷ []) })) g (lt-ltb v n l)
      ∙ pick_true g (record { seen = v ∷ g.seen; fresh = g.fresh ++ (v ∷ []) }) (marked (has v g.seen) (get_or words v 0) ne (h.marks v l)).1)

  unseen : (g : Fresh) (tail : List ℕ) → v < n → get_or words v 0 ≡ 0 → FreshIn n tail words count g → has v g.seen ≡ false
  unseen g tail l z h = no_mark (has v g.seen) (sym (h.marks v l) ∙ z)

  out : (g : Fresh) (tail : List ℕ) → v < n → get_or words v 0 ≡ 0 → FreshIn n tail words count g → In v g.seen → ⊥
  out g tail l z h m = subst T (unseen g tail l z h) (in_has m)

  below : (g : Fresh) (tail : List ℕ) → v < n → FreshIn n tail words count g → Below n (v ∷ g.seen)
  below g tail l h x m = elim (in-cons m) [ inl e ↦ omega arith | inr i ↦ h.inside x i ]

  -- there is room: one more is seen at most n
  room : (g : Fresh) (tail : List ℕ) → v < n → get_or words v 0 ≡ 0 → FreshIn n tail words count g → count < n
  room g tail l z h =
      omega (arith, at_most n (v ∷ g.seen) (out g tail l z h, h.once) (below g tail l h), h.count_is, h.fewer)

  -- as many are fresh as there are nodes: the node is one of them
  pub visit_full : v < n → n ≤ count → Gathering n count (v ∷ []) words words count
  visit_full l f = elim (ℕ_discrete (get_or words v 0) 0) [
    | yes z ↦ λ tail g h. absurd (let r = room g tail l z h in omega arith)
    | no z ↦ visit_again l z
  ]

  -- a node seen before: its mark stands, and what is put behind the fresh ones is none of them
  visit_old : fresh_end n ≤ length words → v < n → count < n → (get_or words v 0 ≡ 0 → ⊥) → Gathering n count (v ∷ []) words (set (set words v 1) (n + count) v) count
  visit_old long l few ne tail g h = record {
    marks = λ w k. get_or-set_other (set words v 1) (n + count) w v 0 (λ e. omega arith) ∙ mark w k ∙ x.marks w k;
    buffer =
        ap (take count) (drop-set-add n (set words v 1) count v ∙ ap (λ (y : List ℕ). set y count v) (drop-set-lt n words v 1 l))
        ∙ take-set-le count (drop n words) count v (omega arith)
        ∙ x.buffer;
    count_is = x.count_is;
    behind = drop-set-lt (fresh_end n) (set words v 1) (n + count) v (omega arith) ∙ drop-set-lt (fresh_end n) words v 1 (omega arith) ∙ x.behind;
    once = x.once;
    inside = x.inside;
    fewer = x.fewer;
  }
    where
      x : FreshIn n tail words count (gather_fresh n (v ∷ []) g)
      x = visit_again l ne tail g h

      mark : (w : ℕ) → w < n → get_or (set words v 1) w 0 ≡ get_or words w 0
      mark w k = elim (ℕ_discrete w v) [
        | yes e ↦ rw e (get_or-set_same words v 1 0 (omega arith) ∙ sym (marked (has v g.seen) (get_or words v 0) ne (h.marks v l)).0)
        | no e ↦ get_or-set_other words v w 1 0 e
      ]

  visit_new : fresh_end n ≤ length words → v < n → get_or words v 0 ≡ 0 → Gathering n count (v ∷ []) words (set (set words v 1) (n + count) v) (count + 1)
  unfolding gather_fresh visit_one
  visit_new long l z tail g h =
      subst (FreshIn n tail (set (set words v 1) (n + count) v) (count + 1))
      (sym (pick_true (pick (has v g.seen) g new) g (lt-ltb v n l) ∙ pick_false g new (unseen g tail l z h)))
      (record {
        marks = marks';
        buffer = buffer';
        count_is = omega (arith, h.count_is, length-append g.fresh (v ∷ []));
        behind = drop-set-lt (fresh_end n) (set words v 1) (n + count) v (omega (arith, few)) ∙ drop-set-lt (fresh_end n) words v 1 (omega arith) ∙ h.behind;
        once = (out g tail l z h, h.once);
        inside = below g tail l h;
        fewer = omega (arith, h.fewer, length-append g.fresh (v ∷ []));
      })
    where
      new : Fresh
      new = record { seen = v ∷ g.seen; fresh = g.fresh ++ (v ∷ []) }

      few : count < n
      few = room g tail l z h

      marks' : (w : ℕ) → w < n → get_or (set (set words v 1) (n + count) v) w 0 ≡ pick (has w (v ∷ g.seen)) 1 0
      marks' w k = get_or-set_other (set words v 1) (n + count) w v 0 (λ e. omega arith) ∙ elim (ℕ_discrete w v) [
        | yes e ↦ ap (λ (x : ℕ). get_or (set words v 1) x 0) e ∙ get_or-set_same words v 1 0 (omega arith) ∙ sym (pick_true 1 0 (first_has w v g.seen e))
        | no e ↦ get_or-set_other words v w 1 0 e ∙ h.marks w k ∙ ap (λ (t : Bool). pick {X = ℕ} t 1 0) (sym (other_has w v g.seen e))
      ]

      buffer' : take (count + 1) (drop n (set (set words v 1) (n + count) v)) ≡ g.fresh ++ (v ∷ [])
      buffer' =
          ap (λ (k : ℕ). take k (drop n (set (set words v 1) (n + count) v))) (add-one count)
          ∙ ap (take (suc count)) (drop-set-add n (set words v 1) count v ∙ ap (λ (x : List ℕ). set x count v) (drop-set-lt n words v 1 l))
          ∙ take-suc-set (drop n words) count v (omega (arith, few, length-drop n words))
          ∙ ap (λ (x : List ℕ). x ++ (v ∷ [])) h.buffer

  -- marked and put behind the fresh ones, and one of them if the mark was 0
  pub visit_here : fresh_end n ≤ length words → v < n → count < n → Gathering n count (v ∷ []) words (set (set words v 1) (n + count) v) (count + bool_byte (eqb (get_or words v 0) 0))
  visit_here long l few = elim (ℕ_discrete (get_or words v 0) 0) [
    | yes z ↦ rw (eq-eqb (get_or words v 0) 0 z) (visit_new long l z)
    | no z ↦
        let none : count ≡ count + bool_byte false = omega arith in
        rw (ne_eqb (get_or words v 0) 0 z) (subst (Gathering n count (v ∷ []) words (set (set words v 1) (n + count) v)) none (visit_old long l few z))
  ]

-- ---- loops

-- the first i of a list have been looked at
pub record Passed (n : ℕ) (list : List ℕ) (i : ℕ) (words₀ : List ℕ) (count₀ : ℕ) (words : List ℕ) (count : ℕ) : Type 0 where
  pub kept : length words ≡ length words₀
  pub so_far : Gathering n count₀ (take i list) words₀ words count

pub passed_none : (n : ℕ) (list words : List ℕ) (count : ℕ) → Passed n list 0 words count words count
passed_none n list words count = record { kept = refl; so_far = gathering_none n count words }

pub passed_more : {n i count₀ count r : ℕ} {list words₀ words words' : List ℕ} → Passed n list i words₀ count₀ words count → i < length list
    → length words' ≡ length words → Gathering n count (get_or list i 0 ∷ []) words words' r → Passed n list (i + 1) words₀ count₀ words' r
passed_more {n} {i} {count₀} {count} {r} {list} {words₀} {words} {words'} p h k g = record {
  kept = k ∙ p.kept;
  so_far = subst (λ (l : List ℕ). Gathering n count₀ l words₀ words' r) (sym (ap (λ (j : ℕ). take j list) (add-one i) ∙ take-suc list i 0 h))
      (gathering_then (take i list) (get_or list i 0 ∷ []) p.so_far g);
}

pub passed_all : {n i count₀ count : ℕ} {list words₀ words : List ℕ} → Passed n list i words₀ count₀ words count → length list ≤ i → Gathering n count₀ list words₀ words count
passed_all {n} {i} {count₀} {count} {list} {words₀} {words} p h = subst (λ (l : List ℕ). Gathering n count₀ l words₀ words count) (take_all i list h) p.so_far

-- a list of which `left` is still to be looked at: what is gathered from there is gathered from the list
pub record Onward (n : ℕ) (list left words₀ : List ℕ) (count₀ : ℕ) (words : List ℕ) (count : ℕ) : Type 0 where
  pub kept : length words ≡ length words₀
  pub onward : (words' : List ℕ) (r : ℕ) → Gathering n count left words words' r → Gathering n count₀ list words₀ words' r

pub onward_none : (n : ℕ) (list left words : List ℕ) (count : ℕ) → left ≡ list → Onward n list left words count words count
onward_none n list left words count e = record { kept = refl; onward = λ words' r g. subst (λ (l : List ℕ). Gathering n count l words words' r) e g }

module _ {n count₀ count : ℕ} {list left words₀ words : List ℕ} (p : Onward n list left words₀ count₀ words count) where
  pub onward_more : (v r : ℕ) (rest words' : List ℕ) → left ≡ v ∷ rest → length words' ≡ length words → Gathering n count (v ∷ []) words words' r → Onward n list rest words₀ count₀ words' r
  onward_more v r rest words' e k g = record {
    kept = k ∙ p.kept;
    onward = λ words'' r' h. p.onward words'' r' (subst (λ (l : List ℕ). Gathering n count l words words'' r') (sym e) (gathering_then (v ∷ []) rest g h));
  }

  pub onward_all : left ≡ [] → Gathering n count₀ list words₀ words count
  onward_all e = p.onward words count (subst (λ (l : List ℕ). Gathering n count l words words count) (sym e) (gathering_none n count words))

-- what is read from a node's first link on is the other ends of its bridges
pub linked_ends_lem : (n : ℕ) (bridges links : List ℕ) (u : ℕ) → Linked n bridges links → u < n → linked_ends n bridges links (first_link n links u) ≡ other_ends (bridge_list bridges) u
linked_ends_lem n bridges links u l h =
    let many : length (bridge_list bridges) ≡ length bridges / bridge_size = length-map (pieces bridge_size (length bridges / bridge_size) bridges) bridge_in ∙ length_pieces bridge_size (length bridges / bridge_size) bridges in
    chained_ends n (bridge_list bridges) bridges links l (ap (λ (k : ℕ). bridges_in k bridges) (sym many)) u h
