-- Chains with one slot more and with one bridge more, and what a reader of chains finds. A slot is linked behind the last one of its node, which
-- no other node has, so that every other chain stays. Assumes nothing.
use mathlib.Core.Path.{◌≡◌, refl, sym, ap, ap₂, subst, ◌∙◌}
use mathlib.Core.Logic.{◌≢◌, inl, inr}
use mathlib.Core.Bool.{Bool, true, false, ◌&&◌}
use mathlib.Core.List.{List, [], ◌∷◌, ◌++◌, map, map-append, flatten, append-nil, append_assoc}
use mathlib.Core.List.Memᴰ.{append_cases as in-cases}
use mathlib.Core.List.Memᴰ.{cast as in-cast}
use mathlib.Core.List.Memᴰ.{eq_of_singleton as in_one}
use mathlib.Core.List.Memᴰ.{head as here}
use mathlib.Core.List.Memᴰ.{not-nil as in-nil}
use mathlib.Core.List.Memᴰ.{tail as there}
use mathlib.Core.List.{Memᴰ as In}
use Prim.Native.Nat.{ℕ, zero, suc, ◌+◌, ◌-◌, ◌*◌, ◌^◌, ◌≤◌, ◌<◌, min}
use native.Mathlib.Numerals.{add-one}
use native.Mathlib.Omega.{arith}
use lib.Dec.{eqb, ltb, leb, eqb→eq, T_not}
use lib.ListN.{length, get_or, set, take, drop, replicate, length-append, length-set, length-replicate, get_or-replicate, get_or-append}
use lib.Seq.{get_or-set_same, get_or-set_other, get_or-take, get_or-drop, drop-drop}
use mir.Facts.{yes_eqb}
use borrow.Author.Tests.{eq-eqb, ne_eqb, lt-ltb, le-leb, eqb-true}
use Rattle.basics.specs.Choice.{pick, pick_ind, pick_true, pick_false}
use Rattle.basics.specs.Graph.{Bridge, other_end, other_ends}
use Rattle.basics.specs.Lists.{pieces}
use Rattle.store.specs.View.{bridge_in, bridge_block}
use Rattle.lists.specs.Inside.Chains.{other_slot, other_end_at, first_link, next_link, linked_ends, cleared_links, link_place, append_slot, chain_bridge, slot_at, slots_from, Path, last_link, Chains, Chained, bridges_in}
use Rattle.lists.proofs.chains.Reading.{next_cases, linked_none, linked_more}

-- ---- the next link, by the word that holds it

abbrev link_of : ℕ → ℕ → ℕ → ℕ → ℕ
link_of n size s x = pick (ltb (suc s) x && leb (2 * n + x) size) x 0

next_is : (n : ℕ) (links : List ℕ) (s : ℕ) → next_link n links (suc s) ≡ link_of n (length links) s (get_or links (2 * n + s) 0)
unfolding next_link
next_is n links s =
    let at : 2 * n + suc s - 1 ≡ 2 * n + s = omega arith in
    ap (λ (k : ℕ). link_of n (length links) s (get_or links k 0)) at

next_same : (n : ℕ) (links links' : List ℕ) (s : ℕ) → length links' ≡ length links → get_or links' (2 * n + s) 0 ≡ get_or links (2 * n + s) 0
    → next_link n links' (suc s) ≡ next_link n links (suc s)
next_same n links links' s l e = next_is n links' s ∙ ap₂ (λ (z : ℕ) (x : ℕ). link_of n z s x) l e ∙ sym (next_is n links s)

next_none : (n : ℕ) (links : List ℕ) (s : ℕ) → get_or links (2 * n + s) 0 ≡ 0 → next_link n links (suc s) ≡ 0
next_none n links s e =
    next_is n links s ∙ ap (link_of n (length links) s) e
    ∙ pick_ind (λ (x : ℕ). x ≡ 0) (ltb (suc s) 0 && leb (2 * n + 0) (length links)) (λ _. refl) (λ _. refl)

next_to : (n : ℕ) (links : List ℕ) (s t : ℕ) → get_or links (2 * n + s) 0 ≡ suc t → s < t → 2 * n + t < length links → next_link n links (suc s) ≡ suc t
next_to n links s t e h k =
    next_is n links s ∙ ap (link_of n (length links) s) e
    ∙ pick_true (suc t) 0 (ap₂ ◌&&◌ (lt-ltb (suc s) (suc t) (omega arith)) (le-leb (2 * n + suc t) (length links) (omega arith)))

-- ---- paths

path_same : (n : ℕ) (links links' : List ℕ) (link : ℕ) (ss : List ℕ) → length links' ≡ length links
    → ((s : ℕ) → In s ss → get_or links' (2 * n + s) 0 ≡ get_or links (2 * n + s) 0) → Path n links link ss → Path n links' link ss
path_same n links links' link [] l f p = p
path_same n links links' link (s ∷ ss) l f p = (
  p.0,
  omega (arith, p.1),
  subst (λ (x : ℕ). Path n links' x ss) (sym (next_same n links links' s l (f s (here refl))))
      (path_same n links links' (next_link n links (suc s)) ss l (λ z m. f z (there m)) p.2),
)

-- slots rise along a path
path_rises : (n : ℕ) (links : List ℕ) (s s' : ℕ) → next_link n links (suc s) ≡ suc s' → s < s'
path_rises n links s s' e = elim (next_cases n links (suc s)) [ inl z ↦ absurd (omega arith) | inr h ↦ omega arith ]

path_last : (n : ℕ) (links : List ℕ) (u link s : ℕ) (ss : List ℕ) → Path n links link (s ∷ ss) → last_link (suc s) ss ≡ suc u → s ≤ u
path_last n links u link s [] p e = omega arith
path_last n links u link s (s' ∷ ss) p e =
    let rec = path_last n links u (next_link n links (suc s)) s' ss p.2 e in
    let up = path_rises n links s s' p.2.0 in
    omega arith

path_append : (n : ℕ) (links links' : List ℕ) (t u : ℕ) → length links' ≡ length links → get_or links' (2 * n + u) 0 ≡ suc t → get_or links' (2 * n + t) 0 ≡ 0
    → ((s : ℕ) → s < u → get_or links' (2 * n + s) 0 ≡ get_or links (2 * n + s) 0) → u < t → 2 * n + t < length links
    → (link s : ℕ) (ss : List ℕ) → Path n links link (s ∷ ss) → last_link (suc s) ss ≡ suc u → Path n links' link (s ∷ (ss ++ (t ∷ [])))
path_append n links links' t u l prev end same h k link s [] p e =
    let q : s ≡ u = omega arith in (
      p.0,
      omega arith,
      (next_to n links' s t (ap (λ (x : ℕ). get_or links' (2 * n + x) 0) q ∙ prev) (omega arith) (omega arith), omega arith, next_none n links' t end),
    )
path_append n links links' t u l prev end same h k link s (s' ∷ ss) p e =
    let up = path_rises n links s s' p.2.0 in
    let last = path_last n links u (next_link n links (suc s)) s' ss p.2 e in (
      p.0,
      omega (arith, p.1),
      subst (λ (x : ℕ). Path n links' x (s' ∷ (ss ++ (t ∷ [])))) (sym (next_same n links links' s l (same s (omega arith))))
          (path_append n links links' t u l prev end same h k (next_link n links (suc s)) s' ss p.2 e),
    )

-- ---- the last slot

abbrev last_slot : ℕ → List ℕ → ℕ
last_slot s [] = s
last_slot s (s' ∷ ss) = last_slot s' ss

last_is : (s : ℕ) (ss : List ℕ) → last_link (suc s) ss ≡ suc (last_slot s ss)
last_is s [] = refl
last_is s (s' ∷ ss) = last_is s' ss

last_in : (s : ℕ) (ss : List ℕ) → In (last_slot s ss) (s ∷ ss)
last_in s [] = here refl
last_in s (s' ∷ ss) = there (last_in s' ss)

last_snoc : (link t : ℕ) (ss : List ℕ) → last_link link (ss ++ (t ∷ [])) ≡ suc t
last_snoc link t [] = refl
last_snoc link t (s ∷ ss) = last_snoc (suc s) t ss

-- ---- what appending writes

record Wrote (n v t place : ℕ) (links links' : List ℕ) : Type 0 where
  size : length links' ≡ length links
  tail : get_or links' (n + v) 0 ≡ suc t
  end : get_or links' (2 * n + t) 0 ≡ 0
  link : get_or links' place 0 ≡ suc t
  other : (p : ℕ) → p ≢ n + v → p ≢ 2 * n + t → p ≢ place → get_or links' p 0 ≡ get_or links p 0

wrote : (n v t place : ℕ) (links : List ℕ) → v < n → 2 * n + t < length links → place < length links → place ≢ n + v → place ≢ 2 * n + t
    → Wrote n v t place links (set (set (set links place (t + 1)) (2 * n + t) 0) (n + v) (t + 1))
wrote n v t place links h k r p q =
    let one : List ℕ = set links place (t + 1) in
    let two : List ℕ = set one (2 * n + t) 0 in
    let l₁ : length one ≡ length links = length-set links place (t + 1) in
    let l₂ : length two ≡ length links = length-set one (2 * n + t) 0 ∙ l₁ in record {
      size = length-set two (n + v) (t + 1) ∙ l₂;
      tail = get_or-set_same two (n + v) (t + 1) 0 (omega arith) ∙ add-one t;
      end = get_or-set_other two (n + v) (2 * n + t) (t + 1) 0 (λ e. omega arith) ∙ get_or-set_same one (2 * n + t) 0 0 (omega arith);
      link = get_or-set_other two (n + v) place (t + 1) 0 p ∙ get_or-set_other one (2 * n + t) place 0 0 q ∙ get_or-set_same links place (t + 1) 0 r ∙ add-one t;
      other = λ x a b c. get_or-set_other two (n + v) x (t + 1) 0 a ∙ get_or-set_other one (2 * n + t) x 0 0 b ∙ get_or-set_other links place x (t + 1) 0 c;
    }

-- ---- one slot more

module _ (n m t v : ℕ) (slots : ℕ → List ℕ) (links : List ℕ) (c : Chains n m slots links) (v_below : v < n) (t-new : m ≤ t) (room : 2 * n + t < length links) where
  abbrev more : ℕ → List ℕ
  more i = slots i ++ pick (eqb i v) (t ∷ []) []

  -- of what was written, where the link went to a place that is no other node's, and v's path goes on
  finish : (place : ℕ) (links' : List ℕ) → Wrote n v t place links links' → ((i : ℕ) → i < n → i ≢ v → i ≢ place) → ((i : ℕ) → i < n → n + i ≢ place)
      → ((i s : ℕ) → i ≢ v → In s (slots i) → 2 * n + s ≢ place) → Path n links' (get_or links' v 0) (slots v ++ (t ∷ []))
      → Chains n (suc t) more links'
  finish place links' w not-head not-tail not-next path = record { paths = paths'; tails = tails'; small = small'; owned = owned' }
    where
      paths' : (i : ℕ) → i < n → Path n links' (get_or links' i 0) (more i)
      paths' i h =
          pick_ind (λ (l : List ℕ). Path n links' (get_or links' i 0) (slots i ++ l)) (eqb i v)
          (λ e. subst (λ (x : ℕ). Path n links' (get_or links' x 0) (slots x ++ (t ∷ []))) (sym (eqb→eq i v e)) path)
          (λ e.
          let ne : i ≢ v = λ q. T_not (eqb i v) e (yes_eqb q) in
          subst (Path n links' (get_or links' i 0)) (sym (append-nil (slots i)))
          (subst (λ (x : ℕ). Path n links' x (slots i)) (sym (w.other i (λ q. omega arith) (λ q. omega arith) (not-head i h ne)))
          (path_same n links links' (get_or links i 0) (slots i) w.size
          (λ s k. let b = c.small i s k in w.other (2 * n + s) (λ q. omega arith) (λ q. omega arith) (not-next i s ne k)) (c.paths i h))))

      tails' : (i : ℕ) → i < n → get_or links' (n + i) 0 ≡ last_link 0 (more i)
      tails' i h =
          pick_ind (λ (l : List ℕ). get_or links' (n + i) 0 ≡ last_link 0 (slots i ++ l)) (eqb i v)
          (λ e. ap (λ (x : ℕ). get_or links' (n + x) 0) (eqb→eq i v e) ∙ w.tail ∙ sym (last_snoc 0 t (slots i)))
          (λ e.
          let ne : i ≢ v = λ q. T_not (eqb i v) e (yes_eqb q) in
          w.other (n + i) (λ q. ne (omega arith)) (λ q. omega arith) (not-tail i h) ∙ c.tails i h ∙ ap (last_link 0) (sym (append-nil (slots i))))

      new_slot : (i s : ℕ) → In s (pick (eqb i v) (t ∷ []) []) → (s ≡ t) × (i ≡ v)
      new_slot i s = pick_ind (λ (l : List ℕ). In s l → (s ≡ t) × (i ≡ v)) (eqb i v) (λ e k. (in_one k, eqb→eq i v e)) (λ _ k. absurd (in-nil k))

      small' : (i s : ℕ) → In s (more i) → s < suc t
      small' i s k = elim (in-cases (slots i) k) [ inl a ↦ omega (arith, c.small i s a) | inr b ↦ omega (arith, (new_slot i s b).0) ]

      owned' : (i k s : ℕ) → In s (more i) → In s (more k) → i ≡ k
      owned' i k s a b = elim (in-cases (slots i) a) [
        | inl x ↦ elim (in-cases (slots k) b) [ inl y ↦ c.owned i k s x y | inr y ↦ absurd (omega (arith, c.small i s x, (new_slot k s y).0)) ]
        | inr x ↦ elim (in-cases (slots k) b) [
          | inl y ↦ absurd (omega (arith, c.small k s y, (new_slot i s x).0))
          | inr y ↦ (new_slot i s x).1 ∙ sym (new_slot k s y).1
        ]
      ]

  abbrev placed : ℕ → List ℕ
  placed place = set (set (set links place (t + 1)) (2 * n + t) 0) (n + v) (t + 1)

  abbrev Linked : ℕ → Type 0
  Linked place = Chains n (suc t) more (placed place)

  pub append_slot_lem : Chains n (suc t) more (append_slot n v t links)
  unfolding append_slot
  append_slot_lem = go (slots v) refl
    where
      go : (ss : List ℕ) → slots v ≡ ss → Linked (link_place n v (get_or links (n + v) 0))
      go [] e =
          let none : get_or links (n + v) 0 ≡ 0 = c.tails v v_below ∙ ap (last_link 0) e in
          let place : link_place n v (get_or links (n + v) 0) ≡ v = pick_true v _ (eq-eqb (get_or links (n + v) 0) 0 none) in
          let w = wrote n v t v links v_below room (omega arith) (λ q. omega arith) (λ q. omega arith) in
          subst Linked (sym place)
          (finish v (placed v) w (λ i h ne. ne) (λ i h q. omega arith) (λ i s ne k q. omega arith)
          (subst (λ (l : List ℕ). Path n (placed v) (get_or (placed v) v 0) (l ++ (t ∷ []))) (sym e) (w.link, omega (arith, w.size), next_none n (placed v) t w.end)))
      go (s ∷ ss) e =
          let u : ℕ = last_slot s ss in
          let u-in : In u (slots v) = subst (In u) (sym e) (last_in s ss) in
          let u-small : u < m = c.small v u u-in in
          let tail-is : get_or links (n + v) 0 ≡ suc u = c.tails v v_below ∙ ap (last_link 0) e ∙ last_is s ss in
          let place : link_place n v (get_or links (n + v) 0) ≡ 2 * n + u =
          pick_false v _ (ne_eqb (get_or links (n + v) 0) 0 (λ q. omega arith)) ∙ omega arith in
          let w = wrote n v t (2 * n + u) links v_below room (omega arith) (λ q. omega arith) (λ q. omega arith) in
          let path : Path n links (get_or links v 0) (s ∷ ss) = subst (Path n links (get_or links v 0)) e (c.paths v v_below) in
          subst Linked (sym place)
          (finish (2 * n + u) (placed (2 * n + u)) w (λ i h ne q. omega arith) (λ i h q. omega arith)
          (λ i x ne k q. ne (c.owned i v x k (in-cast (omega arith) u-in)))
          (subst (λ (l : List ℕ). Path n (placed (2 * n + u)) (get_or (placed (2 * n + u)) v 0) (l ++ (t ∷ []))) (sym e)
          (subst (λ (x : ℕ). Path n (placed (2 * n + u)) x (s ∷ (ss ++ (t ∷ [])))) (sym (w.other v (λ q. omega arith) (λ q. omega arith) (λ q. omega arith)))
          (path_append n links (placed (2 * n + u)) t u w.size w.link w.end (λ x h. w.other (2 * n + x) (λ q. omega arith) (λ q. omega arith) (λ q. omega arith)) (omega arith) room
          (get_or links v 0) s ss path (last_is s ss)))))

-- ---- no bridge yet

pub chain_none : (n : ℕ) (links : List ℕ) → 2 * n ≤ length links → Chained n [] (cleared_links n links)
unfolding slots_from
chain_none n links h = record {
  paths = λ i k. zeroed i (omega arith);
  tails = λ i k. zeroed (n + i) (omega arith);
  small = λ i s k. absurd (in-nil k);
  owned = λ i j s k. absurd (in-nil k);
}
  where
    zeroed : (p : ℕ) → p < 2 * n → get_or (cleared_links n links) p 0 ≡ 0
    zeroed p k =
        let all : min (2 * n) (length links) ≡ 2 * n = omega arith in
        get_or-append (replicate (min (2 * n) (length links)) 0) (drop (2 * n) links) 0 p (omega (arith, length-replicate {A = ℕ} (min (2 * n) (length links)) 0))
        ∙ get_or-replicate (min (2 * n) (length links)) p 0 0 (omega arith)

-- ---- one bridge more

slots_snoc : (j : ℕ) (bs : List Bridge) (b : Bridge) (i : ℕ) → slots_from j (bs ++ (b ∷ [])) i ≡ slots_from j bs i ++ slot_at (j + length bs) b i
unfolding slots_from
slots_snoc j [] b i =
    let same : j ≡ j + 0 = omega arith in
    append-nil (slot_at j b i) ∙ ap (λ (k : ℕ). slot_at k b i) same
slots_snoc j (c ∷ bs) b i =
    let next : suc j + length bs ≡ j + suc (length bs) = omega arith in
    ap (λ (l : List ℕ). slot_at j c i ++ l) (slots_snoc (suc j) bs b i ∙ ap (λ (k : ℕ). slots_from (suc j) bs i ++ slot_at k b i) next)
    ∙ sym (append_assoc (slot_at j c i) (slots_from (suc j) bs i) (slot_at (j + suc (length bs)) b i))

pick_again : (c : Bool) (x y z : List ℕ) → pick c x z ≡ pick c x (pick c y z)
unfolding pick
pick_again true x y z = refl
pick_again false x y z = refl

pick_one : (c d : Bool) (x y : List ℕ) → (c ≡ true → d ≡ true → ⊥) → pick c x [] ++ pick d y [] ≡ pick c x (pick d y [])
unfolding pick
pick_one true true x y f = absurd (f refl refl)
pick_one true false x y f = append-nil x
pick_one false d x y f = refl

chains_alike : {n m m' : ℕ} {slots slots' : ℕ → List ℕ} {links : List ℕ} → m ≤ m' → ((i : ℕ) → slots i ≡ slots' i) → Chains n m slots links → Chains n m' slots' links
chains_alike {n} {m} {m'} {slots} {slots'} {links} h e c = record {
  paths = λ i k. subst (Path n links (get_or links i 0)) (e i) (c.paths i k);
  tails = λ i k. c.tails i k ∙ ap (last_link 0) (e i);
  small = λ i s k. let b = c.small i s (subst (In s) (sym (e i)) k) in omega arith;
  owned = λ i j s a b. c.owned i j s (subst (In s) (sym (e i)) a) (subst (In s) (sym (e j)) b);
}

length_slot : (n v t : ℕ) (l : List ℕ) → length (append_slot n v t l) ≡ length l
unfolding append_slot
length_slot n v t l = simp length-set

module _ (n near far : ℕ) (bs : List Bridge) (links : List ℕ) (c : Chained n bs links) (near_below : near < n) (far_below : far < n) where
  abbrev b : Bridge
  b = record { near = near; far = far }

  abbrev j : ℕ
  j = length bs

  slots_more : (i : ℕ) → slots_from 0 bs i ++ slot_at j b i ≡ slots_from 0 (bs ++ (b ∷ [])) i
  slots_more i =
      let first : j ≡ 0 + j = omega arith in
      ap (λ (k : ℕ). slots_from 0 bs i ++ slot_at k b i) first ∙ sym (slots_snoc 0 bs b i)

  size_more : 2 * length (bs ++ (b ∷ [])) ≡ 2 * j + 2
  size_more = omega (arith, length-append bs (b ∷ []))

  first_slot : 2 * n + (2 * j + 1) < length links → Chains n (suc (2 * j)) (λ i. slots_from 0 bs i ++ pick (eqb i near) ((2 * j) ∷ []) []) (append_slot n near (2 * j) links)
  first_slot room = append_slot_lem n (2 * j) (2 * j) near (slots_from 0 bs) links c near_below (omega arith) (omega arith)

  same_ends : near ≡ far → (i : ℕ) → slots_from 0 bs i ++ pick (eqb i near) ((2 * j) ∷ []) [] ≡ slots_from 0 (bs ++ (b ∷ [])) i
  unfolding slot_at
  same_ends e i =
      ap (λ (l : List ℕ). slots_from 0 bs i ++ l)
      (pick_again (eqb i near) ((2 * j) ∷ []) ((2 * j + 1) ∷ []) [] ∙ ap (λ (k : ℕ). pick (eqb i near) ((2 * j) ∷ []) (pick (eqb i k) ((2 * j + 1) ∷ []) [])) e)
      ∙ slots_more i

  two_ends : near ≢ far → (i : ℕ)
      → (slots_from 0 bs i ++ pick (eqb i near) ((2 * j) ∷ []) []) ++ pick (eqb i far) ((2 * j + 1) ∷ []) [] ≡ slots_from 0 (bs ++ (b ∷ [])) i
  unfolding slot_at
  two_ends ne i =
      append_assoc (slots_from 0 bs i) (pick (eqb i near) ((2 * j) ∷ []) []) (pick (eqb i far) ((2 * j + 1) ∷ []) [])
      ∙ ap (λ (l : List ℕ). slots_from 0 bs i ++ l)
      (pick_one (eqb i near) (eqb i far) ((2 * j) ∷ []) ((2 * j + 1) ∷ []) (λ p q. ne (sym (eqb-true i near p) ∙ eqb-true i far q)))
      ∙ slots_more i

  pub chain_more : 2 * n + (2 * j + 1) < length links → j < 2 ^ 30 → Chained n (bs ++ (b ∷ [])) (chain_bridge n j near far links)
  unfolding chain_bridge
  chain_more room few =
      subst (Chained n (bs ++ (b ∷ []))) (sym (pick_true _ links (lt-ltb j (2 ^ 30) few)))
      (pick_ind (Chained n (bs ++ (b ∷ []))) (eqb near far)
      (λ e. chains_alike (omega (arith, size_more)) (same_ends (eqb→eq near far e)) (first_slot room))
      (λ e. chains_alike (omega (arith, size_more)) (two_ends (λ q. T_not (eqb near far) e (yes_eqb q)))
      (append_slot_lem n (suc (2 * j)) (2 * j + 1) far (λ i. slots_from 0 bs i ++ pick (eqb i near) ((2 * j) ∷ []) []) (append_slot n near (2 * j) links) (first_slot room) far_below
      (omega arith) (omega (arith, length_slot n near (2 * j) links)))))

-- the links keep their length
pub length_chained : (n j near far : ℕ) (links : List ℕ) → length (chain_bridge n j near far links) ≡ length links
unfolding chain_bridge
length_chained n j near far links =
    pick_ind (λ (l : List ℕ). length l ≡ length links) (ltb j (2 ^ 30))
    (λ _. pick_ind (λ (l : List ℕ). length l ≡ length links) (eqb near far) (λ _. length_slot n near (2 * j) links)
    (λ _. length_slot n far (2 * j + 1) (append_slot n near (2 * j) links) ∙ length_slot n near (2 * j) links))
    (λ _. refl)

-- ---- what a reader finds

-- node by node, the other ends of its slots are the other ends of its bridges
module _ (ws : List ℕ) (i : ℕ) where
  abbrev ends : List ℕ → List ℕ
  ends ss = map (λ s. other_end_at ws (suc s)) ss

  word_of : (j k : ℕ) → k < 2 → get_or (take 2 (drop (2 * j) ws)) k 0 ≡ get_or ws (2 * j + k) 0
  word_of j k h = get_or-take 2 (drop (2 * j) ws) k 0 h ∙ get_or-drop (2 * j) ws k 0

  other_near : (j : ℕ) → other_end_at ws (suc (2 * j)) ≡ get_or ws (2 * j + 1) 0
  unfolding other_end_at
  other_near j =
      let at : other_slot (suc (2 * j) - 1) ≡ 2 * j + 1 = omega arith in
      ap (λ (k : ℕ). get_or ws k 0) at

  other_far : (j : ℕ) → other_end_at ws (suc (2 * j + 1)) ≡ get_or ws (2 * j + 0) 0
  unfolding other_end_at
  other_far j =
      let at : other_slot (suc (2 * j + 1) - 1) ≡ 2 * j + 0 = omega arith in
      ap (λ (k : ℕ). get_or ws k 0) at

  slot_end : (j : ℕ) → ends (slot_at j (bridge_in (take 2 (drop (2 * j) ws))) i) ≡ other_end (bridge_in (take 2 (drop (2 * j) ws))) i
  unfolding slot_at other_end
  slot_end j =
      choose (eqb i (get_or (take 2 (drop (2 * j) ws)) 0 0)) (eqb i (get_or (take 2 (drop (2 * j) ws)) 1 0))
      ∙ ap₂ (λ (x : ℕ) (y : ℕ). pick (eqb i (get_or (take 2 (drop (2 * j) ws)) 0 0)) (x ∷ []) (pick (eqb i (get_or (take 2 (drop (2 * j) ws)) 1 0)) (y ∷ []) []))
      (other_near j ∙ sym (word_of j 1 (omega arith))) (other_far j ∙ sym (word_of j 0 (omega arith)))
    where
      choose : (c d : Bool) → ends (pick c ((2 * j) ∷ []) (pick d ((2 * j + 1) ∷ []) []))
          ≡ pick c (other_end_at ws (suc (2 * j)) ∷ []) (pick d (other_end_at ws (suc (2 * j + 1)) ∷ []) [])
      choose true d = refl
      choose false true = refl
      choose false false = refl

  slots_ends : (k j : ℕ) → ends (slots_from j (bridges_in k (drop (2 * j) ws)) i) ≡ other_ends (bridges_in k (drop (2 * j) ws)) i
  unfolding slots_from other_ends pieces
  slots_ends zero j = refl
  slots_ends (suc k) j =
      let next : 2 * j + 2 ≡ 2 * suc j = omega arith in
      let rest : drop 2 (drop (2 * j) ws) ≡ drop (2 * suc j) ws = drop-drop 2 (2 * j) ws ∙ ap (λ (m : ℕ). drop m ws) next in
      map-append (λ s. other_end_at ws (suc s)) (slot_at j (bridge_in (take 2 (drop (2 * j) ws))) i) (slots_from (suc j) (bridges_in k (drop 2 (drop (2 * j) ws))) i)
      ∙ ap₂ (λ (x : List ℕ) (y : List ℕ). x ++ y) (slot_end j)
      (ap (λ (l : List ℕ). ends (slots_from (suc j) (bridges_in k l) i)) rest ∙ slots_ends k (suc j) ∙ sym (ap (λ (l : List ℕ). other_ends (bridges_in k l) i) rest))

path_ends : (n : ℕ) (ws links : List ℕ) (link : ℕ) (ss : List ℕ) → Path n links link ss → linked_ends n ws links link ≡ map (λ s. other_end_at ws (suc s)) ss
path_ends n ws links link [] p = ap (linked_ends n ws links) p ∙ linked_none n ws links
path_ends n ws links link (s ∷ ss) p =
    ap (linked_ends n ws links) p.0 ∙ linked_more n ws links s
    ∙ ap (λ (l : List ℕ). other_end_at ws (suc s) ∷ l) (path_ends n ws links (next_link n links (suc s)) ss p.2)

first_is : (n : ℕ) (links : List ℕ) (i : ℕ) (ss : List ℕ) → Path n links (get_or links i 0) ss → first_link n links i ≡ get_or links i 0
unfolding first_link
first_is n links i [] p = pick_ind (λ (x : ℕ). x ≡ get_or links i 0) (leb (2 * n + get_or links i 0) (length links)) (λ _. refl) (λ _. sym p)
first_is n links i (s ∷ ss) p = pick_true (get_or links i 0) 0 (le-leb (2 * n + get_or links i 0) (length links) (omega (arith, p.0, p.1)))

-- from a node's first link on, its bridges' other ends are read, in order
pub chained_ends : (n : ℕ) (bs : List Bridge) (ws links : List ℕ) → Chained n bs links → bs ≡ bridges_in (length bs) ws → (i : ℕ) → i < n
    → linked_ends n ws links (first_link n links i) ≡ other_ends bs i
chained_ends n bs ws links c e i h =
    ap (linked_ends n ws links) (first_is n links i (slots_from 0 bs i) (c.paths i h))
    ∙ path_ends n ws links (get_or links i 0) (slots_from 0 bs i) (c.paths i h)
    ∙ ap (λ (l : List Bridge). map (λ s. other_end_at ws (suc s)) (slots_from 0 l i)) e
    ∙ slots_ends ws i (length bs) 0
    ∙ sym (ap (λ (l : List Bridge). other_ends l i) e)

-- bridges laid one after the other are read back
pub laid_bridges : (bs : List Bridge) (rest : List ℕ) → bs ≡ bridges_in (length bs) (flatten (map bridge_block bs) ++ rest)
unfolding pieces flatten
laid_bridges [] rest = refl
laid_bridges (b ∷ bs) rest = ap (λ (l : List Bridge). b ∷ l) (laid_bridges bs rest)
