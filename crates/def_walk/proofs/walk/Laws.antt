-- Laws of the walk: what it has seen when it ends, and how much that can be. The invariant between two expansions (`Inv`): each node seen once,
-- each reached, and the lists of all but the frontier's nodes seen whole. Assumes nothing.
use mathlib.Core.Path.{◌≡◌, refl, sym, subst}
use mathlib.Core.Logic.{◌⊎◌, inl, inr}
use mathlib.Core.Bool.{Bool, not}
use mathlib.Core.List.{List, [], ◌∷◌}
use mathlib.Core.List.Memᴰ.{cast as in-cast}
use mathlib.Core.List.Memᴰ.{eq_of_singleton as in_one}
use mathlib.Core.List.Memᴰ.{head as here}
use mathlib.Core.List.Memᴰ.{not-nil as in-nil}
use mathlib.Core.List.Memᴰ.{tail as there}
use mathlib.Core.List.{Memᴰ as In}
use Prim.Native.Nat.{ℕ, zero, suc, ◌+◌, ◌≤◌, ◌<◌}
use native.Mathlib.Omega.{arith}
use lib.ListN.{length}
use lib.Dec.{T}
use Rattle.basics.specs.Choice.{pick_ind}
use Rattle.basics.specs.Nodes.{has, NoDup, Below}
use Rattle.basics.proofs.Counting.{has_in, hasn't, at_most}
use Rattle.def_walk.specs.Walk.{Reach, start, along, State, visit, expand, walk}

-- ---- what is reached

-- more edges reach no less
pub reach_wider : {list list' : ℕ → List ℕ} {e x : ℕ} → ((u v : ℕ) → In v (list u) → In v (list' u)) → Reach list e x → Reach list' e x
reach_wider w start = start
reach_wider w (along {u = u} {v = v} p m) = along (reach_wider w p) (w u v m)

-- u's list has been seen whole
abbrev pub Closed : (ℕ → List ℕ) → List ℕ → ℕ → Type 0
Closed list seen u = (v : ℕ) → In v (list u) → In v seen

-- nodes that hold the entry, and whatever their out-edges lead to, hold all that is reached
pub reach_in : {list : ℕ → List ℕ} {e : ℕ} (seen : List ℕ) → In e seen → ((u : ℕ) → In u seen → Closed list seen u) → {x : ℕ} → Reach list e x → In x seen
reach_in seen r c start = r
reach_in seen r c (along {u = u} {v = v} p m) = c u (reach_in seen r c p) v m

-- ---- what the laws ask of a frontier: it keeps what it has and takes one node more

pub record Pushes (push : ℕ → List ℕ → List ℕ) : Type 0 where
  pub new : (v : ℕ) (l : List ℕ) → In v (push v l)
  pub old : (x v : ℕ) (l : List ℕ) → In x l → In x (push v l)
  pub only : (x v : ℕ) (l : List ℕ) → In x (push v l) → (x ≡ v) ⊎ In x l
  pub one : (v : ℕ) (l : List ℕ) → length (push v l) ≡ suc (length l)

-- ---- between two expansions

pub record Inv (list : ℕ → List ℕ) (n e : ℕ) (seen front : List ℕ) : Type 0 where
  pub nodup : NoDup seen
  pub below : Below n seen
  pub root : In e seen
  pub sub : (x : ℕ) → In x front → In x seen
  pub reach : (x : ℕ) → In x seen → Reach list e x
  pub closed : (u : ℕ) → In u seen → In u front ⊎ Closed list seen u

-- what an expansion does: s before, s' after, l the nodes looked at
pub record Grown (s s' : State) (l : List ℕ) : Type 0 where
  pub keeps : (x : ℕ) → In x s.seen → In x s'.seen
  pub takes : (x : ℕ) → In x l → In x s'.seen
  pub alike : length s'.seen + length s.front ≡ length s.seen + length s'.front

grown_then : {s s' s'' : State} {v : ℕ} {l : List ℕ} → Grown s s' (v ∷ []) → Grown s' s'' l → Grown s s'' (v ∷ l)
grown_then {s} {s'} {s''} {v} {l} a b = record {
  keeps = λ x m. b.keeps x (a.keeps x m);
  takes = takes';
  alike = omega (arith, a.alike, b.alike);
}
  where
    takes' : (x : ℕ) → In x (v ∷ l) → In x s''.seen
    takes' x (here q) = b.keeps x (a.takes x (here q))
    takes' x (there m) = b.takes x m

-- ---- one expansion

-- while u's list is looked at, u counts as of the frontier
module _ (list : ℕ → List ℕ) (n e : ℕ) (push : ℕ → List ℕ → List ℕ) (law : Pushes push) where
  abbrev Good : ℕ → State → Type 0
  Good u s = Inv list n e s.seen (u ∷ s.front)

  visit_good : (u v : ℕ) (s : State) → Good u s → v < n → Reach list e v → Good u (visit push v s)
  unfolding visit
  visit_good u v s g h r =
      pick_ind (Good u) (has v s.seen) (λ _. g) (λ t. record {
        nodup = (hasn't v s.seen t, g.nodup);
        below = below';
        root = there g.root;
        sub = sub';
        reach = reach';
        closed = closed';
      })
    where
      below' : Below n (v ∷ s.seen)
      below' x (here q) = omega arith
      below' x (there m) = g.below x m

      sub' : (x : ℕ) → In x (u ∷ push v s.front) → In x (v ∷ s.seen)
      sub' x (here q) = there (g.sub x (here q))
      sub' x (there m) = elim (law.only x v s.front m) [ inl q ↦ here q | inr k ↦ there (g.sub x (there k)) ]

      reach' : (x : ℕ) → In x (v ∷ s.seen) → Reach list e x
      reach' x (here q) = subst (Reach list e) (sym q) r
      reach' x (there m) = g.reach x m

      wider : (w : ℕ) → In w (u ∷ s.front) ⊎ Closed list s.seen w → In w (u ∷ push v s.front) ⊎ Closed list (v ∷ s.seen) w
      wider w (inl (here q)) = inl (here q)
      wider w (inl (there m)) = inl (there (law.old w v s.front m))
      wider w (inr c) = inr (λ x m. there (c x m))

      closed' : (w : ℕ) → In w (v ∷ s.seen) → In w (u ∷ push v s.front) ⊎ Closed list (v ∷ s.seen) w
      closed' w (here q) = inl (there (in-cast q (law.new v s.front)))
      closed' w (there m) = wider w (g.closed w m)

  visit_grown : (v : ℕ) (s : State) → Grown s (visit push v s) (v ∷ [])
  unfolding visit
  visit_grown v s =
      pick_ind (λ (s' : State). Grown s s' (v ∷ [])) (has v s.seen) (λ t. record {
        keeps = λ x m. m;
        takes = λ x m. in-cast (in_one m) (has_in v s.seen t);
        alike = refl;
      })
      (λ t. record {
        keeps = λ x m. there m;
        takes = λ x m. here (in_one m);
        alike = omega (arith, law.one v s.front);
      })

  pub expand_grown : (l : List ℕ) (s : State) → Grown s (expand push s l) l
  unfolding expand
  expand_grown [] s = record { keeps = λ x m. m; takes = λ x m. absurd (in-nil m); alike = refl }
  expand_grown (v ∷ l) s = grown_then (visit_grown v s) (expand_grown l (visit push v s))

  -- a measure that one node more raises by one at most is raised by the length of the list at most
  pub expand_short : (m : List ℕ → ℕ) → ((v : ℕ) (seen : List ℕ) → m (v ∷ seen) ≤ suc (m seen)) → (l : List ℕ) (s : State)
      → m (expand push s l).seen ≤ m s.seen + length l
  unfolding expand visit
  expand_short m one [] s = omega arith
  expand_short m one (v ∷ l) s =
      let first : m (visit push v s).seen ≤ suc (m s.seen) =
      pick_ind (λ (s' : State). m s'.seen ≤ suc (m s.seen)) (has v s.seen) (λ _. omega arith) (λ _. one v s.seen) in
      omega (arith, expand_short m one l (visit push v s))

  expand_good : (u : ℕ) (l : List ℕ) (s : State) → Good u s → Below n l → ((x : ℕ) → In x l → Reach list e x) → Good u (expand push s l)
  unfolding expand
  expand_good u [] s g h r = g
  expand_good u (v ∷ l) s g h r =
      expand_good u l (visit push v s) (visit_good u v s g (h v (here refl)) (r v (here refl))) (λ x m. h x (there m)) (λ x m. r x (there m))

  -- once u's list has been looked at, u may leave the frontier
  drop_good : (u : ℕ) (s : State) → Good u s → Closed list s.seen u → Inv list n e s.seen s.front
  drop_good u s g c = record {
    nodup = g.nodup;
    below = g.below;
    root = g.root;
    sub = λ x m. g.sub x (there m);
    reach = g.reach;
    closed = λ w m. go w (g.closed w m);
  }
    where
      go : (w : ℕ) → In w (u ∷ s.front) ⊎ Closed list s.seen w → In w s.front ⊎ Closed list s.seen w
      go w (inl (here q)) = inr (λ v m. c v (subst (λ (z : ℕ). In v (list z)) q m))
      go w (inl (there m)) = inl m
      go w (inr d) = inr d

-- ---- the whole walk

-- what a walk ends with: either all lists of what it has seen are seen whole, or it was stopped, and then `Late` holds
pub record Ended (list : ℕ → List ℕ) (n e : ℕ) (Late : List ℕ → Type 0) (from r : List ℕ) : Type 0 where
  pub nodup : NoDup r
  pub below : Below n r
  pub keeps : (x : ℕ) → In x from → In x r
  pub reach : (x : ℕ) → In x r → Reach list e x
  pub why : ((u : ℕ) → In u r → Closed list r u) ⊎ Late r

module _ (list : ℕ → List ℕ) (n e : ℕ) (push : ℕ → List ℕ → List ℕ) (law : Pushes push) (too_far : List ℕ → ℕ → Bool) (too_many : List ℕ → Bool)
    (Late : List ℕ → Type 0) (far_late : (l : List ℕ) (u : ℕ) → T (too_far l u) → Late l) (many_late : (l : List ℕ) → T (too_many l) → Late l)
    (inside : (u v : ℕ) → u < n → In v (list u) → v < n) where
  stopped : {seen front : List ℕ} → Inv list n e seen front → Late seen → Ended list n e Late seen seen
  stopped i t = record { nodup = i.nodup; below = i.below; keeps = λ x m. m; reach = i.reach; why = inr t }

  done : {seen : List ℕ} → Inv list n e seen [] → Ended list n e Late seen seen
  done i = record {
    nodup = i.nodup;
    below = i.below;
    keeps = λ x m. m;
    reach = i.reach;
    why = inl (λ u m. elim (i.closed u m) [ inl k ↦ absurd (in-nil k) | inr c ↦ c ]);
  }

  later : {a b r : List ℕ} → ((x : ℕ) → In x a → In x b) → Ended list n e Late b r → Ended list n e Late a r
  later k i = record { nodup = i.nodup; below = i.below; keeps = λ x m. i.keeps x (k x m); reach = i.reach; why = i.why }

  record Next (s : State) (u : ℕ) (s' : State) : Type 0 where
    grown : Grown s s' (list u)
    inv : Inv list n e s'.seen s'.front

  next : (seen fr : List ℕ) (u : ℕ) → Inv list n e seen (u ∷ fr) → Next (record { seen = seen; front = fr }) u (expand push (record { seen = seen; front = fr }) (list u))
  next seen fr u i =
      let s₀ : State = record { seen = seen; front = fr } in
      let g : Grown s₀ (expand push s₀ (list u)) (list u) = expand_grown list n e push law (list u) s₀ in
      let iu : In u seen = i.sub u (here refl) in record {
        grown = g;
        inv = drop_good list n e push law u (expand push s₀ (list u))
            (expand_good list n e push law u (list u) s₀ i (λ v m. inside u v (i.below u iu) m) (λ v m. along (i.reach u iu) m)) g.takes;
      }

  -- the fuel is enough: what has left the frontier is counted by length seen - length front
  pub walk_ended : (f : ℕ) (seen front : List ℕ) → Inv list n e seen front → n + length front ≤ f + length seen
      → Ended list n e Late seen (walk list push too_far too_many f seen front)
  unfolding walk
  walk_ended zero seen [] i h = done i
  walk_ended zero seen (u ∷ fr) i h = absurd (let m = at_most n seen i.nodup i.below in omega arith)
  walk_ended (suc f) seen [] i h = done i
  walk_ended (suc f) seen (u ∷ fr) i h =
      let s : State = expand push (record { seen = seen; front = fr }) (list u) in
      let x : Next (record { seen = seen; front = fr }) u s = next seen fr u i in
      pick_ind (Ended list n e Late seen) (too_far seen u) (λ t. stopped i (far_late seen u t))
      (λ _. pick_ind (Ended list n e Late seen) (too_many s.seen) (λ t. later x.grown.keeps (stopped x.inv (many_late s.seen t)))
      (λ _. later x.grown.keeps (walk_ended f s.seen s.front x.inv (omega (arith, x.grown.alike)))))

  -- The upper bound, over a measure of what is seen that one node more raises by one at most: it is at most cap before an expansion, and an
  -- expansion adds at most a list's length.
  pub walk_short : (m : List ℕ → ℕ) → ((v : ℕ) (seen : List ℕ) → m (v ∷ seen) ≤ suc (m seen))
      → (cap L : ℕ) → ((l : List ℕ) → T (not (too_many l)) → m l ≤ cap) → ((u : ℕ) → u < n → length (list u) ≤ L)
      → (f : ℕ) (seen front : List ℕ) → Inv list n e seen front → m seen ≤ cap → m (walk list push too_far too_many f seen front) ≤ cap + L
  unfolding walk
  walk_short m one cap L c a zero seen front i h = omega arith
  walk_short m one cap L c a (suc f) seen [] i h = omega arith
  walk_short m one cap L c a (suc f) seen (u ∷ fr) i h =
      let s₀ : State = record { seen = seen; front = fr } in
      let s : State = expand push s₀ (list u) in
      let x : Next s₀ u s = next seen fr u i in
      pick_ind (λ (r : List ℕ). m r ≤ cap + L) (too_far seen u) (λ _. omega arith)
      (λ _. pick_ind (λ (r : List ℕ). m r ≤ cap + L) (too_many s.seen)
      (λ _. omega (arith, expand_short list n e push law m one (list u) s₀, a u (i.below u (i.sub u (here refl)))))
      (λ t. walk_short m one cap L c a f s.seen s.front x.inv (c s.seen t)))

-- ---- two walks with the same stops are the same

pub walk_same : (list : ℕ → List ℕ) (push : ℕ → List ℕ → List ℕ) {too_far tooFar' : List ℕ → ℕ → Bool} {too_many tooMany' : List ℕ → Bool}
    → ((seen : List ℕ) (u : ℕ) → too_far seen u ≡ tooFar' seen u) → ((seen : List ℕ) → too_many seen ≡ tooMany' seen)
    → (f : ℕ) (seen front : List ℕ) → walk list push too_far too_many f seen front ≡ walk list push tooFar' tooMany' f seen front
unfolding walk
walk_same list push far many zero seen front = refl
walk_same list push far many (suc f) seen [] = refl
walk_same list push far many (suc f) seen (u ∷ fr) =
    let s : State = expand push (record { seen = seen; front = fr }) (list u) in
    rw (far seen u, many s.seen, walk_same list push far many f s.seen s.front) refl
