-- Repair reaches every node. After the turns of the nodes below i (`Turned`): the nodes marked are the reached ones, with all that their lists
-- lead to, and every node below i is one of them. A turn's bridge starts at a marked node, so that what it leads to is reached too. Assumes
-- nothing.
use mathlib.Core.Path.{◌≡◌, refl, sym, subst, ◌∙◌}
use mathlib.Core.Logic.{◌⊎◌, inl, inr}
use mathlib.Core.Bool.{false, ◌&&◌}
use mathlib.Core.List.{List, [], ◌∷◌, ◌++◌}
use mathlib.Core.List.Memᴰ.{append_cases as in-cases}
use mathlib.Core.List.Memᴰ.{append_left as in_left}
use mathlib.Core.List.Memᴰ.{append_right as in_right}
use mathlib.Core.List.Memᴰ.{cases_cons as in-cons}
use mathlib.Core.List.Memᴰ.{cast as in-cast}
use mathlib.Core.List.Memᴰ.{eq_of_singleton as in_one}
use mathlib.Core.List.Memᴰ.{head as here}
use mathlib.Core.List.Memᴰ.{not-nil as in-nil}
use mathlib.Core.List.Memᴰ.{tail as there}
use mathlib.Core.List.{Memᴰ as In}
use Prim.Native.Nat.{ℕ, zero, suc, ◌≤◌, ◌<◌}
use native.Mathlib.Omega.{arith}
use native.Mathlib.Decide.{dec_lt}
use lib.ListN.{length, length-append, get_or}
use lib.Ieee.{Float, lt}
use Rattle.basics.specs.Choice.{pick, pick_ind}
use Rattle.basics.specs.Nodes.{has, NoDup, Below}
use Rattle.basics.specs.Graph.{Bridge, other_end, list_of}
use Rattle.basics.proofs.Counting.{has_in, hasn't}
use Rattle.basics.proofs.Members.{both_left}
use Rattle.distance.specs.Vectors.{between}
use Rattle.def_walk.specs.Walk.{Reach, start, along}
use Rattle.def_walk.proofs.walk.Laws.{Pushes, Closed, Inv, Ended, reach_wider, walk_ended}
use Rattle.def_walk.specs.Repair.{stack, mark_reachable, candidates_for, nearest_reached, Repaired, bridge_to, turn, turns_to, ensure_connectivity}
use Rattle.def_walk.proofs.graph_utils.Bridges.{list_snoc, Ends, AllEnds, ends_snoc, Opposite, other_end_in, far_in_lem, list_below}

-- ---- marking

stack_laws : Pushes stack
stack_laws = record { new = λ v l. here refl; old = λ x v l m. there m; only = λ x v l m. in-cons m; one = λ v l. refl }

-- what marking ends with: nothing stops it
pub record Marked (list : ℕ → List ℕ) (n e : ℕ) (from r : List ℕ) : Type 0 where
  pub nodup : NoDup r
  pub below : Below n r
  pub keeps : (x : ℕ) → In x from → In x r
  pub reach : (x : ℕ) → In x r → Reach list e x
  pub closed : (u : ℕ) → In u r → Closed list r u

never_stopped : {list : ℕ → List ℕ} {n e : ℕ} {from r : List ℕ} → Ended list n e (λ _. ⊥) from r → Marked list n e from r
never_stopped d = record { nodup = d.nodup; below = d.below; keeps = d.keeps; reach = d.reach; closed = elim d.why [ inl c ↦ c | inr x ↦ absurd x ] }

mark_ended : (list : ℕ → List ℕ) (n e : ℕ) → ((u v : ℕ) → In v (list u) → v < n) → (reached : List ℕ) (s : ℕ) → (In s reached → ⊥)
    → Inv list n e (s ∷ reached) (s ∷ []) → Marked list n e (s ∷ reached) (mark_reachable list n reached s)
unfolding mark_reachable
mark_ended list n e inside reached s out i =
    pick_ind (Marked list n e (s ∷ reached)) (has s reached) (λ t. absurd (out (has_in s reached t)))
    (λ _. never_stopped (walk_ended list n e stack stack_laws (λ _ _. false) (λ _. false) (λ _. ⊥) (λ l u t. t) (λ l t. t)
    (λ u v h. inside u v) n (s ∷ reached) (s ∷ []) i (omega arith)))

-- ---- where a bridge starts

nearest_reached_lem : (vs : List (List Float)) (reached : List ℕ) (i best : ℕ) (cs : List ℕ) → In best reached → In (nearest_reached vs reached i best cs) reached
unfolding nearest_reached
nearest_reached_lem vs reached i best [] m = m
nearest_reached_lem vs reached i best (c ∷ cs) m =
    nearest_reached_lem vs reached i (pick (has c reached && lt (between vs i c) (between vs i best)) c best) cs
    (pick_ind (λ (x : ℕ). In x reached) (has c reached && lt (between vs i c) (between vs i best))
    (λ t. has_in c reached (both_left (has c reached) (lt (between vs i c) (between vs i best)) t)) (λ _. m))

-- ---- the turns

pub record Turned (rows : List (List ℕ)) (e i : ℕ) (r : Repaired) : Type 0 where
  pub marks : Marked (list_of rows r.bridges) (length rows) e (e ∷ []) r.reached
  pub all : (j : ℕ) → j < i → In j r.reached
  pub ends : AllEnds (length rows) r.bridges
  pub few : length r.bridges ≤ i
  pub fewer : e < i → length r.bridges < i

module _ (rows : List (List ℕ)) (e : ℕ) (vs : List (List Float)) (e-below : e < length rows)
    (below : (u v : ℕ) → In v (get_or rows u []) → v < length rows) where
  inside : (bs : List Bridge) → AllEnds (length rows) bs → (u v : ℕ) → In v (list_of rows bs u) → v < length rows
  inside bs a = list_below rows (length rows) below bs a

  -- before the first turn
  first : Turned rows e zero (turns_to rows e vs zero)
  unfolding turns_to
  first = record {
    marks = mark_ended (list_of rows []) (length rows) e (inside [] tt) [] e (λ m. in-nil m) (record {
      nodup = ((λ m. in-nil m), tt);
      below = λ x m. let q = in_one m in omega arith;
      root = here refl;
      sub = λ x m. m;
      reach = λ x m. subst (Reach (list_of rows []) e) (sym (in_one m)) start;
      closed = λ u m. inl m;
    });
    all = λ j h. absurd (omega arith);
    ends = tt;
    few = omega arith;
    fewer = λ h. absurd (omega arith);
  }

  -- the turn of a node that is not reached
  module _ (i : ℕ) (i-below : i < length rows) (r : Repaired) (t : Turned rows e i r) (out : In i r.reached → ⊥) where
    root : In e r.reached
    root = t.marks.keeps e (here refl)

    b : Bridge
    b = bridge_to rows e vs r i

    b_near : In b.near r.reached
    unfolding b bridge_to
    b_near = nearest_reached_lem vs r.reached i e (candidates_for (list_of rows r.bridges) e i) root

    b_far : b.far ≡ i
    unfolding b bridge_to
    b_far = refl

    bs : List Bridge
    bs = r.bridges ++ (b ∷ [])

    list : ℕ → List ℕ
    list = list_of rows bs

    b_ends : Ends (length rows) b
    b_ends = record {
      near_below = t.marks.below b.near b_near;
      far_below = omega (arith, b_far);
      differ = λ q. out (in-cast (sym (q ∙ b_far)) b_near);
    }

    bs_ends : AllEnds (length rows) bs
    unfolding bs
    bs_ends = ends_snoc (length rows) r.bridges b t.ends b_ends

    wider : (u v : ℕ) → In v (list_of rows r.bridges u) → In v (list u)
    unfolding list bs
    wider u v m = rw (list_snoc rows r.bridges b u) (in_left (other_end b u) m)

    edge : In i (list b.near)
    unfolding list bs
    edge = rw (list_snoc rows r.bridges b b.near) (in_right (list_of rows r.bridges b.near) (in-cast (sym b_far) (far_in_lem b)))

    reach_old : (x : ℕ) → In x r.reached → Reach list e x
    reach_old x m = reach_wider wider (t.marks.reach x m)

    begun : Inv list (length rows) e (i ∷ r.reached) (i ∷ [])
    unfolding list bs
    begun = record {
      nodup = (out, t.marks.nodup);
      below = below';
      root = there root;
      sub = λ x m. here (in_one m);
      reach = reach';
      closed = closed';
    }
      where
        below' : Below (length rows) (i ∷ r.reached)
        below' x (here q) = omega arith
        below' x (there m) = t.marks.below x m

        reach' : (x : ℕ) → In x (i ∷ r.reached) → Reach list e x
        reach' x (here q) = subst (Reach list e) (sym q) (along (reach_old b.near b_near) edge)
        reach' x (there m) = reach_old x m

        end : (u v : ℕ) → Opposite b u v → In v (i ∷ r.reached)
        end u v (inl p) = here (p.1 ∙ b_far)
        end u v (inr p) = there (in-cast p.1 b_near)

        closed' : (u : ℕ) → In u (i ∷ r.reached) → In u (i ∷ []) ⊎ Closed list (i ∷ r.reached) u
        closed' u (here q) = inl (here q)
        closed' u (there m) = inr (λ v k. elim (in-cases (list_of rows r.bridges u) (rw (list_snoc rows r.bridges b u) at k)) [
          | inl l ↦ there (t.marks.closed u m v l)
          | inr l ↦ end u v (other_end_in b u v l)
        ])

    marked : Marked list (length rows) e (i ∷ r.reached) (mark_reachable list (length rows) r.reached i)
    unfolding list
    marked = mark_ended list (length rows) e (inside bs bs_ends) r.reached i out begun

    bridged : Turned rows e (suc i) (record { reached = mark_reachable list (length rows) r.reached i; bridges = bs })
    unfolding list bs
    bridged = record {
      marks = record {
        nodup = marked.nodup;
        below = marked.below;
        keeps = λ x m. marked.keeps x (there (t.marks.keeps x m));
        reach = marked.reach;
        closed = marked.closed;
      };
      all = λ j h. elim (dec_lt j i) [ yes k ↦ marked.keeps j (there (t.all j k)) | no k ↦ marked.keeps j (here {x = i} (omega arith)) ];
      ends = bs_ends;
      few = omega (arith, length-append r.bridges (b ∷ []), t.few);
      fewer = λ h. omega (arith, length-append r.bridges (b ∷ []), t.fewer (e_before h));
    }
      where
        -- the entry is reached and i is not, so i is not the entry
        e_before : e < suc i → e < i
        e_before h = elim (dec_lt e i) [ yes k ↦ k | no k ↦ absurd (out (in-cast {b = e} (omega arith) root)) ]

  -- the turn of a node that is reached
  passed : (i : ℕ) (r : Repaired) → Turned rows e i r → In i r.reached → Turned rows e (suc i) r
  passed i r t m = record {
    marks = t.marks;
    all = λ j h. elim (dec_lt j i) [ yes k ↦ t.all j k | no k ↦ in-cast {b = i} (omega arith) m ];
    ends = t.ends;
    few = omega (arith, t.few);
    fewer = λ h. omega (arith, t.few);
  }

  turned : (i : ℕ) → i < length rows → (r : Repaired) → Turned rows e i r → Turned rows e (suc i) (turn rows e vs i r)
  unfolding turn b bs list
  turned i h r t =
      pick_ind (Turned rows e (suc i)) (has i r.reached) (λ q. passed i r t (has_in i r.reached q))
      (λ q. bridged i h r t (hasn't i r.reached q))

  pub turns_turned : (i : ℕ) → i ≤ length rows → Turned rows e i (turns_to rows e vs i)
  unfolding turns_to
  turns_turned zero h = first
  turns_turned (suc i) h = turned i h (turns_to rows e vs i) (turns_turned i (omega arith))

  -- ---- what repair promises

  all_turned : Turned rows e (length rows) (turns_to rows e vs (length rows))
  all_turned = turns_turned (length rows) (omega arith)

  -- every node is reached along out-edges of the repaired lists
  pub repair_reaches_all : (x : ℕ) → x < length rows → Reach (list_of rows (ensure_connectivity rows e vs)) e x
  unfolding ensure_connectivity
  repair_reaches_all x h = all_turned.marks.reach x (all_turned.all x h)

  -- both ends of a bridge are nodes, and different
  pub repair_ends : AllEnds (length rows) (ensure_connectivity rows e vs)
  unfolding ensure_connectivity
  repair_ends = all_turned.ends

  -- there are fewer bridges than nodes
  pub repair_few : length (ensure_connectivity rows e vs) < length rows
  unfolding ensure_connectivity
  repair_few = all_turned.fewer e-below
