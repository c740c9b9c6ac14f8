-- A walk that has seen every node sees no more, whatever is left in its frontier. Assumes nothing.
use mathlib.Core.Path.{◌≡◌, refl, ap, ◌∙◌}
use mathlib.Core.Bool.{Bool}
use mathlib.Core.List.{List, [], ◌∷◌}
use mathlib.Core.List.Memᴰ.{head as here}
use mathlib.Core.List.Memᴰ.{tail as there}
use mathlib.Core.List.{Memᴰ as In}
use Prim.Native.Nat.{ℕ, zero, suc}
use lib.Dec.{ltb, ltb→lt}
use Rattle.basics.specs.Choice.{pick, pick_ind, pick_yes}
use Rattle.basics.specs.Nodes.{has, Below}
use Rattle.basics.proofs.Counting.{in_has}
use Rattle.basics.proofs.Keeping.{in_keep}
use Rattle.def_walk.specs.Walk.{State, visit, expand, walk}
use Rattle.beam_search.specs.Inside.Search.{within}

-- the entries of a graph's lists are nodes of it
pub within_below : (n : ℕ) (l : List ℕ) → Below n (within n l)
within_below n l x m = ltb→lt x n (in_keep (λ v. ltb v n) l m).0

-- a list of nodes seen adds nothing
expand_seen : (push : ℕ → List ℕ → List ℕ) (s : State) (l : List ℕ) → ((v : ℕ) → In v l → In v s.seen) → expand push s l ≡ s
unfolding expand visit
expand_seen push s [] f = refl
expand_seen push s (v ∷ l) f =
    ap (λ (z : State). expand push z l) (pick_yes (has v s.seen) s _ (in_has (f v (here refl))))
    ∙ expand_seen push s l (λ w m. f w (there m))

-- two ways to one outcome
pub same : {X : Type 0} (b : Bool) (x y z : X) → x ≡ z → y ≡ z → pick b x y ≡ z
same b x y z p q = pick_ind (λ k. k ≡ z) b (λ _. p) (λ _. q)

pub walk_full : (list : ℕ → List ℕ) (push : ℕ → List ℕ → List ℕ) (far : List ℕ → ℕ → Bool) (many : List ℕ → Bool) (seen : List ℕ)
    → ((u v : ℕ) → In v (list u) → In v seen) → (more : ℕ) (front : List ℕ) → walk list push far many more seen front ≡ seen
unfolding walk
walk_full list push far many seen f zero front = refl
walk_full list push far many seen f (suc more) [] = refl
walk_full list push far many seen f (suc more) (u ∷ front) =
    let e : expand push (record { seen = seen; front = front }) (list u) ≡ record { seen = seen; front = front } = expand_seen push (record { seen = seen; front = front }) (list u) (f u) in
    same (far seen u) seen _ seen refl
    (same (many (expand push (record { seen = seen; front = front }) (list u)).seen) _ _ seen (ap (λ (s : State). s.seen) e)
    (ap (λ (s : State). walk list push far many more s.seen s.front) e ∙ walk_full list push far many seen f more front))
