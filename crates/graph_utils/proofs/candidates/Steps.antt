-- What one candidate does, and what folds over lists of candidates do. Assumes nothing.
use mathlib.Core.Path.{◌≡◌, refl, sym, ap, ◌∙◌}
use mathlib.Core.Bool.{true, false, ◌||◌}
use mathlib.Core.List.{List, [], ◌∷◌, ◌++◌}
use Prim.Native.Nat.{ℕ}
use lib.Dec.{eqb, leb}
use lib.ListN.{get_or}
use lib.Ieee.{Float, lt}
use Rattle.basics.specs.Choice.{pick, pick_true, pick_false}
use denote.Param.Members.{Mut}
use Rattle.std.specs.Fn.{Called}
use Rattle.std.specs.Iterator.{YieldsFirstBy, FoldsItems}
use Rattle.std.specs.List.{fold}
use Rattle.std.proofs.lemmas.Iterator.Consumers.{YieldsList-from_first, fold_from_yields_List}
use Rattle.words.specs.declared.ids.Node.{Node}
use Rattle.lists.specs.declared.chains.Entries.{Entries}
use Rattle.lists.specs.Inside.Lists.{entries_left}
use Rattle.distance.specs.Vectors.{vector_of}
use Rattle.def_walk.specs.Repair.{lists_of, with_lists, candidates_for}
use Rattle.distance.specs.declared.vectors.Nearest.{Nearest}
use Rattle.graph_utils.specs.Inside.Candidates.{Seeking, nearest, distance_from, considered, considered_all, start_of}

module _ (k : Seeking) where
  -- ---- one candidate

  pub not_reached : (c mark : ℕ) (best : Nearest) → mark ≡ get_or k.marks c 0 → (leb k.n c || eqb mark 0) ≡ true → best ≡ considered k c best
  unfolding considered
  not_reached c mark best m t = sym (pick_true best _ (ap (λ (x : ℕ). leb k.n c || eqb x 0) (sym m) ∙ t))

  pub is_reached : (c mark : ℕ) (best : Nearest) (d : Float) → mark ≡ get_or k.marks c 0 → (leb k.n c || eqb mark 0) ≡ false → d ≡ distance_from k c
      → pick (lt d best.distance) (nearest c d) best ≡ considered k c best
  unfolding considered
  is_reached c mark best d m t e =
      ap (λ (x : Float). pick (lt x best.distance) (nearest c x) best) e
      ∙ sym (pick_false best _ (ap (λ (x : ℕ). leb k.n c || eqb x 0) (sym m) ∙ t))

  -- ---- a list of candidates

  pub fold_list : (cs : List ℕ) (best : Nearest) → fold (λ (b : Nearest) (c : ℕ). considered k c b) best cs ≡ considered_all k cs best
  unfolding considered_all
  fold_list [] best = refl
  fold_list (c ∷ cs) best = fold_list cs (considered k c best)

  pub both_lists : (a b : List ℕ) (best : Nearest) → considered_all k b (considered_all k a best) ≡ considered_all k (a ++ b) best
  unfolding considered_all
  both_lists [] b best = refl
  both_lists (c ∷ a) b best = both_lists a b (considered k c best)

  -- ---- the lists of some nodes

  module _ (list : ℕ → List ℕ) where
    pub fold_lists : (us : List ℕ) (best : Nearest)
        → fold (λ (b : Nearest) (u : ℕ). considered_all k (list u) b) best us ≡ considered_all k (lists_of list us) best
    unfolding considered_all lists_of
    fold_lists [] best = refl
    fold_lists (u ∷ us) best = fold_lists us (considered_all k (list u) best) ∙ both_lists (list u) (lists_of list us) best

    pub fold_with_lists : (us : List ℕ) (best : Nearest)
        → fold (λ (b : Nearest) (u : ℕ). considered_all k (u ∷ list u) b) best us ≡ considered_all k (with_lists list us) best
    unfolding considered_all with_lists
    fold_with_lists [] best = refl
    fold_with_lists (u ∷ us) best =
        fold_with_lists us (considered_all k (u ∷ list u) best) ∙ both_lists (u ∷ list u) (with_lists list us) best

-- ---- a fold over a node's list, whose calls act as h on a node's number

pub entries_fold : {C F : Type 0} (g : Mut F (C × (Node × Unit {0})) C) (h : C → ℕ → C) {f : F} {s : Entries} (init r : C) {us : List ℕ} → entries_left s ≡ us
    → FoldsItems (YieldsFirstBy (λ (x : Node). x.0) entries_left) g s f init r
    → ((b : C) (x : Node) (r : C) (f' : F) → Called g f (b, (x, tt)) r f' → (f' ≡ f) × (r ≡ h b x.0)) → r ≡ fold h init us
entries_fold g h init r {us} e ran calls = fold_from_yields_List g h init r ran (YieldsList-from_first (λ (x : Node). x.0) entries_left us e) calls

-- ---- the whole

pub start_is : (marks : List ℕ) (n : ℕ) (vs : List (List Float)) (list : ℕ → List ℕ) (entry i : ℕ) (query : List Float) (far : Float) (own last : Nearest)
    → let k : Seeking = record { marks = marks; n = n; vs = vs; query = query } in
    query ≡ vector_of vs i → far ≡ distance_from k entry
    → own ≡ fold (λ (b : Nearest) (u : ℕ). considered_all k (list u) b) (nearest entry far) (list i)
    → last ≡ fold (λ (b : Nearest) (u : ℕ). considered_all k (u ∷ list u) b) own (list entry) → last.node.0 ≡ start_of marks n vs list entry i
unfolding start_of candidates_for
start_is marks n vs list entry i query far own last q f o l =
    ap (λ (b : Nearest). b.node.0) (
    l ∙ fold_with_lists (by query) list (list entry) own
    ∙ ap (considered_all (by query) (with_lists list (list entry))) (o ∙ fold_lists (by query) list (list i) (nearest entry far))
    ∙ both_lists (by query) (lists_of list (list i)) (with_lists list (list entry)) (nearest entry far)
    )
    ∙ ap (whole query) f ∙ ap (λ (x : List Float). whole x (distance_from (by x) entry)) q
  where
    by : List Float → Seeking
    by x = record { marks = marks; n = n; vs = vs; query = x }

    whole : List Float → Float → ℕ
    whole x d = (considered_all (by x) (lists_of list (list i) ++ with_lists list (list entry)) (nearest entry d)).node.0
