-- A node's own row stays as it is in its turn, so that it can be read while other rows change; and what the words are after each step. Assumes
-- nothing.
use mathlib.Core.Path.{◌≡◌, refl, sym, ap, ap₂, subst, ◌∙◌}
use mathlib.Core.Bool.{Bool, true}
use mathlib.Core.List.Memᴰ.{head as here}
use mathlib.Core.List.Memᴰ.{tail as there}
use mathlib.Core.List.{List, [], ◌∷◌, ◌++◌, Memᴰ as In}
use Prim.Native.Nat.{ℕ, suc, ◌+◌, ◌*◌, ◌/◌, ◌≤◌, ◌<◌, min}
use native.Mathlib.Nat.{suc-mul, mul-le-mul, mul-le-mul_right}
use native.Mathlib.Omega.{arith}
use native.Mathlib.Decide.{ℕ_discrete}
use native.Mathlib.Numerals.{add-one}
use lib.Dec.{T}
use lib.ListN.{length, get_or, take, drop, set, length-append}
use lib.Seq.{set-get_or, get_or-set_other, take-suc, take_all, drop-drop}
use borrow.Rule.Slice.PartMut.{put_mid}
use Rattle.basics.specs.Choice.{pick, pick_ind, pick_false}
use Rattle.basics.specs.Nodes.{has, Below}
use Rattle.basics.specs.Inside.Rows.{Rows}
use Rattle.basics.proofs.Counting.{in_has}
use Rattle.basics.proofs.Members.{in_get_d, in_take}
use Rattle.store.specs.Layout.{row_size}
use Rattle.store.specs.View.{row_block}
use Rattle.lists.specs.Inside.Words.{row_lists, Blocks}
use Rattle.lists.proofs.Blocks.{blocks_length, blocks_count, nth_block, put_block, rows_read_back}
use Rattle.def_graph.specs.Refine.{takes, add_back, add_backs, reverse_to, add_reverse_edges}
use Rattle.def_graph.proofs.refine.Laws.{reverse_rows}
use Rattle.finish.specs.Inside.Reversed.{EntryAdded, BackAdded, Turned, Reversed}
use Rattle.finish.proofs.reverse_edges.Entry.{takes_had, takes_room}

true_of : (b : Bool) → T b → b ≡ true
true_of true t = refl
true_of mathlib.Core.Bool.false t = absurd t

-- where a row starts is a number that a word of the machine holds
pub place_fits : (a b : ℕ) → a ≤ 4294967295 → b ≤ 65536 → a * b ≤ 4294967295 * 65536
place_fits a b h k = mul-le-mul h k

-- ---- a node's own row

module _ (D i : ℕ) where
  own_back : (nb : ℕ) (rows : List (List ℕ)) → In nb (get_or rows i []) → get_or (add_back D i nb rows) i [] ≡ get_or rows i []
  unfolding add_back
  own_back nb rows m =
      let row : List ℕ = get_or rows nb [] in
      elim (ℕ_discrete i nb) [
        | yes e ↦
            let own : In i row = rw e (rw e at m) in
            ap (λ (rs : List (List ℕ)). get_or rs i []) (pick_false (set rows nb (row ++ (i ∷ []))) rows (takes_had D i row (true_of (has i row) (in_has own))))
        | no n ↦
            pick_ind (λ (rs : List (List ℕ)). get_or rs i [] ≡ get_or rows i []) (takes D i row)
            (λ _. get_or-set_other rows nb i (row ++ (i ∷ [])) [] n) (λ _. refl)
      ]

  -- entries of a node's own row leave that row as it is
  pub own_row : (nbs : List ℕ) (rows : List (List ℕ)) → ((nb : ℕ) → In nb nbs → In nb (get_or rows i [])) → get_or (add_backs D i nbs rows) i [] ≡ get_or rows i []
  unfolding add_backs
  own_row [] rows h = refl
  own_row (nb ∷ nbs) rows h =
      let first : get_or (add_back D i nb rows) i [] ≡ get_or rows i [] = own_back nb rows (h nb (here refl)) in
      own_row nbs (add_back D i nb rows) (λ v m. subst (In v) (sym first) (h v (there m))) ∙ first

  -- one neighbour more
  pub backs_more : (nbs : List ℕ) (nb : ℕ) (rows : List (List ℕ)) → add_backs D i (nbs ++ (nb ∷ [])) rows ≡ add_back D i nb (add_backs D i nbs rows)
  unfolding add_backs
  backs_more [] nb rows = refl
  backs_more (x ∷ nbs) nb rows = backs_more nbs nb (add_back D i x rows)

  pub back_length : (nb : ℕ) (rows : List (List ℕ)) → length (add_back D i nb rows) ≡ length rows
  unfolding add_back
  back_length nb rows =
      pick_ind (λ (rs : List (List ℕ)). length rs ≡ length rows) (takes D i (get_or rows nb [])) (λ _. lib.ListN.length-set rows nb (get_or rows nb [] ++ (i ∷ []))) (λ _. refl)

  pub backs_length : (nbs : List ℕ) (rows : List (List ℕ)) → length (add_backs D i nbs rows) ≡ length rows
  unfolding add_backs
  backs_length [] rows = refl
  backs_length (nb ∷ nbs) rows = backs_length nbs (add_back D i nb rows) ∙ back_length nb rows

-- ---- one neighbour, in words

module _ (D node nb : ℕ) (ws : List ℕ) where
  one_set : (rows : List (List ℕ)) → set rows nb (pick (takes D node (get_or rows nb [])) (get_or rows nb [] ++ (node ∷ [])) (get_or rows nb [])) ≡ add_back D node nb rows
  unfolding add_back pick
  one_set rows = go (takes D node (get_or rows nb []))
    where
      go : (t : Bool) → set rows nb (pick t (get_or rows nb [] ++ (node ∷ [])) (get_or rows nb [])) ≡ pick t (set rows nb (get_or rows nb [] ++ (node ∷ []))) rows
      go true = refl
      go mathlib.Core.Bool.false = set-get_or rows nb []

  -- a row that does not stand in the words
  pub back_none : length ws < nb * row_size D + row_size D → BackAdded D node nb ws ws
  back_none h rs b l =
      let long : suc nb * row_size D ≤ length rs * row_size D = mul-le-mul_right (row_size D) l in
      absurd (omega (arith, blocks_length D rs ws b, suc-mul nb (row_size D)))

  -- the row's block, passed on and returned
  pub back_put : (at k : ℕ) (part : List ℕ) → at ≡ nb * row_size D → k ≡ row_size D → EntryAdded node (take k (drop at ws)) part → BackAdded D node nb ws (put_mid at k ws part)
  back_put at k part e size added rs b l =
      let row : List ℕ = get_or rs nb [] in
      let new : List ℕ = pick (takes D node row) (row ++ (node ∷ [])) row in
      let past : at + k ≡ suc nb * row_size D = omega (arith, suc-mul nb (row_size D)) in
      let old : take k (drop at ws) ≡ row_block D row = ap₂ (λ (m : ℕ) (a : ℕ). take m (drop a ws)) size e ∙ nth_block D rs ws b nb l in
      let is : part ≡ row_block D new = added D row (b.short nb) old in
      let put : Blocks D (set rs nb new) (take (nb * row_size D) ws ++ (row_block D new ++ drop (suc nb * row_size D) ws)) = put_block D rs ws b nb new l (room row (b.short nb)) in
      let words : take (nb * row_size D) ws ++ (row_block D new ++ drop (suc nb * row_size D) ws) ≡ put_mid at k ws part =
      ap₂ (λ (a : ℕ) (z : ℕ). take a ws ++ (row_block D new ++ drop z ws)) (sym e) (sym past)
      ∙ ap₂ (λ (p : List ℕ) (z : List ℕ). take at ws ++ (p ++ z)) (sym is) (sym (drop-drop k at ws)) in
      subst (λ (rows : List (List ℕ)). Blocks D rows (put_mid at k ws part)) (one_set rs) (subst (Blocks D (set rs nb new)) words put)
    where
      room : (row : List ℕ) → length row ≤ D → length (pick (takes D node row) (row ++ (node ∷ [])) row) ≤ D
      room row h =
          pick_ind (λ (r : List ℕ). length r ≤ D) (takes D node row) (λ t. omega (arith, length-append row (node ∷ []), takes_room D node row t)) (λ _. h)

-- ---- a node's turn, in words

-- the turn up to entry e
abbrev pub TurnedTo : ℕ → ℕ → ℕ → List ℕ → List ℕ → Type 0
TurnedTo D node e before after =
    (rs : List (List ℕ)) → Blocks D rs before → node < length rs → Below (length rs) (get_or rs node []) → Blocks D (add_backs D node (take e (get_or rs node [])) rs) after

module _ (D node : ℕ) (ws : List ℕ) where
  pub turn_first : TurnedTo D node 0 ws ws
  unfolding add_backs
  turn_first rs b l h = b

  counted : (rs : List (List ℕ)) → Blocks D rs ws → length (get_or (row_lists D ws) node []) ≡ length (get_or rs node [])
  counted rs b = ap (λ (rows : List (List ℕ)). length (get_or rows node [])) (rows_read_back D rs ws b)

  pub turn_more : (e nb : ℕ) (now next : List ℕ) → e < length (get_or (row_lists D ws) node []) → nb ≡ get_or (get_or (row_lists D now) node []) e 0
      → TurnedTo D node e ws now → BackAdded D node nb now next → TurnedTo D node (e + 1) ws next
  turn_more e nb now next h q turned added rs b l inside =
      let row : List ℕ = get_or rs node [] in
      let rs' : List (List ℕ) = add_backs D node (take e row) rs in
      let b' : Blocks D rs' now = turned rs b l inside in
      let many : length rs' ≡ length rs = backs_length D node (take e row) rs in
      let own : get_or rs' node [] ≡ row = own_row D node (take e row) rs (λ v m. in_take e row m) in
      let short : e < length row = omega (arith, counted rs b) in
      let is : nb ≡ get_or row e 0 =
      q
      ∙ ap (λ (rows : List (List ℕ)). get_or (get_or rows node []) e 0) (rows_read_back D rs' now b')
      ∙ ap (λ (r : List ℕ). get_or r e 0) own in
      let below : nb < length rs' = omega (arith, inside (get_or row e 0) (in_get_d row e 0 short)) in
      let more : add_back D node nb rs' ≡ add_backs D node (take (e + 1) row) rs =
      ap (λ (k : ℕ). add_back D node k rs') is
      ∙ sym (backs_more D node (take e row) (get_or row e 0) rs)
      ∙ ap (λ (nbs : List ℕ). add_backs D node nbs rs) (sym (ap (λ (k : ℕ). take k row) (add-one e) ∙ take-suc row e 0 short)) in
      subst (λ (rows : List (List ℕ)). Blocks D rows next) more (added rs' b' below)

  pub turn_last : (e : ℕ) (now : List ℕ) → length (get_or (row_lists D ws) node []) ≤ e → TurnedTo D node e ws now → Turned D node ws now
  turn_last e now h turned rs b l inside =
      let row : List ℕ = get_or rs node [] in
      let all : take e row ≡ row = take_all e row (omega (arith, counted rs b)) in
      subst (λ (nbs : List ℕ). Blocks D (add_backs D node nbs rs) now) all (turned rs b l inside)

-- ---- all turns, in words

next_turn : (D : ℕ) (rs : List (List ℕ)) (i : ℕ) → add_backs D i (get_or (reverse_to D rs i) i []) (reverse_to D rs i) ≡ reverse_to D rs (suc i)
unfolding reverse_to
next_turn D rs i = refl

-- the turns of the nodes below i
abbrev pub ReversedTo : ℕ → ℕ → List ℕ → List ℕ → Type 0
ReversedTo D i before after =
    (rs : List (List ℕ)) → Blocks D rs before → length rs ≤ 1024 → ((u : ℕ) → Below (length rs) (get_or rs u [])) → Blocks D (reverse_to D rs i) after

module _ (D : ℕ) (ws : List ℕ) where
  pub reverse_first : ReversedTo D 0 ws ws
  unfolding reverse_to
  reverse_first rs b l inside = b

  pub reverse_more : (i : ℕ) (now next : List ℕ) → i < min (length ws / row_size D) 1024 → ReversedTo D i ws now → Turned D i now next → ReversedTo D (i + 1) ws next
  reverse_more i now next h reversed turned rs b l inside =
      let n : ℕ = length rs in
      let many : length ws / row_size D ≡ n = blocks_count D rs ws b in
      let held : Rows n D (reverse_to D rs i) = reverse_rows n D rs i (omega arith) (record { many = refl; short = b.short; inside = inside }) in
      let here : i < length (reverse_to D rs i) = omega (arith, held.many) in
      let all : Below (length (reverse_to D rs i)) (get_or (reverse_to D rs i) i []) = λ v m. omega (arith, held.many, held.inside i v m) in
      subst (λ (rows : List (List ℕ)). Blocks D rows next) (next_turn D rs i ∙ ap (reverse_to D rs) (sym (add-one i)))
      (turned (reverse_to D rs i) (reversed rs b l inside) here all)

  pub reverse_last : (i : ℕ) (now : List ℕ) → i ≡ min (length ws / row_size D) 1024 → ReversedTo D i ws now → Reversed D ws now
  unfolding add_reverse_edges
  reverse_last i now e reversed rs b l inside =
      let all : i ≡ length rs = omega (arith, blocks_count D rs ws b) in
      subst (λ (k : ℕ). Blocks D (reverse_to D rs k) now) all (reversed rs b l inside)
