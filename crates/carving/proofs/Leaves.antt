-- The first and the last bucket that marks show, empty ones skipped; and the leaves that hold a node. Assumes nothing.
use mathlib.Core.Path.{◌≡◌, refl, sym, ap, ap₂, ◌∙◌}
use mathlib.Core.List.{List, [], ◌∷◌, ◌++◌, map, map-append, flatten, append_assoc, append-nil}
use Prim.Native.Nat.{ℕ, zero, suc, ◌+◌, ◌-◌, ◌≤◌, ◌<◌}
use native.Mathlib.Numerals.{add-one}
use native.Mathlib.Omega.{arith}
use native.Mathlib.Decide.{dec_le}
use lib.Dec.{eqb}
use lib.ListN.{length, get_or, take, drop, set, replicate, length-append, length-replicate, get_or-append}
use lib.Seq.{drop_at, take-suc-set, append_snoc}
use borrow.Author.Tests.{eq-eqb, ne_eqb}
use Rattle.basics.specs.Choice.{pick, pick_false}
use Rattle.def_graph.specs.Partition.{each_by}
use Rattle.dealing.specs.Inside.Marks.{run, marks_of}
use Rattle.dealing.proofs.Marks.{flatten_append, marks_append, length_run, length-marks}
use Rattle.carving.specs.Inside.Carving.{non_empty}
use Rattle.std.specs.List.{IsChunkByPrefix}
use Rattle.std.proofs.lemmas.List.{get_or-replicate, get_or-append-add}
use Rattle.std.proofs.lemmas.Bool.{true≢false}
use mathlib.Core.Bool.{Bool, false}

-- ---- the marks of buckets

-- marks begin with 1, if there are any
pub one_first : (bs : List (List ℕ)) (d : ℕ) → 0 < length (marks_of bs) → get_or (marks_of bs) 0 d ≡ 1
unfolding marks_of run
one_first [] d h = absurd (omega arith)
one_first ([] ∷ bs) d h = one_first bs d h
one_first ((x ∷ b) ∷ bs) d h = refl

-- in a run zeroes follow
zero_behind : (k n d : ℕ) (xs : List ℕ) → 0 < n → n < k → get_or (run 1 k ++ xs) n d ≡ 0
unfolding run
zero_behind zero n d xs h j = absurd (omega arith)
zero_behind (suc k) zero d xs h j = absurd (omega arith)
zero_behind (suc k) (suc n) d xs h j =
    get_or-append (replicate k 0) xs d n (omega (arith, length-replicate {A = ℕ} k 0)) ∙ get_or-replicate k n 0 d (omega arith)

-- behind a run
behind_run : (k i d : ℕ) (xs : List ℕ) → get_or (run 1 k ++ xs) (k + i) d ≡ get_or xs i d
behind_run k i d xs = ap (λ (n : ℕ). get_or (run 1 k ++ xs) (n + i) d) (sym (length_run 1 k)) ∙ get_or-append-add (run 1 k) xs i d

pub full_more : (x : ℕ) (b : List ℕ) (bs : List (List ℕ)) → non_empty ((x ∷ b) ∷ bs) ≡ (x ∷ b) ∷ non_empty bs
unfolding non_empty
full_more x b bs = pick_false _ _ (ne_eqb (suc (length b)) 0 (λ e. omega arith))

-- the first bucket that is not empty, and those behind it
pub record First (bs : List (List ℕ)) : Type 0 where
  pub bucket : List ℕ
  pub others : List (List ℕ)
  pub some : 0 < length bucket
  pub marks_are : marks_of bs ≡ run 1 (length bucket) ++ marks_of others
  pub full : non_empty bs ≡ bucket ∷ non_empty others

first_of : (bs : List (List ℕ)) → 0 < length (marks_of bs) → First bs
unfolding marks_of non_empty run pick
first_of [] h = absurd (omega arith)
first_of ([] ∷ bs) h =
    let f = first_of bs h in
    record {
      bucket = f.bucket;
      others = f.others;
      some = f.some;
      marks_are = f.marks_are;
      full = f.full;
    }
first_of ((x ∷ b) ∷ bs) h = record {
  bucket = x ∷ b;
  others = bs;
  some = omega arith;
  marks_are = refl;
  full = full_more x b bs;
}

-- none is left
pub none_left : (bs : List (List ℕ)) → length (flatten bs) ≡ 0 → (non_empty bs ≡ [])
    × ((carve : List ℕ → List (List ℕ)) → carve [] ≡ [] ∷ [] → (flatten (each_by carve bs) ≡ []) × (marks_of (each_by carve bs) ≡ []))
unfolding flatten marks_of non_empty each_by run pick
none_left [] h = (refl, λ carve e. (refl, refl))
none_left ([] ∷ bs) h =
    let r = none_left bs h in (
      r.0,
      λ carve e. (
        ap (λ (r : List (List ℕ)). flatten (r ++ each_by carve bs)) e ∙ (r.1 carve e).0,
        ap (λ (r : List (List ℕ)). marks_of (r ++ each_by carve bs)) e ∙ (r.1 carve e).1,
      ),
    )
none_left ((x ∷ b) ∷ bs) h = absurd (omega arith)

-- the last bucket that is not empty, which begins at `at`, and those in front of it
pub record Last (bs : List (List ℕ)) (at : ℕ) : Type 0 where
  pub bucket : List ℕ
  pub others : List (List ℕ)
  pub begins : length (flatten others) ≡ at
  pub nodes_are : flatten bs ≡ flatten others ++ bucket
  pub marks_are : marks_of bs ≡ marks_of others ++ run 1 (length bucket)
  pub each : (carve : List ℕ → List (List ℕ)) → carve [] ≡ [] ∷ []
      → (flatten (each_by carve bs) ≡ flatten (each_by carve others) ++ flatten (carve bucket))
      × (marks_of (each_by carve bs) ≡ marks_of (each_by carve others) ++ marks_of (carve bucket))

nothing : (xs : List ℕ) → length xs ≤ 0 → xs ≡ []
nothing [] h = refl
nothing (x ∷ xs) h = absurd (omega arith)

-- it is the only one
last_alone : (b : List ℕ) (bs : List (List ℕ)) (at : ℕ) → length (marks_of bs) ≤ 0 → 0 ≡ at → Last (b ∷ bs) at
unfolding flatten marks_of each_by
last_alone b bs at h e =
    let none = none_left bs (omega (arith, length-marks bs)) in
    record {
      bucket = b;
      others = [];
      begins = e;
      nodes_are = ap (λ (r : List ℕ). b ++ r) (nothing (flatten bs) (omega (arith, length-marks bs))) ∙ append-nil b;
      marks_are = ap (λ (r : List ℕ). run 1 (length b) ++ r) (nothing (marks_of bs) h) ∙ append-nil (run 1 (length b));
      each = λ carve f. (
        flatten_append (carve b) (each_by carve bs) ∙ ap (λ (r : List ℕ). flatten (carve b) ++ r) (none.1 carve f).0 ∙ append-nil (flatten (carve b)),
        marks_append (carve b) (each_by carve bs) ∙ ap (λ (r : List ℕ). marks_of (carve b) ++ r) (none.1 carve f).1 ∙ append-nil (marks_of (carve b)),
      );
    }

-- it is among those behind the first
last_behind : (b : List ℕ) (bs : List (List ℕ)) (at from : ℕ) → at ≡ length b + from → Last bs from → Last (b ∷ bs) at
unfolding flatten marks_of each_by
last_behind b bs at from e l = record {
  bucket = l.bucket;
  others = b ∷ l.others;
  begins = omega (arith, e, l.begins, length-append b (flatten l.others));
  nodes_are = ap (λ (r : List ℕ). b ++ r) l.nodes_are ∙ sym (append_assoc b (flatten l.others) l.bucket);
  marks_are = ap (λ (r : List ℕ). run 1 (length b) ++ r) l.marks_are ∙ sym (append_assoc (run 1 (length b)) (marks_of l.others) (run 1 (length l.bucket)));
  each = λ carve f. (
    flatten_append (carve b) (each_by carve bs)
        ∙ ap (λ (r : List ℕ). flatten (carve b) ++ r) (l.each carve f).0
        ∙ sym (append_assoc (flatten (carve b)) (flatten (each_by carve l.others)) (flatten (carve l.bucket)))
        ∙ ap (λ (r : List ℕ). r ++ flatten (carve l.bucket)) (sym (flatten_append (carve b) (each_by carve l.others))),
    marks_append (carve b) (each_by carve bs)
        ∙ ap (λ (r : List ℕ). marks_of (carve b) ++ r) (l.each carve f).1
        ∙ sym (append_assoc (marks_of (carve b)) (marks_of (each_by carve l.others)) (marks_of (carve l.bucket)))
        ∙ ap (λ (r : List ℕ). r ++ marks_of (carve l.bucket)) (sym (marks_append (carve b) (each_by carve l.others))),
  );
}

-- as many marks as nodes
long : (b : List ℕ) (bs : List (List ℕ)) → length (marks_of (b ∷ bs)) ≡ length b + length (marks_of bs)
unfolding marks_of
long b bs = length-append (run 1 (length b)) (marks_of bs) ∙ ap (λ (n : ℕ). n + length (marks_of bs)) (length_run 1 (length b))

-- a mark that is not 0, behind which all are, begins the last bucket
pub last_of : (bs : List (List ℕ)) (at : ℕ) → at < length (marks_of bs) → (get_or (marks_of bs) at 0 ≡ 0 → ⊥)
    → ((i : ℕ) → at < i → i < length (marks_of bs) → get_or (marks_of bs) i 0 ≡ 0) → Last bs at
unfolding marks_of
last_of [] at h f z = absurd (omega arith)
last_of (b ∷ bs) at h f z = elim (dec_le (length (marks_of bs)) 0) [
  | yes none ↦ elim (dec_le at 0) [
    | yes e ↦ last_alone b bs at none (omega arith)
    | no e ↦ absurd (f (zero_behind (length b) at 0 (marks_of bs) (omega arith) (omega (arith, long b bs))))
  ]
  | no some ↦ elim (dec_le (length b) at) [
    | yes e ↦
        let i : at ≡ length b + (at - length b) = omega arith in
        last_behind b bs at (at - length b) i
        (last_of bs (at - length b) (omega (arith, long b bs))
        (λ t. f (ap (λ (n : ℕ). get_or (run 1 (length b) ++ marks_of bs) n 0) i ∙ behind_run (length b) (at - length b) 0 (marks_of bs) ∙ t))
        (λ n l m. sym (behind_run (length b) n 0 (marks_of bs)) ∙ z (length b + n) (omega arith) (omega (arith, long b bs))))
    | no e ↦
        absurd (omega (arith, z (length b + 0) (omega arith) (omega (arith, long b bs)), behind_run (length b) 0 0 (marks_of bs), one_first bs 0 (omega arith)))
  ]
]

-- ---- the leaves that hold a node have all nodes

pub flatten-full : (bs : List (List ℕ)) → flatten (non_empty bs) ≡ flatten bs
unfolding flatten non_empty pick
flatten-full [] = refl
flatten-full ([] ∷ bs) = flatten-full bs
flatten-full ((x ∷ b) ∷ bs) = ap flatten (full_more x b bs) ∙ ap (λ (r : List ℕ). (x ∷ b) ++ r) (flatten-full bs)

pub length-full : (bs : List (List ℕ)) → length (non_empty bs) ≤ length (flatten bs)
unfolding flatten non_empty pick
length-full [] = omega arith
length-full ([] ∷ bs) = length-full bs
length-full ((x ∷ b) ∷ bs) = let r = length-full bs in omega (arith, ap length (full_more x b bs), length-append b (flatten bs))

-- ---- chunks of marks, each as long as the first bucket of those that follow

-- whether the next mark belongs to the same bucket
abbrev pub goes_on : ℕ → ℕ → Bool
goes_on mark next = eqb next 0

zero_is : (x : ℕ) → eqb x 0 ≡ false → x ≡ 0 → ⊥
zero_is x e z = true≢false (sym (eq-eqb x 0 z) ∙ e)

chunk_size : (bs : List (List ℕ)) (f : First bs) (n : ℕ) → 0 < n → n ≤ length (marks_of bs) → IsChunkByPrefix goes_on (marks_of bs) n → n ≡ length f.bucket
chunk_size bs f n some within p = elim (dec_le n k) [
  | yes h ↦ elim (dec_le k n) [
    | yes j ↦ omega arith
    | no j ↦ absurd (zero_is _ (p.1 (omega (arith, long)) 0) (read n ∙ zero_behind k n 0 (marks_of f.others) some (omega arith)))
  ]
  | no h ↦ absurd (true≢false (sym (ap (λ (mark : ℕ). eqb mark 0) (sym (one (omega (arith, long)))) ∙ p.0 (k - 1) 0 (omega (arith, f.some)))))
]
  where
    k : ℕ
    k = length f.bucket

    long : length (marks_of bs) ≡ k + length (marks_of f.others)
    long = ap length f.marks_are ∙ length-append (run 1 k) (marks_of f.others) ∙ omega (arith, length_run 1 k)

    read : (i : ℕ) → get_or (marks_of bs) i 0 ≡ get_or (run 1 k ++ marks_of f.others) i 0
    read i = ap (λ (r : List ℕ). get_or r i 0) f.marks_are

    -- behind the bucket the next one begins
    one : 0 < length (marks_of f.others) → get_or (marks_of bs) (k - 1 + 1) 0 ≡ 1
    one h =
        let e : k - 1 + 1 ≡ k + 0 = omega (arith, f.some) in
        read (k - 1 + 1) ∙ ap (λ (i : ℕ). get_or (run 1 k ++ marks_of f.others) i 0) e ∙ behind_run k 0 0 (marks_of f.others) ∙ one_first f.others 0 h

-- ---- sizes, listed one at a time

-- the leaves whose sizes stand at the front of `sizes`, and those whose marks are left
pub record Listed (leaves : List (List ℕ)) (left sizes : List ℕ) (count : ℕ) : Type 0 where
  pub done : List (List ℕ)
  pub rest : List (List ℕ)
  pub split : non_empty leaves ≡ done ++ non_empty rest
  pub left_is : left ≡ marks_of rest
  pub counted : count ≡ length done
  pub sized : take count sizes ≡ map length done

pub listed_none : (leaves : List (List ℕ)) (marks sizes : List ℕ) → marks ≡ marks_of leaves → Listed leaves marks sizes 0
listed_none leaves marks sizes e = record { done = []; rest = leaves; split = refl; left_is = e; counted = refl; sized = refl }

pub listed_more : (leaves : List (List ℕ)) (left sizes : List ℕ) (count : ℕ) → Listed leaves left sizes count → (chunk left' : List ℕ) → left ≡ chunk ++ left'
    → 0 < length chunk → count < length sizes → IsChunkByPrefix goes_on left (length chunk) → Listed leaves left' (set sizes count (length chunk)) (count + 1)
listed_more leaves left sizes count l chunk left' cut some k p = record {
  done = l.done ++ (f.bucket ∷ []);
  rest = f.others;
  split = l.split ∙ ap (λ (r : List (List ℕ)). l.done ++ r) f.full ∙ sym (append_snoc l.done f.bucket (non_empty f.others));
  left_is = sym (drop_at chunk left' (length chunk) refl) ∙ ap (drop (length chunk)) (sym cut ∙ l.left_is ∙ f.marks_are)
      ∙ drop_at (run 1 (length f.bucket)) (marks_of f.others) (length chunk) (length_run 1 (length f.bucket) ∙ sym size_is);
  counted = omega (arith, l.counted, length-append l.done (f.bucket ∷ []));
  sized = ap (λ (j : ℕ). take j (set sizes count (length chunk))) (add-one count) ∙ take-suc-set sizes count (length chunk) k
      ∙ ap₂ (λ (r : List ℕ) (v : ℕ). r ++ (v ∷ [])) l.sized size_is ∙ sym (map-append length l.done (f.bucket ∷ []));
}
  where
    long : length chunk + length left' ≡ length (marks_of l.rest)
    long = omega (arith, ap length (sym cut ∙ l.left_is), length-append chunk left')

    f : First l.rest
    f = first_of l.rest (omega (arith, long))

    size_is : length chunk ≡ length f.bucket
    size_is = chunk_size l.rest f (length chunk) some (omega (arith, long)) (rw l.left_is at p)

pub listed_done : (leaves : List (List ℕ)) (left sizes : List ℕ) (count : ℕ) → Listed leaves left sizes count → length left ≡ 0
    → (count ≡ length (non_empty leaves)) × (take (length (non_empty leaves)) sizes ≡ map length (non_empty leaves))
listed_done leaves left sizes count l h =
    let none = (none_left l.rest (omega (arith, length-marks l.rest, ap length l.left_is))).0 in
    let all : non_empty leaves ≡ l.done = l.split ∙ ap (λ (r : List (List ℕ)). l.done ++ r) none ∙ append-nil l.done in
    let size : count ≡ length (non_empty leaves) = l.counted ∙ sym (ap length all) in
    (size, ap (λ (j : ℕ). take j sizes) (sym size) ∙ l.sized ∙ sym (ap (map length) all))
