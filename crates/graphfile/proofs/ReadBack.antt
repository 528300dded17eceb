-- The file of a graph in order is read back: piece by piece, each from what is left of the file.
use mathlib.Core.Path.{◌≡◌, refl, ap, ap₂, sym, ◌∙◌, subst}
use mathlib.Core.List.{List, [], ◌∷◌, ◌++◌, append-nil, append_assoc}
use Prim.Native.Nat.{ℕ, zero, suc, ◌+◌, ◌-◌, ◌*◌, ◌^◌, ◌≤◌, ◌<◌, min, max}
use native.Mathlib.Nat.{add-zero}
use native.Mathlib.Omega.{arith}
use borrow.Author.Tests.{lt-ltb, le-leb, eq-eqb}
use lib.Pow.{pow_mono}
use lib.Dec.{eqb}
use lib.ListN.{length, get_or, take, drop, length-append, length-drop, take-append-drop}
use lib.Seq.{drop-cons, drop-drop, drop-append_seam, take-suc, take_all, length-take-le, get_or-drop}
use Rattle.std.proofs.Common.{Result, Ok, IsOkAnd}
use Rattle.base.specs.declared.refusal.Refusal.{Refusal}
use Rattle.base.specs.Tests.{pick}
use Rattle.base.specs.Bytes.{be, bytes}
use Rattle.base.proofs.Bytes.{bytes_length, be_at, be_bytes}
use Rattle.base.specs.declared.refusal.Refusal.TheVariants.{Length}
use Rattle.graph.specs.declared.Graph.{Graph}
use Rattle.graph.specs.Limits.{max_acceptors, max_learners, max_masks, mask_bytes}
use Rattle.graph.specs.LearnerGraph.{LearnerGraph}
use Rattle.graph.specs.Memory.{held_graph, list_of, view_of}
use Rattle.graph.specs.Theorems.{SameGraph}
use Rattle.graphfile.specs.File.{outer_len, acceptors_at, learners_at, lists_at, Got, got, no, and_then, mask_answer, read_count, read_masks, read_list, read_lists, read_rows, read_graph, contents, graph_said}
use Rattle.graphfile.specs.Arrays.{held_reading, held_of}
use Rattle.graphfile.specs.Inside.Steps.{field_of}
use Rattle.graphfile.specs.Writer.{masks_bytes, list_bytes, lists_bytes, rows_bytes, body_bytes, file_bytes, listed, rows_from, contents_of, graph_file}
use Rattle.graphfile.specs.Theorems.{ListInOrder, InOrder, GraphReadsBack}
use Rattle.graphfile.proofs.Reader.{masks_go, graph_got}
use Rattle.graphfile.proofs.View.{held_same, pair_ordered}
use Rattle.graphfile.proofs.Peopled.{passed_mask}
use Rattle.graphfile.proofs.Accepted.{file_got}
use Rattle.graphfile.proofs.Files.{lists_behind}
use Rattle.graphfile.proofs.Putting.{masks_length, file_length, file_most_lem, body_length}

-- ---- what is left behind a piece, and what is read from its front
pass : (s v t : List ℕ) (at : ℕ) → drop at s ≡ v ++ t → drop (at + length v) s ≡ t
pass s v t at e = sym (drop-drop (length v) at s) ∙ ap (drop (length v)) e ∙ drop-append_seam v t

-- a piece that is there ends in the list
inside : (s v t : List ℕ) (at : ℕ) → 0 < length v → drop at s ≡ v ++ t → at + length v ≤ length s
inside s v t at h e = let n = sym (length-drop at s) ∙ ap length e ∙ length-append v t in omega arith

number_back : (n x : ℕ) (s t : List ℕ) (at : ℕ) → at ≤ length s → x < 256 ^ n → drop at s ≡ bytes n x ++ t → be n s at ≡ x
number_back n x s t at h k e =
    ap (λ (y : List ℕ). be n y at) (sym (take-append-drop at s)) ∙ be_at n (take at s) (drop at s) at (length-take-le at s h) ∙ ap (λ (y : List ℕ). be n y 0) e ∙ be_bytes n x t k

byte_back : (s t : List ℕ) (at x : ℕ) → drop at s ≡ x ∷ t → get_or s at 0 ≡ x
byte_back s t at x e = ap (λ (k : ℕ). get_or s k 0) (sym (add-zero at)) ∙ sym (get_or-drop at s 0 0) ∙ ap (λ (y : List ℕ). get_or y 0 0) e

count_back : (s : List ℕ) (low high at v : ℕ) → at < length s → get_or s at 0 ≡ v → low ≤ v → v ≤ high → read_count s low high at ≡ got v (at + 1)
count_back s low high at v i e a b =
    simp (lt-ltb at (length s) i, le-leb low (get_or s at 0) (omega arith), le-leb (get_or s at 0) high (omega arith)) (ap (λ (x : ℕ). got x (at + 1)) e)

next : (l : List ℕ) (i : ℕ) → i < length l → masks_bytes (drop i l) ≡ bytes mask_bytes (get_or l i 0) ++ masks_bytes (drop (suc i) l)
unfolding masks_bytes
next l i h = ap masks_bytes (drop-cons l i 0 h)

module _ (s : List ℕ) (n : ℕ) (few : n ≤ max_acceptors) where
  -- a mask that is accepted has two bytes
  two_bytes : (e : List ℕ) (m : ℕ) → mask_answer n e m ≡ Ok tt → m < 256 ^ mask_bytes
  two_bytes e m h = let p = (passed_mask n e m h).1 in let q : 2 ^ n ≤ 2 ^ max_acceptors = pow_mono few in omega arith

  -- the masks of l from the i-th on
  masks_back : (l : List ℕ) → ((i : ℕ) → i < length l → mask_answer n (take i l) (get_or l i 0) ≡ Ok tt) → (k i : ℕ) → i + k ≡ length l → (at : ℕ) (q : List ℕ)
      → drop at s ≡ masks_bytes (drop i l) ++ q → read_masks s n k (take i l) at ≡ got l (at + mask_bytes * k)
  unfolding read_masks
  masks_back l o zero i e at q d =
      let z : at ≡ at + mask_bytes * 0 = omega arith in
      ap₂ (λ (x : List ℕ) (y : ℕ). got x y) (take_all i l (omega arith)) z
  masks_back l o (suc k) i e at q d =
      let m = get_or l i 0 in
      let r = masks_bytes (drop (suc i) l) in
      let w = bytes_length mask_bytes m in
      let d₁ : drop at s ≡ bytes mask_bytes m ++ (r ++ q) = d ∙ ap (λ (x : List ℕ). x ++ q) (next l i (omega arith)) ∙ append_assoc (bytes mask_bytes m) r q in
      let j = inside s (bytes mask_bytes m) (r ++ q) at (omega arith) d₁ in
      let b : be mask_bytes s at ≡ m = number_back mask_bytes m s (r ++ q) at (omega arith) (two_bytes (take i l) m (o i (omega arith))) d₁ in
      let c : mask_answer n (take i l) (be mask_bytes s at) ≡ Ok tt = ap (mask_answer n (take i l)) b ∙ o i (omega arith) in
      let t : take i l ++ (be mask_bytes s at ∷ []) ≡ take (suc i) l = ap (λ (x : ℕ). take i l ++ (x ∷ [])) b ∙ sym (take-suc l i 0 (omega arith)) in
      let p : drop (at + mask_bytes) s ≡ r ++ q = ap (λ (x : ℕ). drop (at + x) s) (sym w) ∙ pass s (bytes mask_bytes m) (r ++ q) at d₁ in
      let z : at + mask_bytes + mask_bytes * k ≡ at + mask_bytes * suc k = omega arith in
      masks_go s n k (take i l) at (Ok tt) (omega arith) c ∙ ap (λ (x : List ℕ). read_masks s n k x (at + mask_bytes)) t
      ∙ masks_back l o k (suc i) (omega arith) (at + mask_bytes) q p ∙ ap (got l) z

  list_back : (low : ℕ) (l : List ℕ) → ListInOrder n low l → (at : ℕ) (q : List ℕ) → drop at s ≡ list_bytes l ++ q → read_list s n low at ≡ got l (at + length (list_bytes l))
  unfolding read_list
  list_back low l o at q d =
      let v = list_bytes l in
      let j = inside s v q at (omega arith) d in
      let w = masks_length l in
      let c = count_back s low max_masks at (length l) (omega arith) (byte_back s (masks_bytes l ++ q) at (length l) d) o.enough o.most in
      let p : drop (at + 1) s ≡ masks_bytes l ++ q = pass s (length l ∷ []) (masks_bytes l ++ q) at d in
      let z : at + 1 + mask_bytes * length l ≡ at + length v = omega arith in
      ap (λ (g : Got ℕ). and_then g (λ k at'. read_masks s n k [] at')) c ∙ masks_back l o.masks (length l) 0 (omega arith) (at + 1) q p ∙ ap (got l) z

  lists_back : (low : ℕ) (f : ℕ → List ℕ) (k a : ℕ) → ((i : ℕ) → a ≤ i → i < a + k → ListInOrder n low (f i)) → (e : List (List ℕ)) (at : ℕ) (q : List ℕ)
      → drop at s ≡ lists_bytes (listed f a k) ++ q → read_lists s n low k e at ≡ got (e ++ listed f a k) (at + length (lists_bytes (listed f a k)))
  unfolding read_lists lists_bytes listed
  lists_back low f zero a o e at q d = ap₂ (λ (x : List (List ℕ)) (y : ℕ). got x y) (sym (append-nil e)) (sym (add-zero at))
  lists_back low f (suc k) a o e at q d =
      let v = list_bytes (f a) in
      let r = lists_bytes (listed f (suc a) k) in
      let d₁ : drop at s ≡ v ++ (r ++ q) = d ∙ append_assoc v r q in
      let z : at + length v + length r ≡ at + length (v ++ r) = omega (arith, length-append v r) in
      ap (λ (g : Got (List ℕ)). and_then g (λ l at'. read_lists s n low k (e ++ (l ∷ [])) at')) (list_back low (f a) (o a (omega arith) (omega arith)) at (r ++ q) d₁)
      ∙ lists_back low f k (suc a) (λ i h m. o i (omega arith) (omega arith)) (e ++ (f a ∷ [])) (at + length v) q (pass s v (r ++ q) at d₁)
      ∙ ap₂ (λ (x : List (List ℕ)) (y : ℕ). got x y) (append_assoc e (f a ∷ []) (listed f (suc a) k)) z

  rows_back : (f : ℕ → ℕ → List ℕ) (l : ℕ) → ((a b : ℕ) → a < l → b < l → ListInOrder n 0 (f a b)) → (k a : ℕ) → a + k ≡ l → (e : List (List (List ℕ))) (at : ℕ) (q : List ℕ)
      → drop at s ≡ rows_bytes (rows_from f a k) ++ q → read_rows s n k e at ≡ got (e ++ rows_from f a k) (at + length (rows_bytes (rows_from f a k)))
  unfolding read_rows rows_bytes rows_from
  rows_back f l o zero a m e at q d = ap₂ (λ (x : List (List (List ℕ))) (y : ℕ). got x y) (sym (append-nil e)) (sym (add-zero at))
  rows_back f l o (suc k) a m e at q d =
      let row = listed (f a) a (suc k) in
      let v = lists_bytes row in
      let r = rows_bytes (rows_from f (suc a) k) in
      let d₁ : drop at s ≡ v ++ (r ++ q) = d ∙ append_assoc v r q in
      let z : at + length v + length r ≡ at + length (v ++ r) = omega (arith, length-append v r) in
      ap (λ (g : Got (List (List ℕ))). and_then g (λ x at'. read_rows s n k (e ++ (x ∷ [])) at')) (lists_back 0 (f a) (suc k) a (λ i h j. o a i (omega arith) (omega arith)) [] at (r ++ q) d₁)
      ∙ rows_back f l o k (suc a) (omega arith) (e ++ (row ∷ [])) (at + length v) q (pass s v (r ++ q) at d₁)
      ∙ ap₂ (λ (x : List (List (List ℕ))) (y : ℕ). got x y) (append_assoc e (row ∷ []) (rows_from f (suc a) k)) z

-- ---- all lists, and nothing behind them
lists_end : (s : List ℕ) (G : LearnerGraph) → InOrder G → (at : ℕ) → at ≤ length s → drop at s ≡ lists_bytes (contents_of G).quorums ++ rows_bytes (contents_of G).rows
    → read_graph s G.acceptors G.learners at ≡ got (contents_of G) (length s)
unfolding read_graph
lists_end s G o at h d =
    let n = G.acceptors in
    let l = G.learners in
    let Q = listed G.quorums 0 l in
    let R = rows_from G.safes 0 l in
    let v = lists_bytes Q in
    let w = rows_bytes R in
    let len = length-drop at s in
    let len₂ = ap length d ∙ length-append v w in
    let end : at + length v + length w ≡ length s = omega arith in
    let p : drop (at + length v) s ≡ w ++ [] = pass s v w at d ∙ sym (append-nil w) in
    let q = lists_back s n o.most_acceptors 1 G.quorums l 0 (λ i a b. o.quorums i (omega arith)) [] at w d in
    let r = rows_back s n o.most_acceptors G.safes l o.safes l 0 (omega arith) [] (at + length v) [] p in
    ap (λ (g : Got (List (List ℕ))). and_then g (λ quorums at'. and_then (read_rows s n l [] at') (λ rows end.
    pick (eqb end (length s)) (got (record { acceptors = n; learners = l; quorums = quorums; rows = rows }) end) (no Length)))) q
    ∙ ap (λ (g : Got (List (List (List ℕ)))). and_then g (λ rows end. pick (eqb end (length s)) (got (record { acceptors = n; learners = l; quorums = Q; rows = rows }) end) (no Length))) r
    ∙ simp (eq-eqb (at + length v + length w) (length s) end) (ap (got (contents_of G)) end)

-- ---- the whole file
file_back : (G : LearnerGraph) → InOrder G → length (file_bytes (contents_of G)) < outer_len + 256 ^ outer_len → contents (file_bytes (contents_of G)) ≡ got (contents_of G) (length (file_bytes (contents_of G)))
unfolding file_bytes bytes
file_back G o short =
    let f = contents_of G in
    let s = file_bytes f in
    let l = file_length f in
    let b = body_length f in
    let n = be_bytes outer_len (length (body_bytes f)) (body_bytes f) (omega arith) in
    let h : length s ≡ outer_len + be outer_len s 0 = omega arith in
    let a = count_back s 1 max_acceptors acceptors_at G.acceptors (omega arith) refl o.some_acceptors o.most_acceptors in
    let c = count_back s 1 max_learners learners_at G.learners (omega arith) refl o.some_learners o.most_learners in
    lists_behind s h (omega arith) refl G.acceptors (ap field_of a) G.learners (ap field_of c) ∙ lists_end s G o lists_at (omega arith) refl

-- ---- the graph of what a file says of a graph is that graph
listed_get : (f : ℕ → List ℕ) (a k i : ℕ) → i < k → get_or (listed f a k) i [] ≡ f (a + i)
unfolding listed
listed_get f a zero i h = absurd (omega arith)
listed_get f a (suc k) zero h = ap f (sym (add-zero a))
listed_get f a (suc k) (suc i) h = listed_get f (suc a) k i (omega arith) ∙ ap f (let e : suc a + i ≡ a + suc i = omega arith in e)

rows_get : (f : ℕ → ℕ → List ℕ) (a k i j : ℕ) → i + j < k → get_or (get_or (rows_from f a k) i []) j [] ≡ f (a + i) (a + i + j)
unfolding rows_from
rows_get f a zero i j h = absurd (omega arith)
rows_get f a (suc k) zero j h =
    let e : a ≡ a + 0 = sym (add-zero a) in
    listed_get (f a) a (suc k) j (omega arith) ∙ (λ i. f (e i) (e i + j))
rows_get f a (suc k) (suc i) j h =
    let e : suc a + i ≡ a + suc i = omega arith in
    rows_get f (suc a) k i j (omega arith) ∙ (λ t. f (e t) (e t + j))

contents_same : (g : Graph) → SameGraph (graph_said (contents_of (view_of g))) (view_of g)
unfolding graph_said
contents_same g = record { acceptors = refl; learners = refl; quorums = λ a h. quorum a h; safes = λ a b p q. safe a b p q }
  where
    G : LearnerGraph
    G = view_of g

    quorum : (a : ℕ) → a < G.learners → get_or (listed G.quorums 0 G.learners) a [] ≡ G.quorums a
    quorum a h = listed_get G.quorums 0 G.learners a h ∙ ap G.quorums (let e : 0 + a ≡ a = omega arith in e)

    least : (a b l : ℕ) → a < l → b < l → min a b + (max a b - min a b) < l
    least a b l p q = let m : min a b ≤ max a b = omega arith in let r : max a b < l = omega arith in omega arith

    safe : (a b : ℕ) → a < G.learners → b < G.learners → get_or (get_or (rows_from G.safes 0 G.learners) (min a b) []) (max a b - min a b) [] ≡ G.safes a b
    safe a b p q =
        rows_get G.safes 0 G.learners (min a b) (max a b - min a b) (least a b G.learners p q) ∙ ap (list_of g.counts g.masks) (sym (pair_ordered a b))

same_through : (G H K : LearnerGraph) → SameGraph G H → SameGraph H K → SameGraph G K
same_through G H K p q =
    let e = p.learners in
    record {
      acceptors = p.acceptors ∙ q.acceptors;
      learners = p.learners ∙ q.learners;
      quorums = λ a h. p.quorums a h ∙ q.quorums a (omega arith);
      safes = λ a b h k. p.safes a b h k ∙ q.safes a b (omega arith) (omega arith);
    }

pub graph_reads_back : GraphReadsBack
graph_reads_back g o =
    let G = view_of g in
    let f = contents_of G in
    let s = graph_file g in
    let m = file_most_lem g.acceptors g.learners g.counts g.masks o.most_learners in
    let c = file_back G o (omega arith) in
    let F = file_got s f (length s) c in
    let S = held_same g.acceptors g.learners f o.most_learners (graph_got s g.acceptors g.learners lists_at f (length s) F.long F.lists) in
    subst (λ (r : Result Graph Refusal). IsOkAnd r (λ h. SameGraph (view_of h) G)) (sym (ap held_reading c))
    (same_through (held_graph g.acceptors g.learners (held_of f).counts (held_of f).masks) (graph_said f) G S (contents_same g))
