-- What holds of an accepted file: the theorems of specs/Theorems on files and the graphs that are held.
use mathlib.Core.Path.{◌≡◌, refl, ap, ap₂, sym, ◌∙◌, subst}
use mathlib.Core.Bool.{Bool, true, false, ◌&&◌}
use mathlib.Core.List.{List, [], ◌∷◌, ◌++◌, append-nil, append_assoc}
use Prim.Native.Nat.{ℕ, zero, suc, ◌+◌, ◌-◌, ◌≤◌, ◌<◌, min, max}
use native.Mathlib.Numerals.{add-one}
use native.Mathlib.Omega.{arith}
use borrow.Author.Tests.{eqb-true, ltb-true, ltb-false, leb-true}
use lib.Dec.{T, eqb, ltb, leb}
use lib.ListN.{length, get_or, drop, length-drop, take-append-drop}
use lib.Seq.{drop-cons, drop-drop, ext_get_or, drop-length}
use Rattle.std.proofs.Common.{Ok, Err}
use Rattle.std.specs.Result.{result_and}
use Rattle.base.specs.Tests.{◌∈◌, pick}
use Rattle.base.specs.Bytes.{be, bytes, Octets}
use Rattle.base.proofs.Bytes.{bytes_be}
use Rattle.base.specs.declared.refusal.Refusal.{Refusal}
use Rattle.base.specs.declared.refusal.Refusal.TheVariants.{Length, Version, Range, NotValid, NotCondensed}
use Rattle.graph.specs.declared.Graph.{Graph}
use Rattle.graph.specs.Limits.{max_learners, max_acceptors, mask_bytes}
use Rattle.graph.specs.LearnerGraph.{LearnerGraph, valid, condensed}
use Rattle.graphfile.specs.File.{outer_len, version_at, acceptors_at, learners_at, lists_at, Got, got, no, mask_answer, read_version, read_count, read_masks, read_list, read_lists, read_rows, Contents, read_graph, contents, graph_said}
use Rattle.graph.specs.Memory.{view_of, pair_list, triangle, list_of}
use Rattle.graphfile.specs.Arrays.{graph_in_file, contents_reading, reading_of}
use Rattle.graph.specs.Theorems.{SameGraph, Undirected}
use Rattle.graphfile.specs.Writer.{masks_bytes, list_bytes, lists_bytes, rows_bytes, body_bytes, file_bytes}
use Rattle.graphfile.specs.Theorems.{HeldSaysTheSame, AcceptedIsSound, FilesDiffer, FileWrittenBack}
use Rattle.graphfile.proofs.Reader.{Rows, GraphGot, pick_got, check_got, then_got, graph_got, list_got}
use Rattle.graph.proofs.LearnerGraph.{Symmetric}
use Rattle.graph.proofs.Same.{valid_same, condensed_same}
use Rattle.graphfile.proofs.View.{held_same}

-- ---- an accepted file: its head, its lists, and the two checks
pub record FileGot (s : List ℕ) (f : Contents) : Type 0 where
  pub long : 5 ≤ length s
  pub outer : length s ≡ 2 + be 2 s 0
  pub version : get_or s 2 0 ≡ 1
  pub acceptors : get_or s 3 0 ≡ f.acceptors
  pub learners : get_or s 4 0 ≡ f.learners
  pub some_acceptors : 1 ≤ f.acceptors
  pub most_acceptors : f.acceptors ≤ max_acceptors
  pub some_learners : 1 ≤ f.learners
  pub few : f.learners ≤ max_learners
  pub lists : read_graph s f.acceptors f.learners 5 ≡ got f (length s)

count_got : (s : List ℕ) (low high at x m : ℕ) → read_count s low high at ≡ got x m → (at < length s) × (low ≤ x) × (x ≤ high) × (get_or s at 0 ≡ x) × (m ≡ at + 1)
count_got s low high at x m e = here (ltb at (length s)) refl (leb low v) refl (leb v high) refl e
  where
    v : ℕ
    v = get_or s at 0

    here : (b : Bool) → ltb at (length s) ≡ b → (c : Bool) → leb low v ≡ c → (d : Bool) → leb v high ≡ d
        → pick b (pick (c && d) (got v (at + 1)) (no Range)) (no Length) ≡ got x m → (at < length s) × (low ≤ x) × (x ≤ high) × (v ≡ x) × (m ≡ at + 1)
    here false p c q d r e = let z : ◌≡◌ {A = ℕ} 0 1 = cc in absurd (omega arith)
    here true p false q d r e = let z : ◌≡◌ {A = ℕ} 0 1 = cc in absurd (omega arith)
    here true p true q false r e = let z : ◌≡◌ {A = ℕ} 0 1 = cc in absurd (omega arith)
    here true p true q true r e =
        let f : v ≡ x = cc in
        let k = leb-true low v q in
        let l = leb-true v high r in
        (ltb-true at (length s) p, omega arith, omega arith, f, cc)

version_got : (s : List ℕ) (at x m : ℕ) → read_version s at ≡ got x m → (get_or s at 0 ≡ 1) × (m ≡ at + 1)
version_got s at x m e = here (ltb at (length s)) (eqb (get_or s at 0) 1) refl e
  where
    here : (b c : Bool) → eqb (get_or s at 0) 1 ≡ c → pick b (pick c (got (get_or s at 0) (at + 1)) (no Version)) (no Length) ≡ got x m → (get_or s at 0 ≡ 1) × (m ≡ at + 1)
    here false c p e = let z : ◌≡◌ {A = ℕ} 0 1 = cc in absurd (omega arith)
    here true false p e = let z : ◌≡◌ {A = ℕ} 0 1 = cc in absurd (omega arith)
    here true true p e = (eqb-true (get_or s at 0) 1 p, cc)

pick_in : {A : Type 0} (b : Bool) (r : Refusal) (g : Got A) (x : A) (n : ℕ) → pick b g (no r) ≡ got x n → (b ≡ true) × (g ≡ got x n)
pick_in true r g x n e = (refl, e)
pick_in false r g x n e = let z : ◌≡◌ {A = ℕ} 0 1 = cc in absurd (omega arith)

graph_end : (s : List ℕ) (n l at : ℕ) (f : Contents) (end : ℕ) → read_graph s n l at ≡ got f end → end ≡ length s
unfolding read_graph
graph_end s n l at f end e =
    let (qs, m, g, w) = then_got (read_lists s n 1 l [] at) _ f end e in
    let (rows, m', g', w') = then_got (read_rows s n l [] m) _ f end w in
    let (b, c) = pick_in (eqb m' (length s)) Length _ f end w' in
    let d : m' ≡ end = cc in
    sym d ∙ eqb-true m' (length s) b

pub file_got : (s : List ℕ) (f : Contents) (end : ℕ) → contents s ≡ got f end → FileGot s f
unfolding contents
file_got s f end e =
    let (o, e₀) = pick_in (eqb (length s) (2 + be 2 s 0)) Length _ f end e in
    let (v, m, g, e₁) = then_got (read_version s 2) _ f end e₀ in
    let (vi, vm) = version_got s 2 v m g in
    let (n, m₁, g₁, e₂) = then_got (read_count s 1 max_acceptors m) _ f end e₁ in
    let g₁' = subst (λ (x : ℕ). read_count s 1 max_acceptors x ≡ got n m₁) vm g₁ in
    let (ni, ng, nh, ne, nm) = count_got s 1 max_acceptors 3 n m₁ g₁' in
    let (l, m₂, g₂, e₃) = then_got (read_count s 1 max_learners m₁) _ f end e₂ in
    let g₂' = subst (λ (x : ℕ). read_count s 1 max_learners x ≡ got l m₂) nm g₂ in
    let (li, lg, lh, le, lm) = count_got s 1 max_learners 4 l m₂ g₂' in
    let e₄ = subst (λ (x : ℕ). read_graph s n l x ≡ got f end) lm e₃ in
    let G = graph_got s n l 5 f end (omega arith) e₄ in
    let w : read_graph s f.acceptors f.learners 5 ≡ got f end = ap₂ (λ (x y : ℕ). read_graph s x y 5) G.acceptors G.learners ∙ e₄ in
    record {
      long = omega arith;
      outer = eqb-true (length s) (2 + be 2 s 0) o;
      version = vi;
      acceptors = ne ∙ sym G.acceptors;
      learners = le ∙ sym G.learners;
      some_acceptors = subst (λ (x : ℕ). 1 ≤ x) (sym G.acceptors) ng;
      most_acceptors = subst (λ (x : ℕ). x ≤ max_acceptors) (sym G.acceptors) nh;
      some_learners = subst (λ (x : ℕ). 1 ≤ x) (sym G.learners) lg;
      few = subst (λ (x : ℕ). x ≤ max_learners) (sym G.learners) lh;
      lists = w ∙ ap (got f) (graph_end s f.acceptors f.learners 5 f end w);
    }

-- what acceptance says
pub record Passed (s : List ℕ) (g : Graph) : Type 0 where
  pub file : Contents
  pub end : ℕ
  pub is : contents s ≡ got file end
  pub is_valid : valid (graph_said file) ≡ true
  pub is_condensed : condensed (graph_said file) ≡ true
  pub held : graph_in_file file ≡ g

pub passed : (s : List ℕ) (g : Graph) → reading_of s ≡ Ok g → Passed s g
passed s g e = by (contents s) refl e
  where
    checks : (f : Contents) (end : ℕ) → contents s ≡ got f end → (v c : Bool) → valid (graph_said f) ≡ v → condensed (graph_said f) ≡ c
        → result_and (pick v (pick c (Ok (tt {0})) (Err NotCondensed)) (Err NotValid)) (Ok (graph_in_file f)) ≡ Ok g → Passed s g
    checks f end h true true p q e = record { file = f; end = end; is = h; is_valid = p; is_condensed = q; held = cc }
    checks f end h true false p q e = let z : ◌≡◌ {A = ℕ} 0 1 = cc in absurd (omega arith)
    checks f end h false c p q e = let z : ◌≡◌ {A = ℕ} 0 1 = cc in absurd (omega arith)

    by : (x : Got Contents) → contents s ≡ x → contents_reading x ≡ Ok g → Passed s g
    by (got f end) h e = checks f end h (valid (graph_said f)) (condensed (graph_said f)) refl refl e
    by (no r) h e = let z : ◌≡◌ {A = ℕ} 0 1 = cc in absurd (omega arith)

held_file : (s : List ℕ) (g : Graph) (P : Passed s g) → SameGraph (view_of g) (graph_said P.file)
held_file s g P =
    let F = file_got s P.file P.end P.is in
    subst (λ (g : Graph). SameGraph (view_of g) (graph_said P.file)) P.held
    (held_same P.file.acceptors P.file.learners P.file F.few (graph_got s P.file.acceptors P.file.learners 5 P.file (length s) F.long F.lists))

pub held_says_the_same : HeldSaysTheSame
held_says_the_same s g e = let P = passed s g e in (P.file, P.end, P.is, held_file s g P)

pair_round : (a b : ℕ) → pair_list a b ≡ pair_list b a
unfolding pair_list
pair_round a b =
    let p : max a b ≡ max b a = omega arith in
    let q : min a b ≡ min b a = omega arith in
    λ i. max_learners + (triangle (p i) + q i)

pub view_undirected : (g : Graph) → Undirected (view_of g)
view_undirected g a b = ap (list_of g.counts g.masks) (pair_round a b)

pub undirected_symmetric : (G : LearnerGraph) → Undirected G → Symmetric G
undirected_symmetric G u a b s m = subst (λ (l : List ℕ). s ∈ l) (u a b) m

pub accepted_is_sound : AcceptedIsSound
accepted_is_sound s g e =
    let P = passed s g e in
    let S = held_file s g P in
    record {
      undirected = view_undirected g;
      is_valid = subst T (sym (valid_same (view_of g) (graph_said P.file) S ∙ P.is_valid)) tt;
      is_condensed = subst T (sym (condensed_same (view_of g) (graph_said P.file) S ∙ P.is_condensed)) tt;
    }

-- ---- the bytes of a file follow from what it says
module _ (s : List ℕ) (octets : Octets s) (n : ℕ) where
  drop_number : (w at : ℕ) → at + w ≤ length s → drop at s ≡ bytes w (be w s at) ++ drop (at + w) s
  drop_number w at h =
      sym (take-append-drop w (drop at s)) ∙ ap₂ (λ (x y : List ℕ). x ++ y) (sym (bytes_be w s at octets h)) (drop-drop w at s)

  masks_bytes_lem : (k : ℕ) (e : List ℕ) (at : ℕ) (l : List ℕ) (next : ℕ) → read_masks s n k e at ≡ got l next → (l' : List ℕ) × (l ≡ e ++ l') × (drop at s ≡ masks_bytes l' ++ drop next s)
  unfolding read_masks masks_bytes
  masks_bytes_lem zero e at l next f =
      let p : e ≡ l = cc in
      let q : at ≡ next = cc in
      ([], sym p ∙ sym (append-nil e), ap (λ (k : ℕ). drop k s) q)
  masks_bytes_lem (suc k) e at l next f =
      let m = be 2 s at in
      let (p, f₁) = pick_got (ltb (length s) (at + 2)) Length _ l next f in
      let (q, f₂) = check_got (mask_answer n e m) _ l next f₁ in
      let i = ltb-false (length s) (at + 2) p in
      let (l', x, y) = masks_bytes_lem k (e ++ (m ∷ [])) (at + 2) l next f₂ in
      (m ∷ l', x ∙ append_assoc e (m ∷ []) l', drop_number mask_bytes at i ∙ ap (λ (t : List ℕ). bytes mask_bytes m ++ t) y ∙ sym (append_assoc (bytes mask_bytes m) (masks_bytes l') (drop next s)))

  list_bytes_lem : (low at : ℕ) (l : List ℕ) (next : ℕ) → read_list s n low at ≡ got l next → drop at s ≡ list_bytes l ++ drop next s
  list_bytes_lem low at l next e =
      let t = list_got s n low at l next e in
      let (l', x, y) = masks_bytes_lem (length l) [] (at + 1) l next t.masks in
      drop-cons s at 0 t.inside ∙ ap₂ (λ (a : ℕ) (r : List ℕ). a ∷ r) t.count
      (ap (λ (k : ℕ). drop k s) (sym (add-one at)) ∙ y ∙ ap (λ (z : List ℕ). masks_bytes z ++ drop next s) (sym x))

  lists_bytes_lem : (low k : ℕ) (e : List (List ℕ)) (at : ℕ) (ls : List (List ℕ)) (next : ℕ) → read_lists s n low k e at ≡ got ls next
      → (ls' : List (List ℕ)) × (ls ≡ e ++ ls') × (drop at s ≡ lists_bytes ls' ++ drop next s)
  unfolding read_lists lists_bytes
  lists_bytes_lem low zero e at ls next f =
      let p : e ≡ ls = cc in
      let q : at ≡ next = cc in
      ([], sym p ∙ sym (append-nil e), ap (λ (k : ℕ). drop k s) q)
  lists_bytes_lem low (suc k) e at ls next f =
      let (l, m, g, w) = then_got (read_list s n low at) _ ls next f in
      let (ls', x, y) = lists_bytes_lem low k (e ++ (l ∷ [])) m ls next w in
      (l ∷ ls', x ∙ append_assoc e (l ∷ []) ls', list_bytes_lem low at l m g ∙ ap (λ (t : List ℕ). list_bytes l ++ t) y ∙ sym (append_assoc (list_bytes l) (lists_bytes ls') (drop next s)))

  rows_bytes_lem : (k : ℕ) (e : List (List (List ℕ))) (at : ℕ) (rows : List (List (List ℕ))) (next : ℕ) → read_rows s n k e at ≡ got rows next
      → (rs : List (List (List ℕ))) × (rows ≡ e ++ rs) × (drop at s ≡ rows_bytes rs ++ drop next s)
  unfolding read_rows rows_bytes
  rows_bytes_lem zero e at rows next f =
      let p : e ≡ rows = cc in
      let q : at ≡ next = cc in
      ([], sym p ∙ sym (append-nil e), ap (λ (k : ℕ). drop k s) q)
  rows_bytes_lem (suc k) e at rows next f =
      let (r, m, g, w) = then_got (read_lists s n 0 (suc k) [] at) _ rows next f in
      let (r', u, v) = lists_bytes_lem 0 (suc k) [] at r m g in
      let (rs, x, y) = rows_bytes_lem k (e ++ (r ∷ [])) m rows next w in
      (r ∷ rs, x ∙ append_assoc e (r ∷ []) rs, v ∙ ap₂ (λ (a b : List ℕ). a ++ b) (ap lists_bytes (sym u)) y ∙ sym (append_assoc (lists_bytes r) (rows_bytes rs) (drop next s)))

  graph_bytes_lem : (l at : ℕ) (f : Contents) → read_graph s n l at ≡ got f (length s) → drop at s ≡ lists_bytes f.quorums ++ rows_bytes f.rows
  unfolding read_graph
  graph_bytes_lem l at f e =
      let (qs, m, g, w) = then_got (read_lists s n 1 l [] at) _ f (length s) e in
      let (rows, m', g', w') = then_got (read_rows s n l [] m) _ f (length s) w in
      let (b, c) = pick_in (eqb m' (length s)) Length _ f (length s) w' in
      let d : record { acceptors = n; learners = l; quorums = qs; rows = rows } ≡ f = cc in
      let d' : m' ≡ length s = cc in
      let (qs', x, y) = lists_bytes_lem 1 l [] at qs m g in
      let (rs, x', y') = rows_bytes_lem l [] m rows m' g' in
      y ∙ ap (λ (t : List ℕ). lists_bytes qs' ++ t) (y' ∙ ap (λ (k : ℕ). rows_bytes rs ++ drop k s) d' ∙ ap (λ (t : List ℕ). rows_bytes rs ++ t) (drop-length s) ∙ append-nil (rows_bytes rs))
      ∙ ap₂ (λ (q : List (List ℕ)) (r : List (List (List ℕ))). lists_bytes q ++ rows_bytes r) (sym x ∙ ap (λ (x : Contents). x.quorums) d) (sym x' ∙ ap (λ (x : Contents). x.rows) d)

-- the whole file: its head, and what stands behind it
file_bytes_lem : (s : List ℕ) → Octets s → (f : Contents) → FileGot s f → s ≡ file_bytes f
unfolding file_bytes
file_bytes_lem s octets f F =
    let o = F.outer in
    let h = F.long in
    let t = lists_bytes f.quorums ++ rows_bytes f.rows in
    let b : drop version_at s ≡ body_bytes f =
    drop-cons s version_at 0 (omega arith) ∙ ap₂ (λ (x : ℕ) (y : List ℕ). x ∷ y) F.version
    (drop-cons s acceptors_at 0 (omega arith) ∙ ap₂ (λ (x : ℕ) (y : List ℕ). x ∷ y) F.acceptors
    (drop-cons s learners_at 0 (omega arith) ∙ ap₂ (λ (x : ℕ) (y : List ℕ). x ∷ y) F.learners (graph_bytes_lem s octets f.acceptors f.learners lists_at f F.lists))) in
    let l = sym (length-drop version_at s) ∙ ap length b in
    let n : be outer_len s 0 ≡ length (body_bytes f) = omega arith in
    drop_number s octets f.acceptors outer_len 0 (omega arith) ∙ ap₂ (λ (x : ℕ) (y : List ℕ). bytes outer_len x ++ y) n b

pub file_written_back : FileWrittenBack
file_written_back s octets f end e = file_bytes_lem s octets f (file_got s f end e)

-- rows with the same lists are one
rows_ext : (k : ℕ) (rs ss : List (List (List ℕ))) → Rows k rs → Rows k ss → ((x y : ℕ) → x + y < k → get_or (get_or rs x []) y [] ≡ get_or (get_or ss x []) y []) → rs ≡ ss
rows_ext zero rs ss p q h = p ∙ sym q
rows_ext (suc k) [] ss p q h = absurd p
rows_ext (suc k) (r ∷ rs) [] p q h = absurd q
rows_ext (suc k) (r ∷ rs) (t ∷ ss) p q h =
    let n = p.0 in
    let m = q.0 in
    ap₂ (λ (x : List (List ℕ)) (y : List (List (List ℕ))). x ∷ y) (ext_get_or [] r t (n ∙ sym m) (λ i l. h 0 i (omega arith)))
    (rows_ext k rs ss p.2 q.2 (λ x y l. h (suc x) y (omega arith)))

-- contents that give the same graph are one
contents_ext : (l : ℕ) (f g : Contents) → GraphGot f.acceptors l f → GraphGot g.acceptors l g → SameGraph (graph_said f) (graph_said g)
    → (f.quorums ≡ g.quorums) × (f.rows ≡ g.rows)
unfolding graph_said
contents_ext l f g F G S =
    let fl = F.learners in
    let n = F.many in
    let m = G.many in
    (ext_get_or [] f.quorums g.quorums (n ∙ sym m) (λ i h. S.quorums i (omega arith)), rows_ext l f.rows g.rows F.rows G.rows pairs)
  where
    pairs : (x y : ℕ) → x + y < l → get_or (get_or f.rows x []) y [] ≡ get_or (get_or g.rows x []) y []
    pairs x y h =
        let fl = F.learners in
        let p : min x (x + y) ≡ x = omega arith in
        let q : max x (x + y) - min x (x + y) ≡ y = difference x y in
        (λ i. get_or (get_or f.rows (sym p i) []) (sym q i) []) ∙ S.safes x (x + y) (omega arith) (omega arith) ∙ (λ i. get_or (get_or g.rows (p i) []) (q i) [])
      where
        difference : (x y : ℕ) → max x (x + y) - min x (x + y) ≡ y
        difference x y = let p : min x (x + y) ≡ x = omega arith in let q : max x (x + y) ≡ x + y = omega arith in omega arith

same_trans : (G H K L : LearnerGraph) → SameGraph G H → SameGraph K L → SameGraph G K → SameGraph H L
same_trans G H K L p q r =
    let e = p.learners in
    let d = r.learners in
    record {
      acceptors = sym p.acceptors ∙ r.acceptors ∙ q.acceptors;
      learners = sym p.learners ∙ r.learners ∙ q.learners;
      quorums = λ a la. sym (p.quorums a (omega arith)) ∙ r.quorums a (omega arith) ∙ q.quorums a (omega arith);
      safes = λ a b la lb. sym (p.safes a b (omega arith) (omega arith)) ∙ r.safes a b (omega arith) (omega arith) ∙ q.safes a b (omega arith) (omega arith);
    }

pub files_differ : FilesDiffer
unfolding graph_said
files_differ s t bs bt g h es et same =
    let P = passed s g es in
    let Q = passed t h et in
    let f = P.file in
    let k = Q.file in
    let F = file_got s f P.end P.is in
    let K = file_got t k Q.end Q.is in
    let S = same_trans (view_of g) (graph_said f) (view_of h) (graph_said k) (held_file s g P) (held_file t h Q) same in
    let ea : f.acceptors ≡ k.acceptors = S.acceptors in
    let el : f.learners ≡ k.learners = S.learners in
    let (eq, er) = contents_ext f.learners f k (graph_got s f.acceptors f.learners 5 f (length s) F.long F.lists)
    (subst (λ (l : ℕ). GraphGot k.acceptors l k) (sym el) (graph_got t k.acceptors k.learners 5 k (length t) K.long K.lists)) S
    in
    file_bytes_lem s bs f F ∙ (λ i. file_bytes (record { acceptors = ea i; learners = el i; quorums = eq i; rows = er i })) ∙ sym (file_bytes_lem t bt k K)
