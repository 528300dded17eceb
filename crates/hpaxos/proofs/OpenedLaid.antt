-- A round that was just opened can be laid out as bytes: the lists of an accepted file fill the arrays' places, and each mask is of two bytes.
use mathlib.Core.Path.{◌≡◌, refl, sym, subst}
use mathlib.Core.Logic.{◌⊎◌, inl, inr}
use mathlib.Core.Bool.{Bool, true, false}
use mathlib.Core.List.Memᴰ
use mathlib.Core.List.{List, [], ◌∷◌, ◌++◌}
use Prim.Native.Nat.{ℕ, zero, suc, ◌+◌, ◌*◌, ◌^◌}
use native.Mathlib.Omega.{arith}
use lib.Dec.{eqb, ltb}
use lib.ListN.{length, length-replicate}
use Rattle.std.specs.Prelude.{Result, Ok, Err}
use Rattle.std.specs.Result.{result_and}
use Rattle.base.specs.Tests.{◌∈◌, pick}
use Rattle.base.specs.Bytes.{be, Octets}
use Rattle.base.specs.declared.refusal.Refusal.TheVariants.{Length}
use Rattle.base.specs.declared.refusal.Refusal.{Refusal}
use Rattle.graph.specs.declared.Graph.{Graph}
use Rattle.graph.specs.Limits.{max_masks}
use Rattle.graph.specs.Answers.{graph_answer}
use Rattle.graphfile.specs.File.{Got, got, no, mask_answer, read_count, read_masks, read_list, read_lists, read_rows, read_graph, Contents, contents, graph_said}
use Rattle.graph.specs.Memory.{pair_list, GraphSized}
use Rattle.graphfile.specs.Arrays.{ListArrays, hold, hold_all, hold_rows, held_of, nothing, graph_in_file, contents_reading, reading_of}
use Rattle.graphfile.proofs.Reader.{GraphGot, pick_got, check_got, then_got, graph_got}
use Rattle.graphfile.proofs.View.{Fits, all_fits, rows_fits}
use Rattle.graphfile.proofs.Accepted.{file_got}
use Rattle.round.specs.Round.{Round}
use Rattle.round.specs.Premises.{Starts}
use Rattle.round.proofs.JustOpened.{opens, opened_own}
use Rattle.roundbytes.specs.Layout as layout
use Rattle.roundbytes.proofs.Typing.{be_below}
use Rattle.hpaxos.proofs.Bounds as bounds

abbrev Masks : List ℕ → Type 0
Masks l = bounds.Below (256 ^ 4) (omega arith) l

abbrev Lists : List (List ℕ) → Type 0
Lists ls = (l : List ℕ) → l ∈ ls → Masks l

abbrev Rows : List (List (List ℕ)) → Type 0
Rows rs = (r : List (List ℕ)) → r ∈ rs → Lists r

each_more : {A : Type 0} (P : A → Type 0) (l : List A) (y : A) → ((x : A) → x ∈ l → P x) → P y → (x : A) → x ∈ l ++ (y ∷ []) → P x
each_more P l y h k x i = step (Memᴰ.append_cases l i)
  where
    step : (x ∈ l) ⊎ (x ∈ y ∷ []) → P x
    step (inl j) = h x j
    step (inr j) = subst P (sym (Memᴰ.eq_of_singleton j)) k

-- ---- what is read
module _ (s : List ℕ) (o : Octets s) (n : ℕ) where
  masks_read : (k : ℕ) (e : List ℕ) (at : ℕ) (l : List ℕ) (next : ℕ) → Masks e → read_masks s n k e at ≡ got l next → Masks l
  unfolding read_masks
  masks_read zero e at l next h f = let p : e ≡ l = cc in subst Masks p h
  masks_read (suc k) e at l next h f =
      let m = be 2 s at in
      let (p, f₁) = pick_got (ltb (length s) (at + 2)) Length _ l next f in
      let (q, f₂) = check_got (mask_answer n e m) _ l next f₁ in
      let small = be_below 2 s at o in
      masks_read k (e ++ (m ∷ [])) (at + 2) l next (bounds.below_append (256 ^ 4) (omega arith) e (m ∷ []) h (bounds.below_one (256 ^ 4) (omega arith) m (omega arith))) f₂

  list_read : (low at : ℕ) (l : List ℕ) (next : ℕ) → read_list s n low at ≡ got l next → Masks l
  unfolding read_list
  list_read low at l next e =
      let (k, m, f, g) = then_got (read_count s low max_masks at) (λ k at'. read_masks s n k [] at') l next e in
      masks_read k [] m l next (λ i. omega arith) g

  lists_read : (low k : ℕ) (e : List (List ℕ)) (at : ℕ) (ls : List (List ℕ)) (next : ℕ) → Lists e → read_lists s n low k e at ≡ got ls next → Lists ls
  unfolding read_lists
  lists_read low zero e at ls next h f = let p : e ≡ ls = cc in subst Lists p h
  lists_read low (suc k) e at ls next h f =
      let (l, m, g, w) = then_got (read_list s n low at) _ ls next f in
      lists_read low k (e ++ (l ∷ [])) m ls next (each_more Masks e l h (list_read low at l m g)) w

  rows_read : (k : ℕ) (e : List (List (List ℕ))) (at : ℕ) (rs : List (List (List ℕ))) (next : ℕ) → Rows e → read_rows s n k e at ≡ got rs next → Rows rs
  unfolding read_rows
  rows_read zero e at rs next h f = let p : e ≡ rs = cc in subst Rows p h
  rows_read (suc k) e at rs next h f =
      let (r, m, g, w) = then_got (read_lists s n 0 (suc k) [] at) _ rs next f in
      rows_read k (e ++ (r ∷ [])) m rs next (each_more Lists e r h (lists_read 0 (suc k) [] at r m (λ _ i. elim i [ ]) g)) w

  graph_read : (l at : ℕ) (f : Contents) (end : ℕ) → read_graph s n l at ≡ got f end → Lists f.quorums × Rows f.rows
  unfolding read_graph
  graph_read l at f end e =
      let (qs, m, g, w) = then_got (read_lists s n 1 l [] at) _ f end e in
      let (rs, m', g', w') = then_got (read_rows s n l [] m) _ f end w in
      whole (eqb m' (length s)) qs rs m' (lists_read 1 l [] at qs m (λ _ i. elim i [ ]) g) (rows_read l [] m rs m' (λ _ i. elim i [ ]) g') w'
    where
      whole : (b : Bool) (qs : List (List ℕ)) (rs : List (List (List ℕ))) (m' : ℕ) → Lists qs → Rows rs
          → pick b (got (record { acceptors = n; learners = l; quorums = qs; rows = rs }) m') (no Length) ≡ got f end → Lists f.quorums × Rows f.rows
      whole true qs rs m' x y w =
          let c : record { acceptors = n; learners = l; quorums = qs; rows = rs } ≡ f = cc in
          subst (λ (g : Contents). Lists g.quorums × Rows g.rows) c (x, y)
      whole false qs rs m' x y w = let z : ◌≡◌ {A = ℕ} 0 1 = cc in absurd (omega arith)

-- ---- what is held
lists_held : (f : ℕ → ℕ) (i : ℕ) (ls : List (List ℕ)) (h : ListArrays) → Lists ls → Masks h.masks → Masks (hold_all f i ls h).masks
unfolding hold_all
lists_held f i [] h a m = m
lists_held f i (l ∷ ls) h a m =
    lists_held f (suc i) ls (hold (f i) l h) (λ x k. a x (Memᴰ.tail k)) (bounds.below_put (256 ^ 4) (omega arith) h.masks l (max_masks * f i) m (a l (Memᴰ.head refl)))

rows_held : (i : ℕ) (rs : List (List (List ℕ))) (h : ListArrays) → Rows rs → Masks h.masks → Masks (hold_rows i rs h).masks
unfolding hold_rows
rows_held i [] h a m = m
rows_held i (r ∷ rs) h a m = rows_held (suc i) rs (hold_all (pair_list i) i r h) (λ x k. a x (Memᴰ.tail k)) (lists_held (pair_list i) i r h (a r (Memᴰ.head refl)) m)

Readable : Graph → Type 0
Readable g = GraphSized g.counts g.masks × Masks g.masks

file_held : (s : List ℕ) → Octets s → (f : Contents) (end : ℕ) → contents s ≡ got f end → Fits (held_of f) × Masks (held_of f).masks
unfolding held_of
file_held s o f end e =
    let F = file_got s f end e in
    let G : GraphGot f.acceptors f.learners f = graph_got s f.acceptors f.learners 5 f (length s) F.long F.lists in
    let (qs, rs) = graph_read s o f.acceptors f.learners 5 f (length s) F.lists in
    let few = F.few in
    let many = G.many in
    let Q = hold_all (λ a. a) 0 f.quorums nothing in
    let fit : Fits Q = all_fits (λ a. a) (λ i j e. e) 0 f.quorums nothing (refl, refl) G.small (λ j p q. omega arith) in (
      rows_fits 0 f.learners f.rows Q (omega arith) G.rows fit,
      rows_held 0 f.rows Q rs (lists_held (λ a. a) 0 f.quorums nothing qs (bounds.below_zeros (256 ^ 4) (omega arith) 352)),
    )

accepted_whole : (s : List ℕ) → Octets s → (g : Graph) → reading_of s ≡ Ok g → Readable g
unfolding Readable
accepted_whole s o g = by (contents s) refl
  where
    held : (f : Contents) (a : Result Unit Refusal) → Fits (held_of f) × Masks (held_of f).masks → result_and a (Ok (graph_in_file f)) ≡ Ok g
        → GraphSized g.counts g.masks × Masks g.masks
    held f (Ok x) w e = let same : graph_in_file f ≡ g = cc in subst (λ (h : Graph). GraphSized h.counts h.masks × Masks h.masks) same w
    held f (Err r) w e = let z : ◌≡◌ {A = ℕ} 0 1 = cc in absurd (omega arith)

    by : (x : Got Contents) → contents s ≡ x → contents_reading x ≡ Ok g → GraphSized g.counts g.masks × Masks g.masks
    by (got f m) e k = held f (graph_answer (graph_said f)) (file_held s o f m e) k
    by (no r) e k = let z : ◌≡◌ {A = ℕ} 0 1 = cc in absurd (omega arith)

-- ---- the round
pub opened_laid : (file : List ℕ) (house bay own : ℕ) (r : Round) → Octets file → Starts file house bay own r → layout.Laid r
unfolding Readable
opened_laid file house bay own r o s =
    let O = opens file house bay own r s in
    let (size, masks) = accepted_whole file o O.graph O.accepted in
    subst layout.Laid (sym O.round)
    (record {
      sized = record {
        list_counts = size.0;
        masks = size.1;
        ids = length-replicate {A = ℕ} 4096 0;
        kinds = length-replicate {A = ℕ} 128 0;
        signers = length-replicate {A = ℕ} 128 0;
        ballots = length-replicate {A = ℕ} 128 0;
        previous = length-replicate {A = ℕ} 128 0;
        counts = length-replicate {A = ℕ} 128 0;
        references = length-replicate {A = ℕ} 16384 0;
        known = length-replicate {A = ℕ} 128 0;
        recent = length-replicate {A = ℕ} 128 0;
      };
      mask_fits = masks;
      house_fits = s.house_fits;
      bay_fits = s.bay_fits;
      own_fits = omega (arith, opened_own file house bay own r s);
      ballot_fits = bounds.below_zeros (256 ^ 8) (omega arith) 128;
    })
