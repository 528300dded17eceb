-- Every listed quorum of an accepted file names an acceptor: a mask is neither zero nor beyond the acceptors.
use mathlib.Core.Path.{◌≡◌, refl, sym, subst}
use mathlib.Core.Logic.{◌⊎◌, inl, inr}
use mathlib.Core.Bool.{Bool, true, false, ◌||◌}
use mathlib.Core.List.Memᴰ
use mathlib.Core.List.{List, [], ◌∷◌, ◌++◌}
use Prim.Native.Nat.{ℕ, zero, suc, ◌+◌, ◌^◌, ◌<◌}
use native.Mathlib.Omega.{arith}
use lib.Dec.{T, eqb, ltb, leb}
use lib.ListN.{length, get_or}
use borrow.Author.Tests.{eqb-false, leb-false}
use Rattle.base.specs.Tests.{◌∈◌, pick, any}
use Rattle.base.specs.Sets.{has, contains}
use Rattle.base.specs.Bytes.{be}
use Rattle.base.proofs.Tests.{eq→eqb}
use Rattle.base.proofs.Bits.{some_bit}
use Rattle.std.proofs.Common.{Ok, Err}
use Rattle.graph.specs.declared.Graph.{Graph}
use Rattle.base.specs.declared.refusal.Refusal.TheVariants.{Length, Order, Mask}
use Rattle.graph.specs.Limits.{max_masks}
use Rattle.graphfile.specs.File.{got, no, last, mask_answer, read_count, read_masks, read_list, read_lists, read_rows, read_graph, Contents, graph_said}
use Rattle.graph.specs.Memory.{view_of}
use Rattle.graphfile.specs.Arrays.{reading_of}
use Rattle.graphfile.proofs.Reader.{pick_got, check_got, then_got}
use Rattle.graphfile.proofs.Accepted.{file_got, held_says_the_same}

-- a mask that names an acceptor
abbrev pub Names : ℕ → ℕ → Type 0
Names n q = (p : ℕ) × (p < n) × T (has q p)

abbrev AllName : ℕ → List ℕ → Type 0
AllName n l = (q : ℕ) → q ∈ l → Names n q

pub passed_mask : (n : ℕ) (e : List ℕ) (m : ℕ) → mask_answer n e m ≡ Ok tt → (m ≡ 0 → ⊥) × (m < 2 ^ n)
passed_mask n e m h = by (eqb m 0) (leb (2 ^ n) m) refl refl h
  where
    by : (z u : Bool) → eqb m 0 ≡ z → leb (2 ^ n) m ≡ u
        → pick (z || u) (Err Mask) (pick (leb m (last 0 e)) (Err Order) (pick (any (contains n (has m)) e) (Err Mask) (Ok (tt {0})))) ≡ Ok tt
        → (m ≡ 0 → ⊥) × (m < 2 ^ n)
    by true u p q h = let z : ◌≡◌ {A = ℕ} 0 1 = cc in absurd (omega arith)
    by false true p q h = let z : ◌≡◌ {A = ℕ} 0 1 = cc in absurd (omega arith)
    by false false p q h = (eqb-false m 0 p, leb-false (2 ^ n) m q)

names : (n q : ℕ) → (q ≡ 0 → ⊥) → q < 2 ^ n → Names n q
unfolding has
names n q z l = let r = some_bit n q l z in (r.0, r.1.0, eq→eqb r.1.1)

more_names : (n : ℕ) (e : List ℕ) (m : ℕ) → AllName n e → Names n m → AllName n (e ++ (m ∷ []))
more_names n e m h k q i = step (Memᴰ.append_cases e i)
  where
    step : (q ∈ e) ⊎ (q ∈ m ∷ []) → Names n q
    step (inl j) = h q j
    step (inr j) = subst (Names n) (sym (Memᴰ.eq_of_singleton j)) k

module _ (s : List ℕ) (n : ℕ) where
  masks_name : (k : ℕ) (e : List ℕ) (at : ℕ) (l : List ℕ) (next : ℕ) → AllName n e → read_masks s n k e at ≡ got l next → AllName n l
  unfolding read_masks
  masks_name zero e at l next h f = let p : e ≡ l = cc in subst (AllName n) p h
  masks_name (suc k) e at l next h f =
      let m = be 2 s at in
      let (p, f₁) = pick_got (ltb (length s) (at + 2)) Length _ l next f in
      let (q, f₂) = check_got (mask_answer n e m) _ l next f₁ in
      let (z, b) = passed_mask n e m q in
      masks_name k (e ++ (m ∷ [])) (at + 2) l next (more_names n e m h (names n m z b)) f₂

  list_name : (low at : ℕ) (l : List ℕ) (next : ℕ) → read_list s n low at ≡ got l next → AllName n l
  unfolding read_list
  list_name low at l next e =
      let (k, m, f, g) = then_got (read_count s low max_masks at) (λ k at'. read_masks s n k [] at') l next e in
      masks_name k [] m l next (λ q i. elim i [ ]) g

  abbrev ListsName : List (List ℕ) → Type 0
  ListsName ls = (l : List ℕ) → l ∈ ls → AllName n l

  more_lists : (e : List (List ℕ)) (x : List ℕ) → ListsName e → AllName n x → ListsName (e ++ (x ∷ []))
  more_lists e x h k l i = step (Memᴰ.append_cases e i)
    where
      step : (l ∈ e) ⊎ (l ∈ x ∷ []) → AllName n l
      step (inl j) = h l j
      step (inr j) = subst (AllName n) (sym (Memᴰ.eq_of_singleton j)) k

  lists_name : (low k : ℕ) (e : List (List ℕ)) (at : ℕ) (ls : List (List ℕ)) (next : ℕ) → ListsName e → read_lists s n low k e at ≡ got ls next → ListsName ls
  unfolding read_lists
  lists_name low zero e at ls next h f = let p : e ≡ ls = cc in subst ListsName p h
  lists_name low (suc k) e at ls next h f =
      let (l, m, g, w) = then_got (read_list s n low at) _ ls next f in
      lists_name low k (e ++ (l ∷ [])) m ls next (more_lists e l h (list_name low at l m g)) w

  quorums_name : (l at : ℕ) (f : Contents) (end : ℕ) → read_graph s n l at ≡ got f end → ListsName f.quorums
  unfolding read_graph
  quorums_name l at f end e =
      let (qs, m, g, w) = then_got (read_lists s n 1 l [] at) _ f end e in
      let (rows, m', g', w') = then_got (read_rows s n l [] m) _ f end w in
      whole (eqb m' (length s)) qs rows m' (lists_name 1 l [] at qs m (λ _ i. elim i [ ]) g) w'
    where
      whole : (b : Bool) (qs : List (List ℕ)) (rows : List (List (List ℕ))) (m' : ℕ) → ListsName qs
          → pick b (got (record { acceptors = n; learners = l; quorums = qs; rows = rows }) m') (no Length) ≡ got f end → ListsName f.quorums
      whole true qs rows m' x w =
          let c : record { acceptors = n; learners = l; quorums = qs; rows = rows } ≡ f = cc in
          subst (λ (g : Contents). ListsName g.quorums) c x
      whole false qs rows m' x w = let z : ◌≡◌ {A = ℕ} 0 1 = cc in absurd (omega arith)

-- an element of a list that is asked for by its place, or of none
listed : (P : List ℕ → Type 0) (ls : List (List ℕ)) (a : ℕ) → P [] → ((l : List ℕ) → l ∈ ls → P l) → P (get_or ls a [])
listed P [] a z h = z
listed P (l ∷ ls) zero z h = h l (Memᴰ.head refl)
listed P (l ∷ ls) (suc a) z h = listed P ls a z (λ k m. h k (Memᴰ.tail m))

pub accepted_peopled : (s : List ℕ) (g : Graph) → reading_of s ≡ Ok g → (a q : ℕ) → a < (view_of g).learners → q ∈ (view_of g).quorums a → Names (view_of g).acceptors q
unfolding graph_said
accepted_peopled s g e a q l m =
    let (f, end, c, same) = held_says_the_same s g e in
    let F = file_got s f end c in
    let all : (k : List ℕ) → k ∈ f.quorums → AllName f.acceptors k = quorums_name s f.acceptors f.learners 5 f (length s) F.lists in
    let here : q ∈ get_or f.quorums a [] = subst (λ (k : List ℕ). q ∈ k) (same.quorums a l) m in
    let it : Names f.acceptors q = listed (AllName f.acceptors) f.quorums a (λ _ i. elim i [ ]) all q here in
    subst (λ (n : ℕ). Names n q) (sym same.acceptors) it
