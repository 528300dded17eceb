-- The whole file, step by step: what the steps of `read` answer decides what the file is.
use mathlib.Core.Path.{◌≡◌, refl, ap, ap₂, sym, ◌∙◌, subst}
use mathlib.Core.Bool.{Bool}
use mathlib.Core.List.{List, []}
use Prim.Native.Nat.{ℕ, ◌+◌, ◌≤◌, ◌<◌}
use native.Mathlib.Omega.{arith}
use borrow.Author.Tests.{eq-eqb, ne_eqb, lt-ltb, le-ltb}
use lib.Dec.{eqb}
use lib.ListN.{length, get_or}
use Rattle.std.proofs.Common.{Result, Ok, Err}
use Rattle.std.specs.Result.{result_and}
use Rattle.base.specs.Tests.{pick}
use Rattle.base.specs.Bytes.{be}
use Rattle.base.specs.declared.refusal.Refusal.{Refusal}
use Rattle.base.specs.declared.refusal.Refusal.TheVariants.{Length, Version, NotValid, NotCondensed}
use Rattle.graph.specs.declared.Graph.{Graph}
use Rattle.graph.specs.Limits.{version, max_learners, max_acceptors}
use Rattle.graph.specs.LearnerGraph.{LearnerGraph}
use Rattle.graph.specs.Answers.{graph_answer}
use Rattle.graph.specs.Memory.{view_of}
use Rattle.graph.specs.Theorems.{SameGraph}
use Rattle.graph.proofs.Same.{valid_same, condensed_same}
use Rattle.graphfile.specs.File.{outer_len, version_at, acceptors_at, learners_at, lists_at, Got, got, no, and_then, read_count, read_lists, read_rows, Contents, read_graph, contents, graph_said, contents_answer}
use Rattle.graphfile.specs.Arrays.{hold_all, hold_rows, nothing, held_in, held_of, graph_of_held, graph_in_file, contents_reading, reading_of, held_reading}
use Rattle.graphfile.specs.Inside.Steps.{field_of, lists_in, with_lists, HeldAfter}
use Rattle.graphfile.specs.Theorems.{CheckedAsRead}
use Rattle.graphfile.proofs.Reader.{graph_got, lists_got, after_got, after_no, promised_no, promised_got, value_no, count_is}
use Rattle.graphfile.proofs.View.{held_same}
use Rattle.graphfile.proofs.Accepted.{file_got}

-- ---- the lists
module _ (s : List ℕ) (b : Graph) (long : lists_at ≤ length s) where
  abbrev n : ℕ
  n = b.acceptors

  abbrev l : ℕ
  l = b.learners

  -- what the readers of the quorums, of the rows and of both answer
  abbrev pub Quorums : Result ℕ Refusal → Graph → Type 0
  Quorums r g = HeldAfter (read_lists s n 1 l [] lists_at) (hold_all (λ a. a) 0) r b g

  abbrev pub Pairs : ℕ → Graph → Result ℕ Refusal → Graph → Type 0
  Pairs at g r h = HeldAfter (read_rows s g.acceptors g.learners [] at) (hold_rows 0) r g h

  abbrev pub Whole : Result ℕ Refusal → Graph → Type 0
  Whole r h = HeldAfter (read_graph s n l lists_at) (λ f x. held_in x f) r b h

  module _ (r₁ : Result ℕ Refusal) (g₁ : Graph) (q : Quorums r₁ g₁) where
    pub quorums_no : (r : Result ℕ Refusal) (x : Refusal) (h : Graph) → r₁ ≡ Err x → r ≡ Err x → Whole r h
    unfolding read_graph
    quorums_no r x h e d =
        promised_no (λ f x. held_in x f) b h (read_graph s n l lists_at) r x d
        (ap (λ (g : Got (List (List ℕ))). and_then g (λ quorums at'. and_then (read_rows s n l [] at') (λ rows end.
        pick (eqb end (length s)) (got (record { acceptors = n; learners = l; quorums = quorums; rows = rows }) end) (no Length))))
        (after_no (hold_all (λ a. a) 0) b g₁ (read_lists s n 1 l [] lists_at) r₁ x q e))

    module _ (at : ℕ) (e₁ : r₁ ≡ Ok at) where
      read_first : (qs : List (List ℕ)) × (read_lists s n 1 l [] lists_at ≡ got qs at) × (g₁ ≡ with_lists b (hold_all (λ a. a) 0 qs (lists_in b)))
      read_first = after_got (hold_all (λ a. a) 0) b g₁ (read_lists s n 1 l [] lists_at) r₁ at q e₁

      -- what was read is in the file
      pub quorums_end : at ≤ length s
      quorums_end = let (qs, g, w) = read_first in (lists_got s n 1 l [] lists_at qs at long (λ _ i. elim i [ ]) g).1

      pub quorums_kept : (g₁.acceptors ≡ n) × (g₁.learners ≡ l)
      quorums_kept = let (qs, g, w) = read_first in (ap (λ (x : Graph). x.acceptors) w, ap (λ (x : Graph). x.learners) w)

      module _ (r₂ : Result ℕ Refusal) (g₂ : Graph) (p : Pairs at g₁ r₂ g₂) where
        pairs_now : HeldAfter (read_rows s n l [] at) (hold_rows 0) r₂ g₁ g₂
        pairs_now =
            subst (λ (x : ℕ). HeldAfter (read_rows s n x [] at) (hold_rows 0) r₂ g₁ g₂) quorums_kept.1
            (subst (λ (x : ℕ). HeldAfter (read_rows s x g₁.learners [] at) (hold_rows 0) r₂ g₁ g₂) quorums_kept.0 p)

        past : (g : Got (List (List (List ℕ)))) → read_rows s n l [] at ≡ g → (qs : List (List ℕ)) × (g₁ ≡ with_lists b (hold_all (λ a. a) 0 qs (lists_in b)))
            × (read_graph s n l lists_at ≡ and_then g (λ rows end. pick (eqb end (length s)) (got (record { acceptors = n; learners = l; quorums = qs; rows = rows }) end) (no Length)))
        unfolding read_graph
        past g e =
            let (qs, f, w) = read_first in (
              qs,
              w,
              ap (λ (g : Got (List (List ℕ))). and_then g (λ quorums at'. and_then (read_rows s n l [] at') (λ rows end.
                  pick (eqb end (length s)) (got (record { acceptors = n; learners = l; quorums = quorums; rows = rows }) end) (no Length)))) f
                  ∙ ap (λ (x : Got (List (List (List ℕ)))). and_then x (λ rows end. pick (eqb end (length s)) (got (record { acceptors = n; learners = l; quorums = qs; rows = rows }) end) (no Length))) e,
            )

        pub rows_no : (r : Result ℕ Refusal) (x : Refusal) (h : Graph) → r₂ ≡ Err x → r ≡ Err x → Whole r h
        rows_no r x h e d =
            promised_no (λ f y. held_in y f) b h (read_graph s n l lists_at) r x d
            (past (no x) (after_no (hold_rows 0) g₁ g₂ (read_rows s n l [] at) r₂ x pairs_now e)).2

        -- the contents of the file are in memory
        pub all_read : (end : ℕ) → r₂ ≡ Ok end → (f : Contents) × (read_graph s n l lists_at ≡ pick (eqb end (length s)) (got f end) (no Length)) × (g₂ ≡ with_lists b (held_in (lists_in b) f))
        all_read end e =
            let (rows, g, w) = after_got (hold_rows 0) g₁ g₂ (read_rows s n l [] at) r₂ end pairs_now e in
            let (qs, v, c) = past (got rows end) g in
            (record { acceptors = n; learners = l; quorums = qs; rows = rows }, c, w ∙ ap (λ (x : Graph). with_lists x (hold_rows 0 rows (lists_in x))) v)

        -- bytes are left, or none
        pub lists_left : (end : ℕ) (h : Graph) → r₂ ≡ Ok end → (end ≡ length s → ⊥) → Whole (Err Length) h
        lists_left end h e k =
            let (f, c, w) = all_read end e in
            promised_no (λ f x. held_in x f) b h (read_graph s n l lists_at) (Err Length) Length refl (c ∙ ap (λ (x : Bool). pick x (got f end) (no Length)) (ne_eqb end (length s) k))

        pub lists_whole : (end : ℕ) → r₂ ≡ Ok end → end ≡ length s → Whole (Ok end) g₂
        lists_whole end e k =
            let (f, c, w) = all_read end e in
            promised_got (λ f x. held_in x f) b g₂ (read_graph s n l lists_at) f end (c ∙ ap (λ (x : Bool). pick x (got f end) (no Length)) (eq-eqb end (length s) k)) w

-- ---- the graph that is held
-- rows 1 to 5 passed, and what was read is held
pub held_is : (s : List ℕ) (n l : ℕ) → lists_at ≤ length s → (r : Result ℕ Refusal) (h : Graph) (end : ℕ)
    → HeldAfter (read_graph s n l lists_at) (λ f x. held_in x f) r (graph_of_held n l nothing) h → r ≡ Ok end → Ok h ≡ held_reading (read_graph s n l lists_at)
unfolding held_of
held_is s n l long r h end p e =
    let (f, g, w) = after_got (λ f x. held_in x f) (graph_of_held n l nothing) h (read_graph s n l lists_at) r end p e in
    let G = graph_got s n l lists_at f end long g in
    ap Ok w ∙ sym (ap held_reading g ∙ (λ i. Ok (graph_of_held (G.acceptors i) (G.learners i) (held_in nothing f))))

-- the answer for the graph that is held is the answer for the graph of the file
answers_same : (G H : LearnerGraph) → SameGraph G H → graph_answer G ≡ graph_answer H
answers_same G H S =
    ap₂ (λ (v c : Bool). pick v (pick c (Ok tt) (Err NotCondensed)) (Err NotValid)) (valid_same G H S) (condensed_same G H S)

-- a file that passed rows 1 to 5: what it says, and the graph that is held
pub record HeldFile (s : List ℕ) (g : Graph) : Type 0 where
  pub few : g.learners ≤ max_learners
  pub judged : result_and (graph_answer (view_of g)) (Ok g) ≡ reading_of s

pub held_file : (s : List ℕ) (g : Graph) → held_reading (contents s) ≡ Ok g → HeldFile s g
held_file s g e = by (contents s) refl e
  where
    graph : (f : Contents) (end : ℕ) → contents s ≡ got f end → HeldFile s (graph_in_file f)
    graph f end h =
        let F = file_got s f end h in
        let S : SameGraph (view_of (graph_in_file f)) (graph_said f) = held_same f.acceptors f.learners f F.few (graph_got s f.acceptors f.learners lists_at f (length s) F.long F.lists) in
        record { few = F.few; judged = ap (λ (a : Result Unit Refusal). result_and a (Ok (graph_in_file f))) (answers_same (view_of (graph_in_file f)) (graph_said f) S) ∙ sym (ap contents_reading h) }

    by : (x : Got Contents) → contents s ≡ x → held_reading x ≡ Ok g → HeldFile s g
    by (got f end) h e = let k : graph_in_file f ≡ g = cc in subst (HeldFile s) k (graph f end h)
    by (no q) h e = let z : ◌≡◌ {A = ℕ} 0 1 = cc in absurd (omega arith)

-- ---- the head of the file, and what is behind it
module _ (s : List ℕ) where
  pub length_wrong : (length s ≡ outer_len + be outer_len s 0 → ⊥) → contents s ≡ no Length
  unfolding contents
  length_wrong h = simp (ne_eqb (length s) (outer_len + be outer_len s 0) h)

  module _ (h : length s ≡ outer_len + be outer_len s 0) where
    pub version_absent : length s < acceptors_at → contents s ≡ no Length
    unfolding contents
    version_absent l = simp (eq-eqb (length s) (outer_len + be outer_len s 0) h, le-ltb version_at (length s) (omega arith))

    pub version_wrong : acceptors_at ≤ length s → (get_or s version_at 0 ≡ version → ⊥) → contents s ≡ no Version
    unfolding contents
    version_wrong l v = simp (eq-eqb (length s) (outer_len + be outer_len s 0) h, lt-ltb version_at (length s) l, ne_eqb (get_or s version_at 0) version v)

    module _ (l : acceptors_at ≤ length s) (v : get_or s version_at 0 ≡ version) where
      head : contents s ≡ and_then (read_count s 1 max_acceptors acceptors_at) (λ n at'. and_then (read_count s 1 max_learners at') (λ k at''. read_graph s n k at''))
      unfolding contents
      head = simp (eq-eqb (length s) (outer_len + be outer_len s 0) h, lt-ltb version_at (length s) l, eq-eqb (get_or s version_at 0) version v)

      pub acceptors_no : (x : Refusal) → field_of (read_count s 1 max_acceptors acceptors_at) ≡ Err x → contents s ≡ no x
      acceptors_no x e =
          head ∙ ap (λ (g : Got ℕ). and_then g (λ n at'. and_then (read_count s 1 max_learners at') (λ k at''. read_graph s n k at''))) (value_no (read_count s 1 max_acceptors acceptors_at) x e)

      module _ (n : ℕ) (en : field_of (read_count s 1 max_acceptors acceptors_at) ≡ Ok n) where
        behind : contents s ≡ and_then (read_count s 1 max_learners learners_at) (λ k at''. read_graph s n k at'')
        behind =
            head ∙ ap (λ (g : Got ℕ). and_then g (λ n at'. and_then (read_count s 1 max_learners at') (λ k at''. read_graph s n k at''))) (count_is s 1 max_acceptors acceptors_at n en).4

        pub learners_no : (x : Refusal) → field_of (read_count s 1 max_learners learners_at) ≡ Err x → contents s ≡ no x
        learners_no x e = behind ∙ ap (λ (g : Got ℕ). and_then g (λ k at''. read_graph s n k at'')) (value_no (read_count s 1 max_learners learners_at) x e)

        pub lists_behind : (k : ℕ) → field_of (read_count s 1 max_learners learners_at) ≡ Ok k → contents s ≡ read_graph s (get_or s acceptors_at 0) (get_or s learners_at 0) lists_at
        lists_behind k e =
            let (i, a, b, p, q) = count_is s 1 max_learners learners_at k e in
            behind ∙ ap (λ (g : Got ℕ). and_then g (λ k at''. read_graph s n k at'')) q
            ∙ sym (ap₂ (λ (x y : ℕ). read_graph s x y lists_at) (count_is s 1 max_acceptors acceptors_at n en).3 p)

-- a check answers what a reading does
pub checked_as_read : CheckedAsRead
checked_as_read s = by (contents s)
  where
    graph : (g : Graph) (a : Result Unit Refusal) → a ≡ result_and (result_and a (Ok g)) (Ok tt)
    graph g (Ok tt) = refl
    graph g (Err r) = refl

    by : (g : Got Contents) → contents_answer g ≡ result_and (contents_reading g) (Ok tt)
    by (got f at) = graph (graph_in_file f) (graph_answer (graph_said f))
    by (no r) = refl
