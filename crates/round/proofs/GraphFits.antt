-- The graph of an accepted file passes row 17, and row 17 bounds the numbers of a graph.
use mathlib.Core.Logic.{⊎_elim}
use mathlib.Core.Path.{◌≡◌, refl, sym, subst}
use mathlib.Core.Bool.{Bool, not, ◌&&◌}
use mathlib.Core.List.Memᴰ
use mathlib.Core.List.{List, [], ◌∷◌}
use Prim.Native.Nat.{ℕ, zero, suc, ◌≤◌}
use native.Mathlib.Omega.{arith}
use lib.Dec.{T, eqb, ltb, leb, eqb→eq, ltb→lt, le→leb, leb→le}
use lib.ListN.{length, get_or, set, replicate}
use Rattle.std.specs.Result.{result_and}
use Rattle.std.specs.Prelude.{Result, Ok, Err}
use Rattle.base.specs.declared.refusal.Refusal.{Refusal}
use Rattle.base.specs.Tests.{all, below}
use Rattle.base.proofs.Tests.{and_in, and_l, and_r, or_r, or_out, all_in}
use Rattle.graph.specs.declared.Graph.{Graph}
use Rattle.graph.specs.Limits.{max_acceptors, max_learners, max_masks, lists}
use Rattle.graph.specs.Answers.{graph_answer}
use Rattle.graphfile.specs.File.{Got, got, no, Contents, contents, graph_said}
use Rattle.graphfile.proofs.Reader.{Small, Rows, GraphGot, graph_got}
use Rattle.graphfile.proofs.Accepted.{FileGot, file_got}
use Rattle.graph.specs.Memory.{pair_list}
use Rattle.graphfile.specs.Arrays.{ListArrays, hold, hold_all, hold_rows, held_of, nothing, graph_of_held, graph_in_file, contents_reading, reading_of}
use Rattle.round.specs.Limits.{listening, own_allowed}
use Rattle.round.specs.Handed.{in_use, list_fits, graph_fits}

-- ---- lists held
abbrev Counts : ListArrays → Type 0
Counts h = (k : ℕ) → get_or h.counts k 0 ≤ max_masks

set_small : (l : List ℕ) (i x : ℕ) → ((k : ℕ) → get_or l k 0 ≤ max_masks) → x ≤ max_masks → (k : ℕ) → get_or (set l i x) k 0 ≤ max_masks
set_small [] i x h e k = h k
set_small (y ∷ l) zero x h e zero = e
set_small (y ∷ l) zero x h e (suc k) = h (suc k)
set_small (y ∷ l) (suc i) x h e zero = h zero
set_small (y ∷ l) (suc i) x h e (suc k) = set_small l i x (λ j. h (suc j)) e k

hold_all_lem : (f : ℕ → ℕ) (i : ℕ) (ls : List (List ℕ)) (h : ListArrays) → Small ls → Counts h → Counts (hold_all f i ls h)
unfolding hold_all
hold_all_lem f i [] h a c = c
hold_all_lem f i (l ∷ ls) h a c = hold_all_lem f (suc i) ls (hold (f i) l h) (λ x m. a x (Memᴰ.tail m)) (set_small h.counts (f i) (length l) c (a l (Memᴰ.head refl)))

hold_rows_lem : (i k : ℕ) (rows : List (List (List ℕ))) (h : ListArrays) → Rows k rows → Counts h → Counts (hold_rows i rows h)
unfolding hold_rows
hold_rows_lem i zero rows h a c = subst (λ (x : List (List (List ℕ))). Counts (hold_rows i x h)) (sym a) c
hold_rows_lem i (suc k) [] h a c = absurd a
hold_rows_lem i (suc k) (row ∷ rows) h a c = hold_rows_lem (suc i) k rows (hold_all (pair_list i) i row h) a.2 (hold_all_lem (pair_list i) i row h a.1 c)

pub zeros_at : (n k : ℕ) → ◌≡◌ {A = ℕ} (get_or (replicate n 0) k 0) 0
zeros_at zero k = refl
zeros_at (suc n) zero = refl
zeros_at (suc n) (suc k) = zeros_at n k

held_small : (f : Contents) (l : ℕ) → Small f.quorums → Rows l f.rows → Counts (held_of f)
unfolding held_of
held_small f l q r =
    hold_rows_lem 0 l f.rows (hold_all (λ a. a) 0 f.quorums nothing) r (hold_all_lem (λ a. a) 0 f.quorums nothing q (λ k. omega (arith, zeros_at lists k)))

-- ---- row 17 of the graph
says_fits : (s : List ℕ) (f : Contents) → FileGot s f → T (graph_fits (graph_of_held f.acceptors f.learners (held_of f)))
unfolding graph_fits list_fits
says_fits s f w =
    let lists' : GraphGot f.acceptors f.learners f = graph_got s f.acceptors f.learners 5 f (length s) w.long w.lists in
    let g = graph_of_held f.acceptors f.learners (held_of f) in
    let a = leb 1 f.acceptors in
    let b = leb f.acceptors max_acceptors in
    let c = leb 1 f.learners in
    let d = leb f.learners max_learners in
    and_in (a && b && c && d) (all (list_fits g) (below lists))
    (and_in (a && b && c) d (and_in (a && b) c (and_in a b (le→leb 1 f.acceptors w.some_acceptors) (le→leb f.acceptors max_acceptors w.most_acceptors)) (le→leb 1 f.learners w.some_learners)) (le→leb f.learners max_learners w.few))
    (all_in (list_fits g) (below lists) (λ k m. or_r (not (in_use f.learners k)) (leb (get_or (held_of f).counts k 0) max_masks) (le→leb (get_or (held_of f).counts k 0) max_masks (held_small f f.learners lists'.small lists'.rows k))))

reading_fits : (s : List ℕ) (f : Contents) (a : Result Unit Refusal) (g : Graph) → FileGot s f → result_and a (Ok (graph_in_file f)) ≡ Ok g → T (graph_fits g)
reading_fits s f (Ok x) g w e = let same : graph_in_file f ≡ g = cc in subst (λ (h : Graph). T (graph_fits h)) same (says_fits s f w)
reading_fits s f (Err r) g w e = let z : ◌≡◌ {A = ℕ} 0 1 = cc in absurd (omega arith)

got_fits : (s : List ℕ) (x : Got Contents) (g : Graph) → contents s ≡ x → contents_reading x ≡ Ok g → T (graph_fits g)
got_fits s (got f m) g e k = reading_fits s f (graph_answer (graph_said f)) g (file_got s f m e) k
got_fits s (no r) g e k = let z : ◌≡◌ {A = ℕ} 0 1 = cc in absurd (omega arith)

pub accepted_fits : (s : List ℕ) (g : Graph) → reading_of s ≡ Ok g → T (graph_fits g)
accepted_fits s g e = got_fits s (contents s) g refl e

-- ---- what row 17 leaves of a graph's numbers
module _ (g : Graph) (h : T (graph_fits g)) where
  abbrev a : Bool
  a = leb 1 g.acceptors

  abbrev b : Bool
  b = leb g.acceptors max_acceptors

  abbrev c : Bool
  c = leb 1 g.learners

  abbrev d : Bool
  d = leb g.learners max_learners

  abbrev e : Bool
  e = all (list_fits g) (below lists)

  pub acceptors_fit : g.acceptors ≤ max_acceptors
  unfolding graph_fits
  acceptors_fit = leb→le g.acceptors max_acceptors (and_r a b (and_l (a && b) c (and_l (a && b && c) d (and_l (a && b && c && d) e h))))

  pub learners_fit : g.learners ≤ max_learners
  unfolding graph_fits
  learners_fit = leb→le g.learners max_learners (and_r (a && b && c) d (and_l (a && b && c && d) e h))

  -- an own number that is allowed is 256, or that of an acceptor
  pub own_fits_lem : (own : ℕ) → T (own_allowed own g.acceptors) → own ≤ listening
  own_fits_lem own t =
      let most = acceptors_fit in
      ⊎_elim (λ x. omega (arith, eqb→eq own listening x)) (λ x. omega (arith, ltb→lt own g.acceptors x)) (or_out (eqb own listening) (ltb own g.acceptors) t)
