-- The graph file of document 01 as a reader over a list of bytes. Each field is read in its turn, so "the fault nearest the front counts";
-- "bytes ending before a field give 1 ahead of that field's check".
use Rattle.std.specs.Prelude.{◌||◌, ◌&&◌, List, [], ◌∷◌, ◌++◌, ℕ, zero, suc, ◌+◌, ◌-◌, ◌^◌, min, max, eqb, ltb, leb, length, get_or, Result, Ok, Err}
use Rattle.base.specs.Tests.{pick, any}
use Rattle.base.specs.Sets.{has, contains}
use Rattle.base.specs.Bytes.{be}
use Rattle.base.specs.declared.refusal.Refusal.{Refusal}
use Rattle.base.specs.declared.refusal.Refusal.TheVariants.{Length, Version, Range, Order, Mask}
use Rattle.graph.specs.Limits.{version, max_acceptors, max_learners, max_masks, mask_bytes}
use Rattle.graph.specs.LearnerGraph.{LearnerGraph}
use Rattle.graph.specs.Answers.{graph_answer}

-- ---- where the fields in front of the lists stand
-- "Two bytes: count of the bytes after them."
abbrev pub outer_len : ℕ
outer_len = 2

-- The longest file whose length they can say.
abbrev pub most_said : ℕ
most_said = outer_len + (256 ^ outer_len - 1)

-- "Version 1. Acceptors n .. Learners l .."
abbrev pub version_at : ℕ
version_at = outer_len

abbrev pub acceptors_at : ℕ
acceptors_at = version_at + 1

abbrev pub learners_at : ℕ
learners_at = acceptors_at + 1

abbrev pub lists_at : ℕ
lists_at = learners_at + 1

-- What reading gives: what was read and the place behind it, or why the file is turned down.
pub data Got (A : Type 0) : Type 0 where
  got : A → ℕ → Got A
  no : Refusal → Got A

-- what stands behind is read only where this was
abbrev pub and_then : {A B : Type 0} → Got A → (A → ℕ → Got B) → Got B
and_then (got x at) f = f x at
and_then (no r) f = no r

-- the same after a check
abbrev pub after_check : {A : Type 0} → Result Unit Refusal → Got A → Got A
after_check (Ok x) g = g
after_check (Err r) g = no r

-- the last of a list, or d
unfoldable pub last : ℕ → List ℕ → ℕ
last d [] = d
last d (x ∷ l) = last x l

-- One mask m, behind those of its list that are read: "zero or unknown acceptor, then 4, then containing". A mask that is not 0 is above
-- none, so the first one ascends.
abbrev pub mask_answer : ℕ → List ℕ → ℕ → Result Unit Refusal
mask_answer n earlier m =
    pick (eqb m 0 || leb (2 ^ n) m) (Err Mask)
    (pick (leb m (last 0 earlier)) (Err Order)
    (pick (any (contains n (has m)) earlier) (Err Mask) (Ok tt)))

module _ (s : List ℕ) where
  -- one byte, from low to high
  abbrev pub read_count : ℕ → ℕ → ℕ → Got ℕ
  read_count low high at = pick (ltb at (length s)) (pick (leb low (get_or s at 0) && leb (get_or s at 0) high) (got (get_or s at 0) (at + 1)) (no Range)) (no Length)

  abbrev pub read_version : ℕ → Got ℕ
  read_version at = pick (ltb at (length s)) (pick (eqb (get_or s at 0) version) (got (get_or s at 0) (at + 1)) (no Version)) (no Length)

  -- k masks more, behind the earlier ones
  unfoldable pub read_masks : ℕ → ℕ → List ℕ → ℕ → Got (List ℕ)
  read_masks n zero earlier at = got earlier at
  read_masks n (suc k) earlier at =
      pick (ltb (length s) (at + mask_bytes)) (no Length)
      (after_check (mask_answer n earlier (be mask_bytes s at)) (read_masks n k (earlier ++ (be mask_bytes s at ∷ [])) (at + mask_bytes)))

  -- "count 1 to 8, then two-byte masks", "count 0 to 8, then masks"
  unfoldable pub read_list : ℕ → ℕ → ℕ → Got (List ℕ)
  read_list n low at = and_then (read_count low max_masks at) (λ k at'. read_masks n k [] at')

  -- k lists more, behind the earlier ones
  unfoldable pub read_lists : ℕ → ℕ → ℕ → List (List ℕ) → ℕ → Got (List (List ℕ))
  read_lists n low zero earlier at = got earlier at
  read_lists n low (suc k) earlier at = and_then (read_list n low at) (λ l at'. read_lists n low k (earlier ++ (l ∷ [])) at')

  -- "For each pair a ≤ b, in the order 0-0, 0-1 and so on": a row of pairs for each learner a, one list shorter than the row before it;
  -- here the last k rows, behind the earlier ones
  unfoldable pub read_rows : ℕ → ℕ → List (List (List ℕ)) → ℕ → Got (List (List (List ℕ)))
  read_rows n zero earlier at = got earlier at
  read_rows n (suc k) earlier at = and_then (read_lists n 0 (suc k) [] at) (λ row at'. read_rows n k (earlier ++ (row ∷ [])) at')

-- What a file says: the quorum list of each learner, and of each learner a its row of safe lists, for the pairs a-a, a-(a + 1) and so on.
pub record Contents : Type 0 where
  pub acceptors : ℕ
  pub learners : ℕ
  pub quorums : List (List ℕ)
  pub rows : List (List (List ℕ))

-- The lists of n acceptors and l learners, and nothing behind them.
unfoldable pub read_graph : List ℕ → ℕ → ℕ → ℕ → Got Contents
read_graph s n l at =
    and_then (read_lists s n 1 l [] at) (λ quorums at'.
    and_then (read_rows s n l [] at') (λ rows end.
    pick (eqb end (length s)) (got (record { acceptors = n; learners = l; quorums = quorums; rows = rows }) end) (no Length)))

-- The whole file: "Two bytes: count of the bytes after them. Version 1. Acceptors n, 1 to 16. Learners l, 1 to 8."
unfoldable pub contents : List ℕ → Got Contents
contents s =
    pick (eqb (length s) (outer_len + be outer_len s 0))
    (and_then (read_version s version_at) (λ _ at.
    and_then (read_count s 1 max_acceptors at) (λ n at'.
    and_then (read_count s 1 max_learners at') (λ l at''. read_graph s n l at''))))
    (no Length)

-- The graph of a file. A pair is the same either way round.
unfoldable pub graph_said : Contents → LearnerGraph
graph_said f =
    record {
      acceptors = f.acceptors;
      learners = f.learners;
      quorums = λ a. get_or f.quorums a [];
      safes = λ a b. get_or (get_or f.rows (min a b) []) (max a b - min a b) [];
    }

-- "6 and 7 come last"
abbrev pub contents_answer : Got Contents → Result Unit Refusal
contents_answer (got f at) = graph_answer (graph_said f)
contents_answer (no r) = Err r

-- Whether a file is accepted, or why not.
abbrev pub answer_of : List ℕ → Result Unit Refusal
answer_of s = contents_answer (contents s)
