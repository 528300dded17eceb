-- What the steps of `read` and `write` ask and answer.
use Rattle.std.specs.Prelude.{List, ◌≡◌, ℕ, ◌+◌, ◌-◌, ◌^◌, ◌≤◌, ◌<◌, length, get_or, Result, Ok, Err}
use Rattle.base.specs.Bytes.{put_at}
use Rattle.base.specs.declared.refusal.Refusal.{Refusal}
use Rattle.graph.specs.declared.Graph.{Graph}
use Rattle.graph.specs.Limits.{max_acceptors, max_learners, mask_bytes}
use Rattle.graph.specs.Memory.{view_of}
use Rattle.graphfile.specs.File.{most_said, acceptors_at, learners_at, lists_at, Got, got, no, contents, read_graph}
use Rattle.graphfile.specs.Arrays.{ListArrays, graph_of_held}
use Rattle.graphfile.specs.Writer.{listed, rows_from}

-- ---- what the steps of `read` ask
-- a file of n acceptors that is read from a place on:
pub record ReadFrom (s : List ℕ) (at n : ℕ) : Type 0 where
  -- it is no longer than it can say, so that places in it can be counted,
  pub short : length s ≤ most_said
  -- it does not end before the place,
  pub inside : at ≤ length s
  -- and a mask has room for its acceptors
  pub acceptors : n ≤ max_acceptors

-- ---- what the steps of `read` answer
-- what stands before the lists is in order, and the file is what the lists behind it are; or why the file is turned down there
abbrev pub HeadOf : List ℕ → Result Unit Refusal → Type 0
HeadOf s (Ok x) =
    ReadFrom s lists_at (get_or s acceptors_at 0) × (get_or s learners_at 0 ≤ max_learners)
    × (contents s ≡ read_graph s (get_or s acceptors_at 0) (get_or s learners_at 0) lists_at)
HeadOf s (Err r) = contents s ≡ no r

-- what was read
abbrev pub field_of : Got ℕ → Result ℕ Refusal
field_of (got x at) = Ok x
field_of (no r) = Err r

-- the masks of a list were put in from `first` on, and the place behind is the answer
abbrev pub MasksHeld : Got (List ℕ) → Result ℕ Refusal → ℕ → List ℕ → List ℕ → Type 0
MasksHeld (got l next) f first before after = (f ≡ Ok next) × (after ≡ put_at before first l)
MasksHeld (no r) f first before after = f ≡ Err r

-- the lists of a graph in memory, and the graph with others
abbrev pub lists_in : Graph → ListArrays
lists_in g = record { counts = g.counts; masks = g.masks }

abbrev pub with_lists : Graph → ListArrays → Graph
with_lists g h = graph_of_held g.acceptors g.learners h

-- what was read was put in, and the place behind is the answer
abbrev pub HeldAfter : {A : Type 0} → Got A → (A → ListArrays → ListArrays) → Result ℕ Refusal → Graph → Graph → Type 0
HeldAfter (got x next) put f before after = (f ≡ Ok next) × (after ≡ with_lists before (put x (lists_in before)))
HeldAfter (no r) put f before after = f ≡ Err r

-- ---- what the steps of `write` hold to and answer
abbrev pub MasksFit : List ℕ → Type 0
MasksFit masks = (i : ℕ) → get_or masks i 0 < 256 ^ mask_bytes

-- what is asked before e is put in from `at` on
pub record Room (masks out : List ℕ) (at : ℕ) (e : List ℕ) : Type 0 where
  -- the masks are such that a file can say them,
  pub fit : MasksFit masks
  -- and there is room for e
  pub room : at + length e ≤ length out

-- what is so once it was put in
pub record PutIn (e : List ℕ) (at r : ℕ) (before after : List ℕ) : Type 0 where
  -- the place behind it is the answer,
  pub behind : r ≡ at + length e
  -- and it stands in the bytes, of which no other changed
  pub held : after ≡ put_at before at e

-- the quorums of all learners, the row of learner a, and all rows
module _ (g : Graph) where
  abbrev pub quorums_of : List (List ℕ)
  quorums_of = listed (view_of g).quorums 0 g.learners

  abbrev pub row_of : ℕ → List (List ℕ)
  row_of a = listed ((view_of g).safes a) a (g.learners - a)

  abbrev pub rows_of : List (List (List ℕ))
  rows_of = rows_from (view_of g).safes 0 g.learners
