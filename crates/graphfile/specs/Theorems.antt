-- What holds of an accepted graph file and of one that was written, as named statements; proofs/ proves each under the same name.
use Rattle.std.specs.Prelude.{◌≡◌, List, ℕ, ◌≤◌, ◌<◌, T, length, get_or, take, Ok, IsOkAnd}
use Rattle.std.specs.Result.{result_and}
use Rattle.base.specs.Bytes.{Octets}
use Rattle.graph.specs.declared.Graph.{Graph}
use Rattle.graph.specs.Limits.{max_acceptors, max_learners, max_masks}
use Rattle.graph.specs.LearnerGraph.{LearnerGraph, valid, condensed}
use Rattle.graph.specs.Memory.{view_of}
use Rattle.graph.specs.Theorems.{Undirected, SameGraph}
use Rattle.graphfile.specs.File.{Contents, contents, got, mask_answer, graph_said, answer_of}
use Rattle.graphfile.specs.Arrays.{held_reading, reading_of}
use Rattle.graphfile.specs.Writer.{file_bytes, graph_file}

-- A check answers what a reading does, without the graph.
abbrev pub CheckedAsRead : Type 0
CheckedAsRead = (s : List ℕ) → answer_of s ≡ result_and (reading_of s) (Ok tt)

-- The graph in memory lists the same masks in the same order as the file.
abbrev pub HeldSaysTheSame : Type 0
HeldSaysTheSame = (s : List ℕ) (g : Graph) → reading_of s ≡ Ok g → (f : Contents) × (end : ℕ) × (contents s ≡ got f end) × SameGraph (view_of g) (graph_said f)

-- It is undirected, valid and condensed.
pub record Sound (G : LearnerGraph) : Type 0 where
  pub undirected : Undirected G
  pub is_valid : T (valid G)
  pub is_condensed : T (condensed G)

abbrev pub AcceptedIsSound : Type 0
AcceptedIsSound = (s : List ℕ) (g : Graph) → reading_of s ≡ Ok g → Sound (view_of g)

-- No two accepted files are held as the same graph.
abbrev pub FilesDiffer : Type 0
FilesDiffer =
    (s t : List ℕ) → Octets s → Octets t → (g h : Graph) → reading_of s ≡ Ok g → reading_of t ≡ Ok h
    → SameGraph (view_of g) (view_of h) → s ≡ t

-- ---- what is written is read back
-- What rows 3 to 5 ask of a list:
pub record ListInOrder (n low : ℕ) (l : List ℕ) : Type 0 where
  -- it has as many masks as it must have,
  pub enough : low ≤ length l
  -- no more than it may have,
  pub most : length l ≤ max_masks
  -- and each of them is accepted behind those in front of it
  pub masks : (i : ℕ) → i < length l → mask_answer n (take i l) (get_or l i 0) ≡ Ok tt

-- What they ask of a graph:
pub record InOrder (G : LearnerGraph) : Type 0 where
  -- it has 1 to 16 acceptors
  pub some_acceptors : 1 ≤ G.acceptors
  pub most_acceptors : G.acceptors ≤ max_acceptors
  -- and 1 to 8 learners,
  pub some_learners : 1 ≤ G.learners
  pub most_learners : G.learners ≤ max_learners
  -- each learner has a quorum list in order, which is not empty,
  pub quorums : (a : ℕ) → a < G.learners → ListInOrder G.acceptors 1 (G.quorums a)
  -- and each pair a list of safe sets in order
  pub safes : (a b : ℕ) → a < G.learners → b < G.learners → ListInOrder G.acceptors 0 (G.safes a b)

-- The file of a graph in order is read, by rows 1 to 5, as the same graph.
abbrev pub GraphReadsBack : Type 0
GraphReadsBack = (g : Graph) → InOrder (view_of g) → IsOkAnd (held_reading (contents (graph_file g))) (λ h. SameGraph (view_of h) (view_of g))

-- And bytes that rows 1 to 5 accept are those that are written for what they say.
abbrev pub FileWrittenBack : Type 0
FileWrittenBack = (s : List ℕ) → Octets s → (f : Contents) (end : ℕ) → contents s ≡ got f end → s ≡ file_bytes f
