-- How a file's lists are held in memory, and what `read` answers.
use Rattle.std.specs.Prelude.{List, [], ◌∷◌, ℕ, suc, ◌*◌, length, set, replicate, Result, Ok, Err}
use Rattle.std.specs.Result.{result_and}
use Rattle.base.specs.Bytes.{put_at}
use Rattle.base.specs.declared.refusal.Refusal.{Refusal}
use Rattle.graph.specs.declared.Graph.{Graph}
use Rattle.graph.specs.Limits.{max_masks, lists}
use Rattle.graph.specs.Memory.{pair_list}
use Rattle.graph.specs.Answers.{graph_answer}
use Rattle.graphfile.specs.File.{Got, got, no, Contents, contents, graph_said}

-- ---- how they are put in
pub record ListArrays : Type 0 where
  pub counts : List ℕ
  pub masks : List ℕ

-- a list put in as list k
abbrev pub hold : ℕ → List ℕ → ListArrays → ListArrays
hold k l h = record { counts = set h.counts k (length l); masks = put_at h.masks (max_masks * k) l }

-- lists put in as the lists f i, f (i + 1) and so on
unfoldable pub hold_all : (ℕ → ℕ) → ℕ → List (List ℕ) → ListArrays → ListArrays
hold_all f i [] h = h
hold_all f i (l ∷ ls) h = hold_all f (suc i) ls (hold (f i) l h)

-- the rows of safe lists from learner a on
unfoldable pub hold_rows : ℕ → List (List (List ℕ)) → ListArrays → ListArrays
hold_rows a [] h = h
hold_rows a (row ∷ rows) h = hold_rows (suc a) rows (hold_all (pair_list a) a row h)

abbrev pub nothing : ListArrays
nothing = record { counts = replicate lists 0; masks = replicate (max_masks * lists) 0 }

-- the lists of a file put in: quorums, then safe lists
abbrev pub held_in : ListArrays → Contents → ListArrays
held_in h f = hold_rows 0 f.rows (hold_all (λ a. a) 0 f.quorums h)

unfoldable pub held_of : Contents → ListArrays
held_of f = held_in nothing f

abbrev pub graph_of_held : ℕ → ℕ → ListArrays → Graph
graph_of_held n l h = record { acceptors = n; learners = l; counts = h.counts; masks = h.masks }

-- the graph that a file says
abbrev pub graph_in_file : Contents → Graph
graph_in_file f = graph_of_held f.acceptors f.learners (held_of f)

-- "6 and 7 come last"
abbrev pub contents_reading : Got Contents → Result Graph Refusal
contents_reading (got f at) = result_and (graph_answer (graph_said f)) (Ok (graph_in_file f))
contents_reading (no r) = Err r

-- What `read` answers: the graph of an accepted file, or why the file is turned down.
abbrev pub reading_of : List ℕ → Result Graph Refusal
reading_of s = contents_reading (contents s)

-- What `read_contents` answers: rows 1 to 5 alone.
abbrev pub held_reading : Got Contents → Result Graph Refusal
held_reading (got f at) = Ok (graph_in_file f)
held_reading (no r) = Err r
