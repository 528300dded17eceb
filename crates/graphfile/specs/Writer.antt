-- The graph file of a graph in memory: its bytes in the order in which File reads them, and what `write` answers.
use Rattle.std.specs.Prelude.{Bool, ◌&&◌, List, [], ◌∷◌, ◌++◌, ℕ, zero, suc, ◌^◌, ltb, leb, length, drop, Result, Ok, Err}
use Rattle.base.specs.Tests.{pick, all}
use Rattle.base.specs.Bytes.{bytes}
use Rattle.base.specs.declared.refusal.Refusal.{Refusal}
use Rattle.base.specs.declared.refusal.Refusal.TheVariants.{Argument}
use Rattle.graph.specs.declared.Graph.{Graph}
use Rattle.graph.specs.Limits.{version, max_learners, max_masks, mask_bytes}
use Rattle.graph.specs.LearnerGraph.{LearnerGraph}
use Rattle.graph.specs.Memory.{view_of}
use Rattle.graphfile.specs.File.{outer_len, Contents}

-- ---- the bytes of what a file says
-- "count .., then two-byte masks"
unfoldable pub masks_bytes : List ℕ → List ℕ
masks_bytes [] = []
masks_bytes (m ∷ l) = bytes mask_bytes m ++ masks_bytes l

abbrev pub list_bytes : List ℕ → List ℕ
list_bytes l = length l ∷ masks_bytes l

unfoldable pub lists_bytes : List (List ℕ) → List ℕ
lists_bytes [] = []
lists_bytes (l ∷ ls) = list_bytes l ++ lists_bytes ls

unfoldable pub rows_bytes : List (List (List ℕ)) → List ℕ
rows_bytes [] = []
rows_bytes (row ∷ rows) = lists_bytes row ++ rows_bytes rows

-- "Version 1. Acceptors n .. Learners l ..", the quorums of each learner, the safe lists of each pair
abbrev pub body_bytes : Contents → List ℕ
body_bytes f = (version ∷ f.acceptors ∷ f.learners ∷ []) ++ lists_bytes f.quorums ++ rows_bytes f.rows

-- "Two bytes: count of the bytes after them."
unfoldable pub file_bytes : Contents → List ℕ
file_bytes f = bytes outer_len (length (body_bytes f)) ++ body_bytes f

-- ---- what a file says of a graph
-- k lists, from f a on
unfoldable pub listed : (ℕ → List ℕ) → ℕ → ℕ → List (List ℕ)
listed f a zero = []
listed f a (suc k) = f a ∷ listed f (suc a) k

-- "For each pair a ≤ b, in the order 0-0, 0-1 and so on": the last k rows of pairs, from that of learner a on
unfoldable pub rows_from : (ℕ → ℕ → List ℕ) → ℕ → ℕ → List (List (List ℕ))
rows_from f a zero = []
rows_from f a (suc k) = listed (f a) a (suc k) ∷ rows_from f (suc a) k

abbrev pub contents_of : LearnerGraph → Contents
contents_of G =
    record { acceptors = G.acceptors; learners = G.learners; quorums = listed G.quorums 0 G.learners; rows = rows_from G.safes 0 G.learners }

abbrev pub graph_file : Graph → List ℕ
graph_file g = file_bytes (contents_of (view_of g))

-- ---- what `write` answers
abbrev pub few_masks : ℕ → Bool
few_masks n = leb n max_masks

abbrev pub fits_mask : ℕ → Bool
fits_mask m = ltb m (256 ^ mask_bytes)

-- a graph that a file can say: no more learners and no longer lists than there is room for, and masks of two bytes
unfoldable pub sayable : Graph → Bool
sayable g = leb g.learners max_learners && all few_masks g.counts && all fits_mask g.masks

-- it can be said, and its file is no longer than the lent buffer
abbrev pub writable : Graph → List ℕ → Bool
writable g buffer = sayable g && leb (length (graph_file g)) (length buffer)

-- the length of the file, or 17
abbrev pub write_answer : Graph → List ℕ → Result ℕ Refusal
write_answer g buffer = pick (writable g buffer) (Ok (length (graph_file g))) (Err Argument)

-- the buffer with the file at its front; bytes behind it keep their values, and all do where nothing is written
abbrev pub write_to : Graph → List ℕ → List ℕ
write_to g buffer = pick (writable g buffer) (graph_file g ++ drop (length (graph_file g)) buffer) buffer
