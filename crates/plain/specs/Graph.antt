-- What the calls on graph files answer.
use Rattle.std.specs.Prelude.{List, ℕ}
use Rattle.graphfile.specs.File as file
use Rattle.plain.specs.Answers.{answer_of}

-- 0 where the file is accepted, or the number of the refusal
abbrev pub check_graph : List ℕ → ℕ
check_graph s = answer_of (file.answer_of s)
