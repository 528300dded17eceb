-- What each call answers that may be turned down.
use Rattle.std.specs.Prelude.{Result, Ok, Err, ℕ}
use Rattle.base.specs.Refusals.{number_of}
use Rattle.base.specs.declared.refusal.Refusal.{Refusal}

-- 0, or the number of the row that turns the call down
abbrev pub answer_of : {X : Type 0} → Result X Refusal → ℕ
answer_of (Ok x) = 0
answer_of (Err r) = number_of r
