-- The table "When a call is turned down" of document 01: a name and a number for each row. 13 was struck and is not used again.
use Rattle.std.specs.Prelude.{◌≢◌, ℕ}
use Rattle.base.specs.declared.refusal.Refusal.{Refusal}
use Rattle.base.specs.declared.refusal.Refusal.TheVariants.{Length, Version, Range, Order, Mask, NotValid, NotCondensed, OtherRound, Signer, Known, Reference, Previous, Malformed1b, Malformed2a, Full, Argument}

abbrev pub number_of : Refusal → ℕ
-- length wrong, bytes short or left over
number_of Length = 1
-- version not 1
number_of Version = 2
-- kind, marker or a count outside its range
number_of Range = 3
-- ids or masks not ascending
number_of Order = 4
-- mask zero, naming an acceptor that the file lacks, or containing an earlier one
number_of Mask = 5
-- graph not valid
number_of NotValid = 6
-- graph not condensed
number_of NotCondensed = 7
-- another house or bay
number_of OtherRound = 8
-- signer of an acceptor message not in the graph
number_of Signer = 9
-- known already
number_of Known = 10
-- a reference not known
number_of Reference = 11
-- previous message not referred to, a proposal, or of another signer
number_of Previous = 12
-- 1b not well-formed
number_of Malformed1b = 14
-- 2a not well-formed
number_of Malformed2a = 15
-- full
number_of Full = 16
-- learner or own acceptor number not in the graph, a lent buffer too short, a round handed in with a count or place outside its table, a reference not to an earlier place, or an acceptor message with none
number_of Argument = 17

-- ---- the number of the row that was struck: "no proposal in Tran". A proposal lies beneath every message whose references are known
-- (round/specs/Demands), so no message was ever turned down by it.
abbrev pub struck : ℕ
struck = 13

-- "do not use the number again"; proofs/Refusals proves it under the same name
abbrev pub NumberUnused : Type 0
NumberUnused = (e : Refusal) → number_of e ≢ struck
