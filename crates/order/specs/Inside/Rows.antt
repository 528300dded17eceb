-- Rows 8 to 16 of an acceptor message in three parts, as they are asked: those before its references, those on them, and those after. The first row
-- that applies counts. Each test is what it answered.
use Rattle.std.specs.Prelude.{Bool, not, Result, Ok, Err}
use Rattle.std.proofs.Math.Option.{Option, none, some}
use Rattle.base.specs.Tests.{pick}
use Rattle.base.specs.declared.refusal.Refusal.{Refusal}
use Rattle.base.specs.declared.refusal.Refusal.TheVariants.{OtherRound, Signer, Known, Reference, Previous, Malformed1b, Malformed2a, Full}

-- the row that an answer names, if one
abbrev pub row_of : {A : Type 0} → Result A Refusal → Option Refusal
row_of (Ok x) = none
row_of (Err e) = some e

-- rows 8, 9 and 10
abbrev pub head_row : Bool → Bool → Bool → Option Refusal
head_row other foreign known = pick other (some OtherRound) (pick foreign (some Signer) (pick known (some Known) none))

-- rows 11 and 12, where the message lacks a reference, and does not name its previous message rightly
abbrev pub chain_row : Bool → Bool → Option Refusal
chain_row lacks unchained = pick lacks (some Reference) (pick unchained (some Previous) none)

-- rows 14 to 16, where the message is well-formed as a 1b and as a 2a, and lacks room
abbrev pub form_row : Bool → Bool → Bool → Option Refusal
form_row first second full = pick (not first) (some Malformed1b) (pick (not second) (some Malformed2a) (pick full (some Full) none))
