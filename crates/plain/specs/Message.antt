-- What the calls on messages answer, and each byte that they write.
use Rattle.std.specs.Prelude.{List, [], ◌∷◌, ◌++◌, Result, Ok, Err, ℕ, ltb, length, replicate}
use Rattle.base.specs.Tests.{pick}
use Rattle.base.specs.Bytes.{bytes, part}
use Rattle.base.specs.declared.refusal.Refusal.{Refusal}
use Rattle.message.specs.declared.Message.{Message}
use Rattle.message.specs.declared.Message.TheVariants.{OfProposer, OfAcceptor}
use Rattle.message.specs.Layout.{proposal_kind, acceptor_kind, marker, previous_at, id_len}
use Rattle.message.specs.Reader.{reading}
use Rattle.message.specs.Writer.{fronted}
use Rattle.plain.specs.Answers.{answer_of}

-- 48 bytes: kind 1, house 2, bay 2, signer 1, ballot 8, marker 1, previous id 32, count 1
abbrev pub row : ℕ → ℕ → ℕ → ℕ → ℕ → ℕ → List ℕ → ℕ → List ℕ
row kind house bay signer ballot mark previous count =
    (kind ∷ []) ++ bytes 2 house ++ bytes 2 bay ++ (signer ∷ []) ++ bytes 8 ballot ++ (mark ∷ []) ++ previous ++ (count ∷ [])

abbrev pub row_len : ℕ
row_len = 48

abbrev pub no_id : List ℕ
no_id = replicate 32 0

-- a buffer that the fields were written to: the ballot of an acceptor message is 0, and so are the marker, previous id and count of a proposal
abbrev pub fields_of : List ℕ → Result Message Refusal → List ℕ → List ℕ
fields_of s (Ok (OfProposer p)) buffer = fronted (row proposal_kind p.house p.bay p.proposer p.ballot 0 no_id 0) buffer
fields_of s (Ok (OfAcceptor m)) buffer =
    fronted (row acceptor_kind m.house m.bay m.signer 0 (marker m.previous) (pick m.previous (part id_len s previous_at) no_id) m.count) buffer
fields_of s (Err r) buffer = buffer

-- 17 for a buffer under 48 bytes, before all else
abbrev pub read_answer : List ℕ → List ℕ → ℕ
read_answer s buffer = pick (ltb (length buffer) row_len) 17 (answer_of (reading s))

abbrev pub fields_to : List ℕ → List ℕ → List ℕ
fields_to s buffer = pick (ltb (length buffer) row_len) buffer (fields_of s (reading s) buffer)
