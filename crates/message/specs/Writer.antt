-- The bytes of given fields, and a lent buffer that they are written to.
use Rattle.std.specs.Prelude.{Bool, not, List, [], ◌∷◌, ◌++◌, Result, Ok, Err, ℕ, ◌-◌, eqb, ltb, length, drop}
use Rattle.base.specs.Tests.{pick}
use Rattle.base.specs.Bytes.{bytes, part}
use Rattle.base.specs.Ballots.{ballot_of}
use Rattle.base.specs.declared.refusal.Refusal.{Refusal}
use Rattle.base.specs.declared.refusal.Refusal.TheVariants.{Argument}
use Rattle.message.specs.declared.Proposal.{Proposal}
use Rattle.message.specs.Layout.{outer_len, version, proposal_kind, acceptor_kind, proposal_len, marker, id_len, acceptor_len}
use Rattle.message.specs.Reader.{reference_in}

-- what every message of len bytes begins with
abbrev pub head_bytes : ℕ → ℕ → ℕ → ℕ → ℕ → List ℕ
head_bytes len kind house bay signer = bytes 2 (len - outer_len) ++ (version ∷ kind ∷ []) ++ bytes 2 house ++ bytes 2 bay ++ (signer ∷ [])

abbrev pub proposal_bytes : Proposal → List ℕ
proposal_bytes p = head_bytes proposal_len proposal_kind p.house p.bay p.proposer ++ bytes 8 p.ballot

-- "Round number 0 stands for 1 and is written as 1.": the round number that a caller means. The writer below it writes what it is given.
abbrev pub first_round : ℕ
first_round = 1

abbrev pub meant_round : ℕ → ℕ
meant_round round = pick (eqb round 0) first_round round

-- the proposal that the writer's arguments are
abbrev pub proposal_of : ℕ → ℕ → ℕ → ℕ → ℕ → Proposal
proposal_of house bay proposer round value = record { house = house; bay = bay; proposer = proposer; ballot = ballot_of round value }

-- the marker: an empty previous id is none
abbrev pub has_previous : List ℕ → Bool
has_previous previous = not (eqb (length previous) 0)

-- an acceptor message with the previous id, or none, and the n references whose ids stand one behind the other in ids
abbrev pub acceptor_bytes : ℕ → ℕ → ℕ → List ℕ → ℕ → List ℕ → List ℕ
acceptor_bytes house bay signer previous n ids =
    head_bytes (acceptor_len (has_previous previous) n) acceptor_kind house bay signer ++ (marker (has_previous previous) ∷ []) ++ previous ++ (n ∷ []) ++ ids

-- a buffer with e at its front; bytes behind it keep their values
abbrev pub fronted : List ℕ → List ℕ → List ℕ
fronted e buffer = e ++ drop (length e) buffer

-- 17 for a buffer too short, which keeps every byte
abbrev pub written_to : List ℕ → List ℕ → List ℕ
written_to e buffer = pick (ltb (length buffer) (length e)) buffer (fronted e buffer)

-- how many bytes were written
abbrev pub wrote : List ℕ → List ℕ → Result ℕ Refusal
wrote e buffer = pick (ltb (length buffer) (length e)) (Err Argument) (Ok (length e))

-- the n-th reference of the bytes s, by where it stands, copied to the front of a lent buffer: 17 for a buffer too short, then 1 to 4, then 17 where there is none
abbrev pub copied_from : List ℕ → Result ℕ Refusal → List ℕ → List ℕ
copied_from s (Ok at) buffer = fronted (part id_len s at) buffer
copied_from s (Err r) buffer = buffer

-- how many bytes were copied
abbrev pub copy_answer : Result ℕ Refusal → Result ℕ Refusal
copy_answer (Ok at) = Ok id_len
copy_answer (Err r) = Err r

abbrev pub reference_to : List ℕ → ℕ → List ℕ → List ℕ
reference_to s n buffer = pick (ltb (length buffer) id_len) buffer (copied_from s (reference_in s n) buffer)

abbrev pub reference_answer : List ℕ → ℕ → List ℕ → Result ℕ Refusal
reference_answer s n buffer = pick (ltb (length buffer) id_len) (Err Argument) (copy_answer (reference_in s n))
