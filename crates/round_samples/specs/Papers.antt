-- What the bytes that the samples lay out mean: the definitions of the formats, for house 1 and bay 12.
use Rattle.std.specs.Prelude.{ℕ, List, []}
use Rattle.base.specs.Ballots.{ballot_of}
use Rattle.digest.specs.Sha256.{sha256}
use Rattle.message.specs.Writer.{proposal_bytes, acceptor_bytes}
use Rattle.round_cases.specs.Cases.{P}

-- a proposal of proposer 0
abbrev pub proposal_at : ℕ → ℕ → List ℕ
proposal_at round value = proposal_bytes (record { house = 1; bay = 12; proposer = 0; ballot = ballot_of round value })

-- an acceptor message: its signer, its previous id or none, how many references it has, and their ids
abbrev pub vote_of : ℕ → List ℕ → ℕ → List ℕ → List ℕ
vote_of signer previous n ids = acceptor_bytes 1 12 signer previous n ids

-- z1: acceptor 0's 1b on P
abbrev pub Z1 : List ℕ
Z1 = vote_of 0 [] 1 (sha256 P)
