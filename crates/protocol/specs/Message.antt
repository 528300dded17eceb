-- Messages as trees, and what a message leads to: definitions 4 to 11 of the report, as document 01 ("What a message means") has them.
-- A set of acceptors is a test of acceptor numbers; a set of messages is a list. Two messages are different if their ids differ.
use Rattle.std.specs.Prelude.{Bool, true, false, not, ◌&&◌, List, [], ◌∷◌, ◌++◌, ℕ, max, eqb}
use Rattle.std.proofs.Math.Option.{Option, none}
use Rattle.base.specs.Ballots.{value_of}
use Rattle.base.specs.Tests.{any, filter}
use Rattle.protocol.specs.Ids.{Id, same_id, same_previous}

-- A proposal has an id, a signer and a ballot; an acceptor message has an id, a signer, a previous id or none, and references.
mutual
  pub data Message : Type 0 where
    proposal : Id → ℕ → ℕ → Message
    acceptor : Id → ℕ → Option Id → Messages → Message

  pub data Messages : Type 0 where
    nil : Messages
    cons : Message → Messages → Messages

unfoldable pub listed : Messages → List Message
listed nil = []
listed (cons m r) = m ∷ listed r

-- ---- the fields
unfoldable pub id_of : Message → Id
id_of (proposal i s b) = i
id_of (acceptor i s p r) = i

unfoldable pub signer : Message → ℕ
signer (proposal i s b) = s
signer (acceptor i s p r) = s

unfoldable pub previous : Message → Option Id
previous (proposal i s b) = none
previous (acceptor i s p r) = p

unfoldable pub references : Message → List Message
references (proposal i s b) = []
references (acceptor i s p r) = listed r

unfoldable pub is_proposal : Message → Bool
is_proposal (proposal i s b) = true
is_proposal (acceptor i s p r) = false

abbrev pub is_acceptor : Message → Bool
is_acceptor m = not (is_proposal m)

-- the ballot that a proposal carries; an acceptor message carries none
unfoldable pub proposed : Message → ℕ
proposed (proposal i s b) = b
proposed (acceptor i s p r) = 0

-- ---- definition 4: "1b: an acceptor message with a proposal among its references"
unfoldable pub is1b : Message → Bool
is1b m = is_acceptor m && any is_proposal (references m)

-- ---- definition 5: "2a: any other"
unfoldable pub is2a : Message → Bool
is2a m = is_acceptor m && not (any is_proposal (references m))

-- ---- definition 6: p is a signer of one of the messages l
unfoldable pub signers : List Message → ℕ → Bool
signers l p = any (λ m. eqb (signer m) p) l

-- ---- definition 7: "Tran(m): m and all that its references lead to"
unfoldable mutual
  pub tran : Message → List Message
  tran (proposal i s b) = proposal i s b ∷ []
  tran (acceptor i s p r) = acceptor i s p r ∷ trans r

  pub trans : Messages → List Message
  trans nil = []
  trans (cons m r) = tran m ++ trans r

-- ---- definitions 8 and 9: "B(m): the largest ballot of a proposal in Tran(m)"
unfoldable pub largest : List Message → ℕ
largest [] = 0
largest (m ∷ l) = max (proposed m) (largest l)

unfoldable pub ballot : Message → ℕ
ballot m = largest (tran m)

-- ---- definition 10: "V(m): its lower 32 bits"
unfoldable pub value : Message → ℕ
value m = value_of (ballot m)

-- ---- definition 11: "Caught(m): each acceptor that signed both of two different acceptor messages in Tran(m) that have the same
-- previous id or both have none"
unfoldable pub forks : Message → Message → Bool
forks x y = is_acceptor x && is_acceptor y && eqb (signer x) (signer y) && not (same_id (id_of x) (id_of y)) && same_previous (previous x) (previous y)

unfoldable pub caught_in : List Message → ℕ → Bool
caught_in l = signers (filter (λ x. any (forks x) l) l)

unfoldable pub caught : Message → ℕ → Bool
caught m = caught_in (tran m)
