-- Caught as the text of 19 November 2024 has it (source document 000, definitions 8 and 12), and the statement that it catches whom the report's
-- definition 11 catches. Messages, signers and Tran are the same in both texts.
use Rattle.std.specs.Prelude.{◌≡◌, Bool, not, ◌&&◌, List, [], ◌∷◌, ◌++◌, ℕ, eqb}
use Rattle.std.proofs.Math.Option.{Option, some}
use Rattle.base.specs.Tests.{◌∈◌, pick, any, filter}
use Rattle.protocol.specs.Ids.{Id, same_id, same_previous}
use Rattle.protocol.specs.Message.{Message, proposal, acceptor, Messages, nil, cons, id_of, signer, is_acceptor, signers, tran, caught}
use Rattle.protocol.specs.Theorems.{Chained}

-- ---- definition 8, PrevTran(x): x and, where x.prev is not ⊥, PrevTran(x.prev). x.prev is the one of the references of x that has its previous id.
unfoldable mutual
  pub prev_tran : Message → List Message
  prev_tran (proposal i s b) = proposal i s b ∷ []
  prev_tran (acceptor i s p r) = acceptor i s p r ∷ prev_trans p r

  -- of those of the references that have the id p
  pub prev_trans : Option Id → Messages → List Message
  prev_trans p nil = []
  prev_trans p (cons m r) = pick (same_previous p (some (id_of m))) (prev_tran m) [] ++ prev_trans p r

-- m ∈ PrevTran(n): a message is told by its id
unfoldable pub in_prev_tran : Message → Message → Bool
in_prev_tran m n = any (λ z. same_id (id_of z) (id_of m)) (prev_tran n)

-- ---- definition 12, Caught(x): the signers of those m in Tran(x) for which some m' in Tran(x) has the same signer, m ∉ PrevTran(m') and
-- m' ∉ PrevTran(m). It is "taken over acceptor messages" (document 02), as document 01 takes the report's.
unfoldable pub unconnected : Message → Message → Bool
unconnected m n = is_acceptor m && is_acceptor n && eqb (signer m) (signer n) && not (in_prev_tran m n) && not (in_prev_tran n m)

unfoldable pub caught_november : Message → ℕ → Bool
caught_november x = signers (filter (λ m. any (unconnected m) (tran x)) (tran x))

-- ---- both texts catch the same acceptors, in every message of a set that is closed, chained and told apart by ids. proofs/November proves it.
abbrev pub SameCaught : Type 0
SameCaught = (M : List Message) → Chained M → (x : Message) → x ∈ M → (p : ℕ) → caught_november x p ≡ caught x p
