-- The chain property and well-formed messages: definitions 18, 20 and 23 of the report, as document 01 and request 1 of document 02 complete them.
use Rattle.std.specs.Prelude.{Bool, true, not, ◌&&◌, ◌||◌, eqb}
use Rattle.std.specs.Bool.{beq}
use Rattle.std.proofs.Math.Option.{Option, none, some}
use Rattle.base.specs.Tests.{any, all, below}
use Rattle.graph.specs.LearnerGraph.{LearnerGraph}
use Rattle.protocol.specs.Ids.{Id, same_id, same_previous}
use Rattle.protocol.specs.Message.{Message, id_of, signer, previous, references, is_proposal, is_acceptor, is1b, is2a, tran, ballot}
use Rattle.protocol.specs.Learners.{lrns}

-- ---- definition 18, row 12 of document 01: a message that names a previous one has it among its references, and it is no proposal and
-- of the same signer
unfoldable pub is_previous : Message → Id → Message → Bool
is_previous m i u = is_acceptor u && same_id (id_of u) i && eqb (signer u) (signer m)

unfoldable pub linked : Message → Option Id → Bool
linked m none = true
linked m (some i) = any (is_previous m i) (references m)

unfoldable pub chained : Message → Bool
chained m = linked m (previous m)

-- ---- definition 20, row 14: "a 1b is well-formed if every other message of its Tran with its ballot is a proposal"
unfoldable pub alone : Message → Message → Bool
alone m x = same_id (id_of x) (id_of m) || not (eqb (ballot x) (ballot m)) || is_proposal x

unfoldable pub formed1b : Message → Bool
formed1b m = not (is1b m) || all (alone m) (tran m)

-- ---- definition 23, row 15. lrns(u) = lrns(m)
unfoldable pub same_learners : LearnerGraph → Message → Message → Bool
same_learners G u m = all (λ a. beq (lrns G u a) (lrns G m a)) (below G.learners)

-- m repeats the vote u: its previous id names u, and u is a 2a of its ballot and with its learners
unfoldable pub is_repeat_of : LearnerGraph → Message → Message → Bool
is_repeat_of G m u = same_previous (previous m) (some (id_of u)) && is2a u && eqb (ballot u) (ballot m) && same_learners G u m

-- its previous message is the one that its previous id names among its references; where there is none, m repeats nothing
unfoldable pub repeats : LearnerGraph → Message → Bool
repeats G m = any (is_repeat_of G m) (references m)

-- "a 2a is well-formed if lrns is not empty"; and "a 2a whose previous message is a 2a of the same ballot is well-formed only if its lrns is not empty
-- and differs from that one's"
unfoldable pub formed2a : LearnerGraph → Message → Bool
formed2a G m = not (is2a m) || (any (lrns G m) (below G.learners) && not (repeats G m))

-- both: what is asked of z before it is sent. (Its chain, row 12, follows for every message that is sent.)
unfoldable pub well_formed : LearnerGraph → Message → Bool
well_formed G m = formed1b m && formed2a G m
