-- One decision for one house and bay: a round, which holds only what was given to it. Whatever follows from that is worked out anew in each call.
-- Every bit pattern is a round; a call answers 17 for one that has a count or place outside its table (Handed). Place p of each array belongs to the p-th
-- held message; what is not in use is not read.
use Rattle.std.specs.Prelude.{List, ℕ}
use Rattle.graph.specs.declared.Graph.{Graph}

pub record Round : Type 0 where
  pub graph : Graph
  pub house : ℕ
  pub bay : ℕ
  -- the own acceptor number; 256: none, listening only
  pub own : ℕ
  -- how many messages are held
  pub held : ℕ
  -- the place of the last sent message; 255: none
  pub last : ℕ
  -- the id of place p: 32 bytes from 32 * p on
  pub ids : List ℕ
  -- 1: a proposal; any other: an acceptor message
  pub kinds : List ℕ
  pub signers : List ℕ
  -- the ballot of a proposal
  pub ballots : List ℕ
  -- the place of an acceptor message's previous message; 255: none, as a proposal has
  pub previous : List ℕ
  -- the places that an acceptor message refers to: counts[p] places from 128 * p on
  pub counts : List ℕ
  pub references : List ℕ
  -- not 0: known. A held message that is not known awaits its return.
  pub known : List ℕ
  -- not 0: in recent, the messages that the next reply refers to
  pub recent : List ℕ
