-- What is noted of a held message, and what is worked out for a message from the notes of the places before it, in the terms of the
-- definitions (protocol/specs). The table t holds the places before it; a message that is worked out is one more record at its end.
use Rattle.std.specs.Prelude.{◌≡◌, not, ◌&&◌, List, ℕ, ◌≤◌, ◌<◌, T, eqb, ltb, length, get_or}
use Rattle.std.proofs.Math.Option.{Option}
use Rattle.base.specs.Tests.{◌∈◌}
use Rattle.base.specs.Sets.{has}
use Rattle.graph.specs.LearnerGraph.{LearnerGraph}
use Rattle.protocol.specs.Ids.{Id, same_id, same_previous}
use Rattle.protocol.specs.Message.{Message, forks}
use Rattle.protocol.specs.WellFormed.{formed1b, formed2a}
use Rattle.protocol.specs.Table.{Table, at, held_id, held_signer, held_previous, offered, Ordered, tree, reach}
use Rattle.protocol.specs.Inside.Places.{is1b_at, is2a_at, ballot_at, fresh_at, lrns_at}
use Rattle.places.specs.Inside.PlaceSets.{in_set}
use Rattle.round.specs.Round.{Round}
use Rattle.round.specs.Holdings.{is_proposal_at, signer_at}
use Rattle.notes.specs.declared.Worked.{Worked}
use Rattle.notes.specs.Inside.Layout.{first_form, second_form, WordNotes, ByteNotes}
use Rattle.notes.specs.Inside.Index.{link_at}
use Rattle.meaning.specs.declared.Note.{Note}
use Rattle.round.specs.Limits.{max_held}

-- ---- the notes of place i are right: the places that it reaches, those before it that fork with it, its ballot, whether it is a 1b or a
-- 2a, its learners, and the learners that it is fresh for
pub record Noted (G : LearnerGraph) (t : Table) (i low high forkLow forkHigh top learners fresh form : ℕ) : Type 0 where
  -- the places that it reaches
  pub reaches : (j : ℕ) → j < max_held → in_set low high j ≡ reach t i j
  -- those before it that fork with it
  pub forking : (j : ℕ) → j < max_held → in_set forkLow forkHigh j ≡ (ltb j i && forks (tree t j) (tree t i))
  -- its ballot
  pub ballot : top ≡ ballot_at t i
  -- whether it is a 1b
  pub first : eqb form first_form ≡ is1b_at t i
  -- or a 2a
  pub second : eqb form second_form ≡ is2a_at t i
  -- its learners,
  pub learning : (a : ℕ) → a < G.learners → has learners a ≡ lrns_at t G i a
  -- all of the graph
  pub within : (a : ℕ) → T (has learners a) → a < G.learners
  -- those that it is fresh for, if it is a 1b
  pub freshly : (a : ℕ) → a < G.learners → T (is1b_at t i) → has fresh a ≡ fresh_at t G a i

abbrev pub NotedBy : LearnerGraph → Table → ℕ → Worked → Type 0
NotedBy G t i r = Noted G t i r.beneath.low r.beneath.high r.forks.low r.forks.high r.ballot r.learners r.fresh r.form

-- ---- the notes x and y of all places of t, which the round r holds, are right
pub record AllNoted (G : LearnerGraph) (t : Table) (r : Round) (x : WordNotes) (y : ByteNotes) : Type 0 where
  -- references are to earlier places,
  pub ordered : Ordered t
  -- the round has the kinds
  pub kind : (i : ℕ) → i < length t → is_proposal_at r i ≡ offered (at t i)
  -- and the signers of the table,
  pub signer : (i : ℕ) → i < length t → signer_at r i ≡ held_signer (at t i)
  -- and the notes of each place are right
  pub noted : (i : ℕ) → i < length t
      → Noted G t i (get_or x.low i 0) (get_or x.high i 0) (get_or x.forklow i 0) (get_or x.forkhigh i 0) (get_or x.tops i 0) (get_or y.learners i 0) (get_or y.fresh i 0) (get_or y.forms i 0)

-- ---- an acceptor message with this id, previous id and references
pub record Candidate (t : Table) (r : Round) (y : ByteNotes) (places : List ℕ) (id : Id) (prev : Option Id) (name link : ℕ) : Type 0 where
  -- it refers to places of t,
  pub earlier : (j : ℕ) → j ∈ places → j < length t
  -- its name tells its id from those held,
  pub named : (j : ℕ) → j < length t → eqb (get_or y.names j 0) name ≡ same_id (held_id (at t j)) id
  -- and its link its previous id from theirs
  pub linked : (j : ℕ) → j < length t → T (not (offered (at t j))) → eqb (link_at r y j) link ≡ same_previous (held_previous (at t j)) prev

-- ---- what is worked out for place i of t is right, but that the place itself is left out of what it reaches
pub record Told (G : LearnerGraph) (t : Table) (i : ℕ) (r : Worked) : Type 0 where
  -- the places before it that it reaches,
  pub reaches : (j : ℕ) → j < i → in_set r.beneath.low r.beneath.high j ≡ reach t i j
  -- and no others
  pub none : (j : ℕ) → i ≤ j → j < max_held → T (in_set r.beneath.low r.beneath.high j) → ⊥
  -- those before it that fork with it
  pub forking : (j : ℕ) → j < max_held → in_set r.forks.low r.forks.high j ≡ (ltb j i && forks (tree t j) (tree t i))
  -- its ballot
  pub ballot : r.ballot ≡ ballot_at t i
  -- whether it is a 1b
  pub first : eqb r.form first_form ≡ is1b_at t i
  -- or a 2a
  pub second : eqb r.form second_form ≡ is2a_at t i
  -- its learners,
  pub learning : (a : ℕ) → a < G.learners → has r.learners a ≡ lrns_at t G i a
  -- all of the graph
  pub within : (a : ℕ) → T (has r.learners a) → a < G.learners
  -- those that it is fresh for, if it is a 1b
  pub freshly : (a : ℕ) → a < G.learners → T (is1b_at t i) → has r.fresh a ≡ fresh_at t G a i

-- ---- what is asked of a message m before it is taken or sent
pub record Judged (G : LearnerGraph) (m : Message) (r : Note) : Type 0 where
  -- is it well-formed as a 1b,
  pub formed1 : r.formed1b ≡ formed1b m
  -- and is it as a 2a
  pub formed2 : r.formed2a ≡ formed2a G m
