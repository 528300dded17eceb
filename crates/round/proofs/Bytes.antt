-- What is read in the bytes of a held record, and what a report of a round says of its known messages.
use mathlib.Core.Path.{◌≡◌, refl, ap, ◌∙◌}
use mathlib.Core.Bool.{Bool, true, false, not, ◌||◌}
use mathlib.Core.List.{List}
use Prim.Native.Nat.{ℕ, ◌<◌}
use native.Mathlib.Omega.{arith}
use lib.Dec.{T, leb, nleb→lt}
use Rattle.std.specs.Prelude.{Ok, Err}
use Rattle.base.specs.Tests.{pick}
use Rattle.base.specs.declared.refusal.Refusal.TheVariants.{Argument}
use Rattle.message.specs.Reader.{reading}
use Rattle.message.specs.declared.Proposal.{Proposal}
use Rattle.message.specs.declared.AcceptorMessage.{AcceptorMessage}
use Rattle.round.specs.Outcomes.{Reading}
use Rattle.message.specs.declared.Message.TheVariants.{OfProposer, OfAcceptor}
use Rattle.protocol.specs.Message.{Message, proposed}
use Rattle.protocol.specs.Report.{Verdict, undecided, decided, split}
use Rattle.protocol.specs.Report as protocol
use Rattle.protocol.specs.Table.{Held, offers, says, Table, held_signer, held_previous, offered, node_by, ids_at, joint, plain, content_of}
use Rattle.round.specs.Round.{Round}
use Rattle.round.specs.declared.Report.TheVariants as answer
use Rattle.round.specs.Holdings.{graph_of, known_messages}
use Rattle.round.specs.Handed.{fits}
use Rattle.round.specs.Rows.{previous_id, reference_ids}
use Rattle.round.specs.Report.{told, reported}
use Rattle.round.proofs.Step.{content_read, content_in, Readable}

-- ---- the bytes m of a record h over a table
-- an acceptor message
pub vote_read : (t : Table) (h : Held) (m : List ℕ) → T (not (offered h)) → Readable m → content_of t h ≡ content_in m
    → (f : AcceptorMessage) × (reading m ≡ Ok (OfAcceptor f)) × (f.signer ≡ held_signer h) × (previous_id m f ≡ held_previous h)
unfolding content_of held_signer held_previous offered
vote_read t (offers i s b) m is readable e = absurd is
vote_read t (says i s p l) m is readable e = step (reading m) refl
  where
    step : (x : Reading) → reading m ≡ x → (f : AcceptorMessage) × (reading m ≡ Ok (OfAcceptor f)) × (f.signer ≡ s) × (previous_id m f ≡ p)
    step (Ok (OfProposer f)) d =
        let both : joint s p (ids_at t l) ≡ plain f.proposer f.ballot = e ∙ ap (content_read m) d in
        let z : ◌≡◌ {A = ℕ} 0 1 = cc in
        absurd (omega arith)
    step (Ok (OfAcceptor f)) d =
        let both : joint s p (ids_at t l) ≡ joint f.signer (previous_id m f) (reference_ids m f) = e ∙ ap (content_read m) d in
        (f, d, cc, cc)
    step (Err r) d = absurd (readable r d)

-- a proposal
unfoldable pub held_ballot : Held → ℕ
held_ballot (offers i s b) = b
held_ballot (says i s p l) = 0

pub node_proposed : (f : ℕ → Message) (h : Held) → proposed (node_by f h) ≡ held_ballot h
unfolding node_by proposed held_ballot
node_proposed f (offers i s b) = refl
node_proposed f (says i s p l) = refl

pub proposal_read : (t : Table) (h : Held) (m : List ℕ) → T (offered h) → Readable m → content_of t h ≡ content_in m
    → (f : Proposal) × (reading m ≡ Ok (OfProposer f)) × (f.ballot ≡ held_ballot h)
unfolding content_of held_ballot offered
proposal_read t (says i s p l) m is readable e = absurd is
proposal_read t (offers i s b) m is readable e = step (reading m) refl
  where
    step : (x : Reading) → reading m ≡ x → (f : Proposal) × (reading m ≡ Ok (OfProposer f)) × (f.ballot ≡ b)
    step (Ok (OfProposer f)) d = let both : plain s b ≡ plain f.proposer f.ballot = e ∙ ap (content_read m) d in (f, d, cc)
    step (Ok (OfAcceptor f)) d =
        let both : plain s b ≡ joint f.signer (previous_id m f) (reference_ids m f) = e ∙ ap (content_read m) d in
        let z : ◌≡◌ {A = ℕ} 0 1 = cc in
        absurd (omega arith)
    step (Err r) d = absurd (readable r d)

-- ---- the answer of a report
told_decided : (t : Bool) (v : Verdict) (x : ℕ) → pick t (Err Argument) (Ok (told v)) ≡ Ok (answer.Decided x) → T (not t) × (v ≡ decided x)
told_decided true v x e = let z : ◌≡◌ {A = ℕ} 0 1 = cc in absurd (omega arith)
told_decided false undecided x e = let z : ◌≡◌ {A = ℕ} 0 1 = cc in absurd (omega arith)
told_decided false (decided y) x e = (tt, cc)
told_decided false (split y w) x e = let z : ◌≡◌ {A = ℕ} 0 1 = cc in absurd (omega arith)

told_split : (t : Bool) (v : Verdict) (x y : ℕ) → pick t (Err Argument) (Ok (told v)) ≡ Ok (answer.Split x y) → v ≡ split x y
told_split true v x y e = let z : ◌≡◌ {A = ℕ} 0 1 = cc in absurd (omega arith)
told_split false undecided x y e = let z : ◌≡◌ {A = ℕ} 0 1 = cc in absurd (omega arith)
told_split false (decided w) x y e = let z : ◌≡◌ {A = ℕ} 0 1 = cc in absurd (omega arith)
told_split false (split w v) x y e = cc

module _ (r : Round) (a : ℕ) where
  pub decided_report : (x : ℕ) → reported r a ≡ Ok (answer.Decided x) → (a < r.graph.learners) × (protocol.report (graph_of r) (known_messages r) a ≡ decided x)
  unfolding reported
  decided_report x e =
      let (t, d) = told_decided (not (fits r) || leb r.graph.learners a) (protocol.report (graph_of r) (known_messages r) a) x e in
      (nleb→lt r.graph.learners a (second (not (fits r)) (leb r.graph.learners a) t), d)
    where
      second : (p q : Bool) → T (not (p || q)) → T (not q)
      second true q h = absurd h
      second false q h = h

  pub split_report : (x y : ℕ) → reported r a ≡ Ok (answer.Split x y) → protocol.report (graph_of r) (known_messages r) a ≡ split x y
  unfolding reported
  split_report x y e = told_split (not (fits r) || leb r.graph.learners a) (protocol.report (graph_of r) (known_messages r) a) x y e
