-- Theorem 21 over a list: the ballot of a decided report is that of an accepted proposal.
use mathlib.Core.Path.{◌≡◌, sym, ap, subst, ◌∙◌}
use mathlib.Core.Logic.{◌⊎◌, inl, inr}
use mathlib.Core.Bool.{not}
use mathlib.Core.List.{List}
use Prim.Native.Nat.{ℕ, ◌≤◌, ◌<◌}
use native.Mathlib.Omega.{arith}
use lib.Dec.{T, T_not}
use Rattle.std.specs.Prelude.{Ok}
use Rattle.base.specs.Tests.{◌∈◌}
use Rattle.graph.specs.Memory.{view_of}
use Rattle.graph.specs.declared.Graph.{Graph}
use Rattle.message.specs.Reader.{reading}
use Rattle.message.specs.declared.Proposal.{Proposal}
use Rattle.message.specs.declared.Message.TheVariants.{OfProposer}
use Rattle.protocol.specs.Ids.{Id}
use Rattle.protocol.specs.Message.{Message, is_proposal, proposed, tran, ballot}
use Rattle.protocol.specs.Report.{decided}
use Rattle.protocol.specs.Table.{at, offered, tree}
use Rattle.protocol.specs.Equations.{Peopled}
use Rattle.protocol.proofs.Ballot.{ballot_proposal}
use Rattle.protocol.proofs.Report.{report_law}
use Rattle.protocol.proofs.Validity.{validity}
use Rattle.protocol.proofs.Table.{tree_is, tree_proposal, tran_places, reach_le}
use Rattle.protocol.proofs.Tables.{messages_out}
use Rattle.round.specs.Round.{Round}
use Rattle.round.specs.declared.Report.TheVariants.{Decided}
use Rattle.round.specs.Holdings.{graph_of, table_of, known_places, known_messages}
use Rattle.round.specs.Report.{reported}
use Rattle.round.specs.Answers.{Page}
use Rattle.round.specs.Lists.{run, last_round, accepted, written}
use Rattle.round.specs.Demands.{ValidityOverLists}
use Rattle.round.proofs.CallLaws.{CallLaws}
use Rattle.round.proofs.Canonical.{table_size}
use Rattle.round.proofs.Kept.{Source}
use Rattle.round.proofs.Reached.{Reached}
use Rattle.round.proofs.Answers.{decided_page}
use Rattle.round.proofs.Lists.{Stands}
use Rattle.round.proofs.Known.{known_out, reached_last, page_in_list}
use Rattle.round.proofs.Bytes.{held_ballot, node_proposed, proposal_read, decided_report}

-- a proposal of ballot x was accepted
abbrev Offered : List (List ℕ) → ℕ → Type 0
Offered A x = (m : List ℕ) × (m ∈ A) × ((f : Proposal) × (reading m ≡ Ok (OfProposer f)) × (f.ballot ≡ x))

module _ {H : List ℕ → Id} {A W : List (List ℕ)} {s : Round} (reached : Reached H A W s) where
  -- a held proposal was accepted
  held_offered : (j : ℕ) → j < s.held → T (is_proposal (tree (table_of s) j)) → Offered A (ballot (tree (table_of s) j))
  held_offered j l t = step (reached.kept.source j (omega (arith, table_size s)))
    where
      offers' : T (offered (at (table_of s) j))
      offers' = subst T (tree_proposal (table_of s) j) t

      ballots : ballot (tree (table_of s) j) ≡ held_ballot (at (table_of s) j)
      ballots =
          ballot_proposal (tree (table_of s) j) t
          ∙ ap proposed (tree_is (table_of s) reached.kept.ordered j)
          ∙ node_proposed (tree (table_of s)) (at (table_of s) j)

      in_a : {b : List ℕ} → (b ∈ A) ⊎ ((b ∈ W) × T (not (offered (at (table_of s) j)))) → b ∈ A
      in_a (inl i) = i
      in_a (inr (_, no')) = absurd (T_not (offered (at (table_of s) j)) no' offers')

      step : Source H A W (table_of s) (at (table_of s) j) → Offered A (ballot (tree (table_of s) j))
      step c =
          let (f, d, e) = proposal_read (table_of s) (at (table_of s) j) c.bytes offers' c.readable c.content in
          (c.bytes, in_a c.from, (f, d, e ∙ sym ballots))

  -- what is decided was proposed
  decided_offered : (a x : ℕ) → Peopled (graph_of s) a → reported s a ≡ Ok (Decided x) → Offered A x
  decided_offered a x peopled e =
      let dec = ((report_law (graph_of s) (known_messages s) a (decided x)).0 (decided_report s a x e).1).0.0.0 in
      let (m, k, (y, i, t, b, _)) = validity (graph_of s) a peopled (known_messages s) x dec in
      let (p, known, d) = messages_out (table_of s) (known_places s) m k in
      let (j, down, c) = (tran_places (table_of s) reached.kept.ordered p y).0 (subst (λ (n : Message). y ∈ tran n) d i) in
      let lower : j ≤ p = reach_le (table_of s) reached.kept.ordered p j down in
      subst (Offered A) (ap ballot (sym c) ∙ b)
      (held_offered j (omega (arith, (known_out s p known).0)) (subst (λ (n : Message). T (is_proposal n)) c t))

pub validity_over_lists : CallLaws → ValidityOverLists
validity_over_lists laws H rule file house bay own r starts l a p m d =
    let fresh = laws.opening file house bay own r starts in
    let stands : Stands H (accepted (run H r l)) (written (run H r l)) a p (last_round H r l) = page_in_list laws rule starts l a p m in
    let x = reported stands.round a in
    let e : x ≡ Ok (Decided p.least) = decided_page x stands.taken (sym (ap (λ (q : Page). q.state) stands.shows) ∙ d) ∙ ap (λ (q : Page). Ok (Decided q.least)) (sym stands.shows) in
    let graph : r.graph ≡ stands.round.graph = (reached_last laws rule starts l).1.same.graph ∙ sym stands.until.same.graph in
    let learner : a < stands.round.graph.learners = (decided_report stands.round a p.least e).0 in
    decided_offered stands.reached a p.least
    (subst (λ (g : Graph). a < g.learners → Peopled (view_of g) a) graph (fresh.peopled a) learner) e
