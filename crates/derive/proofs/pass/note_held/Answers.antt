use mathlib.Core.Path.{sym, subst, ◌∙◌}
use Prim.Native.Nat.{ℕ, suc}
use lib.ListN.{get_or}
use borrow.Author.Tests.{eq-eqb}
use Rattle.message.specs.Layout.{proposal_kind}
use Rattle.round.specs.Holdings.{graph_of}
use Rattle.roundbytes.specs.Layout.{round_in}
use Rattle.meaning.specs.Inside.Records.{table_to}
use Rattle.meaning.specs.Inside.Notes.{Noted}
use Rattle.meaning.proofs.Passing.{held_noted, offer_noted}
use Rattle.derive.proofs.pass.note_held.Goals as goal

pub returns-then-kind_at-eq-PROPOSAL : goal.returns-then-kind_at-eq-PROPOSAL
returns-then-kind_at-eq-PROPOSAL c =
    let a = c.args in
    let pre = c.requires in
    let r = round_in a.s.now in
    let alone = c.with-alone in
    let off = eq-eqb (get_or r.kinds a.p 0) proposal_kind (sym c.kind_at.ensures ∙ c.if-kind_at-eq-PROPOSAL.true) in
    λ names kn. subst (λ (z : ℕ). Noted (graph_of r) (table_to r (suc a.p)) a.p alone.result.low alone.result.high 0 0 z 0 0 0) (sym c.ballot_at.ensures)
    (offer_noted (graph_of r) r r.held pre.0.given.fit a.p pre.1 off alone.result.low alone.result.high alone.ensures)

pub returns : goal.returns
returns c =
    let a = c.args in
    let pre = c.requires in
    let r = round_in a.s.now in
    let whole = c.with-beneath in
    λ names kn. held_noted (graph_of r) r r.held pre.0.given.fit a.p pre.1 c.step-r.result (c.step-r.ensures names kn) whole.result.low whole.result.high whole.ensures
