use mathlib.Core.Path.{◌∙◌, ◌≡◌, ap}
use borrow.Author.Tests.{ne_eqb}
use lib.ListN.{get_or, set}
use native.Mathlib.Omega.{arith}
use Rattle.roundbytes.specs.Layout.{round_in}
use Rattle.message.specs.Layout.{proposal_kind}
use Rattle.roundbytes.proofs.InPlace.{one_next, unwritten, round_then, of_parts}
use Rattle.round.specs.Delivery.{with_recent}
use Rattle.round.specs.Round.{Round}
use Rattle.holding.proofs.hold.joined.Goals as goal

pub returns : goal.returns
returns c =
    let a = c.args in
    let s = a.s.now in
    let n = c.requires.0 in
    let t = c.put8.new.buf in
    let w = one_next s s t 11 a.place 1 n (unwritten s) c.put8.ensures c.requires.1 (omega arith) in
    let e : round_in t ≡ with_recent (round_in s) (round_in s).last (set (round_in s).recent a.place 1) =
    round_then s t n w ∙ ap (λ (r : Round). with_recent r r.last (set r.recent a.place 1)) (of_parts s n) in
    record { held = simp (ne_eqb (get_or (round_in s).kinds a.place 0) proposal_kind (λ q. c.if-kind_at-eq-PROPOSAL.false (c.kind_at.ensures ∙ q))) e; kept = w.kept }
