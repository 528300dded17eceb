use Rattle.meaning.proofs.Giving.{given_of}
use mathlib.Core.Path.{subst, refl}
use Prim.Native.Nat.{ℕ, ◌≤◌}
use native.Mathlib.Omega.{arith}
use Rattle.answering.proofs.Replying.{process_listening, process_voting}
use Rattle.digest.specs.Sha256.{sha256}
use Rattle.round.specs.Limits.{listening}
use Rattle.roundbytes.specs.Layout.{round_in}
use Rattle.answering.specs.Inside.Giving.{left}
use Rattle.answering.proofs.answer.process_offer.Goals as goal

pub returns-then-own_of-ge-LISTENING : goal.returns-then-own_of-ge-LISTENING
returns-then-own_of-ge-LISTENING c =
    let a = c.args in
    let o = c.own_of.ensures in
    record { given = process_listening sha256 a.s.now a.p a.reply.now (subst (λ (n : ℕ). listening ≤ n) o c.if-own_of-ge-LISTENING.true); kept = (refl, refl) }

pub work_out-requires : goal.work_out-requires
work_out-requires c =
    let a = c.args in
    let p = c.requires in
    given_of a.s.now _ p.passes.long c.graph_in-graph.ensures p.passes.fit

pub returns : goal.returns
returns c =
    let a = c.args in
    let r = round_in a.s.now in
    let o = c.own_of.ensures in
    let x = c.answer in
    record { given = process_voting sha256 r a.p (left x.result x.new.s) a.reply.now x.new.reply (omega (arith, c.if-own_of-ge-LISTENING.false)) x.ensures.given; kept = x.ensures.kept }
