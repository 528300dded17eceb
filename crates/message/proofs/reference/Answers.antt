use mathlib.Core.Path.{◌≡◌, ap, sym, ◌∙◌}
use Rattle.std.proofs.Common.{Result, Ok}
use Rattle.base.specs.declared.refusal.Refusal.{Refusal}
use Rattle.message.specs.declared.Message.{Message}
use Rattle.message.specs.declared.Message.TheVariants.{OfAcceptor}
use Rattle.message.specs.Reader.{reading, nth_of, reference_of}
use Rattle.message.proofs.Checks.{nth_of_acceptor}
use Rattle.message.proofs.reference.Goals as goal

pub returns-in-OfAcceptor : goal.returns-in-OfAcceptor
returns-in-OfAcceptor c =
    let n = c.args.n in
    let m = c.in-OfAcceptor.m in
    let read : reading c.args.bytes.now ≡ Ok (OfAcceptor m) = sym c.in_ok-read.ensures ∙ ap (λ (x : Message). Ok x) c.in-OfAcceptor.is in
    let ids = c.new.ensures in
    c.nth.ensures ∙ (λ i. nth_of (ids.0 i).now (ids.1 i) n) ∙ nth_of_acceptor c.args.bytes.now m n read
    ∙ ap (λ (x : Result Message Refusal). reference_of x n) (sym read)
