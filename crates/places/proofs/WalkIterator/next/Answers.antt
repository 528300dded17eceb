use mathlib.Core.Path.{ap}
use native.Mathlib.Omega.{arith}
use borrow.Author.Rules.{rules}
use lib.ListN.{length}
use Rattle.places.proofs.Walks.{goes_on, goes_out}
use Rattle.places.proofs.WalkIterator.next.Goals as goal

pub returns-then-j-self-clause-steps : goal.returns-then-j-self-clause-steps
returns-then-j-self-clause-steps c =
    let w = c.args.self.now in
    let t = c.without_first-self in
    goes_on w.n w.rest.low w.rest.high t.result.low t.result.high c.first_below-j.result c.first_below-j.ensures c.if-j-self.true t.ensures

pub returns-then-j-self-clause-goes : goal.returns-then-j-self-clause-goes
returns-then-j-self-clause-goes c =
    let w = c.args.self.now in
    let t = c.without_first-self in
    let e = goes_on w.n w.rest.low w.rest.high t.result.low t.result.high c.first_below-j.result c.first_below-j.ensures c.if-j-self.true t.ensures in
    let l = ap length e in
    record { on = λ f. (search rules, search rules, omega (arith, l)); keeps = search rules; rests = search rules }

pub returns-clause-steps : goal.returns-clause-steps
returns-clause-steps c =
    let w = c.args.self.now in
    let e = goes_out w.n w.rest.low w.rest.high 0 0 c.first_below-j.result c.first_below-j.ensures c.if-j-self.false in
    (e, e)
