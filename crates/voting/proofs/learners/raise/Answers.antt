use mathlib.Core.Path.{ap₂, sym, ◌∙◌}
use mathlib.Core.Bool.{not, ◌&&◌}
use Prim.Native.Nat.{ℕ}
use lib.Dec.{eqb, ltb}
use borrow.Author.Tests.{lt-ltb, le-ltb, eq-eqb, ne_eqb}
use Rattle.base.specs.Ballots.{value_of}
use Rattle.voting.specs.Inside.Votes.{raised}
use Rattle.voting.proofs.learners.raise.Goals as goal

pub returns-then-value : goal.returns-then-value
unfolding raised
returns-then-value c = let p = c.args.p in let x = c.args.x in sym (simp (lt-ltb p.best x c.if-best-x.true, eq-eqb (value_of x) (value_of p.best) (sym c.value.ensures ∙ c.if-value.true ∙ c.value-then-best-x.ensures)))

pub returns-then-best-x : goal.returns-then-best-x
unfolding raised
returns-then-best-x c = let p = c.args.p in let x = c.args.x in sym (simp (lt-ltb p.best x c.if-best-x.true, ne_eqb (value_of x) (value_of p.best) (λ e. c.if-value.false (c.value.ensures ∙ e ∙ sym c.value-then-best-x.ensures))))

pub returns-then-other-x : goal.returns-then-other-x
unfolding raised
returns-then-other-x c = let p = c.args.p in let x = c.args.x in let e = sym (ap₂ (λ (u v : ℕ). ltb p.other x && not (eqb u v)) c.value-2.ensures c.value-3.ensures) ∙ c.if-other-x.true in sym (simp (le-ltb p.best x c.if-best-x.false, e))

pub returns : goal.returns
unfolding raised
returns c = let p = c.args.p in let x = c.args.x in let e = sym (ap₂ (λ (u v : ℕ). ltb p.other x && not (eqb u v)) c.value-2.ensures c.value-3.ensures) ∙ c.if-other-x.false in sym (simp (le-ltb p.best x c.if-best-x.false, e))
