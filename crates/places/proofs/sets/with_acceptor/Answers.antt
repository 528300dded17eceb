use mathlib.Core.Path.{ap, sym, ◌∙◌}
use mathlib.Core.Bool.{Bool, ◌&&◌, ◌||◌}
use lib.Dec.{eqb, ltb}
use Rattle.base.specs.Sets.{has}
use Rattle.places.proofs.Membership.{has_with, both}
use borrow.Author.Tests.{ltb-true}
use Rattle.graph.specs.Limits.{mask_bits}
use Rattle.places.proofs.sets.with_acceptor.Goals as goal

pub returns-then-on-p : goal.returns-then-on-p
returns-then-on-p c = let a = c.args in let e = both a.on (ltb a.p mask_bits) c.if-on-p.true in λ q l. has_with mask_bits a.mask a.p q (ltb-true a.p mask_bits e.1) ∙ sym (ap (λ (b : Bool). (b && eqb a.p q) || has a.mask q) e.0)
