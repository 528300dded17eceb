use mathlib.Core.Path.{sym, ap, ◌∙◌}
use mathlib.Core.Bool.{Bool, ◌&&◌}
use lib.Dec.{eqb}
use lib.ListN.{get_or}
use Rattle.base.specs.Tests.{any, below}
use Rattle.base.specs.Sets.{has}
use Rattle.base.proofs.Tests.{any_cong, below_out}
use Rattle.graph.specs.LearnerGraph.{is_quorum}
use Rattle.graph.proofs.LearnerGraph.{quorum_cong}
use Rattle.graph.specs.Memory.{view_of}
use Rattle.roundbytes.specs.Layout.{round_in}
use Rattle.notes.specs.Inside.Layout.{word_notes, byte_notes}
use Rattle.places.proofs.Membership.{has_zero}
use Rattle.places.proofs.Loops.{put_again, any_done, any_none}
use Rattle.voting.specs.Inside.Votes.{backed_by}
use native.Mathlib.Omega.{arith}
use Rattle.voting.proofs.learners.learners_for.Goals as goal

pub returns-then-k-eq0 : goal.returns-then-k-eq0
returns-then-k-eq0 c =
    let a = c.args in
    let r = round_in a.s.now in
    let y = word_notes a.notes.now.words in
    let z = byte_notes a.notes.now.octets in
    let g = view_of a.graph.now in
    λ q. has_zero q ∙ sym (any_none (λ x. is_quorum g x (backed_by r y z a.n a.set.low a.set.high a.ballot x) && eqb x q) a.k (λ x h t. let e = c.if-k-eq0.true in omega arith))

pub loop-a-init : goal.loop-a-init
unfolding any below
loop-a-init c = (omega arith, λ q. has_zero q)

pub loop-a-preserved : goal.loop-a-preserved
loop-a-preserved c =
    let a = c.args in
    let l = c.loop-a in
    let g = view_of a.graph.now in
    let sets = c.backers-sets.result in
    (omega arith, λ q. put_again (λ x. is_quorum g x (has (get_or sets x 0))) (λ x. x) l.a q c.is_quorum-on.result _ _ (c.with_learner-mask.ensures q) c.is_quorum-on.ensures.own (l.invariant.1 q))

pub returns : goal.returns
returns c =
    let a = c.args in
    let r = round_in a.s.now in
    let y = word_notes a.notes.now.words in
    let z = byte_notes a.notes.now.octets in
    let g = view_of a.graph.now in
    let l = c.loop-a in
    let sets = c.backers-sets.result in
    let few = c.requires.0 in
    λ q. l.invariant.1 q ∙ any_done (λ x. is_quorum g x (has (get_or sets x 0)) && eqb x q) l.a a.k l.invariant.0 c.loop-a-test.false ∙ any_cong _ _ (below a.k) (λ x m. ap (λ (t : Bool). t && eqb x q) (quorum_cong g x _ _ (λ p h. c.backers-sets.ensures.1 x p (below_out a.k m) (omega arith))))
