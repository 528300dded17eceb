use mathlib.Core.Path.{ap, subst, ◌∙◌}
use Prim.Native.Nat.{◌≤◌}
use Rattle.graph.specs.declared.Graph.{Graph}
use Rattle.graph.specs.Limits.{mask_bits}
use Rattle.graph.specs.LearnerGraph.{is_quorum}
use Rattle.graph.specs.Memory.{view_of}
use Rattle.base.specs.Sets.{has}
use Rattle.graph.proofs.LearnerGraph.{quorum_cong}
use Rattle.round.specs.Holdings.{graph_of}
use Rattle.roundbytes.specs.Layout.{round_in}
use Rattle.notes.specs.Inside.Layout.{word_notes, byte_notes}
use Rattle.deciding.specs.Inside.Deciding.{voters_for}
use native.Mathlib.Omega.{arith}
use Rattle.deciding.proofs.report.is_decided.Goals as goal

pub returns : goal.returns
returns c =
    let start = c in
    let a = start.args in
    let r = round_in a.s.now in
    let x = word_notes a.notes.now.words in
    let y = byte_notes a.notes.now.octets in
    let g = start.requires.0.graphed in
    let few = subst (λ (h : Graph). h.acceptors ≤ mask_bits) g.same g.acceptors in
    c.is_quorum.ensures.own ∙ ap (λ (h : Graph). is_quorum (view_of h) a.a (has c.voters-set.result)) g.same ∙ quorum_cong (graph_of r) a.a (has c.voters-set.result) (voters_for r x y a.a a.x) (λ p h. c.voters-set.ensures p (omega arith))
