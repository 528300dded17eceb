use mathlib.Core.Path.{◌≡◌, ap, subst, ◌∙◌}
use mathlib.Core.Bool.{◌&&◌}
use mathlib.Core.List.{List}
use Prim.Native.Nat.{ℕ, ◌≤◌, ◌<◌}
use native.Mathlib.Omega.{arith}
use lib.Dec.{eqb}
use lib.ListN.{get_or}
use Rattle.base.specs.Tests.{◌∈◌, any, below}
use Rattle.base.proofs.Tests.{entry_below}
use Rattle.base.specs.Sets.{has}
use Rattle.graph.specs.declared.Graph.{Graph}
use Rattle.graph.specs.LearnerGraph.{is_quorum}
use Rattle.graph.specs.Memory.{view_of}
use Rattle.protocol.proofs.Growth.{length_tabulate}
use Rattle.round.specs.Limits.{max_held}
use Rattle.round.specs.Holdings.{graph_of, named, record_at, table_of}
use Rattle.roundbytes.specs.Layout.{round_in}
use Rattle.notes.specs.Inside.Layout.{word_notes, byte_notes}
use Rattle.voting.specs.Inside.Votes.{backed_by}
use Rattle.meaning.proofs.Working.{first_judged, second_judged}
use Rattle.meaning.proofs.Naming.{candidate, previous_law}
use Rattle.scan.specs.Inside.Arrays.{is_crowding, is_repeat, Lowest}
use Rattle.derive.proofs.new.judge.Goals as goal

-- what refers to held messages refers to places of a round
referred : (places : List ℕ) (n : ℕ) → n ≤ max_held → ((j : ℕ) → j ∈ places → j < n) → (i : ℕ) → get_or places i 0 < max_held
referred places n most earlier = entry_below places max_held (omega arith) (λ j m. let e = earlier j m in omega arith)

pub under-u-requires : goal.under-u-requires
under-u-requires c =
    let a = c.args in
    let pre = c.requires in
    (pre.given.graphed.long, referred a.places.now (round_in a.s.now).held pre.given.fit.held pre.earlier)

pub returns-then-u : goal.returns-then-u
returns-then-u c =
    let a = c.args in
    let pre = c.requires in
    let r = round_in a.s.now in
    let x = word_notes a.notes.now.words in
    let y = byte_notes a.notes.now.octets in
    let under = c.under-u in
    let u = under.result in
    let name = c.name_of-name in
    let n = c.held_of-held in
    let few = pre.given.fit.held in
    λ signer.
    let ca = candidate r r.held r.held pre.given.fit (omega arith) y pre.complete.named a.id.now name.result a.previous a.places.now (subst (λ (k : ℕ). Lowest r k a.id.now name.result) n.ensures.0 name.ensures) pre.linked pre.earlier in
    first_judged (graph_of r) (table_of r) r x y a.places.now pre.complete.known a.id.now signer (named r a.previous) r.held (length_tabulate r.held (record_at r)) few ca.earlier
    u.set.low u.set.high u.ballot u.offered under.ensures name.result (get_or y.names a.previous 0) ca c.is_crowded-crowded.result
    (c.is_crowded-crowded.ensures ∙ ap (λ (k : ℕ). any (is_crowding r x y u.set.low u.set.high name.result u.ballot) (below k)) n.ensures.0) c.if-u.true

pub is_repeated-repeated-requires : goal.is_repeated-repeated-requires
is_repeated-repeated-requires c =
    let a = c.args in
    let pre = c.requires in
    referred a.places.now (round_in a.s.now).held pre.given.fit.held pre.earlier

pub returns : goal.returns
returns c =
    let a = c.args in
    let pre = c.requires in
    let r = round_in a.s.now in
    let x = word_notes a.notes.now.words in
    let y = byte_notes a.notes.now.octets in
    let under = c.under-u in
    let u = under.result in
    let n = c.held_of-held in
    let l = c.learners_of-l in
    let mask = c.learners_for-learned in
    let link = c.name_at-link.ensures ∙ ap (λ (k : ℕ). get_or y.names k 0) c.from.ensures in
    let learned = subst (λ (g : Graph). (q : ℕ) → has mask.result q ≡ any (λ d. is_quorum (view_of g) d (backed_by r x y n.result u.set.low u.set.high u.ballot d) && eqb d q) (below l.result)) pre.given.graphed.same mask.ensures in
    let few = pre.given.fit.held in
    let size = length_tabulate r.held (record_at r) in
    λ signer.
    second_judged (graph_of r) (table_of r) r x y a.places.now pre.complete.known a.id.now signer (named r a.previous) r.held size few (λ j m. let e = pre.earlier j m in omega (arith, e, size))
    u.set.low u.set.high u.ballot u.offered under.ensures mask.result
    (λ q. learned q ∙ ap (λ (k : ℕ). any (λ d. is_quorum (graph_of r) d (backed_by r x y k u.set.low u.set.high u.ballot d) && eqb d q) (below l.result)) n.ensures.0
    ∙ ap (λ (k : ℕ). any (λ d. is_quorum (graph_of r) d (backed_by r x y r.held u.set.low u.set.high u.ballot d) && eqb d q) (below k)) l.ensures.0) c.if-u.false
    (get_or y.names a.previous 0) (previous_law r r.held few y pre.complete.named a.previous pre.linked) c.is_repeated-repeated.result
    (c.is_repeated-repeated.ensures ∙ ap (λ (k : ℕ). any (is_repeat x y k u.ballot mask.result) a.places.now) link)
