use mathlib.Core.Path.{◌≡◌, sym, ap, subst, transport, ◌∙◌}
use mathlib.Core.Bool.{Bool, not, ◌&&◌, ◌||◌}
use mathlib.Core.List.{List, [], ◌∷◌, ◌++◌}
use Prim.Native.Nat.{ℕ, ◌+◌, ◌-◌, ◌*◌, ◌≤◌, ◌<◌}
use lib.Dec.{eqb}
use lib.ListN.{get_or, take, drop}
use Rattle.base.specs.Tests.{◌∈◌, pick, any, below}
use Rattle.base.specs.Sets.{has}
use Rattle.base.proofs.Tests.{entry_below}
use Rattle.graph.specs.LearnerGraph.{is_quorum, safe_without}
use Rattle.graph.specs.Memory.{view_of}
use Rattle.graph.specs.Limits.{mask_bits}
use Rattle.graph.specs.declared.Graph.{Graph}
use Rattle.voting.specs.Inside.Votes.{backed_by}
use Rattle.protocol.specs.Table.{says}
use Rattle.protocol.proofs.Growth.{length_tabulate}
use Rattle.round.specs.Limits.{max_held}
use Rattle.round.specs.Holdings.{graph_of, id_at, named, record_at}
use Rattle.roundbytes.specs.Layout.{references_at, round_in}
use Rattle.notes.specs.declared.Worked.{Worked}
use Rattle.notes.specs.Inside.Layout.{word_notes, byte_notes}
use Rattle.meaning.specs.Inside.Records.{table_to}
use Rattle.meaning.specs.Inside.Notes.{Candidate, Told}
use Rattle.meaning.proofs.Working.{told}
use Rattle.meaning.proofs.Passing.{lent_references, held_candidate, held_told}
use Rattle.meaning.proofs.Walking.{covers_caught}
use native.Mathlib.Omega.{arith}
use Rattle.meaning.proofs.step.step.Goals as goal

pub under-u-requires : goal.under-u-requires
under-u-requires c =
    let a = c.args in
    let pre = c.requires in
    let g = pre.0.given in
    let few = g.fit.held in
    let l = pre.1.0 in
    let n = c.from in
    let e : n.result ≡ get_or (round_in a.s.now).counts a.p 0 = n.ensures ∙ c.count_at.ensures in
    let most = g.fit.count a.p l in
    let same = lent_references a.s.now a.p n.result g.graphed.long (omega (arith, few, l)) (omega (arith, most, e)) e in
    let each : (j : ℕ) → j ∈ (take (references_at + max_held * a.p + n.result - (references_at + max_held * a.p)) (drop (references_at + max_held * a.p) a.s.now)) → j < max_held = λ j m. let z = g.fit.back a.p l pre.1.1 j (subst (λ (q : List ℕ). j ∈ q) same m) in omega arith in
    (g.graphed.long, entry_below (take (references_at + max_held * a.p + n.result - (references_at + max_held * a.p)) (drop (references_at + max_held * a.p) a.s.now)) max_held (omega arith) each)

pub caught_in-others-requires : goal.caught_in-others-requires
caught_in-others-requires c =
    let a = c.args in
    let pre = c.requires in
    let g = pre.0.given in
    let few = g.fit.held in
    let l = pre.1.0 in
    let r = round_in a.s.now in
    let x = word_notes a.notes.now.words in
    let y = byte_notes a.notes.now.octets in
    let u = c.under-u.result in
    let w = c.walks_for-walks in
    (g.graphed.long, record { few = omega arith; covers = covers_caught a.p r x y (omega arith) pre.0.marked u.set.low u.set.high u.ballot c.signer_at-signer.result c.name_at-link.result w.result w.ensures })

pub returns : goal.returns
returns c =
    let a = c.args in
    let pre = c.requires in
    let g = pre.0.given in
    let few = g.fit.held in
    let l = pre.1.0 in
    let r = round_in a.s.now in
    let x = word_notes a.notes.now.words in
    let y = byte_notes a.notes.now.octets in
    let n = c.from in
    let most = g.fit.count a.p l in
    let ps = take (references_at + max_held * a.p + n.result - (references_at + max_held * a.p)) (drop (references_at + max_held * a.p) a.s.now) in
    let ec : n.result ≡ get_or r.counts a.p 0 = n.ensures ∙ c.count_at.ensures in
    let eps = lent_references a.s.now a.p n.result g.graphed.long (omega (arith, few, l)) (omega (arith, most, ec)) ec in
    let at = c.from-2 in
    let ey = at.ensures ∙ c.previous_at.ensures in
    let u = c.under-u.result in
    let sig = c.signer_at-signer in
    let name = c.name_at-name in
    let link = c.name_at-link in
    let forks = c.forking-forks in
    let others = c.caught_in-others in
    let caught = c.with_acceptor-caught in
    let learners = c.learners_of-l in
    let firsts = c.count_if-firsts in
    let v = c.value-v in
    let against = c.opposing-against in
    let free = c.fresh_for-free in
    let seconds = c.count_if-seconds in
    let learned = c.learners_for-learned in
    let fresh = subst (λ (h : Graph). (q : ℕ) → has free.result q ≡ any (λ d. not (any (λ e. safe_without (view_of h) d e (has caught.result) && has against.result e) (below learners.result)) && eqb d q) (below firsts.result)) g.graphed.same free.ensures in
    let t = table_to r a.p in
    let worked : Worked = record { beneath = u.set; forks = record { low = forks.result.low; high = forks.result.high }; ballot = u.ballot; learners = learned.result; fresh = free.result; form = c.form_of.result } in
    λ names kn.
    let ca : Candidate t r y ps (id_at r a.p) (named r at.result) name.result link.result =
    transport (λ i. Candidate t r y ps (id_at r a.p) (named r at.result) (sym name.ensures i) (sym link.ensures i)) (held_candidate r r.held g.fit a.p l pre.1.1 y names at.result ey ps eps) in
    let all : Told (graph_of r) (t ++ says (id_at r a.p) sig.result (named r at.result) ps ∷ []) a.p worked =
    told (graph_of r) t r x y ps kn (id_at r a.p) sig.result (named r at.result) a.p (length_tabulate a.p (record_at r)) (omega arith) ca.earlier
    u.set.low u.set.high u.ballot u.offered c.under-u.ensures name.result link.result ca
    forks.result.low forks.result.high others.result caught.result against.result free.result learned.result firsts.result seconds.result v.result c.form_of.result
    (subst (λ (h : Graph). h.acceptors ≤ mask_bits) g.graphed.same g.graphed.acceptors) forks.ensures others.ensures
    (λ q h. caught.ensures q h ∙ ap (λ (z : Bool). (z && eqb sig.result q) || has others.result q) c.meets.ensures)
    (firsts.ensures.0 ∙ ap (λ (z : ℕ). pick u.offered z 0) learners.ensures.0) v.ensures against.ensures
    (λ q. fresh q ∙ ap (λ (z : ℕ). any (λ d. not (any (λ e. safe_without (graph_of r) d e (has caught.result) && has against.result e) (below z)) && eqb d q) (below firsts.result)) learners.ensures.0)
    (seconds.ensures.0 ∙ ap (λ (z : ℕ). pick (not u.offered) z 0) learners.ensures.0)
    (subst (λ (h : Graph). (q : ℕ) → has learned.result q ≡ any (λ d. is_quorum (view_of h) d (backed_by r x y a.p u.set.low u.set.high u.ballot d) && eqb d q) (below seconds.result)) g.graphed.same learned.ensures)
    c.form_of.ensures in
    held_told (graph_of r) r r.held g.fit a.p pre.1.1 at.result ey ps eps worked
    (subst (λ (z : ℕ). Told (graph_of r) (t ++ says (id_at r a.p) z (named r at.result) ps ∷ []) a.p worked) sig.ensures all)
