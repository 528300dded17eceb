use mathlib.Core.Path.{◌≡◌, refl, sym, ap, ap₂, ◌∙◌}
use mathlib.Core.Bool.{Bool, true, false, ◌&&◌}
use Prim.Native.Nat.{ℕ}
use lib.ListN.{get_or}
use Rattle.base.specs.Tests.{pick}
use Rattle.graph.specs.LearnerGraph.{is_quorum}
use Rattle.round.specs.Holdings.{graph_of}
use Rattle.roundbytes.specs.Layout.{round_in}
use Rattle.notes.specs.Inside.Layout.{word_notes, byte_notes}
use Rattle.std.proofs.Common.{Option, Some}
use Rattle.deciding.specs.Inside.Deciding.{is_known2a, voters_for, is_other, is_under, lowered}
use Rattle.deciding.proofs.report.lower.Goals as goal

-- the quorum put last
quorum_last : (k q o l : Bool) → (k && q && o && l) ≡ (k && o && l && q)
quorum_last false q o l = refl
quorum_last true false false l = refl
quorum_last true false true false = refl
quorum_last true false true true = refl
quorum_last true true false l = refl
quorum_last true true true false = refl
quorum_last true true true true = refl

lowered_as : (p : Option ℕ) (k q o : Bool) (x : ℕ) (b : Bool) → (k && o && is_under x p && q) ≡ b → lowered p (k && q && o) x ≡ pick b (Some x) p
unfolding lowered
lowered_as p k q o x b e = ap (λ (z : Bool). pick z (Some x) p) (quorum_last k q o (is_under x p) ∙ e)

pub returns-then-not-is_lower : goal.returns-then-not-is_lower
returns-then-not-is_lower c =
    let start = c in
    let a = start.args in
    let r = round_in a.s.now in
    let x = word_notes a.notes.now.words in
    let y = byte_notes a.notes.now.octets in
    let top = get_or x.tops a.j 0 in
    let quorum = is_quorum (graph_of r) a.a (voters_for r x y a.a top) in
    let differs = is_other top a.but in
    let not_lower = sym c.is_lower.ensures ∙ c.if-not-is_lower.true in
    sym (lowered_as a.least (is_known2a r y a.j) quorum differs top false (ap (λ (z : Bool). z && quorum) not_lower))

pub returns-then-is_decided : goal.returns-then-is_decided
returns-then-is_decided c =
    let start = c in
    let a = start.args in
    let r = round_in a.s.now in
    let x = word_notes a.notes.now.words in
    let y = byte_notes a.notes.now.octets in
    let top = get_or x.tops a.j 0 in
    let quorum = is_quorum (graph_of r) a.a (voters_for r x y a.a top) in
    let differs = is_other top a.but in
    let read = c.top_at-x.ensures in
    let is = sym c.is_lower.ensures ∙ c.if-not-is_lower.false in
    let decides = ap (λ (z : ℕ). is_quorum (graph_of r) a.a (voters_for r x y a.a z)) (sym read) ∙ sym c.is_decided.ensures ∙ c.if-is_decided.true in
    ap (λ (z : ℕ). Some z) read ∙ sym (lowered_as a.least (is_known2a r y a.j) quorum differs top true (ap₂ ◌&&◌ is decides))

pub returns : goal.returns
returns c =
    let start = c in
    let a = start.args in
    let r = round_in a.s.now in
    let x = word_notes a.notes.now.words in
    let y = byte_notes a.notes.now.octets in
    let top = get_or x.tops a.j 0 in
    let quorum = is_quorum (graph_of r) a.a (voters_for r x y a.a top) in
    let differs = is_other top a.but in
    let read = c.top_at-x.ensures in
    let is = sym c.is_lower.ensures ∙ c.if-not-is_lower.false in
    let decides = ap (λ (z : ℕ). is_quorum (graph_of r) a.a (voters_for r x y a.a z)) (sym read) ∙ sym c.is_decided.ensures ∙ c.if-is_decided.false in
    sym (lowered_as a.least (is_known2a r y a.j) quorum differs top false (ap₂ ◌&&◌ is decides))
