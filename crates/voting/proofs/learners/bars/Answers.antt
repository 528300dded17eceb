use mathlib.Core.Path.{sym, ◌∙◌}
use mathlib.Core.Bool.{not}
use lib.ListN.{get_or}
use Rattle.base.proofs.Tests.{and_l}
use Rattle.roundbytes.specs.Layout.{round_in}
use Rattle.notes.specs.Inside.Layout.{word_notes, byte_notes}
use Rattle.voting.specs.Inside.Votes.{is_buried, is_rival}
use Rattle.voting.proofs.Burying.{no_rival}
use Rattle.voting.proofs.learners.bars.Goals as goal

pub returns-then-not-has_learner : goal.returns-then-not-has_learner
returns-then-not-has_learner c =
    let a = c.args in
    let r = round_in a.s.now in
    let x = word_notes a.notes.now.words in
    let y = byte_notes a.notes.now.octets in
    let told = c.has_learner in
    sym (no_rival r x y a.n a.set.low a.set.high a.signer a.v a.b (sym (c.requires.1.1 a.b) ∙ sym told.ensures ∙ c.if-not-has_learner.true))

pub is_barred-requires : goal.is_barred-requires
is_barred-requires c =
    let a = c.args in
    let r = round_in a.s.now in
    let x = word_notes a.notes.now.words in
    let y = byte_notes a.notes.now.octets in
    let p = c.requires in
    let top = c.peaks-p.result in
    (p.0.long, (p.1.0, record { few = p.0.few; covers = λ j l t. p.0.rivals a.b j l (and_l (is_rival r x y a.set.low a.set.high a.signer a.v a.b j) (not (is_buried top.best top.other (get_or x.tops j 0))) t) }))
