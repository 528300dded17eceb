use mathlib.Core.Path.{refl, ap, ◌∙◌}
use Prim.Native.Nat.{ℕ}
use lib.ListN.{get_or}
use Rattle.places.proofs.Going.{of_round, run_begun, run_on, run_over}
use Rattle.notes.specs.Inside.Layout.{word_notes, byte_notes}
use Rattle.voting.specs.Inside.Votes.{is_vote, vote_ballot, raised, peaks_of}
use Rattle.voting.specs.declared.Peaks.{Peaks}
use Rattle.voting.proofs.Burying.{peaks_skips}
use Rattle.voting.proofs.learners.peaks.Goals as goal

pub loop-j-init : goal.loop-j-init
unfolding peaks_of
loop-j-init c =
    let a = c.args in
    let x = word_notes a.notes.now.words in
    let y = byte_notes a.notes.now.octets in
    let ballot = vote_ballot x y a.set.low a.set.high a.b in
    run_begun (λ (p : Peaks) (j : ℕ). raised p (ballot j)) (peaks_of ballot) a.n a.walk _ _ _ c.into_iter-j-iterator.ensures.into_iter_gives c.below-j-items.ensures
    (peaks_skips (is_vote y a.set.low a.set.high a.b) (λ j. get_or x.tops j 0) a.n a.walk c.requires.1.covers) refl

pub vote_ballot-x-requires : goal.vote_ballot-x-requires
vote_ballot-x-requires c = (c.requires.0, of_round c.loop-j.j-iterator _ _ c.in-Some.ensures.steps)

pub loop-j-preserved : goal.loop-j-preserved
loop-j-preserved c =
    let a = c.args in
    let ballot = vote_ballot (word_notes a.notes.now.words) (byte_notes a.notes.now.octets) a.set.low a.set.high a.b in
    run_on (λ (p : Peaks) (j : ℕ). raised p (ballot j)) (peaks_of ballot) c.in-Some.ensures.steps c.loop-j.invariant
    (c.raise-p.ensures ∙ ap (raised c.loop-j.p) c.vote_ballot-x.ensures)

pub returns : goal.returns
returns c =
    let a = c.args in
    let ballot = vote_ballot (word_notes a.notes.now.words) (byte_notes a.notes.now.octets) a.set.low a.set.high a.b in
    run_over (λ (p : Peaks) (j : ℕ). raised p (ballot j)) (peaks_of ballot) c.in-None.ensures.steps.0 c.loop-j.invariant
