use mathlib.Core.Path.{refl, sym, ap, ◌∙◌, subst}
use Prim.Native.Nat.{ℕ}
use lib.ListN.{get_or}
use Rattle.std.proofs.Common.{Option}
use Rattle.roundbytes.specs.Layout.{round_in}
use Rattle.notes.specs.Inside.Layout.{word_notes, byte_notes}
use Rattle.places.specs.Inside.PlaceSets.{Covers}
use Rattle.places.proofs.Going.{of_round, run_begun, run_on, run_over}
use Rattle.deciding.specs.Inside.Deciding.{is_deciding, lowered, least_of}
use Rattle.deciding.proofs.Voters.{covers_deciding, least_skips}
use Rattle.deciding.proofs.report.least_deciding.Goals as goal

pub loop-j-init : goal.loop-j-init
unfolding least_of
loop-j-init c =
    let a = c.args in
    let r = round_in a.s.now in
    let x = word_notes a.notes.now.words in
    let y = byte_notes a.notes.now.octets in
    let test = is_deciding r x y a.a a.but in
    let top : ℕ → ℕ = λ j. get_or x.tops j 0 in
    let g = c.requires.0 in
    let votes = c.votes_in in
    let all = covers_deciding r x y g.few g.marked a.a a.but _ _ votes.ensures in
    let cover = subst (λ (n : ℕ). Covers n test votes.result.low votes.result.high) (sym c.held_of-n.ensures.0) all in
    run_begun (λ (p : Option ℕ) (j : ℕ). lowered p (test j) (top j)) (least_of test top) c.held_of-n.result votes.result _ _ _ c.into_iter-j-iterator.ensures.into_iter_gives c.below-j-items.ensures
    (least_skips test top c.held_of-n.result votes.result cover) refl

pub lower-least-requires : goal.lower-least-requires
lower-least-requires c = (c.requires.0, (c.requires.1, of_round c.loop-j.j-iterator _ _ c.in-Some.ensures.steps))

pub loop-j-preserved : goal.loop-j-preserved
loop-j-preserved c =
    let a = c.args in
    let x = word_notes a.notes.now.words in
    let test = is_deciding (round_in a.s.now) x (byte_notes a.notes.now.octets) a.a a.but in
    let top : ℕ → ℕ = λ j. get_or x.tops j 0 in
    run_on (λ (p : Option ℕ) (j : ℕ). lowered p (test j) (top j)) (least_of test top) c.in-Some.ensures.steps c.loop-j.invariant c.lower-least.ensures

pub returns : goal.returns
returns c =
    let a = c.args in
    let x = word_notes a.notes.now.words in
    let test = is_deciding (round_in a.s.now) x (byte_notes a.notes.now.octets) a.a a.but in
    let top : ℕ → ℕ = λ j. get_or x.tops j 0 in
    run_over (λ (p : Option ℕ) (j : ℕ). lowered p (test j) (top j)) (least_of test top) c.in-None.ensures.steps.0 c.loop-j.invariant ∙ ap (least_of test top) c.held_of-n.ensures.0
