-- The places that a report asks are all that can vote for a ballot, and the least ballot that decides is found among them.
use mathlib.Core.Path.{ap, ◌∙◌}
use mathlib.Core.Bool.{Bool, ◌&&◌}
use Prim.Native.Nat.{ℕ, ◌≤◌, ◌<◌}
use native.Mathlib.Numerals.{add-one}
use native.Mathlib.Omega.{arith}
use lib.Dec.{T, eqb}
use lib.ListN.{get_or}
use Rattle.base.specs.Sets.{has}
use Rattle.base.proofs.Tests.{and_l, and_r}
use Rattle.graph.specs.LearnerGraph.{is_quorum}
use Rattle.places.specs.Inside.PlaceSets.{in_set, Covers}
use Rattle.places.proofs.Loops.{not_covered}
use Rattle.places.specs.declared.Places.{Places}
use Rattle.places.proofs.Going.{Skips}
use Rattle.std.proofs.Common.{Option}
use Rattle.round.specs.Round.{Round}
use Rattle.round.specs.Holdings.{graph_of, is_known}
use Rattle.notes.specs.Inside.Layout.{WordNotes, ByteNotes, second_form}
use Rattle.notes.specs.Inside.Index.{ballot_key, form_key, Filed, Marks}
use Rattle.meaning.proofs.Walking.{filed}
use Rattle.deciding.specs.Inside.Deciding.{is_voter, voters_for, is_other, is_deciding, lowered, least_of}
use Rattle.round.specs.Limits.{max_held}

module _ (rn : Round) (wn : WordNotes) (bn : ByteNotes) (few : rn.held ≤ max_held) (marks : Marks rn.held rn wn bn) where
  abbrev n : ℕ
  n = rn.held

  pub covers_voters : (a x low high : ℕ) → ((q : ℕ) → q < max_held → Filed wn.keylow wn.keyhigh (form_key second_form) q → Filed wn.keylow wn.keyhigh (ballot_key x) q → T (in_set low high q))
      → Covers n (is_voter rn wn bn a x) low high
  covers_voters a x low high walk j h t =
      let A = is_known rn j in
      let B = eqb (get_or bn.forms j 0) second_form in
      let C = eqb (get_or wn.tops j 0) x in
      let w = and_l (A && B && C) (has (get_or bn.learners j 0) a) t in
      walk j (omega arith) (filed n form_key bn.forms wn.keylow wn.keyhigh second_form j marks.by_form h (and_r A B (and_l (A && B) C w)))
      (filed n ballot_key wn.tops wn.keylow wn.keyhigh x j marks.by_ballot h (and_r (A && B) C w))

  pub covers_deciding : (a : ℕ) (but : Option ℕ) (low high : ℕ) → ((q : ℕ) → Filed wn.keylow wn.keyhigh (form_key second_form) q → T (in_set low high q))
      → Covers n (is_deciding rn wn bn a but) low high
  covers_deciding a but low high votes j h t =
      let A = is_known rn j in
      let B = eqb (get_or bn.forms j 0) second_form in
      let C = is_quorum (graph_of rn) a (voters_for rn wn bn a (get_or wn.tops j 0)) in
      let D = is_other (get_or wn.tops j 0) but in
      votes j (filed n form_key bn.forms wn.keylow wn.keyhigh second_form j marks.by_form h (and_r A B (and_l (A && B) C (and_l (A && B && C) D t))))

-- what fails changes no least
pub least_skips : (test : ℕ → Bool) (f : ℕ → ℕ) (n : ℕ) (set : Places) → Covers n test set.low set.high
    → Skips (λ (p : Option ℕ) (j : ℕ). lowered p (test j) (f j)) (least_of test f) n set.low set.high
unfolding least_of lowered
least_skips test f n set cover =
    record {
      step = λ a l. ap (least_of test f) (add-one a);
      skip = λ a l e. ap (least_of test f) (add-one a) ∙ ap (λ (b : Bool). lowered (least_of test f a) b (f a)) (not_covered n test set.low set.high a cover l e);
    }
