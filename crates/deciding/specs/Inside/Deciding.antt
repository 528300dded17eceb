-- What the report asks of the notes: which known 2as vote for a ballot, and the least ballot that decides. r is the round, x and y are its notes.
use Rattle.std.specs.Prelude.{Bool, true, not, ◌&&◌, ℕ, zero, suc, eqb, ltb, get_or, Option, None, Some}
use Rattle.base.specs.Tests.{pick, any, below}
use Rattle.base.specs.Sets.{has}
use Rattle.base.specs.Ballots.{value_of}
use Rattle.graph.specs.LearnerGraph.{is_quorum}
use Rattle.round.specs.Round.{Round}
use Rattle.round.specs.Holdings.{graph_of, signer_at, is_known}
use Rattle.notes.specs.Inside.Layout.{second_form, WordNotes, ByteNotes}

-- ---- place j holds a known 2a
abbrev pub is_known2a : Round → ByteNotes → ℕ → Bool
is_known2a r y j = is_known r j && eqb (get_or y.forms j 0) second_form

-- ---- place j holds a known 2a of ballot z with a in its learners
abbrev pub is_voter : Round → WordNotes → ByteNotes → ℕ → ℕ → ℕ → Bool
is_voter r x y a z j = is_known2a r y j && eqb (get_or x.tops j 0) z && has (get_or y.learners j 0) a

-- the signers of such places
abbrev pub voters_for : Round → WordNotes → ByteNotes → ℕ → ℕ → ℕ → Bool
voters_for r x y a z p = any (λ j. is_voter r x y a z j && eqb (signer_at r j) p) (below r.held)

-- ---- z is a ballot of another value than the one that is not asked for, if there is one
abbrev pub is_other : ℕ → Option ℕ → Bool
is_other z None = true
is_other z (Some v) = not (eqb (value_of z) v)

-- ---- place j holds a known 2a whose ballot decides, one of another value than `but`, where there is one
abbrev pub is_deciding : Round → WordNotes → ByteNotes → ℕ → Option ℕ → ℕ → Bool
is_deciding r x y a but j = is_known2a r y j && is_quorum (graph_of r) a (voters_for r x y a (get_or x.tops j 0)) && is_other (get_or x.tops j 0) but

-- ---- z is less than the least so far, if there is one
abbrev pub is_under : ℕ → Option ℕ → Bool
is_under z None = true
is_under z (Some y) = ltb z y

-- the least so far, and a number that may pass
unfoldable pub lowered : Option ℕ → Bool → ℕ → Option ℕ
lowered p on z = pick (on && is_under z p) (Some z) p

-- place j holds a known 2a of a lower ballot than the least so far, and of another value than `but`, where there is one: what is asked before the quorum
abbrev pub is_lower : Round → WordNotes → ByteNotes → Option ℕ → Option ℕ → ℕ → Bool
is_lower r x y p but j = is_known2a r y j && is_other (get_or x.tops j 0) but && is_under (get_or x.tops j 0) p

-- the least of the numbers f j, j below n, that pass
unfoldable pub least_of : (ℕ → Bool) → (ℕ → ℕ) → ℕ → Option ℕ
least_of test f zero = None
least_of test f (suc n) = lowered (least_of test f n) (test n) (f n)
