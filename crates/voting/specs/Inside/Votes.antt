-- What makes a vote count for a learner, asked of a place j: Buried, fresh, and the learners of a 2a. r is the round, x and y are its notes,
-- (low, high) is a set of places.
use Rattle.std.specs.Prelude.{Bool, not, ◌&&◌, ◌||◌, ℕ, zero, suc, eqb, ltb, get_or}
use Rattle.base.specs.Tests.{pick, any, below}
use Rattle.base.specs.Sets.{has}
use Rattle.base.specs.Ballots.{value_of}
use Rattle.places.specs.Inside.PlaceSets.{in_set}
use Rattle.round.specs.Round.{Round}
use Rattle.round.specs.Holdings.{signer_at}
use Rattle.notes.specs.Inside.Layout.{first_form, second_form, WordNotes, ByteNotes}
use Rattle.voting.specs.declared.Peaks.{Peaks}

-- ---- j is in the set and holds a 2a with learner b
abbrev pub is_vote : ByteNotes → ℕ → ℕ → ℕ → ℕ → Bool
is_vote y low high b j = in_set low high j && eqb (get_or y.forms j 0) second_form && has (get_or y.learners j 0) b

-- its ballot, or 0
abbrev pub vote_ballot : WordNotes → ByteNotes → ℕ → ℕ → ℕ → ℕ → ℕ
vote_ballot x y low high b j = pick (is_vote y low high b j) (get_or x.tops j 0) 0

-- ---- the highest of some ballots, and the highest of another value than that one's
unfoldable pub raised : Peaks → ℕ → Peaks
raised p x =
    pick (ltb p.best x)
    (pick (eqb (value_of x) (value_of p.best)) (record { best = x; other = p.other }) (record { best = x; other = p.best }))
    (pick (ltb p.other x && not (eqb (value_of x) (value_of p.best))) (record { best = p.best; other = x }) p)

unfoldable pub peaks_of : (ℕ → ℕ) → ℕ → Peaks
peaks_of f zero = record { best = 0; other = 0 }
peaks_of f (suc n) = raised (peaks_of f n) (f n)

-- x is below one of them that has another value
abbrev pub is_buried : ℕ → ℕ → ℕ → Bool
is_buried best other x = (ltb x best && not (eqb (value_of best) (value_of x))) || (ltb x other && not (eqb (value_of other) (value_of x)))

-- ---- j holds a vote for b of this signer, of another value than v
abbrev pub is_rival : Round → WordNotes → ByteNotes → ℕ → ℕ → ℕ → ℕ → ℕ → ℕ → Bool
is_rival r x y low high signer v b j = is_vote y low high b j && eqb (signer_at r j) signer && not (eqb (value_of (get_or x.tops j 0)) v)

-- that is not buried: only the learners of such places can be barred
abbrev pub is_opposed : Round → WordNotes → ByteNotes → ℕ → ℕ → ℕ → ℕ → ℕ → Peaks → ℕ → Bool
is_opposed r x y low high b signer v p j = is_rival r x y low high signer v b j && not (is_buried p.best p.other (get_or x.tops j 0))

-- there is an opposed place among the first n, by the peaks of the votes for b
abbrev pub is_barred : Round → WordNotes → ByteNotes → ℕ → ℕ → ℕ → ℕ → ℕ → ℕ → Bool
is_barred r x y n low high signer v b = any (is_opposed r x y low high b signer v (peaks_of (vote_ballot x y low high b) n)) (below n)

-- ---- j is in the set and holds a 1b of this ballot, fresh for a
abbrev pub is_backer : WordNotes → ByteNotes → ℕ → ℕ → ℕ → ℕ → ℕ → Bool
is_backer x y low high a ballot j = in_set low high j && eqb (get_or y.forms j 0) first_form && has (get_or y.fresh j 0) a && eqb (get_or x.tops j 0) ballot

-- the signers of such places among the first n
abbrev pub backed_by : Round → WordNotes → ByteNotes → ℕ → ℕ → ℕ → ℕ → ℕ → ℕ → Bool
backed_by r x y n low high ballot a p = any (λ j. is_backer x y low high a ballot j && eqb (signer_at r j) p) (below n)
