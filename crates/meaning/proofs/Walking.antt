-- The places that are asked for a message are all that can pass the test.
use mathlib.Core.Path.{refl, sym, ap, subst}
use mathlib.Core.Bool.{not, ◌&&◌}
use mathlib.Core.List.{List}
use Prim.Native.Nat.{ℕ, ◌+◌, ◌≤◌, ◌<◌}
use native.Mathlib.Omega.{arith}
use lib.Dec.{T, eqb, eqb→eq}
use lib.ListN.{get_or, set}
use lib.Seq.{get_or-set_same, get_or-set_other}
use Rattle.base.specs.Tests.{below}
use Rattle.base.specs.Sets.{has}
use Rattle.base.specs.Ballots.{value_of}
use Rattle.base.proofs.Tests.{and_l, and_r, any_out, below_out}
use Rattle.places.specs.Inside.PlaceSets.{in_set, meets, Column, Covers, Indexed}
use Rattle.scan.specs.Inside.Arrays.{is_fork, is_caught, is_crowding}
use Rattle.voting.specs.Inside.Votes.{is_vote, is_rival, is_backer}
use Rattle.places.proofs.Indexing.{indexed_more}
use Rattle.notes.specs.declared.Walks.{Walks}
use Rattle.notes.specs.declared.Worked.{Worked}
use Rattle.notes.specs.Inside.Writing.{words_noted, bytes_noted, with_index}
use Rattle.round.specs.Round.{Round}
use Rattle.round.specs.Holdings.{is_proposal_at, signer_at}
use Rattle.notes.specs.Inside.Layout.{WordNotes, ByteNotes, first_form, second_form}
use Rattle.notes.specs.Inside.Index.{signer_key, link_key, ballot_key, form_key, Filed, Marks, Marked, Put, Backing, Walked, link_at}
use Rattle.round.specs.Limits.{max_held}

-- a place is filed under the key of what is asked of it
pub filed : (n : ℕ) (key : ℕ → ℕ) (l : List ℕ) (low high : List ℕ) (x j : ℕ) → Indexed n (λ j. key (get_or l j 0)) low high → j < n → T (eqb (get_or l j 0) x) → Filed low high (key x) j
filed n key l low high x j index h t = subst (λ (y : ℕ). Filed low high (key y) j) (eqb→eq (get_or l j 0) x t) (index j h)

module _ (n : ℕ) (rn : Round) (wn : WordNotes) (bn : ByteNotes) (few : n ≤ max_held)
    (marks : Marks n rn wn bn) where
  module _ (low high ballot signer link : ℕ) (r : Walks) (walked : Walked wn low high ballot signer link r) where
    pub covers_forks : (name : ℕ) → Covers n (is_fork rn bn signer name link) r.forks.low r.forks.high
    covers_forks name j h t =
        let A = not (is_proposal_at rn j) in
        let B = eqb (get_or rn.signers j 0) signer in
        let C = not (eqb (get_or bn.names j 0) name) in
        let D = eqb (get_or bn.names (get_or rn.previous j 0) 0) link in
        walked.forking j (omega arith) (filed n signer_key rn.signers wn.keylow wn.keyhigh signer j marks.by_signer h (and_r A B (and_l (A && B) C (and_l (A && B && C) D t))))
        (subst (λ (y : ℕ). Filed wn.keylow wn.keyhigh (link_key y) j) (eqb→eq (get_or bn.names (get_or rn.previous j 0) 0) link (and_r (A && B && C) D t)) (marks.by_link j h))

    pub covers_caught : Covers n (is_caught wn low high) r.caught.low r.caught.high
    unfolding meets
    covers_caught j h t =
        let M = meets low high (get_or wn.forklow j 0) (get_or wn.forkhigh j 0) in
        let (k, m, w) = any_out (λ k. in_set low high k && in_set (get_or wn.forklow j 0) (get_or wn.forkhigh j 0) k) (below max_held) (and_r (in_set low high j) M t) in
        walked.catching j (omega arith) (and_l (in_set low high j) M t)
        (marks.forked j k h (below_out max_held m) (and_r (in_set low high k) (in_set (get_or wn.forklow j 0) (get_or wn.forkhigh j 0) k) w))

    module _ (b : ℕ) where
      pub covers_votes : Covers n (is_vote bn low high b) r.votes.low r.votes.high
      covers_votes j h t =
          let A = in_set low high j in
          let B = eqb (get_or bn.forms j 0) second_form in
          let v = and_l (A && B) (has (get_or bn.learners j 0) b) t in
          walked.voting j (omega arith) (and_l A B v) (filed n form_key bn.forms wn.keylow wn.keyhigh second_form j marks.by_form h (and_r A B v))

      pub covers_rivals : (v : ℕ) → Covers n (is_rival rn wn bn low high signer v b) r.rivals.low r.rivals.high
      covers_rivals v j h t =
          let A = in_set low high j in
          let B = eqb (get_or bn.forms j 0) second_form in
          let E = is_vote bn low high b j in
          let D = eqb (get_or rn.signers j 0) signer in
          let w = and_l (E && D) (not (eqb (value_of (get_or wn.tops j 0)) v)) t in
          let x = and_l (A && B) (has (get_or bn.learners j 0) b) (and_l E D w) in
          walked.rivalling j (omega arith) (and_l A B x) (filed n form_key bn.forms wn.keylow wn.keyhigh second_form j marks.by_form h (and_r A B x))
          (filed n signer_key rn.signers wn.keylow wn.keyhigh signer j marks.by_signer h (and_r E D w))

  pub covers_backers : (low high ballot x y : ℕ) → Backing wn low high ballot x y → (a : ℕ) → Covers n (is_backer wn bn low high a ballot) x y
  covers_backers low high ballot x y backing a j h t =
      let A = in_set low high j in
      let B = eqb (get_or bn.forms j 0) first_form in
      let C = has (get_or bn.fresh j 0) a in
      let D = eqb (get_or wn.tops j 0) ballot in
      let w = and_l (A && B) C (and_l (A && B && C) D t) in
      backing j (omega arith) (and_l A B w) (filed n form_key bn.forms wn.keylow wn.keyhigh first_form j marks.by_form h (and_r A B w))
      (filed n ballot_key wn.tops wn.keylow wn.keyhigh ballot j marks.by_ballot h (and_r (A && B && C) D t))

  -- a walk over those of a set that have a ballot
  pub covers_crowd : (low high name ballot x y : ℕ) → ((q : ℕ) → q < max_held → T (in_set low high q) → Filed wn.keylow wn.keyhigh (ballot_key ballot) q → T (in_set x y q))
      → Covers n (is_crowding rn wn bn low high name ballot) x y
  covers_crowd low high name ballot x y peers j h t =
      let A = in_set low high j in
      let B = not (eqb (get_or bn.names j 0) name) in
      let C = eqb (get_or wn.tops j 0) ballot in
      let w = and_l (A && B && C) (not (is_proposal_at rn j)) t in
      peers j (omega arith) (and_l A B (and_l (A && B) C w)) (filed n ballot_key wn.tops wn.keylow wn.keyhigh ballot j marks.by_ballot h (and_r (A && B) C w))

  -- one more place, put into the sets of its keys
  pub marks_more : n < max_held → Column wn.tops → Column bn.forms → (w : Worked) (keyLow' keyHigh' : List ℕ) (low' high' : ℕ)
      → Put wn.keylow wn.keyhigh keyLow' keyHigh' (signer_at rn n) (link_at rn bn n) w.ballot w.form n
      → Marked (n + 1) (set wn.forklow n w.forks.low) (set wn.forkhigh n w.forks.high) low' high'
      → Marks (n + 1) rn (with_index (words_noted wn w n) keyLow' keyHigh' low' high') (bytes_noted bn w n)
  marks_more h wt wf w keyLow' keyHigh' low' high' put marked =
      let ballot = w.ballot in
      let form = w.form in
      record {
        by_signer = indexed_more n (λ j. signer_key (get_or rn.signers j 0)) (λ j. signer_key (get_or rn.signers j 0)) wn.keylow wn.keyhigh keyLow' keyHigh' h put.grown (λ j l. refl) marks.by_signer put.of_signer;
        by_link = indexed_more n (λ j. link_key (get_or bn.names (get_or rn.previous j 0) 0)) (λ j. link_key (get_or bn.names (get_or rn.previous j 0) 0)) wn.keylow wn.keyhigh keyLow' keyHigh' h put.grown (λ j l. refl) marks.by_link put.of_link;
        by_ballot = indexed_more n (λ j. ballot_key (get_or wn.tops j 0)) (λ j. ballot_key (get_or (set wn.tops n ballot) j 0)) wn.keylow wn.keyhigh keyLow' keyHigh' h put.grown
            (λ j l. ap ballot_key (get_or-set_other wn.tops n j ballot 0 (λ e. omega arith))) marks.by_ballot
            (subst (λ (y : ℕ). Filed keyLow' keyHigh' (ballot_key y) n) (sym (get_or-set_same wn.tops n ballot 0 (omega arith))) put.of_ballot);
        by_form = indexed_more n (λ j. form_key (get_or bn.forms j 0)) (λ j. form_key (get_or (set bn.forms n form) j 0)) wn.keylow wn.keyhigh keyLow' keyHigh' h put.grown
            (λ j l. ap form_key (get_or-set_other bn.forms n j form 0 (λ e. omega arith))) marks.by_form
            (subst (λ (y : ℕ). Filed keyLow' keyHigh' (form_key y) n) (sym (get_or-set_same bn.forms n form 0 (omega arith))) put.of_form);
        forked = marked;
      }

pub marks_none : (rn : Round) (wn : WordNotes) (bn : ByteNotes) → Marks 0 rn wn bn
marks_none rn wn bn =
    record {
      by_signer = λ j i. absurd (omega arith);
      by_link = λ j i. absurd (omega arith);
      by_ballot = λ j i. absurd (omega arith);
      by_form = λ j i. absurd (omega arith);
      forked = λ j k i m t. absurd (omega arith);
    }
