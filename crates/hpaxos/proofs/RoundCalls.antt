-- A call on a round that is turned down leaves every lent byte as it was; none answers the number of the row that was struck; a round that refers to a
-- place of 128 or more is 17 in each, and so is one whose own number the graph lacks; an opening checks its file first.
use mathlib.Core.Path.{◌≡◌, refl, sym, ap, subst, ◌∙◌}
use mathlib.Core.Logic.{◌≢◌}
use mathlib.Core.Bool.{Bool, true, false, not, ◌&&◌}
use mathlib.Core.List.{List}
use Prim.Native.Nat.{ℕ, ◌+◌, ◌*◌, ◌≤◌, ◌<◌}
use native.Mathlib.Omega.{arith}
use lib.Dec.{T, ltb, not_T}
use lib.ListN.{length, get_or}
use borrow.Author.Tests.{ne_eqb}
use Rattle.std.specs.Result.{result_and}
use Rattle.std.specs.Prelude.{Result, Ok, Err, Some, None}
use Rattle.base.specs.Tests.{pick}
use Rattle.base.specs.Refusals.{number_of, struck}
use Rattle.base.specs.declared.refusal.Refusal.{Refusal}
use Rattle.base.specs.declared.refusal.Refusal.TheVariants.{Argument}
use Rattle.base.proofs.Refusals.{number_unused}
use Rattle.base.proofs.Tests.{not_true, ne→neqb}
use Rattle.base.proofs.Cuts.{get_d_part}
use Rattle.digest.specs.Sha256.{sha256}
use Rattle.graph.specs.declared.Graph.{Graph}
use Rattle.graphfile.specs.Arrays.{reading_of}
use Rattle.graphfile.proofs.Files.{checked_as_read}
use Rattle.message.specs.Layout.{proposal_kind}
use Rattle.round.specs.Round.{Round}
use Rattle.round.specs.Outcomes.{Opening, Outcome, Reporting}
use Rattle.round.specs.declared.Report.TheVariants as answer
use Rattle.round.specs.Limits.{max_held, no_place, own_allowed}
use Rattle.round.specs.Holdings as held
use Rattle.round.specs.Handed.{fits}
use Rattle.round.specs.Opening.{empty_round, refused_opening, opened_with, opened}
use Rattle.round.specs.Delivery.{delivered, replied}
use Rattle.round.specs.Report.{reported}
use Rattle.round.specs.Answers.{opening_number, outcome_number, is_taken, report_number}
use Rattle.round.proofs.Answers.{refused_number}
use Rattle.round.proofs.Fitting.{Fitting, fits_out}
use Rattle.round.proofs.OneCall.{refused_leaves_all_lem}
use Rattle.round.proofs.OneByte.{unfit_delivered, unfit_reported, narrow}
use Rattle.round.proofs.OwnNumber.{foreign_unfit}
use Rattle.round.proofs.Struck.{always_grounded, same_acceptances}
use Rattle.roundbytes.specs.Layout.{held_at, kinds_at, counts_at, references_at, round_len, round_in}
use Rattle.roundbytes.specs.Opening.{opened_to}
use Rattle.roundbytes.proofs.Fields.{acceptors_in, own_in, held_in_lem, kind_at, count_at_lem, reference_at}
use Rattle.roundbytes.proofs.Typing.{bytes_are_typed}
use Rattle.plain.specs.Answers.{answer_of}
use Rattle.plain.specs.Graph.{check_graph}
use Rattle.engine.specs.Calls.{opening_in, open_answer, open_to, deliver_answer, delivered_to, deliver_to, reply_to, report_answer}
use Rattle.hpaxos.specs.Round.{page_len, shown_in}
use Rattle.hpaxos.specs.Demands.{NothingRefusedAlters, StruckInBytes, StruckNeverAnswered, WidePlaceIs17, OpeningInOrder, Is17InBytes, ForeignOwnIs17}

-- ---- a call that is turned down
open_refused : (a : Opening) (r : Round) (b : List ℕ) → opening_number a ≢ 0 → opened_to a r b ≡ b
open_refused (Ok tt) r b k = absurd (k refl)
open_refused (Err e) r b k = refl

deliver_refused : (b message reply : List ℕ) → T (not (is_taken (outcome_number (deliver_answer b message reply)))) → (deliver_to b message reply ≡ b) × (reply_to b message reply ≡ reply)
unfolding deliver_answer deliver_to reply_to
deliver_refused b message reply = go (ltb (length b) round_len) (delivered sha256 r message reply).outcome refl
  where
    r : Round
    r = round_in b

    go : (t : Bool) (o : Outcome) → o ≡ (delivered sha256 r message reply).outcome → T (not (is_taken (outcome_number (pick t (Err Argument) o))))
        → (pick t b (delivered_to o (delivered sha256 r message reply).round b) ≡ b) × (pick t reply (replied sha256 r message reply) ≡ reply)
    go true o e k = (refl, refl)
    go false o e k =
        let (x, q) = refused_number o k in
        (ap (λ (y : Outcome). delivered_to y (delivered sha256 r message reply).round b) q, (refused_leaves_all_lem sha256 r message reply x (sym e ∙ q)).1)

report_refused : (t : Bool) (x : Reporting) (page : List ℕ) → pick t (number_of Argument) (report_number x) ≢ 0 → pick t page (shown_in x page) ≡ page
report_refused true x page k = refl
report_refused false x page k = simp (ne_eqb (report_number x) 0 k)

pub nothing_refused_alters : NothingRefusedAlters
unfolding open_answer open_to
nothing_refused_alters = (
  λ file house bay acceptor b. open_refused (opening_in (opened file house bay acceptor).answer b) (opened file house bay acceptor).round b,
  deliver_refused,
  λ b learner page. report_refused (ltb (length page) page_len) (report_answer b learner) page,
)

-- ---- row 13, which was struck
pub struck_in_bytes : StruckInBytes
struck_in_bytes round bytes long ok =
    let r = round_in round in
    let typed = bytes_are_typed round bytes long in
    (always_grounded sha256 r typed ok, same_acceptances sha256 r typed ok)

pub struck_never_answered : StruckNeverAnswered
struck_never_answered = (
  λ file house bay acceptor buffer. opens (open_answer file house bay acceptor buffer),
  λ round message reply. delivers (deliver_answer round message reply),
  λ round learner buffer. reports (ltb (length buffer) page_len) (report_answer round learner),
)
  where
    opens : (a : Opening) → opening_number a ≢ struck
    opens (Ok tt) k = absurd (omega arith)
    opens (Err e) k = number_unused e k

    delivers : (o : Outcome) → outcome_number o ≢ struck
    delivers (Ok None) k = absurd (omega arith)
    delivers (Ok (Some n)) k = absurd (omega arith)
    delivers (Err e) k = number_unused e k

    reports : (t : Bool) (a : Reporting) → pick t (number_of Argument) (report_number a) ≢ struck
    reports true a k = absurd (omega arith)
    reports false (Ok answer.Undecided) k = absurd (omega arith)
    reports false (Ok (answer.Decided x)) k = absurd (omega arith)
    reports false (Ok (answer.Split x y)) k = absurd (omega arith)
    reports false (Err e) k = number_unused e k

-- ---- a reference place of 128 to 255
module _ (round : List ℕ) (p i : ℕ) (inside : p < get_or round held_at 0) (votes : get_or round (kinds_at + p) 0 ≢ proposal_kind) (named : i < get_or round (counts_at + p) 0) (wide : max_held ≤ get_or round (references_at + (max_held * p + i)) 0) where
  abbrev r : Round
  r = round_in round

  -- row 17 reads the byte
  read_wide : Fitting r → ⊥
  read_wide f =
      let h : r.held ≡ get_or round held_at 0 = held_in_lem round in
      let most : r.held ≤ max_held = f.most in
      let l : p < max_held = omega arith in
      let counted : get_or r.counts p 0 ≡ get_or round (counts_at + p) 0 = count_at_lem round p l in
      let few : get_or r.counts p 0 ≤ max_held = f.counts p (omega arith) in
      let vote = ne→neqb (get_or r.kinds p 0) proposal_kind (λ e. votes (sym (kind_at round p l) ∙ e)) in
      let low : get_or (held.references_at r p) i 0 < max_held = narrow r f p i (omega arith) vote in
      let byte : get_or (held.references_at r p) i 0 ≡ get_or round (references_at + (max_held * p + i)) 0 =
      get_d_part (get_or r.counts p 0) r.references (max_held * p) i (omega arith) ∙ reference_at round (max_held * p + i) (omega arith) in
      absurd (omega arith)

  wide_unfit : fits r ≡ false
  wide_unfit = not_true (fits r) (not_T (fits r) (λ h. read_wide (fits_out r h)))

-- ---- a round that does not pass 17 is 17 in each call
unfit_is_17 : (round : List ℕ) → fits (round_in round) ≡ false → Is17InBytes round
unfolding deliver_answer report_answer
unfit_is_17 round e =
    let r = round_in round in (
      λ message reply. delivers (ltb (length round) round_len) (delivered sha256 r message reply).outcome (unfit_delivered sha256 r message reply e),
      λ learner buffer. reports (ltb (length buffer) page_len) (ltb (length round) round_len) (reported r learner) (unfit_reported r learner e),
    )
  where
    delivers : (t : Bool) (o : Outcome) → o ≡ Err Argument → outcome_number (pick t (Err Argument) o) ≡ 17
    delivers true o e = refl
    delivers false o e = ap outcome_number e

    reports : (t u : Bool) (a : Reporting) → a ≡ Err Argument → pick t (number_of Argument) (report_number (pick u (Err Argument) a)) ≡ 17
    reports true u a e = refl
    reports false true a e = refl
    reports false false a e = ap report_number e

pub wide_place_is17 : WidePlaceIs17
wide_place_is17 round p i inside votes named wide = unfit_is_17 round (wide_unfit round p i inside votes named wide)

-- ---- an opening: its file first, then the own number and the buffer
pub opening_in_order : OpeningInOrder
unfolding open_answer opened
opening_in_order file house bay acceptor b = (
  λ e read. (checks (Err e) read, ap answers read),
  λ g read. (checks (Ok g) read, ap answers read ∙ allowed g (own_allowed acceptor g.acceptors)),
)
  where
    checks : (x : Result Graph Refusal) → reading_of file ≡ x → check_graph file ≡ answer_of {X = Unit} (result_and x (Ok tt))
    checks x read = ap (answer_of {X = Unit}) (checked_as_read file ∙ ap (λ (y : Result Graph Refusal). result_and y (Ok tt)) read)

    answers : Result Graph Refusal → ℕ
    answers x = opening_number (opening_in (opened_with x house bay acceptor).answer b)

    short : (u : Bool) → opening_number (pick u (Err Argument) (Ok tt)) ≡ pick (not u) 0 17
    short true = refl
    short false = refl

    allowed : (g : Graph) (t : Bool) → opening_number (opening_in (pick t (record { answer = Ok tt; round = empty_round g house bay acceptor no_place }) (refused_opening Argument)).answer b)
        ≡ pick (t && not (ltb (length b) round_len)) 0 17
    allowed g true = short (ltb (length b) round_len)
    allowed g false = refl

pub foreign_own_is17 : ForeignOwnIs17
foreign_own_is17 b h k =
    unfit_is_17 b (foreign_unfit (round_in b) (subst (λ (n : ℕ). n ≤ (round_in b).own) (sym (acceptors_in b)) (subst (λ (n : ℕ). get_or b 0 0 ≤ n) (sym (own_in b)) h)) (λ e. k (sym (own_in b) ∙ e)))
