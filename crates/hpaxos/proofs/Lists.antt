-- Lists of the C calls: the buffer holds the round that the rules lead to, and what is seen in numbers and bytes tells what the rules say of the same calls.
use mathlib.Core.Path.{◌≡◌, refl, sym, ap, subst}
use mathlib.Core.Bool.{Bool, true, false, ◌&&◌}
use mathlib.Core.List.Memᴰ
use mathlib.Core.List.{List, [], ◌∷◌, map}
use Prim.Native.Nat.{ℕ}
use native.Mathlib.Omega.{arith}
use lib.Dec.{eqb, ltb}
use lib.ListN.{length, take}
use borrow.Author.Tests.{le-ltb}
use Rattle.base.specs.Tests.{◌∈◌, pick}
use Rattle.base.specs.Bytes.{be, bytes}
use Rattle.base.specs.Ballots.{value_of}
use Rattle.base.specs.Refusals.{number_of}
use Rattle.base.specs.declared.refusal.Refusal.TheVariants.{Argument}
use Rattle.digest.specs.Sha256.{sha256}
use Rattle.message.specs.Writer.{fronted}
use Rattle.round.specs.Round.{Round}
use Rattle.round.specs.Outcomes.{Reporting}
use Rattle.round.specs.Delivery.{delivered, replied}
use Rattle.round.specs.Report.{reported}
use Rattle.round.specs.Answers.{outcome_number, has_reply, reply_size, is_taken, report_number, Page, page_of}
use Rattle.round.specs.Lists as rules
use Rattle.round.specs.Lists.{Seen, delivery, reporting, accepted, written, pages}
use Rattle.roundbytes.specs.Layout.{round_len, round_in}
use Rattle.engine.specs.Calls.{deliver_answer, deliver_to, reply_to, report_answer}
use Rattle.hpaxos.specs.Round.{page_bytes, page_len, shown_in}
use Rattle.hpaxos.specs.Lists.{Call, deliver, report, OfBytes, page_in, seen, run, last_bytes, ruled}
use Rattle.hpaxos.proofs.Keeping.{Holds, delivered_holds}

-- ---- a page in bytes says what the page says: its state and its value
pub record Says (p q : Page) : Type 0 where
  pub state : p.state ≡ q.state
  pub value : value_of p.least ≡ value_of q.least

-- of two lists of pages: each of the first says what one of the second says
abbrev pub AllSaid : List Page → List Page → Type 0
AllSaid l m = (p : Page) → p ∈ l → (q : Page) × (q ∈ m) × Says p q

page_said : (q : Page) (buffer : List ℕ) → Says (page_in (fronted (page_bytes q) buffer)) q
unfolding be bytes value_of
page_said q buffer = record { state = refl; value = omega arith }

-- ---- what is seen of one list tells what is seen of another
pub record Tells (s t : List Seen) : Type 0 where
  pub accepts : accepted s ≡ accepted t
  pub writes : written s ≡ written t
  pub shows : (a : ℕ) → AllSaid (pages a s) (pages a t)

tells_nothing : Tells [] []
unfolding accepted written pages
tells_nothing = record { accepts = refl; writes = refl; shows = λ a p i. elim i [ ] }

-- a delivery that is seen as the rules have it
tells_delivery : (m : List ℕ) (n : ℕ) (reply : List ℕ) (s t : List Seen) → Tells s t → Tells (delivery m n reply ∷ s) (delivery m n reply ∷ t)
unfolding accepted written pages
tells_delivery m n reply s t h =
    record {
      accepts = ap (λ (l : List (List ℕ)). pick (is_taken n) (m ∷ l) l) h.accepts;
      writes = ap (λ (l : List (List ℕ)). pick (has_reply n) (take (reply_size n) reply ∷ l) l) h.writes;
      shows = h.shows;
    }

-- a report: its page is shown where the buffer is long enough for one, and then says what the rules show
said_behind : (v : Bool) (q : Page) (l m : List Page) → AllSaid l m → AllSaid l (pick v (q ∷ m) m)
said_behind true q l m h p i = let (r, j, s) = h p i in (r, Memᴰ.tail j, s)
said_behind false q l m h p i = h p i

said_here : (v : Bool) (q : Page) (buffer : List ℕ) (l m : List Page) → AllSaid l m → AllSaid (pick v (page_in (pick v (fronted (page_bytes q) buffer) buffer) ∷ l) l) (pick v (q ∷ m) m)
said_here true q buffer l m h p (Memᴰ.head e) = (q, Memᴰ.head refl, subst (λ (x : Page). Says x q) (sym e) (page_said q buffer))
said_here true q buffer l m h p (Memᴰ.tail i) = let (r, j, s) = h p i in (r, Memᴰ.tail j, s)
said_here false q buffer l m h p i = h p i

-- meant: the report is for the learner that is asked about; short: the buffer is too short
report_said : (meant short : Bool) (x : Reporting) (buffer : List ℕ) (l m : List Page) → AllSaid l m
    → AllSaid (pick (meant && eqb (pick short (number_of Argument) (report_number x)) 0) (page_in (pick short buffer (shown_in x buffer)) ∷ l) l) (pick (meant && eqb (report_number x) 0) (page_of x ∷ m) m)
report_said false short x buffer l m h = h
report_said true true x buffer l m h = said_behind (eqb (report_number x) 0) (page_of x) l m h
report_said true false x buffer l m h = said_here (eqb (report_number x) 0) (page_of x) buffer l m h

tells_report : (a : ℕ) (short : Bool) (x : Reporting) (buffer : List ℕ) (s t : List Seen) → Tells s t
    → Tells (reporting a (pick short (number_of Argument) (report_number x)) (page_in (pick short buffer (shown_in x buffer))) ∷ s) (reporting a (report_number x) (page_of x) ∷ t)
unfolding accepted written pages
tells_report a short x buffer s t h =
    record { accepts = h.accepts; writes = h.writes; shows = λ c. report_said (eqb a c) short x buffer (pages c s) (pages c t) (h.shows c) }

-- ---- a call on a buffer that holds the round r
module _ (b : List ℕ) (r : Round) (h : Holds b r) where
  whole : ltb (length b) round_len ≡ false
  whole = le-ltb (length b) round_len h.long

  seen_delivery : (message reply : List ℕ) → seen b (deliver message reply) ≡ delivery message (outcome_number (delivered sha256 r message reply).outcome) (replied sha256 r message reply)
  unfolding deliver_answer reply_to
  seen_delivery message reply = simp whole (ap (λ (x : Round). delivery message (outcome_number (delivered sha256 x message reply).outcome) (replied sha256 x message reply)) h.same)

  reported_in : (a : ℕ) → report_answer b a ≡ reported r a
  unfolding report_answer
  reported_in a = simp whole (ap (λ (x : Round). reported x a) h.same)

  seen_report : (a : ℕ) (buffer : List ℕ)
      → seen b (report a buffer) ≡ reporting a (pick (ltb (length buffer) page_len) (number_of Argument) (report_number (reported r a))) (page_in (pick (ltb (length buffer) page_len) buffer (shown_in (reported r a) buffer)))
  seen_report a buffer =
      let short = ltb (length buffer) page_len in
      ap (λ (x : Reporting). reporting a (pick short (number_of Argument) (report_number x)) (page_in (pick short buffer (shown_in x buffer)))) (reported_in a)

-- ---- a list
pub tells : (l : List Call) (b : List ℕ) (r : Round) → Holds b r → OfBytes l → Tells (run b l) (rules.run sha256 r (map ruled l))
unfolding run rules.run OfBytes
tells [] b r h o = tells_nothing
tells (deliver m reply ∷ l) b r h o =
    let d = delivered sha256 r m reply in
    let s = run (deliver_to b m reply) l in
    let t = rules.run sha256 d.round (map ruled l) in
    let z = replied sha256 r m reply in
    let rest = tells l (deliver_to b m reply) d.round (delivered_holds b m reply r h o.0) o.1 in
    subst (λ (x : Seen). Tells (x ∷ s) (delivery m (outcome_number d.outcome) z ∷ t)) (sym (seen_delivery b r h m reply))
    (tells_delivery m (outcome_number d.outcome) z s t rest)
tells (report a buffer ∷ l) b r h o =
    let s = run b l in
    let t = rules.run sha256 r (map ruled l) in
    subst (λ (x : Seen). Tells (x ∷ s) (reporting a (report_number (reported r a)) (page_of (reported r a)) ∷ t)) (sym (seen_report b r h a buffer))
    (tells_report a (ltb (length buffer) page_len) (reported r a) buffer s t (tells l b r h o))

pub bytes_hold : (l : List Call) (b : List ℕ) (r : Round) → Holds b r → OfBytes l → round_in (last_bytes b l) ≡ rules.last_round sha256 r (map ruled l)
unfolding last_bytes OfBytes rules.last_round
bytes_hold [] b r h o = h.same
bytes_hold (deliver m reply ∷ l) b r h o = bytes_hold l (deliver_to b m reply) (delivered sha256 r m reply).round (delivered_holds b m reply r h o.0) o.1
bytes_hold (report a buffer ∷ l) b r h o = bytes_hold l b r h o
