-- What the owner asked for, over the C calls: what is seen of them is what the rules say, so what holds of lists of calls on rounds holds of them.
use mathlib.Core.Path.{◌≡◌, refl, sym, ap, ap₂, subst, ◌∙◌}
use mathlib.Core.Logic.{◌⊎◌, inl, inr}
use mathlib.Core.Bool.{Bool, true, false}
use mathlib.Core.Option.{none}
use mathlib.Core.List.Memᴰ
use mathlib.Core.List.{List, ◌++◌, map}
use Prim.Native.Nat.{ℕ, ◌≤◌, ◌<◌}
use native.Mathlib.Omega.{arith}
use lib.Dec.{ltb}
use lib.ListN.{length}
use borrow.Author.Tests.{le-ltb, ltb-false}
use Rattle.std.specs.Prelude.{Result, Ok, Err}
use Rattle.base.specs.Tests.{◌∈◌, pick}
use Rattle.base.specs.declared.refusal.Refusal.{Refusal}
use Rattle.base.specs.declared.refusal.Refusal.TheVariants.{Argument}
use Rattle.digest.specs.Sha256.{sha256}
use Rattle.graph.specs.declared.Graph.{Graph}
use Rattle.graph.specs.Memory.{view_of}
use Rattle.graphfile.specs.Arrays.{reading_of}
use Rattle.message.specs.Writer.{fronted}
use Rattle.protocol.specs.Message.{Message}
use Rattle.protocol.specs.Votes.{Few}
use Rattle.round.specs.Round.{Round}
use Rattle.round.specs.Outcomes.{Opening}
use Rattle.round.specs.Opening.{opened}
use Rattle.round.specs.Delivery.{message_read}
use Rattle.round.specs.Answers.{opening_number, Page}
use Rattle.round.specs.Lists as rules
use Rattle.round.specs.Lists.{Seen, accepted, written, pages}
use Rattle.round.specs.Premises.{Starts}
use Rattle.round.specs.Neighbours.{SameCaughtIn, OneCaughtIn}
use Rattle.round.specs.Demands.{SafeEdge, NoCollision, OneValue, ChainFrom}
use Rattle.round.proofs.Answers.{row_number}
use Rattle.round.proofs.JustOpened.{opened_round}
use Rattle.round.proofs.Sha256.{sha256_is_id_rule}
use Rattle.round.proofs.Demands as rounds
use Rattle.roundbytes.specs.Layout.{round_len, round_bytes, round_in}
use Rattle.roundbytes.specs.Opening.{opened_to}
use Rattle.engine.specs.Calls as call
use Rattle.hpaxos.specs.Lists.{OpenedIn, Call, OfBytes, run, last_bytes, ruled}
use Rattle.hpaxos.specs.Demands.{AgreementInBytes, ChainInBytes, DemandThreeInBytes, RoundInBytes, SameCaughtInBytes, OneCaughtListInBytes, FewRepliesInBytes}
use Rattle.hpaxos.proofs.Keeping.{Holds, opened_holds}
use Rattle.hpaxos.proofs.Lists.{Says, AllSaid, Tells, tells, bytes_hold}

-- ---- an opening that answered 0 opened the round of the rules in a buffer that is long enough
open_cases : (x : Opening) (lent : List ℕ) → opening_number (call.opening_in x lent) ≡ 0 → (x ≡ Ok tt) × (round_len ≤ length lent)
open_cases (Ok tt) lent e = (refl, by (ltb (length lent) round_len) refl e)
  where
    by : (t : Bool) → ltb (length lent) round_len ≡ t → opening_number (pick t (Err Argument) (Ok tt)) ≡ 0 → round_len ≤ length lent
    by true q k = absurd (omega arith)
    by false q k = ltb-false (length lent) round_len q
open_cases (Err x) lent e = absurd (omega (arith, (row_number x).0))

module _ (file : List ℕ) (house bay acceptor : ℕ) (b : List ℕ) (o : OpenedIn file house bay acceptor b) where
  abbrev round : Round
  round = (opened file house bay acceptor).round

  is_open : ((opened file house bay acceptor).answer ≡ Ok tt) × (round_len ≤ length o.lent)
  unfolding call.open_answer
  is_open = open_cases (opened file house bay acceptor).answer o.lent o.answers

  starts : Starts file house bay acceptor round
  starts = record { opens = ap opening_number is_open.0; gives = refl; house_fits = o.house_fits; bay_fits = o.bay_fits }

  front : call.open_to file house bay acceptor o.lent ≡ fronted (round_bytes round) o.lent
  unfolding call.open_answer call.open_to
  front = ap (λ (x : Opening). opened_to (call.opening_in x o.lent) round o.lent) is_open.0 ∙ simp (le-ltb (length o.lent) round_len is_open.1)

  holds : Holds b round
  holds = subst (λ (x : List ℕ). Holds x round) (sym (o.leaves ∙ front)) (opened_holds file house bay acceptor o.lent round o.file_bytes starts is_open.1)

  graph : (g : Graph) → reading_of file ≡ Ok g → g ≡ round.graph
  graph g read = let e : ◌≡◌ {A = Result Graph Refusal} (Ok g) (Ok round.graph) = sym read ∙ (opened_round file house bay acceptor round starts).accepted in cc

  told : (l : List Call) → OfBytes l → Tells (run b l) (rules.run sha256 round (map ruled l))
  told l s = tells l b round holds s

pub round_in_bytes : RoundInBytes
round_in_bytes file house bay acceptor b o l s = bytes_hold l b (round file house bay acceptor b o) (holds file house bay acceptor b o) s

-- ---- pages that say what the pages of the rules say
one_value_lem : (l m : List Page) → AllSaid l m → OneValue m → OneValue l
one_value_lem l m h v =
    record {
      values = λ p q i j d e.
          let (x, i', s) = h p i in
          let (y, j', t) = h q j in
          s.value ∙ v.values x y i' j' (sym s.state ∙ d) (sym t.state ∙ e) ∙ sym t.value;
      whole = λ p i d. let (x, i', s) = h p i in v.whole x i' (sym s.state ∙ d);
    }

said_both : (k l m n : List Page) → AllSaid k m → AllSaid l n → AllSaid (k ++ l) (m ++ n)
said_both k l m n h g p i = by (Memᴰ.append_cases k i)
  where
    by : (p ∈ k) ⊎ (p ∈ l) → (q : Page) × (q ∈ m ++ n) × Says p q
    by (inl j) = let (q, a, s) = h p j in (q, Memᴰ.append_left n a, s)
    by (inr j) = let (q, a, s) = g p j in (q, Memᴰ.append_right m a, s)

-- ---- two buffers and two lists
module _ (fileA fileB : List ℕ) (house bay acceptorA acceptorB : ℕ) (bA bB : List ℕ) (oA : OpenedIn fileA house bay acceptorA bA) (oB : OpenedIn fileB house bay acceptorB bB)
    (lA lB : List Call) (sA : OfBytes lA) (sB : OfBytes lB) where
  tells_a : Tells (run bA lA) (rules.run sha256 (round fileA house bay acceptorA bA oA) (map ruled lA))
  tells_a = told fileA house bay acceptorA bA oA lA sA

  tells_b : Tells (run bB lB) (rules.run sha256 (round fileB house bay acceptorB bB oB) (map ruled lB))
  tells_b = told fileB house bay acceptorB bB oB lB sB

  abbrev run_a : List Seen
  run_a = rules.run sha256 (round fileA house bay acceptorA bA oA) (map ruled lA)

  abbrev run_b : List Seen
  run_b = rules.run sha256 (round fileB house bay acceptorB bB oB) (map ruled lB)

  all_accepted : accepted (run bA lA) ++ accepted (run bB lB) ≡ accepted run_a ++ accepted run_b
  all_accepted = ap₂ ◌++◌ tells_a.accepts tells_b.accepts

  no_collision : NoCollision sha256 ((accepted (run bA lA) ++ accepted (run bB lB)) ++ (written (run bA lA) ++ written (run bB lB)))
      → NoCollision sha256 ((accepted run_a ++ accepted run_b) ++ (written run_a ++ written run_b))
  no_collision free = subst (NoCollision sha256) (ap₂ ◌++◌ all_accepted (ap₂ ◌++◌ tells_a.writes tells_b.writes)) free

-- ---- DEMAND 3
pub agreement_in_bytes : AgreementInBytes
agreement_in_bytes file plan read house bay acceptorA acceptorB bA bB oA oB a b in_a in_b lA lB sA sB safe free =
    let rA = round file house bay acceptorA bA oA in
    let rB = round file house bay acceptorB bB oB in
    let cA = map ruled lA in
    let cB = map ruled lB in
    let tA = told file house bay acceptorA bA oA lA sA in
    let tB = told file house bay acceptorB bB oB lB sB in
    let g : plan ≡ rA.graph = graph file house bay acceptorA bA oA plan read in
    let edge : SafeEdge (view_of rA.graph) (accepted (run bA lA) ++ accepted (run bB lB)) a b = subst (λ (k : Graph). SafeEdge (view_of k) (accepted (run bA lA) ++ accepted (run bB lB)) a b) g safe in
    one_value_lem (pages a (run bA lA) ++ pages b (run bB lB)) (pages a (rules.run sha256 rA cA) ++ pages b (rules.run sha256 rB cB))
    (said_both (pages a (run bA lA)) (pages b (run bB lB)) (pages a (rules.run sha256 rA cA)) (pages b (rules.run sha256 rB cB)) (tA.shows a) (tB.shows b))
    ((rounds.demand_three).0 file house bay acceptorA acceptorB rA rB (starts file house bay acceptorA bA oA) (starts file house bay acceptorB bB oB) a b
    (subst (λ (k : Graph). a < k.learners) g in_a) (subst (λ (k : Graph). b < k.learners) g in_b) cA cB
    (subst (λ (M : List (List ℕ)). SafeEdge (view_of rA.graph) M a b) (all_accepted file file house bay acceptorA acceptorB bA bB oA oB lA lB sA sB) edge)
    (no_collision file file house bay acceptorA acceptorB bA bB oA oB lA lB sA sB free))

pub chain_in_bytes : ChainInBytes
chain_in_bytes file house bay acceptor b o own l s =
    let r = round file house bay acceptor b o in
    subst (ChainFrom sha256 none) (sym (told file house bay acceptor b o l s).writes) ((rounds.demand_three).1 file house bay acceptor r (starts file house bay acceptor b o) own (map ruled l))

pub demand_three_in_bytes : DemandThreeInBytes
demand_three_in_bytes = (agreement_in_bytes, chain_in_bytes)

-- ---- neighbours on the November text
pub same_caught_in_bytes : SameCaughtInBytes
same_caught_in_bytes file house bay acceptor b o l s free =
    let r = round file house bay acceptor b o in
    let t = told file house bay acceptor b o l s in
    subst SameCaughtIn (sym (round_in_bytes file house bay acceptor b o l s))
    (rounds.same_caught_over_lists sha256 sha256_is_id_rule file house bay acceptor r (starts file house bay acceptor b o) (map ruled l)
    (subst (NoCollision sha256) (ap₂ ◌++◌ t.accepts t.writes) free))

pub one_caught_list_in_bytes : OneCaughtListInBytes
one_caught_list_in_bytes fileA fileB house bay acceptorA acceptorB bA bB oA oB lA lB sA sB free =
    let rA = round fileA house bay acceptorA bA oA in
    let rB = round fileB house bay acceptorB bB oB in
    let eA = round_in_bytes fileA house bay acceptorA bA oA lA sA in
    let eB = round_in_bytes fileB house bay acceptorB bB oB lB sB in
    subst (λ (x : Round). OneCaughtIn x (round_in (last_bytes bB lB))) (sym eA)
    (subst (λ (y : Round). OneCaughtIn (rules.last_round sha256 rA (map ruled lA)) y) (sym eB)
    (rounds.one_caught_list sha256 sha256_is_id_rule fileA fileB house bay acceptorA acceptorB rA rB (starts fileA house bay acceptorA bA oA) (starts fileB house bay acceptorB bB oB) (map ruled lA) (map ruled lB)
    (no_collision fileA fileB house bay acceptorA acceptorB bA bB oA oB lA lB sA sB free)))

-- ---- how often our acceptor votes
pub few_replies_in_bytes : FewRepliesInBytes
few_replies_in_bytes file plan read house bay acceptor b o l s free =
    let r = round file house bay acceptor b o in
    let t = told file house bay acceptor b o l s in
    let votes : List Message = map (message_read sha256 (round_in (last_bytes b l))) (written (run b l)) in
    let ruled-votes : List Message = map (message_read sha256 (rules.last_round sha256 r (map ruled l))) (written (rules.run sha256 r (map ruled l))) in
    let same : votes ≡ ruled-votes = λ i. map (message_read sha256 (round_in_bytes file house bay acceptor b o l s i)) (t.writes i) in
    subst (λ (k : Graph). Few (view_of k) votes) (sym (graph file house bay acceptor b o plan read))
    (subst (Few (view_of r.graph)) (sym same)
    (rounds.few_replies sha256 sha256_is_id_rule file house bay acceptor r (starts file house bay acceptor b o) (map ruled l)
    (subst (NoCollision sha256) (ap₂ ◌++◌ t.accepts t.writes) free)))
