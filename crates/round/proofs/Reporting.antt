-- The reports of a list, wherever they stand, are reports over some of the messages that are known at its end: trees stay as the table
-- grows, and what is known stays known.
use mathlib.Core.Path.{◌≡◌, sym, ap, ◌∙◌}
use mathlib.Core.List.{List}
use Prim.Native.Nat.{ℕ, ◌<◌}
use native.Mathlib.Omega.{arith}
use Rattle.std.specs.Prelude.{Ok}
use Rattle.base.specs.Tests.{◌∈◌}
use Rattle.base.specs.Ballots.{value_of}
use Rattle.graph.specs.LearnerGraph.{LearnerGraph}
use Rattle.graph.specs.Memory.{view_of}
use Rattle.protocol.specs.Ids.{Id}
use Rattle.protocol.specs.Message.{Message}
use Rattle.protocol.specs.Report.{Verdict, decided, split, report}
use Rattle.protocol.specs.Table.{Table, messages}
use Rattle.protocol.specs.Theorems.{SoundGraph, Lawful, Entangled, Within}
use Rattle.protocol.proofs.Agreement.{no_split, reports_agree}
use Rattle.protocol.proofs.Growth.{messages_append}
use Rattle.protocol.proofs.Tables.{messages_within}
use Rattle.round.specs.Round.{Round}
use Rattle.round.specs.declared.Report.TheVariants.{Decided, Split}
use Rattle.round.specs.Holdings.{graph_of, table_of, known_places, known_messages}
use Rattle.round.specs.Report.{reported}
use Rattle.round.specs.Answers.{decided_state, split_state, Page}
use Rattle.round.specs.Lists.{Call, run, last_round, accepted, written, pages}
use Rattle.round.specs.Premises.{IdRule, Starts}
use Rattle.round.proofs.Answers.{decided_page, split_page}
use Rattle.round.proofs.CallLaws.{CallLaws}
use Rattle.round.proofs.Canonical.{table_size}
use Rattle.round.proofs.Lists.{Stands}
use Rattle.round.proofs.Known.{known_out, known_stays, reached_last, page_in_list}
use Rattle.round.proofs.Bytes.{decided_report, split_report}

-- some messages of M give c the report v
abbrev pub Reports : LearnerGraph → List Message → ℕ → Verdict → Type 0
Reports G M c v = (K : List Message) × Within K M × (report G K c ≡ v)

module _ {H : List ℕ → Id} {A W : List (List ℕ)} {c : ℕ} {p : Page} {last : Round} (stands : Stands H A W c p last) (G : LearnerGraph) (graph : graph_of stands.round ≡ G) where
  stands_reports : (v : Verdict) → report (graph_of stands.round) (known_messages stands.round) c ≡ v → Reports G (messages (table_of last) (known_places last)) c v
  stands_reports v e = (
    messages (table_of last) (known_places stands.round),
    messages_within (table_of last) (known_places stands.round) (known_places last) (known_stays stands.until),
    ap (λ (g : LearnerGraph). report g (messages (table_of last) (known_places stands.round)) c) (sym graph)
        ∙ ap (λ (K : List Message). report (graph_of stands.round) K c) grown
        ∙ e,
  )
    where
      grown : messages (table_of last) (known_places stands.round) ≡ known_messages stands.round
      grown =
          ap (λ (t : Table). messages t (known_places stands.round)) stands.until.table
          ∙ messages_append (table_of stands.round) stands.until.more stands.reached.kept.ordered (known_places stands.round)
          (λ i m. omega (arith, (known_out stands.round i m).0, table_size stands.round))

-- ---- a list from an opening: its reports for c are reports over any messages M that hold those known at its end
module _ (laws : CallLaws) {H : List ℕ → Id} (rule : IdRule H) {file : List ℕ} {house bay own : ℕ} {r : Round} (starts : Starts file house bay own r) (l : List Call)
    (c : ℕ) (G : LearnerGraph) (graph : graph_of r ≡ G) (M : List Message) (inM : Within (messages (table_of (last_round H r l)) (known_places (last_round H r l))) M) where
  over : (v : Verdict) (p : Page) (s : Stands H (accepted (run H r l)) (written (run H r l)) c p (last_round H r l))
      → report (graph_of s.round) (known_messages s.round) c ≡ v → Reports G M c v
  over v p s e =
      let same : s.round.graph ≡ r.graph = s.until.same.graph ∙ sym (reached_last laws rule starts l).1.same.graph in
      let (K, i, d) = stands_reports s G (ap view_of same ∙ graph) v e in
      (K, λ m j. inM m (i m j), d)

  pub decided_over : (p : Page) → p ∈ pages c (run H r l) → p.state ≡ decided_state → Reports G M c (decided p.least)
  decided_over p i d =
      let s = page_in_list laws rule starts l c p i in
      let x = reported s.round c in
      let e : x ≡ Ok (Decided p.least) = decided_page x s.taken (sym (ap (λ (q : Page). q.state) s.shows) ∙ d) ∙ ap (λ (q : Page). Ok (Decided q.least)) (sym s.shows) in
      over (decided p.least) p s (decided_report s.round c p.least e).1

  pub split_over : (p : Page) → p ∈ pages c (run H r l) → p.state ≡ split_state → Reports G M c (split p.least p.other)
  split_over p i d =
      let s = page_in_list laws rule starts l c p i in
      let x = reported s.round c in
      let e : x ≡ Ok (Split p.least p.other) = split_page x s.taken (sym (ap (λ (q : Page). q.state) s.shows) ∙ d) ∙ ap (λ (q : Page). Ok (Split q.least q.other)) (sym s.shows) in
      over (split p.least p.other) p s (split_report s.round c p.least p.other e)

-- ---- one value in one lawful set of messages
module _ (G : LearnerGraph) (sound : SoundGraph G) (M : List Message) (law : Lawful M) where
  pub one_value_lem : (c d : ℕ) → c < G.learners → d < G.learners → Entangled G M c d → (x y : ℕ) → Reports G M c (decided x) → Reports G M d (decided y) → value_of x ≡ value_of y
  one_value_lem c d lc ld tied x y (K, i, e) (J, j, f) = (reports_agree G sound M law c d lc ld tied K J i j).one_value x y e f

  pub not_split : (c d : ℕ) → c < G.learners → d < G.learners → Entangled G M c d → (x y : ℕ) → Reports G M c (split x y) → ⊥
  not_split c d lc ld tied x y (K, i, e) = no_split G sound M law c d lc ld tied K i x y e
