-- What holds of every round that passes row 17: its table is ordered, so it holds messages as trees, and its report says what document 01 says.
use mathlib.Core.Path.{◌≡◌, refl, sym, ap, subst, ◌∙◌}
use mathlib.Core.Bool.{Bool, true, false, not, ◌||◌}
use Prim.Native.Nat.{ℕ, ◌<◌}
use native.Mathlib.Omega.{arith}
use lib.Dec.{T, leb, leb→le, not_T}
use Rattle.std.specs.Prelude.{Ok, Err}
use Rattle.base.specs.Tests.{pick}
use Rattle.base.specs.declared.refusal.Refusal.TheVariants.{Argument}
use Rattle.graph.specs.Memory.{view_of}
use Rattle.graph.specs.declared.Graph.{Graph}
use Rattle.protocol.specs.Report.{Verdict, undecided, decided, split, report}
use Rattle.protocol.specs.Table.{node_by, tree}
use Rattle.protocol.specs.Equations.{Peopled}
use Rattle.protocol.proofs.Report as protocol
use Rattle.protocol.proofs.Table.{tree_is}
use Rattle.round.specs.Round.{Round}
use Rattle.round.specs.Holdings.{graph_of, table_of, known_messages}
use Rattle.round.specs.Handed.{fits}
use Rattle.round.specs.Report.{told, reported}
use Rattle.round.specs.Answers.{report_number, Page, page_of}
use Rattle.round.specs.Lists.{last_round}
use Rattle.round.specs.Passed.{PassedIsOrdered, PassedHoldsTrees, ReportSays, OpenedIsPeopled, ReportSaysOverLists}
use Rattle.round.proofs.Fitting.{fits_out}
use Rattle.round.proofs.Records.{at_table}
use Rattle.round.proofs.Tables.{ordered_table}
use Rattle.round.proofs.Known.{reached_last}
use Rattle.round.proofs.Demands.{call_laws}

-- ---- the messages
pub passed_is_ordered : PassedIsOrdered
passed_is_ordered r ok = ordered_table r (fits_out r ok)

pub passed_holds_trees : PassedHoldsTrees
passed_holds_trees r ok p l = tree_is (table_of r) (passed_is_ordered r ok) p ∙ ap (node_by (tree (table_of r))) (at_table r p l)

-- ---- the report
-- a page shows one verdict
shown_one : (v w : Verdict) → page_of (Ok (told v)) ≡ page_of (Ok (told w)) → v ≡ w
shown_one undecided undecided e = refl
shown_one undecided (decided y) e = absurd (omega (arith, ap (λ (p : Page). p.state) e))
shown_one undecided (split y w) e = absurd (omega (arith, ap (λ (p : Page). p.state) e))
shown_one (decided x) undecided e = absurd (omega (arith, ap (λ (p : Page). p.state) e))
shown_one (decided x) (decided y) e = ap (λ (p : Page). decided p.least) e
shown_one (decided x) (split y w) e = absurd (omega (arith, ap (λ (p : Page). p.state) e))
shown_one (split x v) undecided e = absurd (omega (arith, ap (λ (p : Page). p.state) e))
shown_one (split x v) (decided y) e = absurd (omega (arith, ap (λ (p : Page). p.state) e))
shown_one (split x v) (split y w) e = ap (λ (p : Page). split p.least p.other) e

told_taken : (v : Verdict) → report_number (Ok (told v)) ≡ 0
told_taken undecided = refl
told_taken (decided x) = refl
told_taken (split x y) = refl

tells : (r : Round) (a : ℕ) → T (fits r) → a < r.graph.learners → reported r a ≡ Ok (told (report (graph_of r) (known_messages r) a))
unfolding reported
tells r a ok l = past (fits r) (leb r.graph.learners a) ok (not_T (leb r.graph.learners a) (λ t. omega (arith, leb→le r.graph.learners a t)))
  where
    past : (x y : Bool) → T x → T (not y) → pick (not x || y) (Err Argument) (Ok (told (report (graph_of r) (known_messages r) a))) ≡ Ok (told (report (graph_of r) (known_messages r) a))
    past true true f k = absurd k
    past true false f k = refl
    past false y f k = absurd f

pub report_says : ReportSays
report_says r a ok l peopled =
    let e = tells r a ok l in
    let w = report (graph_of r) (known_messages r) a in
    record {
      taken = ap report_number e ∙ told_taken w;
      shows = λ v.
          let (to, from) = protocol.report_says (graph_of r) (known_messages r) a peopled v in
          (λ q. to (shown_one w v (sym (ap page_of e) ∙ q)), λ h. ap page_of e ∙ ap (λ (x : Verdict). page_of (Ok (told x))) (from h));
    }

-- ---- from an opening
pub opened_is_peopled : OpenedIsPeopled
opened_is_peopled file house bay own r starts = (call_laws.opening file house bay own r starts).peopled

pub report_says_over_lists : ReportSaysOverLists
report_says_over_lists H rule file house bay own r starts l a inside =
    let (reached, grows) = reached_last call_laws rule starts l in
    let graph : r.graph ≡ (last_round H r l).graph = grows.same.graph in
    report_says (last_round H r l) a reached.fitting (subst (λ (g : Graph). a < g.learners) graph inside)
    (subst (λ (g : Graph). Peopled (view_of g) a) graph (opened_is_peopled file house bay own r starts a inside))
