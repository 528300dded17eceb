-- No report is always undecided, and no reply length is invented.
use mathlib.Core.Path.{◌≡◌, refl, sym, subst, ◌∙◌}
use mathlib.Core.Bool.{Bool, true, false, not, ◌||◌}
use mathlib.Core.List.{List}
use Prim.Native.Nat.{ℕ, ◌≤◌}
use native.Mathlib.Omega.{arith}
use lib.Dec.{leb}
use lib.ListN.{length, take, drop}
use lib.Seq.{take-append_seam}
use Rattle.std.specs.Prelude.{Ok, Err}
use Rattle.base.specs.Tests.{pick}
use Rattle.base.specs.declared.refusal.Refusal.TheVariants.{Argument}
use Rattle.message.proofs.Checks.{of_acceptor}
use Rattle.message.proofs.RoundTrip.{acceptor_length}
use Rattle.protocol.specs.Report.{Verdict, undecided, decided, split, report}
use Rattle.protocol.proofs.Report.{report_undecided}
use Rattle.round.specs.declared.Report.TheVariants as answer
use Rattle.round.specs.Holdings.{graph_of, known_messages}
use Rattle.round.specs.Handed.{fits}
use Rattle.round.specs.Delivery.{delivery, replied}
use Rattle.round.specs.Report.{told, reported}
use Rattle.round.specs.ShutOut.{UndecidedOnly, ReplyLength}
use Rattle.round.proofs.OneCall.{shape, reply_reads_back_lem}
use Rattle.round.proofs.Answers.{replied_number, undecided_page}

-- ---- the report
told_undecided : (t : Bool) (v : Verdict) → pick t (Err Argument) (Ok (told v)) ≡ Ok answer.Undecided → v ≡ undecided
told_undecided true v e = let z : ◌≡◌ {A = ℕ} 0 1 = cc in absurd (omega arith)
told_undecided false undecided e = refl
told_undecided false (decided x) e = let z : ◌≡◌ {A = ℕ} 0 1 = cc in absurd (omega arith)
told_undecided false (split x y) e = let z : ◌≡◌ {A = ℕ} 0 1 = cc in absurd (omega arith)

pub undecided_only : UndecidedOnly
unfolding reported
undecided_only r a peopled e s =
    (report_undecided (graph_of r) (known_messages r) a peopled).0
    (told_undecided (not (fits r) || leb r.graph.learners a) (report (graph_of r) (known_messages r) a) (undecided_page (reported r a) e s))

-- ---- the length of a reply
pub reply_length : ReplyLength
reply_length H rule r typed b buffer n number =
    let k = replied_number (delivery H r b buffer).outcome n number in
    let d = delivery H r b buffer in
    let z = take n (replied H r b buffer) in
    let (f, read, _, _, _, _, _) = reply_reads_back_lem H rule r typed b buffer n k in
    let size : length d.reply ≡ n = (shape r H b buffer).replied n k in
    let front : take n (replied H r b buffer) ≡ d.reply =
    subst (λ (m : ℕ). take m (replied H r b buffer) ≡ d.reply) size (take-append_seam d.reply (drop (length d.reply) buffer)) in
    let long : length z ≡ n = subst (λ (x : List ℕ). length x ≡ n) (sym front) size in
    let is = (of_acceptor z f read).0 in (
      subst (λ (m : ℕ). m ≤ 4139) long (acceptor_length z f read).1,
      sym is.counted.marked.kind.versioned.whole ∙ long,
      (f, read, sym long ∙ is.long),
    )
