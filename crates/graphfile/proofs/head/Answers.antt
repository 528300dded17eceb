use mathlib.Core.Path.{◌≡◌, sym, ◌∙◌, subst}
use borrow.Author.Rules.{rules}
use Rattle.std.proofs.Common.{Err}
use Rattle.graphfile.specs.Inside.Steps.{HeadOf}
use native.Mathlib.Omega.{arith}
use Rattle.graph.specs.Limits.{max_acceptors, max_learners}
use Rattle.graphfile.specs.File.{acceptors_at, learners_at}
use Rattle.graphfile.proofs.Reader.{count_is}
use Rattle.graphfile.proofs.Files.{length_wrong, version_absent, version_wrong, acceptors_no, learners_no, lists_behind}
use Rattle.graphfile.proofs.head.Goals as goal
use Rattle.graphfile.proofs.head.Goals.{then-file-lt-OUTER_LEN-via-then-file-lt-OUTER_LEN, then-file-lt-OUTER_LEN-via-else-file-lt-OUTER_LEN+then-file-read16}

pub returns-then-file-lt-OUTER_LEN : goal.returns-then-file-lt-OUTER_LEN
returns-then-file-lt-OUTER_LEN c =
    let s = c.args.file.now in
    elim c.then-file-lt-OUTER_LEN.branch [
      | then-file-lt-OUTER_LEN-via-then-file-lt-OUTER_LEN w ↦ let h = w.if-file-lt-OUTER_LEN.true in length_wrong s (λ e. omega arith)
      | then-file-lt-OUTER_LEN-via-else-file-lt-OUTER_LEN+then-file-read16 w ↦ let h = w.read16.ensures.0 in length_wrong s (λ e. w.if-file-read16.true (omega arith))
    ]

pub returns-then-file-le-VERSION_AT : goal.returns-then-file-le-VERSION_AT
returns-then-file-le-VERSION_AT c =
    let s = c.args.file.now in
    let w = c.read16.ensures.0 in
    version_absent s (omega arith) (omega (arith, c.if-file-le-VERSION_AT.true))

pub returns-then-file-ne-VERSION : goal.returns-then-file-ne-VERSION
returns-then-file-ne-VERSION c =
    let s = c.args.file.now in
    let w = c.read16.ensures.0 in
    version_wrong s (omega arith) (omega (arith, c.if-file-le-VERSION_AT.false)) c.if-file-ne-VERSION.true

pub returns-in_err-read_count : goal.returns-in_err-read_count
returns-in_err-read_count c =
    let s = c.args.file.now in
    let w = c.read16.ensures.0 in
    let x = c.in_err-read_count.field-0.0 in
    let d : c.from_residual.result ≡ Err x = search rules in
    subst (HeadOf s) (sym d)
    (acceptors_no s (omega arith) (omega (arith, c.if-file-le-VERSION_AT.false)) c.if-file-ne-VERSION.false x (sym c.read_count.ensures ∙ c.in_err-read_count.was))

pub returns-in_err-read_count-2 : goal.returns-in_err-read_count-2
returns-in_err-read_count-2 c =
    let s = c.args.file.now in
    let w = c.read16.ensures.0 in
    let x = c.in_err-read_count-2.field-0.0 in
    let d : c.from_residual-in_err-read_count-2.result ≡ Err x = search rules in
    subst (HeadOf s) (sym d)
    (learners_no s (omega arith) (omega (arith, c.if-file-le-VERSION_AT.false)) c.if-file-ne-VERSION.false c.in_ok-read_count.field-0 (sym c.read_count.ensures ∙ c.in_ok-read_count.was)
    x (sym c.read_count-2.ensures ∙ c.in_err-read_count-2.was))

pub returns : goal.returns
returns c =
    let s = c.args.file.now in
    let w = c.read16.ensures in
    let g = c.if-file-read16.false in
    let (i, lo, hi, v, r) = count_is s 1 max_acceptors acceptors_at c.in_ok-read_count.field-0 (sym c.read_count.ensures ∙ c.in_ok-read_count.was) in
    let (i', lo', hi', v', r') = count_is s 1 max_learners learners_at c.in_ok-read_count-2.field-0 (sym c.read_count-2.ensures ∙ c.in_ok-read_count-2.was) in (
      record { short = omega arith; inside = omega arith; acceptors = omega arith },
      omega arith,
      lists_behind s (omega arith) (omega (arith, c.if-file-le-VERSION_AT.false)) c.if-file-ne-VERSION.false c.in_ok-read_count.field-0 (sym c.read_count.ensures ∙ c.in_ok-read_count.was)
          c.in_ok-read_count-2.field-0 (sym c.read_count-2.ensures ∙ c.in_ok-read_count-2.was),
    )
