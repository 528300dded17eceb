use mathlib.Core.Path.{◌≡◌, ap, sym, ◌∙◌}
use mathlib.Core.List.{[]}
use Prim.Native.Nat.{ℕ}
use Rattle.std.proofs.Common.{Err}
use Rattle.graph.specs.Limits.{max_masks}
use Rattle.graphfile.specs.File.{Got, and_then, read_count, read_masks, read_list}
use Rattle.graphfile.specs.Arrays.{hold}
use Rattle.graphfile.proofs.Reader.{value_no, promised_no, list_held}
use borrow.Author.Rules.{rules}
use Rattle.graphfile.proofs.file.read_list.Goals as goal

pub returns-in_err-count : goal.returns-in_err-count
unfolding read_list
returns-in_err-count c =
    let a = c.args in
    let g = a.graph.now in
    let s = a.s.now in
    let n = g.acceptors in
    let x = c.in_err-count.field-0.0 in
    let d : c.from_residual.result ≡ Err x = search rules in
    let e = value_no (read_count s a.low max_masks a.at) x (sym c.read_count.ensures ∙ c.in_err-count.was) in
    promised_no (hold a.k) g g (read_list s n a.low a.at) c.from_residual.result x d (ap (λ (y : Got ℕ). and_then y (λ k at'. read_masks s n k [] at')) e)

pub returns : goal.returns
returns c =
    let a = c.args in
    let g = a.graph.now in
    list_held a.s.now g.acceptors a.low a.at a.k g c.read_masks.new.masks c.read_masks.result c.in_ok-count.count (sym c.read_count.ensures ∙ c.in_ok-count.was) c.read_masks.ensures
