use mathlib.Core.Path.{◌≡◌, ap, ap₂, sym, ◌∙◌}
use mathlib.Core.List.{List}
use Prim.Native.Nat.{ℕ}
use Rattle.std.proofs.Common.{Ok}
use Rattle.base.specs.Tests.{pick}
use Rattle.base.specs.Bytes.{part}
use Rattle.message.specs.declared.Message.{Message}
use Rattle.message.specs.Writer.{fronted}
use Rattle.message.proofs.Encoding.{marker_byte}
use Rattle.plain.specs.Message.{row, no_id, fields_of}
use borrow.Author.Rules.{rules}
use Rattle.plain.proofs.message_calls.put_message.Goals as goal
use Rattle.plain.proofs.message_calls.put_message.Goals.{then-a, else-a}

pub returns-after-a : goal.returns-after-a
returns-after-a c =
    let a = c.in-OfAcceptor.a in
    let s = c.args.bytes.now in
    let b = c.args.fields.now in
    let previous : c.if-a.previous ≡ pick a.previous (part 32 s 10) no_id = elim c.if-a.branch [ then-a w ↦ search rules | else-a w ↦ search rules ] in
    c.put_row-in-OfAcceptor.ensures
    ∙ ap₂ (λ (x : ℕ) (y : List ℕ). fronted (row 2 a.house a.bay a.signer 0 x y a.count) b) (c.from-marker.ensures ∙ marker_byte a.previous) previous
    ∙ ap (λ (x : Message). fields_of s (Ok x) b) (sym c.in-OfAcceptor.is)
