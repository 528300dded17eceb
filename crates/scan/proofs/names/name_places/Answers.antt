use mathlib.Core.Path.{◌≡◌, ap, sym, subst, ◌∙◌}
use Prim.Native.Nat.{ℕ}
use Rattle.round.specs.Limits.{no_place}
use Rattle.roundbytes.specs.Layout.{round_in}
use Rattle.notes.specs.Inside.Layout.{WordNotes, word_notes, byte_notes}
use Rattle.notes.specs.Inside.Writing.{with_name}
use Rattle.notes.proofs.Fields.{byte_rooms}
use Rattle.scan.specs.Inside.Arrays.{NamedAll}
use Rattle.scan.proofs.Naming.{all_begun, all_more}
use native.Mathlib.Omega.{arith}
use Rattle.scan.proofs.names.name_places.Goals as goal

pub loop-i-init : goal.loop-i-init
loop-i-init c = let a = c.args in
    let put = c.put_name in
    let y = byte_notes a.notes.now.octets in
    let same : word_notes a.notes.now.words ≡ word_notes put.new.self.words = ap word_notes (sym put.ensures.1) in (
      omega arith,
      subst (λ (x : WordNotes). NamedAll (round_in a.s.now) 0 x x (byte_notes put.new.self.octets) (byte_notes put.new.self.octets)) same
          (all_begun (round_in a.s.now) (word_notes a.notes.now.words) y (byte_notes put.new.self.octets) (byte_rooms a.notes.now.octets a.notes.now.octet_room).names
          (put.ensures.0 ∙ ap (λ (k : ℕ). with_name y k no_place) c.from.ensures)),
    )

pub loop-i-preserved : goal.loop-i-preserved
loop-i-preserved c = let a = c.args in
    let few = c.requires.1 in
    let put = c.put_name in
    let l = c.loop-i in
    let go = c.loop-i-test.true in
    let more = c.name_place-name in (
      omega arith,
      all_more (round_in a.s.now) l.i more.result (word_notes put.new.self.words) (word_notes l.notes.words) (word_notes more.new.notes.words)
          (byte_notes put.new.self.octets) (byte_notes l.notes.octets) (byte_notes more.new.notes.octets) (omega arith) (byte_rooms l.notes.octets l.notes.octet_room).names
          l.invariant.1 more.ensures,
    )
