use mathlib.Core.Path.{◌≡◌, sym, ap, subst, ◌∙◌}
use mathlib.Core.Bool.{not, ◌||◌}
use Prim.Native.Nat.{ℕ, ◌+◌}
use native.Mathlib.Omega.{arith}
use lib.Dec.{eqb}
use lib.ListN.{get_or}
use Rattle.round.specs.Holdings.{signer_at}
use Rattle.roundbytes.specs.Layout.{round_in}
use Rattle.notes.specs.Inside.Layout.{WordNotes, ByteNotes, word_notes, byte_notes}
use Rattle.notes.specs.Inside.Index.{link_at}
use Rattle.notes.specs.Inside.Writing.{words_noted, FiledIn}
use Rattle.notes.proofs.Fields.{word_rooms, byte_rooms}
use Rattle.derive.specs.Inside.Complete.{Extended}
use Rattle.derive.proofs.Extending.{one_more}
use Rattle.derive.proofs.pass.note_place.Goals as goal

pub returns : goal.returns
returns c =
    let a = c.args in
    let pre = c.requires in
    let given = pre.0.given in
    let r = round_in a.s.now in
    let x = word_notes a.notes.now.words in
    let y = byte_notes a.notes.now.octets in
    let w = c.note_held-r.result in
    let down = c.note_down in
    let file = c.file_place in
    let x' = word_notes file.new.self.words in
    let signer = c.signer_at in
    let link = c.name_at-link in
    let at : c.from.result ≡ get_or r.previous a.p 0 = c.from.ensures ∙ c.previous_at.ensures in
    let named : link.result ≡ link_at r y a.p = link.ensures ∙ ap (λ (i : ℕ). get_or y.names i 0) at in
    let forks = not (eqb w.forks.low 0) || not (eqb w.forks.high 0) in
    let filed : FiledIn (words_noted x w a.p) x' (signer_at r a.p) (link_at r y a.p) w.ballot w.form forks a.p =
    subst (λ (z : WordNotes). FiledIn z x' (signer_at r a.p) (link_at r y a.p) w.ballot w.form forks a.p) down.ensures.0
    (subst (λ (z : ℕ). FiledIn (word_notes down.new.self.words) x' z (link_at r y a.p) w.ballot w.form forks a.p) signer.ensures
    (subst (λ (z : ℕ). FiledIn (word_notes down.new.self.words) x' signer.result z w.ballot w.form forks a.p) named file.ensures.0)) in
    subst (λ (z : ByteNotes). Extended r a.p (a.p + 1) x x' y z) (sym (ap byte_notes file.ensures.1 ∙ down.ensures.1))
    (one_more r x x' y w a.p (word_rooms a.notes.now.words a.notes.now.word_room) (byte_rooms a.notes.now.octets a.notes.now.octet_room) (omega (arith, pre.1, given.fit.held)) filed
    given.fit pre.1 pre.0.marked c.note_held-r.ensures)
