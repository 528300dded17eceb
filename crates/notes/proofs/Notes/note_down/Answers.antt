use Rattle.notes.proofs.Lending.{words_noted_lem, bytes_noted_lem}
use Rattle.notes.proofs.Notes.note_down.Goals as goal

pub returns : goal.returns
returns c = let a = c.args in let h = c.requires in (words_noted_lem a.self.now.words a.p a.r h a.self.now.word_room, bytes_noted_lem a.self.now.octets a.p a.r h a.self.now.octet_room)
