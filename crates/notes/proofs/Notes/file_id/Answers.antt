use mathlib.Core.Path.{refl}
use Rattle.notes.proofs.Lending.{id_filed, id_long}
use Rattle.notes.proofs.Notes.file_id.Goals as goal

pub returns : goal.returns
returns c = let a = c.args in let p = c.put_place in (id_filed a.self.now.words p.new.sets a.self.now.word_room p.auto.sets a.k a.j p.ensures.0 p.ensures.1, refl)

pub invariant_of-self-clause-word_room : goal.invariant_of-self-clause-word_room
invariant_of-self-clause-word_room c = let a = c.args in let p = c.put_place in id_long a.self.now.words p.new.sets a.self.now.word_room p.auto.sets
