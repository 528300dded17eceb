use mathlib.Core.Path.{refl}
use Rattle.notes.proofs.Lending.{name_put}
use Rattle.notes.proofs.Notes.put_name.Goals as goal

pub returns : goal.returns
returns c = let a = c.args in (name_put a.self.now.octets a.i a.name c.requires a.self.now.octet_room, refl)
