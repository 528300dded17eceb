use Rattle.judging.proofs.Voting.{stands}
use Rattle.admission.proofs.Finding.{found_inside}
use Rattle.roundbytes.specs.Layout.{round_in}
use Rattle.judging.proofs.rows.sound_row.Goals as goal

pub lacks_room-lacks-requires : goal.lacks_room-lacks-requires
lacks_room-lacks-requires c =
    let a = c.args in
    let p = c.requires in
    (stands a.s.now p.0.passes, found_inside (round_in a.s.now) a.id.now a.found p.1.1)
