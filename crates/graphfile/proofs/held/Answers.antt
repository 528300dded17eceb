use Rattle.graphfile.proofs.Files.{held_is}
use Rattle.graphfile.proofs.held.Goals as goal

pub returns : goal.returns
returns c =
    let a = c.args in
    held_is a.file.now a.acceptors a.learners c.requires.0.inside c.read_lists.result c.read_lists.new.graph c.in_ok-read_lists.field-0 c.read_lists.ensures c.in_ok-read_lists.was
