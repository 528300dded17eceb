use mathlib.Core.Path.{sym, ◌∙◌}
use mathlib.Core.Logic.{⊎_elim}
use Rattle.meaning.proofs.Giving.{given_of}
use Rattle.answering.proofs.answer.note_last.Goals as goal

pub work_more-requires : goal.work_more-requires
work_more-requires c =
    let a = c.args in
    let p = c.requires in
    let begun = p.1.1 in
    let more = ⊎_elim (λ e. absurd (c.if-held_of-n.false (c.held_of.ensures.0 ∙ sym e))) (λ m. m) begun.near in
    record {
      given = given_of a.s.now a.graph.now p.0.long p.1.0 p.0.fit;
      more = more.0;
      before = more.1;
      complete = begun.worked;
    }
