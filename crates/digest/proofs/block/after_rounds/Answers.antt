use Rattle.std.proofs.Common.{ℕ, [], ◌∷◌, length, sym, refl, ap, ◌∙◌, add-one, length-append, rules}
use Rattle.std.proofs.lemmas.Slice.Zip.{zip_turn}
use Rattle.digest.specs.Constants.{constants}
use Rattle.digest.specs.Sha256.{round, rounds}
use Rattle.digest.proofs.block.after_rounds.Goals as goal

pub loop-k-init : goal.loop-k-init
unfolding rounds
loop-k-init c = refl

pub loop-k-preserved : goal.loop-k-preserved
unfolding rounds constants
loop-k-preserved c =
    let w = c.args.w.now in
    let l = c.loop-k in
    let i = length l.yielded in
    let turn = zip_turn constants w l.yielded c.into_iter-k-iterator.result l.k-iterator c.next.new.self c.next.result (search rules) (search rules) l.yielded_by (c.in-Some.k, c.in-Some.word) c.in-Some.is c.next.ensures.steps in
    let more = length-append l.yielded ((c.in-Some.k, c.in-Some.word) ∷ []) ∙ add-one i in
    c.after_round-s.ensures ∙ (λ i. round (turn.2 0 i) (turn.3 0 i) (l.invariant i)) ∙ sym (ap (λ (n : ℕ). rounds n w c.args.s0) more)
