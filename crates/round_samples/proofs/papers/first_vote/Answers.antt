use Rattle.std.proofs.Common.{◌≡◌, ℕ, List, [], ◌∷◌, ◌++◌, length, replicate, refl, ◌∙◌, arith, length-append, rules}
use Rattle.base.specs.Bytes.{bytes}
use Rattle.base.proofs.Bytes.{put_at_more, put_at_whole}
use Rattle.round_samples.proofs.papers.first_vote.Goals as goal

pub returns : goal.returns
unfolding bytes
returns c =
    let a = c.args in
    let id : List ℕ = a.id in
    let k : length id ≡ 32 = search rules in
    let z : List ℕ = replicate 43 0 in
    let head : List ℕ = 0 ∷ 41 ∷ 1 ∷ 2 ∷ 0 ∷ 1 ∷ 0 ∷ 12 ∷ a.signer ∷ 0 ∷ 1 ∷ [] in
    put_at_more z c.put_all.new.buf c.put_all-2.new.buf head id 0 11 (omega arith) refl c.put_all.ensures c.put_all-2.ensures
    ∙ put_at_whole z (head ++ id) (omega (arith, length-append head id))
