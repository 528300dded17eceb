use Rattle.std.proofs.Common.{◌≡◌, ℕ, List, [], ◌∷◌, ◌++◌, length, replicate, refl, ◌∙◌, arith, length-append, rules}
use Rattle.base.specs.Bytes.{bytes}
use Rattle.base.proofs.Bytes.{put_at_more, put_at_whole}
use Rattle.round_samples.proofs.Votes.{named}
use Rattle.round_samples.proofs.papers.next_vote.Goals as goal

pub returns : goal.returns
unfolding bytes
returns c =
    let a = c.args in
    let previous : List ℕ = a.previous in
    let id : List ℕ = a.id in
    let h : length previous ≡ 32 = search rules in
    let k : length id ≡ 32 = search rules in
    let z : List ℕ = replicate 75 0 in
    let p₁ : List ℕ = 0 ∷ 73 ∷ 1 ∷ 2 ∷ 0 ∷ 1 ∷ 0 ∷ 12 ∷ a.signer ∷ 1 ∷ [] in
    let p₂ : List ℕ = p₁ ++ previous in
    let p₃ : List ℕ = p₂ ++ (1 ∷ []) in
    let n₂ = length-append p₁ previous in
    let n₃ = length-append p₂ (1 ∷ []) in
    let m₁ = c.put_all.ensures in
    let m₂ = put_at_more z c.put_all.new.buf c.put_all-2.new.buf p₁ previous 0 10 (omega arith) refl m₁ c.put_all-2.ensures in
    let m₃ = put_at_more z c.put_all-2.new.buf c.put_all-3.new.buf p₂ (1 ∷ []) 0 42 (omega arith) (omega (arith, n₂)) m₂ c.put_all-3.ensures in
    put_at_more z c.put_all-3.new.buf c.put_all-4.new.buf p₃ id 0 43 (omega arith) (omega (arith, n₂, n₃)) m₃ c.put_all-4.ensures
    ∙ put_at_whole z (p₃ ++ id) (omega (arith, n₂, n₃, length-append p₃ id))
    ∙ named a.signer previous 1 id h
