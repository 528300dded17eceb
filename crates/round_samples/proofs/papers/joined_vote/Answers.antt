use Rattle.std.proofs.Common.{◌≡◌, ℕ, List, [], ◌∷◌, ◌++◌, length, replicate, refl, ◌∙◌, append_assoc, arith, length-append, rules}
use Rattle.base.specs.Bytes.{bytes}
use Rattle.base.proofs.Bytes.{put_at_more, put_at_whole}
use Rattle.round_samples.proofs.Votes.{named}
use Rattle.round_samples.proofs.papers.joined_vote.Goals as goal

pub returns : goal.returns
unfolding bytes
returns c =
    let a = c.args in
    let previous : List ℕ = a.previous in
    let low : List ℕ = a.low in
    let high : List ℕ = a.high in
    let h : length previous ≡ 32 = search rules in
    let k : length low ≡ 32 = search rules in
    let l : length high ≡ 32 = search rules in
    let z : List ℕ = replicate 107 0 in
    let p₁ : List ℕ = 0 ∷ 105 ∷ 1 ∷ 2 ∷ 0 ∷ 1 ∷ 0 ∷ 12 ∷ 0 ∷ 1 ∷ [] in
    let p₂ : List ℕ = p₁ ++ previous in
    let p₃ : List ℕ = p₂ ++ (2 ∷ []) in
    let p₄ : List ℕ = p₃ ++ low in
    let n₂ = length-append p₁ previous in
    let n₃ = length-append p₂ (2 ∷ []) in
    let n₄ = length-append p₃ low in
    let m₁ = c.put_all.ensures in
    let m₂ = put_at_more z c.put_all.new.buf c.put_all-2.new.buf p₁ previous 0 10 (omega arith) refl m₁ c.put_all-2.ensures in
    let m₃ = put_at_more z c.put_all-2.new.buf c.put_all-3.new.buf p₂ (2 ∷ []) 0 42 (omega arith) (omega (arith, n₂)) m₂ c.put_all-3.ensures in
    let m₄ = put_at_more z c.put_all-3.new.buf c.put_all-4.new.buf p₃ low 0 43 (omega arith) (omega (arith, n₂, n₃)) m₃ c.put_all-4.ensures in
    put_at_more z c.put_all-4.new.buf c.put_all-5.new.buf p₄ high 0 75 (omega arith) (omega (arith, n₂, n₃, n₄)) m₄ c.put_all-5.ensures
    ∙ put_at_whole z (p₄ ++ high) (omega (arith, n₂, n₃, n₄, length-append p₄ high))
    ∙ append_assoc p₃ low high
    ∙ named 0 previous 2 (low ++ high) h
