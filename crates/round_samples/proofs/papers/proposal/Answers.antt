use Rattle.std.proofs.Common.{◌≡◌, ℕ, ◌+◌, ◌*◌, ◌/◌, ◌%◌, ◌<◌, List, [], ◌∷◌, ap, arith}
use Rattle.base.specs.Bytes.{bytes}
use Rattle.base.specs.Ballots.{ballot_of}
use Rattle.round_samples.proofs.papers.proposal.Goals as goal

-- a round number and a value of one byte each
small : (r v : ℕ) → r < 256 → v < 256 → 0 ∷ 0 ∷ 0 ∷ r ∷ 0 ∷ 0 ∷ 0 ∷ v ∷ [] ≡ bytes 8 (ballot_of r v)
unfolding bytes
small r v hr hv =
    let x : ℕ = r * 4294967296 + v in
    let b7 : 0 ≡ x / 256 / 256 / 256 / 256 / 256 / 256 / 256 % 256 = omega arith in
    let b6 : 0 ≡ x / 256 / 256 / 256 / 256 / 256 / 256 % 256 = omega arith in
    let b5 : 0 ≡ x / 256 / 256 / 256 / 256 / 256 % 256 = omega arith in
    let b4 : r ≡ x / 256 / 256 / 256 / 256 % 256 = omega arith in
    let b3 : 0 ≡ x / 256 / 256 / 256 % 256 = omega arith in
    let b2 : 0 ≡ x / 256 / 256 % 256 = omega arith in
    let b1 : 0 ≡ x / 256 % 256 = omega arith in
    let b0 : v ≡ x % 256 = omega arith in
    λ i. b7 i ∷ b6 i ∷ b5 i ∷ b4 i ∷ b3 i ∷ b2 i ∷ b1 i ∷ b0 i ∷ []

pub returns : goal.returns
unfolding bytes
returns c =
    ap
    (λ (l : List ℕ). 0 ∷ 15 ∷ 1 ∷ 1 ∷ 0 ∷ 1 ∷ 0 ∷ 12 ∷ 0 ∷ l)
    (small c.args.round c.args.value c.ranges.round.fits c.ranges.value.fits)
