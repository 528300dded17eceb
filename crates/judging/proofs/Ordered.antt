-- The rows of an acceptor message in three parts are its rows, and each part tells the first that applies.
use mathlib.Core.Path.{◌≡◌, refl, ap, ◌∙◌}
use mathlib.Core.Bool.{Bool, true, false}
use mathlib.Core.Option.{Option, none, some}
use mathlib.Core.List.{List}
use Prim.Native.Nat.{ℕ}
use native.Mathlib.Omega.{arith}
use Rattle.base.specs.Tests.{pick}
use Rattle.base.specs.declared.refusal.Refusal.{Refusal}
use Rattle.base.specs.declared.refusal.Refusal.TheVariants.{OtherRound, Signer, Known, Reference, Previous}
use Rattle.message.specs.declared.AcceptorMessage.{AcceptorMessage}
use Rattle.protocol.specs.Ids.{Id}
use Rattle.protocol.specs.Message.{Message}
use Rattle.round.specs.Round.{Round}
use Rattle.round.specs.Rows.{other_round, foreign, is_known_id, lacks, unchained, acceptor_rows, first_of}
use Rattle.order.specs.Inside.Rows.{head_row, chain_row}
use Rattle.judging.specs.Inside.Turning.{sound_row}

-- the first row that applies, of those of two parts
abbrev pub or_else : Option Refusal → Option Refusal → Option Refusal
or_else none o = o
or_else (some e) o = some e

pub acceptor_row : (r : Round) (i : Id) (m : AcceptorMessage) (previous : Option Id) (ids : List Id) (tree : Message)
    → first_of (acceptor_rows r i m previous ids tree)
    ≡ or_else (head_row (other_round r m.house m.bay) (foreign r m.signer) (is_known_id r i)) (or_else (chain_row (lacks r ids) (unchained r m.signer ids previous)) (sound_row r i tree))
unfolding acceptor_rows first_of
acceptor_row r i m previous ids tree =
    head (other_round r m.house m.bay) (foreign r m.signer) (is_known_id r i) _
    ∙ ap (or_else (head_row (other_round r m.house m.bay) (foreign r m.signer) (is_known_id r i))) (chain (lacks r ids) (unchained r m.signer ids previous) (sound_row r i tree))
  where
    head : (a b c : Bool) (o : Option Refusal)
        → pick a (some OtherRound) (pick b (some Signer) (pick c (some Known) o)) ≡ or_else (head_row a b c) o
    head true b c o = refl
    head false true c o = refl
    head false false true o = refl
    head false false false o = refl

    chain : (a b : Bool) (o : Option Refusal) → pick a (some Reference) (pick b (some Previous) o) ≡ or_else (chain_row a b) o
    chain true b o = refl
    chain false true o = refl
    chain false false o = refl

-- where neither applies, no reference lacks, and the previous message is named rightly
pub chain_none : (a b : Bool) → chain_row a b ≡ none → (a ≡ false) × (b ≡ false)
chain_none true b e = absurd (let z : ◌≡◌ {A = ℕ} 0 1 = cc in omega arith)
chain_none false true e = absurd (let z : ◌≡◌ {A = ℕ} 0 1 = cc in omega arith)
chain_none false false e = (refl, refl)
