-- The order of a delivery's checks: row 17, then what the bytes say.
use mathlib.Core.Path.{◌≡◌, ap, sym, subst}
use mathlib.Core.Bool.{Bool, true, false, not, ◌||◌}
use mathlib.Core.List.{List}
use Prim.Native.Nat.{ℕ, ◌≤◌, ◌<◌}
use lib.Dec.{ltb}
use lib.ListN.{length}
use borrow.Author.Tests.{lt-ltb, le-ltb}
use Rattle.std.specs.Prelude.{Err}
use Rattle.base.specs.Tests.{pick}
use Rattle.base.specs.declared.refusal.Refusal.{Refusal}
use Rattle.base.specs.declared.refusal.Refusal.TheVariants.{Argument}
use Rattle.message.specs.Reader.{reading}
use Rattle.round.specs.Outcomes.{Reading}
use Rattle.protocol.specs.Ids.{Id}
use Rattle.round.specs.Round.{Round}
use Rattle.round.specs.Delivery.{Delivered}
use Rattle.round.specs.Limits.{reply_len}
use Rattle.round.specs.Handed.{fits}
use Rattle.round.specs.Delivery.{taken, delivery, delivered, replied, refused}
use Rattle.answering.specs.Inside.Giving.{Gives, refusal}
use Rattle.answering.proofs.Replying.{front_none}

module _ (H : List ℕ → Id) (r : Round) (b buffer : List ℕ) (x : Delivered) where
  -- a round that no table can be, and a buffer that is too short
  pub turned_down : (not (fits r) || ltb (length buffer) reply_len) ≡ true → x ≡ refusal r Argument → Gives (delivery H r b buffer) x buffer buffer
  unfolding delivery
  turned_down e p =
      subst (λ (t : Bool). Gives (pick t (refused r Argument) (taken H r b (reading b))) x buffer buffer) (sym e) (p, front_none buffer)

  pub misfit : not (fits r) ≡ true → x ≡ refusal r Argument → Gives (delivery H r b buffer) x buffer buffer
  misfit e p = turned_down (simp e) p

  pub short : not (fits r) ≡ false → length buffer < reply_len → x ≡ refusal r Argument → Gives (delivery H r b buffer) x buffer buffer
  short e f p = let t : ltb (length buffer) reply_len ≡ true = lt-ltb (length buffer) reply_len f in turned_down (simp (e, t)) p

  -- otherwise what the bytes say
  pub let_in : (after : List ℕ) (y : Reading) → not (fits r) ≡ false → reply_len ≤ length buffer → reading b ≡ y → Gives (taken H r b y) x buffer after
      → Gives (delivery H r b buffer) x buffer after
  unfolding delivery
  let_in after y e f q g =
      let u : ltb (length buffer) reply_len ≡ false = le-ltb (length buffer) reply_len f in
      let t : (not (fits r) || ltb (length buffer) reply_len) ≡ false = simp (e, u) in
      subst (λ (s : Bool). Gives (pick s (refused r Argument) (taken H r b (reading b))) x buffer after) (sym t)
      (subst (λ (z : Reading). Gives (taken H r b z) x buffer after) (sym q) g)

  -- bytes that are no message
  pub unread : (e : Refusal) → x ≡ refusal r e → Gives (taken H r b (Err e)) x buffer buffer
  unread e p = (p, front_none buffer)

  -- what is told of it: the outcome, the next round and the reply
  pub told : (after : List ℕ) → Gives (delivery H r b buffer) x buffer after
      → (x.outcome ≡ (delivered H r b buffer).outcome) × ((x.round ≡ (delivered H r b buffer).round) × (after ≡ replied H r b buffer))
  told after g = (ap (λ (y : Delivered). y.outcome) g.0, (ap (λ (y : Delivered). y.round) g.0, g.1))
