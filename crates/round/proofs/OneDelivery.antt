-- THE LAW OF ONE DELIVERY: what a delivery that is not refused does.
use mathlib.Core.Path.{◌≡◌, refl, sym, subst, ◌∙◌}
use mathlib.Core.Logic.{◌≢◌}
use mathlib.Core.Bool.{Bool, true, false, not, ◌||◌}
use mathlib.Core.Option.{Option, none, some}
use mathlib.Core.List.{List}
use Prim.Native.Nat.{ℕ, ◌≤◌}
use lib.Dec.{T, ltb}
use lib.ListN.{length}
use Rattle.std.specs.Prelude.{Ok, Err}
use Rattle.base.specs.Tests.{pick}
use Rattle.base.specs.declared.refusal.Refusal.{Refusal}
use Rattle.base.specs.declared.refusal.Refusal.TheVariants.{Argument}
use Rattle.message.specs.Reader.{reading}
use Rattle.round.specs.Outcomes.{Reading}
use Rattle.message.specs.declared.Message.TheVariants.{OfProposer, OfAcceptor}
use Rattle.protocol.specs.Ids.{Id}
use Rattle.protocol.specs.Table.{Held, offers}
use Rattle.round.specs.Round.{Round}
use Rattle.round.specs.Limits.{max_held, reply_len}
use Rattle.round.specs.Holdings.{place_of}
use Rattle.round.specs.Handed.{fits}
use Rattle.round.specs.Rows.{reference_ids, previous_id, vote_record, message_of, proposal_rows, acceptor_rows, first_of}
use Rattle.round.specs.Delivery.{record_read, Effect, refused, entered, decided_by, taken, delivery}
use Rattle.round.specs.Premises.{IdRule, Typed}
use Rattle.round.proofs.Step.{StepLaw}
use Rattle.round.proofs.Fitting.{Fitting, fits_out}
use Rattle.round.proofs.Accepting.{Accepts, proposal_accepts, acceptor_accepts}
use Rattle.round.proofs.Entering.{Tells, enters}

-- the answer is no refusal
abbrev pub Kept : Effect → Type 0
Kept d = (e : Refusal) → d.outcome ≢ Err e

-- past row 17
pub past_argument : (r : Round) (fit short : Bool) (d : Effect) → Kept (pick (not fit || short) (refused r Argument) d) → T fit × (pick (not fit || short) (refused r Argument) d ≡ d)
past_argument r true true d k = absurd (k Argument refl)
past_argument r true false d k = (tt, refl)
past_argument r false short d k = absurd (k Argument refl)

-- what is not refused is entered: no row turns down the message h that the bytes b say
pub record Taken (H : List ℕ → Id) (r : Round) (b : List ℕ) (h : Held) (d : Effect) : Type 0 where
  pub accepts : Accepts H r b h
  pub enters : d ≡ entered H r h (place_of r (H b))

module _ (H : List ℕ → Id) (rule : IdRule H) (r : Round) (most : r.held ≤ max_held) (b : List ℕ) where
  decides : (h : Held) (o : Option Refusal) → (o ≡ none → Accepts H r b h) → Kept (decided_by H r (H b) h o) → Taken H r b h (decided_by H r (H b) h o)
  decides h none f k = record { accepts = f refl; enters = refl }
  decides h (some e) f k = absurd (k e refl)

  takes : (x : Reading) → reading b ≡ x → Kept (taken H r b x) → Taken H r b (record_read H r b x) (taken H r b x)
  takes (Err e) q k = absurd (k e refl)
  takes (Ok (OfProposer m)) q k = decides (offers (H b) m.proposer m.ballot) (first_of (proposal_rows r (H b) m)) (proposal_accepts H rule r most b m q) k
  takes (Ok (OfAcceptor m)) q k =
      let h = vote_record r (H b) m.signer (previous_id b m) (reference_ids b m) in
      decides h (first_of (acceptor_rows r (H b) m (previous_id b m) (reference_ids b m) (message_of r h))) (acceptor_accepts H rule r most b m q) k

pub taking : (H : List ℕ → Id) → IdRule H → (r : Round) (b buffer : List ℕ) → Kept (delivery H r b buffer)
    → Fitting r × Taken H r b (record_read H r b (reading b)) (delivery H r b buffer)
unfolding delivery
taking H rule r b buffer k =
    let (f, e) = past_argument r (fits r) (ltb (length buffer) reply_len) (taken H r b (reading b)) k in
    let t = takes H rule r (fits_out r f).most b (reading b) refl (subst Kept e k) in
    (fits_out r f, record { accepts = t.accepts; enters = e ∙ t.enters })

pub tells : (H : List ℕ → Id) → IdRule H → (r : Round) → Typed r → (b buffer : List ℕ) → Kept (delivery H r b buffer) → Tells H r b (delivery H r b buffer)
tells H rule r typed b buffer k =
    let (fit, t) = taking H rule r b buffer k in
    subst (λ (d : Effect). Tells H r b d) (sym t.enters) (enters H rule r typed fit b (record_read H r b (reading b)) t.accepts (place_of r (H b)) refl)

pub step : StepLaw
step H rule r typed b buffer k = (tells H rule r typed b buffer k).step
