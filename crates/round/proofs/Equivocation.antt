-- Messages that are read in accepted bytes: an acceptor that is caught among them has sent two different messages that name one previous
-- message, or none. So an acceptor that does no such thing in the lists is honest in the words of the crate protocol.
use mathlib.Core.Path.{◌≡◌, sym, ap, subst, ◌∙◌}
use mathlib.Core.Bool.{Bool, not}
use mathlib.Core.List.{List}
use Prim.Native.Nat.{ℕ}
use lib.Dec.{T}
use Rattle.std.specs.Prelude.{Ok}
use Rattle.base.specs.Tests.{◌∈◌}
use Rattle.message.specs.Reader.{reading}
use Rattle.message.specs.declared.AcceptorMessage.{AcceptorMessage}
use Rattle.message.specs.declared.Message.TheVariants.{OfAcceptor}
use Rattle.protocol.specs.Ids.{Id}
use Rattle.protocol.specs.Message.{Message, id_of, signer, previous, is_acceptor, caught_in}
use Rattle.protocol.specs.Table.{Table, at, tree}
use Rattle.protocol.specs.Theorems.{Within}
use Rattle.protocol.proofs.Caught.{Forks, CaughtIn, caught_in_law}
use Rattle.protocol.proofs.Table.{tree_id, tree_signer, tree_previous, tree_proposal}
use Rattle.round.specs.Rows.{previous_id}
use Rattle.round.specs.Demands.{Equivocates}
use Rattle.round.proofs.Known.{Heard}
use Rattle.round.proofs.Bytes.{vote_read}

-- the message x is read in some bytes of M
pub record Read (H : List ℕ → Id) (M : List (List ℕ)) (x : Message) : Type 0 where
  pub bytes : List ℕ
  pub inside : bytes ∈ M
  pub id : id_of x ≡ H bytes
  pub vote : T (is_acceptor x) → (f : AcceptorMessage) × (reading bytes ≡ Ok (OfAcceptor f)) × (f.signer ≡ signer x) × (previous_id bytes f ≡ previous x)

pub heard_read : {H : List ℕ → Id} {A M : List (List ℕ)} {t : Table} {p : ℕ} → Within A M → Heard H A t p → (x : Message) → x ≡ tree t p → Read H M x
heard_read {H} {A} {M} {t} {p} inM h x e = subst (Read H M) (sym e) (record {
  bytes = h.bytes;
  inside = inM h.bytes h.inside;
  id = tree_id t p ∙ h.id;
  vote = λ v.
      let (f, d, s, o) = vote_read t (at t p) h.bytes (subst (λ (b : Bool). T (not b)) (tree_proposal t p) v) h.readable h.contents in
      (f, d, s ∙ sym (tree_signer t p), o ∙ sym (tree_previous t p));
})

-- an acceptor that is caught among messages read in M equivocates in M
pub caught_equivocates : {H : List ℕ → Id} {M : List (List ℕ)} (l : List Message) → ((x : Message) → x ∈ l → Read H M x) → (p : ℕ) → T (caught_in l p) → Equivocates M p
caught_equivocates {H} {M} l read p h = step ((caught_in_law l p).0 h)
  where
    pair : (x y : Message) → Forks x y → signer x ≡ p → Read H M x → Read H M y → Equivocates M p
    pair x y (vx, vy, s, ne, o) e rx ry =
        let (f, d, fs, fo) = rx.vote vx in
        let (g, c, gs, go) = ry.vote vy in
        (rx.bytes, ry.bytes, rx.inside, ry.inside, λ q. ne (rx.id ∙ ap H q ∙ sym ry.id), (f, g, d, c, fs ∙ e, gs ∙ sym s ∙ e, fo ∙ o ∙ sym go))

    step : CaughtIn l p → Equivocates M p
    step (x, y, i, j, f, e) = pair x y f e (read x i) (read y j)
