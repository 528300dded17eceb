-- A message that enters: the round that holds it passes row 17, has room for a reply, and its notes are those of the round before, with one message
-- more or not.
use Prim.Native.Nat.{ℕ, ◌<◌, ◌≤◌}
use lib.ListN.{length}
use mathlib.Core.Path.{◌≡◌, refl, subst, ap, sym, ◌∙◌}
use native.Mathlib.Omega.{arith}
use mathlib.Core.Option.{none, Option, some}
use lib.Dec.{le→leb, T, leb, lt→ltb}
use mathlib.Core.Bool.{not, ◌&&◌}
use mathlib.Core.List.{List}
use mathlib.Core.Logic.{inr, inl}
use Rattle.round.specs.Round.{Round}
use Rattle.protocol.specs.Ids.{Id}
use Rattle.message.specs.Layout.{id_len}
use Rattle.base.specs.Bytes.{Octets}
use Rattle.round.proofs.Holding.{Storable}
use Rattle.protocol.specs.Table.{offers, held_id, held_previous, places, offered, Held}
use Rattle.round.proofs.Marking.{previous_fits, returned_fitting}
use Rattle.admission.specs.declared.rows.Vote.{Vote}
use Rattle.judging.specs.Inside.Referring.{Referring}
use Rattle.admission.specs.Inside.Votes.{record_of, refers_to}
use Rattle.round.specs.Handed.{place_fits, fits}
use Rattle.round.specs.Holdings.{named, is_voting, is_known, place_of}
use Rattle.round.specs.Rows.{full, placed}
use Rattle.round.specs.Limits.{max_held, listening, acceptor_room, reply_len}
use Rattle.round.proofs.Entering.{room_left, room_behind}
use Rattle.round.specs.Premises.{Typed}
use Rattle.round.proofs.Fitting.{Fitting, fits_in, fits_out}
use Rattle.engine.specs.Inside.Entering.{Enterable, Enters}
use Rattle.round.specs.Delivery.{returned, hold, entered_in, entered_at, Delivered, processed, entered}
use Rattle.round.proofs.Named.{place_some}
use Rattle.round.proofs.Growing.{hold_appends, hold_same, hold_fitting}
use Rattle.base.specs.Tests.{pick}
use Rattle.notes.specs.declared.Notes.{Notes}
use Rattle.derive.specs.Inside.Complete.{WorkedOut}
use Rattle.answering.specs.Inside.Giving.{Begun, Answerable, Gives}
use Rattle.engine.proofs.Keeping.{new_worked, worked_back}
use Rattle.std.specs.Prelude as code
use Rattle.roundbytes.specs.Layout.{round_in}
use Rattle.roundbytes.proofs.Typing.{bytes_are_typed}
use Rattle.admission.specs.Inside.Finding.{place_found}
use Rattle.answering.proofs.Replying.{kept_long}
use Rattle.graph.specs.declared.Graph.{Graph}

-- ---- what a record must be to be held
pub proposal_storable : (r : Round) (i : Id) (s b : ℕ) → length i ≡ id_len → Octets i → Storable r (offers i s b)
unfolding held_id held_previous places offered
proposal_storable r i s b e o =
    record { id_size = e; id_bytes = o; most = omega arith; some' = tt; earlier = λ j m. elim m [ ]; placed = previous_fits r none tt; previous = refl }

pub vote_storable : (r : Round) (i : Id) (v : Vote) → length i ≡ id_len → Octets i → Referring r v → Storable r (record_of r i v)
unfolding held_id held_previous places offered
vote_storable r i v e o refers =
    record {
      id_size = e;
      id_bytes = o;
      most = refers.most;
      some' = le→leb 1 (length (refers_to v)) refers.least;
      earlier = refers.earlier;
      placed = subst (λ (p : ℕ). T (place_fits r p)) refers.lowest refers.placed;
      previous = ap (named r) (sym refers.lowest);
    }

-- ---- the round r, and the message h with the id i, which is held at the place o or not
module _ (r : Round) (i : Id) (free : T (not (full r i))) where
  pub room_held : r.held < max_held
  room_held = room_left (is_voting r) (λ p. not (is_known r p)) (place_of r i) r.held free

  module _ (typed : Typed r) (f : Fitting r) (h : Held) (can : Storable r h) where
    -- what an answer asks of the round then
    abbrev Ready : Option ℕ → Type 0
    Ready o = T (fits (entered_in r h o)) × ((entered_at r o < (entered_in r h o).held) × ((entered_in r h o).own < listening → (entered_in r h o).held < max_held))

    ready_back : (p : ℕ) → place_of r i ≡ some p → Ready (some p)
    ready_back p e = (fits_in (returned r p) (returned_fitting r f p), ((place_some r i p e).inside, λ v. room_held))

    ready_new : place_of r i ≡ none → Ready none
    ready_new e =
        let held = (hold_appends r typed f room_held h can 1).held in
        let own = (hold_same r typed f room_held h can 1).own in (
          fits_in (hold r h 1) (hold_fitting r typed f room_held h can 1),
          (
            omega arith,
            λ v.
                let w : r.held < acceptor_room =
                room_behind (is_voting r) (λ p. not (is_known r p)) r.held
                (subst (λ (o : Option ℕ). T (not (leb (pick (is_voting r && not (placed (λ p. not (is_known r p)) o)) acceptor_room max_held) r.held))) e free)
                (lt→ltb r.own listening (omega arith)) in
                omega arith,
          ),
        )

    pub ready : (o : Option ℕ) → place_of r i ≡ o → Ready o
    ready none e = ready_new e
    ready (some p) e = ready_back p e

    -- the graph stays
    pub graph_kept : (o : Option ℕ) → (entered_in r h o).graph ≡ r.graph
    graph_kept none = sym (hold_same r typed f room_held h can 1).graph
    graph_kept (some p) = refl

    -- and so do the notes
    pub begun : (o : Option ℕ) (notes : Notes) → WorkedOut r notes → Begun (entered_in r h o) r.held notes
    begun none notes worked = let n = new_worked r typed f room_held h can (hold r h 1) r.held refl refl notes worked in record { worked = n.1.1; near = inr (n.0, n.1.0) }
    begun (some p) notes worked = record { worked = worked_back r p notes worked; near = inl refl }

-- ---- the same over bytes: s became t, and the message is at place p
module _ (s : List ℕ) (o : Octets s) (i : Id) (f : code.Option ℕ) (can : Enterable s i f) (h : Held) (store : Storable (round_in s) h) (t : List ℕ) (p : ℕ) (enters : Enters s t h f p) where
  abbrev r : Round
  r = round_in s

  typed : Typed (round_in s)
  typed = bytes_are_typed s o can.passes.long

  fitting : Fitting (round_in s)
  fitting = fits_out r can.passes.fit

  pub answerable : (buffer : List ℕ) → reply_len ≤ length buffer → Answerable t p buffer
  answerable buffer long =
      let y = ready r i can.free typed fitting h store (place_found f) (sym can.found) in
      let e = sym enters.round in
      record {
        passes = record { long = kept_long s t enters.kept can.passes.long; fit = subst (λ (q : Round). T (fits q)) e y.0 };
        here = subst (λ (q : Round). p < q.held) e (subst (λ (k : ℕ). k < (entered_in r h (place_found f)).held) (sym enters.place) y.1.0);
        room = subst (λ (q : Round). q.own < listening → q.held < max_held) e y.1.1;
        long = long;
      }

  pub graph_then : (graph : Graph) → graph ≡ r.graph → graph ≡ (round_in t).graph
  graph_then graph e = e ∙ sym (ap (λ (q : Round). q.graph) enters.round ∙ graph_kept r i can.free typed fitting h store (place_found f))

  pub begun_then : (n : ℕ) → n ≡ r.held → (notes : Notes) → WorkedOut r notes → Begun (round_in t) n notes
  begun_then n e notes worked =
      subst (λ (q : Round). Begun q n notes) (sym enters.round)
      (subst (λ (k : ℕ). Begun (entered_in r h (place_found f)) k notes) (sym e) (begun r i can.free typed fitting h store (place_found f) notes worked))

  -- what follows on it is what the rules say of a message that enters
  pub entered_gives : (H : List ℕ → Id) (x : Delivered) (before after : List ℕ) → Gives (processed H (round_in t) p) x before after → Gives (entered H r h (place_of r i)) x before after
  entered_gives H x before after g =
      subst (λ (q : Option ℕ). Gives (entered H r h q) x before after) can.found
      (subst (λ (k : ℕ). Gives (processed H (entered_in r h (place_found f)) k) x before after) enters.place (subst (λ (q : Round). Gives (processed H q p) x before after) enters.round g))
