-- A record put behind the held ones: the table grows by it, old places stay as they are.
use mathlib.Core.Path.{◌≡◌, refl, sym, ap, ◌∙◌}
use mathlib.Core.Bool.{◌||◌}
use mathlib.Core.List.{List, [], ◌∷◌, ◌++◌}
use Prim.Native.Nat.{ℕ, ◌+◌, ◌*◌, ◌<◌, ◌≤◌}
use native.Mathlib.Numerals.{add-one}
use native.Mathlib.Omega.{arith}
use lib.Dec.{T, eqb, leb}
use lib.ListN.{length, get_or, set}
use lib.Seq.{get_or-set_same, get_or-set_other}
use Rattle.base.specs.Tests.{◌∈◌, pick}
use Rattle.base.specs.Bytes.{part, put_at, Octets}
use Rattle.base.proofs.Cuts.{part_put_front}
use Rattle.message.specs.Layout.{id_len, proposal_kind, acceptor_kind}
use Rattle.protocol.specs.Table.{Held, offers, says, tabulate, held_id, held_signer, held_previous, offered, places}
use Rattle.round.specs.Round.{Round}
use Rattle.round.specs.Limits.{max_held, no_place}
use Rattle.round.specs.Holdings.{id_at, named, previous_at, references_at, record_at, table_of}
use Rattle.round.specs.Handed.{place_fits}
use Rattle.round.specs.Delivery.{hold, previous_place}
use Rattle.round.specs.Premises.{Typed}
use Rattle.round.proofs.Parts.{part_put, put_nothing, tabulate_cong}
use Rattle.round.proofs.Fitting.{Fitting, Keeps, named_kept, record_kept}

-- ---- the same round for both kinds of record
unfoldable pub kind_in : Held → ℕ
kind_in (offers i s b) = proposal_kind
kind_in (says i s p l) = acceptor_kind

unfoldable pub ballot_in : Held → ℕ
ballot_in (offers i s b) = b
ballot_in (says i s p l) = 0

abbrev pub appended : Round → Held → ℕ → Round
appended r h known =
    record {
      graph = r.graph;
      house = r.house;
      bay = r.bay;
      own = r.own;
      held = r.held + 1;
      last = r.last;
      ids = put_at r.ids (id_len * r.held) (held_id h);
      kinds = set r.kinds r.held (kind_in h);
      signers = set r.signers r.held (held_signer h);
      ballots = set r.ballots r.held (ballot_in h);
      previous = set r.previous r.held (previous_place r (held_previous h));
      counts = set r.counts r.held (length (places h));
      references = put_at r.references (max_held * r.held) (places h);
      known = set r.known r.held known;
      recent = set r.recent r.held 0;
    }

pub hold_is : (r : Round) (h : Held) (k : ℕ) → hold r h k ≡ appended r h k
unfolding hold kind_in ballot_in held_id held_signer held_previous places
-- a proposal's references are not written, which is as if nothing were put
hold_is r (offers i s b) k =
    ap {B = Round} (λ (l : List ℕ).
    record {
      graph = r.graph;
      house = r.house;
      bay = r.bay;
      own = r.own;
      held = r.held + 1;
      last = r.last;
      ids = put_at r.ids (id_len * r.held) i;
      kinds = set r.kinds r.held proposal_kind;
      signers = set r.signers r.held s;
      ballots = set r.ballots r.held b;
      previous = set r.previous r.held no_place;
      counts = set r.counts r.held 0;
      references = l;
      known = set r.known r.held k;
      recent = set r.recent r.held 0;
    }) (sym (put_nothing r.references (max_held * r.held)))
hold_is r (says i s p l) k = refl

-- ---- what a record must be to be held
pub record Storable (r : Round) (h : Held) : Type 0 where
  pub id_size : length (held_id h) ≡ id_len
  pub id_bytes : Octets (held_id h)
  pub most : length (places h) ≤ max_held
  pub some' : T (offered h || leb 1 (length (places h)))
  pub earlier : (j : ℕ) → j ∈ places h → j < r.held
  pub placed : T (place_fits r (previous_place r (held_previous h)))
  pub previous : named r (previous_place r (held_previous h)) ≡ held_previous h

-- the fields of a record give it back
rebuilt : (h : Held) → pick (eqb (kind_in h) proposal_kind) (offers (held_id h) (held_signer h) (ballot_in h)) (says (held_id h) (held_signer h) (held_previous h) (places h)) ≡ h
unfolding kind_in ballot_in held_id held_signer held_previous places
rebuilt (offers i s b) = refl
rebuilt (says i s p l) = refl

pub kind_offered : (h : Held) → eqb (kind_in h) proposal_kind ≡ offered h
unfolding kind_in offered
kind_offered (offers i s b) = refl
kind_offered (says i s p l) = refl

module _ (r : Round) (typed : Typed r) (fit : Fitting r) (room : r.held < max_held) (h : Held) (k : ℕ) where
  abbrev s : Round
  s = appended r h k

  -- ---- the old places
  other : (l : List ℕ) (x p : ℕ) → p < r.held → get_or (set l r.held x) p 0 ≡ get_or l p 0
  other l x p b = get_or-set_other l r.held p x 0 (λ e. absurd (omega arith))

  refs : (p : ℕ) → p < r.held → references_at s p ≡ references_at r p
  refs p b =
      let size = typed.references_size in
      let c = fit.counts p b in
      ap (λ (n : ℕ). part n s.references (max_held * p)) (other r.counts (length (places h)) p b)
      ∙ part_put_front r.references (places h) (max_held * r.held) (get_or r.counts p 0) (max_held * p) (omega arith) (omega arith)

  pub keeps : Keeps r s
  keeps =
      record {
        ids = λ p b. let size = typed.ids_size in part_put_front r.ids (held_id h) (id_len * r.held) id_len (id_len * p) (omega arith) (omega arith);
        kinds = other r.kinds (kind_in h);
        signers = other r.signers (held_signer h);
        ballots = other r.ballots (ballot_in h);
        previous = other r.previous (previous_place r (held_previous h));
        counts = other r.counts (length (places h));
        references = refs;
      }

  old_record : (p : ℕ) → p < r.held → record_at s p ≡ record_at r p
  old_record = record_kept r s keeps fit

  -- ---- the new place
  module _ (can : Storable r h) where
    pub new_id : id_at s r.held ≡ held_id h
    new_id = let size = typed.ids_size in part_put r.ids (held_id h) (id_len * r.held) id_len (omega arith) can.id_size

    pub new_refs : references_at s r.held ≡ places h
    new_refs =
        let size = typed.references_size in
        let e : get_or s.counts r.held 0 ≡ length (places h) = get_or-set_same r.counts r.held (length (places h)) 0 (omega (arith, typed.counts_size)) in
        part_put r.references (places h) (max_held * r.held) (get_or s.counts r.held 0) (omega arith) (sym e)

    new_previous : previous_at s r.held ≡ held_previous h
    new_previous =
        ap (named s) (get_or-set_same r.previous r.held (previous_place r (held_previous h)) 0 (omega (arith, typed.previous_size)))
        ∙ named_kept r s keeps (previous_place r (held_previous h)) can.placed
        ∙ can.previous

    pub new_kind : get_or s.kinds r.held 0 ≡ kind_in h
    new_kind = get_or-set_same r.kinds r.held (kind_in h) 0 (omega (arith, typed.kinds_size))

    new_signer : get_or s.signers r.held 0 ≡ held_signer h
    new_signer = get_or-set_same r.signers r.held (held_signer h) 0 (omega (arith, typed.signers_size))

    new_ballot : get_or s.ballots r.held 0 ≡ ballot_in h
    new_ballot = get_or-set_same r.ballots r.held (ballot_in h) 0 (omega (arith, typed.ballots_size))

    new_record : record_at s r.held ≡ h
    new_record =
        (λ i. pick (eqb (new_kind i) proposal_kind) (offers (new_id i) (new_signer i) (new_ballot i)) (says (new_id i) (new_signer i) (new_previous i) (new_refs i)))
        ∙ rebuilt h

    pub table : table_of s ≡ table_of r ++ h ∷ []
    unfolding tabulate
    table =
        ap (λ (n : ℕ). tabulate n (record_at s)) (add-one r.held)
        ∙ (λ i. tabulate_cong r.held (record_at s) (record_at r) old_record i ++ new_record i ∷ [])
