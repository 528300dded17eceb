-- An acceptor message that was read: what its rows ask, and what is known of it when rows 11 and 12 do not apply.
use Prim.Native.Nat.{◌≤◌, ℕ}
use mathlib.Core.Option.{Option, none, some}
use mathlib.Core.List.{List}
use mathlib.Core.Path.{◌≡◌, subst, sym, ap, ◌∙◌}
use lib.Dec.{T}
use mathlib.Core.Bool.{Bool, not, true, false}
use lib.ListN.{length}
use native.Mathlib.Omega.{arith}
use Rattle.round.specs.Round.{Round}
use Rattle.round.specs.Limits.{max_held}
use Rattle.protocol.specs.Ids.{Id}
use Rattle.admission.specs.declared.rows.Vote.{Vote}
use Rattle.admission.specs.Inside.Votes.{Resolves, record_of, refers_to}
use Rattle.order.specs.Inside.Rows.{chain_row, form_row, head_row, row_of}
use Rattle.round.specs.Rows.{lacks, unchained, is_known_id, vote_record, full, other_round, foreign, reference_ids, previous_id, message_of, first_of, acceptor_rows}
use Rattle.base.specs.Tests.{all, ◌∈◌}
use Rattle.round.proofs.Arriving.{all_known, chain_placed, referred}
use Rattle.judging.proofs.Ordered.{chain_none, or_else, acceptor_row}
use Rattle.round.proofs.Marking.{PlacedId, previous_named, previous_fits}
use Rattle.round.specs.Holdings.{named, graph_of}
use Rattle.protocol.specs.Table.{says, Held}
use Rattle.judging.specs.Inside.Referring.{Referring}
use Rattle.round.proofs.Named.{place_some}
use Rattle.round.specs.Handed.{place_fits}
use Rattle.round.specs.Delivery.{previous_place}
use Rattle.message.specs.declared.AcceptorMessage.{AcceptorMessage}
use Rattle.message.specs.Reader.{reading}
use Rattle.message.specs.declared.Message.TheVariants.{OfAcceptor}
use Rattle.admission.specs.Inside.Finding.{Listed, Bounded}
use Rattle.message.proofs.Checks.{of_acceptor}
use Rattle.round.proofs.Written.{counted}
use Rattle.judging.specs.Inside.Standing.{Passes}
use Rattle.round.proofs.Fitting.{fits_out}
use Rattle.roundbytes.specs.Layout.{round_in}
use Rattle.protocol.specs.Message.{Message}
use Rattle.judging.specs.Inside.Turning.{sound_row}
use Rattle.protocol.specs.WellFormed.{formed1b, formed2a}
use Rattle.meaning.specs.declared.Note.{Note}
use Rattle.meaning.specs.Inside.Notes.{Judged}
use Rattle.base.specs.declared.refusal.Refusal.{Refusal}
use Rattle.std.proofs.Common.{Result, Ok, Err}

-- ---- what a message looks up, where rows 11 and 12 do not apply
module _ (r : Round) (most : r.held ≤ max_held) (signer : ℕ) (previous : Option Id) (ids : List Id) (v : Vote) (found : Resolves r signer previous ids v) (clear : chain_row (lacks r ids) (unchained r signer ids previous) ≡ none) where
  known : T (all (is_known_id r) ids)
  known = all_known r ids (subst (λ (t : Bool). T (not t)) (sym (chain_none (lacks r ids) (unchained r signer ids previous) clear).0) tt)

  chained : PlacedId r previous
  chained = chain_placed r signer ids previous (subst (λ (t : Bool). T (not t)) (sym (chain_none (lacks r ids) (unchained r signer ids previous) clear).1) tt)

  back : named r v.previous ≡ previous
  back = ap (named r) found.back ∙ previous_named r most previous chained

  -- it is the record of the message
  pub voted : (i : Id) → record_of r i v ≡ vote_record r i signer previous ids
  voted i = λ k. says i (found.signed k) (back k) (found.listed k)

  -- it refers to held messages, and its previous message is none or held
  pub referring : 1 ≤ length (refers_to v) → length (refers_to v) ≤ max_held → Referring r v
  referring least few =
      record {
        least = least;
        most = few;
        earlier = λ j k. let (i, q, t) = referred r ids known j (subst (λ (l : List ℕ). j ∈ l) found.listed k) in (place_some r i j q).inside;
        placed = subst (λ (p : ℕ). T (place_fits r p)) (sym found.back) (previous_fits r previous chained);
        lowest = found.back ∙ ap (previous_place r) (sym back);
      }

-- ---- an acceptor message that was read: its references stand in its bytes
module _ (b : List ℕ) (m : AcceptorMessage) (reads : reading b ≡ Ok (OfAcceptor m)) where
  pub listed : Listed b m
  listed = let long = (of_acceptor b m reads).0.long in record { most = (counted b m reads).1; within = omega arith }

  pub refers : 1 ≤ m.count
  refers = (counted b m reads).0

-- a round that passes row 17 stands whole in its bytes
pub stands : (s : List ℕ) → Passes s → Bounded s
stands s p = record { long = p.long; most = (fits_out (round_in s) p.fit).most }

-- where none of rows 14 to 16 applies, there is room
pub form_free : (a b l : Bool) → form_row a b l ≡ none → T (not l)
form_free true true false e = tt
form_free true true true e = absurd (let z : ◌≡◌ {A = ℕ} 0 1 = cc in omega arith)
form_free true false l e = absurd (let z : ◌≡◌ {A = ℕ} 0 1 = cc in omega arith)
form_free false b l e = absurd (let z : ◌≡◌ {A = ℕ} 0 1 = cc in omega arith)

pub sound_free : (r : Round) (i : Id) (m : Message) → sound_row r i m ≡ none → T (not (full r i))
sound_free r i m h = form_free (formed1b m) (formed2a (graph_of r) m) (full r i) h

-- rows 14 to 16, from what was worked out
pub form_judged : (r : Round) (i : Id) (tree : Message) (x : Note) (l : Bool) → Judged (graph_of r) tree x → l ≡ full r i
    → form_row x.formed1b x.formed2a l ≡ sound_row r i tree
form_judged r i tree x l j e = λ k. form_row (j.formed1 k) (j.formed2 k) (e k)

-- ---- an acceptor message with the id i, read from the bytes b: its rows in three parts, and what follows where each of them is clear
module _ (r : Round) (i : Id) (b : List ℕ) (m : AcceptorMessage) where
  abbrev pub heads : Option Refusal
  heads = head_row (other_round r m.house m.bay) (foreign r m.signer) (is_known_id r i)

  abbrev pub chains : Option Refusal
  chains = chain_row (lacks r (reference_ids b m)) (unchained r m.signer (reference_ids b m) (previous_id b m))

  abbrev pub record_read : Held
  record_read = vote_record r i m.signer (previous_id b m) (reference_ids b m)

  abbrev pub sounds : Option Refusal
  sounds = sound_row r i (message_of r record_read)

  abbrev pub rows : Option Refusal
  rows = first_of (acceptor_rows r i m (previous_id b m) (reference_ids b m) (message_of r record_read))

  three : rows ≡ or_else heads (or_else chains sounds)
  three = acceptor_row r i m (previous_id b m) (reference_ids b m) (message_of r record_read)

  module _ (y : Result (Unit {0}) Refusal) (told : row_of y ≡ heads) where
    pub by_head : (e : Refusal) → y ≡ Err e → rows ≡ some e
    by_head e t = three ∙ ap (λ (o : Option Refusal). or_else o (or_else chains sounds)) (sym told ∙ ap row_of t)

    module _ (u : Unit {0}) (clear : y ≡ Ok u) (z : Result Vote Refusal) (also : row_of z ≡ chains) where
      past : rows ≡ or_else chains sounds
      past = three ∙ ap (λ (o : Option Refusal). or_else o (or_else chains sounds)) (sym told ∙ ap row_of clear)

      pub by_chain : (e : Refusal) → z ≡ Err e → rows ≡ some e
      by_chain e t = past ∙ ap (λ (o : Option Refusal). or_else o sounds) (sym also ∙ ap row_of t)

      pub by_rest : (v : Vote) → z ≡ Ok v → rows ≡ sounds
      by_rest v t = past ∙ ap (λ (o : Option Refusal). or_else o sounds) (sym also ∙ ap row_of t)
