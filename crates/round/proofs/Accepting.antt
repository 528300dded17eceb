-- What is known of a message that no row turns down, a proposal or an acceptor message, before it is entered.
use mathlib.Core.Path.{◌≡◌, refl, sym, ap, ◌∙◌}
use mathlib.Core.Logic.{◌≢◌}
use mathlib.Core.Option.{none}
use mathlib.Core.List.{List}
use Prim.Native.Nat.{ℕ, zero, suc, ◌+◌, ◌<◌, ◌≤◌}
use native.Mathlib.Omega.{arith}
use lib.Dec.{T, le→leb}
use lib.ListN.{length, length-map}
use Rattle.std.specs.Prelude.{Ok, Err}
use Rattle.base.specs.Tests.{◌∈◌}
use Rattle.base.specs.declared.refusal.Refusal.{Refusal}
use Rattle.message.specs.Layout as layout
use Rattle.message.specs.Reader.{reading}
use Rattle.message.specs.declared.Proposal.{Proposal}
use Rattle.message.specs.declared.AcceptorMessage.{AcceptorMessage}
use Rattle.round.specs.Outcomes.{Reading}
use Rattle.message.specs.declared.Message.TheVariants.{OfProposer, OfAcceptor}
use Rattle.protocol.specs.Ids.{Id}
use Rattle.protocol.specs.Message.{is_proposal, previous, is1b}
use Rattle.protocol.specs.WellFormed.{linked, chained, formed1b}
use Rattle.protocol.specs.Table.{Held, offers, held_id, held_previous, offered, places, node_by, tree, joint, content_of}
use Rattle.round.specs.Round.{Round}
use Rattle.round.specs.Limits.{max_held}
use Rattle.round.specs.Holdings.{is_known, table_of, place_of}
use Rattle.round.specs.Rows.{ids_from, reference_ids, previous_id, or_zero, vote_record, message_of, proposal_rows, acceptor_rows, first_of}
use Rattle.round.specs.Premises.{IdRule}
use Rattle.round.proofs.Step.{content_read, content_in, Records}
use Rattle.round.proofs.Named.{place_some, place_canonical}
use Rattle.round.proofs.Holding.{Storable}
use Rattle.round.proofs.Written.{counted}
use Rattle.round.proofs.Records.{table_ids}
use Rattle.round.proofs.Marking.{previous_fits, previous_named}
use Rattle.round.proofs.Passing.{Fresh, Passed, proposal_passed, acceptor_passed}
use Rattle.std.proofs.Math.Facts.{T_not-not}
use Rattle.round.proofs.Arriving.{all_known, places_of, Refers, referred, refers_back_lem, chain_placed, links}
use Rattle.round.proofs.Answering.{acceptor_readable}

pub record Accepts (H : List ℕ → Id) (r : Round) (b : List ℕ) (h : Held) : Type 0 where
  pub fresh : Fresh r (H b)
  pub storable : Storable r h
  pub records : Records H r b h
  pub beneath : (j : ℕ) → j ∈ places h → T (is_known r j)
  pub linked' : T (chained (node_by (tree (table_of r)) h))
  pub forms : T (formed1b (node_by (tree (table_of r)) h))

proposer_readable : (x : Reading) (m : Proposal) → x ≡ Ok (OfProposer m) → (e : Refusal) → x ≢ Err e
proposer_readable x m q e k = let z : ◌≡◌ {A = ℕ} 0 1 = cc in omega arith

module _ (H : List ℕ → Id) (rule : IdRule H) (r : Round) (most : r.held ≤ max_held) (b : List ℕ) where
  -- ---- a proposal
  pub proposal_accepts : (m : Proposal) → reading b ≡ Ok (OfProposer m) → first_of (proposal_rows r (H b) m) ≡ none → Accepts H r b (offers (H b) m.proposer m.ballot)
  unfolding held_id held_previous places offered content_of chained linked previous node_by formed1b is1b is_proposal
  proposal_accepts m e f =
      record {
        fresh = proposal_passed r (H b) m f;
        storable = record {
          id_size = rule.size b;
          id_bytes = rule.bytes b;
          most = omega arith;
          some' = tt;
          earlier = λ j m. elim m [ ];
          placed = previous_fits r none tt;
          previous = refl;
        };
        records = record {
          readable = proposer_readable (reading b) m e;
          id = refl;
          content = ap (content_read b) (sym e);
          earlier = λ j m. elim m [ ];
          canonical = λ j m. elim m [ ];
        };
        beneath = λ j m. elim m [ ];
        linked' = tt;
        forms = tt;
      }

  -- ---- an acceptor message
  length_ids : (n at : ℕ) → length (ids_from n b at) ≡ n
  unfolding ids_from
  length_ids zero at = refl
  length_ids (suc n) at = ap suc (length_ids n (at + layout.id_len))

  module _ (m : AcceptorMessage) (reads : reading b ≡ Ok (OfAcceptor m)) where
    abbrev ids : List Id
    ids = reference_ids b m

    abbrev h : Held
    h = vote_record r (H b) m.signer (previous_id b m) ids

    how_many : length (places_of r ids) ≡ m.count
    how_many = length-map ids (λ i. or_zero (place_of r i)) ∙ length_ids m.count (layout.references_at m.previous)

    module _ (passed : Passed r (H b) m.signer (previous_id b m) ids (message_of r h)) where
      refers : (j : ℕ) → j ∈ places_of r ids → Refers r j
      refers = referred r ids (all_known r ids passed.has)

      earlier : (j : ℕ) → j ∈ places_of r ids → j < r.held
      earlier j k = let (i, q, t) = refers j k in (place_some r i j q).inside

      storable : Storable r h
      unfolding held_id held_previous places offered
      storable =
          let c = counted b m reads in
          record {
            id_size = rule.size b;
            id_bytes = rule.bytes b;
            most = omega (arith, how_many);
            some' = le→leb 1 (length (places_of r ids)) (omega (arith, how_many));
            earlier = earlier;
            placed = previous_fits r (previous_id b m) (chain_placed r m.signer ids (previous_id b m) passed.chains);
            previous = previous_named r most (previous_id b m) (chain_placed r m.signer ids (previous_id b m) passed.chains);
          }

      content : content_of (table_of r) h ≡ content_in b
      unfolding content_of
      content =
          ap (joint m.signer (previous_id b m)) (table_ids r (places_of r ids) earlier ∙ refers_back_lem r ids (all_known r ids passed.has))
          ∙ ap (content_read b) (sym reads)

      accepts_passed : Accepts H r b h
      unfolding held_id places
      accepts_passed =
          record {
            fresh = passed.fresh;
            storable = storable;
            records = record {
              readable = acceptor_readable (reading b) m reads;
              id = refl;
              content = content;
              earlier = earlier;
              canonical = λ j k. let (i, q, t) = refers j k in place_canonical r i j q;
            };
            beneath = λ j k. let (i, q, t) = refers j k in t;
            linked' = links r (H b) m.signer (previous_id b m) ids passed.chains;
            forms = T_not-not (formed1b (message_of r h)) passed.forms;
          }

    pub acceptor_accepts : first_of (acceptor_rows r (H b) m (previous_id b m) ids (message_of r h)) ≡ none → Accepts H r b h
    acceptor_accepts f = accepts_passed (acceptor_passed r (H b) m (previous_id b m) ids (message_of r h) f)
