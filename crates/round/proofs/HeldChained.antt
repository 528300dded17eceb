-- Every held message of a round reached by calls is chained: a known one passed row 12, and one that awaits its return was written, names a written
-- message and refers to it.
use mathlib.Core.Path.{◌≡◌, sym, ap, subst, ◌∙◌}
use mathlib.Core.Logic.{◌⊎◌, inl, inr}
use mathlib.Core.Bool.{Bool, not}
use mathlib.Core.Option.{Option, some}
use mathlib.Core.List.Memᴰ
use mathlib.Core.List.{List, ◌++◌}
use Prim.Native.Nat.{ℕ, ◌<◌}
use native.Mathlib.Omega.{arith}
use lib.Dec.{T}
use lib.ListN.{length}
use Rattle.std.specs.Prelude.{Ok}
use Rattle.base.specs.Tests.{◌∈◌}
use Rattle.base.proofs.Tests.{dec_T, map_out, below_in, below_out}
use Rattle.message.specs.Reader.{reading}
use Rattle.message.specs.declared.AcceptorMessage.{AcceptorMessage}
use Rattle.message.specs.declared.Message.TheVariants.{OfAcceptor}
use Rattle.protocol.specs.Ids.{Id}
use Rattle.protocol.specs.Message.{Message, previous, references}
use Rattle.protocol.specs.WellFormed.{chained}
use Rattle.protocol.specs.Table.{Held, offers, says, Table, at, held_id, held_signer, held_previous, offered, places, tree, joint, ids_at, content_of}
use Rattle.protocol.specs.Theorems.{ChainedAt, NoCollision}
use Rattle.protocol.proofs.WellFormed.{Previous, chained_law}
use Rattle.protocol.proofs.Table.{tree_is, tree_id, tree_signer, tree_previous, tree_proposal, node_refers}
use Rattle.round.specs.Round.{Round}
use Rattle.round.specs.Holdings.{table_of, is_known}
use Rattle.round.specs.Rows.{reference_ids, previous_id}
use Rattle.round.specs.Lists.{Call, run, last_round, accepted, written}
use Rattle.round.specs.Premises.{IdRule, Starts}
use Rattle.round.specs.Demands as rules
use Rattle.round.proofs.CallLaws.{CallLaws}
use Rattle.round.proofs.Step.{content_read, content_in}
use Rattle.round.proofs.Kept.{IdFrom, source_inside}
use Rattle.round.proofs.Reached.{Reached}
use Rattle.round.proofs.Known.{held_places, held_inside, held_apart, reached_last}
use Rattle.round.proofs.Chain.{chain_of_list, written_names_written}
use Rattle.round.proofs.Chained.{reply_is_chained}

-- ---- what holds of a written message z, W being all of them: it is chained, and what it names was written
pub record Sent (H : List ℕ → Id) (own : ℕ) (W : List (List ℕ)) (z : List ℕ) : Type 0 where
  pub fields : AcceptorMessage
  pub reads : reading z ≡ Ok (OfAcceptor fields)
  pub signed : fields.signer ≡ own
  pub refers : (i : Id) → previous_id z fields ≡ some i → i ∈ reference_ids z fields
  pub before : (i : Id) → previous_id z fields ≡ some i → IdFrom H W i

-- ---- a record with the content of an acceptor message
pub record Vote (t : Table) (h : Held) (signer : ℕ) (previous : Option Id) (ids : List Id) : Type 0 where
  pub is_vote : T (not (offered h))
  pub signed : held_signer h ≡ signer
  pub names : held_previous h ≡ previous
  pub list : ids_at t (places h) ≡ ids

vote_of_lem : (t : Table) (h : Held) (s : ℕ) (p : Option Id) (ids : List Id) → content_of t h ≡ joint s p ids → Vote t h s p ids
unfolding content_of held_signer held_previous offered places
vote_of_lem t (offers i v b) s p ids e = let z : ◌≡◌ {A = ℕ} 0 1 = cc in absurd (omega arith)
vote_of_lem t (says i v o l) s p ids e = record { is_vote = tt; signed = cc; names = cc; list = cc }

-- an id at some places is that of one of them
ids_out : (t : Table) (l : List ℕ) {i : Id} → i ∈ ids_at t l → (j : ℕ) × (j ∈ l) × (i ≡ held_id (at t j))
unfolding ids_at
ids_out t l m = map_out (λ k. held_id (at t k)) l m

module _ {H : List ℕ → Id} {A W : List (List ℕ)} {r : Round} (reached : Reached H A W r) (free : rules.NoCollision H (A ++ W))
    (own : ℕ) (sent : (z : List ℕ) → z ∈ W → Sent H own W z) where
  abbrev t : Table
  t = table_of r

  -- ---- a place with the id of a written message says what that says
  pub says_written : (p : ℕ) → p < length t → (z : List ℕ) (m : z ∈ W) → held_id (at t p) ≡ H z → Vote t (at t p) own (previous_id z (sent z m).fields) (reference_ids z (sent z m).fields)
  says_written p l z m e =
      let x = reached.kept.source p l in
      let s = sent z m in
      let one : x.bytes ≡ z = free x.bytes z (source_inside x) (Memᴰ.append_right A m) (sym x.id ∙ e) in
      let read : content_in z ≡ joint own (previous_id z s.fields) (reference_ids z s.fields) =
      ap (content_read z) s.reads ∙ ap (λ (n : ℕ). joint n (previous_id z s.fields) (reference_ids z s.fields)) s.signed in
      vote_of_lem t (at t p) own (previous_id z s.fields) (reference_ids z s.fields) (x.content ∙ ap content_in one ∙ read)

  -- ---- a place that awaits its return is chained
  awaiting_chained : (p : ℕ) → p < length t → T (not (is_known r p)) → T (chained (tree t p))
  awaiting_chained p l u = (chained_law (tree t p)).1 named
    where
      named : (i : Id) → previous (tree t p) ≡ some i → (u : Message) × Previous (tree t p) i u
      named i d =
          let (z, m, e) = reached.kept.awaited p l u in
          let v = says_written p l z m e in
          let o : previous_id z (sent z m).fields ≡ some i = sym v.names ∙ sym (tree_previous t p) ∙ d in
          let (j, k, q) = ids_out t (places (at t p)) (subst (λ (x : List Id). i ∈ x) (sym v.list) ((sent z m).refers i o)) in
          let (y, n, c) = (sent z m).before i o in
          let w = says_written j (omega (arith, reached.kept.ordered p j k)) y n (sym q ∙ c) in (
            tree t j,
            (
              subst (λ (x : Message). tree t j ∈ references x) (sym (tree_is t reached.kept.ordered p)) (node_refers (tree t) (at t p) k),
              subst (λ (b : Bool). T (not b)) (sym (tree_proposal t j)) w.is_vote,
              tree_id t j ∙ sym q,
              tree_signer t j ∙ w.signed ∙ sym v.signed ∙ sym (tree_signer t p),
            ),
          )

  -- ---- and so is every place
  pub held_chained : ChainedAt t (held_places r)
  held_chained = record {
    ordered = reached.kept.ordered;
    closed = λ i j m k. below_in r.held (omega (arith, reached.kept.ordered i j k, below_out r.held m));
    links = λ p m. step p (held_inside r p m) (dec_T (is_known r p));
  }
    where
      step : (p : ℕ) → p < length t → T (is_known r p) ⊎ T (not (is_known r p)) → T (chained (tree t p))
      step p l (inl k) = (reached.kept.checked free p l k).links
      step p l (inr k) = awaiting_chained p l k

-- ---- over every list of calls
module _ (laws : CallLaws) {H : List ℕ → Id} (rule : IdRule H) {file : List ℕ} {house bay own : ℕ} {r : Round} (starts : Starts file house bay own r) (l : List Call)
    (free : rules.NoCollision H (accepted (run H r l) ++ written (run H r l))) where
  pub written_sent : (z : List ℕ) → z ∈ written (run H r l) → Sent H own (written (run H r l)) z
  written_sent z m =
      let (f, read, signed, refers) = reply_is_chained H rule file house bay own r starts l z m in
      record {
        fields = f;
        reads = read;
        signed = signed;
        refers = refers;
        before = written_names_written H (written (run H r l)) (chain_of_list laws H rule file house bay own r starts l) z m f read;
      }

  pub places_chained : ChainedAt (table_of (last_round H r l)) (held_places (last_round H r l))
  places_chained = held_chained (reached_last laws rule starts l).0 free own written_sent

  -- and one id has one content there
  pub places_apart : NoCollision (table_of (last_round H r l)) (held_places (last_round H r l)) (table_of (last_round H r l)) (held_places (last_round H r l))
  places_apart = let reached = (reached_last laws rule starts l).0 in held_apart reached reached (λ m k. k) (λ m k. k) free
