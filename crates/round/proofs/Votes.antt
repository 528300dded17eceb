-- How often our acceptor votes: the messages that it writes are a line of well-formed ones, so each ballot has few of them.
use mathlib.Core.Path.{◌≡◌, refl, sym, ap, subst, ◌∙◌}
use mathlib.Core.Logic.{◌⊎◌, inl, inr}
use mathlib.Core.Bool.{not}
use mathlib.Core.Option.{none, some}
use mathlib.Core.List.Memᴰ
use mathlib.Core.List.{List, [], ◌∷◌, ◌++◌, map}
use Prim.Native.Nat.{ℕ, ◌<◌}
use native.Mathlib.Omega.{arith}
use lib.Dec.{T}
use lib.ListN.{length, take}
use Rattle.std.specs.Prelude.{Ok, Some}
use Rattle.base.specs.Tests.{◌∈◌}
use Rattle.base.proofs.Tests.{map_out, below_in}
use Rattle.graph.specs.LearnerGraph.{LearnerGraph}
use Rattle.graph.specs.Memory.{view_of}
use Rattle.message.specs.Reader.{reading}
use Rattle.message.specs.declared.AcceptorMessage.{AcceptorMessage}
use Rattle.message.specs.declared.Message.TheVariants.{OfAcceptor}
use Rattle.protocol.specs.Ids.{Id}
use Rattle.protocol.specs.Message.{Message, id_of, previous}
use Rattle.protocol.specs.WellFormed.{well_formed}
use Rattle.protocol.specs.Table.{Held, offers, says, Table, at, held_id, held_signer, held_previous, offered, places, Ordered, node_by, tree, messages, ids_at}
use Rattle.protocol.specs.Theorems.{Within, ChainedAt}
use Rattle.protocol.specs.Theorems as tables
use Rattle.protocol.specs.Votes.{LineFrom, Line, Few}
use Rattle.protocol.proofs.Table.{tree_is}
use Rattle.protocol.proofs.Tables.{messages_in, chained_set}
use Rattle.protocol.proofs.Growth.{at_append, at_end, tree_append, tree_end, ordered_front}
use Rattle.protocol.proofs.Votes.{few_votes}
use Rattle.round.specs.Round.{Round}
use Rattle.round.specs.Outcomes.{Outcome}
use Rattle.round.specs.Holdings.{graph_of, table_of, place_of}
use Rattle.round.specs.Rows.{reference_ids, previous_id, or_zero}
use Rattle.round.specs.Delivery.{record_read, message_read, Effect, delivery, replied}
use Rattle.round.specs.Lists.{Call, deliver, report, seen, run, last_round, accepted, written}
use Rattle.round.specs.Premises.{IdRule}
use Rattle.round.specs.Demands.{NoCollision, ChainFrom}
use Rattle.round.specs.Votes.{FewReplies}
use Rattle.round.proofs.CallLaws.{CallLaws}
use Rattle.round.proofs.Step.{Silent, Sends, Step}
use Rattle.round.proofs.Canonical.{table_size, place_law, Canonical}
use Rattle.round.proofs.Reached.{Reached, Grows, grows_size}
use Rattle.round.proofs.Lists.{reply_in_front_lem, accepted_tail, written_tail, fresh_reached, call_keeps, list_keeps}
use Rattle.round.proofs.Chain.{chain_of_list}
use Rattle.round.proofs.Chained.{written_cases}
use Rattle.round.proofs.Known.{held_places, reached_last}
use Rattle.round.proofs.HeldChained.{Sent, says_written, written_sent, places_chained, places_apart}

-- ---- a written message is held, and its message there is well-formed
record Formed (H : List ℕ → Id) (z : List ℕ) (r : Round) : Type 0 where
  place : ℕ
  inside : place < r.held
  id : held_id (at (table_of r) place) ≡ H z
  formed : T (well_formed (graph_of r) (tree (table_of r) place))

-- it stays so when the round grows
formed_grows : {H : List ℕ → Id} {z : List ℕ} {r s : Round} → Ordered (table_of r) → Grows r s → Formed H z r → Formed H z s
formed_grows {H} {z} {r} {s} ord g f =
    let p = f.place in
    let l : p < length (table_of r) = omega (arith, f.inside, table_size r) in
    let record-stays : at (table_of s) p ≡ at (table_of r) p = ap (λ (t : Table). at t p) g.table ∙ at_append (table_of r) g.more p l in
    let tree-stays : tree (table_of s) p ≡ tree (table_of r) p = ap (λ (t : Table). tree t p) g.table ∙ tree_append (table_of r) g.more ord p l in
    record {
      place = p;
      inside = omega (arith, f.inside, grows_size g);
      id = ap held_id record-stays ∙ f.id;
      formed = subst T (λ i. well_formed (view_of (g.same.graph i)) (sym tree-stays i)) f.formed;
    }

-- where it is sent it is held behind the others, and was judged
sends_formed : {H : List ℕ → Id} {s t : Round} {o : Outcome} {z : List ℕ} → Ordered (table_of t) → Sends H s t o z → Formed H z t
sends_formed {H} {s} {t} ord e =
    let h = e.record' in
    let p = length (table_of s) in
    let front : Ordered (table_of s) = ordered_front (table_of s) (h ∷ []) (subst Ordered e.appends.table ord) in
    let node : tree (table_of t) p ≡ node_by (tree (table_of s)) h =
    ap (λ (x : Table). tree x p) e.appends.table ∙ tree_end (table_of s) h front (λ j m. omega (arith, e.records.earlier j m, table_size s)) in
    record {
      place = p;
      inside = omega (arith, table_size s, e.appends.held);
      id = ap (λ (x : Table). held_id (at x p)) e.appends.table ∙ ap held_id (at_end (table_of s) h) ∙ e.records.id;
      formed = subst T (λ i. well_formed (view_of (e.same.graph i)) (sym node i)) e.formed;
    }

-- ---- so it is of every message that is written in a list
module _ (laws : CallLaws) (H : List ℕ → Id) (rule : IdRule H) (A W : List (List ℕ)) where
  written_formed : (l : List Call) (r : Round) → Reached H A W r → Within (accepted (run H r l)) A → Within (written (run H r l)) W
      → (z : List ℕ) → z ∈ written (run H r l) → Formed H z (last_round H r l)
  unfolding run last_round accepted written
  written_formed [] r reached in_a inW z m = elim m [ ]
  written_formed (report a ∷ l) r reached in_a inW z m = written_formed l r reached in_a inW z m
  written_formed (deliver b buffer ∷ l) r reached in_a inW z m =
      let d = delivery H r b buffer in
      let rest = run H d.round l in
      let (next, _) = call_keeps laws H rule A W r (deliver b buffer) rest reached in_a inW in
      let inA' : Within (accepted rest) A = λ n i. in_a n (accepted_tail (seen H r (deliver b buffer)) rest n i) in
      let inW' : Within (written rest) W = λ n i. inW n (written_tail (seen H r (deliver b buffer)) rest n i) in
      step next (list_keeps laws H rule A W d.round l next inA' inW').1 (written_formed l d.round next inA' inW' z)
      (written_cases d.outcome (replied H r b buffer) (written rest) z m)
    where
      d : Effect
      d = delivery H r b buffer

      -- the reply to this delivery
      mine : Reached H A W d.round → (n : ℕ) → d.outcome ≡ Ok (Some n) → z ≡ take n (replied H r b buffer) → Formed H z d.round
      mine next n o e = answer kept.answers
        where
          kept : Step H r b d
          kept = laws.step H rule r reached.typed b buffer (λ x k. let y : ◌≡◌ {A = ℕ} 0 1 = cc in absurd (omega arith))

          answer : Silent kept.between d.round d.outcome d.reply ⊎ Sends H kept.between d.round d.outcome d.reply → Formed H z d.round
          answer (inl k) = let o' = k.outcome in let y : ◌≡◌ {A = ℕ} 0 1 = cc in absurd (omega arith)
          answer (inr k) =
              let o' = k.outcome in
              let size : n ≡ length d.reply = cc in
              subst (λ (x : List ℕ). Formed H x d.round) (sym (e ∙ ap (λ (i : ℕ). take i (replied H r b buffer)) size ∙ reply_in_front_lem d.reply buffer))
              (sends_formed next.kept.ordered k)

      step : Reached H A W d.round → Grows d.round (last_round H d.round l) → (z ∈ written (run H d.round l) → Formed H z (last_round H d.round l))
          → ((n : ℕ) × (d.outcome ≡ Ok (Some n)) × (z ≡ take n (replied H r b buffer))) ⊎ (z ∈ written (run H d.round l)) → Formed H z (last_round H d.round l)
      step next grown others (inl (n, o, e)) = formed_grows next.kept.ordered grown (mine next n o e)
      step next grown others (inr k) = others k

-- ---- what is read in the bytes of a held message is that message
-- places that their ids name are found again by these ids
found_again : (r : Round) (l : List ℕ) → ((j : ℕ) → j ∈ l → Canonical (table_of r) j) → map (λ i. or_zero (place_of r i)) (ids_at (table_of r) l) ≡ l
unfolding ids_at
found_again r [] f = refl
found_again r (j ∷ l) f =
    λ i. or_zero ((place_law r (held_id (at (table_of r) j)) ∙ f j (Memᴰ.head refl)) i) ∷ found_again r l (λ k m. f k (Memᴰ.tail m)) i

vote_record_lem : (h : Held) → T (not (offered h)) → says (held_id h) (held_signer h) (held_previous h) (places h) ≡ h
unfolding offered held_id held_signer held_previous places
vote_record_lem (offers i s b) v = absurd v
vote_record_lem (says i s o l) v = refl

module _ {H : List ℕ → Id} {A W : List (List ℕ)} {r : Round} (reached : Reached H A W r) (free : NoCollision H (A ++ W))
    (own : ℕ) (sent : (z : List ℕ) → z ∈ W → Sent H own W z) where
  read_there : (z : List ℕ) → z ∈ W → (p : ℕ) → p < length (table_of r) → held_id (at (table_of r) p) ≡ H z → message_read H r z ≡ tree (table_of r) p
  read_there z m p l e =
      let t = table_of r in
      let s = sent z m in
      let v = says_written reached free own sent p l z m e in
      let found : map (λ i. or_zero (place_of r i)) (reference_ids z s.fields) ≡ places (at t p) =
      ap (map (λ i. or_zero (place_of r i))) (sym v.list) ∙ found_again r (places (at t p)) (λ j k. reached.kept.canonical p j k) in
      let read : record_read H r z (reading z) ≡ at t p =
      ap (record_read H r z) s.reads ∙ (λ i. says (sym e i) ((s.signed ∙ sym v.signed) i) (sym v.names i) (found i)) ∙ vote_record_lem (at t p) v.is_vote in
      ap (node_by (tree t)) read ∙ sym (tree_is t reached.kept.ordered p)

-- ---- messages of which each names the one before it are a line
module _ (H : List ℕ → Id) (r : Round) where
  id_read : (z : List ℕ) (f : AcceptorMessage) → reading z ≡ Ok (OfAcceptor f) → id_of (message_read H r z) ≡ H z
  unfolding id_of node_by
  id_read z f e = ap (λ x. id_of (node_by (tree (table_of r)) (record_read H r z x))) e

  previous_read : (z : List ℕ) (f : AcceptorMessage) → reading z ≡ Ok (OfAcceptor f) → previous (message_read H r z) ≡ previous_id z f
  unfolding previous node_by
  previous_read z f e = ap (λ x. previous (node_by (tree (table_of r)) (record_read H r z x))) e

  line_from : (z : List ℕ) (f : AcceptorMessage) → reading z ≡ Ok (OfAcceptor f) → (l : List (List ℕ)) → ChainFrom H (some (H z)) l
      → LineFrom (message_read H r z) (map (message_read H r) l)
  unfolding ChainFrom
  line_from z f e [] chain = tt
  line_from z f e (y ∷ l) ((g, read, names), chain) = (previous_read y g read ∙ names ∙ ap some (sym (id_read z f e)), line_from y g read l chain)

  line_of : (l : List (List ℕ)) → ChainFrom H none l → Line (map (message_read H r) l)
  unfolding ChainFrom
  line_of [] chain = tt
  line_of (z ∷ l) ((f, read, names), chain) = line_from z f read l chain

pub few_replies : CallLaws → FewReplies
few_replies laws H rule file house bay own r starts l free =
    subst (λ (G : LearnerGraph). Few G votes) (ap view_of (sym grown.same.graph))
    (few_votes (graph_of end) (held ++ held) (chained_set t t ks ks chained chained apart apart apart) votes
    (λ m i. Memᴰ.append_left held (inside m (of_written m i)).0)
    (line_of H end W (chain_of_list laws H rule file house bay own r starts l))
    (λ m i. (inside m (of_written m i)).1))
  where
    A : List (List ℕ)
    A = accepted (run H r l)

    W : List (List ℕ)
    W = written (run H r l)

    end : Round
    end = last_round H r l

    t : Table
    t = table_of end

    ks : List ℕ
    ks = held_places end

    held : List Message
    held = messages t ks

    votes : List Message
    votes = map (message_read H end) W

    reached : Reached H A W end
    reached = (reached_last laws rule starts l).0

    grown : Grows r end
    grown = (reached_last laws rule starts l).1

    chained : ChainedAt t ks
    chained = places_chained laws rule starts l free

    apart : tables.NoCollision t ks t ks
    apart = places_apart laws rule starts l free

    of_written : (m : Message) → m ∈ votes → (z : List ℕ) × (z ∈ W) × (m ≡ message_read H end z)
    of_written m i = map_out (message_read H end) W i

    inside : (m : Message) → (z : List ℕ) × (z ∈ W) × (m ≡ message_read H end z) → (m ∈ held) × T (well_formed (graph_of end) m)
    inside m (z, i, e) =
        let f = written_formed laws H rule A W l r (fresh_reached laws H rule A W (laws.opening file house bay own r starts)) (λ n k. k) (λ n k. k) z i in
        let same : m ≡ tree t f.place =
        e ∙ read_there reached free own (written_sent laws rule starts l free) z i f.place (omega (arith, f.inside, table_size end)) f.id in
        subst (λ (x : Message). (x ∈ held) × T (well_formed (graph_of end) x)) (sym same) (messages_in t ks f.place (below_in end.held f.inside), f.formed)
