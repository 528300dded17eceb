-- No acceptor is mute after its first reply: it answers each new proposal whose ballot is above those of the proposals that it holds. The
-- reply is a 1b, and every other acceptor message beneath it has a lower ballot.
use mathlib.Core.Path.{◌≡◌, refl, sym, ap, subst, ◌∙◌}
use mathlib.Core.Logic.{◌⊎◌, inl, inr}
use mathlib.Core.Bool.{Bool, true, false, not, ◌&&◌, ◌||◌}
use mathlib.Core.Option.{Option, none, some}
use mathlib.Core.List.Memᴰ
use mathlib.Core.List.{List, [], ◌∷◌, ◌++◌}
use Prim.Native.Nat.{ℕ, ◌<◌, ◌≤◌}
use native.Mathlib.Omega.{arith}
use lib.Dec.{T, eqb, ltb, eqb→eq, eqb_refl, T_not, not_T}
use lib.ListN.{length, get_or}
use Rattle.std.specs.Prelude.{Ok, Some, None}
use Rattle.base.specs.Tests.{◌∈◌, pick, any, all}
use Rattle.base.proofs.Tests.{and_in, or_l, or_r, any_in, all_in, dec_T, neqb→ne, ne→neqb}
use Rattle.message.specs.declared.Proposal.{Proposal}
use Rattle.protocol.specs.Ids.{Id, same_id}
use Rattle.protocol.specs.Message.{Message, id_of, is_proposal, proposed, is1b, is2a, tran, largest, ballot}
use Rattle.protocol.specs.WellFormed.{alone, formed1b, well_formed}
use Rattle.protocol.proofs.WellFormed.{formed2a_law, well_formed_law}
use Rattle.protocol.specs.Table.{Table, Held, offers, says, at, held_id, offered, places, Ordered, tree, reach}
use Rattle.protocol.proofs.Ids.{same_id_law}
use Rattle.protocol.proofs.Message.{2a-law}
use Rattle.protocol.proofs.Ballot.{ballot_above}
use Rattle.protocol.proofs.Places.{is1b_at_lem}
use Rattle.protocol.proofs.Table.{tree_is, tree_proposal, reach_cases, reach_le, reach_self, reach_step, tran_places}
use Rattle.protocol.proofs.Growth.{at_append, at_end, tree_end, ordered_snoc}
use Rattle.round.specs.Round.{Round}
use Rattle.round.specs.Limits.{max_held, acceptor_room, listening}
use Rattle.round.specs.Holdings.{graph_of, is_voting, id_at, is_recent, is_proposal_at, signer_at, previous_at, references_at, record_at, table_of, is_known, place_of}
use Rattle.round.specs.Rows.{placed, is_known_id, is_awaited, message_of, proposal_rows, first_of}
use Rattle.round.specs.Reply.{reply_places, reply_bytes, reply_record, is_sent}
use Rattle.round.specs.Delivery.{Effect, sent, joins, processed, hold, entered, decided_by, taken, delivery}
use Rattle.round.specs.Premises.{Typed}
use Rattle.round.specs.ShutOut.{NewBallotAnswered}
use Rattle.round.proofs.Step.{Appends}
use Rattle.round.proofs.Fitting.{Fitting, fits_out}
use Rattle.round.proofs.Growing.{hold_fitting, hold_appends, hold_same, hold_id}
use Rattle.round.proofs.Records.{at_table}
use Rattle.round.proofs.Chosen.{chosen_out, reply_covers}
use Rattle.round.proofs.Accepting.{Accepts, proposal_accepts}
use Rattle.round.proofs.Canonical.{table_size}
use Rattle.round.proofs.Tables.{ordered_table, refers}
use Rattle.round.proofs.Bytes.{held_ballot, node_proposed}
use Rattle.round.proofs.Admitted.{handed, proposal_none}
use Rattle.round.proofs.Storing.{new_place}
use Rattle.round.proofs.Answers.{number_replied}
use Rattle.round.proofs.Answering.{sent_law}

-- ---- in a table: place n holds a proposal of the largest ballot, and a vote at place v refers to it and to nothing later
largest_below : (x : ℕ) (l : List Message) → 0 < x → ((y : Message) → y ∈ l → proposed y < x) → largest l < x
unfolding largest
largest_below x [] pos h = pos
largest_below x (y ∷ l) pos h = omega (arith, h y (Memᴰ.head refl), largest_below x l pos (λ z m. h z (Memᴰ.tail m)))

pub record Tops (u : Table) (n v x : ℕ) : Type 0 where
  pub ordered : Ordered u
  -- where there is an earlier place
  pub positive : 0 < n → 0 < x
  pub is_vote : T (not (offered (at u v)))
  pub refers : n ∈ places (at u v)
  pub within : (j : ℕ) → j ∈ places (at u v) → j ≤ n
  pub offers' : T (offered (at u n))
  pub ballot' : proposed (tree u n) ≡ x
  pub lower : (k : ℕ) → k < n → proposed (tree u k) < x

module _ (u : Table) (n v x : ℕ) (tops : Tops u n v x) where
  abbrev m : Message
  m = tree u v

  votes_1b : T (is1b m)
  votes_1b = subst T (sym (is1b_at_lem u tops.ordered v))
      (and_in (not (offered (at u v))) (any (λ k. offered (at u k)) (places (at u v))) tops.is_vote (any_in (λ k. offered (at u k)) tops.refers tops.offers'))

  not_2a : T (not (is2a m))
  not_2a = not_T (is2a m) (λ h. ((2a-law m).0 h).1 votes_1b)

  ballot_low : (k : ℕ) → k < n → ballot (tree u k) < x
  unfolding ballot
  ballot_low k l = largest_below x (tran (tree u k)) (tops.positive (omega arith)) (λ y h.
      let (j, r, e) = (tran_places u tops.ordered k y).0 h in
      let w : proposed (tree u j) < x = tops.lower j (omega (arith, reach_le u tops.ordered k j r)) in
      omega (arith, ap proposed e))

  ballot_high : x ≤ ballot m
  ballot_high =
      let here : tree u n ∈ tran m = (tran_places u tops.ordered v (tree u n)).1 (n, reach_step u tops.ordered v n n tops.refers (reach_self u tops.ordered n), refl) in
      omega (arith, ballot_above m (tree u n) here, tops.ballot')

  all_alone : (y : Message) → y ∈ tran m → T (alone m y)
  unfolding alone
  all_alone y h =
      let (j, r, e) = (tran_places u tops.ordered v y).0 h in
      subst (λ (z : Message). T (same_id (id_of z) (id_of m) || not (eqb (ballot z) (ballot m)) || is_proposal z)) (sym e) (step j (reach_cases u tops.ordered v j r))
    where
      a : ℕ → Bool
      a j = same_id (id_of (tree u j)) (id_of m)

      b : ℕ → Bool
      b j = not (eqb (ballot (tree u j)) (ballot m))

      c : ℕ → Bool
      c j = is_proposal (tree u j)

      beneath : (j : ℕ) → j ≤ n → T (eqb j n) ⊎ T (not (eqb j n)) → T (a j || b j || c j)
      beneath j l (inl t) = or_r (a j || b j) (c j) (subst T (sym (tree_proposal u j)) (subst (λ (k : ℕ). T (offered (at u k))) (sym (eqb→eq j n t)) tops.offers'))
      beneath j l (inr t) =
          or_l (a j || b j) (c j) (or_r (a j) (b j)
          (ne→neqb (ballot (tree u j)) (ballot m) (λ e. absurd (omega (arith, ballot_low j (omega (arith, neqb→ne j n t)), ballot_high)))))

      step : (j : ℕ) → (v ≡ j) ⊎ ((k : ℕ) × (k ∈ places (at u v)) × T (reach u k j)) → T (a j || b j || c j)
      step j (inl e) = or_l (a j || b j) (c j) (or_l (a j) (b j) ((same_id_law (id_of (tree u j)) (id_of m)).1 (ap (λ (k : ℕ). id_of (tree u k)) (sym e))))
      step j (inr (k, i, r)) = beneath j (omega (arith, reach_le u tops.ordered k j r, tops.within k i)) (dec_T (eqb j n))

  tops_1b : T (formed1b m)
  unfolding formed1b
  tops_1b = or_r (not (is1b m)) (all (alone m) (tran m)) (all_in (alone m) (tran m) all_alone)

-- ---- the delivery
some_one : (p q : ℕ) → some p ≡ some q → p ≡ q
some_one p q e = cc

pick_ballot : (b : Bool) (i : Id) (s x y : ℕ) (o : Option Id) (l : List ℕ) → 0 < y → (T b → x < y) → held_ballot (pick b (offers i s x) (says i s o l)) < y
unfolding held_ballot
pick_ballot true i s x y o l pos h = h tt
pick_ballot false i s x y o l pos h = pos

pick_both : (a b : Bool) (x y w : Effect) → T a → T b → (pick a (pick b x y) w).outcome ≡ x.outcome
pick_both true true x y w h k = refl
pick_both true false x y w h k = absurd k
pick_both false b x y w h k = absurd h

module _ (H : List ℕ → Id) (r : Round) (typed : Typed r) (fit : Fitting r) (voting : T (is_voting r)) (b : List ℕ) (f : Proposal)
    (acc : Accepts H r b (offers (H b) f.proposer f.ballot)) (new : place_of r (H b) ≡ none) (free : r.held < acceptor_room)
    (lower : (q : ℕ) → q < r.held → T (is_proposal_at r q) → get_or r.ballots q 0 < f.ballot) where
  abbrev h : Held
  h = offers (H b) f.proposer f.ballot

  abbrev s : Round
  s = hold r h 1

  abbrev z : List ℕ
  z = reply_bytes s r.held

  abbrev vote : Held
  vote = reply_record s (H z) r.held

  abbrev u : Table
  u = table_of s ++ vote ∷ []

  fits_in : r.held < max_held
  fits_in = omega arith

  appends : Appends r s h true
  appends = hold_appends r typed fit fits_in h acc.storable 1

  ordered : Ordered (table_of s)
  ordered = ordered_table s (hold_fitting r typed fit fits_in h acc.storable 1)

  reply_inside : (j : ℕ) → j ∈ reply_places s r.held → j < length (table_of s)
  reply_inside j m = omega (arith, table_size s, (chosen_out s r.held s.held j m).inside)

  -- the reply refers to the proposal
  reply_in : r.held ∈ reply_places s r.held
  unfolding held_id
  reply_in =
      let (j, m, e) = reply_covers s r.held r.held (omega (arith, appends.held)) (or_r (is_recent s r.held) (eqb r.held r.held) (eqb_refl r.held)) in
      let here : place_of s (id_at s j) ≡ some r.held = ap (place_of s) (e ∙ hold_id r typed fit fits_in h acc.storable 1) ∙ new_place r s h new appends in
      subst (λ (k : ℕ). k ∈ reply_places s r.held) (some_one j r.held (sym (chosen_out s r.held s.held j m).canonical ∙ here)) m

  -- the first place that is held holds a proposal, since an acceptor message refers to an earlier one
  positive : 0 < r.held → 0 < f.ballot
  positive l = step (dec_T (is_proposal_at r 0))
    where
      step : T (is_proposal_at r 0) ⊎ T (not (is_proposal_at r 0)) → 0 < f.ballot
      step (inl t) = omega (arith, lower 0 l t)
      step (inr t) = let (j, m) = refers r typed fit 0 l t in absurd (omega (arith, ordered_table r fit 0 j m))

  at_new : at u r.held ≡ h
  at_new =
      at_append (table_of s) (vote ∷ []) r.held (omega (arith, table_size s, appends.held))
      ∙ ap (λ (t : Table). at t r.held) appends.table
      ∙ ap (at (table_of r ++ h ∷ [])) (sym (table_size r))
      ∙ at_end (table_of r) h

  at_old : (k : ℕ) → k < r.held → at u k ≡ record_at r k
  at_old k l =
      at_append (table_of s) (vote ∷ []) k (omega (arith, table_size s, appends.held))
      ∙ ap (λ (t : Table). at t k) appends.table
      ∙ at_append (table_of r) (h ∷ []) k (omega (arith, table_size r))
      ∙ at_table r k l

  ordered_all : Ordered u
  unfolding places
  ordered_all = ordered_snoc (table_of s) vote ordered reply_inside

  ballot_at_lem : (k : ℕ) (g : Held) → at u k ≡ g → proposed (tree u k) ≡ held_ballot g
  ballot_at_lem k g e = ap proposed (tree_is u ordered_all k) ∙ node_proposed (tree u) (at u k) ∙ ap held_ballot e

  tops : Tops u r.held (length (table_of s)) f.ballot
  unfolding offered places held_ballot
  tops =
      record {
        ordered = ordered_all;
        positive = positive;
        is_vote = subst (λ (g : Held). T (not (offered g))) (sym (at_end (table_of s) vote)) tt;
        refers = subst (λ (g : Held). r.held ∈ places g) (sym (at_end (table_of s) vote)) reply_in;
        within = λ j m. omega (arith, reply_inside j (subst (λ (g : Held). j ∈ places g) (at_end (table_of s) vote) m), table_size s, appends.held);
        offers' = subst (λ (g : Held). T (offered g)) (sym at_new) tt;
        ballot' = ballot_at_lem r.held h at_new;
        lower = λ k l.
            let w = pick_ballot (is_proposal_at r k) (id_at r k) (signer_at r k) (get_or r.ballots k 0) f.ballot (previous_at r k) (references_at r k) (positive (omega arith)) (lower k l) in
            omega (arith, ballot_at_lem k (record_at r k) (at_old k l));
      }

  is_sent_lem : T (is_sent s (message_of s vote))
  unfolding places
  is_sent_lem =
      let m = tree u (length (table_of s)) in
      subst T (sym (sent_law s (message_of s vote)))
      (subst (λ (x : Message). T (well_formed (graph_of s) x)) (tree_end (table_of s) vote ordered reply_inside)
      ((well_formed_law (graph_of s) m).1 (
        tops_1b u r.held (length (table_of s)) f.ballot tops,
        (formed2a_law (graph_of s) m).1 (λ two. absurd (T_not (is2a m) (not_2a u r.held (length (table_of s)) f.ballot tops) two)),
      )))

  answers : (processed H s r.held).outcome ≡ Ok (Some (length z))
  unfolding processed
  answers =
      pick_both (is_voting s) (is_sent s (message_of s vote)) (sent H s r.held z) (joins H s r.held) (record { outcome = Ok None; round = s; reply = [] })
      (subst (λ (n : ℕ). T (ltb n listening)) (hold_same r typed fit fits_in h acc.storable 1).own voting) is_sent_lem

-- there is room, and the id is not known
room_found_lem : (b : Bool) (n : ℕ) → n < acceptor_room → n < pick b acceptor_room max_held
room_found_lem true n l = l
room_found_lem false n l = omega arith

pub new_ballot_answered : NewBallotAnswered
new_ballot_answered H rule r typed voting b buffer f ok reads house bay new free lower =
    let h = offers (H b) f.proposer f.ballot in
    let fit = fits_out r ok.0 in
    let unknown : T (not (is_known_id r (H b))) = subst (λ (o : Option ℕ). T (not (placed (is_known r) o))) (sym new) tt in
    let passes : first_of (proposal_rows r (H b) f) ≡ none = proposal_none r (H b) f house bay unknown (room_found_lem (is_voting r && not (is_awaited r (H b))) r.held free) in
    let acc = proposal_accepts H rule r fit.most b f reads passes in
    let enters : delivery H r b buffer ≡ processed H (hold r h 1) r.held =
    handed H r b buffer ok ∙ ap (taken H r b) reads ∙ ap (decided_by H r (H b) h) passes ∙ ap (entered H r h) new in
    number_replied (delivery H r b buffer).outcome (length (reply_bytes (hold r h 1) r.held)) (ap (λ (d : Effect). d.outcome) enters ∙ answers H r typed fit voting b f acc new free lower)
