-- What a message put behind the held ones reaches, its ballot, and whether it is well-formed as a 1b: from the places that those before it reach, and their
-- ballots. t holds the places before it, u the message besides, at place n.
use mathlib.Core.Path.{◌≡◌, refl, sym, ap, ap₂, subst, ◌∙◌}
use mathlib.Core.Bool.{Bool, true, false, not, ◌&&◌, ◌||◌, not-not}
use mathlib.Core.Option.{Option}
use mathlib.Core.List.Memᴰ
use mathlib.Core.List.{List, [], ◌∷◌, ◌++◌}
use Prim.Native.Nat.{ℕ, ◌≤◌, ◌<◌, max}
use native.Mathlib.Omega.{arith}
use borrow.Author.Tests.{ne_eqb}
use lib.Dec.{T, eqb}
use lib.ListN.{length, get_or}
use Rattle.base.specs.Tests.{◌∈◌, any, all, below}
use Rattle.base.proofs.Tests.{any_out, any_cong, any_not_all, below_out}
use Rattle.graph.specs.LearnerGraph.{LearnerGraph}
use Rattle.protocol.specs.Ids.{Id, same_id}
use Rattle.protocol.specs.Message.{ballot}
use Rattle.protocol.specs.WellFormed.{formed1b, formed2a}
use Rattle.protocol.specs.Table.{Held, says, Table, at, held_id, offered, places, Ordered, node_by, tree, reach}
use Rattle.protocol.specs.Inside.Places.{is1b_at, is2a_at, ballot_at, formed1b_at, formed2a_at, lrns_at, repeats_at}
use Rattle.protocol.proofs.Table.{reach_is, reach_le}
use Rattle.protocol.proofs.Growth.{at_append, at_end, tree_append, reach_append, ordered_snoc}
use Rattle.protocol.proofs.Places.{is1b_at_lem, is2a_at_lem, ballot_by, ballot_at_lem, formed1b_at_lem}
use Rattle.protocol.proofs.Places as law
use Rattle.protocol.proofs.PlacesLearners.{formed2a_at_lem}
use Rattle.places.specs.Inside.PlaceSets.{in_set}
use Rattle.scan.specs.Inside.Arrays.{highest, Beneath, is_crowding}
use Rattle.meaning.specs.Inside.Notes.{AllNoted, Judged}
use Rattle.meaning.proofs.Growing.{new_message}
use Rattle.round.specs.Round.{Round}
use Rattle.round.specs.Holdings.{is_proposal_at}
use Rattle.notes.specs.Inside.Layout.{WordNotes, ByteNotes}
use Rattle.round.specs.Limits.{max_held}

denied : (r s b o : Bool) → (r && not s && b && not o) ≡ not (not r || (s || not b || o))
denied true true b o = refl
denied true false true true = refl
denied true false true false = refl
denied true false false o = refl
denied false s b o = refl

-- what the places of t reach, and their ballots: the part of the notes that this file asks
pub record Reached (t : Table) (rn : Round) (wn : WordNotes) : Type 0 where
  pub ordered : Ordered t
  pub kind : (i : ℕ) → i < length t → is_proposal_at rn i ≡ offered (at t i)
  pub reaches : (i : ℕ) → i < length t → (j : ℕ) → j < max_held → in_set (get_or wn.low i 0) (get_or wn.high i 0) j ≡ reach t i j
  pub ballot : (i : ℕ) → i < length t → get_or wn.tops i 0 ≡ ballot_at t i

pub reached_of : (G : LearnerGraph) (t : Table) (rn : Round) (wn : WordNotes) (bn : ByteNotes)
    → AllNoted G t rn wn bn → Reached t rn wn
reached_of G t rn wn bn kn =
    record { ordered = kn.ordered; kind = kn.kind; reaches = λ i l. (kn.noted i l).reaches; ballot = λ i l. (kn.noted i l).ballot }

module _ (t : Table) (rn : Round) (wn : WordNotes) (ps : List ℕ) (rd : Reached t rn wn)
    (id : Id) (sig : ℕ) (prev : Option Id) (n : ℕ) (size : length t ≡ n) (small : n ≤ max_held)
    (back : (j : ℕ) → j ∈ ps → j < length t) where
  abbrev new : Held
  new = says id sig prev ps

  abbrev u : Table
  u = t ++ new ∷ []

  pub ord : Ordered u
  unfolding places
  ord = ordered_snoc t new rd.ordered back

  pub at_new : at u n ≡ new
  at_new = ap (at u) (sym size) ∙ at_end t new

  places_new : places (at u n) ≡ ps
  unfolding places
  places_new = ap places at_new

  -- ---- the places before it
  module _ (j : ℕ) (l : j < n) where
    pub at_old : at u j ≡ at t j
    at_old = at_append t (new ∷ []) j (omega arith)

    pub old : tree u j ≡ tree t j
    old = tree_append t (new ∷ []) rd.ordered j (omega arith)

    pub kind_is : is_proposal_at rn j ≡ offered (at u j)
    kind_is = rd.kind j (omega arith) ∙ ap offered (sym at_old)

    pub top_is : get_or wn.tops j 0 ≡ ballot_at u j
    top_is = rd.ballot j (omega arith) ∙ ap ballot (sym old)

  highest_is : (r : List ℕ) → ((k : ℕ) → k ∈ r → k < n) → highest wn.tops r ≡ law.highest (ballot_at u) r
  unfolding highest law.highest
  highest_is [] h = refl
  highest_is (k ∷ r) h = ap₂ max (top_is k (h k (Memᴰ.head refl))) (highest_is r (λ j m. h j (Memᴰ.tail m)))

  module _ (lo hi bal : ℕ) (o : Bool) (bt : Beneath rn wn ps lo hi bal o) where
    earlier : (k : ℕ) → k ∈ ps → k < n
    earlier k m = let e = back k m in omega arith

    pub beneath_told : (j : ℕ) → j < n → in_set lo hi j ≡ reach u n j
    beneath_told j l =
        bt.set j (omega arith)
        ∙ any_cong (λ k. in_set (get_or wn.low k 0) (get_or wn.high k 0) j) (λ k. reach u k j) ps
        (λ k m. rd.reaches k (back k m) j (omega arith) ∙ sym (reach_append t (new ∷ []) rd.ordered k j (back k m)))
        ∙ sym (reach_is u ord n j ∙ ap₂ ◌||◌ (ne_eqb n j (λ q. omega arith)) (ap (any (λ k. reach u k j)) places_new))

    pub none_told : (j : ℕ) → n ≤ j → j < max_held → T (in_set lo hi j) → ⊥
    none_told j l g h =
        let (k, m, q) = any_out (λ k. in_set (get_or wn.low k 0) (get_or wn.high k 0) j) ps (subst T (bt.set j g) h) in
        let r : T (reach t k j) = subst T (rd.reaches k (back k m) j g) q in
        let e = earlier k m in
        let d = reach_le t rd.ordered k j r in
        omega arith

    pub ballot_told : bal ≡ ballot_at u n
    unfolding ballot_by
    ballot_told = bt.top ∙ highest_is ps earlier ∙ sym (ballot_at_lem u ord n ∙ ap (ballot_by (ballot_at u)) at_new)

    offer_told : o ≡ any (λ k. offered (at u k)) ps
    offer_told = bt.offer ∙ any_cong (is_proposal_at rn) (λ k. offered (at u k)) ps (λ k m. kind_is k (earlier k m))

    pub first_told : is1b_at u n ≡ o
    unfolding offered places
    first_told = is1b_at_lem u ord n ∙ ap (λ (r : Held). not (offered r) && any (λ k. offered (at u k)) (places r)) at_new ∙ sym offer_told

    pub second_told : is2a_at u n ≡ not o
    unfolding offered places
    second_told = is2a_at_lem u ord n ∙ ap (λ (r : Held). not (offered r) && not (any (λ k. offered (at u k)) (places r))) at_new ∙ ap not (sym offer_told)

    -- ---- a new message is judged
    message_is : tree u n ≡ node_by (tree t) new
    unfolding places
    message_is = ap (tree u) (sym size) ∙ new_message t new rd.ordered back

    -- place j does not crowd it
    abbrev pub alone : ℕ → Bool
    alone j = not (reach u n j) || (same_id (held_id (at u j)) (held_id (at u n)) || not (eqb (ballot_at u j) (ballot_at u n)) || offered (at u j))

    pub judged : (G : LearnerGraph) (first second : Bool) → first ≡ formed1b_at u n → second ≡ formed2a_at u G n
        → Judged G (node_by (tree t) new) (record { formed1b = first; formed2a = second })
    judged G first second h₁ h₂ =
        record {
          formed1 = h₁ ∙ ap formed1b message_is;
          formed2 = h₂ ∙ ap (formed2a G) message_is;
        }

    -- a 1b: whether another message crowds it. The names tell the ids of the places before it from its own
    module _ (G : LearnerGraph) (bn : ByteNotes) (name : ℕ) (id_is : (j : ℕ) (l : j < n) → eqb (get_or bn.names j 0) name ≡ same_id (held_id (at u j)) id) where
      crowded_told : any (is_crowding rn wn bn lo hi name bal) (below n) ≡ not (all alone (below n))
      unfolding held_id
      crowded_told =
          any_cong (is_crowding rn wn bn lo hi name bal) (λ j. not (alone j)) (below n) (λ j m. step j (below_out n m)) ∙ any_not_all (λ j. not (alone j)) alone (below n) (λ j. refl)
        where
          same : (j : ℕ) (l : j < n) → eqb (get_or bn.names j 0) name ≡ same_id (held_id (at u j)) (held_id (at u n))
          same j l = id_is j l ∙ ap (λ (r : Held). same_id (held_id (at u j)) (held_id r)) (sym at_new)

          step : (j : ℕ) (l : j < n) → is_crowding rn wn bn lo hi name bal j ≡ not (alone j)
          step j l =
              (λ e. beneath_told j l e && not (same j l e) && eqb (top_is j l e) (ballot_told e) && not (kind_is j l e))
              ∙ denied (reach u n j) (same_id (held_id (at u j)) (held_id (at u n))) (eqb (ballot_at u j) (ballot_at u n)) (offered (at u j))

      pub first_judged : (crowded : Bool) → crowded ≡ any (is_crowding rn wn bn lo hi name bal) (below n) → o ≡ true
          → Judged G (node_by (tree t) new) (record { formed1b = not crowded; formed2a = true })
      first_judged crowded hc one =
          judged G (not crowded) true
          (ap not (hc ∙ crowded_told) ∙ not-not (all alone (below n)) ∙ sym (formed1b_at_lem u ord n n (omega arith) ∙ ap (λ (z : Bool). not z || all alone (below n)) (first_told ∙ one)))
          (sym (formed2a_at_lem u G n ∙ ap (λ (z : Bool). not z || (any (lrns_at u G n) (below G.learners) && not (repeats_at u G n))) (second_told ∙ ap not one)))
