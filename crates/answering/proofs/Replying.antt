-- A reply that was formed is that of the round, and what follows on it.
use Prim.Native.Nat.{ℕ, ◌<◌, ◌≤◌, ◌-◌, ◌+◌}
use mathlib.Core.Path.{◌≡◌, ap, ◌∙◌, subst, sym, ap₂, refl}
use lib.ListN.{length, length-append, drop, take}
use native.Mathlib.Omega.{arith}
use mathlib.Core.List.{List, ◌++◌, []}
use lib.Dec.{T}
use lib.Seq.{take_at}
use mathlib.Core.Bool.{Bool, true, false, ◌&&◌}
use borrow.Author.Tests.{le-ltb, lt-ltb}
use Rattle.std.specs.Prelude.{Ok, None}
use Rattle.protocol.specs.WellFormed.{well_formed}
use Rattle.round.specs.Round.{Round}
use Rattle.round.proofs.Fitting.{Fitting}
use Rattle.holding.specs.declared.reply.Reply.{Reply}
use Rattle.holding.specs.Inside.Replying.{reply_of}
use Rattle.round.specs.Reply.{reply_places, reply_record, reply_bytes, is_sent}
use Rattle.round.proofs.Chosen.{chosen_most, reply_some, chosen_out}
use Rattle.admission.specs.Inside.Votes.{record_of, refers_to}
use Rattle.admission.proofs.Votes.{vote_refers}
use Rattle.round.specs.Delivery.{previous_place, Effect, Delivered, processed, answered}
use Rattle.round.specs.Holdings.{named, is_voting, graph_of}
use Rattle.round.proofs.Marking.{previous_named, named_placed, previous_fits}
use Rattle.protocol.specs.Ids.{Id}
use Rattle.protocol.specs.Table.{says}
use Rattle.judging.specs.Inside.Referring.{Referring}
use Rattle.base.specs.Tests.{◌∈◌, pick}
use Rattle.round.specs.Handed.{place_fits}
use Rattle.message.specs.Writer.{fronted}
use Rattle.answering.specs.Inside.Giving.{Gives, left}
use Rattle.round.specs.Limits.{listening}
use Rattle.roundbytes.specs.Layout.{round_in, round_len}
use Rattle.roundbytes.specs.Inside.Keeping.{Kept}
use Rattle.protocol.specs.Message.{Message}
use Rattle.meaning.specs.declared.Note.{Note}
use Rattle.meaning.specs.Inside.Notes.{Judged}

-- a part from the front
pub front_part : (n : ℕ) (l : List ℕ) → take (n - 0) (drop 0 l) ≡ take n l
front_part n l = let e : n - 0 ≡ n = omega arith in ap (λ (k : ℕ). take k l) e

-- ---- z, the reply of a round to the message at place p
module _ (r : Round) (f : Fitting r) (p : ℕ) (here : p < r.held) (z : Reply) (is : z ≡ reply_of r p) where
  few : length (reply_places r p) ≤ r.held
  few = chosen_most r p r.held

  listed : refers_to z.vote ≡ reply_places r p
  listed = vote_refers z.vote r.own (previous_place r (named r r.last)) (reply_places r p) (ap (λ (x : Reply). x.vote) is)

  back : z.vote.previous ≡ previous_place r (named r r.last)
  back = ap (λ (x : Reply). x.vote.previous) is

  last : named r z.vote.previous ≡ named r r.last
  last = ap (named r) back ∙ previous_named r f.most (named r r.last) (named_placed r r.last f.last)

  -- it is the record of the reply
  pub reply_record_lem : (i : Id) → record_of r i z.vote ≡ reply_record r i p
  reply_record_lem i = λ k. says i (is k).vote.signer (last k) (listed k)

  -- it refers to held messages
  pub reply_refers : Referring r z.vote
  reply_refers =
      let n = ap length listed in
      let some = reply_some r p here in
      let most = f.most in
      let least = few in
      record {
        least = omega arith;
        most = omega arith;
        earlier = λ j m. (chosen_out r p r.held j (subst (λ (y : List ℕ). j ∈ y) listed m)).inside;
        placed = subst (λ (q : ℕ). T (place_fits r q)) (sym back) (previous_fits r (named r r.last) (named_placed r r.last f.last));
        lowest = back ∙ sym (ap (previous_place r) last);
      }

  -- its bytes stand at the front of the buffer that it was formed in
  module _ (before after : List ℕ) (put : after ≡ fronted (reply_bytes r p) before) where
    pub reply_long : z.len ≡ length (reply_bytes r p)
    reply_long = ap (λ (x : Reply). x.len) is

    pub reply_within : z.len ≤ length after
    reply_within =
        let e = ap length put ∙ length-append (reply_bytes r p) (drop (length (reply_bytes r p)) before) in
        let n = reply_long in
        omega arith

    pub reply_front : take (z.len - 0) (drop 0 after) ≡ reply_bytes r p
    reply_front = front_part z.len after ∙ ap₂ take reply_long put ∙ take_at (reply_bytes r p) (drop (length (reply_bytes r p)) before) (length (reply_bytes r p)) refl

-- what is written to the front of the buffer
pub put_front : (z b : List ℕ) → take 0 b ++ z ++ drop (0 + length z) b ≡ fronted z b
put_front z b = let e : 0 + length z ≡ length z = omega arith in ap (λ (k : ℕ). z ++ drop k b) e

-- one of two results
pub gives_first : (b : Bool) (x y : Effect) (r : Delivered) (before after : List ℕ) → b ≡ true → Gives x r before after → Gives (pick b x y) r before after
gives_first b x y r before after e h = subst (λ (t : Bool). Gives (pick t x y) r before after) (sym e) h

pub gives_second : (b : Bool) (x y : Effect) (r : Delivered) (before after : List ℕ) → b ≡ false → Gives y r before after → Gives (pick b x y) r before after
gives_second b x y r before after e h = subst (λ (t : Bool). Gives (pick t x y) r before after) (sym e) h

-- nothing is written
pub front_none : (b : List ℕ) → b ≡ fronted [] b
front_none b = refl

-- ---- what follows on the message at place p: a round that listens sends nothing, one that votes answers
pub process_listening : (H : List ℕ → Id) (s : List ℕ) (p : ℕ) (before : List ℕ) → listening ≤ (round_in s).own → Gives (processed H (round_in s) p) (left (Ok None) s) before before
unfolding processed
process_listening H s p before h =
    let r = round_in s in
    gives_second (is_voting r) (answered H r p (reply_bytes r p)) (record { outcome = Ok None; round = r; reply = [] }) (left (Ok None) s) before before (le-ltb r.own listening h) (refl, front_none before)

pub process_voting : (H : List ℕ → Id) (r : Round) (p : ℕ) (x : Delivered) (before after : List ℕ) → r.own < listening → Gives (answered H r p (reply_bytes r p)) x before after → Gives (processed H r p) x before after
unfolding processed
process_voting H r p x before after h g =
    gives_first (is_voting r) (answered H r p (reply_bytes r p)) (record { outcome = Ok None; round = r; reply = [] }) x before after (lt-ltb r.own listening h) g

-- z is sent where it is well-formed as a 1b and as a 2a
pub sent_judged : (r : Round) (m : Message) (x : Note) → Judged (graph_of r) m x → (x.formed1b && x.formed2a) ≡ is_sent r m
unfolding is_sent well_formed
sent_judged r m x j = λ k. j.formed1 k && j.formed2 k

-- ---- bytes that are written one step after the other
pub kept_on : (a b c : List ℕ) → Kept a b → Kept b c → Kept a c
kept_on a b c x y = (y.0 ∙ x.0, y.1 ∙ x.1)

pub kept_long : (a b : List ℕ) → Kept a b → round_len ≤ length a → round_len ≤ length b
kept_long a b k h = let e = k.0 in omega arith
