-- After acceptance: nothing is sent, or one message is sent and held as awaiting its return.
use mathlib.Core.Path.{◌≡◌, refl, sym, ap, subst, ◌∙◌}
use mathlib.Core.Logic.{◌⊎◌, inl, inr, ◌≢◌}
use mathlib.Core.Bool.{Bool, true, false}
use mathlib.Core.Option.{none, some}
use mathlib.Core.List.{List, []}
use Prim.Native.Nat.{ℕ, ◌<◌}
use native.Mathlib.Omega.{arith}
use lib.Dec.{T, le→leb}
use lib.ListN.{length, set, replicate, length-set}
use borrow.Author.Tests.{ne_eqb}
use Rattle.std.specs.Prelude.{Err, Ok, Some, None}
use Rattle.base.specs.Tests.{pick}
use Rattle.base.specs.declared.refusal.Refusal.{Refusal}
use Rattle.message.specs.Reader.{reading}
use Rattle.message.specs.declared.AcceptorMessage.{AcceptorMessage}
use Rattle.round.specs.Outcomes.{Reading}
use Rattle.message.specs.declared.Message.TheVariants.{OfAcceptor}
use Rattle.protocol.specs.Ids.{Id}
use Rattle.protocol.specs.Message.{Message}
use Rattle.protocol.specs.WellFormed.{well_formed}
use Rattle.protocol.specs.Table.{Held, held_id, held_previous, offered, places, joint, content_of}
use Rattle.round.specs.Round.{Round}
use Rattle.round.specs.Limits.{max_held, no_place}
use Rattle.round.specs.Holdings.{graph_of, is_voting, id_at, named, table_of}
use Rattle.round.specs.Rows.{message_of}
use Rattle.round.specs.Reply.{reply_places, reply_bytes, reply_record, is_sent}
use Rattle.round.specs.Delivery.{Effect, hold, with_recent, recent_with, sent, joins, answered, processed}
use Rattle.round.specs.Premises.{IdRule, Typed}
use Rattle.round.specs.Demands.{ReplySays}
use Rattle.round.proofs.Step.{content_read, content_in, Records, Same, Appends, Silent, Sends}
use Rattle.round.proofs.Fitting.{Fitting, place_held}
use Rattle.round.proofs.Chosen.{reply_some}
use Rattle.round.proofs.Holding.{Storable}
use Rattle.round.proofs.Growing.{hold_typed, hold_fitting, hold_appends, hold_same, hold_id}
use Rattle.round.proofs.Records.{table_ids}
use Rattle.round.proofs.Sending.{reply_inside, reply_canonical, reply_most, reply_fields, reply_reads, reply_previous, reply_ids, reply_says}
use Rattle.round.proofs.Recent.{RecentHolds, joined_size, joined_holds, sent_holds}
use Rattle.round.proofs.Marking.{recent_typed, recent_fitting, named_placed, previous_fits, previous_named}

-- ---- THE TEST before a reply: z is well-formed, as a 1b and as a 2a
pub sent_law : (r : Round) (z : Message) → is_sent r z ≡ well_formed (graph_of r) z
unfolding is_sent
sent_law r z = refl

-- bytes that are read as an acceptor message are not refused
pub acceptor_readable : (x : Reading) (m : AcceptorMessage) → x ≡ Ok (OfAcceptor m) → (e : Refusal) → x ≢ Err e
acceptor_readable x m q e k = let z : ◌≡◌ {A = ℕ} 0 1 = cc in omega arith

-- what a reply of r says, as an answer to the message with the id m
abbrev pub Speaks : Round → Id → Effect → Type 0
Speaks r m d = (n : ℕ) → d.outcome ≡ Ok (Some n) → ReplySays r m d.reply

mute : (r : Round) (m : Id) (d : Effect) → d.outcome ≡ Ok None → Speaks r m d
mute r m d e n k = let z : ◌≡◌ {A = ℕ} 0 1 = cc in absurd (omega arith)

-- s holds the message at place p
pub record Answers (H : List ℕ → Id) (s : Round) (p : ℕ) (d : Effect) : Type 0 where
  pub answers : Silent s d.round d.outcome d.reply ⊎ Sends H s d.round d.outcome d.reply
  pub typed : Typed d.round
  pub fitting : Fitting d.round
  pub speaks : Speaks s (id_at s p) d
  pub recent : RecentHolds s → RecentHolds d.round

pick_answers : (H : List ℕ → Id) (s : Round) (p : ℕ) (b : Bool) (x y : Effect) → (T b → Answers H s p x) → Answers H s p y → Answers H s p (pick b x y)
pick_answers H s p true x y f g = f tt
pick_answers H s p false x y f g = g

-- ---- nothing is sent
same_round : (s : Round) → Same s s
same_round s = record { graph = refl; house = refl; bay = refl; own = refl }

module _ (H : List ℕ → Id) (s : Round) (typed : Typed s) (fit : Fitting s) (p : ℕ) (here : p < s.held) where
  quiet : Answers H s p (record { outcome = Ok None; round = s; reply = [] })
  quiet =
      record {
        answers = inl (record { outcome = refl; nothing = refl; held = refl; table = refl; known = λ q l. refl; same = same_round s; last = refl });
        typed = typed;
        fitting = fit;
        speaks = mute s (id_at s p) (record { outcome = Ok None; round = s; reply = [] }) refl;
        recent = λ inv. inv;
      }

  joined_recent : Answers H s p (joins H s p)
  joined_recent =
      record {
        answers = inl (record { outcome = refl; nothing = refl; held = refl; table = refl; known = λ q l. refl; same = record { graph = refl; house = refl; bay = refl; own = refl }; last = refl });
        typed = recent_typed s typed s.last (recent_with s p) (joined_size s p typed.recent_size);
        fitting = recent_fitting s fit s.last (recent_with s p) fit.last;
        speaks = mute s (id_at s p) (joins H s p) refl;
        recent = joined_holds s p typed.recent_size (omega (arith, fit.most));
      }

-- ---- a message is sent
module _ (H : List ℕ → Id) (rule : IdRule H) (s : Round) (typed : Typed s) (fit : Fitting s) (voting : T (is_voting s)) (room : s.held < max_held) (p : ℕ) (here : p < s.held) where
  abbrev z : List ℕ
  z = reply_bytes s p

  abbrev h : Held
  h = reply_record s (H z) p

  pub storable : Storable s h
  unfolding held_id places held_previous offered
  storable =
      record {
        id_size = rule.size z;
        id_bytes = rule.bytes z;
        most = reply_most s typed fit p here;
        some' = le→leb 1 (length (reply_places s p)) (reply_some s p here);
        earlier = reply_inside s typed fit p here;
        placed = previous_fits s (named s s.last) (named_placed s s.last fit.last);
        previous = previous_named s fit.most (named s s.last) (named_placed s s.last fit.last);
      }

  content : content_of (table_of s) h ≡ content_in z
  unfolding content_of
  content =
      (λ i. joint s.own (sym (reply_previous s typed fit p here) i)
      ((table_ids s (reply_places s p) (reply_inside s typed fit p here) ∙ sym (reply_ids s typed fit p here)) i))
      ∙ ap (content_read z) (sym (reply_reads s typed fit p here))

  records : Records H s z h
  unfolding held_id places
  records =
      record {
        readable = acceptor_readable (reading z) (reply_fields s typed fit p here) (reply_reads s typed fit p here);
        id = refl;
        content = content;
        earlier = reply_inside s typed fit p here;
        canonical = reply_canonical s typed fit p here;
      }

  abbrev t : Round
  t = with_recent (hold s h 0) s.held (set (replicate max_held 0) s.held 1)

  pub appends : Appends s t h false
  appends = let a = hold_appends s typed fit room h storable 0 in record { held = a.held; table = a.table; old = a.old; new = a.new }

  same : Same s t
  same = let a = hold_same s typed fit room h storable 0 in record { graph = a.graph; house = a.house; bay = a.bay; own = a.own }

  pub last : named t t.last ≡ some (H z)
  unfolding held_id
  last = λ i. pick (ne_eqb s.held no_place (λ e. absurd (omega arith)) i) none (some (hold_id s typed fit room h storable 0 i))

  pub sends : T (is_sent s (message_of s h)) → Answers H s p (sent H s p z)
  unfolding offered
  sends judged =
      let held = (hold_appends s typed fit room h storable 0).held in
      record {
        answers = inr (record {
          outcome = refl;
          voting = voting;
          record' = h;
          is_vote = tt;
          records = records;
          names = (reply_fields s typed fit p here, reply_reads s typed fit p here, reply_previous s typed fit p here);
          appends = appends;
          same = same;
          last = last;
          formed = subst T (sent_law s (message_of s h)) judged;
        });
        typed = recent_typed (hold s h 0) (hold_typed s typed fit room h storable 0) s.held (set (replicate max_held 0) s.held 1)
            (length-set (replicate max_held 0) s.held 1);
        fitting = recent_fitting (hold s h 0) (hold_fitting s typed fit room h storable 0) s.held (set (replicate max_held 0) s.held 1)
            (place_held (hold s h 0) s.held (omega arith));
        speaks = λ n e. reply_says s typed fit p here;
        recent = λ inv. sent_holds s typed fit room h storable tt;
      }

-- ---- either, as the message was accepted
pub processing : (H : List ℕ → Id) → IdRule H → (s : Round) → Typed s → Fitting s → (T (is_voting s) → s.held < max_held) → (p : ℕ) → p < s.held → Answers H s p (processed H s p)
unfolding processed
processing H rule s typed fit room p here =
    pick_answers H s p (is_voting s) (answered H s p (reply_bytes s p)) (record { outcome = Ok None; round = s; reply = [] })
    (λ v. pick_answers H s p (is_sent s (message_of s (reply_record s (H (reply_bytes s p)) p))) (sent H s p (reply_bytes s p)) (joins H s p)
    (λ t. sends H rule s typed fit v (room v) p here t)
    (joined_recent H s typed fit p here))
    (quiet H s typed fit p here)
