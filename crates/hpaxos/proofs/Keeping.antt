-- A buffer that an opening was written to holds the round opened, and after a delivery it holds the next one.
use mathlib.Core.Path.{◌≡◌, refl, sym, ap, subst, ◌∙◌}
use mathlib.Core.List.{List}
use Prim.Native.Nat.{ℕ, ◌≤◌}
use native.Mathlib.Omega.{arith}
use lib.ListN.{length, drop, length-append, length-drop}
use borrow.Author.Tests.{le-ltb}
use Rattle.std.specs.Prelude.{Ok, Err, Some, None}
use Rattle.base.specs.Bytes.{Octets}
use Rattle.digest.specs.Sha256.{sha256}
use Rattle.message.specs.Writer.{fronted}
use Rattle.round.specs.Round.{Round}
use Rattle.round.specs.Outcomes.{Outcome}
use Rattle.round.specs.Delivery.{delivered}
use Rattle.round.specs.Premises.{Starts, Typed}
use Rattle.round.proofs.JustOpened.{opened_round}
use Rattle.round.proofs.OneCall.{refused_leaves_all_lem}
use Rattle.roundbytes.specs.Layout.{round_len, round_bytes, round_in, Laid}
use Rattle.roundbytes.proofs.RoundBytes.{round_reads_back}
use Rattle.engine.specs.Calls.{delivered_to, deliver_to}
use Rattle.hpaxos.proofs.OpenedLaid.{opened_laid}
use Rattle.hpaxos.proofs.DeliveredLaid.{delivered_laid}

-- a round put to the front of a buffer is read there, and the buffer is no shorter
front_read : (r : Round) (buffer : List ℕ) → Laid r → round_in (fronted (round_bytes r) buffer) ≡ r
front_read r buffer laid = round_reads_back r (drop (length (round_bytes r)) buffer) laid

front_long : (e buffer : List ℕ) → length buffer ≤ length (fronted e buffer)
front_long e buffer = omega (arith, length-append e (drop (length e) buffer), length-drop (length e) buffer)

-- ---- one delivery to the round in b
module _ (b message reply : List ℕ) (long : round_len ≤ length b) where
  here : deliver_to b message reply ≡ delivered_to (delivered sha256 (round_in b) message reply).outcome (delivered sha256 (round_in b) message reply).round b
  unfolding deliver_to
  here = simp (le-ltb (length b) round_len long)

  deliver_long : round_len ≤ length (deliver_to b message reply)
  deliver_long = subst (λ (x : List ℕ). round_len ≤ length x) (sym here) (by (delivered sha256 (round_in b) message reply).outcome)
    where
      n : Round
      n = (delivered sha256 (round_in b) message reply).round

      by : (o : Outcome) → round_len ≤ length (delivered_to o n b)
      by (Ok None) = omega (arith, front_long (round_bytes n) b)
      by (Ok (Some k)) = omega (arith, front_long (round_bytes n) b)
      by (Err e) = long

  deliver_read : Laid (delivered sha256 (round_in b) message reply).round → round_in (deliver_to b message reply) ≡ (delivered sha256 (round_in b) message reply).round
  deliver_read laid = ap round_in here ∙ by (delivered sha256 (round_in b) message reply).outcome refl
    where
      n : Round
      n = (delivered sha256 (round_in b) message reply).round

      by : (o : Outcome) → o ≡ (delivered sha256 (round_in b) message reply).outcome → round_in (delivered_to o n b) ≡ n
      by (Ok None) e = front_read n b laid
      by (Ok (Some k)) e = front_read n b laid
      by (Err x) e = sym (refused_leaves_all_lem sha256 (round_in b) message reply x (sym e)).0

-- ---- a round that a buffer holds: as its types have it, and such that it can be laid out as bytes
pub record Holds (b : List ℕ) (r : Round) : Type 0 where
  pub long : round_len ≤ length b
  pub same : round_in b ≡ r
  pub laid : Laid r
  pub typed : Typed r

-- a buffer that an opening was written to holds the round opened
pub opened_holds : (file : List ℕ) (house bay own : ℕ) (buffer : List ℕ) (r : Round) → Octets file → Starts file house bay own r → round_len ≤ length buffer
    → Holds (fronted (round_bytes r) buffer) r
opened_holds file house bay own buffer r bytes starts long =
    let laid = opened_laid file house bay own r bytes starts in
    record {
      long = omega (arith, front_long (round_bytes r) buffer);
      same = front_read r buffer laid;
      laid = laid;
      typed = (opened_round file house bay own r starts).typed;
    }

-- and after a delivery it holds the next one
pub delivered_holds : (b message reply : List ℕ) (r : Round) → Holds b r → Octets message → Holds (deliver_to b message reply) (delivered sha256 r message reply).round
delivered_holds b message reply r h o =
    let (laid, typed) = delivered_laid r h.laid h.typed message reply o in
    let next : (delivered sha256 (round_in b) message reply).round ≡ (delivered sha256 r message reply).round = ap (λ (x : Round). (delivered sha256 x message reply).round) h.same in
    record {
      long = deliver_long b message reply h.long;
      same = deliver_read b message reply h.long (subst Laid (sym next) laid) ∙ next;
      laid = laid;
      typed = typed;
    }
