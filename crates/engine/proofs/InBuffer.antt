-- A round that is read and written in place: what its bytes say afterwards decides each of them.
use mathlib.Core.Path.{◌≡◌, sym, ap, ap₂, ◌∙◌}
use mathlib.Core.List.{List, ◌++◌}
use Prim.Native.Nat.{ℕ, ◌≤◌}
use native.Mathlib.Omega.{arith}
use lib.ListN.{length, take, drop, take-append-drop}
use lib.Seq.{length-take-le}
use borrow.Author.Tests.{le-ltb}
use Rattle.std.specs.Prelude.{Ok, Err, Some, None}
use Rattle.base.specs.Bytes.{Octets}
use Rattle.digest.specs.Sha256.{sha256}
use Rattle.message.specs.Writer.{fronted}
use Rattle.round.specs.Round.{Round}
use Rattle.round.specs.Outcomes.{Outcome}
use Rattle.round.specs.Delivery.{delivered, replied}
use Rattle.round.proofs.OneCall.{refused_leaves_all_lem}
use Rattle.roundbytes.specs.Layout.{round_len, round_bytes, round_in}
use Rattle.roundbytes.specs.Inside.Keeping.{Kept}
use Rattle.roundbytes.proofs.RoundBytes.{bytes_written_back}
use Rattle.engine.specs.Calls.{deliver_answer, delivered_to, deliver_to, reply_to}

module _ (before after : List ℕ) (was : Octets before) (is : Octets after) (long : round_len ≤ length before) (kept : Kept before after) where
  far : round_len ≤ length after
  far = let e = kept.0 in omega arith

  -- the round that the bytes hold, at their front
  pub written : (next : Round) → round_in after ≡ next → after ≡ fronted (round_bytes next) before
  written next e =
      let front : take round_len after ≡ round_bytes next = sym (bytes_written_back after is far) ∙ ap round_bytes e in
      let size : round_len ≡ length (round_bytes next) = sym (length-take-le round_len after far) ∙ ap length front in
      sym (take-append-drop round_len after) ∙ ap₂ ◌++◌ front (kept.1 ∙ ap (λ (n : ℕ). drop n before) size)

  -- the round that they held before: nothing was written
  pub unwritten : round_in after ≡ round_in before → after ≡ before
  unwritten e =
      let front : take round_len after ≡ take round_len before = sym (bytes_written_back after is far) ∙ ap round_bytes e ∙ bytes_written_back before was long in
      sym (take-append-drop round_len after) ∙ ap₂ ◌++◌ front kept.1 ∙ take-append-drop round_len before

  -- after a delivery
  pub landed : (message reply : List ℕ) (o : Outcome) → o ≡ (delivered sha256 (round_in before) message reply).outcome
      → round_in after ≡ (delivered sha256 (round_in before) message reply).round → after ≡ delivered_to o (delivered sha256 (round_in before) message reply).round before
  landed message reply (Ok None) e f = written (delivered sha256 (round_in before) message reply).round f
  landed message reply (Ok (Some n)) e f = written (delivered sha256 (round_in before) message reply).round f
  landed message reply (Err x) e f = unwritten (f ∙ (refused_leaves_all_lem sha256 (round_in before) message reply x (sym e)).0)

  pub answers : (message reply reply' : List ℕ) (o : Outcome) → o ≡ (delivered sha256 (round_in before) message reply).outcome
      → round_in after ≡ (delivered sha256 (round_in before) message reply).round → reply' ≡ replied sha256 (round_in before) message reply
      → (o ≡ deliver_answer before message reply) × ((after ≡ deliver_to before message reply) × (reply' ≡ reply_to before message reply))
  unfolding deliver_answer deliver_to reply_to
  answers message reply reply' o e f g =
      let whole = le-ltb (length before) round_len long in
      let n = (delivered sha256 (round_in before) message reply).round in (
        e ∙ sym (simp whole),
        (landed message reply o e f ∙ ap (λ (x : Outcome). delivered_to x n before) e ∙ sym (simp whole), g ∙ sym (simp whole)),
      )
