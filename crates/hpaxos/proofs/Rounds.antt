-- The length of a reply is that of a message.
use mathlib.Core.Path.{◌≡◌, refl, ap}
use mathlib.Core.Bool.{Bool, true, false}
use mathlib.Core.List.{List}
use Prim.Native.Nat.{ℕ, ◌≤◌}
use native.Mathlib.Omega.{arith}
use lib.Dec.{ltb}
use lib.ListN.{length}
use borrow.Author.Tests.{ltb-false}
use Rattle.std.specs.Prelude.{Ok, Err, Some}
use Rattle.base.specs.Tests.{pick}
use Rattle.base.specs.declared.refusal.Refusal.TheVariants.{Argument}
use Rattle.base.specs.Bytes.{Octets}
use Rattle.digest.specs.Sha256.{sha256}
use Rattle.round.specs.Limits.{reply_len}
use Rattle.round.specs.Delivery.{delivered}
use Rattle.round.specs.Answers.{outcome_number}
use Rattle.round.proofs.Sha256.{sha256_is_id_rule}
use Rattle.round.proofs.ShutOut.{reply_length}
use Rattle.roundbytes.specs.Layout.{round_len, round_in}
use Rattle.roundbytes.proofs.Typing.{bytes_are_typed}
use Rattle.engine.specs.Calls.{deliver_answer}

pub reply_short : (b message reply : List ℕ) (n : ℕ) → Octets b → deliver_answer b message reply ≡ Ok (Some n) → n ≤ reply_len
unfolding deliver_answer
reply_short b message reply n o e = by (ltb (length b) round_len) refl e
  where
    by : (t : Bool) → ltb (length b) round_len ≡ t → pick t (Err Argument) (delivered sha256 (round_in b) message reply).outcome ≡ Ok (Some n) → n ≤ reply_len
    by true q h = absurd (let z : ◌≡◌ {A = ℕ} 0 1 = cc in omega arith)
    by false q h = (reply_length sha256 sha256_is_id_rule (round_in b) (bytes_are_typed b o (ltb-false (length b) round_len q)) message reply n (ap outcome_number h)).0
