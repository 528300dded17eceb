-- The calls without a round that write: one that is turned down leaves its buffer as it was.
use mathlib.Core.Path.{◌≡◌, refl}
use mathlib.Core.Logic.{◌≢◌}
use mathlib.Core.Bool.{Bool, true, false}
use mathlib.Core.List.{List, ◌++◌}
use Prim.Native.Nat.{ℕ}
use lib.Dec.{ltb}
use lib.ListN.{length, drop}
use Rattle.std.specs.Prelude.{Result, Ok, Err}
use Rattle.base.specs.Tests.{pick}
use Rattle.base.specs.declared.refusal.Refusal.{Refusal}
use Rattle.base.specs.declared.refusal.Refusal.TheVariants.{Argument}
use Rattle.digest.specs.Sha256.{sha256}
use Rattle.round.specs.Outcomes.{Reading}
use Rattle.message.specs.declared.Message.TheVariants.{OfProposer, OfAcceptor}
use Rattle.message.specs.Layout.{id_len}
use Rattle.message.specs.Reader.{reading, reference_in}
use Rattle.message.specs.Writer.{proposal_bytes, fronted, copied_from, copy_answer}
use Rattle.plain.specs.Answers.{answer_of}
use Rattle.plain.specs.Message.{row_len, fields_of}
use Rattle.hpaxos.specs.Demands.{NothingRefusedWrites}

digest_refused : (t : Bool) (digest after : List ℕ) → pick {A = ℕ} t 17 0 ≢ 0 → pick t digest after ≡ digest
digest_refused true digest after k = refl
digest_refused false digest after k = absurd (k refl)

read_refused : (t : Bool) (s : List ℕ) (x : Reading) (fields : List ℕ) → pick t 17 (answer_of x) ≢ 0 → pick t fields (fields_of s x fields) ≡ fields
read_refused true s x fields k = refl
read_refused false s (Ok (OfProposer p)) fields k = absurd (k refl)
read_refused false s (Ok (OfAcceptor m)) fields k = absurd (k refl)
read_refused false s (Err e) fields k = refl

reference_refused : (t : Bool) (s : List ℕ) (x : Result ℕ Refusal) (id : List ℕ) → answer_of (pick t (Err Argument) (copy_answer x)) ≢ 0 → pick t id (copied_from s x id) ≡ id
reference_refused true s x id k = refl
reference_refused false s (Ok p) id k = absurd (k refl)
reference_refused false s (Err e) id k = refl

write_refused : (t : Bool) (n : ℕ) (message after : List ℕ) → answer_of {X = ℕ} (pick t (Err Argument) (Ok n)) ≢ 0 → pick t message after ≡ message
write_refused true n message after k = refl
write_refused false n message after k = absurd (k refl)

pub nothing_refused_writes : NothingRefusedWrites
nothing_refused_writes = (
  λ message digest. digest_refused (ltb (length digest) 32) digest (sha256 message ++ drop 32 digest),
  λ message fields. read_refused (ltb (length fields) row_len) message (reading message) fields,
  λ message n id. reference_refused (ltb (length id) id_len) message (reference_in message n) id,
  λ p message. write_refused (ltb (length message) (length (proposal_bytes p))) (length (proposal_bytes p)) message (fronted (proposal_bytes p) message),
)
