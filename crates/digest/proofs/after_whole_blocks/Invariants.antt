use Rattle.std.proofs.Common.{◌≡◌, ◌≤◌, ◌*◌, length, drop}
use Rattle.digest.specs.Preprocessing.{padded}
use Rattle.digest.specs.Sha256.{hash}
use Rattle.digest.proofs.after_whole_blocks.Given as goal

-- after so many blocks of the message, the value is the hash after so many blocks of the padded message
abbrev pub invariant-loop-block : goal.invariant-loop-block
invariant-loop-block l = record {
  size : l.block-iterator.size ≡ 64;
  within : 64 * length l.yielded ≤ length l.message;
  rest : l.block-iterator.rest.now ≡ drop (64 * length l.yielded) l.message;
  value : l.value ≡ hash (length l.yielded) (padded l.message);
}
