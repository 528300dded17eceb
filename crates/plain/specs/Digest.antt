-- What the call for a digest answers and writes. A buffer is the list of its bytes.
use Rattle.std.specs.Prelude.{List, ◌++◌, ℕ, ltb, length, drop}
use Rattle.base.specs.Tests.{pick}
use Rattle.digest.specs.Sha256.{sha256}

-- 17 for a buffer of fewer than 32 bytes, else 0
abbrev pub digest_answer : List ℕ → ℕ
digest_answer buffer = pick (ltb (length buffer) 32) 17 0

-- the buffer after the call: as it was, where it is too short; else the digest, and what stood behind its 32 bytes
abbrev pub digest_buffer : List ℕ → List ℕ → List ℕ
digest_buffer message buffer = pick (ltb (length buffer) 32) buffer (sha256 message ++ drop 32 buffer)
