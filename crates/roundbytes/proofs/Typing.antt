-- A round read in bytes is as its types have it.
use mathlib.Core.Path.{◌≡◌, ◌∙◌}
use mathlib.Core.List.{List, [], ◌∷◌}
use Prim.Native.Nat.{ℕ, zero, suc, ◌+◌, ◌*◌, ◌^◌, ◌<◌}
use native.Mathlib.Nat.{pow-suc}
use native.Mathlib.Omega.{arith}
use lib.ListN.{length, drop, length-append}
use Rattle.base.specs.Bytes.{be, Octets}
use Rattle.base.proofs.Bytes.{part_length}
use Rattle.round.proofs.Parts.{bytes_take, bytes_drop}
use Rattle.roundbytes.specs.Layout.{numbers, round_in, house_at, bay_at, ids_at, kinds_at, signers_at, ballots_at, previous_at, counts_at, references_at, known_at, recent_at, BytesAreTyped}
use Rattle.round.specs.Limits.{max_held}
use Rattle.message.specs.Layout.{id_len}

-- ---- a number of w bytes
pub be_below : (w : ℕ) (s : List ℕ) (at : ℕ) → Octets s → be w s at < 256 ^ w
unfolding be
be_below zero s at o = omega arith
be_below (suc w) s at o = let h = be_below w s at o in let e = pow-suc 256 w in omega (arith, o (at + w))

pub numbers_length : (w n : ℕ) (s : List ℕ) (at : ℕ) → length (numbers w n s at) ≡ n
unfolding numbers
numbers_length w zero s at = omega arith
numbers_length w (suc n) s at = length-append (numbers w n s at) (be w s (at + w * n) ∷ []) ∙ omega (arith, numbers_length w n s at)

pub bytes_are_typed : BytesAreTyped
unfolding round_in
bytes_are_typed b o h =
    record {
      house_fits = be_below 2 b house_at o;
      bay_fits = be_below 2 b bay_at o;
      ids_size = part_length (id_len * max_held) b ids_at (omega arith);
      kinds_size = part_length max_held b kinds_at (omega arith);
      signers_size = part_length max_held b signers_at (omega arith);
      ballots_size = numbers_length 8 max_held b ballots_at;
      previous_size = part_length max_held b previous_at (omega arith);
      counts_size = part_length max_held b counts_at (omega arith);
      references_size = part_length (max_held * max_held) b references_at (omega arith);
      known_size = part_length max_held b known_at (omega arith);
      recent_size = part_length max_held b recent_at (omega arith);
      id_bytes = bytes_take (id_len * max_held) (drop ids_at b) (bytes_drop ids_at b o);
    }
