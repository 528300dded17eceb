use Prim.Native.Nat.{◌-◌, ◌+◌, ◌*◌, ◌≤◌}
use mathlib.Core.Path.{◌≡◌}
use Rattle.arrayvec.specs.ArrayVec.{array_vec_len}
use Rattle.base.specs.Tests.{all}
use Rattle.round.specs.Rows.{ids_from, is_known_id}
use Rattle.message.specs.Layout.{id_len}
use Rattle.roundbytes.specs.Layout.{round_in}
use Rattle.admission.specs.Inside.Finding.{places_of}
use Rattle.admission.proofs.rows.resolve.Given as goal

-- The invariant: all ids are known if those left after i are, and the places of the first i are in the array.
abbrev pub invariant-loop-i : goal.invariant-loop-i
invariant-loop-i l = record {
  within : l.i ≤ l.count;
  counted : array_vec_len l.places ≡ l.i;
  left : all (is_known_id (round_in l.s)) (ids_from l.count l.bytes l.at) ≡ all (is_known_id (round_in l.s)) (ids_from (l.count - l.i) l.bytes (l.at + id_len * l.i));
  placed : l.places.items ≡ places_of (round_in l.s) (ids_from l.i l.bytes l.at);
}
