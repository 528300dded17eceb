use mathlib.Core.Path.{◌≡◌}
use Prim.Native.Nat.{ℕ, ◌≤◌, ◌-◌}
use lib.ListN.{length}
use mathlib.Core.List.{List, []}
use Rattle.base.specs.Bytes.{put_at}
use Rattle.graphfile.specs.File.{read_masks}
use Rattle.graphfile.proofs.file.read_masks.Given as goal

-- The invariant: the masks e that were read are put in, and the rest of the list is still to be read.
abbrev pub invariant-loop-j : goal.invariant-loop-j
invariant-loop-j l = (l.j ≤ l.count) × (l.here ≤ length l.s) × (length l.masks ≡ length l.initial.masks) × (e : List ℕ) × (length e ≡ l.j) × (l.masks ≡ put_at l.initial.masks l.first e) × (read_masks l.s l.acceptors l.count [] l.at ≡ read_masks l.s l.acceptors (l.count - l.j) e l.here)
