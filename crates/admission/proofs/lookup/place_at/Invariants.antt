use Prim.Native.Nat.{◌≤◌}
use mathlib.Core.Path.{◌≡◌}
use mathlib.Core.Option.{none}
use Rattle.roundbytes.specs.Layout.{round_in}
use Rattle.round.specs.Limits.{max_held}
use Rattle.admission.proofs.Finding.{has_id}
use Rattle.base.specs.Bytes.{part}
use Rattle.message.specs.Layout.{id_len}
use Rattle.round.specs.Holdings.{lowest}
use Rattle.admission.proofs.lookup.place_at.Given as goal

-- The invariant: no place below p has the id.
abbrev pub invariant-loop-p : goal.invariant-loop-p
invariant-loop-p l = (l.p ≤ l.held) × ((l.held ≤ max_held) × (lowest (has_id (round_in l.s) (part id_len l.bytes l.at)) l.p ≡ none))
