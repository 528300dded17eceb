use Prim.Native.Nat.{ℕ}
use Rattle.places.proofs.Going.{coming, Gone}
use Rattle.roundbytes.specs.Layout.{round_in}
use Rattle.scan.proofs.Naming.{Unnamed}
use Rattle.scan.proofs.names.name_of.Given as goal

-- from a place on all places of the walk are to come, and no place before it has the id
abbrev pub invariant-loop-i : goal.invariant-loop-i
invariant-loop-i l =
    let first = l.initial.i-iterator.rest in
    (a : ℕ) × Gone l.n first.low first.high (coming l.i-iterator) a × Unnamed (round_in l.s) l.id a
