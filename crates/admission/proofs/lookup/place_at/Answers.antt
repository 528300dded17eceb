use mathlib.Core.List.{List}
use Prim.Native.Nat.{ℕ, ◌≤◌, ◌<◌, ◌+◌, ◌*◌}
use lib.ListN.{length}
use mathlib.Core.Path.{◌≡◌, ap, sym, refl, ◌∙◌}
use native.Mathlib.Omega.{arith}
use mathlib.Core.Bool.{true, false}
use native.Mathlib.Numerals.{add-one}
use Rattle.protocol.specs.Ids.{Id, same_id}
use Rattle.roundbytes.specs.Layout.{round_len, round_in, ids_at}
use Rattle.round.specs.Limits.{max_held}
use Rattle.admission.proofs.Finding.{has_id, place_lowest, lowest_hit, first_differs, lowest_miss}
use Rattle.base.specs.Bytes.{part}
use Rattle.message.specs.Layout.{id_len}
use Rattle.roundbytes.proofs.Fields.{id_at_lem, id_within}
use Rattle.round.specs.Holdings.{lowest}
use Rattle.admission.proofs.lookup.place_at.Goals as goal
use Rattle.admission.proofs.lookup.place_at.Goals.{else-read64-first-via-then-read64-first+else-same_rest, else-read64-first-via-else-read64-first}

-- an id of the round is compared where it stands
same_here : (s : List ℕ) (p : ℕ) (i : Id) → round_len ≤ length s → p < max_held → has_id (round_in s) i p ≡ same_id (part id_len s (ids_at + id_len * p)) i
same_here s p i n h = ap (λ (x : Id). same_id x i) (sym (id_at_lem s p n h))

pub loop-p-init : goal.loop-p-init
unfolding lowest
loop-p-init c =
    let w = c.requires.0 in
    let n = c.held_of-held.ensures.0 in
    (omega arith, (omega (arith, w.most), refl))

pub returns-then-same_rest : goal.returns-then-same_rest
returns-then-same_rest c =
    let a = c.args in
    let l = c.loop-p in
    let r = round_in a.s.now in
    let i = part id_len a.bytes.now a.at in
    let n = c.held_of-held.ensures.0 in
    let here : has_id r i l.p ≡ true = same_here a.s.now l.p i c.requires.0.long (omega arith) ∙ sym c.same_rest.ensures ∙ c.if-same_rest.true in
    sym (place_lowest r i ∙ lowest_hit (has_id r i) l.p r.held (omega arith) l.invariant.1.1 here)

pub loop-p-preserved : goal.loop-p-preserved
loop-p-preserved c =
    let a = c.args in
    let l = c.loop-p in
    let r = round_in a.s.now in
    let i = part id_len a.bytes.now a.at in
    let n = c.held_of-held.ensures.0 in
    let long = c.requires.0.long in
    let within = id_within a.s.now l.p long (omega arith) in
    let not-here : has_id r i l.p ≡ false = same_here a.s.now l.p i long (omega arith) ∙ elim c.else-read64-first.branch [
      | else-read64-first-via-then-read64-first+else-same_rest w ↦ sym w.same_rest.ensures ∙ w.if-same_rest.false
      | else-read64-first-via-else-read64-first w ↦ first_differs a.s.now a.bytes.now (λ k. omega (arith, c.type_inv.s k)) (λ k. omega (arith, c.type_inv.bytes k))
          (ids_at + id_len * l.p) a.at within c.requires.1 (λ e. omega arith)
    ] in
    (omega arith, (l.invariant.1.0, ap (lowest (has_id r i)) (add-one l.p) ∙ lowest_miss (has_id r i) l.p l.invariant.1.1 not-here))

pub returns : goal.returns
returns c =
    let a = c.args in
    let l = c.loop-p in
    let r = round_in a.s.now in
    let i = part id_len a.bytes.now a.at in
    let n = c.held_of-held.ensures.0 in
    let e : l.p ≡ r.held = omega arith in
    sym (place_lowest r i ∙ sym (ap (lowest (has_id r i)) e) ∙ l.invariant.1.1)
