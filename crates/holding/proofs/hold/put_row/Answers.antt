use mathlib.Core.List.{List, ◌∷◌, []}
use Prim.Native.Nat.{ℕ, ◌≤◌, ◌<◌, ◌^◌, ◌+◌, ◌*◌}
use lib.ListN.{length, get_or, set}
use mathlib.Core.Path.{◌≡◌, ◌∙◌}
use native.Mathlib.Omega.{arith}
use Rattle.protocol.specs.Ids.{Id}
use Rattle.roundbytes.specs.Layout.{round_len, held_at, ids_at, kinds_at, signers_at, ballots_at, previous_at, counts_at, known_at, recent_at, round_in, numbers}
use Rattle.roundbytes.specs.Inside.Keeping.{Kept}
use Rattle.round.specs.Limits.{max_held}
use Rattle.message.specs.Layout.{id_len}
use Rattle.base.specs.Bytes.{put_at, bytes, part}
use Rattle.round.specs.Delivery.{with_row}
use Rattle.base.proofs.Bytes.{bytes_length, part_length}
use Rattle.roundbytes.proofs.InPlace.{put_next, unwritten, one_next, of_parts, numbers_put, round_then}
use Rattle.roundbytes.proofs.Fields.{held_in_lem}
use Rattle.holding.proofs.hold.put_row.Goals as goal

-- the nine writes, one after the other, are the row
row : (s s₁ s₂ s₃ s₄ s₅ s₆ s₇ s₈ s₉ : List ℕ) (id : Id) (p kind signer ballot previous count known : ℕ) → round_len ≤ length s → p < max_held → p ≡ get_or s held_at 0 → length id ≡ id_len → ballot < 256 ^ 8 → s₁ ≡ put_at s (ids_at + id_len * p) id → s₂ ≡ put_at s₁ (kinds_at + p) (kind ∷ []) → s₃ ≡ put_at s₂ (signers_at + p) (signer ∷ []) → s₄ ≡ put_at s₃ (ballots_at + 8 * p) (bytes 8 ballot) → s₅ ≡ put_at s₄ (previous_at + p) (previous ∷ []) → s₆ ≡ put_at s₅ (counts_at + p) (count ∷ []) → s₇ ≡ put_at s₆ (known_at + p) (known ∷ []) → s₈ ≡ put_at s₇ (recent_at + p) (0 ∷ []) → s₉ ≡ put_at s₈ held_at ((get_or s held_at 0 + 1) ∷ []) → (round_in s₉ ≡ with_row (round_in s) (round_in s).references id kind signer ballot previous count known) × Kept s s₉
unfolding round_in
row s s₁ s₂ s₃ s₄ s₅ s₆ s₇ s₈ s₉ id p kind signer ballot previous count known n h e l fit e₁ e₂ e₃ e₄ e₅ e₆ e₇ e₈ e₉ =
    let b = bytes_length 8 ballot in
    let w₁ = put_next s s s₁ id 3 (id_len * p) n (unwritten s) e₁ (omega arith) (omega arith) in
    let w₂ = one_next s s₁ s₂ 4 p kind n w₁ e₂ h (omega arith) in
    let w₃ = one_next s s₂ s₃ 5 p signer n w₂ e₃ h (omega arith) in
    let w₄ = put_next s s₃ s₄ (bytes 8 ballot) 6 (8 * p) n w₃ e₄ (omega arith) (omega arith) in
    let w₅ = one_next s s₄ s₅ 7 p previous n w₄ e₅ h (omega arith) in
    let w₆ = one_next s s₅ s₆ 8 p count n w₅ e₆ h (omega arith) in
    let w₇ = one_next s s₆ s₇ 10 p known n w₆ e₇ h (omega arith) in
    let w₈ = one_next s s₇ s₈ 11 p 0 n w₇ e₈ h (omega arith) in
    let w₉ = put_next s s₈ s₉ ((get_or s held_at 0 + 1) ∷ []) 1 0 n w₈ e₉ (omega arith) (omega arith) in
    let q = of_parts s n in
    let m : length (part (8 * max_held) s ballots_at) ≡ (8 * max_held) = part_length (8 * max_held) s ballots_at (omega arith) in
    let g : numbers 8 max_held (put_at (part (8 * max_held) s ballots_at) (8 * p) (bytes 8 ballot)) 0 ≡ set (numbers 8 max_held s ballots_at) (get_or s held_at 0) ballot =
    numbers_put (part (8 * max_held) s ballots_at) p ballot fit max_held h (omega arith) ∙ (λ i. set (q i).ballots (e i) ballot) in
    let r = round_in s in (
      round_then s s₉ n w₉
          ∙ (λ i. record {
            graph = (q i).graph;
            house = (q i).house;
            bay = (q i).bay;
            own = (q i).own;
            held = r.held + 1;
            last = (q i).last;
            ids = put_at r.ids (id_len * e i) id;
            kinds = set r.kinds (e i) kind;
            signers = set r.signers (e i) signer;
            ballots = g i;
            previous = set r.previous (e i) previous;
            counts = set r.counts (e i) count;
            references = r.references;
            known = set r.known (e i) known;
            recent = set r.recent (e i) 0;
          }),
      w₉.kept,
    )

pub put8-requires-6 : goal.put8-requires-6
put8-requires-6 c = let k0 : length c.put_all.new.buf ≡ length c.args.s.now = c.put_all.auto.buf in
    let k1 : length c.put8.new.buf ≡ length c.put_all.new.buf = c.put8.auto.buf in
    let k2 : length c.put8-2.new.buf ≡ length c.put8.new.buf = c.put8-2.auto.buf in
    let k3 : length c.put64.new.buf ≡ length c.put8-2.new.buf = c.put64.auto.buf in
    let k4 : length c.put8-3.new.buf ≡ length c.put64.new.buf = c.put8-3.auto.buf in
    let k5 : length c.put8-4.new.buf ≡ length c.put8-3.new.buf = c.put8-4.auto.buf in
    let k6 : length c.put8-5.new.buf ≡ length c.put8-4.new.buf = c.put8-5.auto.buf in
    let n = c.requires.long in
    let q = c.requires.room in
    let held = held_in_lem c.args.s.now in
    let e = c.from-place.ensures in
    omega arith

pub overflow_add-held : goal.overflow_add-held
overflow_add-held c = let q = c.requires.room in let held = held_in_lem c.args.s.now in record { fits = omega arith }

pub returns : goal.returns
returns c = let a = c.args in
    let h = c.requires in
    let e = c.from-place.ensures in
    let both = row a.s.now c.put_all.new.buf c.put8.new.buf c.put8-2.new.buf c.put64.new.buf c.put8-3.new.buf c.put8-4.new.buf c.put8-5.new.buf c.put8-6.new.buf c.put8-7.new.buf a.id.now c.from-place.result
    a.kind a.signer a.ballot a.previous a.count a.known h.long (omega (arith, h.room, held_in_lem a.s.now)) e h.id_bytes c.ranges.ballot.fits
    c.put_all.ensures
    c.put8.ensures
    c.put8-2.ensures
    c.put64.ensures
    c.put8-3.ensures
    c.put8-4.ensures
    c.put8-5.ensures
    c.put8-6.ensures
    c.put8-7.ensures in
    record { held = both.0; kept = both.1 }
