use mathlib.Core.List.{List, ◌∷◌, []}
use Prim.Native.Nat.{ℕ, ◌≤◌}
use lib.ListN.{length, replicate, set, length-set}
use mathlib.Core.Path.{◌≡◌, ◌∙◌, sym, ap}
use native.Mathlib.Omega.{arith}
use Rattle.roundbytes.specs.Layout.{round_len, recent_at, last_at, round_in}
use Rattle.roundbytes.specs.Inside.Keeping.{Kept}
use Rattle.round.specs.Limits.{max_held}
use Rattle.base.specs.Bytes.{put_at, part}
use Rattle.round.specs.Delivery.{with_recent}
use Rattle.roundbytes.proofs.InPlace.{put_next, unwritten, round_then, round_of, parts, of_parts}
use Rattle.base.proofs.Bytes.{put_at_whole, part_length}
use Rattle.round.specs.Round.{Round}
use Rattle.holding.proofs.hold.sent.Goals as goal

-- both writes
resent : (s t u v : List ℕ) (last : ℕ) → round_len ≤ length s → length v ≡ max_held → t ≡ put_at s recent_at v → u ≡ put_at t last_at (last ∷ []) → (round_in u ≡ with_recent (round_in s) last v) × Kept s u
resent s t u v last n l e f =
    let w = put_next s s t v 11 0 n (unwritten s) e (omega arith) (omega arith) in
    let x = put_next s t u (last ∷ []) 2 0 n w f (omega arith) (omega arith) in
    let g : put_at (part max_held s recent_at) 0 v ≡ v = put_at_whole (part max_held s recent_at) v (part_length max_held s recent_at (omega arith) ∙ sym l) in
    (round_then s u n x ∙ ap (with_recent (round_of (parts s)) last) g ∙ ap (λ (r : Round). with_recent r last v) (of_parts s n), x.kept)

pub returns : goal.returns
returns c = let a = c.args in
    let none : List ℕ = replicate max_held 0 in
    let both = resent a.s.now c.put_all.new.buf c.put8.new.buf (set none a.place 1) a.place c.requires.0
    (length-set none a.place 1) c.put_all.ensures c.put8.ensures in
    record { held = both.0; kept = both.1 }
