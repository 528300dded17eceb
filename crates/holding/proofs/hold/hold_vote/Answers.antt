use mathlib.Core.List.{List}
use Prim.Native.Nat.{ℕ, ◌≤◌, ◌<◌, ◌+◌, ◌*◌}
use lib.ListN.{length}
use mathlib.Core.Path.{◌≡◌, ◌∙◌, ap, subst}
use native.Mathlib.Omega.{arith}
use mathlib.Core.Option.{Option}
use borrow.Author.Rules.{rules}
use Rattle.admission.specs.Inside.Votes.{refers_to}
use Rattle.admission.proofs.Votes.{refers_most}
use Rattle.roundbytes.specs.Layout.{round_len, references_at, round_in}
use Rattle.round.specs.Limits.{max_held}
use Rattle.base.specs.Bytes.{put_at}
use Rattle.roundbytes.proofs.InPlace.{Written, parts, put_next, unwritten, round_then, of_parts}
use Rattle.base.proofs.Cuts.{into}
use Rattle.protocol.specs.Ids.{Id}
use Rattle.round.specs.Delivery.{previous_place, with_row, hold}
use Rattle.message.specs.Layout.{acceptor_kind}
use Rattle.protocol.specs.Table.{says}
use Rattle.round.specs.Round.{Round}
use Rattle.round.specs.Holdings.{named}
use Rattle.holding.proofs.hold.hold_vote.Goals as goal

-- the references put in
referred : (s t v : List ℕ) (p : ℕ) → round_len ≤ length s → p < max_held → length v ≤ max_held → t ≡ put_at s (references_at + max_held * p) v → Written s t (into (parts s) 9 (max_held * p) v)
referred s t v p n h l e = put_next s s t v 9 (max_held * p) n (unwritten s) e (omega arith) (omega arith)

-- and the row put behind the others
behind : (s t v : List ℕ) (id : Id) (n signer previous count known : ℕ) (p : Option Id) → round_len ≤ length s → Written s t (into (parts s) 9 (max_held * n) v) → n ≡ (round_in s).held → previous ≡ previous_place (round_in s) p → count ≡ length v → with_row (round_in t) (round_in t).references id acceptor_kind signer 0 previous count known ≡ hold (round_in s) (says id signer p v) known
unfolding hold
behind s t v id n signer previous count known p h w e f g =
    ap (λ (r : Round). with_row r r.references id acceptor_kind signer 0 previous count known) (round_then s t h w)
    ∙ ap (λ (r : Round). with_row r (put_at r.references (max_held * n) v) id acceptor_kind signer 0 previous count known) (of_parts s h)
    ∙ (λ i. with_row (round_in s) (put_at (round_in s).references (max_held * e i) v) id acceptor_kind signer 0 (f i) (g i) known)

pub put_all-requires : goal.put_all-requires
put_all-requires c =
    let p = c.requires.0 in
    let v = c.args.vote.now in
    let e = c.held_of-place.ensures.0 in
    let places : length v.places ≡ max_held = search rules in
    let l = ap length c.places-places.ensures in
    omega (arith, p.long, p.room, refers_most v places)

pub overflow_cast-count : goal.overflow_cast-count
overflow_cast-count c =
    let v = c.args.vote.now in
    let places : length v.places ≡ max_held = search rules in
    let l = ap length c.places-places.ensures in
    record { fits = omega (arith, refers_most v places) }

pub put_row-requires : goal.put_row-requires
put_row-requires c =
    let a = c.args in
    let p = c.requires.0 in
    let s = a.s.now in
    let t = c.put_all.new.buf in
    let places : length a.vote.now.places ≡ max_held = search rules in
    let l = ap length c.places-places.ensures in
    let w = referred s t c.places-places.result.now c.held_of-place.result p.long (omega (arith, p.room, c.held_of-place.ensures.0)) (omega (arith, refers_most a.vote.now places)) c.put_all.ensures in
    let m : length t ≡ length s = w.kept.0 in
    let k : (round_in t).held ≡ (round_in s).held = ap (λ (r : Round). r.held) (round_then s t p.long w) ∙ ap (λ (r : Round). r.held) (of_parts s p.long) in
    record { long = omega (arith, p.long); room = omega (arith, p.room); id_bytes = p.id_bytes }

pub returns : goal.returns
returns c =
    let a = c.args in
    let p = c.requires in
    let s = a.s.now in
    let v = a.vote.now in
    let t = c.put_all.new.buf in
    let n = c.held_of-place in
    let places : length v.places ≡ max_held = search rules in
    let l = ap length c.places-places.ensures in
    let w = referred s t (refers_to v) n.result p.0.long (omega (arith, p.0.room, n.ensures.0)) (refers_most v places)
    (subst (λ (x : List ℕ). t ≡ put_at s (references_at + max_held * n.result) x) c.places-places.ensures c.put_all.ensures) in
    let k = c.put_row.ensures.kept in
    record {
      held = c.put_row.ensures.held ∙ behind s t (refers_to v) a.id.now n.result v.signer v.previous _ a.known (named (round_in s) v.previous) p.0.long w n.ensures.0 p.1 l;
      kept = (k.0 ∙ w.kept.0, k.1 ∙ w.kept.1);
    }
