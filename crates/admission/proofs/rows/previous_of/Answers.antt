use Prim.Native.Nat.{ℕ}
use mathlib.Core.List.{List}
use mathlib.Core.Option.{Option, none, some}
use mathlib.Core.Path.{◌≡◌, ap, ◌∙◌, sym}
use mathlib.Core.Bool.{false, true, not, ◌&&◌, Bool}
use native.Mathlib.Omega.{arith}
use borrow.Author.Tests.{not-true, not-false}
use Rattle.std.proofs.Common.{rules, None, is_none}
use Rattle.round.specs.Round.{Round}
use Rattle.protocol.specs.Ids.{Id, same_id}
use Rattle.round.specs.Rows.{unchained, reference_ids, previous_id, ids_from, placed, is_vote_of, or_zero}
use Rattle.message.specs.declared.AcceptorMessage.{AcceptorMessage}
use Rattle.message.specs.Layout.{references_at, id_len, previous_at}
use Rattle.base.specs.Tests.{any}
use Rattle.base.specs.Bytes.{part}
use Rattle.round.specs.Holdings.{place_of}
use Rattle.admission.specs.Inside.Finding.{place_found}
use Rattle.roundbytes.specs.Layout.{round_in}
use Rattle.round.specs.Delivery.{previous_place}
use Rattle.admission.proofs.Finding.{found_inside, found_at}
use Rattle.admission.proofs.rows.previous_of.Goals as goal

-- a message that names no previous one
unchained_none : (r : Round) (signer : ℕ) (ids : List Id) (o : Option Id) → o ≡ none → unchained r signer ids o ≡ false
unfolding unchained
unchained_none r signer ids o e = ap (unchained r signer ids) e

-- one that does
unchained_by : (r : Round) (b : List ℕ) (m : AcceptorMessage) (at : ℕ) → m.previous ≡ true → at ≡ references_at m.previous → unchained r m.signer (reference_ids b m) (previous_id b m)
    ≡ not (any (same_id (part id_len b previous_at)) (ids_from m.count b at) && placed (is_vote_of r m.signer) (place_of r (part id_len b previous_at)))
unfolding unchained
unchained_by r b m at e f =
    let i = part id_len b previous_at in
    let o : previous_id b m ≡ some i = simp e in
    ap (unchained r m.signer (reference_ids b m)) o ∙ ap (λ (k : ℕ). not (any (same_id i) (ids_from m.count b k) && placed (is_vote_of r m.signer) (place_of r i))) (sym f)

pub returns-then-not-m : goal.returns-then-not-m
returns-then-not-m c =
    let a = c.args in
    let r = round_in a.s.now in
    let o : previous_id a.bytes.now a.m ≡ none = let e : a.m.previous ≡ false = not-true _ c.if-not-m.true in simp e in
    record { ruled = sym (unchained_none r a.m.signer (reference_ids a.bytes.now a.m) (previous_id a.bytes.now a.m) o); placed = ap (previous_place r) (sym o) }

pub returns-then-not-is_among-clause-ruled : goal.returns-then-not-is_among-clause-ruled
returns-then-not-is_among-clause-ruled c =
    let a = c.args in
    let r = round_in a.s.now in
    let t = sym c.is_among.ensures ∙ c.if-not-is_among.true in
    sym (unchained_by r a.bytes.now a.m c.references_at.result (not-false _ c.if-not-m.false) c.references_at.ensures.0
    ∙ ap (λ (b : Bool). not (b && placed (is_vote_of r a.m.signer) (place_of r (part id_len a.bytes.now previous_at)))) t)

pub returns-in_err-p-clause-ruled : goal.returns-in_err-p-clause-ruled
returns-in_err-p-clause-ruled c =
    let a = c.args in
    let r = round_in a.s.now in
    let t = sym c.is_among.ensures ∙ c.if-not-is_among.false in
    let o : place_of r (part id_len a.bytes.now previous_at) ≡ none = sym c.place_at.ensures ∙ ap place_found c.in_err-p.was in
    let e : c.from_residual.result ≡ None = search rules in
    ap is_none e
    ∙ sym (unchained_by r a.bytes.now a.m c.references_at.result (not-false _ c.if-not-m.false) c.references_at.ensures.0
    ∙ (λ k. not (t k && placed (is_vote_of r a.m.signer) (o k))))

pub is_vote_of-requires : goal.is_vote_of-requires
is_vote_of-requires c =
    let a = c.args in
    let w = c.requires.0 in
    (w.long, omega (arith, w.most, found_inside (round_in a.s.now) (part id_len a.bytes.now previous_at) _ c.place_at.ensures _ c.in_ok-p.was))

pub overflow_cast-result : goal.overflow_cast-result
overflow_cast-result c =
    let a = c.args in
    let w = c.requires.0 in
    omega (arith, w.most, found_inside (round_in a.s.now) (part id_len a.bytes.now previous_at) _ c.place_at.ensures _ c.in_ok-p.was)

-- where its place is found, row 12 asks what is held there
unchained_at : (r : Round) (b : List ℕ) (m : AcceptorMessage) (at : ℕ) (p : ℕ) (u : Bool) → m.previous ≡ true → at ≡ references_at m.previous
    → any (same_id (part id_len b previous_at)) (ids_from m.count b at) ≡ true → place_of r (part id_len b previous_at) ≡ some p → u ≡ is_vote_of r m.signer p
    → not u ≡ unchained r m.signer (reference_ids b m) (previous_id b m)
unchained_at r b m at p u e f t o v = ap not v ∙ sym (unchained_by r b m at e f ∙ (λ k. not (t k && placed (is_vote_of r m.signer) (o k))))

pub returns-then-not-is_vote_of-clause-ruled : goal.returns-then-not-is_vote_of-clause-ruled
returns-then-not-is_vote_of-clause-ruled c =
    let a = c.args in
    let r = round_in a.s.now in
    let t = sym c.is_among.ensures ∙ c.if-not-is_among.false in
    let o = found_at r (part id_len a.bytes.now previous_at) _ c.place_at.ensures _ c.in_ok-p.was in
    sym (ap not c.if-not-is_vote_of.true) ∙ unchained_at r a.bytes.now a.m c.references_at.result _ _ (not-false _ c.if-not-m.false) c.references_at.ensures.0 t o c.is_vote_of.ensures

pub returns : goal.returns
returns c =
    let a = c.args in
    let r = round_in a.s.now in
    let t = sym c.is_among.ensures ∙ c.if-not-is_among.false in
    let o = found_at r (part id_len a.bytes.now previous_at) _ c.place_at.ensures _ c.in_ok-p.was in
    let named : previous_id a.bytes.now a.m ≡ some (part id_len a.bytes.now previous_at) = let e : a.m.previous ≡ true = not-false _ c.if-not-m.false in simp e in record {
      ruled = sym (ap not c.if-not-is_vote_of.false) ∙ unchained_at r a.bytes.now a.m c.references_at.result _ _ (not-false _ c.if-not-m.false) c.references_at.ensures.0 t o c.is_vote_of.ensures;
      placed = sym (ap (previous_place r) named ∙ ap or_zero o);
    }
