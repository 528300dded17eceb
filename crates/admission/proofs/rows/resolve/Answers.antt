use mathlib.Core.List.{List, ◌++◌, ◌∷◌, []}
use Prim.Native.Nat.{ℕ, ◌<◌, ◌-◌, ◌+◌, ◌*◌}
use mathlib.Core.Bool.{Bool, false, ◌&&◌, not, true}
use mathlib.Core.Path.{◌≡◌, ◌∙◌, ap, sym, ap₂}
use lib.ListN.{length}
use native.Mathlib.Omega.{arith}
use mathlib.Core.Option.{none}
use Rattle.std.proofs.Common.{rules, None, is_none}
use borrow.Author.Tests.{eq-eqb, ne_eqb}
use Rattle.base.specs.Tests.{all}
use Rattle.round.specs.Rows.{ids_from, is_known_id, lacks, reference_ids, placed, or_zero}
use Rattle.message.specs.Layout.{id_len, references_at}
use Rattle.base.specs.Bytes.{part}
use Rattle.admission.proofs.Finding.{ids_step, found_inside, found_at, places_more}
use Rattle.round.specs.Round.{Round}
use Rattle.message.specs.declared.AcceptorMessage.{AcceptorMessage}
use Rattle.roundbytes.specs.Layout.{round_in}
use Rattle.admission.specs.Inside.Finding.{places_of, place_found}
use Rattle.round.specs.Holdings.{place_of, is_known}
use Rattle.admission.proofs.rows.resolve.Goals as goal

-- one that is not known
lacking : (f : List ℕ → Bool) (b : List ℕ) (at n i : ℕ) → i < n → all f (ids_from n b at) ≡ all f (ids_from (n - i) b (at + id_len * i)) → f (part id_len b (at + id_len * i)) ≡ false → all f (ids_from n b at) ≡ false
unfolding all
lacking f b at n i h e g = e ∙ ap (all f) (ids_step b at n i h) ∙ ap (λ (t : Bool). t && all f (ids_from (n - (i + 1)) b (at + id_len * (i + 1)))) g

-- row 11, by whether all of them are known
lacks_by : (r : Round) (b : List ℕ) (m : AcceptorMessage) (at : ℕ) (t : Bool) → at ≡ references_at m.previous → all (is_known_id r) (ids_from m.count b at) ≡ t → lacks r (reference_ids b m) ≡ not t
unfolding lacks
lacks_by r b m at t e h = ap not (sym (ap (λ (k : ℕ). all (is_known_id r) (ids_from m.count b k)) e) ∙ h)

pub loop-i-init : goal.loop-i-init
unfolding ids_from
loop-i-init c =
    let a = c.args in
    let at = c.references_at-at.result in
    let e : a.m.count ≡ a.m.count - 0 = omega arith in
    let f : at ≡ at + id_len * 0 = omega arith in
    record {
      within = omega arith;
      counted = ap length c.new-places.ensures;
      left = λ k. all (is_known_id (round_in a.s.now)) (ids_from (e k) a.bytes.now (f k));
      placed = c.new-places.ensures;
    }

pub returns-in_err-p-clause-ruled : goal.returns-in_err-p-clause-ruled
returns-in_err-p-clause-ruled c =
    let a = c.args in
    let l = c.loop-i in
    let r = round_in a.s.now in
    let at = c.references_at-at in
    let o : place_of r (part id_len a.bytes.now (at.result + id_len * l.i)) ≡ none = sym c.place_at.ensures ∙ ap place_found c.in_err-p.was in
    let e : c.from_residual.result ≡ None = search rules in
    ap is_none e ∙ sym (lacks_by r a.bytes.now a.m at.result false at.ensures.0 (lacking (is_known_id r) a.bytes.now at.result a.m.count l.i (omega arith) l.invariant.left (ap (placed (is_known r)) o)))

pub known_at-requires : goal.known_at-requires
known_at-requires c =
    let a = c.args in
    let w = c.requires.0 in
    let i = part id_len a.bytes.now (c.references_at-at.result + id_len * c.loop-i.i) in
    (w.long, omega (arith, w.most, found_inside (round_in a.s.now) i _ c.place_at.ensures _ c.in_ok-p.was))

pub returns-then-known_at-eq0-clause-ruled : goal.returns-then-known_at-eq0-clause-ruled
returns-then-known_at-eq0-clause-ruled c =
    let a = c.args in
    let l = c.loop-i in
    let r = round_in a.s.now in
    let at = c.references_at-at in
    let o = found_at r (part id_len a.bytes.now (at.result + id_len * l.i)) _ c.place_at.ensures _ c.in_ok-p.was in
    let t = c.known_at.ensures in
    sym (lacks_by r a.bytes.now a.m at.result false at.ensures.0 (lacking (is_known_id r) a.bytes.now at.result a.m.count l.i (omega arith) l.invariant.left
    (ap (placed (is_known r)) o ∙ ap not (eq-eqb _ 0 (sym t ∙ c.if-known_at-eq0.true)))))

pub overflow_cast-p : goal.overflow_cast-p
overflow_cast-p c =
    let a = c.args in
    let i = part id_len a.bytes.now (c.references_at-at.result + id_len * c.loop-i.i) in
    omega (arith, c.requires.0.most, found_inside (round_in a.s.now) i _ c.place_at.ensures _ c.in_ok-p.was)

pub loop-i-preserved : goal.loop-i-preserved
unfolding all
loop-i-preserved c =
    let a = c.args in
    let l = c.loop-i in
    let r = round_in a.s.now in
    let at = c.references_at-at.result in
    let p = c.in_ok-p.p in
    let i = part id_len a.bytes.now (at + id_len * l.i) in
    let o = found_at r i _ c.place_at.ensures _ c.in_ok-p.was in
    let t = c.known_at.ensures in
    record {
      within = omega arith;
      counted = c.push.ensures.len ∙ ap (λ (n : ℕ). n + 1) l.invariant.counted;
      left = l.invariant.left ∙ ap (all (is_known_id r)) (ids_step a.bytes.now at a.m.count l.i (omega arith))
          ∙ ap (λ (b : Bool). b && all (is_known_id r) (ids_from (a.m.count - (l.i + 1)) a.bytes.now (at + id_len * (l.i + 1))))
          (ap (placed (is_known r)) o ∙ ap not (ne_eqb _ 0 (λ e. c.if-known_at-eq0.false (t ∙ e))));
      placed = c.push.ensures.items ∙ ap₂ (λ (x : List ℕ) (y : ℕ). x ++ (y ∷ [])) l.invariant.placed (sym (ap or_zero o)) ∙ sym (places_more r a.bytes.now at l.i);
    }

pub returns : goal.returns
unfolding all ids_from
returns c =
    let a = c.args in
    let l = c.loop-i in
    let r = round_in a.s.now in
    let at = c.references_at-at in
    let e : a.m.count - l.i ≡ 0 = omega arith in
    let f : l.i ≡ a.m.count = omega arith in record {
      ruled = sym (lacks_by r a.bytes.now a.m at.result true at.ensures.0 (l.invariant.left ∙ ap (λ (n : ℕ). all (is_known_id r) (ids_from n a.bytes.now (at.result + id_len * l.i))) e));
      counted = l.invariant.counted ∙ f;
      placed = l.invariant.placed ∙ ap₂ (λ (n k : ℕ). places_of r (ids_from n a.bytes.now k)) f at.ensures.0;
    }
