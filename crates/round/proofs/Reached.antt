-- Rounds reached by calls: what holds of each of them, and how a round grows.
use mathlib.Core.Path.{◌≡◌, refl, sym, ap, subst, ◌∙◌}
use mathlib.Core.Logic.{◌⊎◌, inl, inr}
use mathlib.Core.Bool.{Bool, true, not}
use mathlib.Core.Option.{none}
use mathlib.Core.List.{List, [], ◌∷◌, ◌++◌, append_assoc, append-nil}
use Prim.Native.Nat.{ℕ, ◌+◌, ◌<◌}
use native.Mathlib.Omega.{arith}
use lib.ListN.{length, length-append}
use lib.Dec.{T, eqb}
use Rattle.std.specs.Prelude.{Ok, Some}
use Rattle.base.specs.Tests.{◌∈◌}
use Rattle.base.proofs.Tests.{or_l}
use Rattle.protocol.specs.Ids.{Id}
use Rattle.protocol.specs.Table.{Table, Held, places, node_by, tree}
use Rattle.round.specs.Round.{Round}
use Rattle.round.specs.Outcomes.{Outcome}
use Rattle.round.specs.Holdings.{table_of, is_known, place_of}
use Rattle.round.specs.Handed.{fits}
use Rattle.round.specs.Premises.{Typed}
use Rattle.round.specs.Delivery.{Effect}
use Rattle.round.proofs.Step.{Records, Same, Returns, Appends, Arrives, Silent, Sends, Step}
use Rattle.round.proofs.Canonical.{place_there, table_size, place_law, Canonical, canonical_law}
use Rattle.round.proofs.Kept.{Source, Checks, Kept, kept_same, kept_returned, returns_enter}
use Rattle.round.proofs.Joining.{kept_snoc}

-- THE INVARIANT of a round reached by a list of calls, of which A are the accepted bytes and W the written ones: its numbers are those that
-- its types can hold, it passes row 17, and its table keeps what proofs/Kept says.
pub record Reached (H : List ℕ → Id) (A W : List (List ℕ)) (r : Round) : Type 0 where
  pub typed : Typed r
  pub fitting : T (fits r)
  pub kept : Kept H A W (table_of r) (is_known r)

-- ---- a round grows: its graph, house, bay and own number stay, its table grows at the end, and what is known stays known
pub record Grows (r s : Round) : Type 0 where
  pub same : Same r s
  pub more : Table
  pub table : table_of s ≡ table_of r ++ more
  pub known : (q : ℕ) → q < r.held → T (is_known r q) → T (is_known s q)

pub grows_refl : (r : Round) → Grows r r
grows_refl r = record {
  same = record { graph = refl; house = refl; bay = refl; own = refl };
  more = [];
  table = sym (append-nil (table_of r));
  known = λ q l h. h;
}

pub grows_size : {r s : Round} (g : Grows r s) → s.held ≡ r.held + length g.more
grows_size {r} {s} g = sym (table_size s) ∙ ap length g.table ∙ length-append (table_of r) g.more ∙ ap (λ (n : ℕ). n + length g.more) (table_size r)

pub grows_trans : {r s t : Round} → Grows r s → Grows s t → Grows r t
grows_trans {r} {s} {t} g h = record {
  same = record {
    graph = g.same.graph ∙ h.same.graph;
    house = g.same.house ∙ h.same.house;
    bay = g.same.bay ∙ h.same.bay;
    own = g.same.own ∙ h.same.own;
  };
  more = g.more ++ h.more;
  table = h.table ∙ ap (λ (l : Table). l ++ h.more) g.table ∙ append_assoc (table_of r) g.more h.more;
  known = λ q l x. h.known q (omega (arith, grows_size g)) (g.known q l x);
}

returns_grow : {r s : Round} {i : Id} → Same r s → Returns r s i → Grows r s
returns_grow {r} {s} same e = record {
  same = same;
  more = [];
  table = e.table ∙ sym (append-nil (table_of r));
  known = λ q l h. subst T (sym (e.known q l)) (or_l (is_known r q) (eqb q e.place) h);
}

appends_grow : {r s : Round} {h : Held} {k : Bool} → Same r s → Appends r s h k → Grows r s
appends_grow {h = h} same e = record { same = same; more = h ∷ []; table = e.table; known = λ q l x. subst T (sym (e.old q l)) x }

arrives_grow : {H : List ℕ → Id} {r s : Round} {b : List ℕ} → Arrives H r s b → Grows r s
arrives_grow {H} {r} {s} {b} a = step a.how
  where
    step : Returns r s (H b) ⊎ ((place_of r (H b) ≡ none) × Appends r s a.record' true) → Grows r s
    step (inl e) = returns_grow a.same e
    step (inr (_, e)) = appends_grow a.same e

pub answers_grow : {H : List ℕ → Id} {s t : Round} {o : Outcome} {z : List ℕ} → Silent s t o z ⊎ Sends H s t o z → Grows s t
answers_grow {s = s} (inl e) = record {
  same = e.same;
  more = [];
  table = e.table ∙ sym (append-nil (table_of s));
  known = λ q l h. subst T (sym (e.known q l)) h;
}
answers_grow (inr e) = appends_grow e.same e.appends

pub step_grows : {H : List ℕ → Id} {r : Round} {b : List ℕ} {d : Effect} → Step H r b d → Grows r d.round
step_grows s = grows_trans (arrives_grow s.arrives) (answers_grow s.answers)

-- ---- the invariant is kept
module _ (H : List ℕ → Id) (A W : List (List ℕ)) where
  arrives_keep : (r s : Round) (b : List ℕ) → b ∈ A → Arrives H r s b → Kept H A W (table_of r) (is_known r) → Kept H A W (table_of s) (is_known s)
  arrives_keep r s b in_a a kept = step a.how
    where
      h : Held
      h = a.record'

      rec : Records H r b h
      rec = a.records

      canonical : (j : ℕ) → j ∈ places h → Canonical (table_of r) j
      canonical j m = canonical_law r j (rec.earlier j m) (rec.canonical j m)

      earlier : (j : ℕ) → j ∈ places h → j < length (table_of r)
      earlier j m = omega (arith, rec.earlier j m, table_size r)

      checks : Checks (is_known r) h (node_by (tree (table_of r)) h)
      checks = record { beneath = a.beneath; links = a.links; forms = a.forms }

      source : Source H A W (table_of r) h
      source = record { bytes = b; from = inl in_a; readable = rec.readable; id = rec.id; content = rec.content }

      step : Returns r s (H b) ⊎ ((place_of r (H b) ≡ none) × Appends r s h true) → Kept H A W (table_of s) (is_known s)
      step (inl e) =
          let (l, i) = place_there (table_of r) (H b) e.place (sym (place_law r (H b)) ∙ e.there) in
          subst (λ (t : Table). Kept H A W t (is_known s)) (sym e.table)
          (kept_returned kept (is_known s) e.place (λ q l. e.known q (omega (arith, table_size r)))
          (returns_enter kept e.place l b in_a i h rec.id rec.content canonical checks))
      step (inr (_, e)) = subst (λ (t : Table). Kept H A W t (is_known s)) (sym e.table)
          (kept_snoc kept h source earlier canonical (is_known s) (λ q l. e.old q (omega (arith, table_size r))) (λ x. (b, in_a, rec.id))
          (λ x. absurd (subst (λ (c : Bool). T (not c)) (ap (is_known s) (table_size r) ∙ e.new) x)) (λ x. checks))

  answers_keep : (s t : Round) (o : Outcome) (z : List ℕ) → (Sends H s t o z → z ∈ W) → Silent s t o z ⊎ Sends H s t o z
      → Kept H A W (table_of s) (is_known s) → Kept H A W (table_of t) (is_known t)
  answers_keep s t o z inW (inl e) kept =
      subst (λ (u : Table). Kept H A W u (is_known t)) (sym e.table) (kept_same kept (is_known t) (λ q l. e.known q (omega (arith, table_size s))))
  answers_keep s t o z inW (inr e) kept = subst (λ (u : Table). Kept H A W u (is_known t)) (sym e.appends.table)
      (kept_snoc kept h source (λ j m. omega (arith, rec.earlier j m, table_size s)) (λ j m. canonical_law s j (rec.earlier j m) (rec.canonical j m))
      (is_known t) (λ q l. e.appends.old q (omega (arith, table_size s))) (λ x. absurd (unknown x)) (λ x. (z, inW e, rec.id)) (λ x. absurd (unknown x)))
    where
      h : Held
      h = e.record'

      rec : Records H s z h
      rec = e.records

      source : Source H A W (table_of s) h
      source = record { bytes = z; from = inr (inW e, e.is_vote); readable = rec.readable; id = rec.id; content = rec.content }

      unknown : T (is_known t (length (table_of s))) → ⊥
      unknown x = subst T (ap (is_known t) (table_size s) ∙ e.appends.new) x

  -- a delivery that is not refused
  pub step_keeps : (r : Round) (b : List ℕ) (d : Effect) → b ∈ A → (d.outcome ≡ Ok (Some (length d.reply)) → d.reply ∈ W)
      → Step H r b d → Reached H A W r → Reached H A W d.round
  step_keeps r b d in_a inW s reached = record {
    typed = s.typed;
    fitting = s.fitting;
    kept = answers_keep s.between d.round d.outcome d.reply (λ e. inW e.outcome) s.answers
        (arrives_keep r s.between b in_a s.arrives reached.kept);
  }
