-- What calls keep true of a table of held messages and of its known places, whatever is delivered. A are the accepted and W the written
-- bytes of a whole list of calls, so that both stay the same while the table grows.
use mathlib.Core.Path.{◌≡◌, refl, sym, ap, subst, ◌∙◌}
use mathlib.Core.Logic.{◌⊎◌, inl, inr}
use mathlib.Core.Bool.{Bool, not, ◌||◌}
use mathlib.Core.List.Memᴰ
use mathlib.Core.List.{List, [], ◌++◌}
use Prim.Native.Nat.{ℕ, ◌<◌}
use native.Mathlib.Omega.{arith}
use lib.ListN.{length}
use lib.Dec.{T, eqb, eqb→eq, T_not, not_T}
use Rattle.base.specs.Tests.{◌∈◌}
use Rattle.base.proofs.Tests.{or_l, or_out}
use Rattle.protocol.specs.Ids.{Id}
use Rattle.protocol.specs.Message.{Message}
use Rattle.protocol.specs.WellFormed.{chained, formed1b}
use Rattle.protocol.specs.Table.{Held, Table, at, held_id, offered, places, Ordered, node_by, tree, content_of}
use Rattle.protocol.proofs.Table.{tree_is, at_past, nothing_past}
use Rattle.protocol.proofs.Growth.{ordered_nil}
use Rattle.round.specs.Demands.{NoCollision}
use Rattle.round.proofs.Step.{content_in, Readable}
use Rattle.round.proofs.Canonical.{Canonical, same_record}

-- the record h over the table t is that of bytes that were accepted, or written; a proposal's were accepted
pub record Source (H : List ℕ → Id) (A W : List (List ℕ)) (t : Table) (h : Held) : Type 0 where
  pub bytes : List ℕ
  pub from : (bytes ∈ A) ⊎ ((bytes ∈ W) × T (not (offered h)))
  pub readable : Readable bytes
  pub id : held_id h ≡ H bytes
  pub content : content_of t h ≡ content_in bytes

-- its bytes are among those accepted and written
pub source_inside : {H : List ℕ → Id} {A W : List (List ℕ)} {t : Table} {h : Held} (s : Source H A W t h) → s.bytes ∈ A ++ W
source_inside {A = A} {W = W} {h = h} s = step s.from
  where
    step : (s.bytes ∈ A) ⊎ ((s.bytes ∈ W) × T (not (offered h))) → s.bytes ∈ A ++ W
    step (inl m) = Memᴰ.append_left W m
    step (inr (m, _)) = Memᴰ.append_right A m

-- the id of some bytes of M
abbrev pub IdFrom : (List ℕ → Id) → List (List ℕ) → Id → Type 0
IdFrom H M i = (b : List ℕ) × (b ∈ M) × (i ≡ H b)

-- the record h with the message m has passed the checks: its references are known, it is chained, and well-formed if it is a 1b
pub record Checks (known : ℕ → Bool) (h : Held) (m : Message) : Type 0 where
  pub beneath : (j : ℕ) → j ∈ places h → T (known j)
  pub links : T (chained m)
  pub forms : T (formed1b m)

-- THE INVARIANT of a table t with known places: references are to earlier places, each the one that its id names; every record is that of
-- bytes accepted or written; what is known has an accepted id, and what awaits its return a written one; and, where no two different messages
-- have one id, what is known has passed the checks.
pub record Kept (H : List ℕ → Id) (A W : List (List ℕ)) (t : Table) (known : ℕ → Bool) : Type 0 where
  pub ordered : Ordered t
  pub canonical : (i j : ℕ) → j ∈ places (at t i) → Canonical t j
  pub source : (p : ℕ) → p < length t → Source H A W t (at t p)
  pub delivered : (p : ℕ) → p < length t → T (known p) → IdFrom H A (held_id (at t p))
  pub awaited : (p : ℕ) → p < length t → T (not (known p)) → IdFrom H W (held_id (at t p))
  pub checked : NoCollision H (A ++ W) → (p : ℕ) → p < length t → T (known p) → Checks known (at t p) (tree t p)

pub checks_cast : (k l : ℕ → Bool) (h g : Held) (m n : Message) → h ≡ g → m ≡ n → ((j : ℕ) → j ∈ places h → T (k j) → T (l j)) → Checks k h m → Checks l g n
checks_cast k l h g m n e d f c = record {
  beneath = λ j i. let i' : j ∈ places h = subst (λ (q : Held). j ∈ places q) (sym e) i in f j i' (c.beneath j i');
  links = subst (λ (x : Message). T (chained x)) d c.links;
  forms = subst (λ (x : Message). T (formed1b x)) d c.forms;
}

-- ---- the empty table
pub kept_nil : (H : List ℕ → Id) (A W : List (List ℕ)) (known : ℕ → Bool) → Kept H A W [] known
kept_nil H A W known = record {
  ordered = ordered_nil;
  canonical = λ i j m. absurd (nothing_past (subst (λ (q : Held). j ∈ places q) (at_past [] i (omega arith)) m));
  source = λ p l. absurd (omega arith);
  delivered = λ p l. absurd (omega arith);
  awaited = λ p l. absurd (omega arith);
  checked = λ free p l. absurd (omega arith);
}

-- ---- the table stays, and more places may be known
-- the place p may become known: its id was accepted, and it has passed the checks
pub record Enters (H : List ℕ → Id) (A W : List (List ℕ)) (t : Table) (known : ℕ → Bool) (p : ℕ) : Type 0 where
  pub delivered : IdFrom H A (held_id (at t p))
  pub checked : NoCollision H (A ++ W) → Checks known (at t p) (tree t p)

module _ {H : List ℕ → Id} {A W : List (List ℕ)} {t : Table} {k : ℕ → Bool} (kept : Kept H A W t k) where
  pub kept_known : (l : ℕ → Bool) → ((p : ℕ) → p < length t → T (k p) → T (l p)) → ((p : ℕ) → p < length t → T (l p) → T (k p) ⊎ Enters H A W t k p) → Kept H A W t l
  kept_known l more new = record {
    ordered = kept.ordered;
    canonical = kept.canonical;
    source = kept.source;
    delivered = λ p b h. id_of_lem p b (new p b h);
    awaited = λ p b h. kept.awaited p b (not_T (k p) (λ x. T_not (l p) h (more p b x)));
    checked = λ free p b h. let c = checks_of free p b (new p b h) in
        checks_cast k l (at t p) (at t p) (tree t p) (tree t p) refl refl (λ j m. more j (omega (arith, kept.ordered p j m))) c;
  }
    where
      id_of_lem : (p : ℕ) → p < length t → T (k p) ⊎ Enters H A W t k p → IdFrom H A (held_id (at t p))
      id_of_lem p b (inl h) = kept.delivered p b h
      id_of_lem p b (inr h) = h.delivered

      checks_of : NoCollision H (A ++ W) → (p : ℕ) → p < length t → T (k p) ⊎ Enters H A W t k p → Checks k (at t p) (tree t p)
      checks_of free p b (inl h) = kept.checked free p b h
      checks_of free p b (inr h) = h.checked free

  pub kept_same : (l : ℕ → Bool) → ((p : ℕ) → p < length t → l p ≡ k p) → Kept H A W t l
  kept_same l e = kept_known l (λ p b h. subst T (sym (e p b)) h) (λ p b h. inl (subst T (e p b) h))

  -- the place p becomes known
  pub kept_returned : (l : ℕ → Bool) (p : ℕ) → ((q : ℕ) → q < length t → l q ≡ (k q || eqb q p)) → Enters H A W t k p → Kept H A W t l
  kept_returned l p e enters = kept_known l
      (λ q b h. subst T (sym (e q b)) (or_l (k q) (eqb q p) h))
      (λ q b h. step q (or_out (k q) (eqb q p) (subst T (e q b) h)))
    where
      step : (q : ℕ) → T (k q) ⊎ T (eqb q p) → T (k q) ⊎ Enters H A W t k q
      step q (inl h) = inl h
      step q (inr h) = inr (subst (λ (n : ℕ). Enters H A W t k n) (sym (eqb→eq q p h)) enters)

  -- a place that awaits the return of the accepted bytes b, which have passed the checks, may become known: where no two different messages
  -- have one id, the record that is held is the one that was checked
  pub returns_enter : (p : ℕ) → p < length t → (b : List ℕ) → b ∈ A → held_id (at t p) ≡ H b
      → (h : Held) → held_id h ≡ H b → content_of t h ≡ content_in b → ((j : ℕ) → j ∈ places h → Canonical t j) → Checks k h (node_by (tree t) h) → Enters H A W t k p
  returns_enter p l b in_a i h j c f checks = record { delivered = (b, in_a, i); checked = λ free. checked_as (one free) }
    where
      src : Source H A W t (at t p)
      src = kept.source p l

      one : NoCollision H (A ++ W) → h ≡ at t p
      one free =
          let same : src.bytes ≡ b = free src.bytes b (source_inside src) (Memᴰ.append_left W in_a) (sym src.id ∙ i) in
          same_record t h (at t p) (j ∙ sym i) (c ∙ ap content_in (sym same) ∙ sym src.content) f (λ q m. kept.canonical p q m)

      checked_as : h ≡ at t p → Checks k (at t p) (tree t p)
      checked_as e = checks_cast k k h (at t p) (node_by (tree t) h) (tree t p) e (ap (node_by (tree t)) e ∙ sym (tree_is t kept.ordered p)) (λ q m x. x) checks
