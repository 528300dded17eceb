-- Exactly one outcome of reading holds.
use mathlib.Core.Path.{◌≡◌, refl, ap, sym, ◌∙◌}
use mathlib.Core.Bool.{Bool, true, false}
use mathlib.Core.List.{List}
use Prim.Native.Nat.{ℕ, ◌+◌, ◌-◌, ◌<◌}
use native.Mathlib.Omega.{arith}
use lib.Dec.{eqb, ltb, leb}
use lib.ListN.{length, get_or}
use borrow.Author.Tests.{lt-ltb, le-ltb, le-leb, lt-leb, eq-eqb, ne_eqb, ltb-true, ltb-false, leb-true, leb-false, eqb-true, eqb-false}
use Rattle.std.proofs.Common.{Result, Ok, Err}
use Rattle.base.specs.Tests.{pick}
use Rattle.base.specs.Bytes.{be}
use Rattle.base.specs.declared.refusal.Refusal.{Refusal}
use Rattle.base.specs.declared.refusal.Refusal.TheVariants.{Length, Version, Range, Order}
use Rattle.message.specs.declared.Message.{Message}
use Rattle.message.specs.declared.Message.TheVariants.{OfProposer, OfAcceptor}
use Rattle.message.specs.Layout.{count_at, acceptor_len, references_at}
use Rattle.message.specs.Order.{ascending}
use Rattle.message.specs.Reader.{unless, proposal_in, acceptor_in, reading, read_kind, read_proposal, read_acceptor, read_marked, read_counted}
use Rattle.message.specs.Outcomes.{Whole, Versioned, OfKind, Marked, Counted, Outcome, wrong_length, no_version, other_version, no_kind, other_kind, wrong_proposal, proposal, no_marker, other_marker, no_count, no_references, many_references, wrong_acceptor, disordered, acceptor}
use Rattle.message.specs.Demands.{ExactlyOneOutcome}
use Rattle.message.proofs.Checks.{to_kind, to_marker, to_acceptor, to_proposal, marker_tested, marker_test}

-- ---- one holds, the reader's: each check in turn

-- the count, the inner length, the order
counted_outcome : (s : List ℕ) (b : Bool) (n : ℕ) → Marked b s → count_at b < length s → get_or s (count_at b) 0 ≡ n → Outcome s (read_counted s b n)
counted_outcome s b n h t c = some (ltb 0 n) refl
  where
    all : (y : Bool) → ascending (n - 1) s (references_at b) ≡ y → Counted b n s → length s ≡ acceptor_len b n → Outcome s (unless y Order (Ok (OfAcceptor (acceptor_in s b n))))
    all true e k l = acceptor b n (record { counted = k; long = l; ordered = e })
    all false e k l = disordered b n k l e

    long : (y : Bool) → eqb (length s) (acceptor_len b n) ≡ y → Counted b n s
        → Outcome s (unless y Length (unless (ascending (n - 1) s (references_at b)) Order (Ok (OfAcceptor (acceptor_in s b n)))))
    long true e k = all (ascending (n - 1) s (references_at b)) refl k (eqb-true (length s) (acceptor_len b n) e)
    long false e k = wrong_acceptor b n k (eqb-false (length s) (acceptor_len b n) e)

    most : (y : Bool) → leb n 128 ≡ y → 0 < n
        → Outcome s (unless y Range (unless (eqb (length s) (acceptor_len b n)) Length (unless (ascending (n - 1) s (references_at b)) Order (Ok (OfAcceptor (acceptor_in s b n))))))
    most true e k = long (eqb (length s) (acceptor_len b n)) refl (record { marked = h; there = t; right = c; some = k; most = leb-true n 128 e })
    most false e k = let z = leb-false n 128 e in many_references b h t (omega arith)

    some : (y : Bool) → ltb 0 n ≡ y
        → Outcome s (unless y Range (unless (leb n 128) Range (unless (eqb (length s) (acceptor_len b n)) Length (unless (ascending (n - 1) s (references_at b)) Order (Ok (OfAcceptor (acceptor_in s b n)))))))
    some true e = most (leb n 128) refl (ltb-true 0 n e)
    some false e = let z = ltb-false 0 n e in no_references b h t (omega arith)

-- the marker
acceptor_outcome : (s : List ℕ) → OfKind 2 s → Outcome s (read_acceptor s)
acceptor_outcome s k = there (ltb 9 (length s)) refl
  where
    count : (b : Bool) (y : Bool) → ltb (count_at b) (length s) ≡ y → Marked b s → Outcome s (unless y Length (read_counted s b (get_or s (count_at b) 0)))
    count b true e h = counted_outcome s b (get_or s (count_at b) 0) h (ltb-true (count_at b) (length s) e) refl
    count b false e h = no_count b h (ltb-false (count_at b) (length s) e)

    small : (y : Bool) → leb (get_or s 9 0) 1 ≡ y → 9 < length s → Outcome s (unless y Range (read_marked s (eqb (get_or s 9 0) 1)))
    small true e t = count (eqb (get_or s 9 0) 1) (ltb (count_at (eqb (get_or s 9 0) 1)) (length s)) refl (record { kind = k; there = t; right = marker_tested (get_or s 9 0) (leb-true (get_or s 9 0) 1 e) })
    small false e t = other_marker k t (leb-false (get_or s 9 0) 1 e)

    there : (y : Bool) → ltb 9 (length s) ≡ y → Outcome s (unless y Length (unless (leb (get_or s 9 0) 1) Range (read_marked s (eqb (get_or s 9 0) 1))))
    there true e = small (leb (get_or s 9 0) 1) refl (ltb-true 9 (length s) e)
    there false e = no_marker k (ltb-false 9 (length s) e)

-- the kind
kind_outcome : (s : List ℕ) → Versioned s → 3 < length s → Outcome s (read_kind s (get_or s 3 0))
kind_outcome s v t = one (eqb (get_or s 3 0) 1) refl
  where
    long : (y : Bool) → eqb (length s) 17 ≡ y → OfKind 1 s → Outcome s (unless y Length (Ok (OfProposer (proposal_in s))))
    long true e k = proposal (record { kind = k; long = eqb-true (length s) 17 e })
    long false e k = wrong_proposal k (eqb-false (length s) 17 e)

    two : (y : Bool) → eqb (get_or s 3 0) 2 ≡ y → (get_or s 3 0 ≡ 1 → ⊥) → Outcome s (unless y Range (read_acceptor s))
    two true e n = acceptor_outcome s (record { versioned = v; there = t; right = eqb-true (get_or s 3 0) 2 e })
    two false e n = other_kind v t n (eqb-false (get_or s 3 0) 2 e)

    one : (y : Bool) → eqb (get_or s 3 0) 1 ≡ y → Outcome s (pick y (read_proposal s) (unless (eqb (get_or s 3 0) 2) Range (read_acceptor s)))
    one true e = long (eqb (length s) 17) refl (record { versioned = v; there = t; right = eqb-true (get_or s 3 0) 1 e })
    one false e = two (eqb (get_or s 3 0) 2) refl (eqb-false (get_or s 3 0) 1 e)

-- the outer length and the version
outcome_holds : (s : List ℕ) → Outcome s (reading s)
outcome_holds s = two (leb 2 (length s)) refl
  where
    kind : (y : Bool) → ltb 3 (length s) ≡ y → Versioned s → Outcome s (unless y Length (read_kind s (get_or s 3 0)))
    kind true e v = kind_outcome s v (ltb-true 3 (length s) e)
    kind false e v = no_kind v (ltb-false 3 (length s) e)

    version : (y : Bool) → eqb (get_or s 2 0) 1 ≡ y → Whole s → 2 < length s → Outcome s (unless y Version (unless (ltb 3 (length s)) Length (read_kind s (get_or s 3 0))))
    version true e w t = kind (ltb 3 (length s)) refl (record { whole = w; there = t; right = eqb-true (get_or s 2 0) 1 e })
    version false e w t = other_version w t (eqb-false (get_or s 2 0) 1 e)

    third : (y : Bool) → ltb 2 (length s) ≡ y → Whole s → Outcome s (unless y Length (unless (eqb (get_or s 2 0) 1) Version (unless (ltb 3 (length s)) Length (read_kind s (get_or s 3 0)))))
    third true e w = version (eqb (get_or s 2 0) 1) refl w (ltb-true 2 (length s) e)
    third false e w = no_version w (ltb-false 2 (length s) e)

    whole : (y : Bool) → eqb (length s) (2 + be 2 s 0) ≡ y
        → Outcome s (unless y Length (unless (ltb 2 (length s)) Length (unless (eqb (get_or s 2 0) 1) Version (unless (ltb 3 (length s)) Length (read_kind s (get_or s 3 0))))))
    whole true e = third (ltb 2 (length s)) refl (eqb-true (length s) (2 + be 2 s 0) e)
    whole false e = wrong_length (eqb-false (length s) (2 + be 2 s 0) e)

    two : (y : Bool) → leb 2 (length s) ≡ y
        → Outcome s
        (unless y Length
        (unless (eqb (length s) (2 + be 2 s 0)) Length (unless (ltb 2 (length s)) Length (unless (eqb (get_or s 2 0) 1) Version (unless (ltb 3 (length s)) Length (read_kind s (get_or s 3 0)))))))
    two true e = whole (eqb (length s) (2 + be 2 s 0)) refl
    two false e = let z = leb-false 2 (length s) e in wrong_length (λ w. omega arith)

-- ---- and no other: each outcome's conditions give the reader's answer

to_versioned : (s : List ℕ) → Versioned s → reading s ≡ unless (ltb 3 (length s)) Length (read_kind s (get_or s 3 0))
to_versioned s v =
    let t = v.there in
    simp (le-leb 2 (length s) (omega arith), eq-eqb (length s) (2 + be 2 s 0) v.whole, lt-ltb 2 (length s) v.there, eq-eqb (get_or s 2 0) 1 v.right)

to_proposals : (s : List ℕ) → OfKind 1 s → reading s ≡ read_proposal s
to_proposals s k = to_kind s k.versioned.whole k.there k.versioned.right ∙ ap (read_kind s) k.right

to_acceptors : (s : List ℕ) → OfKind 2 s → reading s ≡ read_acceptor s
to_acceptors s k = to_kind s k.versioned.whole k.there k.versioned.right ∙ ap (read_kind s) k.right

to_marked : (s : List ℕ) (b : Bool) → Marked b s → reading s ≡ read_marked s b
to_marked s b m =
    let t = marker_test b in
    let r = m.right in
    let u = t.1 in
    to_acceptors s m.kind ∙ to_marker s m.there (omega arith) b (ap (λ (x : ℕ). eqb x 1) r ∙ t.0)

to_counted : (s : List ℕ) (b : Bool) → Marked b s → count_at b < length s → reading s ≡ read_counted s b (get_or s (count_at b) 0)
to_counted s b m t = to_marked s b m ∙ simp (lt-ltb (count_at b) (length s) t)

to_count : (s : List ℕ) (b : Bool) (n : ℕ) → Counted b n s → reading s ≡ read_counted s b n
to_count s b n c = to_counted s b c.marked c.there ∙ ap (read_counted s b) c.right

outcome_only : (s : List ℕ) (r : Result Message Refusal) → Outcome s r → reading s ≡ r
outcome_only s r (wrong_length h) = outer (leb 2 (length s)) refl
  where
    outer : (y : Bool) → leb 2 (length s) ≡ y → reading s ≡ Err Length
    outer true e = simp (e, ne_eqb (length s) (2 + be 2 s 0) h)
    outer false e = simp e
outcome_only s r (no_version w l) = simp (le-leb 2 (length s) (omega arith), eq-eqb (length s) (2 + be 2 s 0) w, le-ltb 2 (length s) l)
outcome_only s r (other_version w t v) = simp (le-leb 2 (length s) (omega arith), eq-eqb (length s) (2 + be 2 s 0) w, lt-ltb 2 (length s) t, ne_eqb (get_or s 2 0) 1 v)
outcome_only s r (no_kind v l) = to_versioned s v ∙ simp (le-ltb 3 (length s) l)
outcome_only s r (other_kind v t p q) = to_kind s v.whole t v.right ∙ simp (ne_eqb (get_or s 3 0) 1 p, ne_eqb (get_or s 3 0) 2 q)
outcome_only s r (wrong_proposal k l) = to_proposals s k ∙ simp (ne_eqb (length s) 17 l)
outcome_only s r (proposal p) = to_proposals s p.kind ∙ to_proposal s p.long
outcome_only s r (no_marker k l) = to_acceptors s k ∙ simp (le-ltb 9 (length s) l)
outcome_only s r (other_marker k t m) = to_acceptors s k ∙ simp (lt-ltb 9 (length s) t, lt-leb (get_or s 9 0) 1 m)
outcome_only s r (no_count b m l) = to_marked s b m ∙ simp (le-ltb (count_at b) (length s) l)
outcome_only s r (no_references b m t z) = to_counted s b m t ∙ simp (le-ltb 0 (get_or s (count_at b) 0) (omega arith))
outcome_only s r (many_references b m t z) = to_counted s b m t ∙ simp (lt-ltb 0 (get_or s (count_at b) 0) (omega arith), lt-leb (get_or s (count_at b) 0) 128 z)
outcome_only s r (wrong_acceptor b n c l) = to_count s b n c ∙ simp (lt-ltb 0 n c.some, le-leb n 128 c.most, ne_eqb (length s) (acceptor_len b n) l)
outcome_only s r (disordered b n c l o) = to_count s b n c ∙ simp (lt-ltb 0 n c.some, le-leb n 128 c.most, eq-eqb (length s) (acceptor_len b n) l, o)
outcome_only s r (acceptor b n a) = to_count s b n a.counted ∙ to_acceptor s b n a.counted.some a.counted.most a.long a.ordered

pub exactly_one_outcome : ExactlyOneOutcome
exactly_one_outcome s = (outcome_holds s, λ r o. sym (outcome_only s r o))
