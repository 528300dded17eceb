-- The reader's checks: what is left once those in front have passed, and what has passed where fields were read.
use mathlib.Core.Path.{◌≡◌, refl, sym, subst, ◌∙◌, ap}
use mathlib.Core.Logic.{◌⊎◌, inl, inr}
use mathlib.Core.Bool.{Bool, true, false}
use mathlib.Core.List.{List}
use Prim.Native.Nat.{ℕ, ◌+◌, ◌*◌, ◌-◌, ◌≤◌, ◌<◌}
use native.Mathlib.Omega.{arith}
use lib.Dec.{eqb, ltb, leb}
use lib.ListN.{length, get_or}
use borrow.Author.Tests.{lt-ltb, le-leb, eq-eqb, ltb-true, leb-true, eqb-true, eqb-false}
use Rattle.std.proofs.Common.{Result, Ok, Err}
use Rattle.base.specs.Tests.{pick}
use Rattle.base.specs.Bytes.{be}
use Rattle.base.specs.declared.refusal.Refusal.{Refusal}
use Rattle.base.specs.declared.refusal.Refusal.TheVariants.{Length, Version, Range, Order, Argument}
use Rattle.message.specs.declared.Proposal.{Proposal}
use Rattle.message.specs.declared.AcceptorMessage.{AcceptorMessage}
use Rattle.message.specs.declared.Message.{Message}
use Rattle.message.specs.declared.Message.TheVariants.{OfProposer, OfAcceptor}
use Rattle.message.specs.Layout.{marker, count_at, acceptor_len, references_at}
use Rattle.message.specs.Order.{ascending}
use Rattle.message.specs.Reader.{unless, proposal_in, acceptor_in, read_proposal, read_counted, read_marked, read_acceptor, read_kind, reading, nth_of, reference_of}
use Rattle.message.specs.Outcomes.{OfKind, Marked, Counted, IsProposal, IsAcceptor}

-- ---- what is left

-- up to the kind
pub to_kind : (s : List ℕ) → length s ≡ 2 + be 2 s 0 → 3 < length s → get_or s 2 0 ≡ 1 → reading s ≡ read_kind s (get_or s 3 0)
to_kind s l h v =
    simp (le-leb 2 (length s) (omega arith), eq-eqb (length s) (2 + be 2 s 0) l, lt-ltb 2 (length s) (omega arith), eq-eqb (get_or s 2 0) 1 v, lt-ltb 3 (length s) h)

-- of kind 1: to the end
pub to_proposal : (s : List ℕ) → length s ≡ 17 → read_proposal s ≡ Ok (OfProposer (proposal_in s))
to_proposal s l = simp (eq-eqb (length s) 17 l)

-- of kind 2: up to the marker
pub to_marker : (s : List ℕ) → 9 < length s → get_or s 9 0 ≤ 1 → (b : Bool) → eqb (get_or s 9 0) 1 ≡ b → read_acceptor s ≡ read_marked s b
to_marker s h m b e =
    let p : read_acceptor s ≡ read_marked s (eqb (get_or s 9 0) 1) = simp (lt-ltb 9 (length s) h, le-leb (get_or s 9 0) 1 m) in
    p ∙ ap (read_marked s) e

-- and from the count to the end
pub to_acceptor : (s : List ℕ) (b : Bool) (n : ℕ) → 0 < n → n ≤ 128 → length s ≡ acceptor_len b n → ascending (n - 1) s (references_at b) ≡ true
    → read_counted s b n ≡ Ok (OfAcceptor (acceptor_in s b n))
to_acceptor s b n h m l o = simp (lt-ltb 0 n h, le-leb n 128 m, eq-eqb (length s) (acceptor_len b n) l, o)

-- ---- what has passed

-- the answers that give fields
abbrev Fields : Result Message Refusal → Type 0
Fields (Ok (OfProposer p)) = Unit {0}
Fields (Ok (OfAcceptor m)) = Unit {0}
Fields (Err r) = ⊥

passed : (t : Bool) (r : Refusal) (x y : Result Message Refusal) → Fields y → unless t r x ≡ y → (t ≡ true) × (x ≡ y)
passed true r x y h e = (refl, e)
passed false r x y h e = absurd (subst Fields (sym e) h)

-- the kind was reached
of_kind : (s : List ℕ) (y : Result Message Refusal) → Fields y → reading s ≡ y → OfKind (get_or s 3 0) s × (read_kind s (get_or s 3 0) ≡ y)
of_kind s y f e =
    let k = read_kind s (get_or s 3 0) in
    let x₄ = unless (ltb 3 (length s)) Length k in
    let x₃ = unless (eqb (get_or s 2 0) 1) Version x₄ in
    let x₂ = unless (ltb 2 (length s)) Length x₃ in
    let x₁ = unless (eqb (length s) (2 + be 2 s 0)) Length x₂ in
    let p₁ = passed (leb 2 (length s)) Length x₁ y f e in
    let p₂ = passed (eqb (length s) (2 + be 2 s 0)) Length x₂ y f p₁.1 in
    let p₃ = passed (ltb 2 (length s)) Length x₃ y f p₂.1 in
    let p₄ = passed (eqb (get_or s 2 0) 1) Version x₄ y f p₃.1 in
    let p₅ = passed (ltb 3 (length s)) Length k y f p₄.1 in (
      record {
        versioned = record { whole = eqb-true (length s) (2 + be 2 s 0) p₂.0; there = ltb-true 2 (length s) p₃.0; right = eqb-true (get_or s 2 0) 1 p₄.0 };
        there = ltb-true 3 (length s) p₅.0;
        right = refl;
      },
      p₅.1,
    )

-- a marker is the one of the test for 1
pub marker_tested : (m : ℕ) → m ≤ 1 → m ≡ marker (eqb m 1)
marker_tested m h = go (eqb m 1) refl
  where
    go : (t : Bool) → eqb m 1 ≡ t → m ≡ marker t
    go true q = eqb-true m 1 q
    go false q = let z = eqb-false m 1 q in omega arith

pub marker_test : (b : Bool) → (eqb (marker b) 1 ≡ b) × (marker b ≤ 1)
marker_test true = (refl, omega arith)
marker_test false = (refl, omega arith)

-- the end of an acceptor message was reached
to_end : (s : List ℕ) (y : Result Message Refusal) → Fields y → OfKind 2 s → read_acceptor s ≡ y → (b : Bool) × (n : ℕ) × IsAcceptor b n s × (Ok (OfAcceptor (acceptor_in s b n)) ≡ y)
to_end s y f k e =
    let m = get_or s 9 0 in
    let b = eqb m 1 in
    let n = get_or s (count_at b) 0 in
    let x₆ = Ok (OfAcceptor (acceptor_in s b n)) in
    let x₅ = unless (ascending (n - 1) s (references_at b)) Order x₆ in
    let x₄ = unless (eqb (length s) (acceptor_len b n)) Length x₅ in
    let x₃ = unless (leb n 128) Range x₄ in
    let x₂ = unless (ltb 0 n) Range x₃ in
    let x₁ = unless (ltb (count_at b) (length s)) Length x₂ in
    let p₁ = passed (ltb 9 (length s)) Length (unless (leb m 1) Range x₁) y f e in
    let p₂ = passed (leb m 1) Range x₁ y f p₁.1 in
    let p₃ = passed (ltb (count_at b) (length s)) Length x₂ y f p₂.1 in
    let p₄ = passed (ltb 0 n) Range x₃ y f p₃.1 in
    let p₅ = passed (leb n 128) Range x₄ y f p₄.1 in
    let p₆ = passed (eqb (length s) (acceptor_len b n)) Length x₅ y f p₅.1 in
    let p₇ = passed (ascending (n - 1) s (references_at b)) Order x₆ y f p₆.1 in
    let marked : Marked b s = record { kind = k; there = ltb-true 9 (length s) p₁.0; right = marker_tested m (leb-true m 1 p₂.0) } in
    let counted : Counted b n s = record { marked = marked; there = ltb-true (count_at b) (length s) p₃.0; right = refl; some = ltb-true 0 n p₄.0; most = leb-true n 128 p₅.0 } in
    (b, n, record { counted = counted; long = eqb-true (length s) (acceptor_len b n) p₆.0; ordered = p₇.0 }, p₇.1)

-- a message was read: a proposal or an acceptor message
read_whole : (s : List ℕ) (y : Result Message Refusal) → Fields y → reading s ≡ y
    → (IsProposal s × (Ok (OfProposer (proposal_in s)) ≡ y)) ⊎ ((b : Bool) × (n : ℕ) × IsAcceptor b n s × (Ok (OfAcceptor (acceptor_in s b n)) ≡ y))
read_whole s y f e =
    let k = of_kind s y f e in
    go (eqb (get_or s 3 0) 1) refl k.0 k.1
  where
    go : (t : Bool) → eqb (get_or s 3 0) 1 ≡ t → OfKind (get_or s 3 0) s → read_kind s (get_or s 3 0) ≡ y
        → (IsProposal s × (Ok (OfProposer (proposal_in s)) ≡ y)) ⊎ ((b : Bool) × (n : ℕ) × IsAcceptor b n s × (Ok (OfAcceptor (acceptor_in s b n)) ≡ y))
    go true q h d =
        let r : read_proposal s ≡ y = sym (simp q) ∙ d in
        let l = passed (eqb (length s) 17) Length (Ok (OfProposer (proposal_in s))) y f r in
        inl (record { kind = subst (λ (x : ℕ). OfKind x s) (eqb-true (get_or s 3 0) 1 q) h; long = eqb-true (length s) 17 l.0 }, l.1)
    go false q h d =
        let r : unless (eqb (get_or s 3 0) 2) Range (read_acceptor s) ≡ y = sym (simp q) ∙ d in
        let l = passed (eqb (get_or s 3 0) 2) Range (read_acceptor s) y f r in
        inr (to_end s y f (subst (λ (x : ℕ). OfKind x s) (eqb-true (get_or s 3 0) 2 l.0) h) l.1)

-- a proposal was read
pub of_proposer : (s : List ℕ) (p : Proposal) → reading s ≡ Ok (OfProposer p) → IsProposal s × (p ≡ proposal_in s)
of_proposer s p e = go (read_whole s (Ok (OfProposer p)) tt e)
  where
    go : (IsProposal s × ◌≡◌ {A = Result Message Refusal} (Ok (OfProposer (proposal_in s))) (Ok (OfProposer p))) ⊎ ((b : Bool) × (n : ℕ) × IsAcceptor b n s × ◌≡◌ {A = Result Message Refusal} (Ok (OfAcceptor (acceptor_in s b n))) (Ok (OfProposer p))) → IsProposal s × (p ≡ proposal_in s)
    go (inl (h, q)) = (h, cc)
    go (inr (b, n, h, q)) = let z : ◌≡◌ {A = ℕ} 0 1 = cc in absurd (omega arith)

-- an acceptor message was read
pub of_acceptor : (s : List ℕ) (m : AcceptorMessage) → reading s ≡ Ok (OfAcceptor m) → IsAcceptor m.previous m.count s × (m ≡ acceptor_in s m.previous m.count)
of_acceptor s m e = go (read_whole s (Ok (OfAcceptor m)) tt e)
  where
    go : (IsProposal s × ◌≡◌ {A = Result Message Refusal} (Ok (OfProposer (proposal_in s))) (Ok (OfAcceptor m))) ⊎ ((b : Bool) × (n : ℕ) × IsAcceptor b n s × ◌≡◌ {A = Result Message Refusal} (Ok (OfAcceptor (acceptor_in s b n))) (Ok (OfAcceptor m)))
        → IsAcceptor m.previous m.count s × (m ≡ acceptor_in s m.previous m.count)
    go (inl (h, q)) = let z : ◌≡◌ {A = ℕ} 0 1 = cc in absurd (omega arith)
    go (inr (b, n, h, q)) =
        let w : acceptor_in s b n ≡ m = cc in
        (subst (λ (x : AcceptorMessage). IsAcceptor x.previous x.count s) w h, subst (λ (x : AcceptorMessage). x ≡ acceptor_in s x.previous x.count) w refl)

-- the ids that end an acceptor message are its references
pub nth_of_acceptor : (s : List ℕ) (m : AcceptorMessage) (n : ℕ) → reading s ≡ Ok (OfAcceptor m) → nth_of s m.count n ≡ reference_of (Ok (OfAcceptor m)) n
nth_of_acceptor s m n e =
    let l = long in
    let p : nth_of s m.count n ≡ pick (ltb n m.count) (Ok (length s - 32 * (m.count - n))) (Err Argument) = simp (le-leb (32 * m.count) (length s) (omega arith)) in
    p ∙ go (ltb n m.count) refl
  where
    long : length s ≡ references_at m.previous + 32 * m.count
    long = (of_acceptor s m e).0.long

    go : (t : Bool) → ltb n m.count ≡ t → pick t (Ok (length s - 32 * (m.count - n))) (Err Argument) ≡ pick t (Ok (references_at m.previous + 32 * n)) (Err Argument)
    go true q =
        let h = ltb-true n m.count q in
        let l = long in
        let k : length s - 32 * (m.count - n) ≡ references_at m.previous + 32 * n = omega arith in
        ap (λ (x : ℕ). Ok x) k
    go false q = refl
