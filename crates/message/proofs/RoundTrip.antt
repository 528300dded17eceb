-- Reading is the inverse of writing.
use mathlib.Core.Logic.{◌⊎◌, inl, inr}
use mathlib.Core.Path.{◌≡◌, refl, ap, ap₂, sym, subst, ◌∙◌}
use mathlib.Core.Bool.{Bool, true, false}
use mathlib.Core.List.{List, [], ◌∷◌, ◌++◌, append_assoc, append-nil}
use Prim.Native.Nat.{ℕ, ◌+◌, ◌*◌, ◌-◌, ◌≤◌, ◌<◌}
use native.Mathlib.Omega.{arith}
use lib.Dec.{eqb}
use lib.ListN.{length, get_or, take, length-append}
use lib.Seq.{take_at, drop_at, get_or_at, take_all, take-add}
use borrow.Author.Tests.{eq-eqb, lt-ltb}
use Rattle.std.proofs.Common.{Ok}
use Rattle.base.specs.Tests.{pick}
use Rattle.base.specs.Bytes.{be, bytes, part, Octets}
use Rattle.base.proofs.Bytes.{be_at, be_bytes, bytes_be, part_suc, part_length}
use Rattle.message.specs.declared.Message.TheVariants.{OfProposer, OfAcceptor}
use Rattle.message.specs.Layout.{marker, count_at, references_at, acceptor_len}
use Rattle.message.specs.Order.{ascending}
use Rattle.message.specs.Reader.{proposal_in, read_kind, read_proposal, read_acceptor, read_marked, read_counted, previous_in}
use Rattle.message.specs.Outcomes.{OfKind, IsAcceptor}
use Rattle.message.specs.Writer.{head_bytes, proposal_bytes, has_previous, acceptor_bytes}
use Rattle.base.specs.Ballots.{value_of}
use Rattle.message.specs.Demands.{ProposalReadsBack, BallotReadsBack, AcceptorReadsBack, ProposalBytesOnly, AcceptorBytesOnly, ProposalLength, AcceptorLength, references_in}
use Rattle.message.proofs.Checks.{to_kind, to_proposal, to_marker, to_acceptor, of_proposer, of_acceptor, marker_test}
use Rattle.message.proofs.Encoding.{head_length, proposal_length_lem, previous_span, acceptor_length_lem}
use Rattle.message.proofs.Ascent.{ascending_behind}

-- ---- what a head says, whatever follows it

record HeadSays (len kind house bay signer : ℕ) (s : List ℕ) : Type 0 where
  outer : be 2 s 0 ≡ len - 2
  version : get_or s 2 0 ≡ 1
  kind_is : get_or s 3 0 ≡ kind
  house_is : be 2 s 4 ≡ house
  bay_is : be 2 s 6 ≡ bay
  signer_is : get_or s 8 0 ≡ signer

head_says : (len kind house bay signer : ℕ) (t : List ℕ) → len - 2 < 65536 → house < 65536 → bay < 65536 → HeadSays len kind house bay signer (head_bytes len kind house bay signer ++ t)
unfolding be bytes
head_says len kind house bay signer t l h b =
    record { outer = omega arith; version = refl; kind_is = refl; house_is = omega arith; bay_is = omega arith; signer_is = refl }

-- ---- proposals

pub proposal_reads_back : ProposalReadsBack
proposal_reads_back p h b x =
    let e = head_bytes 17 1 p.house p.bay p.proposer in
    let t = bytes 8 p.ballot in
    let s = proposal_bytes p in
    let l = proposal_length_lem p in
    let f = head_says 17 1 p.house p.bay p.proposer t (omega arith) (omega arith) (omega arith) in
    let y : be 8 s 9 ≡ p.ballot = be_at 8 e t 9 (head_length 17 1 p.house p.bay p.proposer) ∙ ap (λ (z : List ℕ). be 8 z 0) (sym (append-nil t)) ∙ be_bytes 8 p.ballot [] (omega arith) in
    let k : read_kind s (get_or s 3 0) ≡ read_proposal s = simp (eq-eqb (get_or s 3 0) 1 f.kind_is) in
    let o = f.outer in
    to_kind s (omega arith) (omega arith) f.version ∙ k ∙ to_proposal s l
    ∙ (λ i. Ok (OfProposer (record { house = f.house_is i; bay = f.bay_is i; proposer = f.signer_is i; ballot = y i })))

pub ballot_reads_back : BallotReadsBack
unfolding value_of
ballot_reads_back house bay proposer round value h = (omega arith, omega arith)

pub proposal_length : ProposalLength
proposal_length s p e = (of_proposer s p e).0.long

-- ---- acceptor messages

span_most : (b : Bool) → pick b 32 0 ≤ 32
span_most true = omega arith
span_most false = omega arith

pub acceptor_reads_back : AcceptorReadsBack
acceptor_reads_back house bay signer previous n ids a =
    let b = has_previous previous in
    let h = head_bytes (acceptor_len b n) 2 house bay signer in
    let m = marker b ∷ [] in
    let front = h ++ m ++ previous in
    let s = acceptor_bytes house bay signer previous n ids in
    let span = previous_span previous a.previous_id in
    let most = span_most b in
    let l : length s ≡ acceptor_len b n = acceptor_length_lem house bay signer previous n ids span a.whole in
    let k₀ = head_length (acceptor_len b n) 2 house bay signer in
    let k₁ = length-append h m in
    let k₂ = length-append (h ++ m) previous in
    let k₃ = length-append front (n ∷ []) in
    let whole = a.whole in
    let t = m ++ (previous ++ ((n ∷ []) ++ ids)) in
    let behind : h ++ t ≡ s = sym (simp append_assoc) in
    let behind₂ : h ++ m ++ (previous ++ ((n ∷ []) ++ ids)) ≡ s = sym (simp append_assoc) in
    let f = subst (HeadSays (acceptor_len b n) 2 house bay signer) behind (head_says (acceptor_len b n) 2 house bay signer t (omega (arith, a.most)) (omega (arith, a.house_fits)) (omega (arith, a.bay_fits))) in
    let o = f.outer in
    let marked : get_or s 9 0 ≡ marker b = ap (λ (z : List ℕ). get_or z 9 0) (sym behind) ∙ get_or_at h (marker b) (previous ++ ((n ∷ []) ++ ids)) 0 9 k₀ in
    let counted : get_or s (count_at b) 0 ≡ n = ap (λ (z : List ℕ). get_or z (count_at b) 0) (append_assoc front (n ∷ []) ids) ∙ get_or_at front n ids 0 (count_at b) (omega arith) in
    let ordered : ascending (n - 1) s (references_at b) ≡ true = ascending_behind (n - 1) (front ++ (n ∷ [])) ids (references_at b) (omega arith) ∙ a.ordered in
    let kind : read_kind s (get_or s 3 0) ≡ read_acceptor s = ap (read_kind s) f.kind_is in
    let small = (marker_test b).1 in
    let there : read_marked s b ≡ read_counted s b (get_or s (count_at b) 0) = simp (lt-ltb (count_at b) (length s) (omega arith)) in
    record {
      fields =
          to_kind s (omega (arith, a.most)) (omega arith) f.version ∙ kind
          ∙ to_marker s (omega arith) (omega arith) b (ap (λ (x : ℕ). eqb x 1) marked ∙ (marker_test b).0) ∙ there ∙ ap (read_counted s b) counted
          ∙ to_acceptor s b n a.some a.most l ordered
          ∙ (λ i. Ok (OfAcceptor (record { house = f.house_is i; bay = f.bay_is i; signer = f.signer_is i; previous = b; count = n })));
      previous_back =
          ap (λ (z : List ℕ). part (pick b 32 0) z 10) (sym behind₂)
          ∙ ap (take (pick b 32 0)) (drop_at (h ++ m) (previous ++ ((n ∷ []) ++ ids)) 10 (omega arith)) ∙ take_at previous ((n ∷ []) ++ ids) (pick b 32 0) span;
      references_back = ap (take (32 * n)) (drop_at (front ++ (n ∷ [])) ids (references_at b) (omega arith)) ∙ take_all (32 * n) ids (omega arith);
    }

-- ---- no other bytes

-- the head of bytes that were read
head_only : (s : List ℕ) (k : ℕ) → Octets s → OfKind k s → 9 ≤ length s → head_bytes (length s) k (be 2 s 4) (be 2 s 6) (get_or s 8 0) ≡ take 9 s
head_only s k o h l =
    let w : length s - 2 ≡ be 2 s 0 = omega (arith, h.versioned.whole) in
    let outer : bytes 2 (length s - 2) ≡ take 2 s = ap (bytes 2) w ∙ bytes_be 2 s 0 o (omega arith) in
    let mid : 1 ∷ k ∷ [] ≡ part 2 s 2 =
    ap₂ (λ (x y : ℕ). x ∷ y ∷ []) (sym h.versioned.right) (sym h.right)
    ∙ sym (part_suc 1 s 2 (omega arith) ∙ ap (λ (x : List ℕ). get_or s 2 0 ∷ x) (part_suc 0 s 3 (omega arith)))
    in
    let last : get_or s 8 0 ∷ [] ≡ part 1 s 8 = sym (part_suc 0 s 8 (omega arith)) in
    (λ i. outer i ++ mid i ++ bytes_be 2 s 4 o (omega arith) i ++ bytes_be 2 s 6 o (omega arith) i ++ last i)
    ∙ sym
    (take-add 8 1 s ∙ ap (λ (x : List ℕ). x ++ part 1 s 8) (take-add 6 2 s)
    ∙ ap (λ (x : List ℕ). x ++ part 2 s 6 ++ part 1 s 8) (take-add 4 2 s)
    ∙ ap (λ (x : List ℕ). x ++ part 2 s 4 ++ part 2 s 6 ++ part 1 s 8) (take-add 2 2 s))

pub proposal_bytes_only : ProposalBytesOnly
proposal_bytes_only s p o e =
    let (h, q) = of_proposer s p e in
    let l = h.long in
    let b : proposal_bytes (proposal_in s) ≡ take 9 s ++ part 8 s 9 =
    ap₂ (λ (x : ℕ) (y : List ℕ). head_bytes x 1 (be 2 s 4) (be 2 s 6) (get_or s 8 0) ++ y) (sym l) (bytes_be 8 s 9 o (omega arith))
    ∙ ap (λ (x : List ℕ). x ++ part 8 s 9) (head_only s 1 o h.kind (omega arith))
    in
    sym (take_all 17 s (omega arith)) ∙ take-add 9 8 s ∙ sym b ∙ ap proposal_bytes (sym q)

-- an acceptor message whose marker is named
abbrev marked_bytes : Bool → ℕ → ℕ → ℕ → List ℕ → ℕ → List ℕ → List ℕ
marked_bytes b house bay signer previous n ids = head_bytes (acceptor_len b n) 2 house bay signer ++ (marker b ∷ []) ++ previous ++ (n ∷ []) ++ ids

-- the previous id that stands in a message is none where its marker says so
previous_named : (s : List ℕ) (b : Bool) → 10 + pick b 32 0 ≤ length s → has_previous (previous_in s b) ≡ b
previous_named s true h = simp (part_length 32 s 10 h)
previous_named s false h = refl

acceptor_only : (s : List ℕ) (b : Bool) (n : ℕ) → Octets s → IsAcceptor b n s
    → s ≡ acceptor_bytes (be 2 s 4) (be 2 s 6) (get_or s 8 0) (previous_in s b) n (references_in s b n)
acceptor_only s b n o h =
    let k : ℕ = pick b 32 0 in
    let l = h.long in
    let head = head_only s 2 o h.counted.marked.kind (omega arith) in
    let mark : marker b ∷ [] ≡ part 1 s 9 = sym (part_suc 0 s 9 (omega arith) ∙ ap (λ (x : ℕ). x ∷ []) h.counted.marked.right) in
    let count : n ∷ [] ≡ part 1 s (10 + k) = sym (part_suc 0 s (10 + k) (omega arith) ∙ ap (λ (x : ℕ). x ∷ []) h.counted.right) in
    let named = previous_named s b (omega arith) in
    let r = references_in s b n in
    let p = previous_in s b in
    let cut : s ≡ take 9 s ++ part 1 s 9 ++ p ++ part 1 s (10 + k) ++ r =
    sym (take_all (acceptor_len b n) s (omega arith)) ∙ take-add (10 + k + 1) (32 * n) s ∙ ap (λ (x : List ℕ). x ++ r) (take-add (10 + k) 1 s)
    ∙ ap (λ (x : List ℕ). x ++ part 1 s (10 + k) ++ r) (take-add 10 k s)
    ∙ ap (λ (x : List ℕ). x ++ p ++ part 1 s (10 + k) ++ r) (take-add 9 1 s)
    in
    cut ∙ (λ i. sym head i ++ sym mark i ++ p ++ sym count i ++ r)
    ∙ ap (λ (x : ℕ). head_bytes x 2 (be 2 s 4) (be 2 s 6) (get_or s 8 0) ++ (marker b ∷ []) ++ p ++ (n ∷ []) ++ r) l
    ∙ ap (λ (x : Bool). marked_bytes x (be 2 s 4) (be 2 s 6) (get_or s 8 0) p n r) (sym named)

pub acceptor_bytes_only : AcceptorBytesOnly
acceptor_bytes_only s m o e =
    let (h, q) = of_acceptor s m e in
    acceptor_only s m.previous m.count o h
    ∙ (λ i. acceptor_bytes (sym q i).house (sym q i).bay (sym q i).signer (previous_in s m.previous) m.count (references_in s m.previous m.count))

pub acceptor_length : AcceptorLength
acceptor_length s m e = let h = (of_acceptor s m e).0 in go m.previous h.counted.most h.long
  where
    go : (b : Bool) → m.count ≤ 128 → length s ≡ acceptor_len b m.count → ((length s ≡ 11 + 32 * m.count) ⊎ (length s ≡ 43 + 32 * m.count)) × (length s ≤ 4139)
    go true k l = (inr l, omega arith)
    go false k l = (inl l, omega arith)
