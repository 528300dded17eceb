-- The reader's outcomes one by one: what each asks of the bytes s. That exactly one of them holds, and that it is the reader's, is the theorem `exactly_one_outcome`.
use Rattle.std.specs.Prelude.{◌≡◌, Bool, true, false, List, Result, Ok, Err, ℕ, ◌+◌, ◌-◌, ◌≤◌, ◌<◌, length, get_or}
use Rattle.base.specs.Bytes.{be}
use Rattle.base.specs.declared.refusal.Refusal.{Refusal}
use Rattle.base.specs.declared.refusal.Refusal.TheVariants.{Length, Version, Range, Order}
use Rattle.message.specs.declared.Message.{Message}
use Rattle.message.specs.declared.Message.TheVariants.{OfProposer, OfAcceptor}
use Rattle.message.specs.Layout.{outer_len, version_at, version, kind_at, proposal_kind, acceptor_kind, proposal_len, marker_at, marker, count_at, most_references, references_at, acceptor_len}
use Rattle.message.specs.Order.{ascending}
use Rattle.message.specs.Reader.{proposal_in, acceptor_in}

-- the first two bytes are there and count those after them
abbrev pub Whole : List ℕ → Type 0
Whole s = length s ≡ outer_len + be 2 s 0

-- and the version is there and is 1
pub record Versioned (s : List ℕ) : Type 0 where
  pub whole : Whole s
  pub there : version_at < length s
  pub right : get_or s version_at 0 ≡ version

-- and the kind is there and is k
pub record OfKind (k : ℕ) (s : List ℕ) : Type 0 where
  pub versioned : Versioned s
  pub there : kind_at < length s
  pub right : get_or s kind_at 0 ≡ k

-- an acceptor message whose marker is there and says whether a previous id follows
pub record Marked (previous : Bool) (s : List ℕ) : Type 0 where
  pub kind : OfKind acceptor_kind s
  pub there : marker_at < length s
  pub right : get_or s marker_at 0 ≡ marker previous

-- and whose count is there and is n, 1 to 128
pub record Counted (previous : Bool) (n : ℕ) (s : List ℕ) : Type 0 where
  pub marked : Marked previous s
  pub there : count_at previous < length s
  pub right : get_or s (count_at previous) 0 ≡ n
  pub some : 0 < n
  pub most : n ≤ most_references

-- an accepted proposal
pub record IsProposal (s : List ℕ) : Type 0 where
  pub kind : OfKind proposal_kind s
  pub long : length s ≡ proposal_len

-- an accepted acceptor message
pub record IsAcceptor (previous : Bool) (n : ℕ) (s : List ℕ) : Type 0 where
  pub counted : Counted previous n s
  pub long : length s ≡ acceptor_len previous n
  pub ordered : ascending (n - 1) s (references_at previous) ≡ true

-- the rows of the table "When a call is turned down" that concern a message, in the order in which they are checked
pub data Outcome (s : List ℕ) : Result Message Refusal → Type 0 where
  wrong_length : (Whole s → ⊥) → Outcome s (Err Length)
  no_version : Whole s → length s ≤ version_at → Outcome s (Err Length)
  other_version : Whole s → version_at < length s → (get_or s version_at 0 ≡ version → ⊥) → Outcome s (Err Version)
  no_kind : Versioned s → length s ≤ kind_at → Outcome s (Err Length)
  other_kind : Versioned s → kind_at < length s → (get_or s kind_at 0 ≡ proposal_kind → ⊥) → (get_or s kind_at 0 ≡ acceptor_kind → ⊥) → Outcome s (Err Range)
  wrong_proposal : OfKind proposal_kind s → (length s ≡ proposal_len → ⊥) → Outcome s (Err Length)
  proposal : IsProposal s → Outcome s (Ok (OfProposer (proposal_in s)))
  no_marker : OfKind acceptor_kind s → length s ≤ marker_at → Outcome s (Err Length)
  other_marker : OfKind acceptor_kind s → marker_at < length s → 1 < get_or s marker_at 0 → Outcome s (Err Range)
  no_count : (previous : Bool) → Marked previous s → length s ≤ count_at previous → Outcome s (Err Length)
  no_references : (previous : Bool) → Marked previous s → count_at previous < length s → get_or s (count_at previous) 0 ≡ 0 → Outcome s (Err Range)
  many_references : (previous : Bool) → Marked previous s → count_at previous < length s → most_references < get_or s (count_at previous) 0 → Outcome s (Err Range)
  wrong_acceptor : (previous : Bool) (n : ℕ) → Counted previous n s → (length s ≡ acceptor_len previous n → ⊥) → Outcome s (Err Length)
  disordered : (previous : Bool) (n : ℕ) → Counted previous n s → length s ≡ acceptor_len previous n → ascending (n - 1) s (references_at previous) ≡ false → Outcome s (Err Order)
  acceptor : (previous : Bool) (n : ℕ) → IsAcceptor previous n s → Outcome s (Ok (OfAcceptor (acceptor_in s previous n)))
