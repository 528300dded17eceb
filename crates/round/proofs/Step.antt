-- What one delivery that is not refused does, in terms of tables: the seam between the laws of single calls and those of lists of calls.
use mathlib.Core.Path.{◌≡◌}
use mathlib.Core.Logic.{◌≢◌, ◌⊎◌}
use mathlib.Core.Bool.{Bool, true, false, not, ◌||◌}
use mathlib.Core.Option.{none, some}
use mathlib.Core.List.{List, [], ◌∷◌, ◌++◌}
use Prim.Native.Nat.{ℕ, ◌+◌, ◌<◌}
use lib.Dec.{T, eqb}
use lib.ListN.{length}
use Rattle.std.specs.Prelude.{Ok, Err, Some, None}
use Rattle.base.specs.Tests.{◌∈◌}
use Rattle.base.specs.declared.refusal.Refusal.{Refusal}
use Rattle.message.specs.Reader.{reading}
use Rattle.round.specs.Outcomes.{Reading, Outcome}
use Rattle.message.specs.declared.Message.TheVariants.{OfProposer, OfAcceptor}
use Rattle.protocol.specs.Ids.{Id}
use Rattle.protocol.specs.WellFormed.{chained, formed1b, well_formed}
use Rattle.protocol.specs.Table.{Held, held_id, places, offered, node_by, tree, Content, plain, joint, content_of}
use Rattle.round.specs.Round.{Round}
use Rattle.round.specs.Holdings.{graph_of, is_voting, id_at, named, table_of, is_known, place_of}
use Rattle.round.specs.Handed.{fits}
use Rattle.round.specs.Rows.{reference_ids, previous_id}
use Rattle.round.specs.Delivery.{Effect, delivery}
use Rattle.round.specs.Premises.{IdRule, Typed}
use Rattle.round.specs.Demands.{Names}

-- what bytes that were read say, as the content of a record
abbrev pub content_read : List ℕ → Reading → Content
content_read b (Ok (OfProposer m)) = plain m.proposer m.ballot
content_read b (Ok (OfAcceptor m)) = joint m.signer (previous_id b m) (reference_ids b m)
content_read b (Err e) = plain 0 0

abbrev pub content_in : List ℕ → Content
content_in b = content_read b (reading b)

-- bytes that are read
abbrev pub Readable : List ℕ → Type 0
Readable b = (e : Refusal) → reading b ≢ Err e

-- h is the record of the bytes b over the table of r, and each place that it refers to is the one that its id names
pub record Records (H : List ℕ → Id) (r : Round) (b : List ℕ) (h : Held) : Type 0 where
  pub readable : Readable b
  pub id : held_id h ≡ H b
  pub content : content_of (table_of r) h ≡ content_in b
  pub earlier : (j : ℕ) → j ∈ places h → j < r.held
  pub canonical : (j : ℕ) → j ∈ places h → place_of r (id_at r j) ≡ some j

-- what stays the same in every call
pub record Same (r s : Round) : Type 0 where
  pub graph : r.graph ≡ s.graph
  pub house : r.house ≡ s.house
  pub bay : r.bay ≡ s.bay
  pub own : r.own ≡ s.own

-- ---- a message becomes known: r before, s after
-- at the place p where it awaited its return
pub record Returns (r s : Round) (i : Id) : Type 0 where
  pub place : ℕ
  pub there : place_of r i ≡ some place
  pub awaited : T (not (is_known r place))
  pub held : s.held ≡ r.held
  pub table : table_of s ≡ table_of r
  pub known : (q : ℕ) → q < r.held → is_known s q ≡ (is_known r q || eqb q place)

-- or behind the others
pub record Appends (r s : Round) (h : Held) (k : Bool) : Type 0 where
  pub held : s.held ≡ r.held + 1
  pub table : table_of s ≡ table_of r ++ h ∷ []
  pub old : (q : ℕ) → q < r.held → is_known s q ≡ is_known r q
  pub new : is_known s r.held ≡ k

pub record Arrives (H : List ℕ → Id) (r s : Round) (b : List ℕ) : Type 0 where
  pub record' : Held
  pub records : Records H r b record'
  pub beneath : (j : ℕ) → j ∈ places record' → T (is_known r j)
  pub links : T (chained (node_by (tree (table_of r)) record'))
  pub forms : T (formed1b (node_by (tree (table_of r)) record'))
  pub same : Same r s
  pub last : named s s.last ≡ named r r.last
  pub how : Returns r s (H b) ⊎ ((place_of r (H b) ≡ none) × Appends r s record' true)

-- ---- then nothing is sent, or one message: s before, t after
pub record Silent (s t : Round) (o : Outcome) (reply : List ℕ) : Type 0 where
  pub outcome : o ≡ Ok None
  pub nothing : reply ≡ []
  pub held : t.held ≡ s.held
  pub table : table_of t ≡ table_of s
  pub known : (q : ℕ) → q < s.held → is_known t q ≡ is_known s q
  pub same : Same s t
  pub last : named t t.last ≡ named s s.last

pub record Sends (H : List ℕ → Id) (s t : Round) (o : Outcome) (reply : List ℕ) : Type 0 where
  pub outcome : o ≡ Ok (Some (length reply))
  pub voting : T (is_voting s)
  pub record' : Held
  pub is_vote : T (not (offered record'))
  pub records : Records H s reply record'
  pub names : Names reply (named s s.last)
  pub appends : Appends s t record' false
  pub same : Same s t
  pub last : named t t.last ≡ some (H reply)
  pub formed : T (well_formed (graph_of s) (node_by (tree (table_of s)) record'))

-- ---- the law of one delivery
pub record Step (H : List ℕ → Id) (r : Round) (b : List ℕ) (d : Effect) : Type 0 where
  pub between : Round
  pub arrives : Arrives H r between b
  pub answers : Silent between d.round d.outcome d.reply ⊎ Sends H between d.round d.outcome d.reply
  pub typed : Typed d.round
  pub fitting : T (fits d.round)

abbrev pub StepLaw : Type 0
StepLaw = (H : List ℕ → Id) → IdRule H → (r : Round) → Typed r → (b buffer : List ℕ)
    → ((e : Refusal) → (delivery H r b buffer).outcome ≢ Err e) → Step H r b (delivery H r b buffer)
