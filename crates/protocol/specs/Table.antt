-- A table of held messages. A record names its references by places, and references are to earlier places, so each place has a message,
-- the tree of the place.
use Rattle.std.specs.Prelude.{Bool, true, false, ◌||◌, List, [], ◌∷◌, ◌++◌, map, ℕ, zero, suc, ◌<◌, length, get_or, eqb}
use Rattle.std.proofs.Math.Option.{Option, none}
use Rattle.base.specs.Tests.{◌∈◌, any, below}
use Rattle.protocol.specs.Ids.{Id}
use Rattle.protocol.specs.Message.{Message, proposal, acceptor, Messages, nil, cons}

-- A proposal has its id, signer and ballot; an acceptor message its id, signer, previous id or none, and the places that it refers to.
pub data Held : Type 0 where
  offers : Id → ℕ → ℕ → Held
  says : Id → ℕ → Option Id → List ℕ → Held

abbrev pub Table : Type 0
Table = List Held

-- the record at a place; past the end, one that refers to nothing
unfoldable pub at : Table → ℕ → Held
at t i = get_or t i (offers [] 0 0)

-- the table of the first n records of f, as a struct of arrays gives them
unfoldable pub tabulate : ℕ → (ℕ → Held) → Table
tabulate zero f = []
tabulate (suc n) f = tabulate n f ++ f n ∷ []

-- ---- the fields of a record
unfoldable pub held_id : Held → Id
held_id (offers i s b) = i
held_id (says i s p r) = i

unfoldable pub held_signer : Held → ℕ
held_signer (offers i s b) = s
held_signer (says i s p r) = s

unfoldable pub held_previous : Held → Option Id
held_previous (offers i s b) = none
held_previous (says i s p r) = p

unfoldable pub offered : Held → Bool
offered (offers i s b) = true
offered (says i s p r) = false

unfoldable pub places : Held → List ℕ
places (offers i s b) = []
places (says i s p r) = r

-- references are to earlier places
abbrev pub Ordered : Table → Type 0
Ordered t = (i j : ℕ) → j ∈ places (at t i) → j < i

-- ---- the message at a place. As lrns, it is first given over the messages of the earlier places, and the knot is tied by a number
-- above the place, which does not matter: `TreeOfRecord` (Equations) says it without.
unfoldable pub gather : (ℕ → Message) → List ℕ → Messages
gather f [] = nil
gather f (j ∷ r) = cons (f j) (gather f r)

unfoldable pub node_by : (ℕ → Message) → Held → Message
node_by f (offers i s b) = proposal i s b
node_by f (says i s p r) = acceptor i s p (gather f r)

unfoldable pub tree_in : Table → ℕ → ℕ → Message
tree_in t zero i = proposal [] 0 0
tree_in t (suc k) i = node_by (tree_in t k) (at t i)

unfoldable pub tree : Table → ℕ → Message
tree t i = tree_in t (suc i) i

-- the messages at some places; those at all places
unfoldable pub messages : Table → List ℕ → List Message
messages t ks = map (tree t) ks

abbrev pub all_held : Table → List Message
all_held t = messages t (below (length t))

-- ---- place j is in Tran of place i: `TranOfPlace` (Equations); `ReachOfRecord` says it without the number
unfoldable pub reach_by : (ℕ → ℕ → Bool) → Held → ℕ → ℕ → Bool
reach_by R r i j = eqb i j || any (λ k. R k j) (places r)

unfoldable pub reach_in : Table → ℕ → ℕ → ℕ → Bool
reach_in t zero i j = false
reach_in t (suc k) i j = reach_by (reach_in t k) (at t i) i j

unfoldable pub reach : Table → ℕ → ℕ → Bool
reach t i j = reach_in t (suc i) i j

-- ---- what the bytes of a record say, its id apart: references by their ids and not by places
pub data Content : Type 0 where
  plain : ℕ → ℕ → Content
  joint : ℕ → Option Id → List Id → Content

unfoldable pub ids_at : Table → List ℕ → List Id
ids_at t r = map (λ k. held_id (at t k)) r

unfoldable pub content_of : Table → Held → Content
content_of t (offers i s b) = plain s b
content_of t (says i s p r) = joint s p (ids_at t r)

abbrev pub content : Table → ℕ → Content
content t i = content_of t (at t i)
