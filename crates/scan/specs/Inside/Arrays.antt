-- What the loops over the places of a round ask of a place j: r is the round, x and y are its notes, (low, high) is a set of places.
use Rattle.std.specs.Prelude.{◌≡◌, Bool, not, ◌&&◌, List, [], ◌∷◌, ℕ, ◌+◌, ◌*◌, ◌%◌, ◌≤◌, ◌<◌, max, eqb, get_or}
use Rattle.base.specs.Tests.{any}
use Rattle.message.specs.Layout.{id_len}
use Rattle.protocol.specs.Ids.{Id}
use Rattle.round.specs.Round.{Round}
use Rattle.round.specs.Limits.{max_held, no_place}
use Rattle.round.specs.Holdings.{id_at, is_proposal_at}
use Rattle.places.specs.Inside.PlaceSets.{in_set, meets, Indexed}
use Rattle.notes.specs.Inside.Layout.{id_keys, second_form, WordNotes, ByteNotes}
use Rattle.notes.specs.Inside.Index.{link_at}
use Rattle.notes.specs.Inside.Writing.{with_ids, with_name, with_names}

-- ---- the largest entry at some places
unfoldable pub highest : List ℕ → List ℕ → ℕ
highest tops [] = 0
highest tops (k ∷ l) = max (get_or tops k 0) (highest tops l)

-- ---- what lies beneath a message that refers to these places
pub record Beneath (r : Round) (x : WordNotes) (places : List ℕ) (setLow setHigh ballot : ℕ) (offered : Bool) : Type 0 where
  -- a set of places: all that one of them reaches,
  pub set : (q : ℕ) → q < max_held → in_set setLow setHigh q ≡ any (λ k. in_set (get_or x.low k 0) (get_or x.high k 0) q) places
  -- a ballot: the highest of theirs,
  pub top : ballot ≡ highest x.tops places
  -- and whether one of them holds a proposal
  pub offer : offered ≡ any (is_proposal_at r) places

-- ---- the record of j forks with an acceptor message of this signer, name and link. The name of a message is the lowest place with its id,
-- the link the name of its previous one, or none.
abbrev pub is_fork : Round → ByteNotes → ℕ → ℕ → ℕ → ℕ → Bool
is_fork r y signer name link j =
    not (is_proposal_at r j) && eqb (get_or r.signers j 0) signer && not (eqb (get_or y.names j 0) name) && eqb (link_at r y j) link

-- ---- j is in the set, and forks with another one there
abbrev pub is_caught : WordNotes → ℕ → ℕ → ℕ → Bool
is_caught x low high j = in_set low high j && meets low high (get_or x.forklow j 0) (get_or x.forkhigh j 0)

-- ---- j is in the set and holds an acceptor message of this ballot and another name
abbrev pub is_crowding : Round → WordNotes → ByteNotes → ℕ → ℕ → ℕ → ℕ → ℕ → Bool
is_crowding r x y low high name ballot j =
    in_set low high j && not (eqb (get_or y.names j 0) name) && eqb (get_or x.tops j 0) ballot && not (is_proposal_at r j)

-- ---- j holds a 2a of this name, ballot and learners
abbrev pub is_repeat : WordNotes → ByteNotes → ℕ → ℕ → ℕ → ℕ → Bool
is_repeat x y name ballot learners j =
    eqb (get_or y.names j 0) name && eqb (get_or y.forms j 0) second_form && eqb (get_or x.tops j 0) ballot && eqb (get_or y.learners j 0) learners

-- ---- k is the lowest of the first n places with an id, or n
pub record Lowest (r : Round) (n : ℕ) (id : Id) (k : ℕ) : Type 0 where
  -- it is n at most,
  pub bound : k ≤ n
  -- it has the id where it is less than n,
  pub here : k < n → id_at r k ≡ id
  -- and no place below it has
  pub first : (j : ℕ) → j < k → id_at r j ≡ id → ⊥

-- ---- the key of an id: the low bits of its first byte
abbrev pub id_key : List ℕ → ℕ → ℕ
id_key bytes at = get_or bytes at 0 % id_keys

-- each of the first n places is in the set of the key of its id
abbrev pub IdsIndexed : Round → ℕ → WordNotes → Type 0
IdsIndexed r n x = Indexed n (λ j. id_key r.ids (id_len * j)) x.idlow x.idhigh

-- of the first n places of a round
pub record IdsFiled (r : Round) (n : ℕ) (x : WordNotes) : Type 0 where
  -- a round has them,
  pub few : n ≤ max_held
  -- and each is in the set of the key of its id
  pub indexed : IdsIndexed r n x

-- ---- of the names of the first n places
pub record Named (r : Round) (n : ℕ) (y : ByteNotes) : Type 0 where
  -- none stands for itself,
  pub none : get_or y.names no_place 0 ≡ no_place
  -- and each place has the lowest one with its id
  pub each : (i : ℕ) → i < n → Lowest r i (id_at r i) (get_or y.names i 0)

-- ---- one place more has its name and is in the index of the ids; nothing else of the notes is another
pub record NamedMore (r : Round) (i name : ℕ) (x x' : WordNotes) (y y' : ByteNotes) : Type 0 where
  -- its name is the lowest place with its id,
  pub lowest : Lowest r i (id_at r i) name
  -- and is put among the names;
  pub named : y' ≡ with_name y i name
  -- it is in the index of the ids,
  pub indexed : IdsIndexed r (i + 1) x'
  -- and all else stays
  pub rest : x' ≡ with_ids x x'.idlow x'.idhigh

-- ---- the first n places have their names and are in the index of the ids; nothing else of the notes is another
pub record NamedAll (r : Round) (n : ℕ) (x x' : WordNotes) (y y' : ByteNotes) : Type 0 where
  -- the names are right,
  pub named : Named r n y'
  -- and so is the index of the ids;
  pub indexed : IdsIndexed r n x'
  -- of the words only that index is another,
  pub words : x' ≡ with_ids x x'.idlow x'.idhigh
  -- of the bytes only the names
  pub octets : y' ≡ with_names y y'.names
