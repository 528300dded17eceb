-- The notes of the first n places of a round are right, and so are the indexes that they keep.
use Rattle.std.specs.Prelude.{◌≡◌, ◌⊎◌, List, ℕ, suc, ◌<◌}
use Rattle.base.specs.Tests.{◌∈◌}
use Rattle.graph.specs.declared.Graph.{Graph}
use Rattle.round.specs.Round.{Round}
use Rattle.round.specs.Limits.{no_place}
use Rattle.round.specs.Holdings.{graph_of}
use Rattle.roundbytes.specs.Layout.{round_in}
use Rattle.notes.specs.declared.Notes.{Notes}
use Rattle.notes.specs.Inside.Layout.{WordNotes, ByteNotes, word_notes, byte_notes}
use Rattle.notes.specs.Inside.Index.{Marks}
use Rattle.scan.specs.Inside.Arrays.{Named, IdsIndexed}
use Rattle.meaning.specs.Inside.Records.{table_to, Fit}
use Rattle.meaning.specs.Inside.Notes.{AllNoted}
use Rattle.meaning.specs.Inside.Lent.{Given}

pub record Complete (r : Round) (n : ℕ) (x : WordNotes) (y : ByteNotes) : Type 0 where
  -- the places have their names,
  pub named : Named r n y
  -- their notes are right,
  pub known : AllNoted (graph_of r) (table_to r n) r x y
  -- the index of the ids has them,
  pub ids : IdsIndexed r n x
  -- and so has the index of the places
  pub marked : Marks n r x y

-- ---- the notes x' and y' of the first p places, from those x and y of the first `from`
pub record Extended (r : Round) (from p : ℕ) (x x' : WordNotes) (y y' : ByteNotes) : Type 0 where
  -- the names stay,
  pub names : y'.names ≡ y.names
  -- and so does the index of the ids, in its low words
  pub idlow : x'.idlow ≡ x.idlow
  -- and in its high ones;
  pub idhigh : x'.idhigh ≡ x.idhigh
  -- the index has the places,
  pub marked : Marks p r x' y'
  -- and right notes stay right
  pub known : Named r r.held y → AllNoted (graph_of r) (table_to r from) r x y → AllNoted (graph_of r) (table_to r p) r x' y'

-- ---- the notes of the first n places of a round
abbrev pub WorkedTo : Round → ℕ → Notes → Type 0
WorkedTo r n notes = Complete r n (word_notes notes.words) (byte_notes notes.octets)

-- and those of all its messages
abbrev pub WorkedOut : Round → Notes → Type 0
WorkedOut r notes = WorkedTo r r.held notes

-- ---- a round that holds one message more than the n whose notes are right; none of these names it as its previous message
pub record OneMore (s : List ℕ) (graph : Graph) (notes : Notes) (n : ℕ) : Type 0 where
  -- the round and its graph are as the pass asks,
  pub given : Given s graph
  -- there is one message more,
  pub more : (round_in s).held ≡ suc n
  -- the others fit without it,
  pub before : Fit n (round_in s)
  -- and their notes are right
  pub complete : WorkedTo (round_in s) n notes

-- ---- what a new message is judged by: the notes of all held messages, and that it names places of these
pub record Judging (s : List ℕ) (graph : Graph) (notes : Notes) (previous : ℕ) (places : List ℕ) : Type 0 where
  -- the round and its graph are as the pass asks,
  pub given : Given s graph
  -- the notes of all held messages are right,
  pub complete : WorkedOut (round_in s) notes
  -- it refers to these,
  pub earlier : (j : ℕ) → j ∈ places → j < (round_in s).held
  -- and its previous message is none or held
  pub linked : (previous ≡ no_place) ⊎ (previous < (round_in s).held)
