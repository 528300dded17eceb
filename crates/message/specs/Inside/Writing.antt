-- What the layers above hold to when they write an acceptor message.
use Rattle.std.specs.Prelude.{List, [], ◌++◌, ◌⊎◌, ◌≡◌, ℕ, zero, suc, ◌+◌, ◌*◌, ◌≤◌, ◌<◌, length, get_or}
use Rattle.base.specs.Bytes.{part}
use Rattle.message.specs.Layout.{id_len, most_references, acceptor_len}
use Rattle.message.specs.Writer.{has_previous}

-- the ids at the first n places of a list of places, out of a table of ids
unfoldable pub gathered : ℕ → List ℕ → List ℕ → List ℕ
gathered zero ids places = []
gathered (suc n) ids places = gathered n ids places ++ part id_len ids (id_len * get_or places n 0)

-- what is asked of them
pub record Writable (previous ids places buffer : List ℕ) (n : ℕ) : Type 0 where
  -- the previous id is none or whole,
  pub previous_id : (length previous ≡ 0) ⊎ (length previous ≡ id_len)
  -- there are no more references than one may have,
  pub most : n ≤ most_references
  -- each has its place in the array,
  pub listed : n ≤ length places
  -- which is one of the table's,
  pub within : (i : ℕ) → i < n → id_len * get_or places i 0 + id_len ≤ length ids
  -- and the message fits the buffer
  pub room : acceptor_len (has_previous previous) n ≤ length buffer
