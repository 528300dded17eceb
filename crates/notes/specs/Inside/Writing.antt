-- What is written into the notes: what was worked out for a place, the place among its keys, the names of the places.
use Rattle.std.specs.Prelude.{◌≡◌, Bool, ◌&&◌, ◌||◌, List, ℕ, ◌<◌, T, eqb, get_or, set}
use Rattle.places.specs.Inside.PlaceSets.{in_set, Grown}
use Rattle.notes.specs.declared.Worked.{Worked}
use Rattle.notes.specs.Inside.Layout.{WordNotes, ByteNotes}
use Rattle.notes.specs.Inside.Index.{Put}
use Rattle.round.specs.Limits.{max_held}

-- ---- the notes with what was worked out for place p
abbrev pub words_noted : WordNotes → Worked → ℕ → WordNotes
words_noted x r p =
    record {
      low = set x.low p r.beneath.low;
      high = set x.high p r.beneath.high;
      forklow = set x.forklow p r.forks.low;
      forkhigh = set x.forkhigh p r.forks.high;
      tops = set x.tops p r.ballot;
      idlow = x.idlow;
      idhigh = x.idhigh;
      keylow = x.keylow;
      keyhigh = x.keyhigh;
      forkedlow = x.forkedlow;
      forkedhigh = x.forkedhigh;
    }

abbrev pub bytes_noted : ByteNotes → Worked → ℕ → ByteNotes
bytes_noted y r p =
    record { names = y.names; learners = set y.learners p r.learners; fresh = set y.fresh p r.fresh; forms = set y.forms p r.form }

-- ---- the notes with another index and other forking places
abbrev pub with_index : WordNotes → List ℕ → List ℕ → ℕ → ℕ → WordNotes
with_index x keylow keyhigh forkedlow forkedhigh =
    record {
      low = x.low;
      high = x.high;
      forklow = x.forklow;
      forkhigh = x.forkhigh;
      tops = x.tops;
      idlow = x.idlow;
      idhigh = x.idhigh;
      keylow = keylow;
      keyhigh = keyhigh;
      forkedlow = forkedlow;
      forkedhigh = forkedhigh;
    }

-- place p is filed, and the notes x became x'
pub record FiledIn (x x' : WordNotes) (signer link ballot form : ℕ) (forks : Bool) (p : ℕ) : Type 0 where
  -- the place is put into the sets of its keys,
  pub put : Put x.keylow x.keyhigh x'.keylow x'.keyhigh signer link ballot form p
  -- and among the forking places where it is one;
  pub forked : (q : ℕ) → q < max_held → in_set x'.forkedlow x'.forkedhigh q ≡ ((forks && eqb p q) || in_set x.forkedlow x.forkedhigh q)
  -- nothing else is another
  pub rest : x' ≡ with_index x x'.keylow x'.keyhigh x'.forkedlow x'.forkedhigh

-- ---- the notes with another index of the ids
abbrev pub with_ids : WordNotes → List ℕ → List ℕ → WordNotes
with_ids x idlow idhigh =
    record {
      low = x.low;
      high = x.high;
      forklow = x.forklow;
      forkhigh = x.forkhigh;
      tops = x.tops;
      idlow = idlow;
      idhigh = idhigh;
      keylow = x.keylow;
      keyhigh = x.keyhigh;
      forkedlow = x.forkedlow;
      forkedhigh = x.forkedhigh;
    }

-- place j is filed under key k of the ids, and the notes x became x'
pub record IdFiled (x x' : WordNotes) (k j : ℕ) : Type 0 where
  -- what was in the sets of the ids is still there,
  pub grown : Grown x.idlow x.idhigh x'.idlow x'.idhigh
  -- the place is in that of the key,
  pub here : T (in_set (get_or x'.idlow k 0) (get_or x'.idhigh k 0) j)
  -- and nothing else is another
  pub rest : x' ≡ with_ids x x'.idlow x'.idhigh

-- ---- the notes with other names
abbrev pub with_names : ByteNotes → List ℕ → ByteNotes
with_names y names = record { names = names; learners = y.learners; fresh = y.fresh; forms = y.forms }

-- with another name of place i
abbrev pub with_name : ByteNotes → ℕ → ℕ → ByteNotes
with_name y i name = with_names y (set y.names i name)
