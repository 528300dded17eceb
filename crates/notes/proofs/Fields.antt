-- Where each column of the notes stands in the two arrays, and how long it is. What is said of the notes elsewhere cites these laws.
use mathlib.Core.Path.{◌≡◌, refl, ap, ◌∙◌}
use mathlib.Core.List.{List}
use Prim.Native.Nat.{ℕ, ◌+◌, ◌<◌}
use native.Mathlib.Nat.{zero-add}
use native.Mathlib.Omega.{arith}
use lib.ListN.{length, get_or}
use Rattle.base.proofs.Bytes.{part_length}
use Rattle.base.proofs.Cuts.{get_d_part}
use Rattle.round.specs.Limits.{max_held}
use Rattle.notes.specs.Inside.Layout.{id_keys, keys, WordNotes, ByteNotes, high_at, fork_low_at, fork_high_at, tops_at, id_low_at, id_high_at, key_low_at, key_high_at, forked_at, words_len, name_slots, learners_at, fresh_at, forms_at, octets_len, word_notes, byte_notes}

-- ---- what stands at a place of a column
pub low_at : (w : List ℕ) (p : ℕ) → p < max_held → get_or (word_notes w).low p 0 ≡ get_or w p 0
unfolding word_notes
low_at w p h = get_d_part max_held w 0 p h ∙ ap (λ (k : ℕ). get_or w k 0) (zero-add p)

pub high_at_lem : (w : List ℕ) (p : ℕ) → p < max_held → get_or (word_notes w).high p 0 ≡ get_or w (high_at + p) 0
unfolding word_notes
high_at_lem w p h = get_d_part max_held w high_at p h

pub forklow_at : (w : List ℕ) (p : ℕ) → p < max_held → get_or (word_notes w).forklow p 0 ≡ get_or w (fork_low_at + p) 0
unfolding word_notes
forklow_at w p h = get_d_part max_held w fork_low_at p h

pub forkhigh_at : (w : List ℕ) (p : ℕ) → p < max_held → get_or (word_notes w).forkhigh p 0 ≡ get_or w (fork_high_at + p) 0
unfolding word_notes
forkhigh_at w p h = get_d_part max_held w fork_high_at p h

pub tops_at_lem : (w : List ℕ) (p : ℕ) → p < max_held → get_or (word_notes w).tops p 0 ≡ get_or w (tops_at + p) 0
unfolding word_notes
tops_at_lem w p h = get_d_part max_held w tops_at p h

pub idlow_at : (w : List ℕ) (p : ℕ) → p < id_keys → get_or (word_notes w).idlow p 0 ≡ get_or w (id_low_at + p) 0
unfolding word_notes
idlow_at w p h = get_d_part id_keys w id_low_at p h

pub idhigh_at : (w : List ℕ) (p : ℕ) → p < id_keys → get_or (word_notes w).idhigh p 0 ≡ get_or w (id_high_at + p) 0
unfolding word_notes
idhigh_at w p h = get_d_part id_keys w id_high_at p h

pub keylow_at : (w : List ℕ) (p : ℕ) → p < keys → get_or (word_notes w).keylow p 0 ≡ get_or w (key_low_at + p) 0
unfolding word_notes
keylow_at w p h = get_d_part keys w key_low_at p h

pub keyhigh_at : (w : List ℕ) (p : ℕ) → p < keys → get_or (word_notes w).keyhigh p 0 ≡ get_or w (key_high_at + p) 0
unfolding word_notes
keyhigh_at w p h = get_d_part keys w key_high_at p h

pub names_at : (b : List ℕ) (p : ℕ) → p < name_slots → get_or (byte_notes b).names p 0 ≡ get_or b p 0
unfolding byte_notes
names_at b p h = get_d_part name_slots b 0 p h ∙ ap (λ (k : ℕ). get_or b k 0) (zero-add p)

pub learners_at_lem : (b : List ℕ) (p : ℕ) → p < max_held → get_or (byte_notes b).learners p 0 ≡ get_or b (learners_at + p) 0
unfolding byte_notes
learners_at_lem b p h = get_d_part max_held b learners_at p h

pub fresh_at_lem : (b : List ℕ) (p : ℕ) → p < max_held → get_or (byte_notes b).fresh p 0 ≡ get_or b (fresh_at + p) 0
unfolding byte_notes
fresh_at_lem b p h = get_d_part max_held b fresh_at p h

pub forms_at_lem : (b : List ℕ) (p : ℕ) → p < max_held → get_or (byte_notes b).forms p 0 ≡ get_or b (forms_at + p) 0
unfolding byte_notes
forms_at_lem b p h = get_d_part max_held b forms_at p h

pub forkedlow_in : (w : List ℕ) → (word_notes w).forkedlow ≡ get_or w forked_at 0
unfolding word_notes
forkedlow_in w = refl

pub forkedhigh_in : (w : List ℕ) → (word_notes w).forkedhigh ≡ get_or w (forked_at + 1) 0
unfolding word_notes
forkedhigh_in w = refl

-- ---- the lengths of the columns
pub record WordRooms (x : WordNotes) : Type 0 where
  pub low : length x.low ≡ max_held
  pub high : length x.high ≡ max_held
  pub forklow : length x.forklow ≡ max_held
  pub forkhigh : length x.forkhigh ≡ max_held
  pub tops : length x.tops ≡ max_held
  pub idlow : length x.idlow ≡ id_keys
  pub idhigh : length x.idhigh ≡ id_keys
  pub keylow : length x.keylow ≡ keys
  pub keyhigh : length x.keyhigh ≡ keys

pub word_rooms : (w : List ℕ) → length w ≡ words_len → WordRooms (word_notes w)
unfolding word_notes
word_rooms w h =
    record {
      low = part_length max_held w 0 (omega arith);
      high = part_length max_held w high_at (omega arith);
      forklow = part_length max_held w fork_low_at (omega arith);
      forkhigh = part_length max_held w fork_high_at (omega arith);
      tops = part_length max_held w tops_at (omega arith);
      idlow = part_length id_keys w id_low_at (omega arith);
      idhigh = part_length id_keys w id_high_at (omega arith);
      keylow = part_length keys w key_low_at (omega arith);
      keyhigh = part_length keys w key_high_at (omega arith);
    }

pub record ByteRooms (y : ByteNotes) : Type 0 where
  pub names : length y.names ≡ name_slots
  pub learners : length y.learners ≡ max_held
  pub fresh : length y.fresh ≡ max_held
  pub forms : length y.forms ≡ max_held

pub byte_rooms : (b : List ℕ) → length b ≡ octets_len → ByteRooms (byte_notes b)
unfolding byte_notes
byte_rooms b h =
    record {
      names = part_length name_slots b 0 (omega arith);
      learners = part_length max_held b learners_at (omega arith);
      fresh = part_length max_held b fresh_at (omega arith);
      forms = part_length max_held b forms_at (omega arith);
    }
