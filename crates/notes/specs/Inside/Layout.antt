-- The notes of a round's places, in two arrays: one of words and one of bytes. For each place is noted what its message means.
use Rattle.std.specs.Prelude.{List, ℕ, ◌+◌, get_or}
use Rattle.base.specs.Bytes.{part}
use Rattle.round.specs.Limits.{max_held, no_place}

-- ---- how many keys ids have
abbrev pub id_keys : ℕ
id_keys = 32

-- the keys of the places (specs/Inside/Index), one kind behind the other: of signers, of links, of ballots and of forms
abbrev pub signer_keys : ℕ
signer_keys = 32

abbrev pub link_keys : ℕ
link_keys = 16

abbrev pub ballot_keys : ℕ
ballot_keys = 16

abbrev pub form_keys : ℕ
form_keys = 4

abbrev pub link_keys_at : ℕ
link_keys_at = signer_keys

abbrev pub ballot_keys_at : ℕ
ballot_keys_at = link_keys_at + link_keys

abbrev pub form_keys_at : ℕ
form_keys_at = ballot_keys_at + ballot_keys

abbrev pub keys : ℕ
keys = form_keys_at + form_keys

-- ---- the form of a message: a proposal, a 1b or a 2a
abbrev pub offer_form : ℕ
offer_form = 0

abbrev pub first_form : ℕ
first_form = 1

abbrev pub second_form : ℕ
second_form = 2

-- ---- in words, for each place: the places that it reaches and those before it that fork with it, each set as two words, and its ballot. Then
-- the places by the keys of their ids and by their own keys, and the places that fork with one before them.
pub record WordNotes : Type 0 where
  pub low : List ℕ
  pub high : List ℕ
  pub forklow : List ℕ
  pub forkhigh : List ℕ
  pub tops : List ℕ
  pub idlow : List ℕ
  pub idhigh : List ℕ
  pub keylow : List ℕ
  pub keyhigh : List ℕ
  pub forkedlow : ℕ
  pub forkedhigh : ℕ

-- ---- in bytes, for each place: the lowest one with its id (and for none, none); its learners, those that it is fresh for, and its form
pub record ByteNotes : Type 0 where
  pub names : List ℕ
  pub learners : List ℕ
  pub fresh : List ℕ
  pub forms : List ℕ

-- ---- where each column stands
abbrev pub high_at : ℕ
high_at = max_held

abbrev pub fork_low_at : ℕ
fork_low_at = high_at + max_held

abbrev pub fork_high_at : ℕ
fork_high_at = fork_low_at + max_held

abbrev pub tops_at : ℕ
tops_at = fork_high_at + max_held

abbrev pub id_low_at : ℕ
id_low_at = tops_at + max_held

abbrev pub id_high_at : ℕ
id_high_at = id_low_at + id_keys

abbrev pub key_low_at : ℕ
key_low_at = id_high_at + id_keys

abbrev pub key_high_at : ℕ
key_high_at = key_low_at + keys

abbrev pub forked_at : ℕ
forked_at = key_high_at + keys

abbrev pub words_len : ℕ
words_len = forked_at + 2

-- a name for each byte that can stand for a place or for none
abbrev pub name_slots : ℕ
name_slots = no_place + 1

abbrev pub learners_at : ℕ
learners_at = name_slots

abbrev pub fresh_at : ℕ
fresh_at = learners_at + max_held

abbrev pub forms_at : ℕ
forms_at = fresh_at + max_held

abbrev pub octets_len : ℕ
octets_len = forms_at + max_held

-- ---- the notes in the arrays. Shut, so that what is said of them stays short; proofs/Fields says of each column where it stands.
unfoldable pub word_notes : List ℕ → WordNotes
word_notes w =
    record {
      low = part max_held w 0;
      high = part max_held w high_at;
      forklow = part max_held w fork_low_at;
      forkhigh = part max_held w fork_high_at;
      tops = part max_held w tops_at;
      idlow = part id_keys w id_low_at;
      idhigh = part id_keys w id_high_at;
      keylow = part keys w key_low_at;
      keyhigh = part keys w key_high_at;
      forkedlow = get_or w forked_at 0;
      forkedhigh = get_or w (forked_at + 1) 0;
    }

unfoldable pub byte_notes : List ℕ → ByteNotes
byte_notes b =
    record {
      names = part name_slots b 0;
      learners = part max_held b learners_at;
      fresh = part max_held b fresh_at;
      forms = part max_held b forms_at;
    }
