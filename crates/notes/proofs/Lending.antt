-- The notes written in place: what is written into one column leaves the others as they were.
use mathlib.Core.Path.{◌≡◌, refl, sym, ap, ap₂, subst, transport, ◌∙◌}
use mathlib.Core.Bool.{Bool, ◌&&◌, ◌||◌}
use mathlib.Core.List.{List, [], ◌∷◌, ◌++◌}
use Prim.Native.Nat.{ℕ, ◌+◌, ◌≤◌, ◌<◌}
use native.Mathlib.Nat.{zero-add}
use native.Mathlib.Omega.{arith}
use lib.Dec.{T, eqb}
use lib.ListN.{length, get_or, take, drop, set, length-set}
use lib.Seq.{get_or-set_same, get_or-set_other}
use Rattle.base.specs.Bytes.{part, put_at}
use Rattle.base.proofs.Bytes.{part_length, put_at_whole}
use Rattle.base.proofs.Cuts.{length_put, put_mid, cut, start, one_into, cut_put, cut_set, cut_length, get_d_part, part_part}
use Rattle.round.specs.Limits.{max_held}
use Rattle.notes.specs.declared.Worked.{Worked}
use Rattle.places.specs.Inside.PlaceSets.{in_set, Grown}
use Rattle.notes.specs.Inside.Layout.{id_keys, keys, WordNotes, ByteNotes, high_at, fork_low_at, fork_high_at, tops_at, id_low_at, key_low_at, forked_at, words_len, name_slots, learners_at, fresh_at, forms_at, octets_len, word_notes, byte_notes}
use Rattle.notes.specs.Inside.Index.{Put}
use Rattle.notes.specs.Inside.Writing.{words_noted, bytes_noted, with_index, FiledIn, with_ids, IdFiled, with_name}

-- the parts of the two arrays: of the words the columns, the index of the ids, that of the places, and the forking places
abbrev ids_width : ℕ
ids_width = id_keys + id_keys

abbrev keys_width : ℕ
keys_width = keys + keys

abbrev word_widths : List ℕ
word_widths = max_held ∷ max_held ∷ max_held ∷ max_held ∷ max_held ∷ ids_width ∷ keys_width ∷ 2 ∷ []

abbrev octet_widths : List ℕ
octet_widths = name_slots ∷ max_held ∷ max_held ∷ max_held ∷ []

abbrev word_parts : List ℕ → List (List ℕ)
word_parts w = cut word_widths w 0

abbrev octet_parts : List ℕ → List (List ℕ)
octet_parts b = cut octet_widths b 0

abbrev words_of : List (List ℕ) → WordNotes
words_of w =
    record {
      low = get_or w 0 [];
      high = get_or w 1 [];
      forklow = get_or w 2 [];
      forkhigh = get_or w 3 [];
      tops = get_or w 4 [];
      idlow = part id_keys (get_or w 5 []) 0;
      idhigh = part id_keys (get_or w 5 []) id_keys;
      keylow = part keys (get_or w 6 []) 0;
      keyhigh = part keys (get_or w 6 []) keys;
      forkedlow = get_or (get_or w 7 []) 0 0;
      forkedhigh = get_or (get_or w 7 []) 1 0;
    }

abbrev bytes_of : List (List ℕ) → ByteNotes
bytes_of b = record { names = get_or b 0 []; learners = get_or b 1 []; fresh = get_or b 2 []; forms = get_or b 3 [] }

of_words : (w : List ℕ) → length w ≡ words_len → words_of (word_parts w) ≡ word_notes w
unfolding word_notes
of_words w h =
    let idlow = part_part id_keys ids_width w id_low_at 0 (omega arith) (omega arith) in
    let idhigh = part_part id_keys ids_width w id_low_at id_keys (omega arith) (omega arith) in
    let keylow = part_part keys keys_width w key_low_at 0 (omega arith) (omega arith) in
    let keyhigh = part_part keys keys_width w key_low_at keys (omega arith) (omega arith) in
    let forkedlow = get_d_part 2 w forked_at 0 (omega arith) in
    let forkedhigh = get_d_part 2 w forked_at 1 (omega arith) in
    let x = word_notes w in
    λ i.
    record {
      low = x.low;
      high = x.high;
      forklow = x.forklow;
      forkhigh = x.forkhigh;
      tops = x.tops;
      idlow = idlow i;
      idhigh = idhigh i;
      keylow = keylow i;
      keyhigh = keyhigh i;
      forkedlow = forkedlow i;
      forkedhigh = forkedhigh i;
    }

of_bytes : (b : List ℕ) → bytes_of (octet_parts b) ≡ byte_notes b
unfolding byte_notes
of_bytes b = refl

-- ---- what was worked out for place p, put down
module _ (w : List ℕ) (p : ℕ) (r : Worked) (lp : p < max_held) (hw : length w ≡ words_len) where
  abbrev w₁ : List ℕ
  w₁ = set w p r.beneath.low

  abbrev w₂ : List ℕ
  w₂ = set w₁ (high_at + p) r.beneath.high

  abbrev w₃ : List ℕ
  w₃ = set w₂ (fork_low_at + p) r.forks.low

  abbrev w₄ : List ℕ
  w₄ = set w₃ (fork_high_at + p) r.forks.high

  abbrev w₅ : List ℕ
  w₅ = set w₄ (tops_at + p) r.ballot

  n₁ : length w₁ ≡ words_len
  n₁ = length-set w p r.beneath.low ∙ hw

  n₂ : length w₂ ≡ words_len
  n₂ = length-set w₁ (high_at + p) r.beneath.high ∙ n₁

  n₃ : length w₃ ≡ words_len
  n₃ = length-set w₂ (fork_low_at + p) r.forks.low ∙ n₂

  n₄ : length w₄ ≡ words_len
  n₄ = length-set w₃ (fork_high_at + p) r.forks.high ∙ n₃

  n₅ : length w₅ ≡ words_len
  n₅ = length-set w₄ (tops_at + p) r.ballot ∙ n₄

  put_word : (s : List ℕ) (k x : ℕ) → length s ≡ words_len → p < get_or word_widths k 0 → 0 + start word_widths k + get_or word_widths k 0 ≤ words_len
      → word_parts (set s (0 + start word_widths k + p) x) ≡ one_into (word_parts s) k p x
  put_word s k x h l q = cut_set word_widths s 0 k p x l (omega arith)

  words_put : word_parts w₅ ≡ one_into (one_into (one_into (one_into (one_into (word_parts w) 0 p r.beneath.low) 1 p r.beneath.high) 2 p r.forks.low) 3 p r.forks.high) 4 p r.ballot
  words_put =
      put_word w₄ 4 r.ballot n₄ lp (omega arith)
      ∙ ap (λ (l : List (List ℕ)). one_into l 4 p r.ballot) (put_word w₃ 3 r.forks.high n₃ lp (omega arith)
      ∙ ap (λ (l : List (List ℕ)). one_into l 3 p r.forks.high) (put_word w₂ 2 r.forks.low n₂ lp (omega arith)
      ∙ ap (λ (l : List (List ℕ)). one_into l 2 p r.forks.low) (put_word w₁ 1 r.beneath.high n₁ lp (omega arith)
      ∙ ap (λ (l : List (List ℕ)). one_into l 1 p r.beneath.high) (ap (λ (j : ℕ). word_parts (set w j r.beneath.low)) (sym (zero-add p)) ∙ put_word w 0 r.beneath.low hw lp (omega arith)))))

  pub words_noted_lem : word_notes w₅ ≡ words_noted (word_notes w) r p
  words_noted_lem = sym (of_words w₅ n₅) ∙ ap words_of words_put ∙ ap (λ (x : WordNotes). words_noted x r p) (of_words w hw)

module _ (b : List ℕ) (p : ℕ) (r : Worked) (lp : p < max_held) (hb : length b ≡ octets_len) where
  abbrev b₁ : List ℕ
  b₁ = set b (learners_at + p) r.learners

  abbrev b₂ : List ℕ
  b₂ = set b₁ (fresh_at + p) r.fresh

  abbrev b₃ : List ℕ
  b₃ = set b₂ (forms_at + p) r.form

  m₁ : length b₁ ≡ octets_len
  m₁ = length-set b (learners_at + p) r.learners ∙ hb

  m₂ : length b₂ ≡ octets_len
  m₂ = length-set b₁ (fresh_at + p) r.fresh ∙ m₁

  put_octet : (s : List ℕ) (k x : ℕ) → length s ≡ octets_len → p < get_or octet_widths k 0 → 0 + start octet_widths k + get_or octet_widths k 0 ≤ octets_len
      → octet_parts (set s (0 + start octet_widths k + p) x) ≡ one_into (octet_parts s) k p x
  put_octet s k x h l q = cut_set octet_widths s 0 k p x l (omega arith)

  octets_put : octet_parts b₃ ≡ one_into (one_into (one_into (octet_parts b) 1 p r.learners) 2 p r.fresh) 3 p r.form
  octets_put =
      put_octet b₂ 3 r.form m₂ lp (omega arith)
      ∙ ap (λ (l : List (List ℕ)). one_into l 3 p r.form) (put_octet b₁ 2 r.fresh m₁ lp (omega arith)
      ∙ ap (λ (l : List (List ℕ)). one_into l 2 p r.fresh) (put_octet b 1 r.learners hb lp (omega arith)))

  pub bytes_noted_lem : byte_notes b₃ ≡ bytes_noted (byte_notes b) r p
  bytes_noted_lem = sym (of_bytes b₃) ∙ ap bytes_of octets_put ∙ ap (λ (y : ByteNotes). bytes_noted y r p) (of_bytes b)

-- ---- a name
pub name_put : (b : List ℕ) (i x : ℕ) → i < name_slots → length b ≡ octets_len → byte_notes (set b i x) ≡ with_name (byte_notes b) i x
name_put b i x l h =
    sym (of_bytes (set b i x)) ∙ ap bytes_of (ap (λ (j : ℕ). octet_parts (set b j x)) (sym (zero-add i)) ∙ cut_set octet_widths b 0 0 i x l (omega arith))
    ∙ ap (λ (y : ByteNotes). with_name y i x) (of_bytes b)

-- ---- a part of the words that was lent, put back: the index of the ids, or that of the places
module _ (w ks : List ℕ) (k from width : ℕ) (hw : length w ≡ words_len) (hk : length ks ≡ length (part width w from))
    (at : 0 + start word_widths k ≡ from) (wide : get_or word_widths k 0 ≡ width) (fits : from + width ≤ words_len) where
  abbrev back : List ℕ
  back = take from w ++ (ks ++ drop width (drop from w))

  long : length ks ≡ width
  long = hk ∙ part_length width w from (omega arith)

  back_put : back ≡ put_at w from ks
  back_put = put_mid w ks from width long

  pub back_long : length back ≡ words_len
  back_long = ap length back_put ∙ length_put w ks from (omega (arith, long)) ∙ hw

  part_whole : put_at (get_or (word_parts w) k []) 0 ks ≡ ks
  part_whole = put_at_whole (get_or (word_parts w) k []) ks (cut_length word_widths w 0 k (omega arith) ∙ wide ∙ sym long)

  pub back_parts : word_parts back ≡ set (word_parts w) k ks
  back_parts =
      ap word_parts back_put ∙ ap (λ (f : ℕ). word_parts (put_at w f ks)) (sym at ∙ zeroed)
      ∙ cut_put word_widths w ks 0 k 0 (omega (arith, long)) (omega arith) ∙ ap (set (word_parts w) k) part_whole
    where
      zeroed : 0 + start word_widths k ≡ 0 + start word_widths k + 0
      zeroed = omega arith

-- ---- the index of the ids, and what file_id leaves
module _ (w ks : List ℕ) (hw : length w ≡ words_len) (hk : length ks ≡ length (part ids_width w id_low_at)) where
  abbrev id_back : List ℕ
  id_back = take id_low_at w ++ (ks ++ drop ids_width (drop id_low_at w))

  pub id_long : length id_back ≡ words_len
  id_long = back_long w ks 5 id_low_at ids_width hw hk refl refl (omega arith)

  ids_put : word_notes id_back ≡ with_ids (word_notes w) (part id_keys ks 0) (part id_keys ks id_keys)
  ids_put =
      sym (of_words id_back id_long)
      ∙ ap words_of (back_parts w ks 5 id_low_at ids_width hw hk refl refl (omega arith))
      ∙ ap (λ (x : WordNotes). with_ids x (part id_keys ks 0) (part id_keys ks id_keys)) (of_words w hw)

  pub id_filed : (k j : ℕ) → Grown (part id_keys (part ids_width w id_low_at) 0) (part id_keys (part ids_width w id_low_at) id_keys) (part id_keys ks 0) (part id_keys ks id_keys)
      → T (in_set (get_or (part id_keys ks 0) k 0) (get_or (part id_keys ks id_keys) k 0) j) → IdFiled (word_notes w) (word_notes id_back) k j
  unfolding word_notes
  id_filed k j grown here =
      let low = part_part id_keys ids_width w id_low_at 0 (omega arith) (omega arith) in
      let high = part_part id_keys ids_width w id_low_at id_keys (omega arith) (omega arith) in
      let step : IdFiled (word_notes w) (with_ids (word_notes w) (part id_keys ks 0) (part id_keys ks id_keys)) k j =
      record {
        grown = transport (λ i. Grown (low i) (high i) (part id_keys ks 0) (part id_keys ks id_keys)) grown;
        here = here;
        rest = refl;
      } in
      subst (λ (z : WordNotes). IdFiled (word_notes w) z k j) (sym ids_put) step

-- ---- the index of the places and the forking places, and what file_place leaves
module _ (w ks : List ℕ) (hw : length w ≡ words_len) (hk : length ks ≡ length (part keys_width w key_low_at)) where
  abbrev key_back : List ℕ
  key_back = take key_low_at w ++ (ks ++ drop keys_width (drop key_low_at w))

  pub key_long : length key_back ≡ words_len
  key_long = back_long w ks 6 key_low_at keys_width hw hk refl refl (omega arith)

  key_parts : word_parts key_back ≡ set (word_parts w) 6 ks
  key_parts = back_parts w ks 6 key_low_at keys_width hw hk refl refl (omega arith)

  module _ (x y : ℕ) where
    abbrev done : List ℕ
    done = set (set key_back forked_at x) (forked_at + 1) y

    n₆ : length (set key_back forked_at x) ≡ words_len
    n₆ = length-set key_back forked_at x ∙ key_long

    n₇ : length done ≡ words_len
    n₇ = length-set (set key_back forked_at x) (forked_at + 1) y ∙ n₆

    done_parts : word_parts done ≡ one_into (one_into (set (word_parts w) 6 ks) 7 0 x) 7 1 y
    done_parts =
        cut_set word_widths (set key_back forked_at x) 0 7 1 y (omega arith) (omega (arith, n₆))
        ∙ ap (λ (l : List (List ℕ)). one_into l 7 1 y) (cut_set word_widths key_back 0 7 0 x (omega arith) (omega (arith, key_long)) ∙ ap (λ (l : List (List ℕ)). one_into l 7 0 x) key_parts)

    indexed : word_notes done ≡ with_index (word_notes w) (part keys ks 0) (part keys ks keys) x y
    indexed =
        let l = part 2 w forked_at in
        let two : length l ≡ 2 = part_length 2 w forked_at (omega arith) in
        let low : get_or (set (set l 0 x) 1 y) 0 0 ≡ x = get_or-set_other (set l 0 x) 1 0 y 0 (λ e. omega arith) ∙ get_or-set_same l 0 x 0 (omega arith) in
        let high : get_or (set (set l 0 x) 1 y) 1 0 ≡ y = get_or-set_same (set l 0 x) 1 y 0 (omega (arith, length-set l 0 x)) in
        sym (of_words done n₇) ∙ ap words_of done_parts ∙ ap₂ (with_index (words_of (word_parts w)) (part keys ks 0) (part keys ks keys)) low high
        ∙ ap (λ (z : WordNotes). with_index z (part keys ks 0) (part keys ks keys) x y) (of_words w hw)

  pub filed : (x y signer link ballot form p : ℕ) (forks : Bool)
      → Put (part keys (part keys_width w key_low_at) 0) (part keys (part keys_width w key_low_at) keys) (part keys ks 0) (part keys ks keys) signer link ballot form p
      → ((q : ℕ) → q < max_held → in_set x y q ≡ ((forks && eqb p q) || in_set (word_notes w).forkedlow (word_notes w).forkedhigh q))
      → FiledIn (word_notes w) (word_notes (done x y)) signer link ballot form forks p
  unfolding word_notes
  filed x y signer link ballot form p forks put more =
      let low = part_part keys keys_width w key_low_at 0 (omega arith) (omega arith) in
      let high = part_part keys keys_width w key_low_at keys (omega arith) (omega arith) in
      let step : FiledIn (word_notes w) (with_index (word_notes w) (part keys ks 0) (part keys ks keys) x y) signer link ballot form forks p =
      record {
        put = transport (λ i. Put (low i) (high i) (part keys ks 0) (part keys ks keys) signer link ballot form p) put;
        forked = more;
        rest = refl;
      } in
      subst (λ (z : WordNotes). FiledIn (word_notes w) z signer link ballot form forks p) (sym (indexed x y)) step
