-- Laws of the layout: numbers one behind the other; a round that is written reads back, and bytes that are read are written again.
use mathlib.Core.Path.{◌≡◌, refl, sym, ap, ap₂, ◌∙◌}
use mathlib.Core.List.{List, [], ◌∷◌, ◌++◌, append_assoc, append-nil}
use Prim.Native.Nat.{ℕ, zero, suc, ◌+◌, ◌*◌, ◌^◌, ◌≤◌, ◌<◌}
use native.Mathlib.Nat.{add_comm, mul-suc}
use native.Mathlib.Numerals.{add-one}
use native.Mathlib.Omega.{arith}
use lib.ListN.{length, get_or, take, drop, length-append}
use lib.Seq.{split_at, take-suc, take_all, take_at, drop_at, get_or_at, length-take-le}
use Rattle.base.specs.Bytes.{be, bytes, part, Octets}
use Rattle.base.proofs.Bytes.{bytes_length, part_suc, part_add, be_at, be_bytes, bytes_be}
use Rattle.graph.specs.declared.Graph.{Graph}
use Rattle.graph.specs.Limits.{lists, max_masks}
use Rattle.round.specs.Round.{Round}
use Rattle.roundbytes.specs.Layout.{house_at, words, numbers, graph_bytes, number_bytes, round_bytes, graph_in, round_in, Laid, RoundReadsBack, BytesWrittenBack, bay_at, own_at, held_at, last_at, ids_at, kinds_at, signers_at, ballots_at, previous_at, counts_at, references_at, known_at, recent_at, masks_at}
use Rattle.round.specs.Limits.{max_held}
use Rattle.message.specs.Layout.{id_len}

-- ---- numbers one behind the other
pub words_append : (w : ℕ) (a b : List ℕ) → words w (a ++ b) ≡ words w a ++ words w b
unfolding words
words_append w [] b = refl
words_append w (x ∷ a) b = ap (λ (y : List ℕ). bytes w x ++ y) (words_append w a b) ∙ sym (append_assoc (bytes w x) (words w a) (words w b))

pub words_snoc : (w : ℕ) (l : List ℕ) (x : ℕ) → words w (l ++ (x ∷ [])) ≡ words w l ++ bytes w x
unfolding words
words_snoc w l x = words_append w l (x ∷ []) ∙ ap (λ (y : List ℕ). words w l ++ y) (append-nil (bytes w x))

pub words_length : (w : ℕ) (l : List ℕ) → length (words w l) ≡ w * length l
unfolding words
words_length w [] = omega arith
words_length w (x ∷ l) = length-append (bytes w x) (words w l) ∙ ap₂ ◌+◌ (bytes_length w x) (words_length w l) ∙ add_comm w (w * length l) ∙ sym (mul-suc w (length l))

-- ---- how long the parts are
pub long : (a b : List ℕ) (m n : ℕ) → length a ≡ m → length b ≡ n → length (a ++ b) ≡ m + n
long a b m n e f = length-append a b ∙ ap₂ ◌+◌ e f

pub graph_long : (g : Graph) → length g.counts ≡ lists → length g.masks ≡ max_masks * lists → length (graph_bytes g) ≡ house_at
graph_long g n m =
    long ((g.acceptors ∷ g.learners ∷ []) ++ g.counts) (words 4 g.masks) masks_at (4 * (max_masks * lists)) (long (g.acceptors ∷ g.learners ∷ []) g.counts 2 lists refl n)
    (words_length 4 g.masks ∙ ap (λ (k : ℕ). 4 * k) m)

pub numbers_long : (house bay own held last : ℕ) → length (number_bytes house bay own held last) ≡ 8
unfolding bytes
numbers_long house bay own held last = refl

-- ---- bytes that are read are written again
grow : (at n m : ℕ) (s p v : List ℕ) → p ≡ part n s at → v ≡ part m s (at + n) → p ++ v ≡ part (n + m) s at
grow at n m s p v e f = ap₂ ◌++◌ e f ∙ sym (part_add n m s at)

two : (s : List ℕ) (at : ℕ) → at + 2 ≤ length s → get_or s at 0 ∷ get_or s (at + 1) 0 ∷ [] ≡ part 2 s at
two s at h =
    let e : at + 1 ≡ suc at = add-one at in
    ap (λ (k : ℕ). get_or s at 0 ∷ get_or s k 0 ∷ []) e ∙ sym (part_suc 1 s at (omega arith) ∙ ap (λ (x : List ℕ). get_or s at 0 ∷ x) (part_suc 0 s (suc at) (omega arith)))

words_numbers : (w n : ℕ) (s : List ℕ) (at : ℕ) → Octets s → at + w * n ≤ length s → words w (numbers w n s at) ≡ part (w * n) s at
unfolding words numbers
words_numbers w zero s at o h = let k : w * 0 ≡ 0 = omega arith in sym (ap (λ (n : ℕ). take n (drop at s)) k)
words_numbers w (suc n) s at o h =
    let k : w * suc n ≡ w * n + w = mul-suc w n in
    words_snoc w (numbers w n s at) (be w s (at + w * n)) ∙ ap₂ ◌++◌ (words_numbers w n s at o (omega arith)) (bytes_be w s (at + w * n) o (omega arith))
    ∙ sym (ap (λ (m : ℕ). part m s at) k ∙ part_add (w * n) w s at)

pub bytes_written_back : BytesWrittenBack
unfolding round_in
bytes_written_back s o h =
    let b₂ : (at : ℕ) → at + 2 ≤ length s → bytes 2 (be 2 s at) ≡ part 2 s at = λ at k. bytes_be 2 s at o k in
    let g₁ = grow 0 2 lists s (get_or s 0 0 ∷ get_or s 1 0 ∷ []) (part lists s 2) (two s 0 (omega arith)) refl in
    let g = grow 0 masks_at (4 * (max_masks * lists)) s ((get_or s 0 0 ∷ get_or s 1 0 ∷ []) ++ part lists s 2) (words 4 (numbers 4 (max_masks * lists) s masks_at)) g₁ (words_numbers 4 (max_masks * lists) s masks_at o (omega arith)) in
    let n₁ = grow house_at 2 2 s (bytes 2 (be 2 s house_at)) (bytes 2 (be 2 s bay_at)) (b₂ house_at (omega arith)) (b₂ bay_at (omega arith)) in
    let n₂ = grow house_at 4 2 s (bytes 2 (be 2 s house_at) ++ bytes 2 (be 2 s bay_at)) (bytes 2 (be 2 s own_at)) n₁ (b₂ own_at (omega arith)) in
    let n₃ = grow house_at 6 2 s (bytes 2 (be 2 s house_at) ++ bytes 2 (be 2 s bay_at) ++ bytes 2 (be 2 s own_at)) (get_or s held_at 0 ∷ get_or s last_at 0 ∷ []) n₂ (two s held_at (omega arith)) in
    let r = round_in s in
    let x = graph_bytes (graph_in s) in
    let n = number_bytes r.house r.bay r.own r.held r.last in
    let e₁ = grow 0 house_at 8 s x n g n₃ in
    let e₂ = grow 0 ids_at (id_len * max_held) s (x ++ n) r.ids e₁ refl in
    let e₃ = grow 0 kinds_at max_held s (x ++ n ++ r.ids) r.kinds e₂ refl in
    let e₄ = grow 0 signers_at max_held s (x ++ n ++ r.ids ++ r.kinds) r.signers e₃ refl in
    let e₅ = grow 0 ballots_at 1024 s (x ++ n ++ r.ids ++ r.kinds ++ r.signers) (words 8 r.ballots) e₄ (words_numbers 8 max_held s ballots_at o (omega arith)) in
    let e₆ = grow 0 previous_at max_held s (x ++ n ++ r.ids ++ r.kinds ++ r.signers ++ words 8 r.ballots) r.previous e₅ refl in
    let e₇ = grow 0 counts_at max_held s (x ++ n ++ r.ids ++ r.kinds ++ r.signers ++ words 8 r.ballots ++ r.previous) r.counts e₆ refl in
    let e₈ = grow 0 references_at (max_held * max_held) s (x ++ n ++ r.ids ++ r.kinds ++ r.signers ++ words 8 r.ballots ++ r.previous ++ r.counts) r.references e₇ refl in
    let e₉ = grow 0 known_at max_held s (x ++ n ++ r.ids ++ r.kinds ++ r.signers ++ words 8 r.ballots ++ r.previous ++ r.counts ++ r.references) r.known e₈ refl in
    grow 0 recent_at max_held s (x ++ n ++ r.ids ++ r.kinds ++ r.signers ++ words 8 r.ballots ++ r.previous ++ r.counts ++ r.references ++ r.known) r.recent e₉ refl

-- ---- a round that was written is read back
-- what stands between p and t
between : (p v t : List ℕ) (at n : ℕ) → length p ≡ at → length v ≡ n → part n (p ++ (v ++ t)) at ≡ v
between p v t at n e f = ap (take n) (drop_at p (v ++ t) at e) ∙ take_at v t n f

numbers_take : (w : ℕ) (l p t : List ℕ) (at : ℕ) → length p ≡ at → ((i : ℕ) → get_or l i 0 < 256 ^ w) → (n : ℕ) → n ≤ length l → numbers w n (p ++ (words w l ++ t)) at ≡ take n l
unfolding numbers words
numbers_take w l p t at e f zero h = refl
numbers_take w l p t at e f (suc n) h =
    let x = get_or l n 0 in
    let a = words w (take n l) in
    let q = words w (drop (suc n) l) ++ t in
    let s = p ++ (words w l ++ t) in
    let g : words w l ≡ a ++ (bytes w x ++ words w (drop (suc n) l)) = ap (words w) (split_at l n 0 (omega arith)) ∙ words_append w (take n l) (x ∷ drop (suc n) l) in
    let k : s ≡ p ++ a ++ (bytes w x ++ q) = ap (λ (y : List ℕ). p ++ (y ++ t)) g ∙ simp append_assoc in
    let j : length (p ++ a) ≡ at + w * n = long p a at (w * n) e (words_length w (take n l) ∙ ap (λ (m : ℕ). w * m) (length-take-le n l (omega arith))) in
    let y : be w s (at + w * n) ≡ x = ap (λ (z : List ℕ). be w z (at + w * n)) k ∙ be_at w (p ++ a) (bytes w x ++ q) (at + w * n) j ∙ be_bytes w x q (f n) in
    ap₂ (λ (u : List ℕ) (v : ℕ). u ++ (v ∷ [])) (numbers_take w l p t at e f n (omega arith)) y ∙ sym (take-suc l n 0 (omega arith))

numbers_words : (w : ℕ) (l p t : List ℕ) (at n : ℕ) → length p ≡ at → length l ≡ n → ((i : ℕ) → get_or l i 0 < 256 ^ w) → numbers w n (p ++ (words w l ++ t)) at ≡ l
numbers_words w l p t at n e k f = numbers_take w l p t at e f n (omega arith) ∙ take_all n l (omega arith)

module _ (r : Round) (t : List ℕ) (h : Laid r) where
  -- all in front of a field, from the graph on
  abbrev graph° : List ℕ
  graph° = graph_bytes r.graph

  abbrev numbers° : List ℕ
  numbers° = graph° ++ number_bytes r.house r.bay r.own r.held r.last

  abbrev ids° : List ℕ
  ids° = numbers° ++ r.ids

  abbrev kinds° : List ℕ
  kinds° = ids° ++ r.kinds

  abbrev signers° : List ℕ
  signers° = kinds° ++ r.signers

  abbrev ballots° : List ℕ
  ballots° = signers° ++ words 8 r.ballots

  abbrev previous° : List ℕ
  previous° = ballots° ++ r.previous

  abbrev counts° : List ℕ
  counts° = previous° ++ r.counts

  abbrev references° : List ℕ
  references° = counts° ++ r.references

  abbrev known° : List ℕ
  known° = references° ++ r.known

  -- all from a field on
  abbrev °recent : List ℕ
  °recent = r.recent ++ t

  abbrev °known : List ℕ
  °known = r.known ++ °recent

  abbrev °references : List ℕ
  °references = r.references ++ °known

  abbrev °counts : List ℕ
  °counts = r.counts ++ °references

  abbrev °previous : List ℕ
  °previous = r.previous ++ °counts

  abbrev °ballots : List ℕ
  °ballots = words 8 r.ballots ++ °previous

  abbrev °signers : List ℕ
  °signers = r.signers ++ °ballots

  abbrev °kinds : List ℕ
  °kinds = r.kinds ++ °signers

  abbrev °ids : List ℕ
  °ids = r.ids ++ °kinds

  abbrev °numbers : List ℕ
  °numbers = number_bytes r.house r.bay r.own r.held r.last ++ °ids

  -- the bytes, parted in front of a field
  abbrev all : List ℕ
  all = round_bytes r ++ t

  at_recent : all ≡ known° ++ °recent
  at_recent = append_assoc known° r.recent t

  at_known : all ≡ references° ++ °known
  at_known = at_recent ∙ append_assoc references° r.known °recent

  at_references : all ≡ counts° ++ °references
  at_references = at_known ∙ append_assoc counts° r.references °known

  at_counts : all ≡ previous° ++ °counts
  at_counts = at_references ∙ append_assoc previous° r.counts °references

  at_previous : all ≡ ballots° ++ °previous
  at_previous = at_counts ∙ append_assoc ballots° r.previous °counts

  at_ballots : all ≡ signers° ++ °ballots
  at_ballots = at_previous ∙ append_assoc signers° (words 8 r.ballots) °previous

  at_signers : all ≡ kinds° ++ °signers
  at_signers = at_ballots ∙ append_assoc kinds° r.signers °ballots

  at_kinds : all ≡ ids° ++ °kinds
  at_kinds = at_signers ∙ append_assoc ids° r.kinds °signers

  at_ids : all ≡ numbers° ++ °ids
  at_ids = at_kinds ∙ append_assoc numbers° r.ids °kinds

  at_numbers : all ≡ graph° ++ °numbers
  at_numbers = at_ids ∙ append_assoc graph° (number_bytes r.house r.bay r.own r.held r.last) °ids

  -- how long what stands in front is
  long_graph : length graph° ≡ house_at
  long_graph = graph_long r.graph h.sized.list_counts h.sized.masks

  long_numbers : length numbers° ≡ ids_at
  long_numbers = long graph° (number_bytes r.house r.bay r.own r.held r.last) house_at 8 long_graph (numbers_long r.house r.bay r.own r.held r.last)

  long_ids : length ids° ≡ kinds_at
  long_ids = long numbers° r.ids ids_at (id_len * max_held) long_numbers h.sized.ids

  long_kinds : length kinds° ≡ signers_at
  long_kinds = long ids° r.kinds kinds_at max_held long_ids h.sized.kinds

  long_signers : length signers° ≡ ballots_at
  long_signers = long kinds° r.signers signers_at max_held long_kinds h.sized.signers

  long_ballots : length ballots° ≡ previous_at
  long_ballots = long signers° (words 8 r.ballots) ballots_at 1024 long_signers (words_length 8 r.ballots ∙ ap (λ (k : ℕ). 8 * k) h.sized.ballots)

  long_previous : length previous° ≡ counts_at
  long_previous = long ballots° r.previous previous_at max_held long_ballots h.sized.previous

  long_counts : length counts° ≡ references_at
  long_counts = long previous° r.counts counts_at max_held long_previous h.sized.counts

  long_references : length references° ≡ known_at
  long_references = long counts° r.references references_at (max_held * max_held) long_counts h.sized.references

  long_known : length known° ≡ recent_at
  long_known = long references° r.known known_at max_held long_references h.sized.known

  -- ---- each field
  read_part : (n at : ℕ) (p v q : List ℕ) → all ≡ p ++ (v ++ q) → length p ≡ at → length v ≡ n → part n all at ≡ v
  read_part n at p v q e f k = ap (λ (x : List ℕ). part n x at) e ∙ between p v q at n f k

  read_number_lem : (at x : ℕ) (p q : List ℕ) → all ≡ p ++ (bytes 2 x ++ q) → length p ≡ at → x < 256 ^ 2 → be 2 all at ≡ x
  read_number_lem at x p q e f k = ap (λ (y : List ℕ). be 2 y at) e ∙ be_at 2 p (bytes 2 x ++ q) at f ∙ be_bytes 2 x q k

  read_byte : (at x : ℕ) (p q : List ℕ) → all ≡ p ++ x ∷ q → length p ≡ at → get_or all at 0 ≡ x
  read_byte at x p q e f = ap (λ (y : List ℕ). get_or y at 0) e ∙ get_or_at p x q 0 at f

  -- the numbers between the graph and the ids
  at_bay : all ≡ graph° ++ bytes 2 r.house ++ (bytes 2 r.bay ++ (bytes 2 r.own ++ r.held ∷ r.last ∷ °ids))
  unfolding bytes
  at_bay = at_numbers ∙ sym (append_assoc graph° (bytes 2 r.house) (bytes 2 r.bay ++ (bytes 2 r.own ++ r.held ∷ r.last ∷ °ids)))

  at_own : all ≡ graph° ++ bytes 2 r.house ++ bytes 2 r.bay ++ (bytes 2 r.own ++ r.held ∷ r.last ∷ °ids)
  at_own = at_bay ∙ sym (append_assoc (graph° ++ bytes 2 r.house) (bytes 2 r.bay) (bytes 2 r.own ++ r.held ∷ r.last ∷ °ids))

  at_held : all ≡ graph° ++ bytes 2 r.house ++ bytes 2 r.bay ++ bytes 2 r.own ++ r.held ∷ r.last ∷ °ids
  at_held = at_own ∙ sym (append_assoc (graph° ++ bytes 2 r.house ++ bytes 2 r.bay) (bytes 2 r.own) (r.held ∷ r.last ∷ °ids))

  at_last : all ≡ graph° ++ bytes 2 r.house ++ bytes 2 r.bay ++ bytes 2 r.own ++ (r.held ∷ []) ++ r.last ∷ °ids
  at_last = at_held ∙ sym (append_assoc (graph° ++ bytes 2 r.house ++ bytes 2 r.bay ++ bytes 2 r.own) (r.held ∷ []) (r.last ∷ °ids))

  at_house : all ≡ graph° ++ (bytes 2 r.house ++ (bytes 2 r.bay ++ (bytes 2 r.own ++ r.held ∷ r.last ∷ °ids)))
  at_house = at_bay ∙ append_assoc graph° (bytes 2 r.house) (bytes 2 r.bay ++ (bytes 2 r.own ++ r.held ∷ r.last ∷ °ids))

  long_bay : length (graph° ++ bytes 2 r.house) ≡ bay_at
  long_bay = long graph° (bytes 2 r.house) house_at 2 long_graph (bytes_length 2 r.house)

  long_own : length (graph° ++ bytes 2 r.house ++ bytes 2 r.bay) ≡ own_at
  long_own = long (graph° ++ bytes 2 r.house) (bytes 2 r.bay) bay_at 2 long_bay (bytes_length 2 r.bay)

  long_held : length (graph° ++ bytes 2 r.house ++ bytes 2 r.bay ++ bytes 2 r.own) ≡ held_at
  long_held = long (graph° ++ bytes 2 r.house ++ bytes 2 r.bay) (bytes 2 r.own) own_at 2 long_own (bytes_length 2 r.own)

  long_last : length (graph° ++ bytes 2 r.house ++ bytes 2 r.bay ++ bytes 2 r.own ++ (r.held ∷ [])) ≡ last_at
  long_last = long (graph° ++ bytes 2 r.house ++ bytes 2 r.bay ++ bytes 2 r.own) (r.held ∷ []) held_at 1 long_held refl

  -- the graph
  abbrev front : List ℕ
  front = r.graph.acceptors ∷ r.graph.learners ∷ []

  at_masks : all ≡ front ++ r.graph.counts ++ (words 4 r.graph.masks ++ °numbers)
  at_masks = at_numbers ∙ append_assoc (front ++ r.graph.counts) (words 4 r.graph.masks) °numbers

  long_masks : length (front ++ r.graph.counts) ≡ masks_at
  long_masks = long front r.graph.counts 2 lists refl h.sized.list_counts

  graph_back : graph_in all ≡ r.graph
  graph_back =
      let a : get_or all 0 0 ≡ r.graph.acceptors = ap (λ (x : List ℕ). get_or x 0 0) at_masks in
      let l : get_or all 1 0 ≡ r.graph.learners = ap (λ (x : List ℕ). get_or x 1 0) at_masks in
      let c = read_part lists 2 front r.graph.counts (words 4 r.graph.masks ++ °numbers) (at_masks ∙ append_assoc front r.graph.counts (words 4 r.graph.masks ++ °numbers)) refl h.sized.list_counts in
      let m : numbers 4 (max_masks * lists) all masks_at ≡ r.graph.masks =
      ap (λ (x : List ℕ). numbers 4 (max_masks * lists) x masks_at) at_masks ∙ numbers_words 4 r.graph.masks (front ++ r.graph.counts) °numbers masks_at (max_masks * lists) long_masks h.sized.masks h.mask_fits in
      λ i. record { acceptors = a i; learners = l i; counts = c i; masks = m i }

  ballots_back : numbers 8 max_held all ballots_at ≡ r.ballots
  ballots_back = ap (λ (x : List ℕ). numbers 8 max_held x ballots_at) at_ballots ∙ numbers_words 8 r.ballots signers° °previous ballots_at max_held long_signers h.sized.ballots h.ballot_fits

  back : round_in all ≡ r
  unfolding round_in
  back =
      let house = read_number_lem house_at r.house graph° (bytes 2 r.bay ++ (bytes 2 r.own ++ r.held ∷ r.last ∷ °ids)) at_house long_graph h.house_fits in
      let bay = read_number_lem bay_at r.bay (graph° ++ bytes 2 r.house) (bytes 2 r.own ++ r.held ∷ r.last ∷ °ids) at_bay long_bay h.bay_fits in
      let own = read_number_lem own_at r.own (graph° ++ bytes 2 r.house ++ bytes 2 r.bay) (r.held ∷ r.last ∷ °ids) at_own long_own h.own_fits in
      let held = read_byte held_at r.held (graph° ++ bytes 2 r.house ++ bytes 2 r.bay ++ bytes 2 r.own) (r.last ∷ °ids) at_held long_held in
      let last = read_byte last_at r.last (graph° ++ bytes 2 r.house ++ bytes 2 r.bay ++ bytes 2 r.own ++ (r.held ∷ [])) °ids at_last long_last in
      let ids = read_part (id_len * max_held) ids_at numbers° r.ids °kinds at_ids long_numbers h.sized.ids in
      let kinds = read_part max_held kinds_at ids° r.kinds °signers at_kinds long_ids h.sized.kinds in
      let signers = read_part max_held signers_at kinds° r.signers °ballots at_signers long_kinds h.sized.signers in
      let previous = read_part max_held previous_at ballots° r.previous °counts at_previous long_ballots h.sized.previous in
      let counts = read_part max_held counts_at previous° r.counts °references at_counts long_previous h.sized.counts in
      let references = read_part (max_held * max_held) references_at counts° r.references °known at_references long_counts h.sized.references in
      let known = read_part max_held known_at references° r.known °recent at_known long_references h.sized.known in
      let recent = read_part max_held recent_at known° r.recent t at_recent long_known h.sized.recent in
      λ i.
      record {
        graph = graph_back i;
        house = house i;
        bay = bay i;
        own = own i;
        held = held i;
        last = last i;
        ids = ids i;
        kinds = kinds i;
        signers = signers i;
        ballots = ballots_back i;
        previous = previous i;
        counts = counts i;
        references = references i;
        known = known i;
        recent = recent i;
      }

pub round_reads_back : RoundReadsBack
round_reads_back r t h = back r t h
