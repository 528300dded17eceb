-- Where each field of the round in bytes stands. What is said of a round in bytes elsewhere cites these laws.
use mathlib.Core.Path.{◌≡◌, refl, ap, sym, ◌∙◌}
use mathlib.Core.List.{List, [], ◌∷◌}
use Prim.Native.Nat.{ℕ, zero, suc, ◌+◌, ◌*◌, ◌≤◌, ◌<◌}
use native.Mathlib.Decide.{dec_lt}
use native.Mathlib.Omega.{arith}
use lib.ListN.{length, get_or, get_or-append}
use lib.Seq.{get_or_at}
use Rattle.base.specs.Bytes.{be, part}
use Rattle.base.proofs.Cuts.{get_d_part, part_part}
use Rattle.graph.specs.Limits.{lists, max_masks}
use Rattle.message.specs.Layout.{id_len}
use Rattle.round.specs.Holdings.{id_at}
use Rattle.round.specs.Limits.{max_held}
use Rattle.roundbytes.specs.Layout.{list_counts_at, masks_at, house_at, bay_at, own_at, held_at, last_at, ids_at, kinds_at, signers_at, ballots_at, previous_at, counts_at, references_at, known_at, recent_at, round_len, numbers, round_in}
use Rattle.roundbytes.proofs.Typing.{numbers_length}

pub acceptors_in : (b : List ℕ) → (round_in b).graph.acceptors ≡ get_or b 0 0
unfolding round_in
acceptors_in b = refl

pub learners_in : (b : List ℕ) → (round_in b).graph.learners ≡ get_or b 1 0
unfolding round_in
learners_in b = refl

pub list_counts_in : (b : List ℕ) → (round_in b).graph.counts ≡ part lists b list_counts_at
unfolding round_in
list_counts_in b = refl

pub masks_in : (b : List ℕ) → (round_in b).graph.masks ≡ numbers 4 (max_masks * lists) b masks_at
unfolding round_in
masks_in b = refl

pub house_in : (b : List ℕ) → (round_in b).house ≡ be 2 b house_at
unfolding round_in
house_in b = refl

pub bay_in : (b : List ℕ) → (round_in b).bay ≡ be 2 b bay_at
unfolding round_in
bay_in b = refl

pub own_in : (b : List ℕ) → (round_in b).own ≡ be 2 b own_at
unfolding round_in
own_in b = refl

pub held_in_lem : (b : List ℕ) → (round_in b).held ≡ get_or b held_at 0
unfolding round_in
held_in_lem b = refl

pub last_in : (b : List ℕ) → (round_in b).last ≡ get_or b last_at 0
unfolding round_in
last_in b = refl

pub ids_in : (b : List ℕ) → (round_in b).ids ≡ part (id_len * max_held) b ids_at
unfolding round_in
ids_in b = refl

pub kinds_in : (b : List ℕ) → (round_in b).kinds ≡ part max_held b kinds_at
unfolding round_in
kinds_in b = refl

pub signers_in : (b : List ℕ) → (round_in b).signers ≡ part max_held b signers_at
unfolding round_in
signers_in b = refl

pub ballots_in : (b : List ℕ) → (round_in b).ballots ≡ numbers 8 max_held b ballots_at
unfolding round_in
ballots_in b = refl

pub previous_in_lem : (b : List ℕ) → (round_in b).previous ≡ part max_held b previous_at
unfolding round_in
previous_in_lem b = refl

pub counts_in : (b : List ℕ) → (round_in b).counts ≡ part max_held b counts_at
unfolding round_in
counts_in b = refl

pub references_in_lem : (b : List ℕ) → (round_in b).references ≡ part (max_held * max_held) b references_at
unfolding round_in
references_in_lem b = refl

pub known_in : (b : List ℕ) → (round_in b).known ≡ part max_held b known_at
unfolding round_in
known_in b = refl

pub recent_in : (b : List ℕ) → (round_in b).recent ≡ part max_held b recent_at
unfolding round_in
recent_in b = refl

-- ---- what stands at a place of a column
pub list_count_at : (b : List ℕ) (p : ℕ) → p < lists → get_or (round_in b).graph.counts p 0 ≡ get_or b (list_counts_at + p) 0
list_count_at b p h = ap (λ (l : List ℕ). get_or l p 0) (list_counts_in b) ∙ get_d_part (lists) b list_counts_at p h

pub kind_at : (b : List ℕ) (p : ℕ) → p < max_held → get_or (round_in b).kinds p 0 ≡ get_or b (kinds_at + p) 0
kind_at b p h = ap (λ (l : List ℕ). get_or l p 0) (kinds_in b) ∙ get_d_part (max_held) b kinds_at p h

pub signer_at_lem : (b : List ℕ) (p : ℕ) → p < max_held → get_or (round_in b).signers p 0 ≡ get_or b (signers_at + p) 0
signer_at_lem b p h = ap (λ (l : List ℕ). get_or l p 0) (signers_in b) ∙ get_d_part (max_held) b signers_at p h

pub previous_at_lem : (b : List ℕ) (p : ℕ) → p < max_held → get_or (round_in b).previous p 0 ≡ get_or b (previous_at + p) 0
previous_at_lem b p h = ap (λ (l : List ℕ). get_or l p 0) (previous_in_lem b) ∙ get_d_part (max_held) b previous_at p h

pub count_at_lem : (b : List ℕ) (p : ℕ) → p < max_held → get_or (round_in b).counts p 0 ≡ get_or b (counts_at + p) 0
count_at_lem b p h = ap (λ (l : List ℕ). get_or l p 0) (counts_in b) ∙ get_d_part (max_held) b counts_at p h

pub known_at_lem : (b : List ℕ) (p : ℕ) → p < max_held → get_or (round_in b).known p 0 ≡ get_or b (known_at + p) 0
known_at_lem b p h = ap (λ (l : List ℕ). get_or l p 0) (known_in b) ∙ get_d_part (max_held) b known_at p h

pub recent_at_lem : (b : List ℕ) (p : ℕ) → p < max_held → get_or (round_in b).recent p 0 ≡ get_or b (recent_at + p) 0
recent_at_lem b p h = ap (λ (l : List ℕ). get_or l p 0) (recent_in b) ∙ get_d_part (max_held) b recent_at p h

pub reference_at : (b : List ℕ) (p : ℕ) → p < max_held * max_held → get_or (round_in b).references p 0 ≡ get_or b (references_at + p) 0
reference_at b p h = ap (λ (l : List ℕ). get_or l p 0) (references_in_lem b) ∙ get_d_part (max_held * max_held) b references_at p h

-- the bytes of the ids, and the id of a place
pub id_byte_at : (b : List ℕ) (p : ℕ) → p < id_len * max_held → get_or (round_in b).ids p 0 ≡ get_or b (ids_at + p) 0
id_byte_at b p h = ap (λ (l : List ℕ). get_or l p 0) (ids_in b) ∙ get_d_part (id_len * max_held) b ids_at p h

-- the i-th of n numbers
numbers_at : (w n : ℕ) (s : List ℕ) (at i : ℕ) → i < n → get_or (numbers w n s at) i 0 ≡ be w s (at + w * i)
unfolding numbers
numbers_at w zero s at i h = absurd (omega arith)
numbers_at w (suc n) s at i h = step (λ l. numbers_at w n s at i l) (dec_lt i n)
  where
    front : List ℕ
    front = numbers w n s at

    step : (i < n → get_or front i 0 ≡ be w s (at + w * i)) → Dec (i < n) → get_or (numbers w (suc n) s at) i 0 ≡ be w s (at + w * i)
    step old (yes l) = get_or-append front (be w s (at + w * n) ∷ []) 0 i (omega (arith, numbers_length w n s at)) ∙ old l
    step old (no l) = let e : n ≡ i = omega arith in get_or_at front (be w s (at + w * n)) [] 0 i (numbers_length w n s at ∙ e) ∙ ap (λ (k : ℕ). be w s (at + w * k)) e

pub ballot_at_lem : (b : List ℕ) (p : ℕ) → p < max_held → get_or (round_in b).ballots p 0 ≡ be 8 b (ballots_at + 8 * p)
ballot_at_lem b p h = ap (λ (l : List ℕ). get_or l p 0) (ballots_in b) ∙ numbers_at 8 max_held b ballots_at p h

-- ---- the id of a place stands in the round's bytes, whole
pub id_within : (b : List ℕ) (p : ℕ) → round_len ≤ length b → p < max_held → ids_at + id_len * p + id_len ≤ length b
id_within b p n h = omega arith

pub id_at_lem : (b : List ℕ) (p : ℕ) → round_len ≤ length b → p < max_held → part id_len b (ids_at + id_len * p) ≡ id_at (round_in b) p
id_at_lem b p n h = sym (ap (λ (l : List ℕ). part id_len l (id_len * p)) (ids_in b) ∙ part_part id_len (id_len * max_held) b ids_at (id_len * p) (omega arith) (omega arith))
