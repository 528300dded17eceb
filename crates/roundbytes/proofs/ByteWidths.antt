-- The table of a round's fields is its layout, and its places have one byte each.
use mathlib.Core.Path.{◌≡◌, refl, sym, ap, ap₂, ◌∙◌}
use mathlib.Core.List.{List, [], ◌∷◌, ◌++◌}
use Prim.Native.Nat.{ℕ, zero, suc, ◌+◌, ◌*◌, ◌≤◌}
use native.Mathlib.Omega.{arith}
use lib.ListN.{length, get_or, drop, length-drop}
use lib.Seq.{take-suc, get_or-drop}
use Rattle.base.specs.Bytes.{be, part}
use Rattle.base.specs.Tests.{all, filter}
use Rattle.base.proofs.Bytes.{be1}
use Rattle.graph.specs.Limits.{lists, max_masks}
use Rattle.message.specs.Layout.{id_len}
use Rattle.round.specs.Limits.{max_held}
use Rattle.roundbytes.specs.Layout.{list_counts_at, masks_at, house_at, bay_at, own_at, held_at, last_at, ids_at, kinds_at, signers_at, ballots_at, previous_at, counts_at, references_at, known_at, recent_at, numbers, round_in}
use Rattle.roundbytes.specs.ByteWidths.{adjoin, FieldsAreTheLayout, FieldsAreWhole, PlacesInOneByte}

-- ---- what the checker computes
pub places_in_one_byte : PlacesInOneByte
unfolding filter all
places_in_one_byte = (refl, refl)

pub fields_are_whole : FieldsAreWhole
unfolding adjoin
fields_are_whole = refl

-- ---- the table is the layout
-- bytes are numbers of one byte each
bytes_numbers : (n : ℕ) (s : List ℕ) (at : ℕ) → at + n ≤ length s → part n s at ≡ numbers 1 n s at
unfolding numbers
bytes_numbers zero s at h = refl
bytes_numbers (suc n) s at h =
    let e : at + 1 * n ≡ at + n = omega arith in
    let x : get_or (drop at s) n 0 ≡ be 1 s (at + 1 * n) = get_or-drop at s n 0 ∙ sym (be1 s (at + 1 * n) ∙ ap (λ (k : ℕ). get_or s k 0) e) in
    take-suc (drop at s) n 0 (omega (arith, length-drop at s))
    ∙ ap₂ (λ (l : List ℕ) (y : ℕ). l ++ (y ∷ [])) (bytes_numbers n s at (omega arith)) x

-- a single number
single : (w : ℕ) (s : List ℕ) (at : ℕ) → be w s at ∷ [] ≡ numbers w 1 s at
unfolding numbers
single w s at = let e : at + w * 0 ≡ at = omega arith in sym (ap (λ (k : ℕ). be w s k ∷ []) e)

-- a single byte
alone : (s : List ℕ) (at : ℕ) → get_or s at 0 ∷ [] ≡ numbers 1 1 s at
alone s at = sym (ap (λ (x : ℕ). x ∷ []) (be1 s at)) ∙ single 1 s at

pub fields_are_the_layout : FieldsAreTheLayout
unfolding round_in
fields_are_the_layout b h =
    λ i.
    alone b 0 i
    ∷ alone b 1 i
    ∷ bytes_numbers lists b list_counts_at (omega arith) i
    ∷ numbers 4 (max_masks * lists) b masks_at
    ∷ single 2 b house_at i
    ∷ single 2 b bay_at i
    ∷ single 2 b own_at i
    ∷ alone b held_at i
    ∷ alone b last_at i
    ∷ bytes_numbers (id_len * max_held) b ids_at (omega arith) i
    ∷ bytes_numbers max_held b kinds_at (omega arith) i
    ∷ bytes_numbers max_held b signers_at (omega arith) i
    ∷ numbers 8 max_held b ballots_at
    ∷ bytes_numbers max_held b previous_at (omega arith) i
    ∷ bytes_numbers max_held b counts_at (omega arith) i
    ∷ bytes_numbers (max_held * max_held) b references_at (omega arith) i
    ∷ bytes_numbers max_held b known_at (omega arith) i
    ∷ bytes_numbers max_held b recent_at (omega arith) i
    ∷ []
