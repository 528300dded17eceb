-- A round's bytes written in place: what is put into one field leaves the others, and what stands behind the round, as they were.
use mathlib.Core.Path.{◌≡◌, refl, sym, ap, ap₂, ◌∙◌}
use mathlib.Core.List.{List, [], ◌∷◌, ◌++◌, append_assoc}
use Prim.Native.Nat.{ℕ, zero, suc, ◌+◌, ◌*◌, ◌^◌, ◌≤◌, ◌<◌}
use native.Mathlib.Nat.{add-zero, add_assoc, mul-suc, not-suc-le-zero}
use native.Mathlib.Decide.{ℕ_discrete}
use native.Mathlib.Omega.{arith}
use lib.ListN.{length, get_or, take, drop, set}
use lib.Seq.{length-take-le, set_at, set-append_left}
use Rattle.base.specs.Bytes.{be, bytes, part, put_at}
use Rattle.base.proofs.Bytes.{bytes_length, be_at, be_bytes}
use Rattle.base.proofs.Cuts.{part_put_front, length_put, drop_behind, put_one, cut, start, into, one_into, cut_put, cut_set, get_d_part, part_part}
use Rattle.round.specs.Round.{Round}
use Rattle.roundbytes.specs.Layout.{numbers, graph_in, round_in, round_len, house_at, bay_at, own_at, held_at, last_at, ballots_at, masks_at}
use Rattle.roundbytes.specs.Inside.Keeping.{Kept}
use Rattle.roundbytes.proofs.Typing.{numbers_length}
use Rattle.graph.specs.Limits.{lists, max_masks}
use Rattle.round.specs.Limits.{max_held}
use Rattle.message.specs.Layout.{id_len}

-- ---- what is read in a part
be_part : (w n : ℕ) (s : List ℕ) (f at : ℕ) → at + w ≤ n → be w (part n s f) at ≡ be w s (f + at)
unfolding be
be_part zero n s f at h = refl
be_part (suc w) n s f at h =
    ap₂ (λ (x y : ℕ). x * 256 + y) (be_part w n s f at (omega arith)) (get_d_part n s f (at + w) (omega arith) ∙ ap (λ (k : ℕ). get_or s k 0) (sym (add_assoc f at w)))

numbers_part : (w k n : ℕ) (s : List ℕ) (f at : ℕ) → at + w * k ≤ n → numbers w k (part n s f) at ≡ numbers w k s (f + at)
unfolding numbers
numbers_part w zero n s f at h = refl
numbers_part w (suc k) n s f at h =
    let e : w * suc k ≡ w * k + w = mul-suc w k in
    ap₂ (λ (x : List ℕ) (y : ℕ). x ++ (y ∷ [])) (numbers_part w k n s f at (omega arith))
    (be_part w n s f (at + w * k) (omega arith) ∙ ap (be w s) (sym (add_assoc f at (w * k))))

-- ---- a number of eight bytes put among others
be_same : (s t : List ℕ) (f : ℕ) → part 8 t f ≡ part 8 s f → be 8 t f ≡ be 8 s f
be_same s t f e =
    let own : (x : List ℕ) → be 8 (part 8 x f) 0 ≡ be 8 x f = λ x. be_part 8 8 x f 0 (omega arith) ∙ ap (be 8 x) (add-zero f) in
    sym (own t) ∙ ap (λ (x : List ℕ). be 8 x 0) e ∙ own s

be_put : (l : List ℕ) (at x : ℕ) → at ≤ length l → x < 256 ^ 8 → be 8 (put_at l at (bytes 8 x)) at ≡ x
be_put l at x h k =
    let v = bytes 8 x in
    let t = drop (at + length v) l in
    ap (λ (y : List ℕ). be 8 y at) (append_assoc (take at l) v t) ∙ be_at 8 (take at l) (v ++ t) at (length-take-le at l h) ∙ be_bytes 8 x t k

module _ (l : List ℕ) (i x : ℕ) (fit : x < 256 ^ 8) where
  abbrev put : List ℕ
  put = put_at l (8 * i) (bytes 8 x)

  numbers_front : (n : ℕ) → n ≤ i → 8 * i ≤ length l → numbers 8 n put 0 ≡ numbers 8 n l 0
  unfolding numbers
  numbers_front zero h k = refl
  numbers_front (suc n) h k =
      ap₂ (λ (y : List ℕ) (z : ℕ). y ++ (z ∷ [])) (numbers_front n (omega arith) k) (be_same l put (0 + 8 * n) (part_put_front l (bytes 8 x) (8 * i) 8 (0 + 8 * n) (omega arith) k))

  pub numbers_put : (n : ℕ) → i < n → 8 * n ≤ length l → numbers 8 n put 0 ≡ set (numbers 8 n l 0) i x
  unfolding numbers
  numbers_put zero h k = absurd (not-suc-le-zero h)
  numbers_put (suc n) h k = go (λ a b. numbers_put n a b) (ℕ_discrete i n)
    where
      q : length (bytes 8 x) ≡ 8
      q = bytes_length 8 x

      go : (i < n → 8 * n ≤ length l → numbers 8 n put 0 ≡ set (numbers 8 n l 0) i x) → Dec (i ≡ n) → numbers 8 (suc n) put 0 ≡ set (numbers 8 (suc n) l 0) i x
      go rest (yes e) =
          let a = numbers 8 n l 0 in
          let y : be 8 put (0 + 8 * n) ≡ x = ap (λ (j : ℕ). be 8 put j) (omega arith) ∙ be_put l (8 * i) x (omega arith) fit in
          ap₂ (λ (u : List ℕ) (z : ℕ). u ++ (z ∷ [])) (numbers_front n (omega arith) (omega arith)) y
          ∙ sym (set_at a (be 8 l (0 + 8 * n)) [] x i (numbers_length 8 n l 0 ∙ sym e))
      go rest (no e) =
          let a = numbers 8 n l 0 in
          let b = q in
          ap₂ (λ (u : List ℕ) (z : ℕ). u ++ (z ∷ [])) (rest (omega arith) (omega arith)) (be_same l put (0 + 8 * n) (ap (take 8) (drop_behind l (bytes 8 x) (8 * i) (0 + 8 * n) (omega arith) (omega arith))))
          ∙ sym (set-append_left a (be 8 l (0 + 8 * n) ∷ []) i x (omega (arith, numbers_length 8 n l 0)))

-- ---- a round, of its parts: what stands in front of the count of held messages, that count, the last sent, and the columns
abbrev pub widths : List ℕ
widths = held_at ∷ 1 ∷ 1 ∷ (id_len * max_held) ∷ max_held ∷ max_held ∷ 1024 ∷ max_held ∷ max_held ∷ (max_held * max_held) ∷ max_held ∷ max_held ∷ []

abbrev pub parts : List ℕ → List (List ℕ)
parts s = cut widths s 0

abbrev pub round_of : List (List ℕ) → Round
round_of l =
    record {
      graph = graph_in (get_or l 0 []);
      house = be 2 (get_or l 0 []) house_at;
      bay = be 2 (get_or l 0 []) bay_at;
      own = be 2 (get_or l 0 []) own_at;
      held = get_or (get_or l 1 []) 0 0;
      last = get_or (get_or l 2 []) 0 0;
      ids = get_or l 3 [];
      kinds = get_or l 4 [];
      signers = get_or l 5 [];
      ballots = numbers 8 max_held (get_or l 6 []) 0;
      previous = get_or l 7 [];
      counts = get_or l 8 [];
      references = get_or l 9 [];
      known = get_or l 10 [];
      recent = get_or l 11 [];
    }

pub of_parts : (s : List ℕ) → round_len ≤ length s → round_of (parts s) ≡ round_in s
unfolding round_in
of_parts s h =
    let acceptors = get_d_part held_at s 0 0 (omega arith) in
    let learners = get_d_part held_at s 0 1 (omega arith) in
    let counts = part_part lists held_at s 0 2 (omega arith) (omega arith) in
    let masks = numbers_part 4 (max_masks * lists) held_at s 0 masks_at (omega arith) in
    let house = be_part 2 held_at s 0 house_at (omega arith) in
    let bay = be_part 2 held_at s 0 bay_at (omega arith) in
    let own = be_part 2 held_at s 0 own_at (omega arith) in
    let held = get_d_part 1 s held_at 0 (omega arith) in
    let last = get_d_part 1 s last_at 0 (omega arith) in
    let ballots = numbers_part 8 max_held 1024 s ballots_at 0 (omega arith) in
    let r = round_in s in
    λ i.
    record {
      graph = record { acceptors = acceptors i; learners = learners i; counts = counts i; masks = masks i };
      house = house i;
      bay = bay i;
      own = own i;
      held = held i;
      last = last i;
      ids = r.ids;
      kinds = r.kinds;
      signers = r.signers;
      ballots = ballots i;
      previous = r.previous;
      counts = r.counts;
      references = r.references;
      known = r.known;
      recent = r.recent;
    }

-- ---- a round's bytes s written to until they are t: its parts, and what stands behind it
pub record Written (s t : List ℕ) (l : List (List ℕ)) : Type 0 where
  pub parted : parts t ≡ l
  pub kept : Kept s t

pub unwritten : (s : List ℕ) → Written s s (parts s)
unwritten s = record { parted = refl; kept = (refl, refl) }

-- bytes put into part k, from i on
pub put_next : (s t u v : List ℕ) {l : List (List ℕ)} (k i : ℕ) → round_len ≤ length s → Written s t l → u ≡ put_at t (0 + start widths k + i) v → i + length v ≤ get_or widths k 0
    → 0 + start widths k + get_or widths k 0 ≤ round_len → Written s u (into l k i v)
put_next s t u v k i n w e h q =
    let m : length t ≡ length s = w.kept.0 in
    let at = 0 + start widths k + i in
    record {
      parted = ap parts e ∙ cut_put widths t v 0 k i h (omega arith) ∙ ap (λ (x : List (List ℕ)). into x k i v) w.parted;
      kept = (ap length e ∙ length_put t v at (omega arith) ∙ m, ap (drop round_len) e ∙ drop_behind t v at round_len (omega arith) (omega arith) ∙ w.kept.1);
    }

-- one byte
pub one_next : (s t u : List ℕ) {l : List (List ℕ)} (k i x : ℕ) → round_len ≤ length s → Written s t l → u ≡ put_at t (0 + start widths k + i) (x ∷ []) → i < get_or widths k 0
    → 0 + start widths k + get_or widths k 0 ≤ round_len → Written s u (one_into l k i x)
one_next s t u k i x n w e h q =
    let m : length t ≡ length s = w.kept.0 in
    record {
      parted = ap parts (e ∙ put_one t (0 + start widths k + i) x (omega arith)) ∙ cut_set widths t 0 k i x h (omega arith) ∙ ap (λ (y : List (List ℕ)). one_into y k i x) w.parted;
      kept = (put_next s t u (x ∷ []) k i n w e (omega arith) q).kept;
    }

-- the round then
pub round_then : (s t : List ℕ) {l : List (List ℕ)} → round_len ≤ length s → Written s t l → round_in t ≡ round_of l
round_then s t n w = let m : length t ≡ length s = w.kept.0 in sym (of_parts t (omega arith)) ∙ ap round_of w.parted
