-- The names of the places, one after the other.
use mathlib.Core.Path.{◌≡◌, refl, sym, ap, subst, ◌∙◌}
use mathlib.Core.List.{List}
use Prim.Native.Nat.{ℕ, ◌+◌, ◌-◌, ◌*◌, ◌≤◌, ◌<◌}
use native.Mathlib.Decide.{dec_lt}
use native.Mathlib.Omega.{arith}
use lib.Dec.{T}
use lib.ListN.{length, take, drop, set, get_or}
use lib.Seq.{get_or-set_same, get_or-set_other}
use Rattle.base.proofs.Cuts.{get_d_part}
use Rattle.message.specs.Layout.{id_len}
use Rattle.protocol.specs.Ids.{Id}
use Rattle.round.specs.Holdings.{id_at}
use Rattle.round.specs.Limits.{max_held, no_place}
use Rattle.round.specs.Round.{Round}
use Rattle.roundbytes.specs.Layout.{ids_at, round_len, round_in}
use Rattle.roundbytes.proofs.Fields.{id_at_lem}
use Rattle.places.specs.Inside.PlaceSets.{in_set}
use Rattle.places.proofs.Walks.{Passed}
use Rattle.places.proofs.Loops.{each_more}
use Rattle.notes.specs.Inside.Layout.{name_slots, WordNotes, ByteNotes}
use Rattle.notes.specs.Inside.Writing.{with_ids, with_names, with_name}
use Rattle.scan.specs.Inside.Arrays.{Lowest, Named, id_key, IdsIndexed, NamedMore, NamedAll}

-- the part of the round's bytes that the code lends for the id of a place
pub lent : (s : List ℕ) (i : ℕ) → i < max_held → round_len ≤ length s
    → take (ids_at + id_len * i + id_len - (ids_at + id_len * i)) (drop (ids_at + id_len * i) s) ≡ id_at (round_in s) i
lent s i l h =
    let e : ids_at + id_len * i + id_len - (ids_at + id_len * i) ≡ id_len = omega arith in
    ap (λ (k : ℕ). take k (drop (ids_at + id_len * i) s)) e ∙ id_at_lem s i h l

-- ---- places with one id have one key
key_of : (r : Round) (id : Id) (k : ℕ) → id_at r k ≡ id → id_key r.ids (id_len * k) ≡ id_key id 0
key_of r id k e =
    let p : get_or id 0 0 ≡ get_or r.ids (id_len * k) 0 =
    ap (λ (l : List ℕ). get_or l 0 0) (sym e) ∙ get_d_part id_len r.ids (id_len * k) 0 (omega arith)
    ∙ (let z : id_len * k + 0 ≡ id_len * k = omega arith in ap (λ (i : ℕ). get_or r.ids i 0) z)
    in
    omega arith

-- none of the places below j has the id
abbrev pub Unnamed : Round → Id → ℕ → Type 0
Unnamed r id j = (k : ℕ) → k < j → id_at r k ≡ id → ⊥

module _ (r : Round) (id : Id) (n : ℕ) (x : WordNotes) (m low high : ℕ) (index : IdsIndexed r n x) (e : m ≡ id_key id 0)
    (sets : (low ≡ get_or x.idlow m 0) × (high ≡ get_or x.idhigh m 0)) where
  -- so the set of an id's key has each place with this id, and a walk over the set passes over none
  in_key : (k : ℕ) → k < n → id_at r k ≡ id → T (in_set low high k)
  in_key k h same =
      subst (λ (l : ℕ). T (in_set l high k)) (sym sets.0) (subst (λ (l : ℕ). T (in_set (get_or x.idlow m 0) l k)) (sym sets.1)
      (subst (λ (i : ℕ). T (in_set (get_or x.idlow i 0) (get_or x.idhigh i 0) k)) (key_of r id k same ∙ sym e) (index k h)))

  pub passed : (j q : ℕ) → Passed n low high j q → Unnamed r id j → Unnamed r id q
  passed j q (l, (u, none)) old k h same = step (dec_lt k j)
    where
      step : Dec (k < j) → ⊥
      step (yes d) = old k d same
      step (no d) = subst T (none k (omega arith) h) (in_key k (omega arith) same)

-- ---- none stands for itself, and no place has a name yet
pub all_begun : (r : Round) (x : WordNotes) (y y' : ByteNotes) → length y.names ≡ name_slots → y' ≡ with_name y no_place no_place → NamedAll r 0 x x y' y'
all_begun r x y y' size e =
    subst (λ (z : ByteNotes). NamedAll r 0 x x z z) (sym e)
    (record {
      named = record { none = get_or-set_same y.names no_place no_place 0 (omega arith); each = λ i h. absurd (omega arith) };
      indexed = λ j h. absurd (omega arith);
      words = refl;
      octets = refl;
    })

-- one place more
named_more : (r : Round) (i : ℕ) (y : ByteNotes) (k : ℕ) → i < max_held → length y.names ≡ name_slots → Named r i y → Lowest r i (id_at r i) k
    → Named r (i + 1) (with_name y i k)
named_more r i y k l size old new =
    record {
      none = get_or-set_other y.names i no_place k 0 (λ e. omega arith) ∙ old.none;
      each = each_more (λ j x. Lowest r j (id_at r j) x) y.names i k (omega arith) old.each new;
    }

pub all_more : (r : Round) (i k : ℕ) (x x' x'' : WordNotes) (y y' y'' : ByteNotes) → i < max_held → length y'.names ≡ name_slots → NamedAll r i x x' y y'
    → NamedMore r i k x' x'' y' y''
    → NamedAll r (i + 1) x x'' y y''
all_more r i k x x' x'' y y' y'' l size old new =
    record {
      named = subst (Named r (i + 1)) (sym new.named) (named_more r i y' k l size old.named new.lowest);
      indexed = new.indexed;
      words = new.rest ∙ ap (λ (z : WordNotes). with_ids z x''.idlow x''.idhigh) old.words;
      octets = new.named ∙ ap (λ (z : ByteNotes). with_names z (set y'.names i k)) old.octets ∙ ap (with_names y) (ap (λ (z : ByteNotes). z.names) (sym new.named));
    }
