-- Names: two places have one name exactly if they have one id.
use mathlib.Core.Path.{◌≡◌, refl, sym, ap, subst, ◌∙◌, ap₂}
use mathlib.Core.Logic.{◌⊎◌, inl, inr}
use mathlib.Core.Bool.{Bool, true, false, not}
use mathlib.Core.List.{List}
use Prim.Native.Nat.{ℕ, ◌≤◌, ◌<◌}
use native.Mathlib.Decide.{dec_lt}
use native.Mathlib.Omega.{arith}
use lib.Dec.{T, eqb, eqb→eq}
use lib.ListN.{length, get_or}
use Rattle.base.proofs.Tests.{same_test, eq→eqb}
use mathlib.Core.Option.{Option, none, some}
use borrow.Author.Tests.{eq-eqb, ne_eqb}
use Rattle.base.specs.Tests.{◌∈◌, pick}
use Rattle.protocol.specs.Ids.{Id, same_id, same_previous}
use Rattle.protocol.specs.Table.{Held, offers, says, at, tabulate, held_id, held_signer, held_previous, offered}
use Rattle.protocol.proofs.Growth.{length_tabulate, at_tabulate}
use Rattle.meaning.specs.Inside.Records.{Fit}
use Rattle.meaning.specs.Inside.Notes.{Candidate}
use Rattle.protocol.proofs.Ids.{same_id_law}
use Rattle.places.proofs.Membership.{eqb_swap}
use Rattle.scan.specs.Inside.Arrays.{Lowest, Named}
use Rattle.round.specs.Round.{Round}
use Rattle.round.specs.Limits.{no_place, max_held}
use Rattle.round.specs.Holdings.{id_at, is_proposal_at, signer_at, named, references_at, record_at}
use Rattle.notes.specs.Inside.Layout.{ByteNotes}

-- ---- the name of a place has its id
own : (rn : Round) (i r : ℕ) → Lowest rn i (id_at rn i) r → id_at rn r ≡ id_at rn i
own rn i r h = step (dec_lt r i)
  where
    step : Dec (r < i) → id_at rn r ≡ id_at rn i
    step (yes l) = h.here l
    step (no l) = let e : r ≡ i = let g = h.bound in omega arith in ap (id_at rn) e

same_name : (rn : Round) (r s : ℕ) (x y : Id) → id_at rn r ≡ x → ((k : ℕ) → k < r → id_at rn k ≡ x → ⊥) → (s ≤ r → id_at rn s ≡ y)
    → ((k : ℕ) → k < s → id_at rn k ≡ y → ⊥) → eqb r s ≡ same_id x y
same_name rn r s x y a f b g = same_test _ _ to from
  where
    to : T (eqb r s) → T (same_id x y)
    to t = let e = eqb→eq r s t in (same_id_law x y).1 (sym a ∙ ap (id_at rn) e ∙ b (omega arith))

    from : T (same_id x y) → T (eqb r s)
    from t = step (dec_lt r s) (dec_lt s r)
      where
        e : x ≡ y
        e = (same_id_law x y).0 t

        step : Dec (r < s) → Dec (s < r) → T (eqb r s)
        step (yes l) k = absurd (g r l (a ∙ e))
        step (no l) (yes k) = absurd (f s k (b (omega arith) ∙ sym e))
        step (no l) (no k) = let d : r ≡ s = omega arith in eq→eqb d

-- an id that is named after the places below n, against that of one of them
pub name_law : (rn : Round) (j n r s : ℕ) (id : Id) → j < n → Lowest rn j (id_at rn j) r → Lowest rn n id s → eqb r s ≡ same_id (id_at rn j) id
name_law rn j n r s id l p q = same_name rn r s (id_at rn j) id (own rn j r p) p.first (λ h. q.here (let g = p.bound in omega arith)) q.first

-- the names of two previous places, or of none
pub link_law : (rn : Round) (bn : ByteNotes) (n x y : ℕ) → n ≤ max_held → Named rn n bn → (x ≡ no_place) ⊎ (x < n) → (y ≡ no_place) ⊎ (y < n)
    → eqb (get_or bn.names x 0) (get_or bn.names y 0) ≡ same_previous (named rn x) (named rn y)
unfolding same_previous
link_law rn bn n x y small h (inl p) (inl q) =
    ap₂ (λ (i j : ℕ). eqb (get_or bn.names i 0) (get_or bn.names j 0)) p q ∙ eq-eqb (get_or bn.names no_place 0) (get_or bn.names no_place 0) refl
    ∙ sym (ap₂ (λ (i j : ℕ). same_previous (named rn i) (named rn j)) p q)
link_law rn bn n x y small h (inl p) (inr q) =
    let b = (h.each y q).bound in
    let z = h.none in
    ne_eqb (get_or bn.names x 0) (get_or bn.names y 0) (λ e. let d : get_or bn.names x 0 ≡ no_place = ap (λ (i : ℕ). get_or bn.names i 0) p ∙ z in omega arith)
    ∙ sym (ap₂ (λ (a c : Bool). same_previous (pick a none (some (id_at rn x))) (pick c none (some (id_at rn y)))) (eq-eqb x no_place p) (ne_eqb y no_place (λ e. omega arith)))
link_law rn bn n x y small h (inr p) (inl q) =
    let b = (h.each x p).bound in
    let z = h.none in
    ne_eqb (get_or bn.names x 0) (get_or bn.names y 0) (λ e. let d : get_or bn.names y 0 ≡ no_place = ap (λ (i : ℕ). get_or bn.names i 0) q ∙ z in omega arith)
    ∙ sym (ap₂ (λ (a c : Bool). same_previous (pick a none (some (id_at rn x))) (pick c none (some (id_at rn y)))) (ne_eqb x no_place (λ e. omega arith)) (eq-eqb y no_place q))
link_law rn bn n x y small h (inr p) (inr q) =
    same_name rn (get_or bn.names x 0) (get_or bn.names y 0) (id_at rn x) (id_at rn y) (own rn x (get_or bn.names x 0) (h.each x p)) (h.each x p).first
    (λ l. own rn y (get_or bn.names y 0) (h.each y q)) (h.each y q).first
    ∙ sym (ap₂ (λ (a c : Bool). same_previous (pick a none (some (id_at rn x))) (pick c none (some (id_at rn y)))) (ne_eqb x no_place (λ e. omega arith)) (ne_eqb y no_place (λ e. omega arith)))

-- ---- the records of the arrays
module _ (rn : Round) where
  abbrev f : ℕ → Held
  f = record_at rn

  record_id : (j : ℕ) → held_id (f j) ≡ id_at rn j
  unfolding held_id
  record_id j = step (is_proposal_at rn j)
    where
      step : (b : Bool) → held_id (pick b (offers (id_at rn j) (signer_at rn j) (get_or rn.ballots j 0)) (says (id_at rn j) (signer_at rn j) (named rn (get_or rn.previous j 0)) (references_at rn j))) ≡ id_at rn j
      step true = refl
      step false = refl

  pub record_signer : (j : ℕ) → signer_at rn j ≡ held_signer (f j)
  unfolding held_signer
  record_signer j = step (is_proposal_at rn j)
    where
      step : (b : Bool) → signer_at rn j ≡ held_signer (pick b (offers (id_at rn j) (signer_at rn j) (get_or rn.ballots j 0)) (says (id_at rn j) (signer_at rn j) (named rn (get_or rn.previous j 0)) (references_at rn j)))
      step true = refl
      step false = refl

  pub record_kind : (j : ℕ) → is_proposal_at rn j ≡ offered (f j)
  unfolding offered
  record_kind j = step (is_proposal_at rn j)
    where
      step : (b : Bool) → b ≡ offered (pick b (offers (id_at rn j) (signer_at rn j) (get_or rn.ballots j 0)) (says (id_at rn j) (signer_at rn j) (named rn (get_or rn.previous j 0)) (references_at rn j)))
      step true = refl
      step false = refl

  record_previous : (j : ℕ) → T (not (offered (f j))) → held_previous (f j) ≡ named rn (get_or rn.previous j 0)
  unfolding offered held_previous
  record_previous j = step (is_proposal_at rn j)
    where
      step : (b : Bool) → T (not (offered (pick b (offers (id_at rn j) (signer_at rn j) (get_or rn.ballots j 0)) (says (id_at rn j) (signer_at rn j) (named rn (get_or rn.previous j 0)) (references_at rn j)))))
          → held_previous (pick b (offers (id_at rn j) (signer_at rn j) (get_or rn.ballots j 0)) (says (id_at rn j) (signer_at rn j) (named rn (get_or rn.previous j 0)) (references_at rn j))) ≡ named rn (get_or rn.previous j 0)
      step true h = absurd h
      step false h = refl

  pub record_says : (j : ℕ) → is_proposal_at rn j ≡ false → f j ≡ says (id_at rn j) (signer_at rn j) (named rn (get_or rn.previous j 0)) (references_at rn j)
  record_says j e = ap (λ (b : Bool). pick b (offers (id_at rn j) (signer_at rn j) (get_or rn.ballots j 0)) (says (id_at rn j) (signer_at rn j) (named rn (get_or rn.previous j 0)) (references_at rn j))) e

  pub record_offers : (j : ℕ) → is_proposal_at rn j ≡ true → f j ≡ offers (id_at rn j) (signer_at rn j) (get_or rn.ballots j 0)
  record_offers j e = ap (λ (b : Bool). pick b (offers (id_at rn j) (signer_at rn j) (get_or rn.ballots j 0)) (says (id_at rn j) (signer_at rn j) (named rn (get_or rn.previous j 0)) (references_at rn j))) e

  -- one of n places has the name of a previous place, or of none, exactly if that names its id
  pub previous_law : (n : ℕ) → n ≤ max_held → (bn : ByteNotes) → Named rn n bn → (y : ℕ) → (y ≡ no_place) ⊎ (y < n) → (j : ℕ) → j < length (tabulate n f)
      → eqb (get_or bn.names j 0) (get_or bn.names y 0) ≡ same_previous (named rn y) (some (held_id (at (tabulate n f) j)))
  previous_law n small bn h y ly j l =
      let z = length_tabulate n f in
      let g : j < n = omega arith in
      eqb_swap (get_or bn.names j 0) (get_or bn.names y 0) ∙ link_law rn bn n y j small h ly (inr g)
      ∙ ap₂ (λ (b : Bool) (i : Id). same_previous (named rn y) (pick b none (some i))) (ne_eqb j no_place (λ e. omega arith)) (sym (ap held_id (at_tabulate n f j g) ∙ record_id j))

  -- ---- an acceptor message after the first m of n places
  pub candidate : (n m : ℕ) → Fit n rn → m ≤ n → (bn : ByteNotes) → Named rn n bn → (id : Id) (s y : ℕ) (ps : List ℕ)
      → Lowest rn m id s → (y ≡ no_place) ⊎ (y < n) → ((j : ℕ) → j ∈ ps → j < m) → Candidate (tabulate m f) rn bn ps id (named rn y) s (get_or bn.names y 0)
  candidate n m fit le bn h id s y ps q ly back =
      record {
        earlier = λ j k. let g = back j k in let z = length_tabulate m f in omega arith;
        named = λ j l. let z = length_tabulate m f in let g : j < m = omega arith in
            name_law rn j m (get_or bn.names j 0) s id g (h.each j (omega arith)) q
            ∙ ap (λ (x : Id). same_id x id) (sym (ap held_id (at_tabulate m f j g) ∙ record_id j));
        linked = λ j l acc. let z = length_tabulate m f in let g : j < m = omega arith in
            link_law rn bn n (get_or rn.previous j 0) y fit.held h (fit.named j (omega arith)) ly
            ∙ ap (λ (x : Option Id). same_previous x (named rn y))
            (sym (ap held_previous (at_tabulate m f j g) ∙ record_previous j (subst (λ (r : Held). T (not (offered r))) (at_tabulate m f j g) acc)));
      }
