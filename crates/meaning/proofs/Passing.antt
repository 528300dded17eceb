-- One place more of the pass, over the records that the arrays hold.
use mathlib.Core.Path.{◌≡◌, refl, sym, ap, ap₂, subst, ◌∙◌}
use mathlib.Core.Logic.{◌⊎◌}
use mathlib.Core.Bool.{Bool, true, false, ◌||◌}
use mathlib.Core.List.{List, [], ◌∷◌, ◌++◌}
use Prim.Native.Nat.{ℕ, zero, suc, ◌+◌, ◌-◌, ◌*◌, ◌≤◌, ◌<◌}
use native.Mathlib.Numerals.{add-one}
use native.Mathlib.Omega.{arith}
use lib.Dec.{eqb}
use lib.ListN.{length, get_or, take, drop}
use Rattle.base.specs.Tests.{◌∈◌}
use Rattle.base.specs.Bytes.{part}
use Rattle.base.proofs.Cuts.{part_part}
use Rattle.graph.specs.LearnerGraph.{LearnerGraph}
use Rattle.protocol.specs.Table.{Held, says, tabulate, places, Ordered}
use Rattle.protocol.proofs.Growth.{ordered_snoc, ordered_nil, length_tabulate, at_tabulate}
use Rattle.notes.specs.declared.Worked.{Worked}
use Rattle.places.specs.Inside.PlaceSets.{in_set}
use Rattle.scan.specs.Inside.Arrays.{Named}
use Rattle.round.specs.Round.{Round}
use Rattle.round.specs.Limits.{max_held, no_place}
use Rattle.round.specs.Holdings.{id_at, is_proposal_at, signer_at, named, references_at, record_at}
use Rattle.notes.specs.Inside.Layout.{WordNotes, ByteNotes}
use Rattle.notes.specs.Inside.Writing.{words_noted, bytes_noted, with_index}
use Rattle.notes.proofs.Fields.{WordRooms, ByteRooms}
use Rattle.meaning.specs.Inside.Records.{Fit}
use Rattle.meaning.specs.Inside.Notes.{Noted, NotedBy, AllNoted, Candidate, Told}
use Rattle.meaning.proofs.Naming.{record_signer, record_kind, record_says, record_offers, candidate}
use Rattle.meaning.proofs.Growing.{noted_told, noted_offer, known_more}
use Rattle.roundbytes.specs.Layout.{round_len, round_in}
use Rattle.roundbytes.specs.Layout as layout
use Rattle.roundbytes.proofs.Fields.{references_in_lem}

-- the part of the references that the code lends
pub lent_references : (s : List ℕ) (p c : ℕ) → round_len ≤ length s → p < max_held → c ≤ max_held → c ≡ get_or (round_in s).counts p 0
    → take (layout.references_at + max_held * p + c - (layout.references_at + max_held * p)) (drop (layout.references_at + max_held * p) s) ≡ references_at (round_in s) p
lent_references s p c long small few e =
    let d : layout.references_at + max_held * p + c - (layout.references_at + max_held * p) ≡ c = omega arith in
    ap (λ (k : ℕ). take k (drop (layout.references_at + max_held * p) s)) d
    ∙ sym (part_part c (max_held * max_held) s layout.references_at (max_held * p) (omega arith) (omega arith))
    ∙ ap₂ (λ (k : ℕ) (l : List ℕ). part k l (max_held * p)) e (sym (references_in_lem s))

module _ (rn : Round) (n : ℕ) (fit : Fit n rn) where
  abbrev f : ℕ → Held
  f = record_at rn

  refers_back_lem : (p : ℕ) → p < n → (j : ℕ) → j ∈ places (f p) → j < p
  unfolding places
  refers_back_lem p l j = step (is_proposal_at rn p) refl
    where
      step : (b : Bool) → is_proposal_at rn p ≡ b → j ∈ places (f p) → j < p
      step true e m = elim (subst (λ (r : Held). j ∈ places r) (record_offers rn p e) m) [ ]
      step false e m = fit.back p l e j (subst (λ (r : Held). j ∈ places r) (record_says rn p e) m)

  pub ordered_in : (m : ℕ) → m ≤ n → Ordered (tabulate m f)
  unfolding tabulate
  ordered_in zero l = ordered_nil
  ordered_in (suc m) l = ordered_snoc (tabulate m f) (f m) (ordered_in m (omega arith)) (λ j k. let g = refers_back_lem m (omega arith) j k in let z = length_tabulate m f in omega arith)

  pub held_candidate : (p : ℕ) → p < n → is_proposal_at rn p ≡ false → (bn : ByteNotes) → Named rn n bn → (y : ℕ) → y ≡ get_or rn.previous p 0
      → (ps : List ℕ) → ps ≡ references_at rn p → Candidate (tabulate p f) rn bn ps (id_at rn p) (named rn y) (get_or bn.names p 0) (get_or bn.names y 0)
  held_candidate p l acc bn h y ey ps eps =
      candidate rn n p fit (omega arith) bn h (id_at rn p) (get_or bn.names p 0) y ps (h.each p l)
      (subst (λ (k : ℕ). (k ≡ no_place) ⊎ (k < n)) (sym ey) (fit.named p l)) (λ j m. fit.back p l acc j (subst (λ (x : List ℕ). j ∈ x) eps m))

-- the notes of place p
module _ (G : LearnerGraph) (rn : Round) (n : ℕ) (fit : Fit n rn) where
  abbrev rec : ℕ → Held
  rec = record_at rn

  pub held_told : (p : ℕ) → is_proposal_at rn p ≡ false → (y : ℕ) → y ≡ get_or rn.previous p 0 → (ps : List ℕ) → ps ≡ references_at rn p → (r : Worked)
      → Told G (tabulate p rec ++ says (id_at rn p) (signer_at rn p) (named rn y) ps ∷ []) p r → Told G (tabulate (suc p) rec) p r
  unfolding tabulate
  held_told p acc y ey ps eps r told = subst (λ (h : Held). Told G (tabulate p rec ++ h ∷ []) p r) same told
    where
      same : says (id_at rn p) (signer_at rn p) (named rn y) ps ≡ rec p
      same = (λ e. says (id_at rn p) (signer_at rn p) (named rn (ey e)) (eps e)) ∙ sym (record_says rn p acc)

  pub held_noted : (p : ℕ) → p < n → (r : Worked) → Told G (tabulate (suc p) rec) p r → (low high : ℕ)
      → ((q : ℕ) → q < max_held → in_set low high q ≡ (eqb p q || in_set r.beneath.low r.beneath.high q))
      → Noted G (tabulate (suc p) rec) p low high r.forks.low r.forks.high r.ballot r.learners r.fresh r.form
  held_noted p l r told low high w = noted_told G (tabulate (suc p) rec) (ordered_in rn n fit (suc p) (omega arith)) p r told low high w

  pub offer_noted : (p : ℕ) → p < n → is_proposal_at rn p ≡ true → (low high : ℕ) → ((q : ℕ) → q < max_held → in_set low high q ≡ (eqb p q || in_set 0 0 q))
      → Noted G (tabulate (suc p) rec) p low high 0 0 (get_or rn.ballots p 0) 0 0 0
  offer_noted p l off low high w =
      noted_offer G (tabulate (suc p) rec) (ordered_in rn n fit (suc p) (omega arith)) p (id_at rn p) (signer_at rn p) (get_or rn.ballots p 0)
      (at_tabulate (suc p) rec p (omega arith) ∙ record_offers rn p off) low high w

  pub pass_more : (p : ℕ) → p < n → (wn : WordNotes) (bn : ByteNotes) → WordRooms wn → ByteRooms bn → AllNoted G (tabulate p rec) rn wn bn → (r : Worked) → NotedBy G (tabulate (suc p) rec) p r
      → (kl kh : List ℕ) (fl fh : ℕ) → AllNoted G (tabulate (p + 1) rec) rn (with_index (words_noted wn r p) kl kh fl fh) (bytes_noted bn r p)
  unfolding tabulate
  pass_more p l wn bn h₁ h₂ kn r new kl kh fl fh =
      subst (λ (m : ℕ). AllNoted G (tabulate m rec) rn (with_index (words_noted wn r p) kl kh fl fh) (bytes_noted bn r p)) (sym (add-one p))
      (known_more G (tabulate p rec) rn wn bn kn (rec p) p (length_tabulate p rec) (let z = fit.held in omega arith)
      (ordered_in rn n fit (suc p) (omega arith)) (record_kind rn p) (record_signer rn p) h₁ h₂ r new kl kh fl fh)
