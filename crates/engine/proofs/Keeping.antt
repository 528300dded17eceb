-- The notes of the held places stay right when a message is put behind them, and when one returns.
use mathlib.Core.Path.{◌≡◌, ap, sym, subst, ◌∙◌}
use mathlib.Core.Logic.{◌⊎◌}
use mathlib.Core.List.{List}
use Prim.Native.Nat.{ℕ, suc, ◌+◌, ◌*◌, ◌%◌, ◌≤◌, ◌<◌}
use native.Mathlib.Numerals.{add-one}
use native.Mathlib.Omega.{arith}
use lib.Dec.{T, eqb}
use lib.ListN.{length, get_or, drop}
use lib.Seq.{get_or-take, get_or-drop}
use Rattle.base.specs.Tests.{◌∈◌}
use Rattle.base.specs.Bytes.{part}
use Rattle.graph.specs.declared.Graph.{Graph}
use Rattle.graph.specs.LearnerGraph.{LearnerGraph}
use Rattle.graph.specs.Memory.{view_of}
use Rattle.protocol.specs.Table.{Table, Held}
use Rattle.protocol.proofs.Growth.{length_tabulate}
use Rattle.places.specs.Inside.PlaceSets.{in_set}
use Rattle.notes.specs.declared.Notes.{Notes}
use Rattle.notes.specs.Inside.Layout.{id_keys, WordNotes, ByteNotes, word_notes, byte_notes}
use Rattle.notes.specs.Inside.Index.{Filed, signer_key, link_key, Marks}
use Rattle.scan.specs.Inside.Arrays.{Named, Lowest, IdsIndexed}
use Rattle.meaning.specs.Inside.Records.{table_to, Fit}
use Rattle.meaning.specs.Inside.Notes.{AllNoted}
use Rattle.meaning.proofs.Giving.{fit_of}
use Rattle.message.specs.Layout.{id_len, proposal_kind}
use Rattle.round.specs.Round.{Round}
use Rattle.round.specs.Holdings.{graph_of, id_at, record_at}
use Rattle.round.specs.Delivery.{hold, returned}
use Rattle.round.specs.Limits.{max_held, no_place}
use Rattle.round.specs.Premises.{Typed}
use Rattle.round.proofs.Parts.{tabulate_cong}
use Rattle.round.proofs.Fitting.{Fitting, Keeps, record_kept}
use Rattle.round.proofs.Holding.{Storable}
use Rattle.round.proofs.Growing.{hold_keeps, hold_appends, hold_same}
use Rattle.derive.specs.Inside.Complete.{WorkedTo, WorkedOut}

module _ (r s : Round) (keeps : Keeps r s) where
  names_kept : (y : ByteNotes) → Named r r.held y → Named s r.held y
  names_kept y h = record { none = h.none; each = λ i l. low i l (h.each i l) }
    where
      low : (i : ℕ) → i < r.held → Lowest r i (id_at r i) (get_or y.names i 0) → Lowest s i (id_at s i) (get_or y.names i 0)
      low i l w =
          let b = w.bound in
          record {
            bound = w.bound;
            here = λ h. keeps.ids (get_or y.names i 0) (omega arith) ∙ w.here h ∙ sym (keeps.ids i l);
            first = λ k m e. w.first k m (sym (keeps.ids k (omega arith)) ∙ e ∙ keeps.ids i l);
          }

  id_first : (l : List ℕ) (a : ℕ) → get_or l a 0 ≡ get_or (part id_len l a) 0 0
  id_first l a = let e : a ≡ a + 0 = omega arith in ap (λ (k : ℕ). get_or l k 0) e ∙ sym (get_or-take id_len (drop a l) 0 0 (omega arith) ∙ get_or-drop a l 0 0)

  ids_kept : (x : WordNotes) → IdsIndexed r r.held x → IdsIndexed s r.held x
  ids_kept x h j l =
      let e : get_or s.ids (id_len * j) 0 ≡ get_or r.ids (id_len * j) 0 = id_first s.ids (id_len * j) ∙ ap (λ (i : List ℕ). get_or i 0 0) (keeps.ids j l) ∙ sym (id_first r.ids (id_len * j)) in
      subst (λ (k : ℕ). T (in_set (get_or x.idlow (k % id_keys) 0) (get_or x.idhigh (k % id_keys) 0) j)) (sym e) (h j l)

  marks_kept : (x : WordNotes) (y : ByteNotes) → Marks r.held r x y → Marks r.held s x y
  marks_kept x y h =
      record {
        by_signer = λ j l. subst (λ (k : ℕ). Filed x.keylow x.keyhigh (signer_key k) j) (sym (keeps.signers j l)) (h.by_signer j l);
        by_link = λ j l. subst (λ (k : ℕ). Filed x.keylow x.keyhigh (link_key (get_or y.names k 0)) j) (sym (keeps.previous j l)) (h.by_link j l);
        by_ballot = h.by_ballot;
        by_form = h.by_form;
        forked = h.forked;
      }

  known_kept : Fitting r → (G : LearnerGraph) (x : WordNotes) (y : ByteNotes) → AllNoted G (table_to r r.held) r x y → AllNoted G (table_to s r.held) s x y
  known_kept f G x y h =
      let size : length (table_to r r.held) ≡ r.held = length_tabulate r.held (record_at r) in
      let here : (i : ℕ) → i < length (table_to r r.held) → i < r.held = λ i l. subst (λ (n : ℕ). i < n) size l in
      subst (λ (t : Table). AllNoted G t s x y) (sym (tabulate_cong r.held (record_at s) (record_at r) (record_kept r s keeps f)))
      (record {
        ordered = h.ordered;
        kind = λ i l. ap (λ (k : ℕ). eqb k proposal_kind) (keeps.kinds i (here i l)) ∙ h.kind i l;
        signer = λ i l. keeps.signers i (here i l) ∙ h.signer i l;
        noted = h.noted;
      })

  -- the notes of r are right of its places in s
  pub worked_kept : Fitting r → r.graph ≡ s.graph → (notes : Notes) → WorkedOut r notes → WorkedTo s r.held notes
  worked_kept f g notes c =
      let x = word_notes notes.words in
      let y = byte_notes notes.octets in
      record {
        named = names_kept y c.named;
        known = subst (λ (G : Graph). AllNoted (view_of G) (table_to s r.held) s x y) g (known_kept f (graph_of r) x y c.known);
        ids = ids_kept x c.ids;
        marked = marks_kept x y c.marked;
      }

  -- and none of them names a later one as its previous one
  pub fit_kept : Fit r.held r → Fit r.held s
  fit_kept f =
      record {
        held = f.held;
        count = λ p l. subst (λ (k : ℕ). k ≤ max_held) (sym (keeps.counts p l)) (f.count p l);
        named = λ p l. subst (λ (k : ℕ). (k ≡ no_place) ⊎ (k < r.held)) (sym (keeps.previous p l)) (f.named p l);
        back = λ p l e j m. f.back p l (ap (λ (k : ℕ). eqb k proposal_kind) (sym (keeps.kinds p l)) ∙ e) j (subst (λ (y : List ℕ). j ∈ y) (keeps.references p l) m);
      }

-- a message that is put behind the others
pub new_worked : (r : Round) → Typed r → Fitting r → r.held < max_held → (h : Held) → Storable r h → (s : Round) (n : ℕ) → s ≡ hold r h 1 → n ≡ r.held → (notes : Notes) → WorkedOut r notes
    → (s.held ≡ suc n) × (Fit n s × WorkedTo s n notes)
new_worked r typed f room h can s n q m notes v =
    let keeps = hold_keeps r typed f room h can 1 in
    let e : (hold r h 1).held ≡ suc r.held = (hold_appends r typed f room h can 1).held ∙ add-one r.held in
    subst (λ (t : Round). (t.held ≡ suc n) × (Fit n t × WorkedTo t n notes)) (sym q)
    (subst (λ (k : ℕ). ((hold r h 1).held ≡ suc k) × (Fit k (hold r h 1) × WorkedTo (hold r h 1) k notes)) (sym m)
    (e, (fit_kept r (hold r h 1) keeps (fit_of r f), worked_kept r (hold r h 1) keeps f (hold_same r typed f room h can 1).graph notes v)))

-- a message that returns changes nothing that is noted
pub worked_back : (r : Round) (p : ℕ) (notes : Notes) → WorkedOut r notes → WorkedOut (returned r p) notes
worked_back r p notes c =
    let k = c.known in
    let m = c.marked in
    record {
      named = record { none = c.named.none; each = λ i l. let n = c.named.each i l in record { bound = n.bound; here = n.here; first = n.first } };
      known = record { ordered = k.ordered; kind = k.kind; signer = k.signer; noted = k.noted };
      ids = c.ids;
      marked = record { by_signer = m.by_signer; by_link = m.by_link; by_ballot = m.by_ballot; by_form = m.by_form; forked = m.forked };
    }
