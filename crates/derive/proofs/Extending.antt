-- One place more of the notes: put down, and filed.
use mathlib.Core.Path.{◌≡◌, sym, ap, subst, ◌∙◌}
use mathlib.Core.Bool.{not, ◌||◌}
use mathlib.Core.List.{List}
use Prim.Native.Nat.{ℕ, suc, ◌+◌, ◌*◌, ◌<◌}
use native.Mathlib.Omega.{arith}
use lib.Dec.{eqb}
use lib.ListN.{get_or}
use Rattle.message.specs.Layout.{id_len}
use Rattle.round.specs.Round.{Round}
use Rattle.round.specs.Limits.{no_place, max_held}
use Rattle.round.specs.Holdings.{graph_of, id_at, signer_at}
use Rattle.notes.specs.declared.Worked.{Worked}
use Rattle.notes.specs.Inside.Layout.{WordNotes, ByteNotes}
use Rattle.notes.specs.Inside.Index.{link_at, Filed, Marks}
use Rattle.notes.specs.Inside.Writing.{words_noted, bytes_noted, FiledIn}
use Rattle.notes.proofs.Fields.{WordRooms, ByteRooms}
use Rattle.scan.specs.Inside.Arrays.{Lowest, Named, id_key, IdsIndexed}
use Rattle.meaning.specs.Inside.Records.{table_to, Fit}
use Rattle.meaning.specs.Inside.Notes.{NotedBy, AllNoted}
use Rattle.meaning.proofs.Walking.{marks_more}
use Rattle.meaning.proofs.Passing.{pass_more}
use Rattle.meaning.proofs.Marking.{marked_more}
use Rattle.derive.specs.Inside.Complete.{Complete, Extended}

-- the names alone say that places are named
pub named_by : (r : Round) (n : ℕ) (y y' : ByteNotes) → y'.names ≡ y.names → Named r n y → Named r n y'
named_by r n y y' e h =
    record {
      none = ap (λ (l : List ℕ). get_or l no_place 0) e ∙ h.none;
      each = λ i l. subst (λ (ns : List ℕ). Lowest r i (id_at r i) (get_or ns i 0)) (sym e) (h.each i l);
    }

-- ---- place p, worked out as w, put down and filed
module _ (r : Round) (x x' : WordNotes) (y : ByteNotes) (w : Worked) (p : ℕ) (wide : WordRooms x) (long : ByteRooms y) (small : p < max_held)
    (filed : FiledIn (words_noted x w p) x' (signer_at r p) (link_at r y p) w.ballot w.form (not (eqb w.forks.low 0) || not (eqb w.forks.high 0)) p) where
  marks_next : Marks p r x y → Marks (p + 1) r x' (bytes_noted y w p)
  marks_next old =
      subst (λ (z : WordNotes). Marks (p + 1) r z (bytes_noted y w p)) (sym filed.rest)
      (marks_more p r x y (omega arith) old small wide.tops long.forms w x'.keylow x'.keyhigh x'.forkedlow x'.forkedhigh filed.put
      (marked_more x.forklow x.forkhigh wide.forklow wide.forkhigh p small x.forkedlow x.forkedhigh old.forked w.forks.low w.forks.high x'.forkedlow x'.forkedhigh
      filed.forked))

  known_next : Fit r.held r → p < r.held → NotedBy (graph_of r) (table_to r (suc p)) p w → AllNoted (graph_of r) (table_to r p) r x y
      → AllNoted (graph_of r) (table_to r (p + 1)) r x' (bytes_noted y w p)
  known_next fit l noted old =
      subst (λ (z : WordNotes). AllNoted (graph_of r) (table_to r (p + 1)) r z (bytes_noted y w p)) (sym filed.rest)
      (pass_more (graph_of r) r r.held fit p l x y wide long old w noted x'.keylow x'.keyhigh x'.forkedlow x'.forkedhigh)

  pub one_more : Fit r.held r → p < r.held → Marks p r x y
      → (Named r r.held y → AllNoted (graph_of r) (table_to r p) r x y → NotedBy (graph_of r) (table_to r (suc p)) p w)
      → Extended r p (p + 1) x x' y (bytes_noted y w p)
  one_more fit l marks noted =
      record {
        names = λ i. y.names;
        idlow = ap (λ (z : WordNotes). z.idlow) filed.rest;
        idhigh = ap (λ (z : WordNotes). z.idhigh) filed.rest;
        marked = marks_next marks;
        known = λ named kn. known_next fit l (noted named kn) kn;
      }

-- ---- one extension after another
pub then : (r : Round) (from p q : ℕ) (x x' x'' : WordNotes) (y y' y'' : ByteNotes) → Extended r from p x x' y y' → Extended r p q x' x'' y' y'' → Extended r from q x x'' y y''
then r from p q x x' x'' y y' y'' a b =
    record {
      names = b.names ∙ a.names;
      idlow = b.idlow ∙ a.idlow;
      idhigh = b.idhigh ∙ a.idhigh;
      marked = b.marked;
      known = λ named kn. b.known (named_by r r.held y y' a.names named) (a.known named kn);
    }

-- ---- notes that were extended from notes with all names and the whole index of the ids are complete
pub all_complete : (r : Round) (from : ℕ) (x x' : WordNotes) (y y' : ByteNotes) → Named r r.held y → IdsIndexed r r.held x → AllNoted (graph_of r) (table_to r from) r x y
    → Extended r from r.held x x' y y' → Complete r r.held x' y'
all_complete r from x x' y y' named ids known more =
    record {
      named = named_by r r.held y y' more.names named;
      known = more.known named known;
      ids = λ j l. subst (λ (a : List ℕ). Filed a x'.idhigh (id_key_at j) j) (sym more.idlow) (subst (λ (b : List ℕ). Filed x.idlow b (id_key_at j) j) (sym more.idhigh) (ids j l));
      marked = more.marked;
    }
  where
    id_key_at : ℕ → ℕ
    id_key_at j = id_key r.ids (id_len * j)
