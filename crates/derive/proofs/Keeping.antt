-- What stays of the notes of n places when one more is held: its name changes none of their links.
use mathlib.Core.Path.{◌≡◌, sym, subst}
use mathlib.Core.Logic.{⊎_elim}
use mathlib.Core.List.{List}
use Prim.Native.Nat.{ℕ, ◌<◌}
use native.Mathlib.Omega.{arith}
use lib.ListN.{get_or}
use lib.Seq.{get_or-set_other}
use Rattle.round.specs.Round.{Round}
use Rattle.notes.specs.Inside.Layout.{WordNotes, ByteNotes}
use Rattle.notes.specs.Inside.Index.{link_key, Filed, Marks}
use Rattle.notes.specs.Inside.Writing.{with_ids, with_name}
use Rattle.meaning.specs.Inside.Records.{Fit}

-- the places before n name no previous place but one before n, so the name of n changes no link of theirs
pub marks_named : (n k : ℕ) (r : Round) (x : WordNotes) (y : ByteNotes) (idlow idhigh : List ℕ) → Fit n r → Marks n r x y → Marks n r (with_ids x idlow idhigh) (with_name y n k)
marks_named n k r x y idlow idhigh fit m =
    record {
      by_signer = m.by_signer;
      by_link = λ j l. subst (λ (z : ℕ). Filed x.keylow x.keyhigh (link_key z) j) (sym (get_or-set_other y.names n (get_or r.previous j 0) k 0 (apart j l))) (m.by_link j l);
      by_ballot = m.by_ballot;
      by_form = m.by_form;
      forked = m.forked;
    }
  where
    apart : (j : ℕ) → j < n → get_or r.previous j 0 ≡ n → ⊥
    apart j l e = let f = fit.held in ⊎_elim (λ w. omega arith) (λ w. omega arith) (fit.named j l)
