use mathlib.Core.Path.{refl, sym, ap, subst, ◌∙◌}
use mathlib.Core.List.{List}
use Prim.Native.Nat.{ℕ, ◌*◌, ◌%◌}
use lib.Dec.{T}
use lib.ListN.{get_or}
use Rattle.message.specs.Layout.{id_len}
use Rattle.places.specs.Inside.PlaceSets.{in_set}
use Rattle.places.proofs.Indexing.{indexed_more}
use Rattle.roundbytes.specs.Layout.{round_in}
use Rattle.roundbytes.proofs.Fields.{id_byte_at}
use Rattle.notes.specs.Inside.Layout.{id_keys, word_notes, byte_notes}
use Rattle.notes.specs.Inside.Writing.{IdFiled}
use Rattle.scan.specs.Inside.Arrays.{Lowest, id_key}
use Rattle.scan.proofs.Naming.{lent}
use native.Mathlib.Omega.{arith}
use Rattle.scan.proofs.names.name_place.Goals as goal

pub returns : goal.returns
returns c = let a = c.args in
    let pre = c.requires in
    let r = round_in a.s.now in
    let x = word_notes a.notes.now.words in
    let x' = word_notes c.file_id.new.self.words in
    let file = subst (λ (w : List ℕ). IdFiled (word_notes w) x' c.id_key.result a.i) c.put_name.ensures.1 c.file_id.ensures.0 in
    let key : ℕ → ℕ = λ j. id_key r.ids (id_len * j) in
    let here = c.id_key.ensures ∙ ap (λ (k : ℕ). k % id_keys) (sym (id_byte_at a.s.now (id_len * a.i) (omega arith))) in
    record {
      lowest = subst (λ (l : List ℕ). Lowest r a.i l c.name_of-name.result) (lent a.s.now a.i pre.1.0 pre.0) c.name_of-name.ensures;
      named = ap byte_notes c.file_id.ensures.1 ∙ c.put_name.ensures.0;
      indexed = indexed_more a.i key key x.idlow x.idhigh x'.idlow x'.idhigh pre.1.0 file.grown (λ j h. refl) pre.1.1
          (subst (λ (k : ℕ). T (in_set (get_or x'.idlow k 0) (get_or x'.idhigh k 0) a.i)) here file.here);
      rest = file.rest;
    }
