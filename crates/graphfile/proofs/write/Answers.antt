use mathlib.Core.Path.{◌≡◌, ap, sym, ◌∙◌}
use mathlib.Core.Bool.{Bool, true, false, ◌&&◌}
use mathlib.Core.List.{List, ◌++◌}
use Prim.Native.Nat.{ℕ, ◌≤◌, ◌<◌}
use lib.Dec.{leb}
use lib.ListN.{length, drop}
use borrow.Author.Tests.{le-leb, lt-leb}
use Rattle.std.proofs.Common.{Result, Ok, Err}
use Rattle.base.specs.Tests.{pick}
use Rattle.base.specs.declared.refusal.Refusal.{Refusal}
use Rattle.base.specs.declared.refusal.Refusal.TheVariants.{Argument}
use Rattle.graph.specs.declared.Graph.{Graph}
use Rattle.graphfile.specs.Writer.{graph_file, sayable, writable, write_answer, write_to}
use Rattle.graphfile.proofs.Putting.{said, file_most_lem}
use borrow.Author.Rules.{rules}
use Rattle.graphfile.proofs.write.Goals as goal

module _ (g : Graph) (b : List ℕ) where
  by_tests : (s r : Bool) → sayable g ≡ s → leb (length (graph_file g)) (length b) ≡ r → writable g b ≡ (s && r)
  by_tests s r es er = λ i. es i && er i

  short : sayable g ≡ true → length b < length (graph_file g) → writable g b ≡ false
  short s h = by_tests true false s (lt-leb (length (graph_file g)) (length b) h)

  room : sayable g ≡ true → length (graph_file g) ≤ length b → writable g b ≡ true
  room s h = by_tests true true s (le-leb (length (graph_file g)) (length b) h)

  -- ---- what is answered and written
  refused : writable g b ≡ false → (Err Argument ≡ write_answer g b) × (b ≡ write_to g b)
  refused e = (
    sym (ap {B = Result ℕ Refusal} (λ (t : Bool). pick t (Ok (length (graph_file g))) (Err Argument)) e),
    sym (ap (λ (t : Bool). pick t (graph_file g ++ drop (length (graph_file g)) b) b) e),
  )

  written : (n : ℕ) (x : List ℕ) → writable g b ≡ true → n ≡ length (graph_file g) → x ≡ graph_file g → (Ok n ≡ write_answer g b) × (x ++ drop n b ≡ write_to g b)
  written n x e k p = (
    ap Ok k ∙ sym (ap {B = Result ℕ Refusal} (λ (t : Bool). pick t (Ok (length (graph_file g))) (Err Argument)) e),
    (λ i. p i ++ drop (k i) b) ∙ sym (ap (λ (t : Bool). pick t (graph_file g ++ drop (length (graph_file g)) b) b) e),
  )

pub put_file-len-requires : goal.put_file-len-requires
put_file-len-requires c =
    let g = c.args.graph.now in
    let S = said g (sym c.sayable.ensures ∙ c.if-not-sayable.false) in
    let most = file_most_lem g.acceptors g.learners g.counts g.masks S.few in
    (S.few, record { fit = S.fit; room = search rules })
