use mathlib.Core.Path.{subst}
use Prim.Native.Nat.{ℕ}
use Rattle.protocol.specs.Table.{tabulate}
use Rattle.round.specs.Holdings.{graph_of}
use Rattle.roundbytes.specs.Layout.{round_in}
use Rattle.notes.specs.Inside.Layout.{word_notes, byte_notes}
use Rattle.scan.specs.Inside.Arrays.{Named, IdsIndexed}
use Rattle.meaning.proofs.Growing.{known_none}
use Rattle.derive.proofs.Extending.{all_complete}
use Rattle.derive.proofs.pass.work_out.Goals as goal

pub returns : goal.returns
unfolding tabulate
returns c =
    let a = c.args in
    let given = c.requires in
    let r = round_in a.s.now in
    let named = c.name_places in
    let more = c.extend in
    let e = c.held_of.ensures.0 in
    let x = word_notes named.new.notes.words in
    let y = byte_notes named.new.notes.octets in
    all_complete r 0 x (word_notes more.new.notes.words) y (byte_notes more.new.notes.octets) (subst (λ (n : ℕ). Named r n y) e named.ensures.named) (subst (λ (n : ℕ). IdsIndexed r n x) e named.ensures.indexed) (known_none (graph_of r) r x y) more.ensures
