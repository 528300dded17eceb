use mathlib.Core.Path.{◌≡◌, refl, sym, subst, transport}
use Prim.Native.Nat.{ℕ, ◌+◌}
use native.Mathlib.Omega.{arith}
use Rattle.round.specs.Holdings.{graph_of}
use Rattle.roundbytes.specs.Layout.{round_in}
use Rattle.notes.specs.Inside.Layout.{word_notes, byte_notes}
use Rattle.notes.proofs.Fields.{byte_rooms}
use Rattle.scan.specs.Inside.Arrays.{Named, IdsIndexed, NamedAll}
use Rattle.scan.proofs.Naming.{all_more}
use Rattle.meaning.specs.Inside.Records.{table_to}
use Rattle.meaning.specs.Inside.Notes.{AllNoted}
use Rattle.meaning.proofs.Growing.{known_renamed}
use Rattle.derive.proofs.Extending.{all_complete}
use Rattle.derive.proofs.pass.work_more.Goals as goal

pub returns : goal.returns
returns c =
    let a = c.args in
    let pre = c.requires in
    let given = pre.given in
    let r = round_in a.s.now in
    let x = word_notes a.notes.now.words in
    let y = byte_notes a.notes.now.octets in
    let named = c.name_place-name in
    let more = c.extend in
    let x' = word_notes named.new.notes.words in
    let y' = byte_notes named.new.notes.octets in
    let e : a.n + 1 ≡ r.held = omega (arith, pre.more) in
    let old : NamedAll r a.n x x y y = record { named = pre.complete.named; indexed = pre.complete.ids; words = refl; octets = refl } in
    let all = all_more r a.n named.result x x x' y y y' (omega (arith, given.fit.held, pre.more)) (byte_rooms a.notes.now.octets a.notes.now.octet_room).names old named.ensures in
    let known = transport (λ i. AllNoted (graph_of r) (table_to r a.n) r (sym all.words i) (sym all.octets i)) (known_renamed (graph_of r) (table_to r a.n) r x y x'.idlow x'.idhigh y'.names pre.complete.known) in
    all_complete r a.n x' (word_notes more.new.notes.words) y' (byte_notes more.new.notes.octets) (subst (λ (n : ℕ). Named r n y') e all.named) (subst (λ (n : ℕ). IdsIndexed r n x') e all.indexed) known more.ensures
