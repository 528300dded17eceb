use mathlib.Core.Path.{◌≡◌}
use lib.ListN.{length}
use Rattle.roundbytes.proofs.Empty.{empty_written, zeros_put}
use Rattle.roundbytes.specs.Layout.{ids_at, round_len}
use native.Mathlib.Omega.{arith}
use borrow.Author.Rules.{rules}
use Rattle.graph.specs.Limits.{lists, max_masks}
use Prim.Native.Nat.{◌-◌, ◌*◌}
use Rattle.roundbytes.proofs.put_empty.Goals as goal

pub returns : goal.returns
returns c =
    let a = c.args in
    let counts : length a.graph.counts ≡ lists = search rules in
    let masks : length a.graph.masks ≡ (max_masks * lists) = search rules in
    let b = c.put_numbers.new.buf in
    empty_written a.graph a.house a.bay a.own 255 a.s.now c.put_graph.new.buf b _ counts masks c.put_graph.ensures c.put_numbers.ensures
    (zeros_put b c.fill.new.self ids_at (round_len - ids_at) (omega arith) (c.fill.ensures.after (search rules)))
