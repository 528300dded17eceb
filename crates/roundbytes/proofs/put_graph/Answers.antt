use mathlib.Core.Path.{◌≡◌, refl}
use mathlib.Core.List.{[], ◌∷◌}
use lib.ListN.{length}
use Rattle.base.proofs.Bytes.{put_at_more}
use Rattle.roundbytes.specs.Layout.{words, masks_at}
use borrow.Author.Rules.{rules}
use native.Mathlib.Omega.{arith}
use Rattle.graph.specs.Limits.{lists}
use Rattle.roundbytes.proofs.put_graph.Goals as goal

pub returns : goal.returns
returns c = let g = c.args.graph in
    let b = c.args.buf.now in
    let n : length g.counts ≡ lists = search rules in
    let m₁ = put_at_more b c.put8.new.buf c.put8-2.new.buf (g.acceptors ∷ []) (g.learners ∷ []) 0 1 (omega arith) refl c.put8.ensures c.put8-2.ensures in
    let m₂ = put_at_more b c.put8-2.new.buf c.put_all.new.buf (g.acceptors ∷ g.learners ∷ []) g.counts 0 2 (omega arith) refl m₁ c.put_all.ensures in
    put_at_more b c.put_all.new.buf c.put_masks.new.buf (g.acceptors ∷ g.learners ∷ g.counts) (words 4 g.masks) 0 masks_at (omega arith) (omega arith) m₂ c.put_masks.ensures
