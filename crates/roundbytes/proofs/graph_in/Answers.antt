use lib.ListN.{get_or}
use Rattle.roundbytes.specs.Layout.{round_in}
use Rattle.roundbytes.proofs.graph_in.Goals as goal

pub returns : goal.returns
unfolding round_in
returns c = let s = c.args.s.now in
    λ i. record { acceptors = get_or s 0 0; learners = get_or s 1 0; counts = c.copy_from_slice.ensures.after i; masks = c.masks_in.ensures i }
