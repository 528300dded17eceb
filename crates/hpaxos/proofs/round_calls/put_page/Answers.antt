use mathlib.Core.Path.{refl}
use mathlib.Core.List.{[], ◌∷◌, ◌++◌}
use Rattle.base.specs.Bytes.{bytes}
use Rattle.base.proofs.Bytes.{more}
use Rattle.hpaxos.proofs.round_calls.put_page.Goals as goal

pub returns : goal.returns
unfolding bytes
returns c =
    let a = c.args in
    let b = a.out.now in
    let m1 = more [] (a.state ∷ []) b b c.put8.new.buf refl c.put8.ensures in
    let m2 = more (a.state ∷ []) (bytes 8 a.least) b c.put8.new.buf c.put64.new.buf m1 c.put64.ensures in
    more ((a.state ∷ []) ++ bytes 8 a.least) (bytes 8 a.other) b c.put64.new.buf c.put64-2.new.buf m2 c.put64-2.ensures
