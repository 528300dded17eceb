use mathlib.Core.Path.{refl}
use mathlib.Core.List.{[], ◌∷◌, ◌++◌}
use Prim.Native.Nat.{◌-◌}
use Rattle.base.specs.Bytes.{bytes}
use Rattle.base.proofs.Bytes.{more}
use Rattle.message.proofs.writer.write_head.Goals as goal

pub returns : goal.returns
unfolding bytes
returns c =
    let a = c.args in
    let b = a.buf.now in
    let m1 = more ([]) (bytes 2 (a.len - 2)) b b c.put16.new.buf refl c.put16.ensures in
    let m2 = more ((bytes 2 (a.len - 2))) (1 ∷ []) b c.put16.new.buf c.put8.new.buf m1 c.put8.ensures in
    let m3 = more ((bytes 2 (a.len - 2)) ++ (1 ∷ [])) (a.kind ∷ []) b c.put8.new.buf c.put8-2.new.buf m2 c.put8-2.ensures in
    let m4 = more ((bytes 2 (a.len - 2)) ++ (1 ∷ []) ++ (a.kind ∷ [])) (bytes 2 a.house) b c.put8-2.new.buf c.put16-2.new.buf m3 c.put16-2.ensures in
    let m5 = more ((bytes 2 (a.len - 2)) ++ (1 ∷ []) ++ (a.kind ∷ []) ++ (bytes 2 a.house)) (bytes 2 a.bay) b c.put16-2.new.buf c.put16-3.new.buf m4 c.put16-3.ensures in
    let m6 = more ((bytes 2 (a.len - 2)) ++ (1 ∷ []) ++ (a.kind ∷ []) ++ (bytes 2 a.house) ++ (bytes 2 a.bay)) (a.signer ∷ []) b c.put16-3.new.buf c.put8-3.new.buf m5 c.put8-3.ensures in
    m6
