use mathlib.Core.Path.{refl}
use mathlib.Core.List.{[], ◌∷◌, ◌++◌}
use lib.ListN.{length-append}
use Rattle.base.specs.Bytes.{bytes}
use Rattle.base.proofs.Bytes.{more, more_at}
use native.Mathlib.Omega.{arith}
use Rattle.plain.proofs.message_calls.put_row.Goals as goal

pub returns : goal.returns
unfolding bytes
returns c =
    let a = c.args in
    let b = a.fields.now in
    let old = a.previous.now in
    let long = c.requires.1 in
    let m1 = more ([]) (a.kind ∷ []) b b c.put8.new.buf refl c.put8.ensures in
    let m2 = more ((a.kind ∷ [])) (bytes 2 a.house) b c.put8.new.buf c.put16.new.buf m1 c.put16.ensures in
    let m3 = more ((a.kind ∷ []) ++ (bytes 2 a.house)) (bytes 2 a.bay) b c.put16.new.buf c.put16-2.new.buf m2 c.put16-2.ensures in
    let m4 = more ((a.kind ∷ []) ++ (bytes 2 a.house) ++ (bytes 2 a.bay)) (a.signer ∷ []) b c.put16-2.new.buf c.put8-2.new.buf m3 c.put8-2.ensures in
    let m5 = more ((a.kind ∷ []) ++ (bytes 2 a.house) ++ (bytes 2 a.bay) ++ (a.signer ∷ [])) (bytes 8 a.ballot) b c.put8-2.new.buf c.put64.new.buf m4 c.put64.ensures in
    let m6 = more ((a.kind ∷ []) ++ (bytes 2 a.house) ++ (bytes 2 a.bay) ++ (a.signer ∷ []) ++ (bytes 8 a.ballot)) (a.marker ∷ []) b c.put64.new.buf c.put8-3.new.buf m5 c.put8-3.ensures in
    let m7 = more ((a.kind ∷ []) ++ (bytes 2 a.house) ++ (bytes 2 a.bay) ++ (a.signer ∷ []) ++ (bytes 8 a.ballot) ++ (a.marker ∷ [])) (old) b c.put8-3.new.buf c.put_all.new.buf m6 c.put_all.ensures in
    let w = length-append ((a.kind ∷ []) ++ (bytes 2 a.house) ++ (bytes 2 a.bay) ++ (a.signer ∷ []) ++ (bytes 8 a.ballot) ++ (a.marker ∷ [])) old in
    more_at ((a.kind ∷ []) ++ (bytes 2 a.house) ++ (bytes 2 a.bay) ++ (a.signer ∷ []) ++ (bytes 8 a.ballot) ++ (a.marker ∷ []) ++ (old)) (a.count ∷ []) b c.put_all.new.buf c.put8-4.new.buf 47 (omega arith) m7 c.put8-4.ensures
