use Rattle.std.proofs.Common.{ℕ, List, [], ◌++◌, replicate, refl}
use Rattle.base.specs.Bytes.{bytes}
use Rattle.base.proofs.Bytes.{more}
use Rattle.digest.specs.Sha256.{joined}
use Rattle.digest.proofs.bytes_of.Goals as goal

-- Each word is put behind those so far; after eight nothing of the zeros is left.
pub returns : goal.returns
unfolding joined bytes
returns c =
    let H = c.args.value in
    let zeros : List ℕ = replicate 32 0 in
    let p1 = bytes 4 H.a in
    let e1 = more [] (bytes 4 H.a) zeros zeros c.put32.new.buf refl c.put32.ensures in
    let p2 = p1 ++ bytes 4 H.b in
    let e2 = more p1 (bytes 4 H.b) zeros c.put32.new.buf c.put32-2.new.buf e1 c.put32-2.ensures in
    let p3 = p2 ++ bytes 4 H.c in
    let e3 = more p2 (bytes 4 H.c) zeros c.put32-2.new.buf c.put32-3.new.buf e2 c.put32-3.ensures in
    let p4 = p3 ++ bytes 4 H.d in
    let e4 = more p3 (bytes 4 H.d) zeros c.put32-3.new.buf c.put32-4.new.buf e3 c.put32-4.ensures in
    let p5 = p4 ++ bytes 4 H.e in
    let e5 = more p4 (bytes 4 H.e) zeros c.put32-4.new.buf c.put32-5.new.buf e4 c.put32-5.ensures in
    let p6 = p5 ++ bytes 4 H.f in
    let e6 = more p5 (bytes 4 H.f) zeros c.put32-5.new.buf c.put32-6.new.buf e5 c.put32-6.ensures in
    let p7 = p6 ++ bytes 4 H.g in
    let e7 = more p6 (bytes 4 H.g) zeros c.put32-6.new.buf c.put32-7.new.buf e6 c.put32-7.ensures in
    more p7 (bytes 4 H.h) zeros c.put32-7.new.buf c.put32-8.new.buf e7 c.put32-8.ensures
