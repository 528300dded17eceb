use Rattle.graph.specs.Memory.{view_of}
use Rattle.graphfile.specs.Writer.{contents_of}
use Rattle.graphfile.proofs.Putting.{file_least, file_length, file_most_lem, headed, quorums_room, rows_room, body_end, file_put}
use borrow.Author.Rules.{rules}
use native.Mathlib.Omega.{arith}
use Rattle.graphfile.proofs.writer.put_file.Goals as goal

pub put8-requires : goal.put8-requires
put8-requires c =
    let g = c.args.graph.now in
    let f = contents_of (view_of g) in
    let p = c.requires.1 in
    let n = file_least f in
    let r = p.room in
    search rules

pub put8-requires-2 : goal.put8-requires-2
put8-requires-2 c =
    let g = c.args.graph.now in
    let f = contents_of (view_of g) in
    let p = c.requires.1 in
    let n = file_least f in
    let r = p.room in
    search rules

pub put8-requires-3 : goal.put8-requires-3
put8-requires-3 c =
    let g = c.args.graph.now in
    let f = contents_of (view_of g) in
    let p = c.requires.1 in
    let n = file_least f in
    let r = p.room in
    search rules

pub put_quorums-at-requires : goal.put_quorums-at-requires
put_quorums-at-requires c =
    let g = c.args.graph.now in
    let f = contents_of (view_of g) in
    let p = c.requires.1 in
    let b = c.args.out.now in
    let H = headed f b p.room c.put8.new.buf c.put8-2.new.buf c.put8-3.new.buf c.put8.ensures c.put8-2.ensures c.put8-3.ensures in
    let n = quorums_room f b p.room c.put8-3.new.buf H in
    (c.requires.0, record { fit = p.fit; room = search rules })

pub put_rows-end-requires : goal.put_rows-end-requires
put_rows-end-requires c =
    let g = c.args.graph.now in
    let f = contents_of (view_of g) in
    let p = c.requires.1 in
    let b = c.args.out.now in
    let H = headed f b p.room c.put8.new.buf c.put8-2.new.buf c.put8-3.new.buf c.put8.ensures c.put8-2.ensures c.put8-3.ensures in
    let q = c.put_quorums-at in
    let n = rows_room f b p.room c.put8-3.new.buf H q.result q.new.out q.ensures in
    (c.requires.0, record { fit = p.fit; room = search rules })

pub put16-requires : goal.put16-requires
put16-requires c =
    let g = c.args.graph.now in
    let f = contents_of (view_of g) in
    let p = c.requires.1 in
    let b = c.args.out.now in
    let H = headed f b p.room c.put8.new.buf c.put8-2.new.buf c.put8-3.new.buf c.put8.ensures c.put8-2.ensures c.put8-3.ensures in
    let q = c.put_quorums-at in
    let r = c.put_rows-end in
    let n = body_end f b p.room c.put8-3.new.buf H q.result q.new.out q.ensures r.result r.new.out r.ensures in
    let k = file_least f in
    let l = file_length f in
    let w = file_most_lem g.acceptors g.learners g.counts g.masks c.requires.0 in
    let m = p.room in
    (search rules, omega arith)

pub returns : goal.returns
returns c =
    let g = c.args.graph.now in
    let f = contents_of (view_of g) in
    let p = c.requires.1 in
    let b = c.args.out.now in
    let H = headed f b p.room c.put8.new.buf c.put8-2.new.buf c.put8-3.new.buf c.put8.ensures c.put8-2.ensures c.put8-3.ensures in
    let q = c.put_quorums-at in
    let r = c.put_rows-end in
    file_put f b p.room c.put8-3.new.buf H q.result q.new.out q.ensures r.result r.new.out r.ensures c.put16.new.buf c.put16.ensures
