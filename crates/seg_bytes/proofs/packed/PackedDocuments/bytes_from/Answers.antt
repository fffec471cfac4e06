-- The bytes from where the document begins.
use Rattle.std.proofs.Common.{length, ap, arith}
use Rattle.seg_bytes.proofs.PackedLemmas.{packed_is, many_starts, starts_within, begins_there}
use Rattle.seg_bytes.proofs.packed.PackedDocuments.bytes_from.Goals as goal

pub start_at-requires : goal.start_at-requires
start_at-requires c =
    let docs = c.args.self.now in
    let starts = c.self.inside.starts.items in
    let bytes = c.self.inside.bytes.items in
    let p = packed_is docs _ bytes starts c.self.view_is c.self.invariant in
    let many = many_starts docs bytes starts p in
    let given = c.requires in
    let len = ap length c.as_slice-2.ensures.value in
    omega (arith, many, given, len)

pub behind-requires : goal.behind-requires
behind-requires c =
    let docs = c.args.self.now in
    let starts = c.self.inside.starts.items in
    let bytes = c.self.inside.bytes.items in
    let p = packed_is docs _ bytes starts c.self.view_is c.self.invariant in
    rw (c.start_at.ensures, c.as_slice-2.ensures.value, c.as_slice.ensures.value)
    (starts_within docs bytes starts p c.args.doc c.requires)

pub returns : goal.returns
returns c = λ d.
    let docs = c.args.self.now in
    let starts = c.self.inside.starts.items in
    let bytes = c.self.inside.bytes.items in
    let p = packed_is docs _ bytes starts c.self.view_is c.self.invariant in
    rw (c.behind.ensures, c.start_at.ensures, c.as_slice-2.ensures.value, c.as_slice.ensures.value)
    (begins_there docs bytes starts p c.args.doc c.requires d)
