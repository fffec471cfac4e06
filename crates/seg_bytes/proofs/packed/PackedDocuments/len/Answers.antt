-- As many documents as offsets.
use Rattle.std.proofs.Common.{arith}
use Rattle.seg_bytes.proofs.PackedLemmas.{packed_is, many_starts}
use Rattle.seg_bytes.proofs.packed.PackedDocuments.len.Goals as goal

pub returns-clause-value : goal.returns-clause-value
returns-clause-value c =
    let docs = c.args.self.now in
    let starts = c.self.inside.starts.items in
    let bytes = c.self.inside.bytes.items in
    let many = many_starts docs bytes starts
    (packed_is docs _ bytes starts c.self.view_is c.self.invariant) in
    let len = c.len.ensures in
    let items = c.self.inside.starts.ok.0 in
    omega (arith, many, len, items)

pub returns-clause-most : goal.returns-clause-most
returns-clause-most c =
    let docs = c.args.self.now in
    let starts = c.self.inside.starts.items in
    let bytes = c.self.inside.bytes.items in
    let p = packed_is docs _ bytes starts c.self.view_is c.self.invariant in
    let many = many_starts docs bytes starts p in
    let len = c.len.ensures in
    let items = c.self.inside.starts.ok.0 in
    let few = p.few in
    omega (arith, many, len, items, few)
