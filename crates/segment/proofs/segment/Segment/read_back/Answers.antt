-- What is written of a segment is accepted, with its documents.
use Rattle.std.proofs.Common.{◌<◌, ℕ, List, length, ap, ◌∙◌, arith}
use Rattle.std.specs.List.{AllByRecursion}
use Rattle.sg_paths.specs.Operations.{PlainNumbered}
use Rattle.seg_bytes.specs.Laws.{IsWritable}
use Rattle.segment.specs.Represents.{Represents}
use Rattle.segment.specs.Laws.{IsNumbered, MayBeHeld}
use Rattle.segment.proofs.RoundLemmas.{none_refused, same_documents}
use Rattle.segment.proofs.segment.Segment.read_back.Goals as goal

may_be_held : (docs : List PlainNumbered) (text : List ℕ) → AllByRecursion IsWritable docs
    → AllByRecursion IsNumbered docs → Represents docs text → MayBeHeld docs
may_be_held docs text writable numbered r = record {
  writable = writable;
  numbered = numbered;
  rise = r.rise;
  few = r.few;
  many = r.many;
}

pub unreachable-requires : goal.unreachable-requires
unreachable-requires c =
    let docs = c.self.inside.table in
    let bytes = c.in_ok-bytes.bytes.items in
    let bad = rw c.in-Err-Bad.field-0-is at c.in-Err-Bad.ensures.err in
    let may = may_be_held docs c.self.inside.transducer c.bytes.ensures.writable
    (rw (← c.self.view_is) at c.requires) c.self.invariant in
    let size = ap (λ (bs : List ℕ). length bs) c.as_slice.ensures in
    let fits : length bytes < 18446744073709551616 = omega (arith, size) in
    none_refused c.what_was_written_is_accepted.ensures docs bytes
    (c.in-Err-Bad.field-0-0, c.in-Err-Bad.field-0-1) may
    (rw (← c.self.view_is) at c.in_ok-bytes.ensures) fits bad

pub returns-in-Ok : goal.returns-in-Ok
returns-in-Ok c =
    let docs = c.self.inside.table in
    let bytes = c.in_ok-bytes.bytes.items in
    let may = may_be_held docs c.self.inside.transducer c.bytes.ensures.writable
    (rw (← c.self.view_is) at c.requires) c.self.invariant in
    let size = ap (λ (bs : List ℕ). length bs) c.as_slice.ensures in
    let fits : length bytes < 18446744073709551616 = omega (arith, size) in
    same_documents c.what_was_written_is_accepted.ensures docs c.in-Ok.segment bytes may
    (rw (← c.self.view_is) at c.in_ok-bytes.ensures) fits c.in-Ok.ensures.ok ∙ c.self.view_is
