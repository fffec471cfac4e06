-- A sound header is whole.
use Rattle.std.proofs.Common.{sym}
use Rattle.segment.proofs.ReadingLemmas.{whole_header}
use Rattle.segment.proofs.checking.documents_of.Goals as goal

pub documents_behind-requires-clause-whole : goal.documents_behind-requires-clause-whole
documents_behind-requires-clause-whole c = whole_header c.args.bytes.now (sym c.in-None.ensures)
