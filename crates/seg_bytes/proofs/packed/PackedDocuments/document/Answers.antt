-- The document is read back.
use Rattle.seg_bytes.proofs.OnlyLemmas.{same_value}
use Rattle.std.proofs.Common.{◌∙◌, sym}
use Rattle.seg_bytes.proofs.PackedLemmas.{some_document, read_of, not_refused}
use Rattle.seg_bytes.proofs.packed.PackedDocuments.document.Goals as goal

pub unreachable-requires : goal.unreachable-requires
unreachable-requires c =
    not_refused _ _ _ c.in-Err-Bad.field-0 _
    (read_of _ _ c.bytes_from.result.now (c.bytes_from.ensures some_document))
    c.in-Err-Bad.field-0-is c.in-Err-Bad.ensures

pub returns-in-Ok : goal.returns-in-Ok
returns-in-Ok c = λ d.
    same_value _ _ _ _ (sym c.in-Ok.ensures
    ∙ read_of _ _ c.bytes_from.result.now (c.bytes_from.ensures d))
