-- The bytes begin with the document, whose id is UTF-8.
use Rattle.std.proofs.Common.{◌∙◌, ap}
use Rattle.std.proofs.lemmas.Bool.{and_parts}
use Rattle.std.specs.Str.{is_utf8}
use Rattle.seg_bytes.proofs.PackedLemmas.{some_document}
use Rattle.seg_bytes.proofs.packed.PackedDocuments.id_bytes.Goals as goal

pub id_in-requires : goal.id_in-requires
id_in-requires c = (_, _, c.bytes_from.ensures some_document)

pub returns-clause-utf8 : goal.returns-clause-utf8
returns-clause-utf8 c =
    let begins = c.bytes_from.ensures some_document in
    ap is_utf8 (c.id_in.ensures.front _ _ begins)
    ∙ (and_parts _ _ begins.writable.id).0
