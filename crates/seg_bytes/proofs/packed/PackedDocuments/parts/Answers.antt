-- The bytes of the suggestions from the place on begin with the suggestion there.
use Rattle.std.proofs.Common.{◌∙◌, ◌≤◌, length, get_or, ap, arith}
use Rattle.std.proofs.lemmas.Bool.{and_parts}
use Rattle.std.specs.Str.{is_utf8}
use Rattle.seg_bytes.proofs.PackedLemmas.{some_document, some_suggestion}
use Rattle.seg_bytes.proofs.SteppingLemmas.{next_of}
use Rattle.seg_bytes.proofs.packed.PackedDocuments.parts.Goals as goal

pub suggestions_in-suggestions-requires : goal.suggestions_in-suggestions-requires
suggestions_in-suggestions-requires c = (_, _, c.bytes_from.ensures some_document)

pub behind_suggestions-requires : goal.behind_suggestions-requires
behind_suggestions-requires c =
    let ss = (get_or c.args.self.now c.args.doc some_document).document.suggestions in
    let most : c.args.place ≤ length ss =
    (let h = c.requires.suggestion some_document in omega (arith, h)) in
    (ss, _, most, c.suggestions_in-suggestions.ensures _ _ (c.bytes_from.ensures some_document))

pub suggestion_parts-requires : goal.suggestion_parts-requires
suggestion_parts-requires c =
    let ss = (get_or c.args.self.now c.args.doc some_document).document.suggestions in
    let less = c.requires.suggestion some_document in
    let most : c.args.place ≤ length ss = omega (arith, less) in (
      _,
      _,
      _,
      next_of ss c.args.place some_suggestion _ c.behind_suggestions.result.now less
          (c.behind_suggestions.ensures ss _ most
          (c.suggestions_in-suggestions.ensures _ _ (c.bytes_from.ensures some_document))),
    )

pub returns-clause-utf8 : goal.returns-clause-utf8
returns-clause-utf8 c =
    let ss = (get_or c.args.self.now c.args.doc some_document).document.suggestions in
    let less = c.requires.suggestion some_document in
    let most : c.args.place ≤ length ss = omega (arith, less) in
    let begins = next_of ss c.args.place some_suggestion _ c.behind_suggestions.result.now less
    (c.behind_suggestions.ensures ss _ most
    (c.suggestions_in-suggestions.ensures _ _ (c.bytes_from.ensures some_document))) in
    ap is_utf8 (c.suggestion_parts.ensures.text _ _ _ begins)
    ∙ (and_parts _ _ begins.writable.0.text).0
