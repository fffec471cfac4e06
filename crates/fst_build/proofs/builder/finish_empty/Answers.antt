-- Sixteen bytes.
use Rattle.std.proofs.Common.{◌∙◌, [], refl, sym, ap}
use Rattle.fst_code.specs.Lists.{list_of}
use Rattle.fst_code.proofs.OneTextLemmas.{none_listed, text_of_none}
use Rattle.fst_build.proofs.builder.finish_empty.Goals as goal

pub returns-clause-only : goal.returns-clause-only
returns-clause-only c =
    λ b fits valid same. text_of_none b fits valid same
    ∙ sym (c.of_valid.ensures ∙ c.in_ok-bytes.ensures)

pub returns-clause-maps : goal.returns-clause-maps
returns-clause-maps c =
    ap list_of (c.of_valid.ensures ∙ c.in_ok-bytes.ensures) ∙ none_listed [] refl
