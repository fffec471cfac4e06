-- What is brought is what the parts keep.
use Rattle.std.proofs.Common.{◌∙◌, ap, sym, subst, List, map}
use Rattle.segment.specs.Pieces.{PlainPiece}
use Rattle.segment.specs.Views.{PlainParts, AreCovered}
use Rattle.merge_work.specs.Merging.{merged_documents, unless_empty}
use Rattle.merge_work.specs.Working.{AreSources, documents_kept}
use Rattle.merge_work.proofs.LiveLemmas.{kept-covered}
use Rattle.merge_work.proofs.job.MergeJob.work.Goals as goal

pub merged_segment-requires : goal.merged_segment-requires
merged_segment-requires c =
    let own : AreSources c.self.inside.parts.pieces = record {
      sources = c.self.invariant.sources;
      numbers = c.self.invariant.numbers;
      documents = c.self.invariant.documents;
      paths = c.self.invariant.paths;
    } in
    subst (λ (ps : List PlainPiece). AreSources ps)
    (sym (c.items.ensures ∙ ap (λ (p : PlainParts). p.pieces) c.parts.view_is)) own

pub of-requires : goal.of-requires
of-requires c = λ journal are.
    let upto = c.parts.inside.upto in
    let kept =
    ap (λ (ps : List PlainPiece).
    documents_kept upto (map (λ b. b.value) c.items-2.result.now) ps) c.items.ensures
    ∙ ap (λ bs. documents_kept upto (map (λ b. b.value) bs) c.parts.inside.pieces.items)
    c.items-2.ensures
    ∙ ap (λ (p : PlainParts). documents_kept p.upto p.batches p.pieces) c.parts.view_is
    ∙ kept-covered journal c.self.inside.parts are in
    c.in-Ok.ensures ∙ ap unless_empty kept

pub returns-clause-merged : goal.returns-clause-merged
returns-clause-merged c = λ journal are.
    c.of.ensures.segment
    ∙ of-requires c.before journal
    (subst (λ (p : PlainParts). AreCovered journal p) (sym c.self.view_is) are)
    ∙ ap (λ (p : PlainParts). unless_empty (merged_documents journal p)) c.self.view_is
