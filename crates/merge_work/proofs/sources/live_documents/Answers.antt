-- There are as many live docs as documents, and what is kept rises.
use Rattle.std.proofs.Common.{◌∙◌, ap, sym, subst, Bool, List, length, map}
use Rattle.sg_paths.specs.Operations.{PlainNumbered}
use Rattle.segment.specs.Pieces.{PlainPiece, piece_documents}
use Rattle.segment.specs.Represents.{NumbersRise}
use Rattle.piece_docs.proofs.LiveLemmas.{live_docs_less-length}
use Rattle.merge_work.proofs.MergedLemmas.{numbers_rise-live_of}
use Rattle.merge_work.proofs.sources.live_documents.Goals as goal

pub kept_of-requires : goal.kept_of-requires
kept_of-requires c =
    ap (λ (live_docs : List Bool). length live_docs) (c.deref.ensures ∙ c.in_ok-live.ensures)
    ∙ live_docs_less-length c.args.upto (map (λ b. b.value) c.args.batches.now) c.args.piece.now
    c.requires.live_docs
    ∙ ap (λ (ds : List PlainNumbered). length ds)
    (sym (c.table-table.ensures.documents ∙ c.segment_of-segment.ensures
    ∙ ap (λ (p : PlainPiece). piece_documents p) c.piece.view_is))

pub returns-clause-rise : goal.returns-clause-rise
returns-clause-rise c =
    subst (λ (ds : List PlainNumbered). NumbersRise ds) (sym c.in_ok-kept.ensures)
    (numbers_rise-live_of c.table-table.result.now c.deref.result.now
    (subst (λ (ds : List PlainNumbered). NumbersRise ds) (sym c.table-table.ensures.documents)
    c.table-table.ensures.rise))
