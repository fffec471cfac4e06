-- The report of the segment's search is that of the view's segment.
use Rattle.std.proofs.Common.{◌∙◌, Bool, List, ap}
use Rattle.sg_paths.specs.Operations.{PlainNumbered}
use Rattle.sg_view.proofs.HitLemmas.{search_in}
use Rattle.sg_view.proofs.StepLemmas.{marked_live}
use Rattle.sg_view.proofs.searching.search_viewed.Goals as goal

pub search-requires-clause-live : goal.search-requires-clause-live
search-requires-clause-live g c =
    marked_live c.args.view.now.segments c.args.piece (record {
      generation = c.viewed.inside.generation;
      documents = c.viewed.inside.segment.value;
      live_docs = c.deref.result.now;
    })
    (ap (λ (live_docs : List Bool). record {
      generation = c.viewed.inside.generation;
      documents = c.viewed.inside.segment.value;
      live_docs = live_docs;
    }) c.deref.ensures
    ∙ c.viewed.view_is ∙ c.viewed-viewed.ensures.value) c.viewed-viewed.ensures.counted
    c.requires.live

pub returns-clause-search : goal.returns-clause-search
returns-clause-search g c =
    search_in c.args.query.now c.args.view.now.segments c.args.piece (record {
      generation = c.viewed.inside.generation;
      documents = c.of-parts.result.documents;
      live_docs = c.deref.result.now;
    }) c.in_ok-report.report.hits.items c.in_ok-report.report.cut c.requires.piece
    (ap (λ (live_docs : List Bool). record {
      generation = c.viewed.inside.generation;
      documents = c.of-parts.result.documents;
      live_docs = live_docs;
    }) c.deref.ensures
    ∙ ap (λ (ds : List PlainNumbered). record {
      generation = c.viewed.inside.generation;
      documents = ds;
      live_docs = c.viewed.inside.live.value;
    }) (c.of-parts.ensures ∙ c.deref-segment.ensures)
    ∙ c.viewed.view_is ∙ c.viewed-viewed.ensures.value)
    c.in_ok-report.ensures.hits c.in_ok-report.ensures.search
