-- What a search answers over its matching paths is the report of a search over documents.
use Rattle.std.proofs.Common.{◌≡◌, ◌<◌, ℕ, Bool, true, List, length, Option, subst}
use Rattle.sg_base.specs.ByteStrings.{lacks}
use Rattle.sg_base.specs.Cuts.{PlainCut}
use Rattle.sg_base.specs.declared.node.Edge.{Edge}
use Rattle.sg_base.specs.declared.rank.Rank.{Rank}
use Rattle.sg_context.specs.Queries.{PlainQuery, IsQuery}
use Rattle.sg_paths.specs.Operations.{PlainNumbered}
use Rattle.sg_answers.specs.Reports.{IsSearch, queue_size, live_of, viewed_segment}
use Rattle.fst_code.specs.Lists.{root_paths}
use Rattle.fst_walk.specs.Starts.{start_contexts}
use Rattle.path_desk.specs.declared.entry.Entry.{Entry}
use Rattle.best_first.specs.Listings.{IsListing}
use Rattle.best_first.specs.Parts.{AreDocuments, IsMapping}
use Rattle.best_first.specs.PathMatches.{matches_of}
use Rattle.best_first.specs.Roots.{AreRoots}
use Rattle.best_first.proofs.ClosingLemmas.{Answers}
use Rattle.best_first.proofs.ReportLemmas.{is_search}
use Rattle.best_first.proofs.SearchesLemmas.{segment_of}
use Rattle.best_first.proofs.SegmentLemmas.{roots_length}

pub search_of : (query : PlainQuery) (ds : List PlainNumbered) (marks : List Bool)
    (nodes : List (List Edge)) (generation : ℕ) (roots : List Entry) → AreDocuments ds
    → IsMapping nodes ds → IsQuery query → lacks 0 query.prefix ≡ true
    → AreRoots query nodes 0 (start_contexts (root_paths nodes) query) roots
    → 0 < length (live_of ds marks) → (k room : ℕ) → k ≡ query.k
    → room ≡ queue_size query.k (viewed_segment generation ds marks)
    → (rows : List Rank) (cut : Option PlainCut)
    → Answers (matches_of query ds (start_contexts (root_paths nodes) query) marks) query.prefix
    (length roots) k room generation rows cut
    → IsSearch query (viewed_segment generation ds marks) rows cut
search_of query ds marks nodes generation roots a m is clean are live k room same q rows cut h =
    let starts : List (List ℕ) = start_contexts (root_paths nodes) query in
    let n : length roots ≡ length starts = roots_length query nodes 0 starts roots are in
    let seg = segment_of query ds nodes marks roots a m is clean are in
    let listing = subst (IsListing (matches_of query ds starts marks)) n seg.listing in
    let A : ℕ → Type 0 = λ count.
    Answers (matches_of query ds starts marks) query.prefix count k room generation rows cut in
    let B : ℕ → Type 0 = λ rows_asked.
    Answers (matches_of query ds starts marks) query.prefix (length starts) rows_asked room
    generation rows cut in
    let C : ℕ → Type 0 = λ size.
    Answers (matches_of query ds starts marks) query.prefix (length starts) query.k size
    generation rows cut in
    let w = subst C q (subst B same (subst A n h)) in
    is_search query ds marks nodes generation a m listing live rows cut w.report w.exact
