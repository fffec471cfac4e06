-- What built views answer: the report that a record expects, which is an answer over its journal.
use Rattle.std.proofs.Common.{◌≡◌, ◌≤◌, ℕ, not, List, [], ◌∷◌, ◌++◌, length, map, take, drop}
use Rattle.std.proofs.Common.{Option, refl, sym, ap, ◌∙◌, subst}
use Rattle.std.specs.Prelude.{filter}
use Rattle.std.specs.List.{AllByRecursion, list_any}
use Rattle.std.proofs.lemmas.List.{take-append-le}
use Rattle.std.proofs.lemmas.List.Elements.{filter_agree}
use Rattle.sg_base.specs.Cuts.{PlainCut}
use Rattle.sg_base.specs.declared.rank.Rank.{Rank}
use Rattle.sg_context.specs.Queries.{PlainQuery}
use Rattle.sg_paths.specs.Operations.{PlainOp, PlainNumbered, documents_from}
use Rattle.sg_paths.specs.LiveDocuments.{is_deleted, live_documents, deletes_id}
use Rattle.sg_answers.specs.declared.limits.TheConstants.{MOST_QUEUED}
use Rattle.sg_answers.specs.Reports.{ViewedSegment, IsReport, IsSoundOver}
use Rattle.segment.specs.Views.{PlainParts}
use Rattle.sg_view.specs.Viewing.{LiveSegment, seen_segment, PlainView, viewed_segments, Represents}
use Rattle.sg_view.specs.Viewing.{IsViewOf}
use Rattle.index_core.specs.Histories.{Record, View}
use Rattle.index_core.specs.Generations.{documents_of}
use Rattle.index_core.specs.OpenViews.{view_of}
use Rattle.index_core.specs.CurrentPieces.{AreOf}
use Rattle.wire_json.specs.Commands.{suggests}
use Rattle.wire_replies.specs.Replies.{Reply, rows}
use Rattle.sg_shell.specs.Rows.{printed_rows, row_of}
use Rattle.sg_shell.specs.Runs.{segment_seen, segments_seen, IsReportReply}
use Rattle.sg_shell.specs.Sessions.{IsAnswer, IsAnswered}
use Rattle.sg_shell.specs.Viewed.{IsViewIn}
use Rattle.sg_shell.specs.RunLaws.{ViewsMeetTheirReports, ReportsAreAnswers}
use Rattle.sg_shell.proofs.OverallLemmas.{sound_over_all}

-- ---- a built view

-- what is seen of segments, by their generations and documents
segments_are : (journal : List PlainOp) (n : ℕ) (docs : ℕ → List PlainNumbered)
    (ss : List LiveSegment) (gs : List ℕ)
    → map (λ s. s.generation) ss ≡ gs → map (λ s. s.documents) ss ≡ map docs gs
    → AllByRecursion (λ s. s.live ≡ filter (λ d. not (is_deleted journal n d)) s.documents)
    (map seen_segment ss)
    → map seen_segment ss ≡ map (λ g. record {
      generation = g;
      documents = docs g;
      live = filter (λ d. not (is_deleted journal n d)) (docs g);
    }) gs
segments_are journal n docs [] [] same all exact = refl
segments_are journal n docs [] (g ∷ gs) same all exact = cc
segments_are journal n docs (s ∷ ss) [] same all exact = cc
segments_are journal n docs (s ∷ ss) (g ∷ gs) same all exact =
    let live : List PlainNumbered → List PlainNumbered =
    filter (λ d. not (is_deleted journal n d)) in
    let seen : List PlainNumbered → List PlainNumbered → ViewedSegment = λ ds ls.
    record { generation = g; documents = ds; live = ls } in
    let generation : s.generation ≡ g = cc in
    let documents : s.documents ≡ docs g = cc in
    let generations : map (λ x. x.generation) ss ≡ gs = cc in
    let later : map (λ x. x.documents) ss ≡ map docs gs = cc in
    let here : seen_segment s ≡ seen (docs g) (live (docs g)) =
    ap (λ (x : ℕ). record {
      generation = x;
      documents = s.documents;
      live = (seen_segment s).live;
    }) generation
    ∙ ap (seen s.documents) (exact.0 ∙ ap live documents)
    ∙ ap (λ (ds : List PlainNumbered). seen ds (live (docs g))) documents in
    ap (λ (x : ViewedSegment). x ∷ map seen_segment ss) here
    ∙ ap (λ (xs : List ViewedSegment). seen (docs g) (live (docs g)) ∷ xs)
    (segments_are journal n docs ss gs generations later exact.1)

-- what a view that is built of parts of a record sees is what the record says
pub built_sees : (r : Record) (caller : ℕ) (parts : PlainParts) (v : PlainView) → AreOf r parts
    → IsViewOf parts v → Represents r.journal v
    → viewed_segments v ≡ segments_seen r (view_of caller parts)
built_sees r caller parts v of is represents =
    segments_are r.journal v.upto (documents_of r) v.segments parts.generations
    (is.segments ∙ of.parts_of.pieces.generations) (is.documents ∙ of.documents) represents.exact
    ∙ ap (λ (n : ℕ). map (segment_seen r n) parts.generations) is.upto

-- the report of a view that sees what the record says
pub meets_seen : (r : Record) (v : View) (w : PlainView) (line upto : ℕ) (query : PlainQuery)
    (ranks : List Rank) (cut : Option PlainCut) → upto ≡ v.upto
    → viewed_segments w ≡ segments_seen r v → IsReport query (viewed_segments w) ranks cut
    → IsReportReply line (rows line upto (printed_rows r.journal upto ranks) cut) r v query
meets_seen r v w line upto query ranks cut same sees report = record {
  ranks = ranks;
  cut = cut;
  is = ap (λ (n : ℕ). rows line n (printed_rows r.journal n ranks) cut) same;
  report = subst (λ (ss : List ViewedSegment). IsReport query ss ranks cut) sees report;
}

pub meets_report : ViewsMeetTheirReports
meets_report r caller line parts v query ranks cut of is represents report =
    meets_seen r (view_of caller parts) v line v.upto query ranks cut is.upto
    (built_sees r caller parts v of is represents) report

-- ---- over a journal that grows

-- the first operations, whatever comes behind them
pub first_stays : (journal more : List PlainOp) (n : ℕ) → n ≤ length journal
    → take n (journal ++ more) ≡ take n journal
first_stays journal more n within = take-append-le n journal more within

pub deleted_stays : (journal more : List PlainOp) (n : ℕ) (d : PlainNumbered) → n ≤ length journal
    → is_deleted (journal ++ more) n d ≡ is_deleted journal n d
deleted_stays journal more n d within =
    ap (λ (ops : List PlainOp). list_any (deletes_id d.document.id) (drop d.seq ops))
    (first_stays journal more n within)

pub live_stays : (journal more : List PlainOp) (n : ℕ) → n ≤ length journal
    → live_documents (journal ++ more) n ≡ live_documents journal n
live_stays journal more n within =
    filter_agree (λ d. not (is_deleted (journal ++ more) n d)) (λ d. not (is_deleted journal n d))
    (λ d. ap not (deleted_stays journal more n d within))
    (documents_from 1 (take n (journal ++ more)))
    ∙ ap (λ (ops : List PlainOp). filter (λ d. not (is_deleted journal n d))
    (documents_from 1 ops)) (first_stays journal more n within)

answer_of : (r : Record) (v : View) (more : List PlainOp) (n : ℕ) (query : PlainQuery)
    (reply : Reply) → IsViewIn r v → query.k ≤ MOST_QUEUED
    → (is : IsReportReply n reply r v query)
    → IsAnswer (r.journal ++ more) query v.upto (printed_rows r.journal v.upto is.ranks) is.cut
answer_of r v more n query reply view few is =
    let first = first_stays r.journal more v.upto view.within in
    let live = live_stays r.journal more v.upto view.within in
    let sound : IsSoundOver query (documents_from 1 (take v.upto r.journal))
    (live_documents r.journal v.upto) is.ranks is.cut =
    sound_over_all query (segments_seen r v) (documents_from 1 (take v.upto r.journal))
    (live_documents r.journal v.upto) is.ranks is.cut few view.same view.each is.report.sound in
    record {
      ranks = is.ranks;
      printed = ap (λ (ops : List PlainOp). map (row_of (documents_from 1 ops)) is.ranks)
          (sym first);
      sound =
          subst (λ (ops : List PlainOp). IsSoundOver query (documents_from 1 ops)
          (live_documents (r.journal ++ more) v.upto) is.ranks is.cut) (sym first)
          (subst (λ (ds : List PlainNumbered). IsSoundOver query
          (documents_from 1 (take v.upto r.journal)) ds is.ranks is.cut) (sym live) sound);
    }

pub answers : ReportsAreAnswers
answers r v more line lane query name reply view few is =
    subst (IsAnswered (r.journal ++ more) (suggests lane query name)) (sym is.is)
    (answer_of r v more line query reply view few is)
