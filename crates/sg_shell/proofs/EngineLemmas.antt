-- What each kind of line answers, from what the calls below say.
use Rattle.std.proofs.Common.{◌≡◌, ◌≤◌, ◌<◌, ℕ, not, List, [], ◌∷◌, ◌++◌, length, map}
use Rattle.std.proofs.Common.{Option, Some, None, refl, sym, ap, ◌∙◌, subst, arith}
use Rattle.std.specs.Prelude.{filter}
use Rattle.std.specs.List.{AllByRecursion, All}
use Rattle.sg_base.specs.Cuts.{PlainCut}
use Rattle.sg_base.specs.declared.hit.Hit.{Hit}
use Rattle.sg_context.specs.Queries.{PlainQuery}
use Rattle.sg_paths.specs.Operations.{PlainOp}
use Rattle.sg_paths.specs.LiveDocuments.{is_deleted}
use Rattle.sg_answers.specs.declared.limits.TheConstants.{MOST_QUEUED}
use Rattle.sg_answers.specs.Reports.{ViewedSegment, live_in, IsReport}
use Rattle.segment.specs.Items.{total_of}
use Rattle.collector.specs.Hits.{rows_of}
use Rattle.index_core.specs.declared.limits.TheConstants.{MOST_OPEN_VIEWS}
use Rattle.index_core.specs.Histories.{Record, View}
use Rattle.index_core.specs.Records.{open_views}
use Rattle.index_core.specs.LegalHistories.{IsLegal}
use Rattle.index_core.specs.Calls.{after_begin, after_end, begun_by}
use Rattle.index_shared.specs.OwnViews.{view_in}
use Rattle.sg_view.specs.Viewing.{PlainView, viewed_segments, Represents}
use Rattle.sg_view.specs.Rows.{HasHit, IsNumbered, hit_key}
use Rattle.index_shared.specs.Offers.{after_flush, built_by_flush}
use Rattle.wire_replies.specs.Replies.{Reply, rows, opened, built, failed}
use Rattle.wire_replies.specs.Rows.{Row}
use Rattle.wire_replies.specs.declared.error_kind.ErrorKind.TheVariants.{Views as NoRoom}
use Rattle.sg_shell.specs.Workers.{Open, Worker, with_seen, Step, says, reports}
use Rattle.sg_shell.specs.Workers.{named, begin_step, query_step, open_step, flush_step}
use Rattle.sg_shell.specs.Rows.{printed_rows}
use Rattle.sg_shell.specs.Runs.{segment_seen, IsReportReply}
use Rattle.sg_shell.specs.Viewed.{IsViewIn}
use Rattle.sg_shell.specs.Working.{Passes, IsShown, IsWorking, hit_row}
use Rattle.std.proofs.Common.{IfSome}
use Rattle.wire_json.specs.Commands.{Command, refused}
use Rattle.wire_json.specs.CommandForms.{kind_of, Refuses}
use Rattle.wire_json.specs.declared.errors.LineError.{LineError}
use Rattle.wire_replies.specs.declared.error_kind.ErrorKind.{ErrorKind}
use Rattle.sg_shell.specs.Workers.{step}
use Rattle.sg_shell.specs.Working.{Begins, Answers, NamedBuilt}
use Rattle.index_single.specs.declared.caller.TheConstants.{CALLER}
use Rattle.sg_shell.proofs.BeginLemmas.{passed}
use Rattle.sg_shell.proofs.PassLemmas.{passes_both}
use Rattle.sg_shell.proofs.HoldingLemmas.{begin_cases}
use Rattle.sg_shell.proofs.LaterLemmas.{all_shown}
use Rattle.sg_shell.proofs.PrintLemmas.{rows_are}
use Rattle.sg_shell.proofs.ReportLemmas.{meets_seen}

-- ---- reports

seen_exact : (r : Record) (n : ℕ) (gs : List ℕ)
    → AllByRecursion (λ s. s.live ≡ filter (λ d. not (is_deleted r.journal n d)) s.documents)
    (map (segment_seen r n) gs)
seen_exact r n [] = tt
seen_exact r n (g ∷ gs) = (refl, seen_exact r n gs)

-- a view that sees what the record says represents its first operations
pub represents_shown : (r : Record) (v : PlainView) → IsShown r v → Represents r.journal v
represents_shown r v shown = record {
  within = shown.is_in.within;
  exact = subst (AllByRecursion
      (λ s. s.live ≡ filter (λ d. not (is_deleted r.journal v.upto d)) s.documents))
      (sym shown.sees) (seen_exact r v.upto v.generations);
  live = λ f.
      ap (λ (ss : List ViewedSegment). total_of f (live_in ss)) shown.sees
      ∙ shown.is_in.same f;
}

pub reply_is : (line upto : ℕ) (query : PlainQuery) (v : PlainView) (hits : List Hit)
    (items : List Row) (cut : Option PlainCut) → upto ≡ v.upto
    → items ≡ map (hit_row v.segments) hits → All (HasHit v.segments) hits
    → All (IsNumbered v.segments) hits
    → ((journal : List PlainOp) → Represents journal v
    → IsReport query (viewed_segments v) (rows_of (hit_key v.segments) hits) cut)
    → (r : Record) → IsShown r v
    → IsReportReply line (rows line upto items cut) r (view_in CALLER v) query
reply_is line upto query v hits items cut same printed has numbers report r shown =
    let ranks = rows_of (hit_key v.segments) hits in
    let texts : items ≡ printed_rows r.journal v.upto ranks =
    printed ∙ rows_are r v shown hits has numbers in
    subst (λ (x : Reply). IsReportReply line x r (view_in CALLER v) query)
    (ap (λ (n : ℕ). rows line n (printed_rows r.journal v.upto ranks) cut) (sym same)
    ∙ ap (λ (xs : List Row). rows line upto xs cut) (sym texts))
    (meets_seen r (view_in CALLER v) v line v.upto query ranks cut refl shown.sees
    (report r.journal (represents_shown r v shown)))

-- ---- steps

-- a step that prints one reply
pub answers_says : (line : ℕ) (s : Step) (p : Reply) (after : Worker) → s ≡ says p after
    → Answers line s p after
answers_says line s p after is =
    subst (λ (x : Step). Answers line x p after) (sym is) (record {
      expected = Rattle.sg_shell.specs.Workers.prints p;
      expects = refl;
      meets = refl;
      viewed = tt;
      after_is = refl;
    })

pub begin_full : (n : ℕ) (w : Worker) (r : Record) (begins : Step)
    → MOST_OPEN_VIEWS ≤ length (open_views r)
    → begin_step n w r begins ≡ says (failed n NoRoom) (with_seen r w)
begin_full n w r begins full =
    begin_cases (λ s. s ≡ says (failed n NoRoom) (with_seen r w)) n w r begins (λ _. refl)
    (λ room. absurd (omega (arith, full, room)))

pub begin_room : (n : ℕ) (w : Worker) (r : Record) (begins : Step)
    → length (open_views r) < MOST_OPEN_VIEWS → begin_step n w r begins ≡ begins
begin_room n w r begins room =
    begin_cases (λ s. s ≡ begins) n w r begins (λ full. absurd (omega (arith, full, room)))
    (λ _. refl)

-- ---- a query over a view of its own

abbrev asks : PlainQuery → Worker → Record → Step
asks q w r = record {
  expected = Some (reports (after_begin CALLER r) (begun_by CALLER r) q);
  after = with_seen (after_end CALLER (begun_by CALLER r).view (after_begin CALLER r)) w;
}

pub query_full : (line : ℕ) (q : PlainQuery) (w : Worker) (mid new : Record)
    → mid ≡ after_flush CALLER w.seen → MOST_OPEN_VIEWS ≤ length (open_views mid) → new ≡ mid
    → Answers line (query_step CALLER line q w) (failed line NoRoom) (with_seen new w)
query_full line q w mid new flushed full same =
    subst (λ (r : Record). Answers line (begin_step line w r (asks q w r)) (failed line NoRoom)
    (with_seen new w)) flushed
    (answers_says line (begin_step line w mid (asks q w mid)) (failed line NoRoom)
    (with_seen new w)
    (begin_full line w mid (asks q w mid) full
    ∙ ap (λ (r : Record). says (failed line NoRoom) (with_seen r w)) (sym same)))

pub query_rows : (line : ℕ) (q : PlainQuery) (w : Worker) (mid new final : Record) (v : PlainView)
    (reply : Reply) → mid ≡ after_flush CALLER w.seen
    → length (open_views mid) < MOST_OPEN_VIEWS → new ≡ after_begin CALLER mid
    → view_in CALLER v ≡ begun_by CALLER mid → IsShown new v → final ≡ after_end CALLER v.number new
    → IsReportReply line reply new (view_in CALLER v) q → q.k ≤ MOST_QUEUED
    → Answers line (query_step CALLER line q w) reply (with_seen final w)
query_rows line q w mid new final v reply flushed room begins view shown ends report few =
    let ended : after_end CALLER (begun_by CALLER mid).view (after_begin CALLER mid) ≡ final =
    ap (λ (n : ℕ). after_end CALLER n (after_begin CALLER mid))
    (ap (λ (x : View). x.view) (sym view))
    ∙ ap (after_end CALLER v.number) (sym begins) ∙ sym ends in
    subst (λ (r : Record). Answers line (begin_step line w r (asks q w r)) reply
    (with_seen final w)) flushed
    (subst (λ (s : Step). Answers line s reply (with_seen final w))
    (sym (begin_room line w mid (asks q w mid) room))
    (record {
      expected = reports (after_begin CALLER mid) (begun_by CALLER mid) q;
      expects = refl;
      meets = subst (λ (x : View). IsReportReply line reply (after_begin CALLER mid) x q) view
          (subst (λ (r : Record). IsReportReply line reply r (view_in CALLER v) q) begins report);
      viewed = (
        subst (λ (x : View). IsViewIn (after_begin CALLER mid) x) view
            (subst (λ (r : Record). IsViewIn r (view_in CALLER v)) begins shown.is_in),
        few,
      );
      after_is = ap (λ (r : Record). with_seen r w) ended;
    }))

pub query_passes : (old mid new final : Record) (v : PlainView) → IsLegal final
    → Passes old mid → new ≡ after_begin CALLER mid → view_in CALLER v ≡ begun_by CALLER mid
    → final ≡ after_end CALLER v.number new → Passes old final
query_passes old mid new final v legal before begins view ends =
    passes_both old mid final before
    (passed mid v.number final legal (ap (λ (x : View). x.view) (sym view))
    (ends ∙ ap (after_end CALLER v.number) begins))

-- ---- a view under a name

abbrev opening : ℕ → List ℕ → Worker → Record → Step
opening line name w r =
    says (opened line name (begun_by CALLER r).upto) (record {
      seen = after_begin CALLER r;
      kept = w.kept ++ record { name = name; view = begun_by CALLER r } ∷ [];
    })

pub open_full : (line : ℕ) (name : List ℕ) (w : Worker) (mid new : Record)
    → mid ≡ after_flush CALLER w.seen → MOST_OPEN_VIEWS ≤ length (open_views mid) → new ≡ mid
    → Answers line (open_step CALLER line name None w) (failed line NoRoom) (with_seen new w)
open_full line name w mid new flushed full same =
    subst (λ (r : Record). Answers line (begin_step line w r (opening line name w r))
    (failed line NoRoom) (with_seen new w)) flushed
    (answers_says line (begin_step line w mid (opening line name w mid)) (failed line NoRoom)
    (with_seen new w)
    (begin_full line w mid (opening line name w mid) full
    ∙ ap (λ (r : Record). says (failed line NoRoom) (with_seen r w)) (sym same)))

pub open_begun : (line upto : ℕ) (name : List ℕ) (w : Worker) (mid new : Record) (v : View)
    → mid ≡ after_flush CALLER w.seen → length (open_views mid) < MOST_OPEN_VIEWS
    → new ≡ after_begin CALLER mid → v ≡ begun_by CALLER mid → upto ≡ v.upto
    → Answers line (open_step CALLER line name None w) (opened line name upto)
    (record { seen = new; kept = w.kept ++ record { name = name; view = v } ∷ [] })
open_begun line upto name w mid new v flushed room begins view same =
    let after : Record → View → Worker = λ r x.
    record { seen = r; kept = w.kept ++ record { name = name; view = x } ∷ [] } in
    let is : opening line name w mid ≡ says (opened line name upto) (after new v) =
    ap (λ (n : ℕ). says (opened line name n) (after (after_begin CALLER mid) (begun_by CALLER mid)))
    (ap (λ (x : View). x.upto) (sym view) ∙ sym same)
    ∙ ap (λ (r : Record). says (opened line name upto) (after r (begun_by CALLER mid))) (sym begins)
    ∙ ap (λ (x : View). says (opened line name upto) (after new x)) (sym view) in
    subst (λ (r : Record). Answers line (begin_step line w r (opening line name w r))
    (opened line name upto) (after new v)) flushed
    (answers_says line (begin_step line w mid (opening line name w mid)) (opened line name upto)
    (after new v) (begin_room line w mid (opening line name w mid) room ∙ is))

-- ---- the worker afterwards

pub passes_working : (r s : Record) (os : List NamedBuilt) → Passes r s → IsWorking r os
    → IsWorking s os
passes_working r s os passes is = record {
  legal = passes.legal;
  holds = record {
    views = passes.open_stay _ is.holds.views;
    apart = is.holds.apart;
    few = is.holds.few;
  };
  shown = all_shown r s is.legal passes.legal passes.later os is.shown;
}

-- the empty record is legal
legal_empty : IsLegal Rattle.index_core.specs.Calls.empty_record
legal_empty = record {
  numbered = refl;
  events = λ k event got. (cc);
  not_full = omega arith;
}

-- before any line
pub working_new : (r : Record) (os : List NamedBuilt)
    → r ≡ Rattle.index_core.specs.Calls.empty_record → os ≡ [] → IsWorking r os
working_new r os is none =
    subst (λ (x : Record). IsWorking x os) (sym is)
    (subst (IsWorking Rattle.index_core.specs.Calls.empty_record) (sym none) (record {
      legal = legal_empty;
      holds = Rattle.sg_shell.proofs.HoldingLemmas.holds_untouched;
      shown = tt;
    }))

-- the same from what the calls say
pub query_begins : (line : ℕ) (q : PlainQuery) (w : Worker) (old mid new final : Record)
    (v : PlainView) (reply : Reply) → w.seen ≡ old → mid ≡ after_flush CALLER old
    → Begins mid new (Some v) → final ≡ after_end CALLER v.number new
    → ((r : Record) → IsShown r v → IsReportReply line reply r (view_in CALLER v) q)
    → q.k ≤ MOST_QUEUED
    → Answers line (query_step CALLER line q w) reply (with_seen final w)
query_begins line q w old mid new final v reply seen flushed begins ends report few =
    query_rows line q w mid new final v reply (flushed ∙ ap (after_flush CALLER) (sym seen))
    begins.0 begins.1 begins.2 begins.3 ends (report new begins.3) few

pub query_ends : (old mid new final : Record) (v : PlainView) → IsLegal final → Passes old mid
    → Begins mid new (Some v) → final ≡ after_end CALLER v.number new → Passes old final
query_ends old mid new final v legal before begins ends =
    query_passes old mid new final v legal before begins.1 begins.2 ends

-- the index is brought up to date
pub flush_answers : (line count : ℕ) (w : Worker) (old new : Record) → w.seen ≡ old
    → count ≡ built_by_flush CALLER old → new ≡ after_flush CALLER old
    → Answers line (flush_step CALLER line w) (built line count) (with_seen new w)
flush_answers line count w old new seen same flushed =
    answers_says line (flush_step CALLER line w) (built line count) (with_seen new w)
    (ap (λ (r : Record).
    says (built line (built_by_flush CALLER r)) (with_seen (after_flush CALLER r) w)) seen
    ∙ ap (λ (n : ℕ). says (built line n) (with_seen (after_flush CALLER old) w)) (sym same)
    ∙ ap (λ (r : Record). says (built line count) (with_seen r w)) (sym flushed))

pub query_is_full : (line : ℕ) (q : PlainQuery) (w : Worker) (old mid new : Record) → w.seen ≡ old
    → mid ≡ after_flush CALLER old → Begins mid new None
    → Answers line (query_step CALLER line q w) (failed line NoRoom) (with_seen new w)
query_is_full line q w old mid new seen flushed begins =
    query_full line q w mid new (flushed ∙ ap (after_flush CALLER) (sym seen)) begins.0 begins.1

-- an error of the line itself
pub refused_answers : (line : ℕ) (c : Command) (e : LineError) (k : ErrorKind) (w : Worker)
    → kind_of e ≡ Some k → Refuses c e → Answers line (step CALLER line c w) (failed line k) w
refused_answers line c e k w is refuses =
    let same : c ≡ refused k = subst (λ (o : Option ErrorKind). IfSome o (λ x. c ≡ refused x)) is
    refuses in
    answers_says line (step CALLER line c w) (failed line k) w
    (ap (λ (x : Command). step CALLER line x w) same)
