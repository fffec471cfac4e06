-- What is true of every run of one worker. Source: this project's own.
use Rattle.std.specs.Prelude.{◌≡◌, ◌≤◌, ◌⊎◌, ⊤, ℕ, true, List, [], ◌∷◌, ◌++◌, map, fold}
use Rattle.std.specs.Prelude.{Option, is_some, All}
use Rattle.sg_base.specs.Cuts.{PlainCut}
use Rattle.sg_base.specs.declared.rank.Rank.{Rank}
use Rattle.sg_context.specs.Queries.{PlainQuery}
use Rattle.sg_paths.specs.Operations.{PlainOp}
use Rattle.sg_answers.specs.Reports.{IsReport}
use Rattle.sg_answers.specs.declared.limits.TheConstants.{MOST_QUEUED}
use Rattle.segment.specs.Views.{PlainParts}
use Rattle.sg_view.specs.Viewing.{PlainView, viewed_segments, Represents, IsViewOf}
use Rattle.index_core.specs.Histories.{Record, View}
use Rattle.index_core.specs.Records.{open_views, open_merges}
use Rattle.index_core.specs.OpenViews.{view_of}
use Rattle.index_core.specs.CurrentPieces.{AreOf}
use Rattle.wire_json.specs.Commands.{suggests}
use Rattle.wire_json.specs.CommandForms.{IsRead}
use Rattle.wire_replies.specs.Replies.{Reply, rows}
use Rattle.sg_shell.specs.Rows.{printed_rows}
use Rattle.sg_shell.specs.Transcripts.{Line, Said}
use Rattle.sg_shell.specs.Workers.{Open, Worker, untouched, reports, step}
use Rattle.sg_shell.specs.Runs.{Meets, IsReportReply, Adds, Ran}
use Rattle.sg_shell.specs.Sessions.{NamedView, views_after, AllMayReply, IsAnswered}
use Rattle.sg_shell.specs.Viewed.{IsViewIn}

-- a run goes on by one line
abbrev pub OneLineMore : Type 0
OneLineMore =
    (caller : ℕ) (w : Worker) (lines : List Line) (t : List Said) (w' : Worker) (line : Line)
    (said : List Said) → Ran caller w lines t w'
    → Adds line (step caller line.number line.command w').expected said
    → Ran caller w (lines ++ line ∷ []) (t ++ said)
    (step caller line.number line.command w').after

-- a report that is cut off
abbrev pub IsTruncated : Reply → Type 0
IsTruncated (rows line upto rs cut) = is_some cut ≡ true
IsTruncated other = ⊥

-- the same line, with the same reply or at least one truncated report
pub record AreAlike (e f : Said) : Type 0 where
  pub line : e.line ≡ f.line
  pub reply : (e.reply ≡ f.reply) ⊎ (IsTruncated e.reply ⊎ IsTruncated f.reply)

-- item by item
abbrev pub AllAlike : List Said → List Said → Type 0
AllAlike [] [] = ⊤
AllAlike (e ∷ es) (f ∷ fs) = AreAlike e f × AllAlike es fs
AllAlike [] (f ∷ fs) = ⊥
AllAlike (e ∷ es) [] = ⊥

-- two transcripts of the same lines from the same worker differ only where a reply of one is
-- truncated, and lead to the same worker
abbrev pub OnlyTruncatedRepliesDiffer : Type 0
OnlyTruncatedRepliesDiffer =
    (caller : ℕ) (w : Worker) (lines : List Line) (t t' : List Said) (v v' : Worker)
    → Ran caller w lines t v → Ran caller w lines t' v' → AllAlike t t' × (v ≡ v')

-- what a view answers that was begun and built is the report that its record expects
abbrev pub ViewsMeetTheirReports : Type 0
ViewsMeetTheirReports =
    (r : Record) (caller line : ℕ) (parts : PlainParts) (v : PlainView) (query : PlainQuery)
    (ranks : List Rank) (cut : Option PlainCut) → AreOf r parts → IsViewOf parts v
    → Represents r.journal v → IsReport query (viewed_segments v) ranks cut
    → Meets line (rows line v.upto (printed_rows r.journal v.upto ranks) cut)
    (reports r (view_of caller parts) query)

-- the report of a view of a record is an answer, whatever is accepted afterwards
abbrev pub ReportsAreAnswers : Type 0
ReportsAreAnswers =
    (r : Record) (v : View) (more : List PlainOp) (line lane : ℕ) (query : PlainQuery)
    (name : Option (List ℕ)) (reply : Reply) → IsViewIn r v → query.k ≤ MOST_QUEUED
    → IsReportReply line reply r v query
    → IsAnswered (r.journal ++ more) (suggests lane query name) reply

-- an open view as the lines tell it
abbrev pub told : Open → NamedView
told o = record { name = o.name; upto = o.view.upto }

-- of lines that are read each reply is one that its line may have, and the names of a worker's
-- views are those that its lines tell
abbrev pub NamesAreKept : Type 0
NamesAreKept =
    (caller : ℕ) (lines : List Line) (t : List Said) (w : Worker)
    → All (λ l. IsRead l.command) lines → Ran caller untouched lines t w
    → (map told w.kept ≡ fold (λ vs e. views_after vs e.reply) [] t) × AllMayReply [] t

-- a worker's named views are the open ones, in the order of their opening
abbrev pub NamedViewsAreOpen : Type 0
NamedViewsAreOpen =
    (caller : ℕ) (lines : List Line) (t : List Said) (w : Worker) → Ran caller untouched lines t w
    → open_views w.seen ≡ map (λ o. o.view) w.kept

-- between lines no merge is open
abbrev pub NoMergeStaysOpen : Type 0
NoMergeStaysOpen =
    (caller : ℕ) (lines : List Line) (t : List Said) (w : Worker) → Ran caller untouched lines t w
    → open_merges w.seen ≡ []
