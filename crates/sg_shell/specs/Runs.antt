-- A run of one worker: lines with their replies. Truncated reports aren't determined, so it is a
-- relation. Source: this project's own.
use Rattle.std.specs.Prelude.{◌≡◌, ℕ, not, List, [], ◌∷◌, ◌++◌, map, filter, Option, Some, None}
use Rattle.sg_base.specs.Cuts.{PlainCut}
use Rattle.sg_base.specs.declared.rank.Rank.{Rank}
use Rattle.sg_context.specs.Queries.{PlainQuery}
use Rattle.sg_paths.specs.LiveDocuments.{is_deleted}
use Rattle.sg_answers.specs.Reports.{ViewedSegment, IsReport}
use Rattle.index_core.specs.Histories.{Record, View}
use Rattle.index_core.specs.Generations.{documents_of}
use Rattle.wire_replies.specs.Replies.{Reply, rows}
use Rattle.sg_shell.specs.Rows.{printed_rows}
use Rattle.sg_shell.specs.Transcripts.{Line, Said}
use Rattle.sg_shell.specs.Workers.{Worker, Expected, prints, reports, step}

-- what a view of the first upto operations of a record sees of a generation
abbrev pub segment_seen : Record → ℕ → ℕ → ViewedSegment
segment_seen r upto g = record {
  generation = g;
  documents = documents_of r g;
  live = filter (λ d. not (is_deleted r.journal upto d)) (documents_of r g);
}

-- what it sees of all its generations
abbrev pub segments_seen : Record → View → List ViewedSegment
segments_seen r v = map (segment_seen r v.upto) v.generations

-- a reply that is a report of a query over a view
pub record IsReportReply (line : ℕ) (reply : Reply) (r : Record) (v : View) (query : PlainQuery)
    : Type 0 where
  pub ranks : List Rank
  pub cut : Option PlainCut
  pub is : reply ≡ rows line v.upto (printed_rows r.journal v.upto ranks) cut
  pub report : IsReport query (segments_seen r v) ranks cut

-- a reply that a line may have
abbrev pub Meets : ℕ → Reply → Expected → Type 0
Meets line reply (prints p) = reply ≡ p
Meets line reply (reports r v query) = IsReportReply line reply r v query

-- what one line adds to the transcript
abbrev pub Adds : Line → Option Expected → List Said → Type 0
Adds line None said = said ≡ []
Adds line (Some e) said =
    (reply : Reply) × (said ≡ record { line = line; reply = reply } ∷ [])
    × Meets line.number reply e

-- lines in order, from a worker to a worker, with their transcript
abbrev pub Ran : ℕ → Worker → List Line → List Said → Worker → Type 0
Ran caller w [] t w' = (t ≡ []) × (w' ≡ w)
Ran caller w (line ∷ lines) t w' =
    (said : List Said) × (later : List Said) × (t ≡ said ++ later)
    × Adds line (step caller line.number line.command w).expected said
    × Ran caller (step caller line.number line.command w).after lines later w'
