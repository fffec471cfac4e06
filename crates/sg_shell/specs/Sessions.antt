-- What an output says of an input, for one worker and one phase. Source: this project's own; the
-- numbers and refreshes are those of Lucene's IndexWriter and its near-real-time readers.
use Rattle.std.specs.Prelude.{◌≡◌, ◌≤◌, ◌<◌, ◌⊎◌, ⊤, ℕ, Bool, true, false, not, bytes_eq, List, []}
use Rattle.std.specs.Prelude.{◌∷◌, ◌++◌, length, map, filter, find, take, Option, Some, None}
use Rattle.std.specs.Prelude.{IfSome, All, AllPairs}
use Rattle.std.specs.List.{filter_map, enumerate_from}
use Rattle.sg_base.specs.Cuts.{PlainCut}
use Rattle.sg_base.specs.declared.rank.Rank.{Rank}
use Rattle.sg_context.specs.Queries.{PlainQuery}
use Rattle.sg_paths.specs.Operations.{PlainOp, documents_from}
use Rattle.sg_paths.specs.LiveDocuments.{live_documents}
use Rattle.sg_answers.specs.Reports.{IsSoundOver}
use Rattle.index_core.specs.declared.limits.TheConstants.{MOST_OPERATIONS, MOST_OPEN_VIEWS}
use Rattle.index_single.specs.declared.caller.TheConstants.{CALLER}
use Rattle.wire_json.specs.Commands.{Command, blank, accepts, suggests, opens, closes, flushes}
use Rattle.wire_json.specs.Commands.{merges, refused}
use Rattle.wire_replies.specs.Replies.{Reply, numbered, rows, opened, closed, built, merged, failed}
use Rattle.wire_replies.specs.Rows.{Row}
use Rattle.wire_replies.specs.declared.error_kind.ErrorKind.TheVariants.{Full, View as NoView}
use Rattle.wire_replies.specs.declared.error_kind.ErrorKind.TheVariants.{Views}
use Rattle.sg_shell.specs.Rows.{printed_rows}
use Rattle.sg_shell.specs.Transcripts.{Said, input_lines, output}
use Rattle.sg_shell.specs.Workers.{Worker, untouched}
use Rattle.sg_shell.specs.Runs.{Ran}

-- whether a line has a reply: each that isn't blank
abbrev pub wants_reply : Command → Bool
wants_reply blank = false
wants_reply other = true

-- ---- named views, by the lines alone

-- a view's name, and over how many operations it is
pub record NamedView : Type 0 where
  pub name : List ℕ
  pub upto : ℕ

-- the named views that are open after one line more, by its reply
abbrev pub views_after : List NamedView → Reply → List NamedView
views_after vs (opened line name upto) = vs ++ record { name = name; upto = upto } ∷ []
views_after vs (closed line name) = filter (λ v. not (bytes_eq v.name name)) vs
views_after vs other = vs

-- the view of that name, if one is open
abbrev pub view_named : List ℕ → List NamedView → Option NamedView
view_named name vs = find (λ v. bytes_eq v.name name) vs

-- ---- replies

-- rows over so many operations, and where they were cut off, if they were
abbrev pub PrintsRows : ℕ → ℕ → Reply → Type 0
PrintsRows line upto r = (rs : List Row) × (cut : Option PlainCut) × (r ≡ rows line upto rs cut)

-- a line that begins a view is refused exactly where 256 named views are open
abbrev pub MayBegin : List NamedView → ℕ → Reply → Type 0 → Type 0
MayBegin vs line r Begins =
    ((length vs < MOST_OPEN_VIEWS) × Begins)
    ⊎ ((length vs ≡ MOST_OPEN_VIEWS) × (r ≡ failed line Views))

-- a query in a view prints rows over the view's operations
abbrev pub MayAsk : Option NamedView → ℕ → Reply → Type 0
MayAsk None line r = r ≡ failed line NoView
MayAsk (Some v) line r = PrintsRows line v.upto r

-- a view is opened where none of its name is
abbrev pub MayOpen : List NamedView → List ℕ → Option NamedView → ℕ → Reply → Type 0
MayOpen vs name None line r = MayBegin vs line r ((upto : ℕ) × (r ≡ opened line name upto))
MayOpen vs name (Some v) line r = r ≡ failed line NoView

-- and closed where one is
abbrev pub MayClose : List ℕ → Option NamedView → ℕ → Reply → Type 0
MayClose name None line r = r ≡ failed line NoView
MayClose name (Some v) line r = r ≡ closed line name

-- The replies that a line may have where these views are open, by what it asks for: its own error
-- exactly, else exact but for numbers and rows. No line asks for a barrier.
abbrev pub MayReply : List NamedView → Command → ℕ → Reply → Type 0
MayReply vs (accepts lane operation) line r =
    ((seq : ℕ) × (r ≡ numbered line seq)) ⊎ (r ≡ failed line Full)
MayReply vs (suggests lane query None) line r =
    MayBegin vs line r ((upto : ℕ) × PrintsRows line upto r)
MayReply vs (suggests lane query (Some name)) line r = MayAsk (view_named name vs) line r
MayReply vs (opens lane name) line r = MayOpen vs name (view_named name vs) line r
MayReply vs (closes lane name) line r = MayClose name (view_named name vs) line r
MayReply vs (flushes lane) line r = (count : ℕ) × (r ≡ built line count)
MayReply vs (merges lane) line r = (count : ℕ) × (r ≡ merged line count) × (count ≤ 10)
MayReply vs (refused kind) line r = r ≡ failed line kind
MayReply vs other line r = ⊥

-- each reply is one that its line may have, where these views are open before the first
abbrev pub AllMayReply : List NamedView → List Said → Type 0
AllMayReply vs [] = ⊤
AllMayReply vs (e ∷ es) =
    MayReply vs e.line.command e.line.number e.reply × AllMayReply (views_after vs e.reply) es

-- ---- rows

-- rows over the first upto operations of a journal are the first of the answer over the documents
-- that are live after these, or those that precede the truncation point
pub record IsAnswer (journal : List PlainOp) (query : PlainQuery) (upto : ℕ) (rs : List Row)
    (cut : Option PlainCut) : Type 0 where
  pub ranks : List Rank
  pub printed : rs ≡ printed_rows journal upto ranks
  pub sound : IsSoundOver query (documents_from 1 (take upto journal)) (live_documents journal upto)
      ranks cut

-- where a line is a query and has rows, these are an answer
abbrev pub IsAnswered : List PlainOp → Command → Reply → Type 0
IsAnswered journal (suggests lane query view) (rows line upto rs cut) =
    IsAnswer journal query upto rs cut
IsAnswered journal command r = ⊤

-- ---- numbers

-- the sequence number that a reply prints
abbrev pub number_printed : Reply → Option ℕ
number_printed (numbered line seq) = Some seq
number_printed other = None

-- over how many operations the view is that a line begins: to open one, and a query that names none
abbrev pub upto_begun : Command → Reply → Option ℕ
upto_begun (suggests lane query None) (rows line upto rs cut) = Some upto
upto_begun (opens lane name) (opened line view upto) = Some upto
upto_begun command other = None

-- an operation with its number, of a line that asks for one and prints the other
abbrev pub with_number : Command → Option ℕ → Option (ℕ × PlainOp)
with_number (accepts lane operation) (Some seq) = Some (seq, operation)
with_number other number = None

-- the operation of a line with the number that its reply prints
abbrev pub numbered_operation : Said → Option (ℕ × PlainOp)
numbered_operation e = with_number e.line.command (number_printed e.reply)

-- an operation is refused because the index is full
abbrev pub IsRefusedAsFull : Command → ℕ → Reply → Type 0
IsRefusedAsFull (accepts lane operation) line r = r ≡ failed line Full
IsRefusedAsFull other line r = ⊥

-- a line's operation was refused because the index is full
abbrev pub IsFull : Said → Type 0
IsFull e = IsRefusedAsFull e.line.command e.line.number e.reply

-- over how many operations the view is that a line with its reply begins
abbrev pub refreshed_upto : Said → Option ℕ
refreshed_upto e = upto_begun e.line.command e.reply

-- what the reply to a line says of that to a later one
pub record StandsBefore (e f : Said) : Type 0 where
  -- numbers rise
  pub numbers : IfSome (number_printed e.reply) (λ m. IfSome (number_printed f.reply) (λ n. m < n))
  -- a view that begins is over all that was numbered before
  pub sees : IfSome (number_printed e.reply) (λ m. IfSome (refreshed_upto f) (λ u. m ≤ u))
  -- and over no less than one that began before
  pub never_back : IfSome (refreshed_upto e) (λ v. IfSome (refreshed_upto f) (λ u. v ≤ u))
  -- and over nothing that is numbered later
  pub foresees_none : IfSome (refreshed_upto e) (λ u. IfSome (number_printed f.reply) (λ n. u < n))
  -- nothing is numbered once the index is full
  pub full_last : IsFull e → number_printed f.reply ≡ None

-- ---- the session

-- One reply for each line that wants one, in order, and nothing else. The lines with a number are
-- numbered 1 to m, and their operations are the journal.
pub record IsSession (input out : List ℕ) (t : List Said) (journal : List PlainOp) : Type 0 where
  pub replied : map (λ e. e.line) t ≡ filter (λ l. wants_reply l.command) (input_lines input)
  pub written : out ≡ output t
  pub answers : AllMayReply [] t
  pub numbers : filter_map numbered_operation t ≡ enumerate_from 1 journal
  pub most : length journal ≤ MOST_OPERATIONS
  pub full : All (λ e. IsFull e → length journal ≡ MOST_OPERATIONS) t
  pub ordered : AllPairs StandsBefore t
  pub at_most : All (λ e. IfSome (refreshed_upto e) (λ u. u ≤ length journal)) t
  pub answered : All (λ e. IsAnswered journal e.line.command e.reply) t

-- an output that is a session of an input, with its transcript and its journal; beyond that each
-- reply is what one worker expects, from the empty record to one with this journal
pub record Session (input out : List ℕ) : Type 0 where
  pub transcript : List Said
  pub journal : List PlainOp
  pub worker : Worker
  pub is_session : IsSession input out transcript journal
  pub ran : Ran CALLER untouched (input_lines input) transcript worker
  pub seen : worker.seen.journal ≡ journal
