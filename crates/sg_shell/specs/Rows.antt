-- The rows that a query prints. Source: this project's own; which rows answer a query is said where
-- reports are.
use Rattle.std.specs.Prelude.{ℕ, ◌==◌, List, [], Option, Some, None, find, slice_get, map, take}
use Rattle.std.specs.Option.{option_map_or}
use Rattle.sg_base.specs.declared.rank.Rank.{Rank}
use Rattle.sg_paths.specs.Documents.{PlainSuggestion}
use Rattle.sg_paths.specs.Operations.{PlainOp, PlainNumbered, documents_from}
use Rattle.wire_replies.specs.Rows.{Row}

-- the text of the suggestion at a place
abbrev pub text_at : ℕ → List PlainSuggestion → List ℕ
text_at place ss = option_map_or (λ s. s.text) (slice_get ss place) []

-- a row as it is printed, by its document
abbrev pub row_by : Rank → Option PlainNumbered → Row
row_by r None = record { id = []; score = r.score; seq = r.seq; text = [] }
row_by r (Some d) =
    record {
      id = d.document.id;
      score = r.score;
      seq = r.seq;
      text =
          text_at r.place d.document.suggestions;
    }

-- a row as it is printed, by the document that has its number
abbrev pub row_of : List PlainNumbered → Rank → Row
row_of ds r = row_by r (find (λ d. d.seq == r.seq) ds)

-- rows as they are printed, by the documents that the first upto operations of a journal brought
abbrev pub printed_rows : List PlainOp → ℕ → List Rank → List Row
printed_rows journal upto ranks = map (row_of (documents_from 1 (take upto journal))) ranks
