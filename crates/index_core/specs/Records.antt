-- What the record of an index says: public clauses cite these, and not the list of its events.
-- Source: this project's own, after Lucene's IndexWriter.
use Rattle.std.specs.Prelude.{ℕ, ◌+◌, ◌-◌, Bool, not, ◌||◌, ◌&&◌, ◌++◌, List, [], ◌∷◌, length}
use Rattle.std.specs.Prelude.{filter}
use Rattle.std.specs.List.{list_any}
use Rattle.index_core.specs.Histories as events
use Rattle.index_core.specs.Histories.{HistoryEvent, Record, View, Merge, is_among}

-- the record with one event more, which accepts nothing
abbrev pub with_event : Record → HistoryEvent → Record
with_event r event = record r { history = r.history ++ event ∷ [] }

-- how many operations were accepted
abbrev pub accepted : Record → ℕ
accepted r = events.accepted r.history

-- how many of them are frozen in batches
abbrev pub frozen : Record → ℕ
frozen r = events.frozen r.history

-- how many are buffered
abbrev pub buffered : Record → ℕ
buffered r = accepted r - frozen r

-- the generations that were drawn, rising
abbrev pub drawn : Record → List ℕ
drawn r = events.drawn r.history

-- the generation that is drawn next
abbrev pub next_generation : Record → ℕ
next_generation r = length (drawn r) + 1

-- the number of the view that begins next
abbrev pub next_view : Record → ℕ
next_view r = length (events.begun_views r.history) + 1

-- the views that weren't ended, in the order of their begin
abbrev pub open_views : Record → List View
open_views r = events.open_views r.history

-- the merges that were begun, in order
abbrev pub begun_merges : Record → List Merge
begun_merges r = events.begun_merges r.history

-- the number of the merge that begins next
abbrev pub next_merge : Record → ℕ
next_merge r = length (begun_merges r) + 1

-- the merges that were neither ended nor dropped
abbrev pub open_merges : Record → List Merge
open_merges r = events.open_merges r.history

-- the generations in use, rising
abbrev pub current : Record → List ℕ
current r = events.current r.history

-- whether it is current, or stands in an open view or an open merge
abbrev pub is_referenced : Record → ℕ → Bool
is_referenced r g =
    is_among g (current r)
    || (list_any (λ v. is_among g v.generations) (open_views r)
    || list_any (λ m. is_among g m.generations) (open_merges r))

-- the generations that were referenced before an event and aren't after it, rising
abbrev pub released : Record → HistoryEvent → List ℕ
released r event =
    filter (λ g. is_referenced r g && not (is_referenced (with_event r event) g)) (drawn r)
