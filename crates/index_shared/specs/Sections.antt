-- Handles of an index that is shared, the record that each has seen, and the one that a critical
-- section finds. Source: this project's own.
use Rattle.std.specs.Prelude.{◌≡◌, ℕ, false}
use Rattle.sg_paths.specs.Operations.{PlainOp}
use Rattle.turn_lock.specs.Handles.{LockId, Handle, Continues, Finds}
use Rattle.index_core.specs.Histories.{HistoryEvent, accept, freeze, begin, built}
use Rattle.index_core.specs.Histories.{live_docs_updated, merge_begin, merge_end, merge_drop}
use Rattle.index_core.specs.Histories.{view_end, Record}

-- the number of the handle through which an event was appended
abbrev pub caller_of : HistoryEvent → ℕ
caller_of (accept caller seq) = caller
caller_of (freeze caller generation from upto) = caller
caller_of (begin caller view upto generations) = caller
caller_of (built caller generation) = caller
caller_of (live_docs_updated caller generation applied) = caller
caller_of (merge_begin caller merge generations) = caller
caller_of (merge_end caller merge into released) = caller
caller_of (merge_drop caller merge) = caller
caller_of (view_end caller view released) = caller

-- a handle
abbrev pub HandleState : Type 0
HandleState = Handle HistoryEvent PlainOp

-- the record that a handle has seen
abbrev pub seen_by : HandleState → Record
seen_by h = record { history = h.history; journal = h.journal }

-- the handle that has seen a record
abbrev pub having : HandleState → Record → HandleState
having h r = record h { history = r.history; journal = r.journal }

-- a handle of this index, outside any critical section
abbrev pub IsAt : LockId → HandleState → Type 0
IsAt index h = (h.lock ≡ index) × (h.inside ≡ false)

-- nothing differs but what the handle has seen
abbrev pub IsSameHandle : HandleState → HandleState → Type 0
IsSameHandle old new = new ≡ having old (seen_by new)

-- a critical section of the handle finds this record: what the handle had seen, and then events of
-- others alone, each of a handle of this index
abbrev pub FindsRecord : HandleState → Record → Type 0
FindsRecord h found = Finds caller_of h found.history found.journal

-- a later record: what was known, and then more
abbrev pub Extends : Record → Record → Type 0
Extends r later = Continues r.history r.journal later.history later.journal
