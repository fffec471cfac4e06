-- What is made, continued by what is to come, is the whole.
use Rattle.std.proofs.Common.{◌≡◌, ◌++◌, map, drop, length}
use Rattle.std.specs.Vec.Iter.{into_iter_items}
use Rattle.wire_json.specs.EntryForms.{plain_entry}
use Rattle.wire_json.specs.ReadyForms.{AreReady, suggestions_by}
use Rattle.wire_json.proofs.building.suggestions.Given as goal

abbrev pub invariant-loop-entry : goal.invariant-loop-entry
invariant-loop-entry l =
    (l.suggestions.items
    ++ suggestions_by (map plain_entry (drop l.entry-index l.entries)) (into_iter_items l.rest)
    ≡ suggestions_by (map plain_entry l.entries) l.fn.keys.items)
    × AreReady (map plain_entry (drop l.entry-index l.entries)) (into_iter_items l.rest)
    × (length l.suggestions.items ≡ l.entry-index)
