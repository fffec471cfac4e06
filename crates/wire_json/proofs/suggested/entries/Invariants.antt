-- So far the entries are those of the suggestions.
use Rattle.std.proofs.Common.{◌≡◌, map, take}
use Rattle.serde_json.specs.View.{view}
use Rattle.wire_json.specs.Suggested.{entries_of}
use Rattle.wire_json.specs.EntryForms.{plain_entry}
use Rattle.wire_json.proofs.suggested.entries.Given as goal

abbrev pub invariant-loop-given : goal.invariant-loop-given
invariant-loop-given l =
    map plain_entry l.entries.items ≡ entries_of (map view (take l.given-index l.suggestions))
