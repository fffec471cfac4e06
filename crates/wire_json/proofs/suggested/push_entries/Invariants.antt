-- So far the entries of the texts stand behind those that were there.
use Rattle.std.proofs.Common.{◌≡◌, ◌++◌, map, take}
use Rattle.std.specs.List.{filter_map}
use Rattle.serde_json.specs.View.{view}
use Rattle.serde_json.specs.Find.{as_str}
use Rattle.wire_json.specs.Suggested.{entry_of}
use Rattle.wire_json.specs.EntryForms.{plain_entry}
use Rattle.wire_json.proofs.suggested.push_entries.Given as goal

abbrev pub invariant-loop-input : goal.invariant-loop-input
invariant-loop-input l =
    map plain_entry l.entries.items
    ≡ map plain_entry l.fn.entries.items
    ++ map (entry_of (view l.given))
    (filter_map as_str (map view (take l.input-index l.input-items)))
