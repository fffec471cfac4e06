-- So far the keys are those of the entries, and none is empty.
use Rattle.std.proofs.Common.{◌≡◌, ◌<◌, map, take, length, IfOk}
use Rattle.std.specs.List.{All}
use Rattle.wire_json.specs.LineErrors.{input_key}
use Rattle.wire_json.specs.EntryForms.{plain_entry}
use Rattle.wire_json.proofs.keys.input_keys.Given as goal

abbrev pub invariant-loop-entry : goal.invariant-loop-entry
invariant-loop-entry l =
    (l.keys.items
    ≡ map (λ e. input_key l.analyzer e.text) (map plain_entry (take l.entry-index l.entries)))
    × All (λ r. IfOk r (λ k. 0 < length k)) l.keys.items
