-- So far the contexts are those of the values.
use Rattle.std.proofs.Common.{◌≡◌, map, take, length}
use Rattle.std.specs.List.{filter_map}
use Rattle.serde_json.specs.View.{view}
use Rattle.serde_json.specs.Find.{as_str}
use Rattle.wire_json.proofs.building.contexts_of.Given as goal

abbrev pub invariant-loop-value : goal.invariant-loop-value
invariant-loop-value l =
    (l.contexts.items ≡ filter_map as_str (map view (take l.value-index l.given)))
    × (length l.contexts.items ≡ l.value-index)
