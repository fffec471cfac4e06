-- So far the query contexts are those of the values.
use Rattle.std.proofs.Common.{◌≡◌, map, take}
use Rattle.serde_json.specs.View.{view}
use Rattle.wire_json.specs.Asked.{query_context_of}
use Rattle.wire_json.proofs.building.query_contexts.Given as goal

abbrev pub invariant-loop-value : goal.invariant-loop-value
invariant-loop-value l =
    l.query_contexts.items ≡ map query_context_of (map view (take l.value-index l.values))
