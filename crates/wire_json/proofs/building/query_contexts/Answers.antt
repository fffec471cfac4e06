-- Each query context is without an error, as all are.
use Rattle.std.proofs.Common.{map}
use Rattle.serde_json.specs.View.{view}
use Rattle.wire_json.specs.Asked.{is_query_context, asks_for_reserved_context, has_wrong_boost}
use Rattle.wire_json.proofs.MemberLemmas.{all_at, none_at}
use Rattle.wire_json.proofs.ReadyLemmas.{all_query_contexts}
use Rattle.wire_json.proofs.building.query_contexts.Goals as goal

pub query_context-requires-clause-asked : goal.query_context-requires-clause-asked
query_context-requires-clause-asked c =
    all_at is_query_context c.args.values.now c.loop-value.value-index c.value-item.result
    c.loop-value-test.true c.value-item.is
    (all_query_contexts (map view c.args.values.now) c.requires.contexts)

pub query_context-requires-clause-not_reserved : goal.query_context-requires-clause-not_reserved
query_context-requires-clause-not_reserved c =
    none_at asks_for_reserved_context c.args.values.now c.loop-value.value-index c.value-item.result
    c.loop-value-test.true c.value-item.is c.requires.reserved

pub query_context-requires-clause-boost : goal.query_context-requires-clause-boost
query_context-requires-clause-boost c =
    none_at has_wrong_boost c.args.values.now c.loop-value.value-index c.value-item.result
    c.loop-value-test.true c.value-item.is c.requires.boosts
