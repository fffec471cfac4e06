-- One text more brings its entry.
use Rattle.serde_json.specs.View.{view}
use Rattle.wire_json.proofs.SuggestedLemmas.{appended_more, entries_more}
use Rattle.wire_json.proofs.suggested.push_entries.Goals as goal

pub loop-input-preserved : goal.loop-input-preserved
loop-input-preserved c =
    appended_more _ _ _ _ _ _ c.in_ok-push_entry.ensures c.loop-input.invariant
    (entries_more (view c.args.given.now) c.inputs-input-items.result.now c.loop-input.input-index
    c.input-item.result c.loop-input-test.true c.input-item.is)
