-- The different contexts.
use Rattle.std.proofs.Common.{◌++◌, []}
use Rattle.std.proofs.Common.{map, ap, arith}
use Rattle.std.proofs.lemmas.List.{get_or_read}
use Rattle.sg_paths.specs.Paths.{distinct_texts}
use Rattle.sg_paths.specs.Collected.{in_context}
use Rattle.sg_paths.proofs.CollectLemmas.{new_none, more_texts_at}
use Rattle.sg_paths.proofs.collecting.add_suggestion.Goals as goal

pub loop-i-init : goal.loop-i-init
loop-i-init c =
    ap (λ z. c.args.into.now.items
    ++ map (in_context c.args.doc c.args.suggestion.now c.args.place) z)
    (new_none (distinct_texts c.items-contexts.result.now))

pub loop-i-preserved : goal.loop-i-preserved
loop-i-preserved c =
    more_texts_at (in_context c.args.doc c.args.suggestion.now c.args.place) c.loop-i.into.items
    c.add_context.new.into.items _
    c.items-contexts.result.now c.loop-i.i c.index-contexts-i.result (omega arith)
    (get_or_read c.items-contexts.result.now c.loop-i.i c.index-contexts-i.result (omega arith)
    c.index-contexts-i.is [])
    c.loop-i.invariant c.in_ok-add_context.ensures
