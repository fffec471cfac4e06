-- The nodes so far, with those to come, are all.
use Rattle.std.proofs.Common.{◌≡◌, ◌++◌, drop}
use Rattle.std.specs.List.{flat_map}
use Rattle.fst_code.specs.Bytes.{arc_bytes, first_form}
use Rattle.fst_build.proofs.writing.put_nodes.Given as goal

abbrev pub invariant-loop-id : goal.invariant-loop-id
invariant-loop-id l =
    l.bytes.items ++ flat_map (flat_map (arc_bytes first_form)) (drop l.id l.register)
    ≡ l.fn.bytes.items ++ flat_map (flat_map (arc_bytes first_form)) l.register
