-- The ends so far, with those to come, are all.
use Rattle.std.proofs.Common.{◌≡◌, ◌+◌, ◌++◌, drop}
use Rattle.fst_code.specs.Bytes.{entry_bytes}
use Rattle.fst_build.specs.Levels.{total_edges}
use Rattle.fst_build.proofs.writing.put_entries.Given as goal

abbrev pub invariant-loop-id : goal.invariant-loop-id
invariant-loop-id l = record {
  total : l.end + total_edges (drop l.id l.register) ≡ total_edges l.register;
  entries : l.bytes.items ++ entry_bytes l.end (drop l.id l.register)
      ≡ l.fn.bytes.items ++ entry_bytes 0 l.register;
}
