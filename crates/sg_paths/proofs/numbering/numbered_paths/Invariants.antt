-- What is out, continued by the rest, is the whole.
use Rattle.std.proofs.Common.{◌≡◌, ◌≤◌, ◌++◌, None, drop}
use Rattle.std.specs.Prelude.{option_map}
use Rattle.std.specs.List.{AllByRecursion}
use Rattle.sg_paths.specs.PathLaws.{IsLegal}
use Rattle.sg_paths.specs.AllPaths.{numbered}
use Rattle.sg_paths.proofs.numbering.numbered_paths.Given as goal

abbrev pub invariant-loop-entry : goal.invariant-loop-entry
invariant-loop-entry l = record {
  most : l.n ≤ l.entry-index;
  same : l.paths.items
      ++ numbered (option_map (λ e. (e.now, l.n)) l.last) (drop l.entry-index l.entries)
      ≡ numbered None l.entries;
  legal : AllByRecursion (λ p. IsLegal p.entry) l.paths.items;
}
