-- What the calls of an index say that nobody shares. Source: this project's own.
use Rattle.std.specs.Prelude.{◌≡◌, Contains}
use Rattle.std.specs.List.{flat_map}
use Rattle.segment.specs.Views.{PlainParts, AreCovered, all_documents}
use Rattle.index_core.specs.Histories.{Record}
use Rattle.index_core.specs.Records.{open_merges}
use Rattle.index_core.specs.Generations.{documents_of}
use Rattle.index_core.specs.MergeCalls.{merge_of}
use Rattle.index_single.specs.declared.caller.TheConstants.{CALLER}

-- parts of a merge that is open: they are of the journal, with the documents of its generations
pub record HasJob (r : Record) (parts : PlainParts) : Type 0 where
  pub opened : Contains (open_merges r) (merge_of CALLER parts)
  pub covered : AreCovered r.journal parts
  pub documents : all_documents parts.pieces ≡ flat_map (documents_of r) parts.generations
