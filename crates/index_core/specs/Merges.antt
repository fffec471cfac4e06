-- The merge plan of a record: what stands in `merge_plan`, over its generations. Source: Lucene's
-- merge policies.
use Rattle.std.specs.Prelude.{ℕ, not, Option, List, length, map, filter, sum_by, count_by}
use Rattle.std.specs.List.{list_any}
use Rattle.sg_paths.specs.LiveDocuments.{is_deleted}
use Rattle.sg_paths.specs.Paths.{paths}
use Rattle.merge_plan.specs.declared.size.Size.{Size}
use Rattle.merge_plan.specs.Merges.{plan}
use Rattle.index_core.specs.Histories.{Record, is_among}
use Rattle.index_core.specs.Records.{current, open_merges}
use Rattle.index_core.specs.Generations.{documents_of, applied, is_built}

-- the size of a generation, with the deletes that are applied to it, and whether an open merge
-- holds it
abbrev pub size_of : Record → ℕ → Size
size_of r g =
    let documents = documents_of r g in
    let upto = applied r g in
    record {
      generation = g;
      documents = length documents;
      live = count_by (λ d. not (is_deleted r.journal upto d)) documents;
      paths = sum_by (λ d. length (paths d.document)) documents;
      held = list_any (λ m. is_among g m.generations) (open_merges r);
    }

-- the plan over the built current generations
abbrev pub merge_plan : Record → Option (List ℕ)
merge_plan r = plan (map (size_of r) (filter (is_built r) (current r)))
