-- The table of documents and their paths.
use Rattle.std.proofs.Common.{◌≡◌, ℕ, List, length, map, sym, ap, ◌∙◌, subst}
use Rattle.sg_paths.specs.Operations.{PlainNumbered}
use Rattle.sg_paths.specs.AllPaths.{FullPath, all_paths}
use Rattle.seg_table.specs.declared.owner.Owner.{Owner}
use Rattle.seg_table.specs.Owners.{owner_of}
use Rattle.seg_table.specs.Ids.{id_index}
use Rattle.seg_table.specs.Table.{IsTable}
use Rattle.seg_table.proofs.CountLemmas.{owners_within, most_counted}
use Rattle.seg_table.proofs.table.SegTable.of.Goals as goal

pub most_owned-requires-clause-within : goal.most_owned-requires-clause-within
most_owned-requires-clause-within c =
    owners_within c.args.docs.items c.as_slice-2.result.now c.len.result
    (c.as_slice-2.ensures.value ∙ c.in_ok-owners.ensures
    ∙ ap (λ (ps : List FullPath). map owner_of ps) c.requires.paths)
    (c.len.ensures ∙ sym c.as_slice.ensures.len
    ∙ ap (λ (ds : List PlainNumbered). length ds) c.as_slice.ensures.value)

made : (docs in_list : List PlainNumbered) (owners : List Owner) (ids : List ℕ) (most : ℕ)
    → in_list ≡ docs
    → IsTable docs owners ids most → IsTable in_list owners ids most
made docs in_list owners ids most e h = subst (λ z. IsTable z owners ids most) (sym e) h

pub invariant_of-result : goal.invariant_of-result
invariant_of-result c =
    let owned : c.in_ok-owners.owners.items ≡ map owner_of (all_paths c.args.docs.items) =
    c.in_ok-owners.ensures ∙ ap (λ (ps : List FullPath). map owner_of ps) c.requires.paths in
    made c.args.docs.items c.in_ok-packed.packed _ _ _
    (c.in_ok-packed.ensures ∙ c.as_slice-3.ensures.value) (record {
      owned = owned;
      indexed = c.in_ok-ids.ensures ∙ ap (λ (ds : List PlainNumbered). id_index ds)
          c.as_slice.ensures.value;
      greatest = c.in_ok-most.ensures
          ∙ most_counted c.args.docs.items c.as_slice-2.result.now c.len.result
          (c.as_slice-2.ensures.value ∙ owned)
          (c.len.ensures ∙ sym c.as_slice.ensures.len
          ∙ ap (λ (ds : List PlainNumbered). length ds) c.as_slice.ensures.value);
      few = c.requires.few;
    })
