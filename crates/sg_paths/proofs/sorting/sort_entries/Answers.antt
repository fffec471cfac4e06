-- What std says of the sorted list is that it is the list in order.
use Rattle.std.proofs.Common.{◌≡◌, Result, Ok, Err, List, OnOk}
use Rattle.std.specs.List.Sorted.{IsSorted, IsPermutation}
use Rattle.sg_base.specs.Ranking.{in_order}
use Rattle.sg_base.proofs.Sorting.{sorted_is_in_order}
use Rattle.sg_paths.specs.AllPaths.{Entry, entry_cmp, entry_cmp_total}
use Rattle.sg_paths.proofs.RiseLemmas.{entry_cmp_exact}
use Rattle.sg_paths.proofs.sorting.sort_entries.Goals as goal

in_order_on_ok : {T E : Type 0} (r : Result T E) (xs ys : List Entry) → IsPermutation xs ys
    → OnOk r (IsSorted entry_cmp ys) → OnOk r (ys ≡ in_order entry_cmp xs)
in_order_on_ok (Ok u) xs ys moved up =
    sorted_is_in_order entry_cmp entry_cmp_total entry_cmp_exact xs ys moved up
in_order_on_ok (Err e) xs ys moved up = tt

pub returns : goal.returns
returns c =
    in_order_on_ok c.sort.result _ _ c.sort.ensures.permutation c.sort.ensures.sorted
