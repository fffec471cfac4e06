-- What std says of the sorted list is that it is the list in order.
use Rattle.std.proofs.Common.{◌≡◌, Result, Ok, Err, List, OnOk}
use Rattle.std.specs.List.Sorted.{IsSorted, IsPermutation}
use Rattle.sg_base.specs.Ranking.{in_order}
use Rattle.sg_base.proofs.Sorting.{sorted_is_in_order}
use Rattle.seg_table.specs.Ids.{IdPlace, id_cmp, id_cmp_total}
use Rattle.seg_table.proofs.OrderLemmas.{id_cmp_exact}
use Rattle.seg_table.proofs.indexing.sort_ids.Goals as goal

in_order_on_ok : {T E : Type 0} (r : Result T E) (xs ys : List IdPlace) → IsPermutation xs ys
    → OnOk r (IsSorted id_cmp ys) → OnOk r (ys ≡ in_order id_cmp xs)
in_order_on_ok (Ok u) xs ys moved up =
    sorted_is_in_order id_cmp id_cmp_total id_cmp_exact xs ys moved up
in_order_on_ok (Err e) xs ys moved up = tt

pub returns : goal.returns
returns c =
    in_order_on_ok c.sort.result _ _ c.sort.ensures.permutation c.sort.ensures.sorted
