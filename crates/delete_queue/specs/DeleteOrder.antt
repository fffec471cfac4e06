-- Deletes in the order in which they are looked up. No public clause cites this module.
use Rattle.std.specs.Prelude.{Bool, ◌&&◌, nat_le, bytes_eq}
use Rattle.std.specs.Prelude.{List, [], ◌∷◌, cond}
use Rattle.std.specs.declared.cmp.Ordering.{Ordering}
use Rattle.std.specs.Cmp.{IsTotalOrder, then_total, on_total, back_total, nat_cmp_total}
use Rattle.std.specs.Cmp.Lexicographic.{slice_cmp, on_texts}
use Rattle.std.specs.Ordering.{nat_cmp, on, then_cmp, flip_args}
use Rattle.delete_queue.specs.Deletes.{NumberedDelete}

-- by id bytewise, then the latest first
abbrev pub delete_cmp : NumberedDelete → NumberedDelete → Ordering
delete_cmp = then_cmp (on (λ e. e.id) (slice_cmp nat_cmp)) (flip_args (on (λ e. e.seq) nat_cmp))

-- it is total
pub delete_cmp_total : IsTotalOrder delete_cmp
delete_cmp_total =
    then_total (on_texts (λ (e : NumberedDelete). e.id))
    (back_total (on_total (λ (e : NumberedDelete). e.seq) nat_cmp_total))

-- whether an earlier one of the list has the same id and no lesser number
abbrev pub is_covered_by : NumberedDelete → NumberedDelete → Bool
is_covered_by e f = bytes_eq e.id f.id && nat_le f.seq e.seq

-- the deletes that the one that was kept before doesn't cover
abbrev pub latest_behind : NumberedDelete → List NumberedDelete → List NumberedDelete
latest_behind e [] = []
latest_behind e (f ∷ later) =
    cond (is_covered_by e f) (latest_behind e later) (f ∷ latest_behind f later)

abbrev pub latest : List NumberedDelete → List NumberedDelete
latest [] = []
latest (e ∷ later) = e ∷ latest_behind e later
