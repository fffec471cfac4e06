-- The rows, sorted, are those in order, and as many as are asked for are copied.
use Rattle.std.proofs.Common.{◌≡◌, ◌∙◌, ℕ, ◌++◌, List, Result, Ok, Err, IfOk, refl, ap}
use Rattle.std.proofs.Common.{length, take, drop, filter_map}
use Rattle.std.specs.List.Sorted.{IsPermutation, IsSorted}
use Rattle.std.proofs.lemmas.List.{take-append-drop, length-take}
use Rattle.std.proofs.lemmas.List.Sorted.{length_permutation}
use Rattle.sg_base.specs.Ranking.{rank_cmp, rank_cmp_total, in_order}
use Rattle.sg_base.specs.declared.rank.Rank.{Rank}
use Rattle.sg_base.proofs.Sorting.{sorted_is_in_order}
use Rattle.sg_base.proofs.RankLemmas.{rank_cmp_exact}
use Rattle.sg_answers.specs.Answers.{document_row, first_rows, AreFirst}
use Rattle.sg_answers.proofs.answers.first_rows.Goals as goal

-- the first k of what all rows become when they are sorted
are_first : (k : ℕ) (all rows given : List Rank) → IsPermutation all rows
    → IsSorted rank_cmp rows → given ≡ take k rows → AreFirst k all given
are_first k all rows given moved up is =
    let long : length rows ≡ length all = length_permutation all rows moved in
    let whole : given ++ drop k rows ≡ rows =
    ap (λ first. first ++ drop k rows) is ∙ take-append-drop k rows in record {
      others = drop k rows;
      permutation = rw whole moved;
      sorted = rw whole up;
      count = rw is (length-take k rows ∙ rw long refl);
    }

-- and of what is copied from them
copied_first : {V E : Type 0} (items : V → List Rank) (r : Result V E) (k : ℕ)
    (all given : List Rank) → IfOk r (λ v. items v ≡ given) → AreFirst k all given
    → IfOk r (λ v. AreFirst k all (items v))
copied_first items (Ok v) k all given is first = rw is first
copied_first items (Err e) k all given is first = tt

pub returns-clause-value : goal.returns-clause-value
returns-clause-value c =
    let sorted : c.sort.new.self.items ≡ in_order rank_cmp c.in_ok-rows.rows.items =
    sorted_is_in_order rank_cmp rank_cmp_total rank_cmp_exact _ _ c.sort.ensures.permutation
    c.in_ok-sort.ensures.sorted in
    let k : c.query.inside.k ≡ c.args.query.now.k = rw (← c.query.view_is) refl in
    let first : c.as_slice.result.now ≡ first_rows c.args.query.now c.args.documents.now =
    c.as_slice.ensures.value
    ∙ c.truncate.ensures.items
    ∙ rw (sorted, c.in_ok-rows.ensures, k) refl in
    rw first at c.ranks_of.ensures

pub returns-clause-first : goal.returns-clause-first
returns-clause-first c =
    let k : c.query.inside.k ≡ c.args.query.now.k = rw (← c.query.view_is) refl in
    let given : c.as_slice.result.now ≡ take c.args.query.now.k c.sort.new.self.items =
    c.as_slice.ensures.value ∙ c.truncate.ensures.items ∙ rw k refl in
    copied_first (λ v. v.items) c.ranks_of.result c.args.query.now.k
    (filter_map (document_row c.args.query.now) c.args.documents.now) c.as_slice.result.now
    c.ranks_of.ensures
    (are_first c.args.query.now.k _ c.sort.new.self.items _
    (rw c.in_ok-rows.ensures at c.sort.ensures.permutation) c.in_ok-sort.ensures.sorted given)
