-- What a merge does to the views and the journal of a worker, and how many segments it takes.
use Rattle.std.proofs.Common.{◌≤◌, ℕ, inl, inr, ◌⊎◌, List, [], length, map, Option, Some, None}
use Rattle.std.proofs.Common.{refl, ap, arith}
use Rattle.std.specs.Prelude.{filter, option_map}
use Rattle.std.specs.Option.{IfSome}
use Rattle.std.proofs.lemmas.List.{length-map}
use Rattle.merge_plan.specs.declared.size.Size.{Size}
use Rattle.merge_plan.specs.Merges.{planned}
use Rattle.merge_plan.specs.PlanLaws.{AreTen, IsOneDeleted}
use Rattle.merge_plan.proofs.PlanLemmas.{planned-kinds}
use Rattle.index_core.specs.Histories.{merge_begin, Record, Merge}
use Rattle.index_core.specs.Records.{current, next_merge}
use Rattle.index_core.specs.Generations.{is_built}
use Rattle.index_core.specs.Merges.{size_of, merge_plan}
use Rattle.index_core.specs.MergeCalls.{next_merge_by, merge_begun_by, after_begin_of}
use Rattle.index_core.specs.MergeCalls.{after_begin_merge, released_by_merge, ending_merge}
use Rattle.index_core.specs.MergeCalls.{after_commit}
use Rattle.sg_shell.specs.Workers.{merged_count, after_merge_of, after_merge}
use Rattle.sg_shell.specs.Working.{Quiet}
use Rattle.sg_shell.proofs.GainLemmas.{Gains, gains-none, gains-event, gains-then}
use Rattle.sg_shell.proofs.QuietLemmas.{quiet_same, quiet_both, quiet_event}

-- ten segments or one
pub few_merged : (caller : ℕ) (r : Record) → merged_count (merge_begun_by caller r) ≤ 10
few_merged caller r =
    let sizes = map (size_of r) (filter (is_built r) (current r)) in
    by_planned (planned sizes) (planned-kinds sizes)
  where
    by_kind : (chosen : List Size) → AreTen chosen ⊎ IsOneDeleted chosen
        → length (map (λ s. s.generation) chosen) ≤ 10
    by_kind chosen (inl ten) =
        let l = length-map chosen (λ s. s.generation) in let n = ten.ten in omega (arith, l, n)
    by_kind chosen (inr one) =
        let l = length-map chosen (λ s. s.generation) in
        let n = ap (λ (xs : List Size). length xs) one.1 in omega (arith, l, n)

    by_planned : (o : Option (List Size))
        → IfSome o (λ chosen. AreTen chosen ⊎ IsOneDeleted chosen)
        → merged_count (option_map (next_merge_by caller r)
        (option_map (map (λ s. s.generation)) o)) ≤ 10
    by_planned None kind = omega arith
    by_planned (Some chosen) kind = by_kind chosen kind

pub gains-begin_merge : (caller : ℕ) (r : Record) → Gains [] r (after_begin_merge caller r)
gains-begin_merge caller r = by_plan (merge_plan r)
  where
    by_plan : (o : Option (List ℕ)) → Gains [] r (after_begin_of caller r o)
    by_plan None = gains-none r
    by_plan (Some gens) = gains-event r (merge_begin caller (next_merge r) gens) refl

pub gains-merge : (caller : ℕ) (r : Record) → Gains [] r (after_merge caller r)
gains-merge caller r = by_merge (merge_begun_by caller r)
  where
    by_merge : (o : Option Merge) → Gains [] r (after_merge_of caller r o)
    by_merge None = gains-none r
    by_merge (Some m) =
        let mid = after_begin_merge caller r in
        gains-then [] r mid (after_commit caller m mid) (gains-begin_merge caller r)
        (gains-event mid (ending_merge caller m mid (released_by_merge caller m mid)) refl)

pub quiet_begin_merge : (caller : ℕ) (r : Record) → Quiet r (after_begin_merge caller r)
quiet_begin_merge caller r = by_plan (merge_plan r)
  where
    by_plan : (o : Option (List ℕ)) → Quiet r (after_begin_of caller r o)
    by_plan None = quiet_same r
    by_plan (Some gens) = quiet_event r (merge_begin caller (next_merge r) gens) refl refl

pub quiet_merge : (caller : ℕ) (r : Record) → Quiet r (after_merge caller r)
quiet_merge caller r = by_merge (merge_begun_by caller r)
  where
    by_merge : (o : Option Merge) → Quiet r (after_merge_of caller r o)
    by_merge None = quiet_same r
    by_merge (Some m) =
        let mid = after_begin_merge caller r in
        quiet_both r mid (after_commit caller m mid) (quiet_begin_merge caller r)
        (quiet_event mid (ending_merge caller m mid (released_by_merge caller m mid)) refl refl)
