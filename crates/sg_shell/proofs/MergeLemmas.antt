-- One merge of the index at a time: what it leaves, and what its line answers.
use Rattle.std.proofs.Common.{◌≡◌, ℕ, List, [], ◌∷◌, Option, Some, None, refl, sym, ap}
use Rattle.std.proofs.Common.{◌∙◌}
use Rattle.std.specs.Prelude.{option_map, Result, Ok, Err, OnOk, OnErr}
use Rattle.std.specs.List.{filter_map}
use Rattle.index_core.specs.Histories.{HistoryEvent, merge_drop, Record, Merge, begun_view}
use Rattle.index_core.specs.Histories.{ended_view, accepted_number}
use Rattle.index_core.specs.Records.{with_event}
use Rattle.index_core.specs.LegalHistories.{IsLegal}
use Rattle.index_core.specs.Merges.{merge_plan}
use Rattle.index_core.specs.MergeCalls.{next_merge_by, merge_begun_by, after_begin_of}
use Rattle.index_core.specs.MergeCalls.{after_begin_merge, released_by_merge, ending_merge}
use Rattle.index_core.specs.MergeCalls.{after_commit, after_drop}
use Rattle.index_single.specs.declared.caller.TheConstants.{CALLER}
use Rattle.wire_replies.specs.Replies.{merged}
use Rattle.sg_shell.specs.Workers.{Worker, with_seen, says, merged_count, after_merge_of}
use Rattle.sg_shell.specs.Workers.{after_merge, merge_step}
use Rattle.sg_shell.specs.Working.{Passes, Answers}
use Rattle.sg_shell.proofs.EngineLemmas.{answers_says}
use Rattle.sg_shell.proofs.GainLemmas.{gains-event, gains-then}
use Rattle.sg_shell.proofs.PassLemmas.{same_passes, gained_passes, quiet_open}
use Rattle.sg_shell.proofs.PlanLemmas.{gains-begin_merge, quiet_begin_merge}
use Rattle.sg_shell.proofs.QuietLemmas.{quiet_both, quiet_event}

-- a merge has begun, and one event more ends it
ended_passes : (old mid new : Record) (e : HistoryEvent) → IsLegal new
    → filter_map accepted_number (e ∷ []) ≡ [] → begun_view e ≡ None → ended_view e ≡ None
    → mid ≡ after_begin_merge CALLER old → new ≡ with_event mid e → Passes old new
ended_passes old mid new e legal accepts begins ends begun is =
    let first = after_begin_merge CALLER old in
    let last = with_event first e in
    gained_passes [] old new last legal (is ∙ ap (λ (r : Record). with_event r e) begun)
    (gains-then [] old first last (gains-begin_merge CALLER old) (gains-event first e accepts))
    (quiet_open old last (quiet_both old first last (quiet_begin_merge CALLER old)
    (quiet_event first e begins ends)))

-- worked and ended, or given up
pub ends_or_drops : {E : Type 0} (old mid new : Record) (m : Merge) (result : Result ℕ E)
    → IsLegal new → mid ≡ after_begin_merge CALLER old
    → OnOk result (new ≡ after_commit CALLER m mid)
    → OnErr result (new ≡ after_drop CALLER m mid) → Passes old new
ends_or_drops old mid new m (Ok count) legal begun ends drops =
    ended_passes old mid new (ending_merge CALLER m mid (released_by_merge CALLER m mid)) legal
    refl refl refl begun ends
ends_or_drops old mid new m (Err error) legal begun ends drops =
    ended_passes old mid new (merge_drop CALLER m.merge) legal refl refl refl begun drops

pub merged_is : (old mid new : Record) (m : Merge) → Some m ≡ merge_begun_by CALLER old
    → mid ≡ after_begin_merge CALLER old → new ≡ after_commit CALLER m mid
    → new ≡ after_merge CALLER old
merged_is old mid new m is begins ends =
    ends ∙ ap (after_commit CALLER m) begins ∙ ap (after_merge_of CALLER old) is

-- no plan
pub unmerged_is : (old new : Record) → IsLegal new → None ≡ merge_begun_by CALLER old
    → new ≡ after_begin_merge CALLER old → (new ≡ after_merge CALLER old) × Passes old new
unmerged_is old new legal is begins = by_plan (merge_plan old) refl
  where
    by_plan : (o : Option (List ℕ)) → merge_plan old ≡ o
        → (new ≡ after_merge CALLER old) × Passes old new
    by_plan None plan =
        let same : new ≡ old = begins ∙ ap (after_begin_of CALLER old) plan in (
          same ∙ ap (after_merge_of CALLER old) is,
          same_passes old new legal same,
        )
    by_plan (Some gens) plan =
        let some : None ≡ Some (next_merge_by CALLER old gens) =
        is ∙ ap (option_map (next_merge_by CALLER old)) plan in cc

-- ---- the line

pub merge_answers : (line count : ℕ) (w : Worker) (old new : Record) → w.seen ≡ old
    → count ≡ merged_count (merge_begun_by CALLER old) → new ≡ after_merge CALLER old
    → Answers line (merge_step CALLER line w) (merged line count) (with_seen new w)
merge_answers line count w old new seen same ends =
    answers_says line (merge_step CALLER line w) (merged line count) (with_seen new w)
    (ap (λ (r : Record). says (merged line (merged_count (merge_begun_by CALLER r)))
    (with_seen (after_merge CALLER r) w)) seen
    ∙ ap (λ (n : ℕ). says (merged line n) (with_seen (after_merge CALLER old) w)) (sym same)
    ∙ ap (λ (r : Record). says (merged line count) (with_seen r w)) (sym ends))
