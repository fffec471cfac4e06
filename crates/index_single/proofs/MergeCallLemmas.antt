-- What a merge that begins, ends or is given up makes of the record.
use Rattle.std.proofs.Common.{◌≡◌, ℕ, List, Option, Some, None, Result, Ok, Err, refl, sym, ap, ◌∙◌}
use Rattle.std.proofs.Common.{subst}
use Rattle.std.specs.Prelude.{IfOk, OnOk, OnErr, option_map}
use Rattle.std.specs.Option.{IfSome}
use Rattle.segment.specs.Views.{PlainParts}
use Rattle.turn_lock.specs.Handles.{LockId}
use Rattle.index_core.specs.Histories.{merge_begin, merge_drop, Record, Merge}
use Rattle.index_core.specs.Records.{open_views, open_merges, next_merge}
use Rattle.index_core.specs.Merges.{merge_plan}
use Rattle.index_core.specs.MergeCalls.{merge_of, merge_begun_by, after_begin_of, after_begin_merge}
use Rattle.index_core.specs.MergeCalls.{ending_merge, released_by_merge, after_commit, after_drop}
use Rattle.index_core.specs.MergeCalls.{without_merge}
use Rattle.index_core.proofs.OpenMergeLemmas.{open_merges-close}
use Rattle.index_core.proofs.ViewLemmas.{open_views-skip}
use Rattle.index_shared.specs.Sections.{HandleState, seen_by, Extends}
use Rattle.index_shared.specs.SharedCalls.{MergeBegun, MergeRefused, Committed, Dropped}
use Rattle.index_shared.specs.OwnViews.{HasMerge}
use Rattle.index_shared.proofs.AppendedLemmas.{begin_merge_more, commit_more, drop_more}
use Rattle.index_single.specs.Alone.{HasJob}
use Rattle.index_single.specs.declared.caller.TheConstants.{CALLER}
use Rattle.index_single.proofs.CalledLemmas.{Called, does, of_seen, same_record}
use Rattle.index_single.proofs.OwnLemmas.{has_job}

-- the merge that is planned was begun, if one is
pub record MergeBegins {P E : Type 0} (result : Result (Option P) E) (merge : ℕ → P → Merge)
    (r s : Record) : Type 0 where
  pub merge_is : IfOk result (λ job. option_map (merge CALLER) job ≡ merge_begun_by CALLER r)
  pub ok : OnOk result (s ≡ after_begin_merge CALLER r)
  pub err : OnErr result (s ≡ r)
  pub views : open_views s ≡ open_views r
  pub later : Extends r s

-- a merge was ended
pub record Commits (m : Merge) (freed : List ℕ) (r s : Record) : Type 0 where
  pub freed_is : freed ≡ released_by_merge CALLER m r
  pub ok : s ≡ after_commit CALLER m r
  pub ended : open_merges s ≡ without_merge m.merge (open_merges r)
  pub views : open_views s ≡ open_views r
  pub later : Extends r s

-- or given up
pub record Drops (m : Merge) (r s : Record) : Type 0 where
  pub ok : s ≡ after_drop CALLER m r
  pub ended : open_merges s ≡ without_merge m.merge (open_merges r)
  pub views : open_views s ≡ open_views r
  pub later : Extends r s

-- the planned merge begins no view, and ends none
views_begin_merge : (r : Record) → open_views (after_begin_merge CALLER r) ≡ open_views r
views_begin_merge r = by_plan (merge_plan r)
  where
    by_plan : (o : Option (List ℕ)) → open_views (after_begin_of CALLER r o) ≡ open_views r
    by_plan None = refl
    by_plan (Some gens) =
        open_views-skip r.history (merge_begin CALLER (next_merge r) gens) refl refl

module _ {index : LockId} {main worker worker' main' last : HandleState} {old : Record}
    (called : Called index main worker worker' main' last old) where
  abbrev r : Record
  r = seen_by worker

  abbrev s : Record
  s = seen_by worker'

  pub merge_begins : {P E : Type 0} (result : Result (Option P) E) (merge : ℕ → P → Merge)
      → IfOk result (λ job. MergeBegun worker (option_map (merge worker.number) job) s)
      → OnErr result (MergeRefused worker s) → MergeBegins result merge r s
  merge_begins (Ok job) merge ok refused =
      let done = does called after_begin_merge ok.found ok.finds ok.legal ok.after
      (begin_merge_more worker.number ok.found) in
      record {
        merge_is = ap (λ (n : ℕ). option_map (merge n) job) (sym called.alone.number) ∙ ok.begun
            ∙ of_seen called merge_begun_by ok.found done.seen;
        ok = done.ok;
        err = tt;
        views = ap (λ (x : Record). open_views x) done.ok ∙ views_begin_merge r;
        later = done.later;
      }
  merge_begins (Err e) merge ok refused =
      let is = same_record called refused.finds in
      record {
        merge_is = tt;
        ok = tt;
        err = is;
        views = ap (λ (x : Record). open_views x) is;
        later = refused.finds.later;
      }

  pub commits : (parts : PlainParts) (freed : List ℕ)
      → Committed worker (merge_of worker.number parts) freed s
      → Commits (merge_of CALLER parts) freed r s
  commits parts freed ended =
      let done = does called (λ n x. after_commit n (merge_of n parts) x) ended.found ended.finds
      ended.legal ended.after
      (commit_more worker.number (merge_of worker.number parts) ended.found) in
      let m = merge_of CALLER parts in
      let e = ending_merge CALLER m r (released_by_merge CALLER m r) in
      record {
        freed_is = ended.freed_by
            ∙ of_seen called (λ n x. released_by_merge n (merge_of n parts) x) ended.found
            done.seen;
        ok = done.ok;
        ended = ap (λ (x : Record). open_merges x) done.ok
            ∙ open_merges-close r.history e m.merge (λ k. refl) refl;
        views = ap (λ (x : Record). open_views x) done.ok ∙ open_views-skip r.history e refl refl;
        later = done.later;
      }

  pub drops : (parts : PlainParts) → Dropped worker (merge_of worker.number parts) s
      → Drops (merge_of CALLER parts) r s
  drops parts dropped =
      let done = does called (λ n x. after_drop n (merge_of n parts) x) dropped.found
      dropped.finds dropped.legal dropped.after
      (drop_more worker.number (merge_of worker.number parts) dropped.found) in
      let e = merge_drop CALLER parts.number in
      record {
        ok = done.ok;
        ended = ap (λ (x : Record). open_merges x) done.ok
            ∙ open_merges-close r.history e parts.number (λ k. refl) refl;
        views = ap (λ (x : Record). open_views x) done.ok ∙ open_views-skip r.history e refl refl;
        later = done.later;
      }

  -- the job of a merge that began is this index's
  pub has_jobs : {E : Type 0} (result : Result (Option PlainParts) E)
      → IfOk result (λ job. IfSome job (HasMerge worker'))
      → IfOk result (λ job. IfSome job (HasJob (seen_by last)))
  has_jobs (Ok None) has = tt
  has_jobs (Ok (Some parts)) has =
      subst (λ (h : HandleState). HasJob (seen_by h) parts) (sym called.kept)
      (has_job worker' parts
      (ap (λ (h : HandleState). h.number) called.same ∙ called.alone.number) has)
  has_jobs (Err e) has = tt
