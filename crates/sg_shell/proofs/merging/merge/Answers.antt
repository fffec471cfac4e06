-- A merge begins and ends, is given up, or there is none.
use Rattle.std.proofs.Common.{◌≡◌, ◌∙◌, ap, sym, subst, Option}
use Rattle.std.specs.Prelude.{IfOk, option_map}
use Rattle.index_core.specs.Histories.{Merge}
use Rattle.index_core.specs.MergeCalls.{merge_of}
use Rattle.index_single.specs.declared.caller.TheConstants.{CALLER}
use Rattle.sg_shell.specs.Workers.{merged_count}
use Rattle.sg_shell.proofs.MergeLemmas.{ends_or_drops, unmerged_is}
use Rattle.sg_shell.proofs.PassLemmas.{same_passes}
use Rattle.sg_shell.proofs.merging.merge.Goals as goal

pub returns-in-Some-clause-count : goal.returns-in-Some-clause-count
returns-in-Some-clause-count g c =
    subst (λ (o : Option Merge). IfOk c.finish.result (λ count. count ≡ merged_count o))
    (sym (ap (option_map (merge_of CALLER)) c.in-Some.is) ∙ c.in_ok-job.ensures.merge)
    c.finish.ensures.count

pub returns-in-Some-clause-passes : goal.returns-in-Some-clause-passes
returns-in-Some-clause-passes g c =
    ends_or_drops c.args.index.now c.begin_merge.new.self c.finish.new.index
    (merge_of CALLER c.in-Some.job) c.finish.result c.finish.ensures.legal
    c.in_ok-job.ensures.ok c.finish.ensures.ok c.finish.ensures.err

pub returns-in-None-clause-ok : goal.returns-in-None-clause-ok
returns-in-None-clause-ok g c =
    (unmerged_is c.args.index.now c.begin_merge.new.self c.in_ok-job.ensures.legal
    (sym (ap (option_map (merge_of CALLER)) c.in-None.is) ∙ c.in_ok-job.ensures.merge)
    c.in_ok-job.ensures.ok).0

pub returns-in-None-clause-passes : goal.returns-in-None-clause-passes
returns-in-None-clause-passes g c =
    (unmerged_is c.args.index.now c.begin_merge.new.self c.in_ok-job.ensures.legal
    (sym (ap (option_map (merge_of CALLER)) c.in-None.is) ∙ c.in_ok-job.ensures.merge)
    c.in_ok-job.ensures.ok).1

pub returns-in_err-job-clause-passes : goal.returns-in_err-job-clause-passes
returns-in_err-job-clause-passes g c =
    same_passes _ _ c.in_err-job.ensures.legal c.in_err-job.ensures.err
