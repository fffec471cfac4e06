-- The core's call.
use Rattle.std.proofs.Common.{ap, ◌∙◌, sym, subst, Option}
use Rattle.std.specs.Prelude.{Contains, option_map}
use Rattle.std.specs.Option.{IfSome}
use Rattle.segment.specs.Views.{PlainParts}
use Rattle.index_core.specs.Histories.{Record}
use Rattle.index_core.specs.Records.{open_views, open_merges}
use Rattle.index_core.specs.LegalHistories.{IsLegal}
use Rattle.index_core.specs.MergeCalls.{merge_of, merge_begun_by, after_begin_merge}
use Rattle.index_shared.proofs.guarded.Guarded.begin_merge.Goals as goal

pub returns-clause-merge : goal.returns-clause-merge
returns-clause-merge c =
    ap (λ (o : Option PlainParts). option_map (merge_of c.args.caller) o) c.job_of.ensures
    ∙ c.in_ok-begun.ensures.merge
    ∙ ap (λ (r : Record). merge_begun_by c.args.caller r) c.self.view_is

pub returns-clause-begun : goal.returns-clause-begun
returns-clause-begun c =
    subst (λ (o : Option PlainParts). IfSome o (λ p.
    Contains (open_merges c.begin_merge.new.self) (merge_of c.args.caller p)))
    (sym c.job_of.ensures) c.in_ok-begun.ensures.begun

pub returns-clause-ok : goal.returns-clause-ok
returns-clause-ok c =
    c.in_ok-begun.ensures.ok
    ∙ ap (λ (r : Record). after_begin_merge c.args.caller r) c.self.view_is

pub returns-clause-views : goal.returns-clause-views
returns-clause-views c =
    c.in_ok-begun.ensures.views ∙ ap (λ (r : Record). open_views r) c.self.view_is

pub returns-clause-before : goal.returns-clause-before
returns-clause-before c = subst IsLegal c.self.view_is c.self.invariant
