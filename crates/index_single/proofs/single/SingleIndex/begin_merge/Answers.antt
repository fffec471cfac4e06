-- The section found what was seen.
use Rattle.index_core.specs.MergeCalls.{merge_of}
use Rattle.index_shared.specs.Sections.{seen_by}
use Rattle.index_single.proofs.CalledLemmas.{Called, shown, stands}
use Rattle.index_single.proofs.MergeCallLemmas.{MergeBegins, merge_begins, has_jobs}
use Rattle.index_single.proofs.single.SingleIndex.begin_merge.Given.{Over}
use Rattle.index_single.proofs.single.SingleIndex.begin_merge.Goals as goal

called : (g : Over) (c : goal.After-meet g)
    → Called c.self.inside.index c.self.inside.main c.self.inside.worker
    c.begin_merge-answer.new.handle c.meet.new.to c.meet.new.from c.args.self.now
called g c = record {
  alone = c.self.invariant;
  seen = c.self.view_is;
  same = c.begin_merge-answer.ensures.handle;
  legal = c.begin_merge-answer.ensures.legal;
  kept = c.meet.ensures.from;
  main_same = c.meet.ensures.handle;
  met = c.meet.ensures.met;
}

all : (g : Over) (c : goal.After-meet g)
    → MergeBegins c.begin_merge-answer.result merge_of c.args.self.now (seen_by c.meet.new.from)
all g c =
    shown (called g c) (MergeBegins c.begin_merge-answer.result merge_of)
    (merge_begins (called g c) c.begin_merge-answer.result merge_of
    c.begin_merge-answer.ensures.ok c.begin_merge-answer.ensures.refused)

pub invariant_of-self : goal.invariant_of-self
invariant_of-self g c = stands (called g c) (all g c).later

pub returns-clause-merge : goal.returns-clause-merge
returns-clause-merge g c = (all g c).merge_is

pub returns-clause-ok : goal.returns-clause-ok
returns-clause-ok g c = (all g c).ok

pub returns-clause-err : goal.returns-clause-err
returns-clause-err g c = (all g c).err

pub returns-clause-views : goal.returns-clause-views
returns-clause-views g c = (all g c).views

pub returns-clause-begun : goal.returns-clause-begun
returns-clause-begun g c =
    has_jobs (called g c) c.begin_merge-answer.result c.begin_merge-answer.ensures.has
