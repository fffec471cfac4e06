-- The merge is open, and the section found what was seen.
use Rattle.index_core.specs.MergeCalls.{merge_of}
use Rattle.index_single.specs.declared.caller.TheConstants.{CALLER}
use Rattle.index_shared.specs.Sections.{seen_by}
use Rattle.index_single.proofs.CalledLemmas.{Called, shown, stands}
use Rattle.index_single.proofs.MergeCallLemmas.{Commits, commits}
use Rattle.index_single.proofs.OwnLemmas.{job_own}
use Rattle.index_single.proofs.single.SingleIndex.commit_merge.Given.{Over}
use Rattle.index_single.proofs.single.SingleIndex.commit_merge.Goals as goal

pub commit_merge-freed-requires-clause-begun : goal.commit_merge-freed-requires-clause-begun
commit_merge-freed-requires-clause-begun g c =
    job_own c.self.inside.worker c.args.self.now c.args.done.parts c.self.invariant.number
    c.self.view_is c.self.invariant.legal c.requires

called : (g : Over) (c : goal.After-meet g)
    → Called c.self.inside.index c.self.inside.main c.self.inside.worker
    c.commit_merge-freed.new.handle c.meet.new.to c.meet.new.from c.args.self.now
called g c = record {
  alone = c.self.invariant;
  seen = c.self.view_is;
  same = c.commit_merge-freed.ensures.handle;
  legal = c.commit_merge-freed.ensures.legal;
  kept = c.meet.ensures.from;
  main_same = c.meet.ensures.handle;
  met = c.meet.ensures.met;
}

all : (g : Over) (c : goal.After-meet g)
    → Commits (merge_of CALLER c.args.done.parts) c.commit_merge-freed.result.gens.items
    c.args.self.now (seen_by c.meet.new.from)
all g c =
    shown (called g c)
    (Commits (merge_of CALLER c.args.done.parts) c.commit_merge-freed.result.gens.items)
    (commits (called g c) c.args.done.parts c.commit_merge-freed.result.gens.items
    c.commit_merge-freed.ensures.ended)

pub invariant_of-self : goal.invariant_of-self
invariant_of-self g c = stands (called g c) (all g c).later

pub returns-clause-freed : goal.returns-clause-freed
returns-clause-freed g c = (all g c).freed_is

pub returns-clause-ok : goal.returns-clause-ok
returns-clause-ok g c = (all g c).ok

pub returns-clause-ended : goal.returns-clause-ended
returns-clause-ended g c = (all g c).ended

pub returns-clause-views : goal.returns-clause-views
returns-clause-views g c = (all g c).views
