-- The merge is open, and the section found what was seen.
use Rattle.index_core.specs.MergeCalls.{merge_of}
use Rattle.index_single.specs.declared.caller.TheConstants.{CALLER}
use Rattle.index_shared.specs.Sections.{seen_by}
use Rattle.index_single.proofs.CalledLemmas.{Called, shown, stands}
use Rattle.index_single.proofs.MergeCallLemmas.{Drops, drops}
use Rattle.index_single.proofs.OwnLemmas.{merge_own}
use Rattle.index_single.proofs.single.SingleIndex.drop_merge.Given.{Over}
use Rattle.index_single.proofs.single.SingleIndex.drop_merge.Goals as goal

pub drop_merge-requires-clause-begun : goal.drop_merge-requires-clause-begun
drop_merge-requires-clause-begun g c =
    merge_own c.self.inside.worker c.args.self.now c.args.job c.self.invariant.number
    c.self.view_is c.requires

called : (g : Over) (c : goal.After-meet g)
    → Called c.self.inside.index c.self.inside.main c.self.inside.worker
    c.drop_merge.new.handle c.meet.new.to c.meet.new.from c.args.self.now
called g c = record {
  alone = c.self.invariant;
  seen = c.self.view_is;
  same = c.drop_merge.ensures.handle;
  legal = c.drop_merge.ensures.legal;
  kept = c.meet.ensures.from;
  main_same = c.meet.ensures.handle;
  met = c.meet.ensures.met;
}

all : (g : Over) (c : goal.After-meet g)
    → Drops (merge_of CALLER c.args.job) c.args.self.now (seen_by c.meet.new.from)
all g c =
    shown (called g c) (Drops (merge_of CALLER c.args.job))
    (drops (called g c) c.args.job c.drop_merge.ensures.dropped)

pub invariant_of-self : goal.invariant_of-self
invariant_of-self g c = stands (called g c) (all g c).later

pub returns-clause-ok : goal.returns-clause-ok
returns-clause-ok g c = (all g c).ok

pub returns-clause-ended : goal.returns-clause-ended
returns-clause-ended g c = (all g c).ended

pub returns-clause-views : goal.returns-clause-views
returns-clause-views g c = (all g c).views
