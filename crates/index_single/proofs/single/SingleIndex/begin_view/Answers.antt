-- The section found what was seen.
use Rattle.index_core.specs.OpenViews.{view_of}
use Rattle.index_shared.specs.Sections.{seen_by}
use Rattle.index_single.proofs.CalledLemmas.{Called, shown, stands}
use Rattle.index_single.proofs.ViewCallLemmas.{Begins, begins}
use Rattle.index_single.proofs.single.SingleIndex.begin_view.Given.{Over}
use Rattle.index_single.proofs.single.SingleIndex.begin_view.Goals as goal

called : (g : Over) (c : goal.After-meet g)
    → Called c.self.inside.index c.self.inside.main c.self.inside.worker
    c.begin_view-answer.new.handle c.meet.new.to c.meet.new.from c.args.self.now
called g c = record {
  alone = c.self.invariant;
  seen = c.self.view_is;
  same = c.begin_view-answer.ensures.handle;
  legal = c.begin_view-answer.ensures.legal;
  kept = c.meet.ensures.from;
  main_same = c.meet.ensures.handle;
  met = c.meet.ensures.met;
}

all : (g : Over) (c : goal.After-meet g)
    → Begins c.begin_view-answer.result view_of c.args.self.now (seen_by c.meet.new.from)
all g c =
    shown (called g c) (Begins c.begin_view-answer.result view_of)
    (begins (called g c) c.begin_view-answer.result view_of c.begin_view-answer.ensures.ok
    c.begin_view-answer.ensures.refused)

pub invariant_of-self : goal.invariant_of-self
invariant_of-self g c = stands (called g c) (all g c).later

pub returns-clause-view : goal.returns-clause-view
returns-clause-view g c = (all g c).view_is

pub returns-clause-begun : goal.returns-clause-begun
returns-clause-begun g c = (all g c).begun

pub returns-clause-ok : goal.returns-clause-ok
returns-clause-ok g c = (all g c).ok

pub returns-clause-opened : goal.returns-clause-opened
returns-clause-opened g c = (all g c).opened

pub returns-clause-others : goal.returns-clause-others
returns-clause-others g c = (all g c).others

pub returns-clause-room : goal.returns-clause-room
returns-clause-room g c = (all g c).room

pub returns-clause-refused : goal.returns-clause-refused
returns-clause-refused g c = (all g c).refused

pub returns-clause-err : goal.returns-clause-err
returns-clause-err g c = (all g c).err

pub returns-clause-merges : goal.returns-clause-merges
returns-clause-merges g c = (all g c).merges
