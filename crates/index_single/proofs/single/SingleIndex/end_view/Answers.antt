-- The view is open, and the section found what was seen.
use Rattle.std.proofs.Common.{refl}
use Rattle.index_shared.specs.OwnViews.{view_in}
use Rattle.index_shared.specs.Sections.{seen_by}
use Rattle.index_single.proofs.CalledLemmas.{Called, shown, stands}
use Rattle.index_single.proofs.OwnLemmas.{view_own}
use Rattle.index_single.proofs.ViewCallLemmas.{Ends, ends}
use Rattle.index_single.proofs.single.SingleIndex.end_view.Given.{Over}
use Rattle.index_single.proofs.single.SingleIndex.end_view.Goals as goal

pub end_view-freed-requires-clause-begun : goal.end_view-freed-requires-clause-begun
end_view-freed-requires-clause-begun g c =
    view_own c.self.inside.worker c.args.self.now (λ n. view_in n c.args.view)
    c.self.invariant.number c.self.view_is refl c.requires

called : (g : Over) (c : goal.After-meet g)
    → Called c.self.inside.index c.self.inside.main c.self.inside.worker
    c.end_view-freed.new.handle c.meet.new.to c.meet.new.from c.args.self.now
called g c = record {
  alone = c.self.invariant;
  seen = c.self.view_is;
  same = c.end_view-freed.ensures.handle;
  legal = c.end_view-freed.ensures.legal;
  kept = c.meet.ensures.from;
  main_same = c.meet.ensures.handle;
  met = c.meet.ensures.met;
}

all : (g : Over) (c : goal.After-meet g)
    → Ends c.args.view.number c.end_view-freed.result.gens.items c.args.self.now
    (seen_by c.meet.new.from)
all g c =
    shown (called g c) (Ends c.args.view.number c.end_view-freed.result.gens.items)
    (ends (called g c) c.args.view.number c.end_view-freed.result.gens.items
    c.end_view-freed.ensures.ended)

pub invariant_of-self : goal.invariant_of-self
invariant_of-self g c = stands (called g c) (all g c).later

pub returns-clause-freed : goal.returns-clause-freed
returns-clause-freed g c = (all g c).freed_is

pub returns-clause-ok : goal.returns-clause-ok
returns-clause-ok g c = (all g c).ok

pub returns-clause-ended : goal.returns-clause-ended
returns-clause-ended g c = (all g c).ended

pub returns-clause-merges : goal.returns-clause-merges
returns-clause-merges g c = (all g c).merges
