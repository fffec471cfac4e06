-- Each section found what was seen.
use Rattle.index_shared.specs.Sections.{seen_by}
use Rattle.index_single.proofs.CalledLemmas.{Called, shown, stands}
use Rattle.index_single.proofs.OfferLemmas.{Offers, offers}
use Rattle.index_single.proofs.single.SingleIndex.offer.Given.{Over}
use Rattle.index_single.proofs.single.SingleIndex.offer.Goals as goal

called : (g : Over) (c : goal.After-meet g)
    → Called c.self.inside.index c.self.inside.main c.self.inside.worker
    c.offer-answer.new.handle c.meet.new.to c.meet.new.from c.args.self.now
called g c = record {
  alone = c.self.invariant;
  seen = c.self.view_is;
  same = c.offer-answer.ensures.handle;
  legal = c.offer-answer.ensures.legal;
  kept = c.meet.ensures.from;
  main_same = c.meet.ensures.handle;
  met = c.meet.ensures.met;
}

all : (g : Over) (c : goal.After-meet g)
    → Offers c.offer-answer.result c.args.self.now (seen_by c.meet.new.from)
all g c =
    shown (called g c) (Offers c.offer-answer.result)
    (offers (called g c) c.offer-answer.result c.offer-answer.ensures.ok
    c.offer-answer.ensures.stopped c.offer-answer.ensures.upkeep)

pub invariant_of-self : goal.invariant_of-self
invariant_of-self g c = stands (called g c) (all g c).later

pub returns-clause-count : goal.returns-clause-count
returns-clause-count g c = (all g c).count

pub returns-clause-ok : goal.returns-clause-ok
returns-clause-ok g c = (all g c).ok

pub returns-clause-stopped : goal.returns-clause-stopped
returns-clause-stopped g c = (all g c).stopped

pub returns-clause-views : goal.returns-clause-views
returns-clause-views g c = (all g c).views

pub returns-clause-merges : goal.returns-clause-merges
returns-clause-merges g c = (all g c).merges
