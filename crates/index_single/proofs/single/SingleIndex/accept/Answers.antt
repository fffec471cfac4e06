-- The section found what was seen.
use Rattle.sg_paths.specs.Operations.{plain_op}
use Rattle.index_shared.specs.Sections.{seen_by}
use Rattle.index_single.proofs.AcceptLemmas.{Accepts, accepts}
use Rattle.index_single.proofs.CalledLemmas.{Called, shown, stands}
use Rattle.index_single.proofs.single.SingleIndex.accept.Given.{Over}
use Rattle.index_single.proofs.single.SingleIndex.accept.Goals as goal

called : (g : Over) (c : goal.After-meet g)
    → Called c.self.inside.index c.self.inside.main c.self.inside.worker
    c.accept-answer.new.handle c.meet.new.to c.meet.new.from c.args.self.now
called g c = record {
  alone = c.self.invariant;
  seen = c.self.view_is;
  same = c.accept-answer.ensures.handle;
  legal = c.accept-answer.ensures.legal;
  kept = c.meet.ensures.from;
  main_same = c.meet.ensures.handle;
  met = c.meet.ensures.met;
}

all : (g : Over) (c : goal.After-meet g)
    → Accepts (plain_op c.args.op) c.accept-answer.result (λ r. r.why) c.args.self.now
    (seen_by c.meet.new.from)
all g c =
    shown (called g c) (Accepts (plain_op c.args.op) c.accept-answer.result (λ r. r.why))
    (accepts (called g c) (plain_op c.args.op) c.accept-answer.result (λ r. r.why)
    c.accept-answer.ensures.ok c.accept-answer.ensures.refused)

pub invariant_of-self : goal.invariant_of-self
invariant_of-self g c = stands (called g c) (all g c).later

pub returns-clause-number : goal.returns-clause-number
returns-clause-number g c = (all g c).number

pub returns-clause-ok : goal.returns-clause-ok
returns-clause-ok g c = (all g c).ok

pub returns-clause-room : goal.returns-clause-room
returns-clause-room g c = (all g c).room

pub returns-clause-refused : goal.returns-clause-refused
returns-clause-refused g c = (all g c).refused

pub returns-clause-err : goal.returns-clause-err
returns-clause-err g c = (all g c).err

pub returns-clause-views : goal.returns-clause-views
returns-clause-views g c = (all g c).views

pub returns-clause-merges : goal.returns-clause-merges
returns-clause-merges g c = (all g c).merges
