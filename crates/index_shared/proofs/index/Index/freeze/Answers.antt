-- One critical section.
use Rattle.index_shared.proofs.SectionLemmas.{Enters, entering, number_is, Visited, visited}
use Rattle.index_shared.proofs.OfferSectionLemmas.{section_leaves, section_after, freeze_stops}
use Rattle.index_shared.proofs.index.Index.freeze.Given.{Over}
use Rattle.index_shared.proofs.index.Index.freeze.Goals as goal

entered : (g : Over) (c : goal.After-give g)
    → Enters c.args.handle.now c.take-hold.new.pass c.take-hold.result.value c.value.result.now
    c.number.result
entered g c =
    entering c.take-hold.ensures.found c.take-hold.ensures.handle c.value.ensures.value
    c.number.ensures

pub give-requires-clause-leaves : goal.give-requires-clause-leaves
give-requires-clause-leaves g c =
    section_leaves
    (entering c.take-hold.ensures.found c.take-hold.ensures.handle c.value.ensures.value
    c.number.ensures) c.freeze-answer.new.self c.freeze-answer.ensures.tended

section : (g : Over) (c : goal.After-give g)
    → Visited c.args.handle.now c.value.result.now c.freeze-answer.new.self c.give.new.pass
section g c =
    visited (entered g c) c.requires.at.1 c.give.ensures.handle c.freeze-answer.ensures.before

pub returns-clause-err : goal.returns-clause-err
returns-clause-err g c =
    freeze_stops (section g c) c.freeze-answer.result (number_is (entered g c))
    c.freeze-answer.ensures.err

pub returns-clause-tends : goal.returns-clause-tends
returns-clause-tends g c =
    section_after (section g c) (number_is (entered g c)) c.freeze-answer.ensures.tended
    c.freeze-answer.ensures.legal
