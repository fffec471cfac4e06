-- What fits a generation in what was seen fits it in what the section finds.
use Rattle.index_shared.specs.Sections.{seen_by}
use Rattle.index_shared.proofs.SectionLemmas.{Enters, entering, finds_it, number_is}
use Rattle.index_shared.proofs.SectionLemmas.{Visited, visited}
use Rattle.index_shared.proofs.OfferReadyLemmas.{fits_later}
use Rattle.index_shared.proofs.OfferSectionLemmas.{section_leaves, section_after}
use Rattle.index_shared.proofs.OfferSectionLemmas.{gives, stops_in}
use Rattle.index_shared.proofs.index.Index.give.Given.{Over}
use Rattle.index_shared.proofs.index.Index.give.Goals as goal

entered : (g : Over) (c : goal.After-give g)
    → Enters c.args.handle.now c.take-hold.new.pass c.take-hold.result.value c.value.result.now
    c.number.result
entered g c =
    entering c.take-hold.ensures.found c.take-hold.ensures.handle c.value.ensures.value
    c.number.ensures

pub refresh-answer-requires : goal.refresh-answer-requires
refresh-answer-requires g c = λ legal.
    let enters : Enters c.args.handle.now c.take-hold.new.pass c.take-hold.result.value
    c.value.result.now c.number.result =
    entering c.take-hold.ensures.found c.take-hold.ensures.handle c.value.ensures.value
    c.number.ensures in
    fits_later (seen_by c.args.handle.now) c.value.result.now c.requires.legal legal
    (finds_it enters).later c.args.upto
    c.args.generation c.args.segment.value c.args.live.value c.requires.fits

pub give-requires-clause-leaves : goal.give-requires-clause-leaves
give-requires-clause-leaves g c =
    section_leaves
    (entering c.take-hold.ensures.found c.take-hold.ensures.handle c.value.ensures.value
    c.number.ensures) c.refresh-answer.new.self c.refresh-answer.ensures.tended

section : (g : Over) (c : goal.After-give g)
    → Visited c.args.handle.now c.value.result.now c.refresh-answer.new.self c.give.new.pass
section g c =
    visited (entered g c) c.requires.at.1 c.give.ensures.handle c.refresh-answer.ensures.before

pub returns-clause-ok : goal.returns-clause-ok
returns-clause-ok g c =
    gives (section g c) c.args.upto c.args.generation c.refresh-answer.result
    (number_is (entered g c)) c.refresh-answer.ensures.answer c.refresh-answer.ensures.ok

pub returns-clause-err : goal.returns-clause-err
returns-clause-err g c =
    stops_in (section g c) c.args.generation c.refresh-answer.result (number_is (entered g c))
    c.refresh-answer.ensures.err

pub returns-clause-tends : goal.returns-clause-tends
returns-clause-tends g c =
    section_after (section g c) (number_is (entered g c)) c.refresh-answer.ensures.tended
    c.refresh-answer.ensures.legal
