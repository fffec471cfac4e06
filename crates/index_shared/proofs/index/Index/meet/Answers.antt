-- What a handle has open is open in the longer history.
use Rattle.std.proofs.Common.{sym, subst}
use Rattle.index_shared.specs.Sections.{HandleState, seen_by}
use Rattle.index_shared.specs.OwnViews.{HasMerge}
use Rattle.index_shared.proofs.OwnViewLemmas.{views_stay}
use Rattle.index_shared.proofs.OwnMergeLemmas.{merges_stay}
use Rattle.index_shared.proofs.HasMergeLemmas.{has_same}
use Rattle.index_shared.proofs.index.Index.meet.Goals as goal

pub returns-clause-views : goal.returns-clause-views
returns-clause-views c = λ legal.
    let met = c.meet.ensures.met in
    views_stay c.args.to.now.number (seen_by c.args.to.now) (seen_by c.meet.new.to)
    met.later_to.events met.later_to.history_is met.others legal

pub returns-clause-merges : goal.returns-clause-merges
returns-clause-merges c = λ legal.
    let met = c.meet.ensures.met in
    merges_stay c.args.to.now.number (seen_by c.args.to.now) (seen_by c.meet.new.to)
    met.later_to.events met.later_to.history_is met.others legal

pub returns-clause-keeps : goal.returns-clause-keeps
returns-clause-keeps c = λ legal parts has.
    let met = c.meet.ensures.met in
    subst (λ (x : HandleState). HasMerge x parts) (sym c.meet.ensures.handle)
    (has_same c.args.to.now (seen_by c.meet.new.to) met.later_to legal
    (merges_stay c.args.to.now.number (seen_by c.args.to.now) (seen_by c.meet.new.to)
    met.later_to.events met.later_to.history_is met.others legal) parts has)
