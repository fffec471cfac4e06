-- The segment leaves what the live docs are of.
use Rattle.std.proofs.Common.{◌∙◌, ap, subst}
use Rattle.index_core.specs.Histories.{Record}
use Rattle.index_core.specs.CurrentPieces.{after_lived}
use Rattle.index_shared.specs.Offers.{refreshed}
use Rattle.index_shared.specs.Offering.{IsTended}
use Rattle.index_shared.proofs.OfferEventLemmas.{same_tended, built_tended, refreshed_tended}
use Rattle.index_shared.proofs.OfferReadyLemmas.{fits_built, live_docs_of}
use Rattle.index_shared.proofs.guarded.Guarded.refresh.Goals as goal

pub returns-in_err-done-clause-tended : goal.returns-in_err-done-clause-tended
returns-in_err-done-clause-tended c =
    subst (λ (r : Record). IsTended c.args.caller 2 r c.built.new.self) c.self.view_is
    (same_tended c.args.caller c.self.inside.core c.built.new.self c.in_err-done.ensures.err)

pub lived-requires-clause-within : goal.lived-requires-clause-within
lived-requires-clause-within c =
    (fits_built c.args.caller c.args.generation c.args.upto c.args.generation c.self.inside.core
    c.args.self.now c.built.new.self c.args.segment.value c.args.live.value c.self.view_is
    c.self.invariant c.in_ok-done.ensures.legal c.in_ok-done.ensures.ok c.requires).within

pub lived-requires-clause-live_docs : goal.lived-requires-clause-live_docs
lived-requires-clause-live_docs c = λ _.
    live_docs_of c.built.new.self c.args.upto c.args.generation c.args.segment.value
    c.args.live.value
    (fits_built c.args.caller c.args.generation c.args.upto c.args.generation c.self.inside.core
    c.args.self.now c.built.new.self c.args.segment.value c.args.live.value c.self.view_is
    c.self.invariant c.in_ok-done.ensures.legal c.in_ok-done.ensures.ok c.requires)

pub returns-in_err-lived-clause-tended : goal.returns-in_err-lived-clause-tended
returns-in_err-lived-clause-tended c =
    subst (λ (r : Record). IsTended c.args.caller 2 r c.lived.new.self) c.self.view_is
    (built_tended c.args.caller c.args.generation c.self.inside.core c.lived.new.self
    (c.in_err-lived.ensures.err ∙ c.in_ok-done.ensures.ok))

pub returns-clause-ok : goal.returns-clause-ok
returns-clause-ok c =
    c.in_ok-lived.ensures.ok
    ∙ ap (λ (r : Record). after_lived c.args.caller c.args.generation c.args.upto r)
    c.in_ok-done.ensures.ok
    ∙ ap (λ (r : Record). refreshed c.args.caller c.args.upto r c.args.generation) c.self.view_is

pub returns-clause-tended : goal.returns-clause-tended
returns-clause-tended c =
    subst (λ (r : Record). IsTended c.args.caller 2 r c.lived.new.self) c.self.view_is
    (refreshed_tended c.args.caller c.args.upto c.args.generation c.self.inside.core
    c.lived.new.self
    (c.in_ok-lived.ensures.ok
    ∙ ap (λ (r : Record). after_lived c.args.caller c.args.generation c.args.upto r)
    c.in_ok-done.ensures.ok))
