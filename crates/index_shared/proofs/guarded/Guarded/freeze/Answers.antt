-- What is buffered is frozen.
use Rattle.std.proofs.Common.{subst}
use Rattle.index_core.specs.Histories.{Record}
use Rattle.index_shared.specs.Offering.{IsTended}
use Rattle.index_shared.proofs.OfferEventLemmas.{froze_tended}
use Rattle.index_shared.proofs.guarded.Guarded.freeze.Goals as goal

pub returns-in_err-parts-clause-tended : goal.returns-in_err-parts-clause-tended
returns-in_err-parts-clause-tended c =
    subst (λ (r : Record). IsTended c.args.caller 2 r c.seal.new.self) c.self.view_is
    (froze_tended c.args.caller c.self.inside.core c.seal.new.self c.in_ok-seal.ensures.ok)

pub returns-clause-tended : goal.returns-clause-tended
returns-clause-tended c =
    subst (λ (r : Record). IsTended c.args.caller 2 r c.seal.new.self) c.self.view_is
    (froze_tended c.args.caller c.self.inside.core c.seal.new.self c.in_ok-seal.ensures.ok)
