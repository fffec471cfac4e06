-- The closed batch isn't known to its own piece.
use Rattle.std.proofs.Common.{◌∙◌}
use Rattle.index_core.proofs.StoreLemmas.{least_closed}
use Rattle.index_core.proofs.store.Store.share.Goals as goal

pub share_batches-requires : goal.share_batches-requires
share_batches-requires c closed =
    least_closed c.args.self.now c.least_applied-least.result c.accepted-upto.result
    c.as_slice.result.now c.least_applied-least.ensures
    (c.as_slice.ensures.value ∙ c.in_ok-pieces.ensures) closed (c.requires.some closed)
