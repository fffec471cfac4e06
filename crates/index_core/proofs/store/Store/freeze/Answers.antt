-- The closed batch gets its slot.
use Rattle.std.proofs.Common.{◌≡◌, sym, ◌∙◌, ap, arith, map, option_map, Some, None}
use Rattle.std.proofs.lemmas.List.{length-map, map-append}
use Rattle.sg_paths.specs.Operations.{PlainBatch}
use Rattle.index_core.specs.Fields.{freezing}
use Rattle.index_core.proofs.StoreLemmas.{frozen_store, mapped_one}
use Rattle.index_core.proofs.store.Store.freeze.Goals as goal

pub returns : goal.returns
returns c =
    let closed : option_map (λ a. a.value) c.self.inside.closed ≡ Some c.in-Some.batch.value =
    ap (option_map (λ a. a.value)) (sym c.take.ensures.value ∙ c.in-Some.is) in
    let later : option_map (λ a. a.value) c.take.new.self ≡ None =
    ap (option_map (λ a. a.value)) c.take.ensures.after in
    frozen_store c.args.caller _ _ _ _ _ _ c.in-Some.batch.value _ _ _ _ _ _ _ _ _ _ _ _ _ _ _ _ _ _
    _
    c.behind-batch.inside.from c.behind-batch-2.inside.upto closed later c.self.invariant.0
    c.self.invariant.1
    (ap (λ (b : PlainBatch). b.from) (c.behind-batch.view_is ∙ c.deref.ensures))
    (ap (λ (b : PlainBatch). b.upto) (c.behind-batch-2.view_is ∙ c.deref-2.ensures))
    (mapped_one _ _ _ c.push_reserved-3.ensures.items)
    (ap (map (λ a. a.value)) c.push_reserved-2.ensures.items ∙ map-append (λ a. a.value) _ _)
    c.push_reserved.ensures.items
    (let long = length-map c.self.inside.batches.items (λ a. a.value) in
    omega (arith, long, c.len-at.ensures)) c.push_reserved-3.ensures.capacity
    c.bring.ensures.entries
    ∙ ap (freezing c.args.caller) c.self.view_is
