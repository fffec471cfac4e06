-- A query context on its own.
use Rattle.std.proofs.Common.{◌≡◌, ◌+◌, ◌≤◌, ◌++◌, ◌∷◌, [], false, cond, ℕ, List}
use Rattle.std.proofs.Common.{ap, ◌∙◌, subst, arith, length, take}
use Rattle.sg_context.specs.Queries.{PlainQuery}
use Rattle.fst_code.specs.Lists.{root_paths}
use Rattle.fst_code.specs.Bytes.{nodes_of}
use Rattle.fst_walk.specs.Fronts.{is_front}
use Rattle.fst_walk.specs.Spots.{IsSpot}
use Rattle.fst_walk.specs.Walks.{position_of}
use Rattle.fst_walk.specs.declared.walk.Stage.TheVariants.{At}
use Rattle.fst_walk.proofs.AskingLemmas.{stands_at}
use Rattle.fst_walk.proofs.TakingLemmas.{unfound, exact_none, taken_start}
use Rattle.fst_walk.proofs.TakingLemmas.{ready_exact}
use Rattle.fst_walk.proofs.OptionLemmas.{either}
use Rattle.fst_walk.proofs.taking.take_exact.Goals as goal

pub node-view-requires : goal.node-view-requires
node-view-requires g c = (c.in-Some.ensures.spot [] c.requires.root).is_node

pub start_at-requires-clause-spot : goal.start_at-requires-clause-spot
start_at-requires-clause-spot g c = (c.args.context.now, c.in-Some.ensures.spot [] c.requires.root)

pub returns-in-None : goal.returns-in-None
returns-in-None g c =
    let e = c.place.ensures in
    let l = c.leave.ensures in
    unfound (nodes_of c.args.t.now) c.args.query.now c.args.walk.now c.leave.new.self
    c.args.context.now false c.args.root c.args.steps.now c.go.new.steps
    c.requires.sound c.requires.contexts c.requires.root c.requires.idle c.requires.closed
    c.requires.next
    (c.in-None.ensures.spot [] c.requires.root) c.in-None.ensures.ticks
    l.stage (ap (λ k. take k c.leave.new.self.at) l.len ∙ ap (take c.place.new.self.len) l.at
    ∙ e.bytes)
    (omega (arith, l.len, e.len, c.requires.next.fits))

pub returns-in-Some : goal.returns-in-Some
returns-in-Some g c =
    let e = c.place.ensures in
    let t = nodes_of c.args.t.now in
    let q = c.args.query.now in
    let x = c.args.context.now in
    let n = c.place.new.self in
    let at : IsSpot t x c.in-Some.spot = c.in-Some.ensures.spot [] c.requires.root in
    let prefix : c.as_slice.result.now ≡ q.prefix =
    c.as_slice.ensures.value ∙ ap (λ (z : PlainQuery). z.prefix) c.query.view_is in
    let fits : n.len ≤ 63 = omega (arith, e.len, c.requires.next.fits) in
    let walked : c.go.new.steps ≤ c.args.steps.now + length x = c.in-Some.ensures.ticks in
    let tick : c.node-view.new.steps ≡ c.go.new.steps + 1 = c.node-view.ensures.tick in
    let looked : c.start_at.new.steps ≤ c.node-view.new.steps + cond
    (is_front (root_paths t) (x ++ 29 ∷ [])) (length q.prefix) 0 =
    subst (λ (z : List ℕ). c.start_at.new.steps ≤ c.node-view.new.steps + cond
    (is_front (root_paths t) (x ++ 29 ∷ [])) (length z) 0) prefix
    (c.start_at.ensures.ticks x at) in
    let ticks : c.start_at.new.steps ≤ c.args.steps.now + length x + 1 + cond
    (is_front (root_paths t) (x ++ 29 ∷ [])) (length q.prefix) 0 =
    omega (arith, walked, tick, looked) in
    either c.start_at.result
    (λ never. exact_none t q c.args.walk.now n x c.args.root c.args.steps.now c.start_at.new.steps
    c.requires.sound c.requires.contexts c.requires.root
    c.requires.idle c.requires.closed c.requires.next
    (subst (λ z. is_front (root_paths t) (x ++ 29 ∷ z) ≡ false) prefix never) ticks
    e.stage e.bytes fits)
    (λ s found. taken_start t q c.args.walk.now n x false c.args.root s c.args.steps.now
    c.start_at.new.steps c.requires.sound c.requires.contexts c.requires.root
    c.requires.idle c.requires.closed c.requires.next
    (subst (λ z. IsSpot t (x ++ 29 ∷ z) s) prefix found) ticks
    (stands_at n At e.stage) e.bytes (rw e.stage (omega arith))
    (ready_exact t q (position_of c.args.walk.now) n x c.requires.closed c.requires.next e.stage
    e.bytes fits))
    (c.start_at.ensures.spot x at)
