-- A query context with all that goes on from it.
use Rattle.std.proofs.Common.{◌≡◌, ◌+◌, ◌≤◌, ◌++◌, ◌∷◌, [], false, true, cond, ℕ, List}
use Rattle.std.proofs.Common.{sym, ap, ◌∙◌, subst, arith, length, take}
use Rattle.sg_context.specs.Queries.{PlainQuery}
use Rattle.fst_code.specs.Lists.{root_paths}
use Rattle.fst_code.specs.Bytes.{nodes_of}
use Rattle.fst_walk.specs.Fronts.{is_front}
use Rattle.fst_walk.specs.Spots.{IsSpot}
use Rattle.fst_walk.specs.Walks.{bytes_of}
use Rattle.fst_walk.specs.Walks.{position_of}
use Rattle.fst_walk.specs.declared.walk.Stage.TheVariants.{Within}
use Rattle.fst_walk.proofs.AskingLemmas.{stands_at}
use Rattle.fst_walk.proofs.TakingLemmas.{unfound, taken_start, opened, ready_group}
use Rattle.fst_walk.proofs.WithinLemmas.{group_past, group_next}
use Rattle.fst_walk.proofs.OptionLemmas.{either}
use Rattle.fst_walk.proofs.taking.take_prefix.Goals as goal

pub node-view-requires : goal.node-view-requires
node-view-requires g c = (c.in-Some.ensures.spot [] c.requires.root).is_node

pub start_at-requires-clause-spot : goal.start_at-requires-clause-spot
start_at-requires-clause-spot g c = (c.args.context.now, c.in-Some.ensures.spot [] c.requires.root)

pub returns-in-None : goal.returns-in-None
returns-in-None g c =
    let e = c.place.ensures in
    let l = c.leave.ensures in
    unfound (nodes_of c.args.t.now) c.args.query.now c.args.walk.now c.leave.new.self
    c.args.context.now true c.args.root c.args.steps.now c.go.new.steps
    c.requires.sound c.requires.contexts c.requires.root c.requires.idle c.requires.closed
    c.requires.next
    (c.in-None.ensures.spot [] c.requires.root) c.in-None.ensures.ticks
    l.stage (ap (λ k. take k c.leave.new.self.at) l.len ∙ ap (take c.place.new.self.len) l.at
    ∙ e.bytes)
    (omega (arith, l.len, e.len, c.requires.next.fits))

pub advance-requires-clause-group : goal.advance-requires-clause-group
advance-requires-clause-group g c =
    let e = c.place.ensures in
    let o = c.open.ensures in
    opened (nodes_of c.args.t.now) c.args.query.now (position_of c.args.walk.now) c.open.new.self
    c.args.context.now c.in-Some.spot c.requires.closed c.requires.next
    (c.in-Some.ensures.spot [] c.requires.root) o.stage (o.base ∙ e.base ∙ sym e.len ∙ sym o.len)
    (ap (λ k. take k c.open.new.self.at) o.len ∙ ap (take c.place.new.self.len) o.at ∙ e.bytes)
    (omega (arith, o.len, e.len, c.requires.next.fits))
    (ap (λ (z : List ℕ). length z) o.at ∙ e.room) o.top

pub returns-in-Some-start_at : goal.returns-in-Some-start_at
returns-in-Some-start_at g c =
    let e = c.place.ensures in
    let o = c.open.ensures in
    let t = nodes_of c.args.t.now in
    let q = c.args.query.now in
    let x = c.args.context.now in
    let n = c.open.new.self in
    let at : IsSpot t x c.in-Some.spot = c.in-Some.ensures.spot [] c.requires.root in
    let prefix : c.as_slice.result.now ≡ q.prefix =
    c.as_slice.ensures.value ∙ ap (λ (z : PlainQuery). z.prefix) c.query.view_is in
    let walked : c.go.new.steps ≤ c.args.steps.now + length x = c.in-Some.ensures.ticks in
    let tick : c.node-view.new.steps ≡ c.go.new.steps + 1 = c.node-view.ensures.tick in
    let looked : c.start_at.new.steps ≤ c.node-view.new.steps + cond
    (is_front (root_paths t) (x ++ 29 ∷ [])) (length q.prefix) 0 =
    subst (λ (z : List ℕ). c.start_at.new.steps ≤ c.node-view.new.steps + cond
    (is_front (root_paths t) (x ++ 29 ∷ [])) (length z) 0) prefix
    (c.start_at.ensures.ticks x at) in
    let ticks : c.start_at.new.steps ≤ c.args.steps.now + length x + 1 + cond
    (is_front (root_paths t) (x ++ 29 ∷ [])) (length q.prefix) 0 =
    omega (arith, walked, tick, looked) in
    let base : n.base ≡ n.len = o.base ∙ e.base ∙ sym e.len ∙ sym o.len in
    let bytes : bytes_of n ≡ x = ap (λ k. take k n.at) o.len ∙ ap (take c.place.new.self.len) o.at
    ∙ e.bytes in
    let group = opened t q (position_of c.args.walk.now) n x c.in-Some.spot c.requires.closed
    c.requires.next at o.stage base
    bytes (omega (arith, o.len, e.len, c.requires.next.fits))
    (ap (λ (z : List ℕ). length z) o.at ∙ e.room) o.top in
    taken_start t q c.args.walk.now n x true c.args.root c.in-Some-start_at.found c.args.steps.now
    c.start_at.new.steps c.requires.sound c.requires.contexts c.requires.root
    c.requires.idle c.requires.closed c.requires.next
    (subst (λ z. IsSpot t (x ++ 29 ∷ z) c.in-Some-start_at.found) prefix
    (c.in-Some-start_at.ensures.spot x at)) ticks
    (stands_at n Within o.stage) bytes (rw o.stage (omega (arith, base))) (ready_group t q n group)

pub returns-in-None-start_at : goal.returns-in-None-start_at
returns-in-None-start_at g c =
    let e = c.place.ensures in
    let o = c.open.ensures in
    let t = nodes_of c.args.t.now in
    let q = c.args.query.now in
    let x = c.args.context.now in
    let n = c.open.new.self in
    let at : IsSpot t x c.in-Some.spot = c.in-Some.ensures.spot [] c.requires.root in
    let prefix : c.as_slice.result.now ≡ q.prefix =
    c.as_slice.ensures.value ∙ ap (λ (z : PlainQuery). z.prefix) c.query.view_is in
    let walked : c.go.new.steps ≤ c.args.steps.now + length x = c.in-Some.ensures.ticks in
    let tick : c.node-view.new.steps ≡ c.go.new.steps + 1 = c.node-view.ensures.tick in
    let looked : c.start_at.new.steps ≤ c.node-view.new.steps + cond
    (is_front (root_paths t) (x ++ 29 ∷ [])) (length q.prefix) 0 =
    subst (λ (z : List ℕ). c.start_at.new.steps ≤ c.node-view.new.steps + cond
    (is_front (root_paths t) (x ++ 29 ∷ [])) (length z) 0) prefix
    (c.start_at.ensures.ticks x at) in
    let ticks : c.start_at.new.steps ≤ c.args.steps.now + length x + 1 + cond
    (is_front (root_paths t) (x ++ 29 ∷ [])) (length q.prefix) 0 =
    omega (arith, walked, tick, looked) in
    let base : n.base ≡ n.len = o.base ∙ e.base ∙ sym e.len ∙ sym o.len in
    let bytes : bytes_of n ≡ x = ap (λ k. take k n.at) o.len ∙ ap (take c.place.new.self.len) o.at
    ∙ e.bytes in
    let none : is_front (root_paths t) (x ++ 29 ∷ c.as_slice.result.now) ≡ false =
    c.in-None-start_at.ensures.spot x at in
    let never : is_front (root_paths t) (x ++ 29 ∷ q.prefix) ≡ false =
    subst (λ z. is_front (root_paths t) (x ++ 29 ∷ z) ≡ false) prefix none in
    either c.advance.result
    (λ p. group_past t q c.args.walk.now n c.advance.new.walk x c.args.root c.args.steps.now
    c.start_at.new.steps c.advance.new.steps
    c.requires.sound c.requires.contexts c.requires.root c.requires.idle c.requires.closed
    c.requires.next never ticks bytes base p)
    (λ s p. group_next t q c.args.walk.now n c.advance.new.walk x c.args.root s c.args.steps.now
    c.start_at.new.steps c.advance.new.steps
    c.requires.sound c.requires.contexts c.requires.root c.requires.idle c.requires.closed
    c.requires.next never ticks bytes base p)
    c.advance.ensures
