-- Down to the next start, or up and out.
use Rattle.std.proofs.Common.{◌≡◌, ◌+◌, ◌≤◌, ◌++◌, ◌∷◌, [], false, true, cond, ℕ, List}
use Rattle.std.proofs.Common.{sym, ap, ◌∙◌, subst, arith, get_or, length, take, Some, None}
use Rattle.std.proofs.Common.{MatchOption}
use Rattle.fst_code.specs.Lists.{root_paths}
use Rattle.fst_code.specs.Bytes.{nodes_of}
use Rattle.fst_walk.specs.Fronts.{is_front}
use Rattle.fst_walk.specs.Spots.{IsSpot}
use Rattle.fst_walk.specs.Starts.{left_starts}
use Rattle.fst_walk.specs.Budgets.{budget}
use Rattle.fst_walk.specs.Children.{IsChild, NoneFrom}
use Rattle.fst_walk.specs.Walks.{bytes_of}
use Rattle.fst_walk.specs.declared.spot.Spot.{Spot}
use Rattle.fst_walk.proofs.OptionLemmas.{none_of}
use Rattle.fst_walk.proofs.StepLemmas.{next_start, same_starts, past_starts, up_starts}
use Rattle.fst_walk.proofs.StepBudgetLemmas.{past_budget, up_budget}
use Rattle.fst_walk.proofs.WalkLemmas.{Down, down, up, child_fits, asks_more, cost_less, cost_found}
use Rattle.sg_context.specs.Queries.{PlainQuery}
use Rattle.fst_walk.specs.Positions.{no_end}
use Rattle.fst_walk.proofs.SpotLemmas.{spot_is_front}
use Rattle.fst_walk.proofs.FrontLemmas.{shorter_front}
use Rattle.fst_walk.proofs.BeginLemmas.{begins_itself as begins_all}
use Rattle.fst_walk.proofs.advancing.advance.Goals as goal

pub child_from-requires-clause-view : goal.child_from-requires-clause-view
child_from-requires-clause-view g c =
    let t = nodes_of c.args.t.now in
    let top = c.top-top.result in
    c.loop-child.invariant.view top
    ∙ ap (λ (s : Spot). get_or t s.node.0 []) (sym (c.top-top.ensures top))

pub child_from-requires-clause-spot : goal.child_from-requires-clause-spot
child_from-requires-clause-spot g c =
    let i = c.loop-child.invariant.group in (
      bytes_of c.loop-child.walk,
      subst (IsSpot (nodes_of c.args.t.now) (bytes_of c.loop-child.walk))
          (sym (c.top-top.ensures c.top-top.result))
          (i.spots c.loop-child.walk.len c.top-top.result i.base (omega arith)),
    )

pub push-requires : goal.push-requires
push-requires g c =
    let i = c.loop-child.invariant.group in
    let w = c.loop-child.walk in
    let at = subst (IsSpot (nodes_of c.args.t.now) (bytes_of w))
    (sym (c.top-top.ensures c.top-top.result))
    (i.spots w.len c.top-top.result i.base (omega arith)) in
    child_fits (nodes_of c.args.t.now) c.args.query.now w i c.requires.contexts c.loop-child.from
    c.in-Some.child
    (c.in-Some.ensures (bytes_of w) at)

pub node-view-requires-in-Some : goal.node-view-requires-in-Some
node-view-requires-in-Some g c =
    let i = c.loop-child.invariant.group in
    let w = c.loop-child.walk in
    let at = subst (IsSpot (nodes_of c.args.t.now) (bytes_of w))
    (sym (c.top-top.ensures c.top-top.result))
    (i.spots w.len c.top-top.result i.base (omega arith)) in
    (c.in-Some.ensures (bytes_of w) at).spot.is_node

pub start_at-requires-clause-spot : goal.start_at-requires-clause-spot
start_at-requires-clause-spot g c =
    let i = c.loop-child.invariant.group in
    let w = c.loop-child.walk in
    let at = subst (IsSpot (nodes_of c.args.t.now) (bytes_of w))
    (sym (c.top-top.ensures c.top-top.result))
    (i.spots w.len c.top-top.result i.base (omega arith)) in
    (bytes_of w ++ c.in-Some.child.label ∷ [], (c.in-Some.ensures (bytes_of w) at).spot)

pub returns-in-Some-start_at : goal.returns-in-Some-start_at
returns-in-Some-start_at g c =
    let i = c.loop-child.invariant in
    let w = c.loop-child.walk in
    let t = nodes_of c.args.t.now in
    let q = c.args.query.now in
    let n = c.push.new.self in
    let l = c.in-Some.child.label in
    let e = c.push.ensures in
    let at : IsSpot t (bytes_of w) c.top-top.result =
    subst (IsSpot t (bytes_of w)) (sym (c.top-top.ensures c.top-top.result))
    (i.group.spots w.len c.top-top.result i.group.base (omega arith)) in
    let is : IsChild t (bytes_of w) c.loop-child.from c.in-Some.child =
    c.in-Some.ensures (bytes_of w) at in
    let d : Down t q w n c.loop-child.from c.in-Some.child =
    down t q w n c.loop-child.from c.in-Some.child c.requires.contexts i.group is
    e.stage e.base e.len e.room e.bytes e.fronts e.top e.below in
    let prefix : c.as_slice.result.now ≡ q.prefix =
    c.as_slice.ensures.value ∙ ap (λ (z : PlainQuery). z.prefix) c.query.view_is in
    let child : IsSpot t (bytes_of n) c.in-Some.child.spot =
    subst (λ z. IsSpot t z c.in-Some.child.spot) (sym d.bytes) is.spot in
    let found : IsSpot t (bytes_of n ++ 29 ∷ q.prefix) c.in-Some-start_at.found =
    subst (λ z. IsSpot t (bytes_of n ++ 29 ∷ z) c.in-Some-start_at.found) prefix
    (c.in-Some-start_at.ensures.spot (bytes_of n) child) in
    let front : is_front (root_paths t) (bytes_of n ++ 29 ∷ q.prefix) ≡ true =
    spot_is_front t c.requires.sound _ _ found in
    let ended : is_front (root_paths t) (bytes_of n ++ 29 ∷ []) ≡ true =
    shorter_front (root_paths t) (bytes_of n) 29 q.prefix front in
    let ticks : c.start_at.new.steps ≤ c.node-view-in-Some.new.steps + cond
    (is_front (root_paths t) (bytes_of n ++ 29 ∷ [])) (length q.prefix) 0 =
    subst (λ (z : List ℕ). c.start_at.new.steps ≤ c.node-view-in-Some.new.steps + cond
    (is_front (root_paths t) (bytes_of n ++ 29 ∷ [])) (length z) 0) prefix
    (c.in-Some-start_at.ensures.ticks (bytes_of n) child) in
    let tick : c.node-view-in-Some.new.steps ≡ c.loop-child.steps + 1 =
    c.node-view-in-Some.ensures.tick in
    let cost = d.cost in
    let loss = cost_found (is_front (root_paths t) (bytes_of n ++ 29 ∷ [])) (length q.prefix) ended
    in
    let before = i.ticks in
    let len = d.len in
    let base = d.base in
    let order = i.group.base in
    record {
      group = d.group;
      starts = i.starts ∙ subst (λ z. left_starts (root_paths t) q (bytes_of w)
          (Some c.loop-child.from) ≡ z ∷ left_starts (root_paths t) q z (Some 0)) (sym d.bytes)
          (next_start (root_paths t) q (bytes_of w) c.loop-child.from l is.least is.between
          (ap no_end (sym d.bytes) ∙ d.group.clean)
          (asks_more t q w i.group l (bytes_of w ++ l ∷ []) (begins_all (bytes_of w ++ l ∷ [])))
          (ap (λ z. is_front (root_paths t) (z ++ 29 ∷ q.prefix)) (sym d.bytes) ∙ front));
      spot = found;
      ticks = omega (arith, ticks, tick, cost, loss, before, len, base, order, i.base);
    }

pub loop-child-smaller-in_default : goal.loop-child-smaller-in_default
loop-child-smaller-in_default g c =
    let i = c.loop-child.invariant in
    let w = c.loop-child.walk in
    let t = nodes_of c.args.t.now in
    let q = c.args.query.now in
    let n = c.push.new.self in
    let e = c.push.ensures in
    let at : IsSpot t (bytes_of w) c.top-top.result =
    subst (IsSpot t (bytes_of w)) (sym (c.top-top.ensures c.top-top.result))
    (i.group.spots w.len c.top-top.result i.group.base (omega arith)) in
    let is : IsChild t (bytes_of w) c.loop-child.from c.in-Some.child =
    c.in-Some.ensures (bytes_of w) at in
    let d : Down t q w n c.loop-child.from c.in-Some.child =
    down t q w n c.loop-child.from c.in-Some.child c.requires.contexts i.group is
    e.stage e.base e.len e.room e.bytes e.fronts e.top e.below in
    let cost = d.cost in
    let len = d.len in
    let base = d.base in
    let order = i.group.base in
    omega (arith, cost, len, base, order)

pub loop-child-preserved-in_default : goal.loop-child-preserved-in_default
loop-child-preserved-in_default g c =
    let i = c.loop-child.invariant in
    let w = c.loop-child.walk in
    let t = nodes_of c.args.t.now in
    let q = c.args.query.now in
    let n = c.push.new.self in
    let l = c.in-Some.child.label in
    let e = c.push.ensures in
    let at : IsSpot t (bytes_of w) c.top-top.result =
    subst (IsSpot t (bytes_of w)) (sym (c.top-top.ensures c.top-top.result))
    (i.group.spots w.len c.top-top.result i.group.base (omega arith)) in
    let is : IsChild t (bytes_of w) c.loop-child.from c.in-Some.child =
    c.in-Some.ensures (bytes_of w) at in
    let d : Down t q w n c.loop-child.from c.in-Some.child =
    down t q w n c.loop-child.from c.in-Some.child c.requires.contexts i.group is
    e.stage e.base e.len e.room e.bytes e.fronts e.top e.below in
    let prefix : c.as_slice.result.now ≡ q.prefix =
    c.as_slice.ensures.value ∙ ap (λ (z : PlainQuery). z.prefix) c.query.view_is in
    let child : IsSpot t (bytes_of n) c.in-Some.child.spot =
    subst (λ z. IsSpot t z c.in-Some.child.spot) (sym d.bytes) is.spot in
    let r : MatchOption c.start_at.result
    (is_front (root_paths t) (bytes_of n ++ 29 ∷ c.as_slice.result.now) ≡ false)
    (λ s. IsSpot t (bytes_of n ++ 29 ∷ c.as_slice.result.now) s) =
    c.start_at.ensures.spot (bytes_of n) child in
    let never : is_front (root_paths t) (bytes_of n ++ 29 ∷ q.prefix) ≡ false =
    subst (λ z. is_front (root_paths t) (bytes_of n ++ 29 ∷ z) ≡ false) prefix
    (none_of c.start_at.result _ _ c.in_default.not-Some r) in
    let ticks : c.start_at.new.steps ≤ c.node-view-in-Some.new.steps + cond
    (is_front (root_paths t) (bytes_of n ++ 29 ∷ [])) (length q.prefix) 0 =
    subst (λ (z : List ℕ). c.start_at.new.steps ≤ c.node-view-in-Some.new.steps + cond
    (is_front (root_paths t) (bytes_of n ++ 29 ∷ [])) (length z) 0) prefix
    (c.start_at.ensures.ticks (bytes_of n) child) in
    let tick : c.node-view-in-Some.new.steps ≡ c.loop-child.steps + 1 =
    c.node-view-in-Some.ensures.tick in
    let cost = d.cost in
    let loss = cost_less (is_front (root_paths t) (bytes_of n ++ 29 ∷ [])) (length q.prefix) in
    let before = i.ticks in
    let len = d.len in
    let base = d.base in
    let order = i.group.base in
    record {
      group = d.group;
      view = λ x. c.node-view-in-Some.ensures.node
          ∙ ap (λ (s : Spot). get_or t s.node.0 []) (sym (e.top x));
      base = d.base ∙ i.base;
      bytes = d.front ∙ i.bytes;
      starts = i.starts ∙ subst (λ z. left_starts (root_paths t) q (bytes_of w)
          (Some c.loop-child.from) ≡ left_starts (root_paths t) q z (Some 0)) (sym d.bytes)
          (same_starts (root_paths t) q (bytes_of w) c.loop-child.from l is.least is.between
          (ap (λ z. is_front (root_paths t) (z ++ 29 ∷ q.prefix)) (sym d.bytes) ∙ never));
      ticks = omega (arith, ticks, tick, cost, loss, before, len, base, order);
    }

pub returns-then-walk : goal.returns-then-walk
returns-then-walk g c =
    let i = c.loop-child.invariant in
    let w = c.loop-child.walk in
    let t = nodes_of c.args.t.now in
    let q = c.args.query.now in
    let n = c.leave.new.self in
    let e = c.leave.ensures in
    let at : IsSpot t (bytes_of w) c.top-top.result =
    subst (IsSpot t (bytes_of w)) (sym (c.top-top.ensures c.top-top.result))
    (i.group.spots w.len c.top-top.result i.group.base (omega arith)) in
    let none : NoneFrom (root_paths t) (bytes_of w) c.loop-child.from =
    c.in-None.ensures (bytes_of w) at in
    let same : bytes_of n ≡ bytes_of w = ap (λ k. take k n.at) e.len ∙ ap (take w.len) e.at in
    let ended : bytes_of w ≡ take w.base w.at = ap (λ k. take k w.at) c.if-walk.true in
    let past = past_budget (root_paths t) q (bytes_of w) c.loop-child.from in
    let moved = subst (λ z. budget (root_paths t) q z None ≤ budget (root_paths t) q (bytes_of w)
    (Some c.loop-child.from)) (sym same) past in
    let before = i.ticks in
    record {
      stage = e.stage;
      fits = omega (arith, e.len, i.group.fits);
      bytes = same ∙ ended ∙ i.bytes;
      starts = i.starts ∙ past_starts (root_paths t) q (bytes_of w) c.loop-child.from none
          ∙ ap (λ z. left_starts (root_paths t) q z None) (sym same);
      ticks = omega (arith, before, moved);
    }

pub node-view-requires-in-None : goal.node-view-requires-in-None
node-view-requires-in-None g c =
    let i = c.loop-child.invariant in
    let e = c.pop.ensures in
    let u = up (nodes_of c.args.t.now) c.args.query.now c.loop-child.walk c.pop.new.self
    c.pop.result i.group c.if-walk.false
    e.stage e.base e.len e.at e.frames e.bytes in
    (subst (IsSpot (nodes_of c.args.t.now) (bytes_of c.pop.new.self))
    (sym (c.top-above.ensures c.top-above.result))
    (u.spots c.pop.new.self.len c.top-above.result u.base (omega arith))).is_node

pub loop-child-smaller : goal.loop-child-smaller
loop-child-smaller g c =
    let i = c.loop-child.invariant in
    let w = c.loop-child.walk in
    let e = c.pop.ensures in
    let t = nodes_of c.args.t.now in
    let q = c.args.query.now in
    let past = past_budget (root_paths t) q (bytes_of w) c.loop-child.from in
    let risen = up_budget (root_paths t) q (bytes_of c.pop.new.self) c.pop.result in
    let same : budget (root_paths t) q (bytes_of w) None
    ≡ budget (root_paths t) q (bytes_of c.pop.new.self ++ c.pop.result ∷ []) None =
    ap (λ z. budget (root_paths t) q z None) e.bytes in
    omega (arith, past, risen, same, e.len, e.base, i.group.base, c.if-walk.false)

pub loop-child-preserved : goal.loop-child-preserved
loop-child-preserved g c =
    let i = c.loop-child.invariant in
    let w = c.loop-child.walk in
    let n = c.pop.new.self in
    let e = c.pop.ensures in
    let t = nodes_of c.args.t.now in
    let q = c.args.query.now in
    let u = up t q w n c.pop.result i.group c.if-walk.false
    e.stage e.base e.len e.at e.frames e.bytes in
    let at : IsSpot t (bytes_of w) c.top-top.result =
    subst (IsSpot t (bytes_of w)) (sym (c.top-top.ensures c.top-top.result))
    (i.group.spots w.len c.top-top.result i.group.base (omega arith)) in
    let none : NoneFrom (root_paths t) (bytes_of w) c.loop-child.from =
    c.in-None.ensures (bytes_of w) at in
    let past = past_budget (root_paths t) q (bytes_of w) c.loop-child.from in
    let risen = up_budget (root_paths t) q (bytes_of n) c.pop.result in
    let same : budget (root_paths t) q (bytes_of w) None
    ≡ budget (root_paths t) q (bytes_of n ++ c.pop.result ∷ []) None =
    ap (λ z. budget (root_paths t) q z None) e.bytes in
    let before = i.ticks in
    let tick : c.node-view-in-None.new.steps ≡ c.loop-child.steps + 1 =
    c.node-view-in-None.ensures.tick in
    record {
      group = u;
      view = λ x. c.node-view-in-None.ensures.node
          ∙ ap (λ (s : Spot). get_or t s.node.0 []) (c.top-above.ensures x);
      base = e.base ∙ i.base;
      bytes = ap (λ k. take k n.at) e.base ∙ ap (take w.base) e.at ∙ i.bytes;
      starts = i.starts ∙ past_starts (root_paths t) q (bytes_of w) c.loop-child.from none
          ∙ ap (λ z. left_starts (root_paths t) q z None) e.bytes
          ∙ up_starts (root_paths t) q (bytes_of n) c.pop.result;
      ticks = omega (
        arith,
        before,
        tick,
        past,
        risen,
        same,
        e.len,
        e.base,
        i.group.base,
        c.if-walk.false,
      );
    }
