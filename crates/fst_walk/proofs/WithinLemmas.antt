-- What the walk among all that goes on from a query context gives, call by call.
use Rattle.fst_code.specs.Lists.{root_paths}
use Rattle.fst_code.specs.Transducers.{IsTransducer}
use Rattle.fst_walk.specs.Asked.{asked_of, is_left_at, budget_at, starts_at, pending, Closed}
use Rattle.fst_walk.specs.Asked.{IsNextAt}
use Rattle.fst_walk.specs.Budgets.{budget}
use Rattle.fst_walk.specs.Fronts.{is_front}
use Rattle.fst_walk.specs.Positions.{no_end}
use Rattle.fst_walk.specs.Spots.{IsSpot}
use Rattle.fst_walk.specs.Starts.{AllHaveContexts, left_starts}
use Rattle.fst_walk.specs.Walks.{is_within, InGroup, IsPast, IsAtNext, bytes_of, position_of, Ready}
use Rattle.fst_walk.specs.Walks.{left_of, budget_of, GivesNone, GivesStart, GivesEnd}
use Rattle.fst_walk.specs.declared.spot.Spot.{Spot}
use Rattle.fst_walk.specs.declared.walk.Stage.TheVariants.{Within, Past}
use Rattle.fst_walk.specs.declared.walk.Walk.{Walk}
use Rattle.sg_base.specs.Lists.{In}
use Rattle.sg_base.specs.declared.node.Edge.{Edge}
use Rattle.sg_context.specs.Boosts.{PlainQueryContext}
use Rattle.sg_context.specs.Queries.{PlainQuery}
use Rattle.std.proofs.Common.{◌≡◌, ◌≤◌, ◌<◌, ◌+◌, ◌-◌, ℕ, true, false, cond, List, [], ◌∷◌, ◌++◌}
use Rattle.std.proofs.Common.{length, take, refl, sym, ap, ◌∙◌, subst, arith, Some, None}
use Rattle.fst_walk.proofs.ClosedLemmas.{closed_prefix}
use Rattle.fst_walk.proofs.GroupLemmas.{group_none, none_left}
use Rattle.fst_walk.proofs.WalkLemmas.{cost_less}
use Rattle.fst_walk.proofs.AskingLemmas.{stands_at}
use Rattle.fst_walk.proofs.PendingLemmas.{idle_budget, pending_past, position_at, taken_budget}
use Rattle.fst_walk.proofs.TakingLemmas.{ready_group}

-- and what the walk in it gives
pub group_past : (t : List (List Edge)) (q : PlainQuery) (old mid new : Walk) (g : List ℕ)
    (root : Spot) (before between after : ℕ) → IsTransducer t
    → AllHaveContexts (root_paths t) → IsSpot t [] root → is_within old.stage ≡ false
    → Closed q.contexts (position_of old)
    → IsNextAt q.contexts (position_of old) g true
    → is_front (root_paths t) (g ++ 29 ∷ q.prefix) ≡ false
    → between ≤ before + length g + 1 + cond (is_front (root_paths t) (g ++ 29 ∷ []))
    (length q.prefix) 0
    → bytes_of mid ≡ g → mid.base ≡ mid.len → IsPast t q mid new between after
    → GivesNone t q old new before after
group_past t q old mid new g root before between after s all r idle closed n never ticks bytes base
    p =
    let b = n.one in
    let own : bytes_of new ≡ b.context =
    p.bytes ∙ ap (λ k. take k mid.at) base ∙ bytes ∙ sym n.is in
    let here : position_of new ≡ Some (b.context, None) =
    position_at new b.context None (stands_at new Past p.stage) own in
    let cost = taken_budget t q (position_of old) b root s all r n.next (ap no_end n.is ∙ n.clean)
    in
    let e = idle_budget t q new (position_of new) (ap is_within p.stage) refl in
    let e2 : budget_at (root_paths t) q (position_of new)
    ≡ budget (root_paths t) q (bytes_of new) None =
    ap (budget_at (root_paths t) q) (stands_at new Past p.stage) in
    let f = idle_budget t q old (position_of old) idle refl in
    let ticks2 = subst (λ z. between ≤ before + length z + 1 + cond
    (is_front (root_paths t) (z ++ 29 ∷ [])) (length q.prefix) 0) (sym n.is) ticks in
    let less = cost_less (is_front (root_paths t) (b.context ++ 29 ∷ [])) (length q.prefix) in
    let m : budget (root_paths t) q (bytes_of mid) (Some 0)
    ≡ budget (root_paths t) q b.context (Some 0) =
    ap (λ z. budget (root_paths t) q z (Some 0)) (bytes ∙ sym n.is) in
    let pt = p.ticks in
    record {
      ready = record {
        fits = p.fits;
        group =
            λ a. absurd (let x : true ≡ false = sym a ∙ ap is_within p.stage in cc);
        closed = λ _. subst (Closed q.contexts) (sym here)
            (closed_prefix q.contexts (position_of old) b closed n.next);
      };
      idle = ap is_within p.stage;
      left = group_none (root_paths t) q (position_of old) b closed n.next
          (ap (λ z. is_front (root_paths t) (z ++ 29 ∷ q.prefix)) n.is ∙ never)
          ∙ ap (λ z. left_starts (root_paths t) q z (Some 0)) (n.is ∙ sym bytes) ∙ p.starts
          ∙ ap (starts_at (root_paths t) q) (sym (stands_at new Past p.stage));
      pending = subst (λ z. pending q z < pending q (position_of old)) (sym here)
          (pending_past q (position_of old) b n.next);
      ticks = omega (arith, cost, e, e2, f, ticks2, less, m, pt, base);
    }

pub group_next : (t : List (List Edge)) (q : PlainQuery) (old mid new : Walk) (g : List ℕ)
    (root found : Spot) (before between after : ℕ) → IsTransducer t
    → AllHaveContexts (root_paths t) → IsSpot t [] root → is_within old.stage ≡ false
    → Closed q.contexts (position_of old)
    → IsNextAt q.contexts (position_of old) g true
    → is_front (root_paths t) (g ++ 29 ∷ q.prefix) ≡ false
    → between ≤ before + length g + 1 + cond (is_front (root_paths t) (g ++ 29 ∷ []))
    (length q.prefix) 0
    → bytes_of mid ≡ g → mid.base ≡ mid.len → IsAtNext t q mid new between after found
    → GivesStart t q old new before after found
group_next t q old mid new g root found before between after s all r idle closed n never ticks bytes
    base p =
    let b = n.one in
    let cost = taken_budget t q (position_of old) b root s all r n.next (ap no_end n.is ∙ n.clean)
    in
    let here : position_of new ≡ Some (bytes_of new, Some 0) = stands_at new Within p.group.stage in
    let e : budget_at (root_paths t) q (position_of new)
    ≡ budget (root_paths t) q (bytes_of new) (Some 0) = ap (budget_at (root_paths t) q) here in
    let a : cond (is_within new.stage) (new.len - new.base + 1) 0 ≡ new.len - new.base + 1 =
    ap (λ z. cond (is_within z) (new.len - new.base + 1) 0) p.group.stage in
    let f = idle_budget t q old (position_of old) idle refl in
    let ticks2 = subst (λ z. between ≤ before + length z + 1 + cond
    (is_front (root_paths t) (z ++ 29 ∷ [])) (length q.prefix) 0) (sym n.is) ticks in
    let less = cost_less (is_front (root_paths t) (b.context ++ 29 ∷ [])) (length q.prefix) in
    let m : budget (root_paths t) q (bytes_of mid) (Some 0)
    ≡ budget (root_paths t) q b.context (Some 0) =
    ap (λ z. budget (root_paths t) q z (Some 0)) (bytes ∙ sym n.is) in
    let pt = p.ticks in
    record {
      ready = ready_group t q new p.group;
      left = group_none (root_paths t) q (position_of old) b closed n.next
          (ap (λ z. is_front (root_paths t) (z ++ 29 ∷ q.prefix)) n.is ∙ never)
          ∙ ap (λ z. left_starts (root_paths t) q z (Some 0)) (n.is ∙ sym bytes) ∙ p.starts
          ∙ ap (λ z. bytes_of new ∷ starts_at (root_paths t) q z) (sym here);
      spot = p.spot;
      ticks = omega (arith, cost, e, a, f, ticks2, less, m, pt, base);
    }

-- one after another
pub then_start : (t : List (List Edge)) (q : PlainQuery) (first old new : Walk)
    (start before after : ℕ) (found : Spot)
    → left_of t q first ≡ left_of t q old → before + budget_of t q old ≤ start + budget_of t q first
    → GivesStart t q old new before after found → GivesStart t q first new start after found
then_start t q first old new start before after found left ticks g =
    let h = g.ticks in
    record { ready = g.ready; left = left ∙ g.left; spot = g.spot; ticks = omega (arith, ticks, h) }

pub then_end : (t : List (List Edge)) (q : PlainQuery) (first old new : Walk)
    (start before after : ℕ)
    → left_of t q first ≡ left_of t q old → before + budget_of t q old ≤ start + budget_of t q first
    → GivesEnd t q old new before after → GivesEnd t q first new start after
then_end t q first old new start before after left ticks g =
    let h = g.ticks in
    record {
      ready = g.ready;
      left = left ∙ g.left;
      still = g.still;
      ticks =
          omega (arith, ticks, h);
    }

pub at_end : (t : List (List Edge)) (q : PlainQuery) (w : Walk) (now : ℕ) → Ready t q w
    → is_within w.stage ≡ false
    → ((a : PlainQueryContext) → In a (asked_of q.contexts)
    → is_left_at (position_of w) a.context ≡ false) → GivesEnd t q w w now now
at_end t q w now r idle none =
    let e = none_left (root_paths t) q (position_of w) (r.closed idle) none in
    record { ready = r; left = e; still = e; ticks = omega arith }

-- the group is left behind
pub past_none : (t : List (List Edge)) (q : PlainQuery) (old new : Walk) (before after : ℕ)
    → InGroup t q old → IsPast t q old new before after
    → Ready t q new × (is_within new.stage ≡ false) × (left_of t q old ≡ left_of t q new)
    × (after + budget_of t q new ≤ before + budget_of t q old)
past_none t q old new before after g p =
    let here : position_of new ≡ Some (take old.base old.at, None) =
    position_at new (take old.base old.at) None (stands_at new Past p.stage) p.bytes in
    let e = idle_budget t q new (position_of new) (ap is_within p.stage) refl in
    let e2 : budget_at (root_paths t) q (position_of new)
    ≡ budget (root_paths t) q (bytes_of new) None =
    ap (budget_at (root_paths t) q) (stands_at new Past p.stage) in
    let f : budget_at (root_paths t) q (position_of old)
    ≡ budget (root_paths t) q (bytes_of old) (Some 0) =
    ap (budget_at (root_paths t) q) (stands_at old Within g.stage) in
    let a : cond (is_within old.stage) (old.len - old.base + 1) 0 ≡ old.len - old.base + 1 =
    ap (λ z. cond (is_within z) (old.len - old.base + 1) 0) g.stage in
    let pt = p.ticks in (
      record {
        fits = p.fits;
        group =
            λ h. absurd (let x : true ≡ false = sym h ∙ ap is_within p.stage in cc);
        closed = λ _. subst (Closed q.contexts) (sym here) g.closed;
      },
      ap is_within p.stage,
      ap (starts_at (root_paths t) q) (stands_at old Within g.stage) ∙ p.starts
          ∙ ap (starts_at (root_paths t) q) (sym (stands_at new Past p.stage)),
      omega (arith, e, e2, f, a, pt),
    )
