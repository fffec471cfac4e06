-- A query context that is taken up, on the walk's plain data.
use Rattle.fst_code.specs.Lists.{root_paths}
use Rattle.fst_code.specs.Transducers.{IsTransducer}
use Rattle.fst_walk.specs.Asked.{Position, budget_at, starts_at, pending, Closed, IsNextAt}
use Rattle.fst_walk.specs.Budgets.{budget}
use Rattle.fst_walk.specs.Fronts.{is_front}
use Rattle.fst_walk.specs.Positions.{no_end}
use Rattle.fst_walk.specs.Spots.{IsSpot}
use Rattle.fst_walk.specs.Starts.{AllHaveContexts, left_starts}
use Rattle.fst_walk.specs.Walks.{is_within, InGroup, bytes_of, position_of, Ready, GivesNone}
use Rattle.fst_walk.specs.Walks.{GivesStart}
use Rattle.fst_walk.specs.declared.spot.Spot.{Spot}
use Rattle.fst_walk.specs.declared.walk.Stage.TheVariants.{At, Within, Past}
use Rattle.fst_walk.specs.declared.walk.Walk.{Walk}
use Rattle.sg_base.specs.ByteStrings.{begins}
use Rattle.sg_base.specs.declared.node.Edge.{Edge}
use Rattle.sg_context.specs.Queries.{PlainQuery}
use Rattle.std.proofs.Common.{◌≡◌, ◌≤◌, ◌<◌, ◌+◌, ◌-◌, ℕ, Bool, true, false, cond, List, [], ◌∷◌}
use Rattle.std.proofs.Common.{◌++◌, length, take, get_or, refl, sym, ap, ◌∙◌, subst, arith, Some}
use Rattle.std.proofs.Common.{None}
use Rattle.fst_walk.proofs.FrontLemmas.{shorter_front}
use Rattle.fst_walk.proofs.SpotLemmas.{spot_is_front}
use Rattle.fst_walk.proofs.AskedLemmas.{asked_from, matches_prefix}
use Rattle.fst_walk.proofs.StepBudgetLemmas.{past_budget}
use Rattle.fst_walk.proofs.ClosedLemmas.{closed_exact, closed_prefix}
use Rattle.fst_walk.proofs.GroupLemmas.{group_none, group_start, group_unfound}
use Rattle.fst_walk.proofs.WalkLemmas.{cost_found, cost_less}
use Rattle.fst_walk.proofs.AskingLemmas.{stands_at}
use Rattle.fst_walk.proofs.PendingLemmas.{idle_budget, pending_here, pending_past, position_at}
use Rattle.fst_walk.proofs.PendingLemmas.{taken_budget}

-- no path begins with it
pub unfound : (t : List (List Edge)) (q : PlainQuery) (old new : Walk) (g : List ℕ) (k : Bool)
    (root : Spot) (before after : ℕ) → IsTransducer t
    → AllHaveContexts (root_paths t) → IsSpot t [] root → is_within old.stage ≡ false
    → Closed q.contexts (position_of old)
    → IsNextAt q.contexts (position_of old) g k → is_front (root_paths t) g ≡ false
    → after ≤ before + length g
    → new.stage ≡ Past → bytes_of new ≡ g → new.len ≤ 63
    → GivesNone t q old new before after
unfound t q old new g k root before after s all r idle closed n never ticks past bytes fits =
    let b = n.one in
    let here : position_of new ≡ Some (b.context, None) =
    position_at new b.context None (stands_at new Past past) (bytes ∙ sym n.is) in
    let cost = taken_budget t q (position_of old) b root s all r n.next (ap no_end n.is ∙ n.clean)
    in
    let less = past_budget (root_paths t) q b.context 0 in
    let still : is_within new.stage ≡ false = ap is_within past in
    let e = idle_budget t q new (Some (b.context, None)) still here in
    let f = idle_budget t q old (position_of old) idle refl in
    let l = ap (λ (z : List ℕ). length z) n.is in
    record {
      ready = record {
        fits = fits;
        group =
            λ a. absurd (let x : true ≡ false = sym a ∙ still in cc);
        closed = λ _. subst (Closed q.contexts) (sym here)
            (closed_prefix q.contexts (position_of old) b closed n.next);
      };
      idle = still;
      left = group_unfound (root_paths t) q (position_of old) b closed n.next
          (ap (is_front (root_paths t)) n.is ∙ never) ∙ ap (starts_at (root_paths t) q) (sym here);
      pending = subst (λ p. pending q p < pending q (position_of old)) (sym here)
          (pending_past q (position_of old) b n.next);
      ticks = omega (arith, cost, less, e, f, l, ticks);
    }

-- alone, without a start
pub exact_none : (t : List (List Edge)) (q : PlainQuery) (old new : Walk) (g : List ℕ) (root : Spot)
    (before after : ℕ) → IsTransducer t
    → AllHaveContexts (root_paths t) → IsSpot t [] root → is_within old.stage ≡ false
    → Closed q.contexts (position_of old)
    → IsNextAt q.contexts (position_of old) g false
    → is_front (root_paths t) (g ++ 29 ∷ q.prefix) ≡ false
    → after ≤ before + length g + 1 + cond (is_front (root_paths t) (g ++ 29 ∷ []))
    (length q.prefix) 0
    → new.stage ≡ At → bytes_of new ≡ g → new.len ≤ 63
    → GivesNone t q old new before after
exact_none t q old new g root before after s all r idle closed n never ticks at bytes fits =
    let b = n.one in
    let here : position_of new ≡ Some (b.context, Some 0) =
    position_at new b.context (Some 0) (stands_at new At at) (bytes ∙ sym n.is) in
    let cost = taken_budget t q (position_of old) b root s all r n.next (ap no_end n.is ∙ n.clean)
    in
    let still : is_within new.stage ≡ false = ap is_within at in
    let e = idle_budget t q new (Some (b.context, Some 0)) still here in
    let f = idle_budget t q old (position_of old) idle refl in
    let l = ap (λ (z : List ℕ). length z) n.is in
    let ticks2 = subst (λ z. after ≤ before + length z + 1 + cond
    (is_front (root_paths t) (z ++ 29 ∷ [])) (length q.prefix) 0) (sym n.is) ticks in
    let less = cost_less (is_front (root_paths t) (b.context ++ 29 ∷ [])) (length q.prefix) in
    record {
      ready = record {
        fits = fits;
        group =
            λ a. absurd (let x : true ≡ false = sym a ∙ still in cc);
        closed = λ _. subst (Closed q.contexts) (sym here)
            (closed_exact q.contexts (position_of old) b closed n.next n.kind);
      };
      idle = still;
      left = group_none (root_paths t) q (position_of old) b closed n.next
          (ap (λ z. is_front (root_paths t) (z ++ 29 ∷ q.prefix)) n.is ∙ never)
          ∙ ap (starts_at (root_paths t) q) (sym here);
      pending = subst (λ p. pending q p < pending q (position_of old)) (sym here)
          (pending_here q (position_of old) b n.next);
      ticks = omega (arith, cost, e, f, ticks2, less);
    }

-- a start at the query context itself
pub taken_start : (t : List (List Edge)) (q : PlainQuery) (old new : Walk) (g : List ℕ) (k : Bool)
    (root found : Spot) (before after : ℕ) → IsTransducer t
    → AllHaveContexts (root_paths t) → IsSpot t [] root → is_within old.stage ≡ false
    → Closed q.contexts (position_of old)
    → IsNextAt q.contexts (position_of old) g k → IsSpot t (g ++ 29 ∷ q.prefix) found
    → after ≤ before + length g + 1 + cond (is_front (root_paths t) (g ++ 29 ∷ []))
    (length q.prefix) 0
    → position_of new ≡ Some (bytes_of new, Some 0) → bytes_of new ≡ g
    → cond (is_within new.stage) (new.len - new.base + 1) 0 ≤ 1
    → Ready t q new → GivesStart t q old new before after found
taken_start t q old new g k root found before after s all r idle closed n at ticks stands bytes
    small ready =
    let b = n.one in
    let here : position_of new ≡ Some (b.context, Some 0) =
    position_at new b.context (Some 0) stands (bytes ∙ sym n.is) in
    let cost = taken_budget t q (position_of old) b root s all r n.next (ap no_end n.is ∙ n.clean)
    in
    let e : budget_at (root_paths t) q (position_of new)
    ≡ budget (root_paths t) q b.context (Some 0) = ap (budget_at (root_paths t) q) here in
    let f = idle_budget t q old (position_of old) idle refl in
    let ticks2 = subst (λ z. after ≤ before + length z + 1 + cond
    (is_front (root_paths t) (z ++ 29 ∷ [])) (length q.prefix) 0) (sym n.is) ticks in
    let front : is_front (root_paths t) (b.context ++ 29 ∷ q.prefix) ≡ true =
    ap (λ z. is_front (root_paths t) (z ++ 29 ∷ q.prefix)) n.is
    ∙ spot_is_front t s _ found at in
    let ended = shorter_front (root_paths t) b.context 29 q.prefix front in
    let more = cost_found (is_front (root_paths t) (b.context ++ 29 ∷ [])) (length q.prefix) ended
    in
    record {
      ready = ready;
      left = group_start (root_paths t) q (position_of old) b closed n.next
          (ap no_end n.is ∙ n.clean) front
          ∙ ap (λ z. z ∷ left_starts (root_paths t) q b.context (Some 0)) (n.is ∙ sym bytes)
          ∙ ap (λ p. bytes_of new ∷ starts_at (root_paths t) q p) (sym here);
      spot = subst (λ z. IsSpot t (z ++ 29 ∷ q.prefix) found) (sym bytes) at;
      ticks = omega (arith, cost, e, f, ticks2, more, small);
    }

opened_spot : (t : List (List Edge)) (w : Walk) (g : List ℕ) (spot : Spot) → IsSpot t g spot
    → bytes_of w ≡ g
    → ((d : Spot) → get_or w.frames w.len d ≡ spot) → (i : ℕ) (d : Spot) → w.len ≡ i
    → IsSpot t (take i w.at) (get_or w.frames i d)
opened_spot t w g spot is bytes top i d e =
    subst (λ j. IsSpot t (take j w.at) (get_or w.frames j d)) e
    (subst (IsSpot t (bytes_of w)) (sym (top d)) (subst (λ z. IsSpot t z spot) (sym bytes) is))

-- the group that a query context opens
pub opened : (t : List (List Edge)) (q : PlainQuery) (at : Position) (w : Walk) (g : List ℕ)
    (spot : Spot) → Closed q.contexts at
    → IsNextAt q.contexts at g true → IsSpot t g spot → w.stage ≡ Within
    → w.base ≡ w.len → bytes_of w ≡ g → w.len ≤ 63 → length w.at ≡ 64
    → ((d : Spot) → get_or w.frames w.len d ≡ spot)
    → InGroup t q w
opened t q at w g spot closed n is stage base bytes fits room top =
    let own : take w.base w.at ≡ n.one.context = ap (λ k. take k w.at) base ∙ bytes ∙ sym n.is in
    record {
      stage = stage;
      base = omega (arith, base);
      fits = fits;
      room = room;
      clean = ap no_end bytes ∙ n.clean;
      spots = λ i d a b. opened_spot t w g spot is bytes top i d (omega (arith, a, b, base));
      asks = λ c h. asked_from q.contexts n.one c n.next.member
          (matches_prefix c n.one n.kind ∙ subst (λ z. begins z c ≡ true) own h);
      closed = subst (λ z. Closed q.contexts (Some (z, None))) (sym own)
          (closed_prefix q.contexts at n.one closed n.next);
    }

pub ready_group : (t : List (List Edge)) (q : PlainQuery) (w : Walk) → InGroup t q w → Ready t q w
ready_group t q w g = record {
  fits = g.fits;
  group = λ _. g;
  closed =
      λ a. absurd (let x : true ≡ false = sym (ap is_within g.stage) ∙ a in cc);
}

pub ready_exact : (t : List (List Edge)) (q : PlainQuery) (at : Position) (w : Walk) (g : List ℕ)
    → Closed q.contexts at
    → IsNextAt q.contexts at g false → w.stage ≡ At → bytes_of w ≡ g → w.len ≤ 63 → Ready t q w
ready_exact t q at w g closed n stage bytes fits =
    let here : position_of w ≡ Some (n.one.context, Some 0) =
    position_at w n.one.context (Some 0) (stands_at w At stage) (bytes ∙ sym n.is) in
    record {
      fits = fits;
      group = λ a. absurd
          (let x : true ≡ false = sym a ∙ ap is_within stage in cc);
      closed = λ _. subst (Closed q.contexts) (sym here)
          (closed_exact q.contexts at n.one closed n.next n.kind);
    }
