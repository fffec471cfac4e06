-- How many query contexts are left, and what one may cost.
use Rattle.fst_code.specs.Lists.{root_paths}
use Rattle.fst_code.specs.Transducers.{IsTransducer}
use Rattle.fst_walk.specs.Asked.{Position, asked_of, is_left_at, budget_at, pending, IsNext}
use Rattle.fst_walk.specs.Budgets.{budget}
use Rattle.fst_walk.specs.Fronts.{is_front}
use Rattle.fst_walk.specs.Positions.{no_end, is_left}
use Rattle.fst_walk.specs.Spots.{IsSpot}
use Rattle.fst_walk.specs.Starts.{AllHaveContexts}
use Rattle.fst_walk.specs.Walks.{is_within, bytes_of, position_of, budget_of}
use Rattle.fst_walk.specs.declared.spot.Spot.{Spot}
use Rattle.fst_walk.specs.declared.walk.Walk.{Walk}
use Rattle.sg_base.specs.Lists.{In}
use Rattle.sg_base.specs.declared.node.Edge.{Edge}
use Rattle.sg_context.specs.Boosts.{PlainQueryContext}
use Rattle.sg_context.specs.Queries.{PlainQuery}
use Rattle.std.proofs.Common.{◌≡◌, ◌≤◌, ◌<◌, ◌+◌, ◌*◌, ℕ, Bool, true, false, cond, List, []}
use Rattle.std.proofs.Common.{◌∷◌, ◌++◌, length, refl, ap, ◌∙◌, arith, Option, Some, None}
use Rattle.fst_walk.proofs.BoolLemmas.{cond_less}
use Rattle.fst_walk.proofs.BeginLemmas.{begins_itself}
use Rattle.fst_walk.proofs.SpotLemmas.{spot_is_front}
use Rattle.fst_walk.proofs.PositionLemmas.{not_behind_itself, past_apart, past_from}
use Rattle.fst_walk.proofs.ListLemmas.{total_drop}
use Rattle.fst_walk.proofs.ContextLemmas.{front_below}
use Rattle.fst_walk.proofs.StepBudgetLemmas.{push_cost}
use Rattle.fst_walk.proofs.ClosedLemmas.{left_at_trans}
use Rattle.fst_walk.proofs.GroupBudgetLemmas.{group_budget}

-- the first of the walk's fields that a query context sets
pub position_at : (w : Walk) (g : List ℕ) (f : Option ℕ) → position_of w ≡ Some (bytes_of w, f)
    → bytes_of w ≡ g → position_of w ≡ Some (g, f)
position_at w g f e b = e ∙ ap (λ z. (let p : Position = Some (z, f) in p)) b

drop_one : (b d : Bool) → b ≡ false → d ≡ true → cond b 1 0 + 1 ≤ cond d 1 0
drop_one true d e f = cc
drop_one false true e f = omega arith
drop_one false false e f = cc

not_past_itself : (g : List ℕ) (b : Bool) → is_left g None g ≡ b → b ≡ false
not_past_itself g true e = absurd (let f = past_apart g g e in let h = begins_itself g in cc)
not_past_itself g false e = refl

pending_less : (q : PlainQuery) (at next : Position) (b : PlainQueryContext)
    → In b (asked_of q.contexts)
    → is_left_at at b.context ≡ true → is_left_at next b.context ≡ false
    → ((c : List ℕ) → is_left_at next c ≡ true → is_left_at at c ≡ true)
    → pending q next < pending q at
pending_less q at next b i h n mono =
    let d = total_drop (λ (a : PlainQueryContext). cond (is_left_at next a.context) 1 0)
    (λ (a : PlainQueryContext). cond (is_left_at at a.context) 1 0) 1 b
    (asked_of q.contexts) i (λ a k. cond_less (is_left_at next a.context)
    (is_left_at at a.context) 1 (mono a.context))
    (drop_one (is_left_at next b.context) (is_left_at at b.context) n h) in
    omega (arith, d)

pub pending_here : (q : PlainQuery) (at : Position) (b : PlainQueryContext) → IsNext q.contexts at b
    → pending q (Some (b.context, Some 0)) < pending q at
pending_here q at b n = pending_less q at (Some (b.context, Some 0)) b n.member n.left
    (not_behind_itself b.context)
    (λ c h. left_at_trans at b.context c n.left h)

pub pending_past : (q : PlainQuery) (at : Position) (b : PlainQueryContext) → IsNext q.contexts at b
    → pending q (Some (b.context, None)) < pending q at
pending_past q at b n = pending_less q at (Some (b.context, None)) b n.member n.left
    (not_past_itself b.context (is_left b.context None b.context) refl)
    (λ c h. left_at_trans at b.context c n.left (past_from b.context c 0 h))

-- what a query context may take
pub taken_budget : (t : List (List Edge)) (q : PlainQuery) (at : Position) (b : PlainQueryContext)
    (root : Spot) → IsTransducer t
    → AllHaveContexts (root_paths t) → IsSpot t [] root → IsNext q.contexts at b
    → no_end b.context ≡ true
    → budget (root_paths t) q b.context (Some 0)
    + (2 * (length b.context + 1) + push_cost (is_front (root_paths t) (b.context ++ 29 ∷ []))
    (length q.prefix)) ≤ budget_at (root_paths t) q at
taken_budget t q at b root s all r n clean =
    let below = front_below (root_paths t) [] all refl (spot_is_front t s [] root r) in
    group_budget (root_paths t) q at b n clean below.context below.member

pub idle_budget : (t : List (List Edge)) (q : PlainQuery) (w : Walk) (at : Position)
    → is_within w.stage ≡ false → position_of w ≡ at
    → budget_of t q w ≡ budget_at (root_paths t) q at
idle_budget t q w at a e = rw (a, e) (omega arith)
