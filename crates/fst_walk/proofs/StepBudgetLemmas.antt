-- What one step down or up costs.
use Rattle.fst_code.specs.Tails.{Tail}
use Rattle.fst_walk.specs.Budgets.{context_steps, asked_steps, budget}
use Rattle.fst_walk.specs.Fronts.{is_front}
use Rattle.fst_walk.specs.Positions.{is_left, unseen, no_end}
use Rattle.fst_walk.specs.Starts.{AllHaveContexts, total, is_asked, matching_contexts}
use Rattle.sg_base.specs.ByteStrings.{begins}
use Rattle.sg_context.specs.Boosts.{PlainQueryContext}
use Rattle.sg_context.specs.Queries.{PlainQuery}
use Rattle.std.proofs.Common.{◌≡◌, ◌≤◌, ◌+◌, ℕ, Bool, true, false, cond, List, [], ◌∷◌, ◌++◌}
use Rattle.std.proofs.Common.{length, refl, sym, ◌∙◌, subst, arith, append_assoc, Option, Some}
use Rattle.std.proofs.Common.{None}
use Rattle.fst_walk.proofs.BoolLemmas.{cond_less}
use Rattle.fst_walk.proofs.BeginLemmas.{begins_itself, begins_split}
use Rattle.fst_walk.proofs.PositionLemmas.{child_left, not_behind_itself, past_from, pop_left}
use Rattle.fst_walk.proofs.UnseenLemmas.{jump_unseen, past_unseen, pop_unseen, push_unseen}
use Rattle.fst_walk.proofs.ListLemmas.{total_drop, total_less}
use Rattle.fst_walk.proofs.ContextLemmas.{Below, front_below, front_context, matching_from}
use Rattle.fst_walk.proofs.StepLemmas.{push_back}

pub context_steps_less : (n : ℕ) (at bt : List ℕ) (f g : Option ℕ) (c : List ℕ)
    → unseen bt g c ≤ unseen at f c
    → (is_left bt g c ≡ true → is_left at f c ≡ true)
    → context_steps n bt g c ≤ context_steps n at f c
context_steps_less n at bt f g c h k =
    let a = cond_less (is_left bt g c) (is_left at f c) (n + 2) k in omega (arith, a, h)

pub asked_steps_less : (at bt : List ℕ) (f g : Option ℕ) (a : PlainQueryContext)
    → (is_left bt g a.context ≡ true → is_left at f a.context ≡ true)
    → asked_steps bt g a ≤ asked_steps at f a
asked_steps_less at bt f g a k = cond_less (is_left bt g a.context) (is_left at f a.context) _ k

-- going down takes two steps of what was there, and at a context the prefix and two more
pub push_context_steps : (n : ℕ) (at : List ℕ) (f l : ℕ) (c : List ℕ) → f ≤ l
    → context_steps n (at ++ l ∷ []) (Some 0) c ≤ context_steps n at (Some f) c
push_context_steps n at f l c h =
    context_steps_less n at (at ++ l ∷ []) (Some f) (Some 0) c
    (jump_unseen at (at ++ l ∷ []) c (Some f) (child_left at f l h))
    (push_back at f l c h)

pub push_context_steps_at : (n : ℕ) (at : List ℕ) (f l : ℕ) (rest : List ℕ) → f ≤ l
    → context_steps n (at ++ l ∷ []) (Some 0) (at ++ l ∷ rest) + 2 ≤ context_steps n at (Some f)
    (at ++ l ∷ rest)
push_context_steps_at n at f l rest h =
    let a = push_unseen at f l rest h in
    let c = at ++ l ∷ rest in
    let b = cond_less (is_left (at ++ l ∷ []) (Some 0) c) (is_left at (Some f) c) (n + 2)
    (push_back at f l c h) in
    omega (arith, a, b)

pub push_context_steps_end : (n : ℕ) (at : List ℕ) (f l : ℕ) → f ≤ l
    → context_steps n (at ++ l ∷ []) (Some 0) (at ++ l ∷ []) + (2 + (n + 2)) ≤ context_steps n at
    (Some f) (at ++ l ∷ [])
push_context_steps_end n at f l h =
    let a = push_unseen at f l [] h in
    rw (not_behind_itself (at ++ l ∷ []), child_left at f l h) (omega (arith, a))

-- what going down may cost
abbrev pub push_cost : Bool → ℕ → ℕ
push_cost is_context n = cond is_context (n + 2) 0

below_at : (ts : List Tail) (q : PlainQuery) (at : List ℕ) (f l : ℕ) → f ≤ l
    → (b : Below ts (at ++ l ∷ []))
    → is_asked q.contexts b.context ≡ true
    → total (context_steps (length q.prefix) (at ++ l ∷ []) (Some 0)) (matching_contexts ts q) + 2
    ≤ total (context_steps (length q.prefix) at (Some f)) (matching_contexts ts q)
below_at ts q at f l h b asked =
    let n = length q.prefix in
    let split = begins_split (at ++ l ∷ []) b.context b.begun in
    let is : b.context ≡ at ++ l ∷ _ = split ∙ append_assoc at (l ∷ []) _ in
    total_drop (context_steps n (at ++ l ∷ []) (Some 0)) (context_steps n at (Some f)) 2 b.context
    (matching_contexts ts q)
    (matching_from ts q b.context b.member asked) (λ c k. push_context_steps n at f l c h)
    (subst (λ c. context_steps n (at ++ l ∷ []) (Some 0) c + 2 ≤ context_steps n at (Some f) c)
    (sym is) (push_context_steps_at n at f l _ h))

push_total : (ts : List Tail) (q : PlainQuery) (at : List ℕ) (f l : ℕ) → AllHaveContexts ts → f ≤ l
    → no_end (at ++ l ∷ []) ≡ true → is_front ts (at ++ l ∷ []) ≡ true
    → ((c : List ℕ) → begins (at ++ l ∷ []) c ≡ true → is_asked q.contexts c ≡ true)
    → (b : Bool) → is_front ts ((at ++ l ∷ []) ++ 29 ∷ []) ≡ b
    → total (context_steps (length q.prefix) (at ++ l ∷ []) (Some 0))
    (matching_contexts ts q) + (2 + push_cost b (length q.prefix))
    ≤ total (context_steps (length q.prefix) at (Some f)) (matching_contexts ts q)
push_total ts q at f l all h n front asks false e =
    let b = front_below ts (at ++ l ∷ []) all n front in
    let r = below_at ts q at f l h b (asks b.context b.begun) in
    omega (arith, r)
push_total ts q at f l all h n front asks true e =
    let c : List ℕ = at ++ l ∷ [] in
    total_drop (context_steps (length q.prefix) c (Some 0))
    (context_steps (length q.prefix) at (Some f)) _ c (matching_contexts ts q)
    (matching_from ts q c (front_context ts c [] n e) (asks c (begins_itself c)))
    (λ d k. push_context_steps (length q.prefix) at f l d h)
    (push_context_steps_end (length q.prefix) at f l h)

pub push_budget : (ts : List Tail) (q : PlainQuery) (at : List ℕ) (f l : ℕ) → AllHaveContexts ts
    → f ≤ l
    → no_end (at ++ l ∷ []) ≡ true → is_front ts (at ++ l ∷ []) ≡ true
    → ((c : List ℕ) → begins (at ++ l ∷ []) c ≡ true → is_asked q.contexts c ≡ true)
    → budget ts q (at ++ l ∷ []) (Some 0) + (2 + push_cost (is_front ts ((at ++ l ∷ []) ++ 29 ∷ []))
    (length q.prefix))
    ≤ budget ts q at (Some f)
push_budget ts q at f l all h n front asks =
    let a = push_total ts q at f l all h n front asks (is_front ts ((at ++ l ∷ []) ++ 29 ∷ [])) refl
    in
    let b = total_less (asked_steps (at ++ l ∷ []) (Some 0)) (asked_steps at (Some f)) q.contexts
    (λ x k. asked_steps_less at (at ++ l ∷ []) (Some f) (Some 0) x
    (push_back at f l x.context h)) in
    omega (arith, a, b)

-- going up takes nothing
pub past_budget : (ts : List Tail) (q : PlainQuery) (at : List ℕ) (f : ℕ)
    → budget ts q at None ≤ budget ts q at (Some f)
past_budget ts q at f =
    let a = total_less (context_steps (length q.prefix) at None)
    (context_steps (length q.prefix) at (Some f)) (matching_contexts ts q)
    (λ c k. context_steps_less (length q.prefix) at at (Some f) None c (past_unseen at c f)
    (past_from at c f)) in
    let b = total_less (asked_steps at None) (asked_steps at (Some f)) q.contexts
    (λ x k. asked_steps_less at at (Some f) None x (past_from at x.context f)) in
    omega (arith, a, b)

pub up_budget : (ts : List Tail) (q : PlainQuery) (at : List ℕ) (l : ℕ)
    → budget ts q at (Some (l + 1)) ≤ budget ts q (at ++ l ∷ []) None
up_budget ts q at l =
    let a = total_less (context_steps (length q.prefix) at (Some (l + 1)))
    (context_steps (length q.prefix) (at ++ l ∷ []) None) (matching_contexts ts q)
    (λ c k. context_steps_less (length q.prefix) (at ++ l ∷ []) at None (Some (l + 1)) c
    (let e = pop_unseen at l c in omega (arith, e)) (λ h. pop_left at l c ∙ h)) in
    let b = total_less (asked_steps at (Some (l + 1))) (asked_steps (at ++ l ∷ []) None) q.contexts
    (λ x k. asked_steps_less (at ++ l ∷ []) at None (Some (l + 1)) x
    (λ h. pop_left at l x.context ∙ h)) in
    omega (arith, a, b)
