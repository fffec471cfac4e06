-- What a query context costs.
use Rattle.fst_code.specs.Tails.{Tail}
use Rattle.fst_walk.specs.Asked.{everything, asked_of, Position, is_left_at, budget_at, IsNext}
use Rattle.fst_walk.specs.Budgets.{context_steps, asked_steps}
use Rattle.fst_walk.specs.Fronts.{is_front}
use Rattle.fst_walk.specs.Positions.{is_left, unseen, no_end}
use Rattle.fst_walk.specs.Starts.{total, contexts_in, is_asked, matching_contexts}
use Rattle.sg_base.specs.Lists.{In}
use Rattle.sg_context.specs.Boosts.{PlainQueryContext}
use Rattle.sg_context.specs.Queries.{PlainQuery}
use Rattle.std.proofs.Common.{◌≡◌, ◌≤◌, ◌+◌, ◌*◌, ℕ, Bool, true, false, cond, ◌⊎◌, inl, inr, List}
use Rattle.std.proofs.Common.{[], ◌∷◌, ◌++◌, length, refl, sym, ap, ◌∙◌, subst, arith, Option, Some}
use Rattle.std.proofs.Common.{None}
use Rattle.fst_walk.proofs.BoolLemmas.{clash}
use Rattle.fst_walk.proofs.PositionLemmas.{left_trans, not_behind_itself}
use Rattle.fst_walk.proofs.UnseenLemmas.{jump_unseen, unseen_most}
use Rattle.fst_walk.proofs.ListLemmas.{total-times, total_drop, total_less}
use Rattle.fst_walk.proofs.ContextLemmas.{front_context, matching_from}
use Rattle.fst_walk.proofs.StepBudgetLemmas.{asked_steps_less, push_cost, context_steps_less}
use Rattle.fst_walk.proofs.ClosedLemmas.{asks_itself}

first_context_steps_at : (b : Bool) (n l u : ℕ) → u ≤ l → 2 * u + cond b (n + 2) 0 ≤ 2 * (l + n + 2)
first_context_steps_at true n l u h = omega (arith, h)
first_context_steps_at false n l u h = omega (arith, h)

first_context_steps : (n : ℕ) (g c : List ℕ) → context_steps n g (Some 0) c ≤ 2 * (length c + n + 2)
first_context_steps n g c = let u =
    unseen_most g c (Some 0) in first_context_steps_at (is_left g (Some 0) c) n (length c)
    (unseen g (Some 0) c) u

first_more_at : (b : Bool) (n l u : ℕ) → u ≤ l → 2 * u + cond b (n + 2) 0 + 2 ≤ 2 * (l + n + 2)
first_more_at true n l u h = omega (arith, h)
first_more_at false n l u h = omega (arith, h)

first_context_steps_more : (n : ℕ) (g c : List ℕ)
    → context_steps n g (Some 0) c + 2 ≤ 2 * (length c + n + 2)
first_context_steps_more n g c = let u =
    unseen_most g c (Some 0) in first_more_at (is_left g (Some 0) c) n (length c)
    (unseen g (Some 0) c) u

first_context_steps_itself : (n : ℕ) (g : List ℕ)
    → context_steps n g (Some 0) g + (n + 2) ≤ 2 * (length g + n + 2)
first_context_steps_itself n g =
    let u = unseen_most g g (Some 0) in rw (not_behind_itself g) (omega (arith, u))

-- the weights of all contexts, at a position
abbrev pub all_steps_at : List Tail → PlainQuery → Position → ℕ
all_steps_at ts q None = 2 * total (λ (c : List ℕ). length c + length q.prefix + 2)
    (matching_contexts ts q)
all_steps_at ts q (Some p) = total (context_steps (length q.prefix) p.0 p.1)
    (matching_contexts ts q)

abbrev pub asked_steps_at : PlainQuery → Position → ℕ
asked_steps_at q None = 2 * total (λ (a : PlainQueryContext). length a.context + 1) q.contexts
asked_steps_at q (Some p) = total (asked_steps p.0 p.1) q.contexts

pub budget_parts : (ts : List Tail) (q : PlainQuery) (at : Position)
    → budget_at ts q at ≡ all_steps_at ts q at + asked_steps_at q at
budget_parts ts q None = refl
budget_parts ts q (Some p) = refl

all_steps_less : (ts : List Tail) (q : PlainQuery) (at : Position) (g : List ℕ)
    → is_left_at at g ≡ true
    → all_steps_at ts q (Some (g, Some 0)) ≤ all_steps_at ts q at
all_steps_less ts q None g h =
    let n = length q.prefix in
    let a = total_less (context_steps n g (Some 0)) (λ (c : List ℕ). 2 * (length c + n + 2))
    (matching_contexts ts q) (λ c k. first_context_steps n g c) in
    let e = total-times (λ (c : List ℕ). length c + n + 2) 2 (matching_contexts ts q) in
    omega (arith, a, e)
all_steps_less ts q (Some p) g h =
    total_less (context_steps (length q.prefix) g (Some 0))
    (context_steps (length q.prefix) p.0 p.1) (matching_contexts ts q)
    (λ c k. context_steps_less (length q.prefix) p.0 g p.1 (Some 0) c (jump_unseen p.0 g c p.1 h)
    (left_trans p.0 g c p.1 h))

itself_context_steps : (n : ℕ) (at : List ℕ) (f : Option ℕ) (g : List ℕ) → is_left at f g ≡ true
    → context_steps n g (Some 0) g + (n + 2) ≤ context_steps n at f g
itself_context_steps n at f g h =
    let u = jump_unseen at g g f h in rw (not_behind_itself g, h) (omega (arith, u))

all_steps_itself : (ts : List Tail) (q : PlainQuery) (at : Position) (g : List ℕ)
    → is_left_at at g ≡ true
    → In g (matching_contexts ts q)
    → all_steps_at ts q (Some (g, Some 0)) + (length q.prefix + 2) ≤ all_steps_at ts q at
all_steps_itself ts q None g h i =
    let n = length q.prefix in
    let a = total_drop (context_steps n g (Some 0)) (λ (c : List ℕ). 2 * (length c + n + 2)) (n + 2)
    g (matching_contexts ts q) i
    (λ c k. first_context_steps n g c) (first_context_steps_itself n g) in
    let e = total-times (λ (c : List ℕ). length c + n + 2) 2 (matching_contexts ts q) in
    omega (arith, a, e)
all_steps_itself ts q (Some p) g h i =
    let n = length q.prefix in
    total_drop (context_steps n g (Some 0)) (context_steps n p.0 p.1) (n + 2) g
    (matching_contexts ts q) i
    (λ c k. context_steps_less n p.0 g p.1 (Some 0) c (jump_unseen p.0 g c p.1 h)
    (left_trans p.0 g c p.1 h))
    (itself_context_steps n p.0 p.1 g h)

group_context_steps : (ts : List Tail) (q : PlainQuery) (at : Position) (b : PlainQueryContext)
    → IsNext q.contexts at b
    → no_end b.context ≡ true → (t : Bool) → is_front ts (b.context ++ 29 ∷ []) ≡ t
    → all_steps_at ts q (Some (b.context, Some 0)) + push_cost t (length q.prefix) ≤ all_steps_at ts
    q at
group_context_steps ts q at b next n true e =
    all_steps_itself ts q at b.context next.left
    (matching_from ts q b.context (front_context ts b.context [] n e)
    (asks_itself q.contexts b next.member))
group_context_steps ts q at b next n false e = let a =
    all_steps_less ts q at b.context next.left in omega (arith, a)

asked_steps_itself : (g : List ℕ) (a : PlainQueryContext) → a.context ≡ g
    → asked_steps g (Some 0) a ≡ 0
asked_steps_itself g a e = rw (ap (is_left g (Some 0)) e ∙ not_behind_itself g) refl

asked_steps_first_at : (b : Bool) (n : ℕ) → cond b n 0 ≤ n
asked_steps_first_at true n = omega arith
asked_steps_first_at false n = omega arith

asked_steps_first : (g : List ℕ) (a : PlainQueryContext)
    → asked_steps g (Some 0) a ≤ 2 * (length a.context + 1)
asked_steps_first g a = asked_steps_first_at (is_left g (Some 0) a.context)
    (2 * (length a.context + 1))

asked_steps_drop : (q : PlainQuery) (at : Position) (b : PlainQueryContext) → In b q.contexts
    → is_left_at at b.context ≡ true
    → asked_steps_at q (Some (b.context, Some 0)) + 2 * (length b.context + 1) ≤ asked_steps_at q at
asked_steps_drop q None b i h =
    let a = total_drop (asked_steps b.context (Some 0))
    (λ (x : PlainQueryContext). 2 * (length x.context + 1)) (2 * (length b.context + 1)) b
    q.contexts i
    (λ x k. asked_steps_first b.context x)
    (let z = asked_steps_itself b.context b refl in omega (arith, z)) in
    let e = total-times (λ (x : PlainQueryContext). length x.context + 1) 2 q.contexts in
    omega (arith, a, e)
asked_steps_drop q (Some p) b i h =
    total_drop (asked_steps b.context (Some 0)) (asked_steps p.0 p.1) (2 * (length b.context + 1)) b
    q.contexts i
    (λ x k. asked_steps_less p.0 b.context p.1 (Some 0) x
    (left_trans p.0 b.context x.context p.1 h))
    (let z = asked_steps_itself b.context b refl in rw h (omega (arith, z)))

in_asked : (qs : List PlainQueryContext) (b : PlainQueryContext) → In b (asked_of qs)
    → (qs ≡ [] × (b ≡ everything)) ⊎ In b qs
in_asked [] b (inl e) = inl (refl, e)
in_asked [] b (inr h) = absurd h
in_asked (q ∷ qs) b h = inr h

-- a query without contexts, over some path
all_context_steps : (ts : List Tail) (q : PlainQuery) (c : List ℕ) → In c (matching_contexts ts q)
    → (t : Bool) → (t ≡ true → In [] (matching_contexts ts q))
    → all_steps_at ts q (Some ([], Some 0)) + (2 + push_cost t (length q.prefix)) ≤ all_steps_at ts
    q None
all_context_steps ts q c i false has =
    let n = length q.prefix in
    let a = total_drop (context_steps n [] (Some 0)) (λ (d : List ℕ). 2 * (length d + n + 2)) 2 c
    (matching_contexts ts q) i
    (λ d k. first_context_steps n [] d) (first_context_steps_more n [] c) in
    let e = total-times (λ (d : List ℕ). length d + n + 2) 2 (matching_contexts ts q) in
    omega (arith, a, e)
all_context_steps ts q c i true has =
    let n = length q.prefix in
    let a = total_drop (context_steps n [] (Some 0)) (λ (d : List ℕ). 2 * (length d + n + 2))
    (2 + (n + 2)) [] (matching_contexts ts q) (has refl)
    (λ d k. first_context_steps n [] d) (omega arith) in
    let e = total-times (λ (d : List ℕ). length d + n + 2) 2 (matching_contexts ts q) in
    omega (arith, a, e)

left_nothing : (at : List ℕ) (f : Option ℕ) → is_left at f [] ≡ false
left_nothing [] f = refl
left_nothing (x ∷ at) f = refl

none_behind_nothing : (at : Position) → is_left_at at [] ≡ true → at ≡ None
none_behind_nothing None h = refl
none_behind_nothing (Some p) h = absurd (clash (sym (left_nothing p.0 p.1) ∙ h))

group_by : (ts : List Tail) (q : PlainQuery) (at : Position) (b : PlainQueryContext)
    → IsNext q.contexts at b
    → no_end b.context ≡ true → (c : List ℕ) → In c (contexts_in ts) → (t : Bool)
    → is_front ts (b.context ++ 29 ∷ []) ≡ t
    → ((q.contexts ≡ []) × (b ≡ everything)) ⊎ In b q.contexts
    → budget_at ts q (Some (b.context, Some 0)) + (2 * (length b.context + 1) + push_cost t
    (length q.prefix)) ≤ budget_at ts q at
group_by ts q at b next n c i t e (inr member) =
    let w = group_context_steps ts q at b next n t e in
    let o = asked_steps_drop q at b member next.left in
    let p = budget_parts ts q at in
    omega (arith, w, o, p)
group_by ts q at b next n c i t e (inl all) =
    let nothing : b.context ≡ [] = ap (λ (x : PlainQueryContext). x.context) all.1 in
    let first : at ≡ None = none_behind_nothing at (ap (is_left_at at) (sym nothing) ∙ next.left) in
    let asks : (d : List ℕ) → is_asked q.contexts d ≡ true = λ d. ap (λ qs. is_asked qs d) all.0 in
    let w = all_context_steps ts q c (matching_from ts q c i (asks c)) t
    (λ k. matching_from ts q [] (front_context ts [] [] refl
    (ap (λ z. is_front ts (z ++ 29 ∷ [])) (sym nothing) ∙ e ∙ k)) (asks [])) in
    let F : List ℕ → Type 0 = λ z. budget_at ts q
    (Some (z, Some 0)) + (2 * (length z + 1) + push_cost t (length q.prefix)) ≤ budget_at ts q
    at in
    subst F (sym nothing) (subst (λ p. budget_at ts q
    (Some ([], Some 0)) + (2 * 1 + push_cost t (length q.prefix)) ≤ budget_at ts q p)
    (sym first)
    (let z : total (asked_steps [] (Some 0)) q.contexts ≡ 0 =
    ap (total (asked_steps [] (Some 0))) all.0 in omega (arith, w, z)))

pub group_budget : (ts : List Tail) (q : PlainQuery) (at : Position) (b : PlainQueryContext)
    → IsNext q.contexts at b
    → no_end b.context ≡ true → (c : List ℕ) → In c (contexts_in ts)
    → budget_at ts q (Some (b.context, Some 0))
    + (2 * (length b.context + 1) + push_cost (is_front ts (b.context ++ 29 ∷ []))
    (length q.prefix)) ≤ budget_at ts q at
group_budget ts q at b next n c i =
    group_by ts q at b next n c i (is_front ts (b.context ++ 29 ∷ [])) refl
    (in_asked q.contexts b next.member)
