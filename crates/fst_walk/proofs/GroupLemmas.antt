-- The starts that a query context leaves.
use Rattle.fst_code.specs.Tails.{Tail}
use Rattle.fst_walk.specs.Asked.{starts_at, asked_of, Position, is_left_at, Closed, IsNext}
use Rattle.fst_walk.specs.Fronts.{is_front}
use Rattle.fst_walk.specs.Positions.{is_left, no_end}
use Rattle.fst_walk.specs.Starts.{is_asked, start_contexts, left_starts}
use Rattle.sg_base.specs.ByteStrings.{begins}
use Rattle.sg_base.specs.Lists.{In}
use Rattle.sg_context.specs.Boosts.{PlainQueryContext}
use Rattle.sg_context.specs.Queries.{PlainQuery}
use Rattle.std.proofs.Common.{◌≡◌, ℕ, Bool, true, false, inl, inr, filter, List, [], ◌∷◌, ◌++◌}
use Rattle.std.proofs.Common.{length, drop, refl, sym, ap, ◌∙◌, append_assoc, Some, None}
use Rattle.fst_walk.proofs.BoolLemmas.{either_way, not_both}
use Rattle.fst_walk.proofs.BeginLemmas.{begins_split}
use Rattle.fst_walk.proofs.FrontLemmas.{front_longer}
use Rattle.fst_walk.proofs.PositionLemmas.{apart_past, left-less, past_from}
use Rattle.fst_walk.proofs.ListLemmas.{filter_same}
use Rattle.fst_walk.proofs.AscendingLemmas.{filter_first}
use Rattle.fst_walk.proofs.ContextLemmas.{Ascends-starts, start_from, start_parts}
use Rattle.fst_walk.proofs.StepLemmas.{not_start}
use Rattle.fst_walk.proofs.ClosedLemmas.{asks_itself, left_at_trans, next_or}

-- the next query context is a start
pub group_start : (ts : List Tail) (q : PlainQuery) (at : Position) (b : PlainQueryContext)
    → Closed q.contexts at
    → IsNext q.contexts at b → no_end b.context ≡ true
    → is_front ts (b.context ++ 29 ∷ q.prefix) ≡ true
    → starts_at ts q at ≡ b.context ∷ left_starts ts q b.context (Some 0)
group_start ts q at b closed next n front =
    filter_first (is_left_at at) (is_left b.context (Some 0)) b.context (start_contexts ts q)
    (Ascends-starts ts q)
    (start_from ts q b.context n (asks_itself q.contexts b next.member) front) next.left
    (λ y m k. next_or q.contexts at b closed next y k (start_parts ts q y m).1)
    (λ y m k. (left_at_trans at b.context y next.left k, sym (left-less b.context y) ∙ k))

-- or it isn't
pub group_none : (ts : List Tail) (q : PlainQuery) (at : Position) (b : PlainQueryContext)
    → Closed q.contexts at
    → IsNext q.contexts at b → is_front ts (b.context ++ 29 ∷ q.prefix) ≡ false
    → starts_at ts q at ≡ left_starts ts q b.context (Some 0)
group_none ts q at b closed next never =
    filter_same (is_left_at at) (is_left b.context (Some 0)) (start_contexts ts q)
    (λ d m. either_way _ _
    (λ k. not_start ts q b.context d never m
    (next_or q.contexts at b closed next d k (start_parts ts q d m).1))
    (λ k. left_at_trans at b.context d next.left k))

-- or no path begins with it at all
unfound_at : (ts : List Tail) (p c q : List ℕ) → is_front ts p ≡ false
    → is_front ts (c ++ 29 ∷ q) ≡ true
    → (t : Bool) → begins p c ≡ t → t ≡ false
unfound_at ts p c q never h true e =
    let s = begins_split p c e in
    let longer = front_longer ts p (drop (length p) c ++ 29 ∷ q) never in
    let same : p ++ (drop (length p) c ++ 29 ∷ q) ≡ c ++ 29 ∷ q =
    sym (append_assoc p (drop (length p) c) (29 ∷ q)) ∙ ap (λ z. z ++ 29 ∷ q) (sym s) in
    absurd (not_both (is_front ts (c ++ 29 ∷ q)) h (ap (is_front ts) (sym same) ∙ longer))
unfound_at ts p c q never h false e = refl

pub group_unfound : (ts : List Tail) (q : PlainQuery) (at : Position) (b : PlainQueryContext)
    → Closed q.contexts at
    → IsNext q.contexts at b → is_front ts b.context ≡ false
    → starts_at ts q at ≡ left_starts ts q b.context None
group_unfound ts q at b closed next never =
    group_none ts q at b closed next (front_longer ts b.context (29 ∷ q.prefix) never)
    ∙ filter_same (is_left b.context (Some 0)) (is_left b.context None) (start_contexts ts q)
    (λ d m. either_way _ _
    (λ k. apart_past b.context d 0 k
    (unfound_at ts b.context d q.prefix never (start_parts ts q d m).2 (begins b.context d)
    refl))
    (past_from b.context d 0))

never_behind : (at : Position) (c : List ℕ) (asked : List PlainQueryContext) → Closed asked at
    → ((a : PlainQueryContext) → In a (asked_of asked) → is_left_at at a.context ≡ false)
    → is_asked asked c ≡ true
    → (t : Bool) → is_left_at at c ≡ t → t ≡ false
never_behind at c asked closed none a true e =
    let m = closed c e a in absurd
    (not_both (is_left_at at m.one.context) m.left (none m.one m.member))
never_behind at c asked closed none a false e = refl

filter_none : {X : Type 0} (p : X → Bool) (xs : List X) → ((x : X) → In x xs → p x ≡ false)
    → filter p xs ≡ []
filter_none p [] h = refl
filter_none p (x ∷ xs) h = rw (h x (inl refl)) (filter_none p xs (λ y k. h y (inr k)))

-- nothing asked for is behind: nor is a start
pub none_left : (ts : List Tail) (q : PlainQuery) (at : Position) → Closed q.contexts at
    → ((a : PlainQueryContext) → In a (asked_of q.contexts) → is_left_at at a.context ≡ false)
    → starts_at ts q at ≡ []
none_left ts q at closed none = filter_none (is_left_at at) (start_contexts ts q)
    (λ c m. never_behind at c q.contexts closed none (start_parts ts q c m).1 (is_left_at at c)
    refl)
