-- The starts that are left, one step down or up.
use Rattle.fst_code.specs.Tails.{Tail}
use Rattle.fst_walk.specs.Children.{NoneFrom, NoneBetween}
use Rattle.fst_walk.specs.Fronts.{is_front}
use Rattle.fst_walk.specs.Positions.{is_left, no_end}
use Rattle.fst_walk.specs.Starts.{left_starts, is_asked, start_contexts}
use Rattle.sg_base.specs.Lists.{In}
use Rattle.sg_context.specs.Queries.{PlainQuery}
use Rattle.std.proofs.Common.{◌≡◌, ◌≤◌, ◌<◌, ◌+◌, ℕ, true, false, ◌⊎◌, inl, inr, List, [], ◌∷◌}
use Rattle.std.proofs.Common.{◌++◌, refl, sym, ap, ◌∙◌, subst, append_assoc, Some, None}
use Rattle.std.proofs.lemmas.Bool.{cases_order, ne_eqb, eqb-false}
use Rattle.fst_walk.proofs.BoolLemmas.{either_way, not_both}
use Rattle.fst_walk.proofs.FrontLemmas.{front_longer}
use Rattle.fst_walk.proofs.PositionLemmas.{GoesOn, child_left, deeper_left, further_left, left-less}
use Rattle.fst_walk.proofs.PositionLemmas.{left_trans, past_from, past_push, pop_left, sides}
use Rattle.fst_walk.proofs.ListLemmas.{filter_same}
use Rattle.fst_walk.proofs.AscendingLemmas.{filter_first}
use Rattle.fst_walk.proofs.ContextLemmas.{Ascends-starts, member_no_end, no_end_parts, start_from}
use Rattle.fst_walk.proofs.ContextLemmas.{start_parts}

no_end_at : (at rest : List ℕ) (x : ℕ) → no_end (at ++ x ∷ rest) ≡ true → x ≡ 29 → ⊥
no_end_at [] rest x n = eqb-false x 29 (no_end_parts x rest n).0
no_end_at (a ∷ at) rest x n = no_end_at at rest x (no_end_parts a (at ++ x ∷ rest) n).1

pub no_end-push : (at : List ℕ) (x : ℕ) → no_end at ≡ true → (x ≡ 29 → ⊥)
    → no_end (at ++ x ∷ []) ≡ true
no_end-push [] x n h = rw (ne_eqb x 29 h) refl
no_end-push (a ∷ at) x n h =
    let p = no_end_parts a at n in rw p.0 (no_end-push at x p.1 h)

-- the byte by which a start goes on is one of an arc
goes_by : (ts : List Tail) (at : List ℕ) (f : ℕ) (q c : List ℕ) (g : GoesOn at f c)
    → is_front ts (c ++ 29 ∷ q) ≡ true → is_front ts (at ++ g.label ∷ []) ≡ false → ⊥
goes_by ts at f q c g h k =
    let longer = front_longer ts (at ++ g.label ∷ []) (g.rest ++ 29 ∷ q) k in
    let same : (at ++ g.label ∷ []) ++ (g.rest ++ 29 ∷ q) ≡ c ++ 29 ∷ q =
    append_assoc at (g.label ∷ []) (g.rest ++ 29 ∷ q)
    ∙ sym (append_assoc at (g.label ∷ g.rest) (29 ∷ q))
    ∙ ap (λ z. z ++ 29 ∷ q) (sym g.is) in
    not_both (is_front ts (c ++ 29 ∷ q)) h (ap (is_front ts) (sym same) ∙ longer)

on_by : (at rest c : List ℕ) (l : ℕ) → c ≡ at ++ l ∷ rest
    → (c ≡ at ++ l ∷ []) ⊎ (is_left (at ++ l ∷ []) (Some 0) c ≡ true)
on_by at [] c l e = inl e
on_by at (y ∷ rest) c l e = inr (ap (is_left (at ++ l ∷ []) (Some 0)) e ∙ deeper_left at rest l y)

push_order : (ts : List Tail) (at : List ℕ) (f l : ℕ) (q c : List ℕ) → no_end c ≡ true
    → is_front ts (c ++ 29 ∷ q) ≡ true
    → NoneBetween ts at f l → (g : GoesOn at f c) → (g.label ≡ l) ⊎ ((g.label < l) ⊎ (l < g.label))
    → (c ≡ at ++ l ∷ []) ⊎ (is_left (at ++ l ∷ []) (Some 0) c ≡ true)
push_order ts at f l q c n h none g (inl e) =
    on_by at g.rest c l (g.is ∙ ap (λ x. at ++ x ∷ g.rest) e)
push_order ts at f l q c n h none g (inr (inl k)) =
    absurd (goes_by ts at f q c g h (none g.label g.least k
    (no_end_at at g.rest g.label (ap no_end (sym g.is) ∙ n))))
push_order ts at f l q c n h none g (inr (inr k)) =
    inr (ap (is_left (at ++ l ∷ []) (Some 0)) g.is ∙ further_left at g.rest l g.label k)

push_by : (ts : List Tail) (at : List ℕ) (f l : ℕ) (q c : List ℕ) → no_end c ≡ true
    → is_front ts (c ++ 29 ∷ q) ≡ true
    → NoneBetween ts at f l → (is_left at None c ≡ true) ⊎ GoesOn at f c
    → (c ≡ at ++ l ∷ []) ⊎ (is_left (at ++ l ∷ []) (Some 0) c ≡ true)
push_by ts at f l q c n h none (inl p) = inr (past_push at c l (Some 0) p)
push_by ts at f l q c n h none (inr g) =
    push_order ts at f l q c n h none g (cases_order g.label l)

-- down by the least label
pub push_starts : (ts : List Tail) (q : PlainQuery) (at : List ℕ) (f l : ℕ) → NoneBetween ts at f l
    → (c : List ℕ)
    → In c (start_contexts ts q) → is_left at (Some f) c ≡ true
    → (c ≡ at ++ l ∷ []) ⊎ (is_left (at ++ l ∷ []) (Some 0) c ≡ true)
push_starts ts q at f l none c m h =
    let p = start_parts ts q c m in
    push_by ts at f l q.prefix c (member_no_end ts c p.0) p.2 none (sides at c f h)

pub push_back : (at : List ℕ) (f l : ℕ) (c : List ℕ) → f ≤ l
    → is_left (at ++ l ∷ []) (Some 0) c ≡ true
    → is_left at (Some f) c ≡ true
push_back at f l c h k = left_trans at (at ++ l ∷ []) c (Some f) (child_left at f l h) k

pop_by : (ts : List Tail) (at : List ℕ) (f : ℕ) (q c : List ℕ) → no_end c ≡ true
    → is_front ts (c ++ 29 ∷ q) ≡ true
    → NoneFrom ts at f → (is_left at None c ≡ true) ⊎ GoesOn at f c → is_left at None c ≡ true
pop_by ts at f q c n h none (inl p) = p
pop_by ts at f q c n h none (inr g) =
    absurd (goes_by ts at f q c g h
    (none g.label g.least (no_end_at at g.rest g.label (ap no_end (sym g.is) ∙ n))))

-- no label is left: what is behind is past all that goes on
pub pop_starts : (ts : List Tail) (q : PlainQuery) (at : List ℕ) (f : ℕ) → NoneFrom ts at f
    → (c : List ℕ)
    → In c (start_contexts ts q) → is_left at (Some f) c ≡ is_left at None c
pop_starts ts q at f none c m =
    let p = start_parts ts q c m in
    either_way _ _ (λ h. pop_by ts at f q.prefix c (member_no_end ts c p.0) p.2 none
    (sides at c f h)) (past_from at c f)

-- a child that is a start is the next; one that isn't leaves them as they are
pub next_start : (ts : List Tail) (q : PlainQuery) (at : List ℕ) (f l : ℕ) → f ≤ l
    → NoneBetween ts at f l
    → no_end (at ++ l ∷ []) ≡ true → is_asked q.contexts (at ++ l ∷ []) ≡ true
    → is_front ts ((at ++ l ∷ []) ++ 29 ∷ q.prefix) ≡ true
    → left_starts ts q at (Some f) ≡ (at ++ l ∷ []) ∷ left_starts ts q (at ++ l ∷ []) (Some 0)
next_start ts q at f l h none n asked front =
    let c : List ℕ = at ++ l ∷ [] in
    filter_first (is_left at (Some f)) (is_left c (Some 0)) c (start_contexts ts q)
    (Ascends-starts ts q)
    (start_from ts q c n asked front) (child_left at f l h)
    (λ y m k. push_starts ts q at f l none y m k)
    (λ y m k. (push_back at f l y h k, sym (left-less c y) ∙ k))

pub not_start : (ts : List Tail) (q : PlainQuery) (c d : List ℕ)
    → is_front ts (c ++ 29 ∷ q.prefix) ≡ false
    → In d (start_contexts ts q) → (d ≡ c) ⊎ (is_left c (Some 0) d ≡ true)
    → is_left c (Some 0) d ≡ true
not_start ts q c d never m (inl e) =
    absurd (not_both (is_front ts (c ++ 29 ∷ q.prefix))
    (subst (λ z. is_front ts (z ++ 29 ∷ q.prefix) ≡ true) e (start_parts ts q d m).2) never)
not_start ts q c d never m (inr h) = h

pub same_starts : (ts : List Tail) (q : PlainQuery) (at : List ℕ) (f l : ℕ) → f ≤ l
    → NoneBetween ts at f l
    → is_front ts ((at ++ l ∷ []) ++ 29 ∷ q.prefix) ≡ false
    → left_starts ts q at (Some f) ≡ left_starts ts q (at ++ l ∷ []) (Some 0)
same_starts ts q at f l h none never =
    filter_same (is_left at (Some f)) (is_left (at ++ l ∷ []) (Some 0)) (start_contexts ts q)
    (λ d m. either_way _ _ (λ k. not_start ts q (at ++ l ∷ []) d never m
    (push_starts ts q at f l none d m k)) (push_back at f l d h))

pub past_starts : (ts : List Tail) (q : PlainQuery) (at : List ℕ) (f : ℕ) → NoneFrom ts at f
    → left_starts ts q at (Some f) ≡ left_starts ts q at None
past_starts ts q at f none =
    filter_same (is_left at (Some f)) (is_left at None) (start_contexts ts q)
    (λ d m. pop_starts ts q at f none d m)

pub up_starts : (ts : List Tail) (q : PlainQuery) (at : List ℕ) (l : ℕ)
    → left_starts ts q (at ++ l ∷ []) None ≡ left_starts ts q at (Some (l + 1))
up_starts ts q at l =
    filter_same (is_left (at ++ l ∷ []) None) (is_left at (Some (l + 1))) (start_contexts ts q)
    (λ d m. pop_left at l d)
