-- Equal nodes have one length and one hash.
use Rattle.std.proofs.Common.{◌≡◌, ◌<◌, ◌≤◌, ◌-◌, ℕ, zero, suc, ◌||◌, get_or, Bool}
use Rattle.std.proofs.Common.{true, false, ◌&&◌, List, [], ◌∷◌, length, refl, sym, ap, ◌∙◌, arith}
use Rattle.std.proofs.Common.{eqb, eq-eqb, ◌⊎◌, inl, inr, subst}
use Rattle.std.proofs.lemmas.Bool.{eqb-true, cases_order}
use Rattle.sg_base.specs.declared.node.Edge.{Edge}
use Rattle.sg_base.specs.Nodes.{same_edges, holds_same}
use Rattle.sg_base.specs.Hashes.{hash_from, mixed, bucket, scaled}

and_parts : (a b c d : Bool) → (a && b && c && d) ≡ true
    → (a ≡ true) × (b ≡ true) × (c ≡ true) × (d ≡ true)
and_parts true true true d e = (refl, refl, refl, e)
and_parts true true false d e = absurd cc
and_parts true false c d e = absurd cc
and_parts false b c d e = absurd cc

and_all : (a b c d : Bool) → a ≡ true → b ≡ true → c ≡ true → d ≡ true → (a && b && c && d) ≡ true
and_all a b c d p q r s = rw (p, q, r, s) refl

and_false : (a b c d : Bool) → false ≡ d → false ≡ (a && b && c && d)
and_false true true true d e = e
and_false true true false d e = refl
and_false true false c d e = refl
and_false false b c d e = refl

-- equal but for what comes before
abbrev pub Alike : List Edge → List Edge → Type 0
Alike [] [] = Unit {0}
Alike [] (d ∷ ds) = ⊥
Alike (e ∷ es) [] = ⊥
Alike (e ∷ es) (d ∷ ds) =
    (e.label ≡ d.label) × (e.cost ≡ d.cost) × (e.target.0 ≡ d.target.0) × Alike es ds

pub alike_of : (a b : List Edge) → same_edges a b ≡ true → Alike a b
alike_of [] [] e = tt
alike_of [] (d ∷ ds) e = absurd cc
alike_of (x ∷ xs) [] e = absurd cc
alike_of (x ∷ xs) (y ∷ ys) e =
    let p =
    and_parts (eqb x.label y.label) (eqb x.cost y.cost) (eqb x.target.0 y.target.0)
    (same_edges xs ys) e
    in
    (eqb-true _ _ p.0, eqb-true _ _ p.1, eqb-true _ _ p.2, alike_of xs ys p.3)

pub same_of : (a b : List Edge) → Alike a b → same_edges a b ≡ true
same_of [] [] h = refl
same_of [] (d ∷ ds) h = absurd h
same_of (x ∷ xs) [] h = absurd h
same_of (x ∷ xs) (y ∷ ys) h =
    and_all (eqb x.label y.label) (eqb x.cost y.cost) (eqb x.target.0 y.target.0) (same_edges xs ys)
    (eq-eqb _ _ h.0) (eq-eqb _ _ h.1) (eq-eqb _ _ h.2) (same_of xs ys h.3)

alike_self : (a : List Edge) → Alike a a
alike_self [] = tt
alike_self (e ∷ es) = (refl, refl, refl, alike_self es)

alike_swap : (a b : List Edge) → Alike a b → Alike b a
alike_swap [] [] h = tt
alike_swap [] (d ∷ ds) h = absurd h
alike_swap (x ∷ xs) [] h = absurd h
alike_swap (x ∷ xs) (y ∷ ys) h = (sym h.0, sym h.1, sym h.2, alike_swap xs ys h.3)

pub same_self : (a : List Edge) → same_edges a a ≡ true
same_self a = same_of a a (alike_self a)

pub swap_same : (a b : List Edge) → same_edges a b ≡ true → same_edges b a ≡ true
swap_same a b e = same_of b a (alike_swap a b (alike_of a b e))

pub length-differs : (a b : List Edge) → (length a ≡ length b → ⊥) → false ≡ same_edges a b
length-differs [] [] h = absurd (h refl)
length-differs [] (e ∷ es) h = refl
length-differs (e ∷ es) [] h = refl
length-differs (e ∷ es) (d ∷ ds) h =
    and_false (eqb e.label d.label) (eqb e.cost d.cost) (eqb e.target.0 d.target.0)
    (same_edges es ds) (length-differs es ds (λ s. h (ap suc s)))

alike_hash : (h : ℕ) (a b : List Edge) → Alike a b → hash_from h a ≡ hash_from h b
alike_hash h [] [] e = refl
alike_hash h [] (d ∷ ds) e = absurd e
alike_hash h (x ∷ xs) [] e = absurd e
alike_hash h (x ∷ xs) (y ∷ ys) e =
    let next = mixed (mixed (mixed h x.label) x.cost) x.target.0 in
    alike_hash next xs ys e.3 ∙ ap (λ k. hash_from k ys) (rw (e.0, e.1, e.2) refl)

not_true : (b : Bool) → (b ≡ true → b ≡ false) → b ≡ false
not_true true h = h refl
not_true false h = refl

-- nodes in different buckets differ
pub other_bucket : (n : ℕ) (a b : List Edge) → (bucket n a ≡ bucket n b → same_edges a b ≡ false)
    → same_edges a b ≡ false
other_bucket n a b h =
    not_true (same_edges a b)
    (λ yes. h (ap (scaled n) (alike_hash 0 a b (alike_of a b yes))))

step_at : (same : ℕ → Bool) (bucket_at : ℕ → ℕ) (cell next len b j : ℕ) → 0 < cell → next ≤ j
    → j < len → bucket_at j ≡ b → (0 < cell → bucket_at (cell - 1) ≡ b)
    → ((i : ℕ) → cell ≤ i → i < len → bucket_at i ≡ b → same i ≡ false)
    → same (cell - 1) ≡ false
    → ((i : ℕ) → next ≤ i → i < cell - 1 → bucket_at i ≡ bucket_at (cell - 1) → ⊥)
    → (j ≡ cell - 1) ⊎ ((j < cell - 1) ⊎ (cell - 1 < j)) → same j ≡ false
step_at same bucket_at cell next len b j pos nj jl jb in_b inv this gap (inl e) =
    subst (λ x. same x ≡ false) (sym e) this
step_at same bucket_at cell next len b j pos nj jl jb in_b inv this gap (inr (inl h)) =
    absurd (gap j nj h (jb ∙ sym (in_b pos)))
step_at same bucket_at cell next len b j pos nj jl jb in_b inv this gap (inr (inr k)) =
    inv j (omega (arith, k, pos)) jl jb

-- one step along a chain
pub step : (same : ℕ → Bool) (bucket_at : ℕ → ℕ) (cell next len b : ℕ) → 0 < cell → cell ≤ len
    → next ≤ cell - 1 → (0 < cell → bucket_at (cell - 1) ≡ b)
    → ((j : ℕ) → cell ≤ j → j < len → bucket_at j ≡ b → same j ≡ false)
    → same (cell - 1) ≡ false
    → ((j : ℕ) → next ≤ j → j < cell - 1 → bucket_at j ≡ bucket_at (cell - 1) → ⊥)
    → (j : ℕ) → next ≤ j → j < len → bucket_at j ≡ b → same j ≡ false
step same bucket_at cell next len b pos l n in_b inv this gap j nj jl jb =
    step_at same bucket_at cell next len b j pos nj jl jb in_b inv this gap
    (cases_order j (cell - 1))

or_false : (a b : Bool) → a ≡ false → b ≡ false → (a || b) ≡ false
or_false a b e f = rw (e, f) refl

-- no place holds an equal node
pub none_held : (node : List Edge) (nodes : List (List Edge))
    → ((j : ℕ) → j < length nodes → same_edges (get_or nodes j []) node ≡ false)
    → holds_same node nodes ≡ false
none_held node [] none = refl
none_held node (n ∷ ns) none =
    or_false (same_edges n node) (holds_same node ns) (none 0 (omega arith))
    (none_held node ns (λ j h. none (suc j) (omega (arith, h))))

or_parts : (a b : Bool) → (a || b) ≡ false → (a ≡ false) × (b ≡ false)
or_parts true b e = absurd cc
or_parts false b e = (refl, e)

-- where no node is equal, each differs
pub held_each : (node : List Edge) (nodes : List (List Edge)) → holds_same node nodes ≡ false
    → (i : ℕ) → i < length nodes → same_edges (get_or nodes i []) node ≡ false
held_each node [] e i h = absurd (omega (arith, h))
held_each node (n ∷ ns) e zero h = (or_parts (same_edges n node) (holds_same node ns) e).0
held_each node (n ∷ ns) e (suc i) h =
    held_each node ns (or_parts (same_edges n node) (holds_same node ns) e).1 i (omega (arith, h))

alike_both : (a b c : List Edge) → Alike a c → Alike b c → Alike a b
alike_both [] [] c h k = tt
alike_both [] (y ∷ ys) [] h k = absurd k
alike_both [] (y ∷ ys) (z ∷ zs) h k = absurd h
alike_both (x ∷ xs) [] [] h k = absurd h
alike_both (x ∷ xs) [] (z ∷ zs) h k = absurd k
alike_both (x ∷ xs) (y ∷ ys) [] h k = absurd h
alike_both (x ∷ xs) (y ∷ ys) (z ∷ zs) h k =
    (h.0 ∙ sym k.0, h.1 ∙ sym k.1, h.2 ∙ sym k.2, alike_both xs ys zs h.3 k.3)

-- two nodes that are equal to a third are equal
pub same_both : (a b c : List Edge) → same_edges a c ≡ true → same_edges b c ≡ true
    → same_edges a b ≡ true
same_both a b c e f = same_of a b (alike_both a b c (alike_of a c e) (alike_of b c f))
