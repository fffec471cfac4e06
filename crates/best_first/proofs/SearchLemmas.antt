-- What the calls on the desk do to what holds of the search.
use Rattle.std.proofs.Common.{◌≡◌, ◌≤◌, ◌<◌, ◌+◌, ◌-◌, inl, inr, ℕ, zero, suc, Bool, true, false}
use Rattle.std.proofs.Common.{List, [], ◌∷◌, ◌++◌, length, length-append, take, drop, map, refl}
use Rattle.std.proofs.Common.{sym, ap, ◌∙◌, subst, arith}
use Rattle.std.specs.Prelude.{Option, Some, slice_index_or, IsSome, nat_lt}
use Rattle.std.proofs.lemmas.Bool.{ltb-true, ltb-false}
use Rattle.std.proofs.lemmas.List.{append-nil}
use Rattle.sg_base.specs.Lists.{In}
use Rattle.sg_base.specs.declared.node.Edge.{Edge}
use Rattle.path_desk.specs.Desks.{PlainDesk, put_entry, taken_room, path_of, path_bytes, stepped}
use Rattle.path_desk.specs.Entries.{Queued, queued}
use Rattle.path_desk.specs.declared.entry.Entry.{Entry}
use Rattle.best_first.specs.Families.{IsFamily}
use Rattle.best_first.specs.Matches.{Match, Best}
use Rattle.best_first.specs.Progress.{Taken, IsCurrent, Progress}
use Rattle.best_first.specs.Segments.{Searching, Follows}
use Rattle.best_first.specs.Steps.{child_entry, child, put_all, arcs_of, IsFree, HasFreeArc, Knows}
use Rattle.best_first.proofs.ChooseLemmas.{progress-choose}
use Rattle.best_first.proofs.ProgressLemmas.{progress-put}

pub searching-put : (all : List Match) (P : Queued → Type 0) (reached : List Match) (d : PlainDesk)
    (x : Queued) (rest : List Queued) (current : Option Queued)
    → Searching all P reached d (x ∷ rest) current
    → Searching all P reached (put_entry d x) rest current
searching-put all P reached d x rest current s =
    record {
      progress = progress-put all P reached d.room x rest d.waiting
          (taken_room d.reached d.followed) d.dropped current s.progress;
    }

pub searching-put_all : (all : List Match) (P : Queued → Type 0) (reached : List Match)
    (d : PlainDesk) (xs rest : List Queued) (current : Option Queued)
    → Searching all P reached d (xs ++ rest) current
    → Searching all P reached (put_all d xs) rest current
searching-put_all all P reached d [] rest current s = s
searching-put_all all P reached d (x ∷ xs) rest current s =
    searching-put_all all P reached (put_entry d x) xs rest current
    (searching-put all P reached d x (xs ++ rest) current s)

pub followed-put_all : (d : PlainDesk) (xs : List Queued) → (put_all d xs).followed ≡ d.followed
followed-put_all d [] = refl
followed-put_all d (x ∷ xs) = followed-put_all (put_entry d x) xs

current_at : (all : List Match) (P : Queued → Type 0) (reached : List Match) (room : ℕ)
    (pending waiting : List Queued) (count : ℕ) (first : Option Queued) (p : Queued)
    (s : Progress all P reached room pending waiting count first (Some p)) (ts : List Taken)
    → s.taken ≡ ts → IsCurrent (Some p) ts → Best all p × P p
current_at all P reached room pending waiting count first p s [] e i = elim i [ ]
current_at all P reached room pending waiting count first p s (t ∷ older) e i =
    subst (λ z. Best all z × P z) i (s.taken_sound t (subst (λ zs. In t zs) (sym e) (inl refl)))

pub current-sound : (all : List Match) (P : Queued → Type 0) (reached : List Match) (room : ℕ)
    (pending waiting : List Queued) (count : ℕ) (first : Option Queued) (p : Queued)
    → Progress all P reached room pending waiting count first (Some p) → Best all p × P p
current-sound all P reached room pending waiting count first p s =
    current_at all P reached room pending waiting count first p s s.taken refl s.is_current

pub follows-over : (all : List Match) (P : Queued → Type 0) (reached : List Match) (d : PlainDesk)
    (e : Entry) → Follows all P reached d e → P (queued e (path_of d))
follows-over all P reached d e f =
    (current-sound all P reached d.room [] d.waiting (taken_room d.reached d.followed) d.dropped
    (queued e (path_of d)) f.searching.progress).1

searching_stepped : (all : List Match) (P : Queued → Type 0) (reached : List Match) (d : PlainDesk)
    (l : ℕ) (path : List ℕ) (current : Option Queued) → d.followed ≡ Some path
    → Searching all P reached d [] current → Searching all P reached (stepped d l) [] current
searching_stepped all P reached d l path current e s =
    record {
      progress = subst (λ o. Progress all P reached d.room [] d.waiting
          (taken_room d.reached o) d.dropped current) e s.progress;
    }

-- one arc: its siblings are put in, and the path goes on
pub follows-arc : (all : List Match) (P : Queued → Type 0) (reached : List Match) (d : PlainDesk)
    (e : Entry) (us vs : List Edge) (a : Edge) → Follows all P reached d e
    → IsFamily all P (queued e (path_of d)) (child (queued e (path_of d)) a)
    (map (child (queued e (path_of d))) us ++ map (child (queued e (path_of d))) vs)
    → Follows all P reached (stepped
    (put_all (put_all d (map (child (queued e (path_of d))) us))
    (map (child (queued e (path_of d))) vs)) a.label) (child_entry e a)
follows-arc all P reached d e us vs a f family =
    let p = queued e (path_of d) in
    let xs : List Queued = map (child p) us in
    let ys : List Queued = map (child p) vs in
    let d2 = put_all (put_all d xs) ys in
    let followed : d2.followed ≡ Some (path_of d) =
    followed-put_all (put_all d xs) ys ∙ followed-put_all d xs ∙ f.path in
    let chosen : Searching all P reached d (xs ++ ys) (Some (child p a)) =
    record {
      progress = progress-choose all P reached d.room p (child p a) (xs ++ ys) d.waiting
          (taken_room d.reached d.followed) d.dropped f.searching.progress family;
    } in
    let first = searching-put_all all P reached d xs ys (Some (child p a)) chosen in
    let first' : Searching all P reached (put_all d xs) (ys ++ []) (Some (child p a)) =
    subst (λ zs. Searching all P reached (put_all d xs) zs (Some (child p a)))
    (sym (append-nil ys)) first in
    let both : Searching all P reached d2 [] (Some (child p a)) =
    searching-put_all all P reached (put_all d xs) ys [] (Some (child p a)) first' in
    let path : path_of d2 ≡ path_of d = ap path_bytes followed in
    record {
      searching = subst (λ b. Searching all P reached (stepped d2 a.label) []
          (Some (queued (child_entry e a) (b ++ a.label ∷ [])))) (sym path)
          (searching_stepped all P reached d2 a.label (path_of d) (Some (child p a)) followed both);
      path = refl;
    }

-- the loop over a range of arcs

range_at : {X : Type 0} (xs : List X) (at' m n : ℕ) (d : X) → at' < length xs → m ≡ suc n
    → take m (drop at' xs) ≡ slice_index_or xs at' d ∷ take n (drop (suc at') xs)
range_at [] at' m n d h e = absurd (omega arith)
range_at (x ∷ xs) zero m n d h e = ap (λ k. take k (x ∷ xs)) e
range_at (x ∷ xs) (suc at') m n d h e = range_at xs at' m n d (omega arith) e

pub range-more : {X : Type 0} (xs : List X) (at' to : ℕ) (d : X) → at' < to → to ≤ length xs
    → take (to - at') (drop at' xs)
    ≡ slice_index_or xs at' d ∷ take (to - (at' + 1)) (drop (at' + 1) xs)
range-more xs at' to d l h =
    let g : suc at' ≡ at' + 1 = omega arith in
    range_at xs at' (to - at') (to - (at' + 1)) d (omega arith) (omega arith)
    ∙ ap (λ k. slice_index_or xs at' d ∷ take (to - (at' + 1)) (drop k xs)) g

front_of : {X : Type 0} (ws vs : List X) (a : X) (k : ℕ) → length ws ≡ k
    → take k (ws ++ a ∷ vs) ≡ ws
front_of [] vs a zero q = refl
front_of [] vs a (suc k) q = absurd (omega arith)
front_of (w ∷ ws) vs a zero q = absurd (omega arith)
front_of (w ∷ ws) vs a (suc k) q = ap (λ zs. w ∷ zs) (front_of ws vs a k (omega arith))

pub front-range : {X : Type 0} (us vs : List X) (a : X) (n : ℕ) → length us ≡ n
    → take (n - 0) (drop 0 (us ++ a ∷ vs)) ≡ us
front-range us vs a n e =
    let f : n - 0 ≡ n = omega arith in
    ap (λ k. take k (us ++ a ∷ vs)) f ∙ front_of us vs a n e

behind : {X : Type 0} (ws vs : List X) (a : X) (k : ℕ) → length ws ≡ k
    → drop (suc k) (ws ++ a ∷ vs) ≡ vs
behind [] vs a zero q = refl
behind [] vs a (suc k) q = absurd (omega arith)
behind (w ∷ ws) vs a zero q = absurd (omega arith)
behind (w ∷ ws) vs a (suc k) q = behind ws vs a k (omega arith)

whole : {X : Type 0} (ws : List X) → take (length ws) ws ≡ ws
whole [] = refl
whole (w ∷ ws) = ap (λ zs. w ∷ zs) (whole ws)

pub back-range : {X : Type 0} (us vs : List X) (a : X) (n : ℕ) → length us ≡ n
    → take (length (us ++ a ∷ vs) - (n + 1)) (drop (n + 1) (us ++ a ∷ vs)) ≡ vs
back-range {X} us vs a n e =
    let l : length (us ++ a ∷ vs) ≡ length us + length (a ∷ vs) = length-append us (a ∷ vs) in
    let f : length (us ++ a ∷ vs) - (n + 1) ≡ length vs = omega (arith, l, e) in
    let g : n + 1 ≡ suc n = omega arith in
    ap (λ k. take k (drop (n + 1) (us ++ a ∷ vs))) f
    ∙ ap (λ k. take (length vs) (drop k (us ++ a ∷ vs))) g
    ∙ ap (take (length vs)) (behind us vs a n e) ∙ whole vs

pub index-middle : {X : Type 0} (us vs : List X) (a d : X) (n : ℕ) → length us ≡ n
    → slice_index_or (us ++ a ∷ vs) n d ≡ a
index-middle [] vs a d zero q = refl
index-middle [] vs a d (suc n) q = absurd (omega arith)
index-middle (u ∷ us) vs a d zero q = absurd (omega arith)
index-middle (u ∷ us) vs a d (suc n) q = index-middle us vs a d n (omega arith)

index_front : {X : Type 0} (us vs : List X) (d : X) (n : ℕ) → n < length us
    → In (slice_index_or (us ++ vs) n d) us
index_front [] vs d n h = absurd (omega arith)
index_front (u ∷ us) vs d zero h = inl refl
index_front (u ∷ us) vs d (suc n) h = inr (index_front us vs d n (omega arith))

pub index-in : {X : Type 0} (xs : List X) (d : X) (n : ℕ) → n < length xs
    → In (slice_index_or xs n d) xs
index-in [] d n h = absurd (omega arith)
index-in (x ∷ xs) d zero h = inl refl
index-in (x ∷ xs) d (suc n) h = inr (index-in xs d n (omega arith))

-- before the first free arc none is free
pub not_yet : (edges us vs : List Edge) (a d : Edge) (n : ℕ) → IsFree edges us vs a → n ≤ length us
    → ((slice_index_or edges n d).cost ≡ 0 → ⊥) → n + 1 ≤ length us
not_yet edges us vs a d n f h cost = at_n (nat_lt n (length us)) refl
  where
    at_n : (b : Bool) → nat_lt n (length us) ≡ b → n + 1 ≤ length us
    at_n true e = let l = ltb-true n (length us) e in omega (arith, l)
    at_n false e =
        let l = ltb-false n (length us) e in
        let same : length us ≡ n = omega (arith, l, h) in
        absurd (cost (ap (λ (z : Edge). z.cost)
        (ap (λ zs. slice_index_or zs n d) f.is ∙ index-middle us vs a d n same)
        ∙ f.free))

-- and the first that is free is it
pub found_free : (edges us vs : List Edge) (a d : Edge) (n : ℕ) → IsFree edges us vs a
    → n ≤ length us → (slice_index_or edges n d).cost ≡ 0 → length us ≡ n
found_free edges us vs a d n f h cost = at_n (nat_lt n (length us)) refl
  where
    at_n : (b : Bool) → nat_lt n (length us) ≡ b → length us ≡ n
    at_n true e =
        let l = ltb-true n (length us) e in
        absurd (f.first (slice_index_or (us ++ a ∷ vs) n d) (index_front us (a ∷ vs) d n l)
        (subst (λ zs. (slice_index_or zs n d).cost ≡ 0) f.is cost))
    at_n false e = let l = ltb-false n (length us) e in omega (arith, l, h)

-- one arc, from the clauses of the calls
pub follows-calls : (all : List Match) (P : Queued → Type 0) (reached : List Match)
    (nodes : List (List Edge)) (match_at : ℕ → Match) → Knows all P nodes match_at
    → (d d1 d2 d3 : PlainDesk) (e e' : Entry) (node : List Edge) (at' len : ℕ) (edge : Edge)
    → Follows all P reached d e → (e.node.0 ≡ 0 → ⊥) → node ≡ arcs_of nodes e.node.0
    → ((us : List Edge) × (vs : List Edge) × (a : Edge) × IsFree node us vs a × (length us ≡ at'))
    → d1 ≡ put_all d (map (child (queued e (path_of d))) (take (at' - 0) (drop 0 node)))
    → len ≡ length node
    → d2 ≡ put_all d1 (map (child (queued e (path_of d1)))
    (take (len - (at' + 1)) (drop (at' + 1) node)))
    → ((x : Edge) → edge ≡ slice_index_or node at' x) → d3 ≡ stepped d2 edge.label
    → e' ≡ child_entry e edge
    → Follows all P reached d3 e' × (length (path_of d3) ≡ length (path_of d) + 1)
follows-calls all P reached nodes match_at knows d d1 d2 d3 e e' node at' len edge f inner is h q1 l
    q2 qe q3 qc =
    let us : List Edge = h.0 in
    let vs : List Edge = h.1 in
    let a : Edge = h.2 in
    let free : IsFree node us vs a = h.3 in
    let p = queued e (path_of d) in
    let xs : List Queued = map (child p) us in
    let ys : List Queued = map (child p) vs in
    let r1 : take (at' - 0) (drop 0 node) ≡ us =
    ap (λ z. take (at' - 0) (drop 0 z)) free.is ∙ front-range us vs a at' h.4 in
    let d1e : d1 ≡ put_all d xs = q1 ∙ ap (λ zs. put_all d (map (child p) zs)) r1 in
    let path1 : path_of d1 ≡ path_of d = ap path_of d1e ∙ ap path_bytes (followed-put_all d xs) in
    let r2 : take (len - (at' + 1)) (drop (at' + 1) node) ≡ vs =
    ap (λ n. take (n - (at' + 1)) (drop (at' + 1) node)) l
    ∙ ap (λ z. take (length z - (at' + 1)) (drop (at' + 1) z)) free.is
    ∙ back-range us vs a at' h.4 in
    let d2e : d2 ≡ put_all (put_all d xs) ys =
    q2 ∙ ap (λ z. put_all d1 (map (child (queued e z))
    (take (len - (at' + 1)) (drop (at' + 1) node)))) path1
    ∙ ap (λ zs. put_all d1 (map (child p) zs)) r2 ∙ ap (λ z. put_all z ys) d1e in
    let ea : edge ≡ a = qe a ∙ ap (λ zs. slice_index_or zs at' a) free.is
    ∙ index-middle us vs a a at' h.4 in
    let free' : IsFree (arcs_of nodes e.node.0) us vs a = subst (λ zs. IsFree zs us vs a) is free in
    let F : Follows all P reached (stepped (put_all (put_all d xs) ys) a.label) (child_entry e a) =
    follows-arc all P reached d e us vs a f
    (knows.family p us vs a (follows-over all P reached d e f) inner free') in
    let d3e : d3 ≡ stepped (put_all (put_all d xs) ys) a.label =
    q3 ∙ ap (λ z. stepped d2 z.label) ea ∙ ap (λ z. stepped z a.label) d2e in
    let e'e : e' ≡ child_entry e a = qc ∙ ap (child_entry e) ea in
    let path3 : path_of (put_all (put_all d xs) ys) ≡ path_of d =
    ap path_bytes (followed-put_all (put_all d xs) ys ∙ followed-put_all d xs) in
    let n : length (path_of d3) ≡ length (path_of (put_all (put_all d xs) ys) ++ a.label ∷ []) =
    ap (λ z. length (path_of z)) d3e in
    let m : length (path_of (put_all (put_all d xs) ys) ++ a.label ∷ [])
    ≡ length (path_of (put_all (put_all d xs) ys)) + 1 =
    length-append (path_of (put_all (put_all d xs) ys)) (a.label ∷ []) in
    let k : length (path_of (put_all (put_all d xs) ys)) ≡ length (path_of d) = ap length path3 in (
      subst (λ z. Follows all P reached z e') (sym d3e)
          (subst (λ z. Follows all P reached (stepped (put_all (put_all d xs) ys) a.label) z)
          (sym e'e) F),
      omega (arith, n, m, k),
    )

pub is-some : (d : PlainDesk) (path : List ℕ) → d.followed ≡ Some path → IsSome d.followed
is-some d path e = subst (λ o. IsSome o) (sym e) refl

-- the rest leads to the same desk after one more
pub put-more : (start d new : PlainDesk) (e c : Entry) (edge : Edge) (node : List Edge) (at' to : ℕ)
    → at' < to → to ≤ length node → d.followed ≡ start.followed
    → edge ≡ slice_index_or node at' edge → c ≡ child_entry e edge
    → new ≡ put_entry d (queued c (path_of d ++ edge.label ∷ []))
    → put_all new (map (child (queued e (path_of start)))
    (take (to - (at' + 1)) (drop (at' + 1) node)))
    ≡ put_all d (map (child (queued e (path_of start))) (take (to - at') (drop at' node)))
put-more start d new e c edge node at' to l h followed qe qc qn =
    let p = queued e (path_of start) in
    let path : path_of d ≡ path_of start = ap path_bytes followed in
    let x : queued c (path_of d ++ edge.label ∷ []) ≡ child p edge =
    ap (λ z. queued z (path_of d ++ edge.label ∷ [])) qc
    ∙ ap (λ b. queued (child_entry e edge) (b ++ edge.label ∷ [])) path in
    let rest : List Queued = map (child p) (take (to - (at' + 1)) (drop (at' + 1) node)) in
    let n : new ≡ put_entry d (child p edge) = qn ∙ ap (put_entry d) x in
    let more : take (to - at') (drop at' node)
    ≡ edge ∷ take (to - (at' + 1)) (drop (at' + 1) node) =
    range-more node at' to edge l h
    ∙ ap (λ z. z ∷ take (to - (at' + 1)) (drop (at' + 1) node)) (sym qe) in
    ap (λ z. put_all z rest) n ∙ sym (ap (λ zs. put_all d (map (child p) zs)) more)

pub free-in : (edges edges' : List Edge) → edges ≡ edges' → HasFreeArc edges → HasFreeArc edges'
free-in edges edges' e h = (h.0, h.1, h.2, subst (λ zs. IsFree zs h.0 h.1 h.2) e h.3)

pub free-edge : (node : List Edge) (at' : ℕ) (edge : Edge)
    → ((us : List Edge) × (vs : List Edge) × (a : Edge) × IsFree node us vs a × (length us ≡ at'))
    → ((x : Edge) → edge ≡ slice_index_or node at' x) → In edge node
free-edge node at' edge h e =
    let l : length node ≡ length (h.0) + length (h.2 ∷ h.1) =
    ap length h.3.is ∙ length-append h.0 (h.2 ∷ h.1) in
    let n : length h.0 ≡ at' = h.4 in
    subst (λ z. In z node) (sym (e edge)) (index-in node edge at' (omega (arith, l, n)))
