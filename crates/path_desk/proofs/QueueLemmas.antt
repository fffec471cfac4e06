-- Queues in order: where an entry goes, and that they stay in order.
use Rattle.std.proofs.Common.{◌≡◌, ◌≤◌, ◌<◌, ◌+◌, ℕ, zero, suc, Bool, true, false, cond}
use Rattle.std.proofs.Common.{List, [], ◌∷◌, ◌++◌, length, refl, sym, ap, ◌∙◌}
use Rattle.std.proofs.Common.{arith}
use Rattle.std.specs.Prelude.{slice_index_or, insert, Option, Some}
use Rattle.std.specs.List.{AllByRecursion}
use Rattle.std.specs.List.Sorted.{IsPartitionPoint, IsPartitionedBy}
use Rattle.sg_base.specs.Ranking.{put_in}
use Rattle.sg_base.proofs.Orders.{at_most_trans, weaken, at_most_below}
use Rattle.path_desk.specs.Entries.{Queued, entry_cmp}
use Rattle.path_desk.specs.Orders.{InOrder}
use Rattle.path_desk.specs.Desks.{but_last, last_of, shed, queue, first_of, put_queued}
use Rattle.path_desk.proofs.OrderLemmas.{entry_lt, entries_ordered}

abbrev NoneBelow : Queued → List Queued → Type 0
NoneBelow x = AllByRecursion (λ y. entry_lt y x ≡ false)

all_at : {X : Type 0} (P : X → Type 0) (xs : List X) (k : ℕ) (d : X) → AllByRecursion P xs
    → k < length xs → P (slice_index_or xs k d)
all_at P [] k d a h = absurd (omega arith)
all_at P (x ∷ xs) zero d a h = a.0
all_at P (x ∷ xs) (suc k) d a h = all_at P xs k d a.1 (omega arith)

pub parted : (x : Queued) (ys : List Queued) → InOrder ys → IsPartitionedBy (λ y. entry_lt y x) ys
parted x [] up i j d low high below = absurd (omega arith)
parted x (y ∷ ys) up zero zero d low high below = below
parted x (y ∷ ys) up zero (suc j) d low high below =
    at_most_below entry_lt entries_ordered y (slice_index_or ys j d) x
    (all_at (λ z. entry_lt z y ≡ false) ys j d up.0 (omega arith)) below
parted x (y ∷ ys) up (suc i) zero d low high below = absurd (omega arith)
parted x (y ∷ ys) up (suc i) (suc j) d low high below =
    parted x ys up.1 i j d (omega arith) (omega arith) below

-- an entry goes where those before it end
pub insert-put_in : (x : Queued) (ys : List Queued) (i : ℕ) → i ≤ length ys
    → IsPartitionPoint (λ y. entry_lt y x ≡ true) (λ y. entry_lt y x ≡ false) ys i
    → insert ys i x ≡ put_in entry_cmp x ys
insert-put_in x [] zero h parts = refl
insert-put_in x [] (suc i) h parts = absurd (omega arith)
insert-put_in x (y ∷ ys) zero h parts =
    let here : entry_lt y x ≡ false = parts.1 0 y (omega arith) (omega arith) in rw here refl
insert-put_in x (y ∷ ys) (suc i) h parts =
    let here : entry_lt y x ≡ true = parts.0 0 y (omega arith) (omega arith) in
    rw here (ap (λ zs. y ∷ zs) (insert-put_in x ys i (omega arith) (
      λ k d low high. parts.0 (suc k) d (omega arith) (omega (arith, high)),
      λ k d low high. parts.1 (suc k) d (omega (arith, low)) (omega (arith, high)),
    )))

none_below_more : (x y : Queued) (zs : List Queued) → entry_lt y x ≡ false → NoneBelow y zs
    → NoneBelow x zs
none_below_more x y [] p q = tt
none_below_more x y (z ∷ zs) p q =
    (at_most_trans entry_lt entries_ordered x y z p q.0, none_below_more x y zs p q.1)

none_below-put_at : (w x y : Queued) (ys : List Queued) (b : Bool) → entry_lt x w ≡ false
    → entry_lt y w ≡ false → NoneBelow w ys → NoneBelow w (put_in entry_cmp x ys)
    → NoneBelow w (cond b (y ∷ put_in entry_cmp x ys) (x ∷ (y ∷ ys)))
none_below-put_at w x y ys true p q r h = (q, h)
none_below-put_at w x y ys false p q r h = (p, (q, r))

none_below-put_in : (w x : Queued) (ys : List Queued) → entry_lt x w ≡ false → NoneBelow w ys
    → NoneBelow w (put_in entry_cmp x ys)
none_below-put_in w x [] p q = (p, tt)
none_below-put_in w x (y ∷ ys) p q =
    none_below-put_at w x y ys (entry_lt y x) p q.0 q.1 (none_below-put_in w x ys p q.1)

rises-put_at : (x y : Queued) (ys : List Queued) (b : Bool) → entry_lt y x ≡ b → NoneBelow y ys
    → InOrder ys → InOrder (put_in entry_cmp x ys)
    → InOrder (cond b (y ∷ put_in entry_cmp x ys) (x ∷ (y ∷ ys)))
rises-put_at x y ys true is p q h =
    (none_below-put_in y x ys (weaken entry_lt entries_ordered y x is) p, h)
rises-put_at x y ys false is p q h = ((is, none_below_more x y ys is p), (p, q))

pub rises-put_in : (x : Queued) (ys : List Queued) → InOrder ys → InOrder (put_in entry_cmp x ys)
rises-put_in x [] q = (tt, tt)
rises-put_in x (y ∷ ys) q =
    rises-put_at x y ys (entry_lt y x) refl q.0 q.1 (rises-put_in x ys q.1)

none_below-front : (w : Queued) (xs ys : List Queued) → NoneBelow w (xs ++ ys)
    → NoneBelow w xs
none_below-front w [] ys p = tt
none_below-front w (x ∷ xs) ys p = (p.0, none_below-front w xs ys p.1)

pub rises-front : (xs ys : List Queued) → InOrder (xs ++ ys) → InOrder xs
rises-front [] ys p = tt
rises-front (x ∷ xs) ys p = (none_below-front x xs ys p.0, rises-front xs ys p.1)

pub length-put_in : (x : Queued) (ys : List Queued) → length (put_in entry_cmp x ys) ≡ length ys + 1
length-put_in x [] = refl
length-put_in x (y ∷ ys) = at (entry_lt y x) (length-put_in x ys)
  where
    at : (b : Bool) → length (put_in entry_cmp x ys) ≡ length ys + 1
        → length (cond b (y ∷ put_in entry_cmp x ys) (x ∷ (y ∷ ys))) ≡ length (y ∷ ys) + 1
    at true h = omega (arith, h)
    at false h = omega arith

pub but_last-snoc : {X : Type 0} (y : X) (xs : List X) (x : X) → but_last y (xs ++ x ∷ []) ≡ y ∷ xs
but_last-snoc y [] x = refl
but_last-snoc y (z ∷ xs) x = ap (λ zs. y ∷ zs) (but_last-snoc z xs x)

pub last_of-snoc : {X : Type 0} (y : X) (xs : List X) (x : X) → last_of y (xs ++ x ∷ []) ≡ x
last_of-snoc y [] x = refl
last_of-snoc y (z ∷ xs) x = last_of-snoc z xs x

-- what is shed of a queue with a known end
pub shed-snoc : (xs : List Queued) (x : Queued) (o : Option Queued)
    → shed (xs ++ x ∷ []) o ≡ queue xs (Some (first_of x o))
shed-snoc [] x o = refl
shed-snoc (y ∷ xs) x o =
    ap (λ zs. queue zs (Some (first_of (last_of y (xs ++ x ∷ [])) o))) (but_last-snoc y xs x)
    ∙ ap (λ z. queue (y ∷ xs) (Some (first_of z o))) (last_of-snoc y xs x)

pub insert-end : (xs : List Queued) (x : Queued) → insert xs (length xs) x ≡ xs ++ x ∷ []
insert-end [] x = refl
insert-end (y ∷ xs) x = ap (λ zs. y ∷ zs) (insert-end xs x)

pub insert-before_last : (front : List Queued) (i : ℕ) (x last : Queued) → i ≤ length front
    → insert (front ++ last ∷ []) i x ≡ insert front i x ++ last ∷ []
insert-before_last front zero x last h = refl
insert-before_last [] (suc i) x last h = absurd (omega arith)
insert-before_last (y ∷ front) (suc i) x last h =
    ap (λ zs. y ∷ zs) (insert-before_last front i x last (omega arith))

-- an entry that goes to the end is dropped
pub put_queued-end : (xs : List Queued) (x : Queued) (i : ℕ) (o : Option Queued) → i ≡ length xs
    → insert xs i x ≡ put_in entry_cmp x xs
    → put_queued false x (queue xs o) ≡ queue xs (Some (first_of x o))
put_queued-end xs x i o e h =
    let all : put_in entry_cmp x xs ≡ xs ++ x ∷ [] =
    sym h ∙ ap (λ n. insert xs n x) e ∙ insert-end xs x in
    ap (λ zs. shed zs o) all ∙ shed-snoc xs x o

-- else the last one is
pub put_queued-within : (front : List Queued) (last x : Queued) (i : ℕ) (o : Option Queued)
    → i ≤ length front
    → insert (front ++ last ∷ []) i x ≡ put_in entry_cmp x (front ++ last ∷ [])
    → put_queued false x (queue (front ++ last ∷ []) o)
    ≡ queue (insert front i x) (Some (first_of last o))
put_queued-within front last x i o e h =
    let all : put_in entry_cmp x (front ++ last ∷ []) ≡ insert front i x ++ last ∷ [] =
    sym h ∙ insert-before_last front i x last e in
    ap (λ zs. shed zs o) all ∙ shed-snoc (insert front i x) last o
