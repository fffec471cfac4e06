-- What the calls of a queue do, from their callees' clauses.
use Rattle.std.proofs.Common.{◌≡◌, ◌≤◌, ◌+◌, ℕ, false, List, [], ◌∷◌}
use Rattle.std.proofs.Common.{◌++◌, length, length-append, sym, ap, ◌∙◌, subst, arith, Result}
use Rattle.std.proofs.Common.{Ok, Err, OnOk}
use Rattle.std.specs.Prelude.{insert, Option, Some}
use Rattle.sg_base.specs.Ranking.{put_in}
use Rattle.path_desk.specs.Entries.{Queued, entry_cmp}
use Rattle.path_desk.specs.Orders.{InOrder}
use Rattle.path_desk.specs.Desks.{PlainDesk, following, PlainQueue, queue, first_of, put_queued}
use Rattle.path_desk.proofs.QueueLemmas.{rises-put_in, rises-front, put_queued-end}
use Rattle.path_desk.proofs.QueueLemmas.{put_queued-within, insert-before_last}

inserted : (xs s ys : List Queued) (x h : Queued) (i : ℕ) → s ≡ xs → h ≡ x → ys ≡ insert xs i h
    → insert s i x ≡ put_in entry_cmp x s → ys ≡ put_in entry_cmp x xs
inserted xs s ys x h i same held is place =
    is ∙ ap (λ z. insert xs i z) held ∙ ap (λ zs. insert zs i x) (sym same) ∙ place
    ∙ ap (λ zs. put_in entry_cmp x zs) same

pub rises-inserted : (xs s ys : List Queued) (x h : Queued) (i : ℕ) → s ≡ xs → h ≡ x
    → ys ≡ insert xs i h
    → insert s i x ≡ put_in entry_cmp x s → InOrder xs → InOrder ys
rises-inserted xs s ys x h i same held is place up =
    subst InOrder (sym (inserted xs s ys x h i same held is place)) (rises-put_in x xs up)

abbrev pub IsShortened : List Queued → List Queued → Type 0
IsShortened xs ys = (front : List Queued) × (last : Queued) × (xs ≡ front ++ last ∷ [])
    × (ys ≡ front)

pub rises-shortened : (xs ys : List Queued) → IsShortened xs ys → InOrder xs → InOrder ys
rises-shortened xs ys h up = subst InOrder (sym h.3)
    (rises-front h.0 (h.1 ∷ []) (subst InOrder h.2 up))

abbrev pub IsExchanged : List Queued → List Queued → Queued → Queued → ℕ → Type 0
IsExchanged xs ys last h i = (front : List Queued) × (xs ≡ front ++ last ∷ [])
    × (ys ≡ insert front i h)

short : (xs s front : List Queued) (last : Queued) (i : ℕ) → s ≡ xs → xs ≡ front ++ last ∷ []
    → i ≤ length s → (i ≡ length s → ⊥) → i ≤ length front
short xs s front last i same is low n =
    let l : length s ≡ length front + 1 =
    ap length same ∙ ap length is ∙ length-append front (last ∷ []) in omega arith

placed : (xs s front : List Queued) (last x : Queued) (i : ℕ) → s ≡ xs → xs ≡ front ++ last ∷ []
    → insert s i x ≡ put_in entry_cmp x s
    → insert (front ++ last ∷ []) i x ≡ put_in entry_cmp x (front ++ last ∷ [])
placed xs s front last x i same is place =
    let P : List Queued → Type 0 =
    λ zs. insert zs i x ≡ put_in entry_cmp x zs in subst P (same ∙ is) place

pub rises-exchanged : (xs s ys : List Queued) (x h last : Queued) (i : ℕ) → s ≡ xs → h ≡ x
    → i ≤ length s → (i ≡ length s → ⊥)
    → IsExchanged xs ys last h i → insert s i x ≡ put_in entry_cmp x s → InOrder xs → InOrder ys
rises-exchanged xs s ys x h last i same held low n e place up =
    let front : List Queued = e.0 in
    let within : i ≤ length front = short xs s front last i same e.1 low n in
    let all : put_in entry_cmp x (front ++ last ∷ []) ≡ insert front i x ++ last ∷ [] =
    sym (placed xs s front last x i same e.1 place) ∙ insert-before_last front i x last within in
    let up' : InOrder (insert front i x ++ last ∷ []) =
    subst InOrder all (rises-put_in x (front ++ last ∷ []) (subst InOrder e.1 up)) in
    subst InOrder (sym (e.2 ∙ ap (λ z. insert front i z) held))
    (rises-front (insert front i x) (last ∷ []) up')

pub full-exchanged : (q : PlainQueue) (xs s ys : List Queued) (x h last : Queued) (i : ℕ)
    (o : Option Queued) → q ≡ queue xs o → s ≡ xs → h ≡ x → i ≤ length s → (i ≡ length s → ⊥)
    → IsExchanged xs ys last h i → insert s i x ≡ put_in entry_cmp x s
    → queue ys (Some (first_of last o)) ≡ put_queued false x q
full-exchanged q xs s ys x h last i o view same held low n e place =
    let front : List Queued = e.0 in
    let within : i ≤ length front = short xs s front last i same e.1 low n in
    ap (λ zs. queue zs (Some (first_of last o))) (e.2 ∙ ap (λ z. insert front i z) held)
    ∙ sym (put_queued-within front last x i o within (placed xs s front last x i same e.1 place))
    ∙ ap (λ zs. put_queued false x (queue zs o)) (sym e.1)
    ∙ ap (λ z. put_queued false x z) (sym view)

pub full-end : {T E : Type 0} (r : Result T E) (q : PlainQueue) (xs s : List Queued) (x : Queued)
    (i n : ℕ) (o o' : Option Queued) → q ≡ queue xs o → s ≡ xs
    → n ≡ length s → i ≡ n → insert s i x ≡ put_in entry_cmp x s → OnOk r (o' ≡ Some (first_of x o))
    → OnOk r (queue xs o' ≡ put_queued false x q)
full-end (Ok u) q xs s x i n o o' view same long at place e =
    let P : List Queued → Type 0 = λ zs. insert zs i x ≡ put_in entry_cmp x zs in
    ap (λ z. queue xs z) e ∙ sym (put_queued-end xs x i o (at ∙ long ∙ ap length same)
    (subst P same place)) ∙ ap (λ z. put_queued false x z) (sym view)
full-end (Err u) q xs s x i n o o' view same long at place e = tt

abbrev following_with : PlainDesk → List Queued → List ℕ → Option Queued → PlainDesk
following_with d waiting path dropped =
    record {
      need = d.need;
      room = d.room;
      waiting = waiting;
      reached = d.reached;
      followed =
          Some path;
      dropped = dropped;
      lists = d.lists;
    }

pub following-dropped : (v d : PlainDesk) (waiting : List Queued) (path : List ℕ)
    (dropped : Option Queued) → v ≡ d → dropped ≡ v.dropped
    → following_with v waiting path dropped ≡ following d waiting path
following-dropped v d waiting path dropped is e =
    ap (λ o. following_with v waiting path o) e ∙ ap (λ z. following z waiting path) is
