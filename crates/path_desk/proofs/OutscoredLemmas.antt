-- An entry with a lesser score than all of a full queue and the dropped one changes nothing.
use Rattle.std.proofs.Common.{◌≡◌, ◌<◌, ◌-◌, ◌&&◌, ℕ, Bool, true, false, List, [], ◌∷◌, ◌++◌}
use Rattle.std.proofs.Common.{length, refl, sym, ap, ◌∙◌, arith}
use Rattle.std.specs.Prelude.{Option, Some, None, nat_lt, slice_get}
use Rattle.std.specs.List.{AllByRecursion}
use Rattle.std.proofs.lemmas.Bool.Decides.{nat_tests}
use Rattle.sg_base.specs.Ranking.{put_in}
use Rattle.sg_base.proofs.Orders.{at_most_below}
use Rattle.path_desk.specs.declared.entry.Entry.{Entry}
use Rattle.path_desk.specs.Entries.{Queued, queued, entry_cmp}
use Rattle.path_desk.specs.Orders.{InOrder}
use Rattle.path_desk.specs.Desks.{PlainDesk, PlainQueue, queue, last_of, shed, first_of, put_queued}
use Rattle.path_desk.specs.Desks.{outscores, is_outscored, has_room, put_entry, with_queue}
use Rattle.path_desk.proofs.Lex.{less_cmp}
use Rattle.path_desk.proofs.OrderLemmas.{entry_lt, entries_ordered}
use Rattle.path_desk.proofs.QueueLemmas.{shed-snoc}

-- a greater score stands before
before_by_score : (x y : Queued) → x.entry.score < y.entry.score → entry_lt y x ≡ true
before_by_score x y l = let e = less_cmp x.entry.score y.entry.score l in rw e refl

less_by_test : (m n : ℕ) → nat_lt m n ≡ true → m < n
less_by_test m n e = grind (arith, nat_tests)

both : (a b : Bool) → (a && b) ≡ true → (a ≡ true) × (b ≡ true)
both true b h = (refl, h)
both false b h = cc

-- what holds of all holds of the last
all_last : {X : Type 0} (P : X → Type 0) (y : X) (ys : List X) → AllByRecursion P (y ∷ ys)
    → P (last_of y ys)
all_last P y [] a = a.0
all_last P y (z ∷ zs) a = all_last P z zs a.1

last_at : {X : Type 0} (y : X) (ys : List X) → slice_get (y ∷ ys) (length ys) ≡ Some (last_of y ys)
last_at y [] = refl
last_at y (z ∷ zs) = last_at z zs

last_got : {X : Type 0} (y : X) (ys : List X)
    → slice_get (y ∷ ys) (length (y ∷ ys) - 1) ≡ Some (last_of y ys)
last_got y ys =
    let m : length (y ∷ ys) - 1 ≡ length ys = omega arith in
    ap (λ k. slice_get (y ∷ ys) k) m ∙ last_at y ys

-- behind the last is behind all
put_in-behind : (x y : Queued) (ys : List Queued) → InOrder (y ∷ ys)
    → entry_lt (last_of y ys) x ≡ true → put_in entry_cmp x (y ∷ ys) ≡ (y ∷ ys) ++ x ∷ []
put_in-behind x y [] up h = rw h refl
put_in-behind x y (z ∷ zs) up h =
    let here : entry_lt y x ≡ true =
    at_most_below entry_lt entries_ordered y (last_of z zs) x
    (all_last (λ w. entry_lt w y ≡ false) z zs up.0) h in
    rw here (ap (λ ws. y ∷ ws) (put_in-behind x z zs up.1 h))

remembered : (x : Queued) (o : Option Queued) → outscores false x.entry.score o ≡ true
    → Some (first_of x o) ≡ o
remembered x None h = cc
remembered x (Some y) h =
    let before : entry_lt y x ≡ true =
    before_by_score x y (less_by_test x.entry.score y.entry.score h) in
    rw before refl

full-outscored : (x : Queued) (waiting : List Queued) (o : Option Queued) → InOrder waiting
    → is_outscored (queue waiting o) x.entry.score ≡ true
    → put_queued false x (queue waiting o) ≡ queue waiting o
full-outscored x [] o up h = ap (λ z. queue [] z) (remembered x o h)
full-outscored x (y ∷ ys) o up h =
    let last : Option Queued = slice_get (y ∷ ys) (length (y ∷ ys) - 1) in
    let two = both (outscores true x.entry.score last) (outscores false x.entry.score o) h in
    let over : outscores true x.entry.score (Some (last_of y ys)) ≡ true =
    ap (outscores true x.entry.score) (sym (last_got y ys)) ∙ two.0 in
    let behind : entry_lt (last_of y ys) x ≡ true =
    before_by_score x (last_of y ys)
    (less_by_test x.entry.score (last_of y ys).entry.score over) in
    ap (λ all. shed all o) (put_in-behind x y ys up behind)
    ∙ shed-snoc (y ∷ ys) x o
    ∙ ap (λ z. queue (y ∷ ys) z) (remembered x o two.1)

pub unchanged-outscored : (q : PlainQueue) (score : ℕ) (x : Queued) → x.entry.score ≡ score
    → InOrder q.waiting → is_outscored q score ≡ true → put_queued false x q ≡ q
unchanged-outscored q score x e up h =
    full-outscored x q.waiting q.dropped up
    (ap (λ s. is_outscored (queue q.waiting q.dropped) s) e ∙ h)

-- and so at a desk without room
pub unchanged-behind : (d : PlainDesk) (x : Queued) → has_room d ≡ false
    → put_queued false x (queue d.waiting d.dropped) ≡ queue d.waiting d.dropped
    → put_entry d x ≡ d
unchanged-behind d x full same =
    ap (λ b. with_queue d (put_queued b x (queue d.waiting d.dropped))) full
    ∙ ap (λ q. with_queue d q) same

-- from the clauses of both tests
pub unchanged-calls : (q : PlainQueue) (xs s : List Queued) (o p : Option Queued) (score : ℕ)
    (a b : Bool) → queue xs o ≡ q → InOrder xs → s ≡ xs → p ≡ o
    → a ≡ outscores true score (slice_get s (length s - 1)) → a ≡ true
    → b ≡ outscores false score p → b ≡ true → (entry : Entry) (bytes : List ℕ)
    → entry.score ≡ score → put_queued false (queued entry bytes) q ≡ q
unchanged-calls q xs s o p score a b view up same dropped is_a yes_a is_b yes_b entry bytes e =
    let last : outscores true score (slice_get xs (length xs - 1)) ≡ true =
    ap (λ zs. outscores true score (slice_get zs (length zs - 1))) (sym same) ∙ sym is_a ∙ yes_a in
    let first : outscores false score o ≡ true =
    ap (λ z. outscores false score z) (sym dropped) ∙ sym is_b ∙ yes_b in
    let all : is_outscored (queue xs o) score ≡ true =
    ap (λ z. z && outscores false score o) last ∙ first in
    ap (λ z. put_queued false (queued entry bytes) z) (sym view)
    ∙ unchanged-outscored (queue xs o) score (queued entry bytes) e up all ∙ view
