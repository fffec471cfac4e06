-- The documents of generations, where merges begin and end.
use Rattle.std.proofs.Common.{◌≡◌, ◌<◌, ℕ, Bool, true, false, cond, nat_eq}
use Rattle.std.proofs.Common.{◌&&◌, ◌||◌, List, [], ◌∷◌, ◌++◌, refl, ap, ◌∙◌}
use Rattle.std.proofs.Common.{arith, Some, None}
use Rattle.std.specs.Prelude.{filter, fold, nat_le}
use Rattle.std.specs.List.{AllByRecursion, list_any}
use Rattle.std.proofs.lemmas.Bool.Decides.{nat_tests}
use Rattle.std.proofs.lemmas.List.{append-nil}
use Rattle.std.proofs.lemmas.List.Elements.{filter-append, filter_agree}
use Rattle.std.proofs.lemmas.List.Sums.{fold-append}
use Rattle.sg_paths.specs.Operations.{PlainNumbered, documents_from}
use Rattle.index_core.specs.Histories.{HistoryEvent, accept, freeze, begin, built}
use Rattle.index_core.specs.Histories.{live_docs_updated, merge_begin, merge_end, merge_drop}
use Rattle.index_core.specs.Histories.{view_end, Record, Merge, is_among, drawn_generation}
use Rattle.index_core.specs.Histories as events
use Rattle.index_core.specs.Records.{with_event, next_merge, begun_merges}
use Rattle.index_core.specs.Generations.{merges_of, is_kept_by, holders_after, holders_of}
use Rattle.index_core.specs.EndedMerges.{IsOfKnownMerge, HasKnownMerges, BeginsNextMerge}
use Rattle.index_core.specs.EndedMerges.{GenerationsStay, IsBegunMerge, EndedMergesBring}
use Rattle.index_core.proofs.EventLemmas.{begun_by, frozen_after, merges-more}
use Rattle.index_core.proofs.GenerationLemmas.{among_other, among_itself}

pub or_none : (b : Bool) → (b || false) ≡ b
or_none true = refl
or_none false = refl

-- ---- the merges of a number

-- of a merge that was begun before, nothing more
none_begun : (n k : ℕ) (r : Record) (e : HistoryEvent) → BeginsNextMerge r e
    → k < next_merge r → filter (λ m. nat_eq m.merge k) (begun_by n e) ≡ []
none_begun n k r (accept a b) next less = refl
none_begun n k r (freeze a b f u) next less = refl
none_begun n k r (begin a b u gs) next less = refl
none_begun n k r (built a b) next less = refl
none_begun n k r (live_docs_updated a b d) next less = refl
none_begun n k r (merge_begin a b gs) next less =
    let other : nat_eq b k ≡ false = grind (arith, nat_tests, less, next) in rw other refl
none_begun n k r (merge_end a b i gone) next less = refl
none_begun n k r (merge_drop a b) next less = refl
none_begun n k r (view_end a b gone) next less = refl

pub merges_stay : (r : Record) (e : HistoryEvent) (k : ℕ) → BeginsNextMerge r e
    → k < next_merge r → merges_of (with_event r e) k ≡ merges_of r k
merges_stay r e k next less =
    ap (filter (λ m. nat_eq m.merge k)) (merges-more 0 r.history e)
    ∙ filter-append (λ m. nat_eq m.merge k) (begun_merges r)
    (begun_by (frozen_after 0 r.history) e)
    ∙ ap (λ (ms : List Merge). merges_of r k ++ ms)
    (none_begun (frozen_after 0 r.history) k r e next less)
    ∙ append-nil (merges_of r k)

-- ---- the holders of a document

module _ (r : Record) (e : HistoryEvent) (known : HasKnownMerges r) (next : BeginsNextMerge r e)
  where
    abbrev r' : Record
    r' = with_event r e

    holders_same : (d : PlainNumbered) (gens : List ℕ) (x : HistoryEvent)
        → IsOfKnownMerge (next_merge r) x → holders_after r' d gens x ≡ holders_after r d gens x
    holders_same d gens (accept a b) of = refl
    holders_same d gens (freeze a b f u) of = refl
    holders_same d gens (begin a b u gs) of = refl
    holders_same d gens (built a b) of = refl
    holders_same d gens (live_docs_updated a b c) of = refl
    holders_same d gens (merge_begin a b gs) of = refl
    holders_same d gens (merge_end a b None gone) of = refl
    holders_same d gens (merge_end a b (Some into) gone) of =
        ap (λ (ms : List Merge). cond (list_any (is_kept_by r.journal d gens) ms)
        (gens ++ into ∷ []) gens) (merges_stay r e b next of)
    holders_same d gens (merge_drop a b) of = refl
    holders_same d gens (view_end a b gone) of = refl

    fold_same : (d : PlainNumbered) (h : List HistoryEvent) (gens : List ℕ)
        → AllByRecursion (IsOfKnownMerge (next_merge r)) h
        → fold (holders_after r' d) gens h ≡ fold (holders_after r d) gens h
    fold_same d [] gens of = refl
    fold_same d (x ∷ h) gens of =
        ap (λ (gs : List ℕ). fold (holders_after r' d) gs h) (holders_same d gens x of.0)
        ∙ fold_same d h (holders_after r d gens x) of.1

    pub holders_next : (d : PlainNumbered)
        → holders_of r' d ≡ holders_after r' d (holders_of r d) e
    holders_next d =
        fold-append (holders_after r' d) [] r.history (e ∷ [])
        ∙ ap (λ (gs : List ℕ). holders_after r' d gs e) (fold_same d r.history [] known)

-- ---- another generation

other_at : (g x : ℕ) (b : Bool) (gens : List ℕ) → (Some x ≡ Some g → ⊥)
    → is_among g (cond b (gens ++ x ∷ []) gens) ≡ is_among g gens
other_at g x true gens other = among_other g x gens (by_test (nat_eq g x) refl)
  where
    by_test : (b : Bool) → nat_eq g x ≡ b → nat_eq g x ≡ false
    by_test true is =
        absurd (other (ap Some (let same : x ≡ g = grind (arith, nat_tests, is) in same)))
    by_test false is = is
other_at g x false gens other = refl

pub not_drawn : (r : Record) (e : HistoryEvent) (d : PlainNumbered) (gens : List ℕ) (g : ℕ)
    → (drawn_generation e ≡ Some g → ⊥)
    → is_among g (holders_after r d gens e) ≡ is_among g gens
not_drawn r (accept a b) d gens g other = refl
not_drawn r (freeze a x f u) d gens g other =
    other_at g x (nat_le f d.seq && nat_le d.seq u) gens other
not_drawn r (begin a b u gs) d gens g other = refl
not_drawn r (built a b) d gens g other = refl
not_drawn r (live_docs_updated a b c) d gens g other = refl
not_drawn r (merge_begin a b gs) d gens g other = refl
not_drawn r (merge_end a b None gone) d gens g other = refl
not_drawn r (merge_end a b (Some into) gone) d gens g other =
    other_at g into (list_any (is_kept_by r.journal d gens) (merges_of r b)) gens other
not_drawn r (merge_drop a b) d gens g other = refl
not_drawn r (view_end a b gone) d gens g other = refl

pub stay : GenerationsStay
stay r e g known next other =
    filter_agree (λ d. is_among g (holders_of (with_event r e) d))
    (λ d. is_among g (holders_of r d))
    (λ d. ap (is_among g) (holders_next r e known next d)
    ∙ not_drawn (with_event r e) e d (holders_of r d) g other) (documents_from 1 r.journal)

-- ---- the generation that a merge brings

-- generations that weren't drawn hold nothing
new_at : (g x : ℕ) (b : Bool) (gens : List ℕ) → x < g → is_among g gens ≡ false
    → is_among g (cond b (gens ++ x ∷ []) gens) ≡ false
new_at g x true gens less out =
    let other : nat_eq g x ≡ false = grind (arith, nat_tests, less) in
    among_other g x gens other ∙ out
new_at g x false gens less out = out

not_held_from : (r : Record) (g : ℕ) (d : PlainNumbered) (h : List HistoryEvent) (gens : List ℕ)
    → AllByRecursion (λ x. x < g) (events.drawn h) → is_among g gens ≡ false
    → is_among g (fold (holders_after r d) gens h) ≡ false
not_held_from r g d [] gens less out = out
not_held_from r g d (accept c q ∷ h) gens less out = not_held_from r g d h gens less out
not_held_from r g d (freeze c x f u ∷ h) gens less out =
    not_held_from r g d h (cond (nat_le f d.seq && nat_le d.seq u) (gens ++ x ∷ []) gens) less.1
    (new_at g x (nat_le f d.seq && nat_le d.seq u) gens less.0 out)
not_held_from r g d (begin c v u gs ∷ h) gens less out = not_held_from r g d h gens less out
not_held_from r g d (built c x ∷ h) gens less out = not_held_from r g d h gens less out
not_held_from r g d (live_docs_updated c x a ∷ h) gens less out =
    not_held_from r g d h gens less out
not_held_from r g d (merge_begin c m gs ∷ h) gens less out = not_held_from r g d h gens less out
not_held_from r g d (merge_end c m None gone ∷ h) gens less out =
    not_held_from r g d h gens less out
not_held_from r g d (merge_end c m (Some into) gone ∷ h) gens less out =
    let b = list_any (is_kept_by r.journal d gens) (merges_of r m) in
    not_held_from r g d h (cond b (gens ++ into ∷ []) gens) less.1
    (new_at g into b gens less.0 out)
not_held_from r g d (merge_drop c m ∷ h) gens less out = not_held_from r g d h gens less out
not_held_from r g d (view_end c v gone ∷ h) gens less out = not_held_from r g d h gens less out

pub not_held : (r : Record) (g : ℕ) (d : PlainNumbered)
    → AllByRecursion (λ x. x < g) (events.drawn r.history)
    → is_among g (holders_of r d) ≡ false
not_held r g d less = not_held_from r g d r.history [] less refl

brought_at : (g : ℕ) (b : Bool) (gens : List ℕ) → is_among g gens ≡ false
    → is_among g (cond b (gens ++ g ∷ []) gens) ≡ b
brought_at g true gens out = among_itself g gens
brought_at g false gens out = out

-- it holds a document exactly where the merge keeps it
pub brought_holds : (r : Record) (caller : ℕ) (m : Merge) (into : ℕ) (gone : List ℕ)
    (d : PlainNumbered) → IsBegunMerge r m into
    → is_among into (holders_of (with_event r (merge_end caller m.merge (Some into) gone)) d)
    ≡ is_kept_by r.journal d (holders_of r d) m
brought_holds r caller m into gone d is =
    let e = merge_end caller m.merge (Some into) gone in
    ap (is_among into) (holders_next r e is.known tt d)
    ∙ brought_at into
    (list_any (is_kept_by r.journal d (holders_of r d)) (merges_of (with_event r e) m.merge))
    (holders_of r d) (not_held r into d is.greater)
    ∙ ap (λ (ms : List Merge). list_any (is_kept_by r.journal d (holders_of r d)) ms)
    (merges_stay r e m.merge tt is.before ∙ is.alone)
    ∙ or_none (is_kept_by r.journal d (holders_of r d) m)

pub bring : EndedMergesBring
bring r caller m into gone is =
    filter_agree
    (λ d. is_among into (holders_of (with_event r (merge_end caller m.merge (Some into) gone)) d))
    (λ d. is_kept_by r.journal d (holders_of r d) m)
    (λ d. brought_holds r caller m into gone d is) (documents_from 1 r.journal)
