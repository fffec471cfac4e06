-- The open merges, and what they hold, after a merge has begun or ended.
use Rattle.std.proofs.Common.{◌≡◌, ℕ, Bool, true, false, cond, not, nat_eq, ◌&&◌, ◌||◌}
use Rattle.std.proofs.Common.{List, [], ◌∷◌, ◌++◌, refl, sym, ap, ◌∙◌}
use Rattle.std.specs.Prelude.{filter}
use Rattle.std.specs.List.{filter_map}
use Rattle.std.proofs.lemmas.List.{append-nil}
use Rattle.std.proofs.lemmas.List.Elements.{filter_map-append, filter-append, filter_agree}
use Rattle.std.proofs.lemmas.List.Folds.{list_any-append}
use Rattle.index_core.specs.Histories.{HistoryEvent, merge_begin, Merge, is_among, begun_merges}
use Rattle.index_core.specs.Histories.{closed_merge, ended_merge, open_merges, replaced, current}
use Rattle.index_core.specs.Histories.{drawn_generation}
use Rattle.index_core.specs.MergeCalls.{without_merge}
use Rattle.index_core.proofs.EventLemmas.{begun_by, frozen_after, merges-more, merges-skip}
use Rattle.index_core.proofs.HistoryLemmas.{skips}

-- ---- a merge begins

-- the merge that begins next
abbrev pub new_merge : List HistoryEvent → ℕ → ℕ → List ℕ → Merge
new_merge h caller number generations = record {
  caller = caller;
  merge = number;
  upto = frozen_after 0 h;
  generations = generations;
}

pub begun_merges-begin : (h : List HistoryEvent) (caller n : ℕ) (gens : List ℕ)
    → begun_merges (h ++ merge_begin caller n gens ∷ [])
    ≡ begun_merges h ++ new_merge h caller n gens ∷ []
begun_merges-begin h caller n gens = merges-more 0 h (merge_begin caller n gens)

pub open_merges-begin : (h : List HistoryEvent) (caller n : ℕ) (gens : List ℕ)
    → is_among n (filter_map closed_merge h) ≡ false
    → open_merges (h ++ merge_begin caller n gens ∷ [])
    ≡ open_merges h ++ new_merge h caller n gens ∷ []
open_merges-begin h caller n gens new =
    let still : Merge → Bool = λ m. not (is_among m.merge (filter_map closed_merge h)) in
    rw (skips closed_merge h (merge_begin caller n gens) refl)
    (rw (begun_merges-begin h caller n gens)
    (filter-append still (begun_merges h) (new_merge h caller n gens ∷ []) ∙ rw new refl))

-- it replaces nothing yet
pub replaced-begin : (h : List HistoryEvent) (caller n : ℕ) (gens : List ℕ)
    → is_among n (filter_map ended_merge h) ≡ false
    → replaced (h ++ merge_begin caller n gens ∷ []) ≡ replaced h
replaced-begin h caller n gens new =
    let out : Merge → Bool = λ m. is_among m.merge (filter_map ended_merge h) in
    rw (skips ended_merge h (merge_begin caller n gens) refl)
    (rw (begun_merges-begin h caller n gens)
    (rw (filter-append out (begun_merges h) (new_merge h caller n gens ∷ []))
    (rw new (rw (append-nil (filter out (begun_merges h))) refl))))

pub current-begin : (h : List HistoryEvent) (caller n : ℕ) (gens : List ℕ)
    → is_among n (filter_map ended_merge h) ≡ false
    → current (h ++ merge_begin caller n gens ∷ []) ≡ current h
current-begin h caller n gens new =
    rw (
      replaced-begin h caller n gens new,
      skips drawn_generation h (merge_begin caller n gens) refl,
    ) refl

-- ---- a merge ends

filter_twice : (p q : Merge → Bool) (ms : List Merge)
    → filter q (filter p ms) ≡ filter (λ m. p m && q m) ms
filter_twice p q [] = refl
filter_twice p q (m ∷ ms) = by_test (p m) (filter_twice p q ms)
  where
    by_test : (b : Bool) → filter q (filter p ms) ≡ filter (λ x. p x && q x) ms
        → filter q (cond b (m ∷ filter p ms) (filter p ms))
        ≡ cond (b && q m) (m ∷ filter (λ x. p x && q x) ms) (filter (λ x. p x && q x) ms)
    by_test true e = ap (λ (xs : List Merge). cond (q m) (m ∷ xs) xs) e
    by_test false e = e

not_either : (a b : Bool) → not (a || (b || false)) ≡ (not a && not b)
not_either true b = refl
not_either false true = refl
not_either false false = refl

-- an event that ends or drops a merge
pub open_merges-close : (h : List HistoryEvent) (e : HistoryEvent) (n : ℕ)
    → ((k : ℕ) → begun_by k e ≡ []) → filter_map closed_merge (e ∷ []) ≡ n ∷ []
    → open_merges (h ++ e ∷ []) ≡ without_merge n (open_merges h)
open_merges-close h e n none closes =
    let closed = filter_map closed_merge h in
    ap (λ (ms : List Merge).
    filter (λ m. not (is_among m.merge (filter_map closed_merge (h ++ e ∷ [])))) ms)
    (merges-skip h e none)
    ∙ ap (λ (ns : List ℕ). filter (λ m. not (is_among m.merge ns)) (begun_merges h))
    (filter_map-append closed_merge h (e ∷ []) ∙ ap (λ (ns : List ℕ). closed ++ ns) closes)
    ∙ filter_agree (λ m. not (is_among m.merge (closed ++ n ∷ [])))
    (λ m. not (is_among m.merge closed) && not (nat_eq m.merge n))
    (λ m. ap not (list_any-append (nat_eq m.merge) closed (n ∷ []))
    ∙ not_either (is_among m.merge closed) (nat_eq m.merge n)) (begun_merges h)
    ∙ sym (filter_twice (λ m. not (is_among m.merge closed)) (λ m. not (nat_eq m.merge n))
    (begun_merges h))
