-- What suggestions have in their contexts: an entry over which another is kept doesn't come first,
-- since every boost is at least 1, and of one suggestion the greatest boost does.
use Rattle.std.proofs.Common.{◌≡◌, inl, inr, ℕ, ◌+◌, ◌*◌, ◌<◌, ◌≤◌, Bool, true, false}
use Rattle.std.proofs.Common.{List, [], ◌∷◌, map, Option, Some, None, refl}
use Rattle.std.proofs.Common.{sym, ap, ◌∙◌, arith, length, get_or, drop, drop-cons, add-one}
use Rattle.std.proofs.Math.Nat.{mul-le-mul_right}
use Rattle.std.specs.Prelude.{nat_eq, bytes_eq, filter_map, option_map, All}
use Rattle.std.specs.List.{starts_with}
use Rattle.std.specs.Ordering.{is_lt}
use Rattle.std.specs.Cmp.Lexicographic.{bytes_decides}
use Rattle.std.proofs.lemmas.List.{append-nil}
use Rattle.std.proofs.lemmas.List.Elements.{filter_map-append}
use Rattle.sg_base.specs.Ranking.{rank_cmp, rank_cmp_total}
use Rattle.sg_base.specs.declared.rank.Rank.{Rank}
use Rattle.sg_base.proofs.RankLemmas.{rank_cmp_exact}
use Rattle.sg_context.specs.Boosts.{IsBoost, boost_of}
use Rattle.sg_context.specs.Queries.{PlainQuery}
use Rattle.sg_context.proofs.BoostLemmas.{boost_of-IsBoost}
use Rattle.sg_paths.specs.Documents.{PlainSuggestion}
use Rattle.sg_paths.specs.Operations.{PlainNumbered}
use Rattle.sg_paths.specs.Paths.{PlainPath, distinct_texts, contexts_of, entries_from}
use Rattle.sg_paths.specs.Paths.{is_kept_over}
use Rattle.sg_paths.proofs.PathLemmas.{Wins, IsKeptOver, kept_over}
use Rattle.sg_answers.specs.Answers.{path_boost, path_rank, rank_with, first_rank, document_row}
use Rattle.sg_answers.specs.Scans.{sooner, given_contexts, greatest_boost, first_entry}
use Rattle.sg_answers.proofs.FirstLemmas.{soonest, Earlier, first-unbeaten, first-append}
use Rattle.sg_answers.proofs.FirstLemmas.{first-filter_map, soonest-repeat, sooner-assoc}
use Rattle.sg_answers.proofs.ScoreLemmas.{greater_first, earlier_place_first, with_boost}
use Rattle.sg_answers.proofs.ScoreLemmas.{greatest_first}

-- ---- entries of one context and key

-- with one boost the one that is kept stands first
wins_first : (seq boost : ℕ) (p q : PlainPath) → 1 ≤ boost → p.key ≡ q.key → Wins p q
    → is_lt (rank_cmp (rank_with seq p boost) (rank_with seq q boost)) ≡ true
wins_first seq boost p q least key (inl more) =
    let less : q.weight + 1 ≤ p.weight = omega arith in
    let score : q.weight * boost < p.weight * boost =
    omega (arith, mul-le-mul_right boost less) in
    greater_first (rank_with seq p boost) (rank_with seq q boost) score
wins_first seq boost p q least key (inr tie) =
    rw (key, tie.0) (earlier_place_first q.key seq (q.weight * boost) p.place q.place tie.1)

-- ---- boosts of paths

least_at : (query : PlainQuery) → All (λ c. IsBoost c.boost) query.contexts
    → (q : PlainPath) (boost : ℕ) (b : Bool) → starts_with nat_eq q.key query.prefix ≡ b
    → path_boost query q ≡ Some boost → 1 ≤ boost
least_at query boosts q boost true starts is =
    let some : boost_of query.contexts q.context ≡ Some boost = rw starts at is in
    let limits = boost_of-IsBoost query.contexts q.context boosts in
    let at_boost : IsBoost boost = rw some at limits in
    at_boost.least
least_at query boosts q boost false starts is =
    absurd (let no : None ≡ Some boost = rw starts at is in cc)

earlier_at : (query : PlainQuery) (seq : ℕ) → All (λ c. IsBoost c.boost) query.contexts
    → (p q : PlainPath) → IsKeptOver p q → (r : Rank) (o : Option ℕ) → path_boost query q ≡ o
    → path_rank query seq q ≡ Some r
    → (w : Rank) × (path_rank query seq p ≡ Some w) × (is_lt (rank_cmp w r) ≡ true)
earlier_at query seq boosts p q kept r None at is =
    absurd (let no : None ≡ Some r = rw at at is in cc)
earlier_at query seq boosts p q kept r (Some boost) at is =
    let least = least_at query boosts q boost (starts_with nat_eq q.key query.prefix) refl at in
    let same : path_boost query p ≡ Some boost = rw (kept.context, kept.key) at in
    let here : Some (rank_with seq q boost) ≡ Some r = rw at at is in
    let e : rank_with seq q boost ≡ r = cc in (
      rank_with seq p boost,
      ap (option_map (rank_with seq p)) same,
      rw (← e) (wins_first seq boost p q least kept.key kept.wins),
    )

earlier : (query : PlainQuery) (seq : ℕ) → All (λ c. IsBoost c.boost) query.contexts
    → Earlier rank_cmp (path_rank query seq) is_kept_over
earlier query seq boosts p q kept r is =
    earlier_at query seq boosts p q (kept_over p q kept) r (path_boost query q) refl is

-- the first of all entries is the first of the paths
pub first_entry-row : (query : PlainQuery) (d : PlainNumbered)
    → All (λ c. IsBoost c.boost) query.contexts
    → first_entry query d.seq 0 d.document.suggestions ≡ document_row query d
first_entry-row query d boosts =
    sym (first-unbeaten rank_cmp rank_cmp_total rank_cmp_exact (path_rank query d.seq) is_kept_over
    (earlier query d.seq boosts) (entries_from 0 d.document.suggestions))

-- ---- entries of one suggestion

abbrev entry : ℕ → PlainSuggestion → List ℕ → PlainPath
entry place s text = record { context = text; key = s.key; weight = s.weight; place = place }

soonest-map : {T : Type 0} (h : PlainPath → Option Rank) (f : T → PlainPath) (ts : List T)
    → soonest rank_cmp h (map f ts) ≡ soonest rank_cmp (λ t. h (f t)) ts
soonest-map h f [] = refl
soonest-map h f (t ∷ ts) = ap (sooner rank_cmp (h (f t))) (soonest-map h f ts)

soonest-distinct : (h : List ℕ → Option Rank) (texts : List (List ℕ))
    → soonest rank_cmp h (distinct_texts texts) ≡ soonest rank_cmp h texts
soonest-distinct h [] = refl
soonest-distinct h (text ∷ texts) =
    soonest-repeat rank_cmp rank_cmp_total rank_cmp_exact h (λ other. bytes_eq other text) text
    (λ other same. ap h ((bytes_decides other text).0 same)) (distinct_texts texts)
    ∙ ap (sooner rank_cmp (h text)) (soonest-distinct h texts)

soonest-given : (h : List ℕ → Option Rank) (texts : List (List ℕ))
    → soonest rank_cmp h (contexts_of texts) ≡ soonest rank_cmp h (given_contexts texts)
soonest-given h [] = refl
soonest-given h (text ∷ texts) = soonest-distinct h (text ∷ texts)

-- the first of them by the contexts as they are given
by_contexts : (query : PlainQuery) (seq place : ℕ) (s : PlainSuggestion)
    → first_entry query seq place (s ∷ [])
    ≡ soonest rank_cmp (λ text. path_rank query seq (entry place s text))
    (given_contexts s.contexts)
by_contexts query seq place s =
    let entries = map (entry place s) (contexts_of s.contexts) in
    ap (λ es. first_rank (filter_map (path_rank query seq) es)) (append-nil entries)
    ∙ first-filter_map rank_cmp rank_cmp_total rank_cmp_exact (path_rank query seq) entries
    ∙ soonest-map (path_rank query seq) (entry place s) (contexts_of s.contexts)
    ∙ soonest-given (λ text. path_rank query seq (entry place s text)) s.contexts

-- of a suggestion whose key matches, the greatest boost stands first
pub first_entry-matching : (query : PlainQuery) (seq place : ℕ) (s : PlainSuggestion)
    (boost : Option ℕ) → starts_with nat_eq s.key query.prefix ≡ true
    → greatest_boost query.contexts (given_contexts s.contexts) ≡ boost
    → first_entry query seq place (s ∷ []) ≡ option_map (with_boost s.key seq place s.weight) boost
first_entry-matching query seq place s boost starts is =
    by_contexts query seq place s
    ∙ rw starts (greatest_first (boost_of query.contexts) s.key seq place s.weight
    (given_contexts s.contexts))
    ∙ ap (option_map (with_boost s.key seq place s.weight)) is

none_of : (ts : List (List ℕ)) → soonest rank_cmp (λ _. None) ts ≡ None
none_of [] = refl
none_of (t ∷ ts) = none_of ts

-- of one whose key doesn't, nothing does
pub first_entry-other : (query : PlainQuery) (seq place : ℕ) (s : PlainSuggestion)
    → starts_with nat_eq s.key query.prefix ≡ false → first_entry query seq place (s ∷ []) ≡ None
first_entry-other query seq place s starts =
    by_contexts query seq place s ∙ rw starts (none_of (given_contexts s.contexts))

-- ---- of several suggestions

-- one suggestion, and those behind it
pub first_entry-cons : (query : PlainQuery) (seq place : ℕ) (s : PlainSuggestion)
    (later : List PlainSuggestion) → first_entry query seq place (s ∷ later)
    ≡ sooner rank_cmp (first_entry query seq place (s ∷ []))
    (first_entry query seq (place + 1) later)
first_entry-cons query seq place s later =
    let h = path_rank query seq in
    let here = map (entry place s) (contexts_of s.contexts) in
    ap first_rank (filter_map-append h here (entries_from (place + 1) later))
    ∙ first-append rank_cmp rank_cmp_total rank_cmp_exact (filter_map h here)
    (filter_map h (entries_from (place + 1) later))
    ∙ ap (λ es. sooner rank_cmp (first_rank (filter_map h es))
    (first_entry query seq (place + 1) later)) (sym (append-nil here))

-- the first of the suggestions up to here and of those that are left, one suggestion further
pub first_entry-step : (query : PlainQuery) (seq place i : ℕ) (all : List PlainSuggestion)
    (s : PlainSuggestion) (best one joined whole : Option Rank) → i < length all
    → s ≡ get_or all i s → one ≡ first_entry query seq place (s ∷ [])
    → joined ≡ sooner rank_cmp best one
    → sooner rank_cmp best (first_entry query seq place (drop i all)) ≡ whole
    → sooner rank_cmp joined (first_entry query seq (place + 1) (drop (i + 1) all)) ≡ whole
first_entry-step query seq place i all s best one joined whole within is one-is joined-is so_far =
    let rest = first_entry query seq (place + 1) (drop (i + 1) all) in
    let split : drop i all ≡ get_or all i s ∷ drop (i + 1) all =
    rw (add-one, drop-cons all i s) refl in
    let left : first_entry query seq place (drop i all) ≡ sooner rank_cmp one rest =
    ap (first_entry query seq place) (split ∙ ap (λ v. v ∷ drop (i + 1) all) (sym is))
    ∙ first_entry-cons query seq place s (drop (i + 1) all)
    ∙ ap (λ o. sooner rank_cmp o rest) (sym one-is) in
    ap (λ o. sooner rank_cmp o rest) joined-is
    ∙ sooner-assoc rank_cmp rank_cmp_total rank_cmp_exact best one rest
    ∙ ap (sooner rank_cmp best) (sym left)
    ∙ so_far
