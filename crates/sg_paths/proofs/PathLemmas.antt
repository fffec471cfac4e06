-- The paths of a document: no two have one context and key, and each entry has one that isn't worse.
use Rattle.std.proofs.Common.{◌≡◌, ◌≢◌, ◌⊎◌, inl, inr, ℕ, ◌+◌, ◌<◌, ◌≤◌, Bool, true, false, not}
use Rattle.std.proofs.Common.{◌&&◌, ◌||◌, List, [], ◌∷◌, ◌++◌, map, length, get_or, refl, sym, ap}
use Rattle.std.proofs.Common.{◌∙◌, arith, suc, ⊎_elim}
use Rattle.std.specs.Prelude.{nat_eq, nat_lt, bytes_eq, filter, All, Contains}
use Rattle.std.specs.List.{list_any, AllPairs}
use Rattle.std.specs.Cmp.Lexicographic.{bytes_decides}
use Rattle.std.proofs.lemmas.Bool.{ltb-true, eqb-true, lt-ltb, cases_lt}
use Rattle.std.proofs.lemmas.Bool.Decides.{nat_tests}
use Rattle.std.proofs.lemmas.List.Elements.{All-nil, All-cons, All-head, All-tail, All-append}
use Rattle.std.proofs.lemmas.List.Elements.{All-map, All-weaker, All-filter, All-contains}
use Rattle.std.proofs.lemmas.List.Elements.{All-contains_itself, Contains-append_right}
use Rattle.std.proofs.lemmas.List.Elements.{filter_passes}
use Rattle.std.proofs.lemmas.List.Folds.{list_any_none, list_any-from_Any}
use Rattle.std.proofs.lemmas.List.Kept.{AllPairs-cons, AllPairs-filter}
use Rattle.sg_paths.specs.Documents.{PlainSuggestion}
use Rattle.sg_paths.specs.Paths.{PlainPath, distinct_texts, contexts_of, entries_from, is_kept_over}
use Rattle.sg_paths.specs.Paths.{paths, IsNoWorse, EachPairHasOnePath, EachEntryHasAPath}

-- ---- which entry is kept over which

-- a greater weight, or an earlier place at the same weight
abbrev pub Wins : PlainPath → PlainPath → Type 0
Wins p q = (q.weight < p.weight) ⊎ ((p.weight ≡ q.weight) × (p.place < q.place))

pub record IsKeptOver (p q : PlainPath) : Type 0 where
  pub context : p.context ≡ q.context
  pub key : p.key ≡ q.key
  pub wins : Wins p q

wins : (p q : PlainPath) (more same less : Bool) → nat_lt q.weight p.weight ≡ more
    → nat_eq p.weight q.weight ≡ same → nat_lt p.place q.place ≡ less
    → (more || (same && less)) ≡ true → Wins p q
wins p q true same less is-more is-same is-less is = inl (ltb-true q.weight p.weight is-more)
wins p q false true true is-more is-same is-less is =
    inr (eqb-true p.weight q.weight is-same, ltb-true p.place q.place is-less)
wins p q false true false is-more is-same is-less is = cc
wins p q false false less is-more is-same is-less is = cc

kept_at : (p q : PlainPath) (context key won : Bool) → bytes_eq p.context q.context ≡ context
    → bytes_eq p.key q.key ≡ key → (won ≡ true → Wins p q)
    → (context && key && won) ≡ true → IsKeptOver p q
kept_at p q true true true is-context is-key wins is = record {
  context = (bytes_decides p.context q.context).0 is-context;
  key = (bytes_decides p.key q.key).0 is-key;
  wins = wins refl;
}
kept_at p q true true false is-context is-key wins is = cc
kept_at p q true false won is-context is-key wins is = cc
kept_at p q false key won is-context is-key wins is = cc

-- what the test says
pub kept_over : (p q : PlainPath) → is_kept_over p q ≡ true → IsKeptOver p q
kept_over p q is =
    kept_at p q _ _ _ refl refl (wins p q _ _ _ refl refl refl) is

won : (p q : PlainPath) → Wins p q
    → (nat_lt q.weight p.weight || (nat_eq p.weight q.weight && nat_lt p.place q.place)) ≡ true
won p q (inl more) = rw (lt-ltb q.weight p.weight more) refl
won p q (inr tie) = grind (arith, nat_tests, tie.0, tie.1)

-- and where it says so
over_kept : (p q : PlainPath) → IsKeptOver p q → is_kept_over p q ≡ true
over_kept p q kept =
    rw ((bytes_decides p.context q.context).1 kept.context, (bytes_decides p.key q.key).1 kept.key)
    (won p q kept.wins)

never : (p q : PlainPath) → is_kept_over p q ≡ false → p.context ≡ q.context → p.key ≡ q.key
    → Wins p q → ⊥
never p q is context key wins =
    let yes = over_kept p q (record { context = context; key = key; wins = wins }) in
    let no : true ≡ false = sym yes ∙ is in cc

wins_more : (z y p : PlainPath) → Wins z y → Wins y p → Wins z p
wins_more z y p (inl a) (inl b) = inl (omega (arith, a, b))
wins_more z y p (inl a) (inr b) = inl (omega (arith, a, b.0))
wins_more z y p (inr a) (inl b) = inl (omega (arith, a.0, b))
wins_more z y p (inr a) (inr b) = inr (a.0 ∙ b.0, omega (arith, a.1, b.1))

not_itself : (y : PlainPath) → Wins y y → ⊥
not_itself y (inl less) = omega arith
not_itself y (inr tie) = let less = tie.1 in omega (arith, less)

not_over_itself : (y : PlainPath) (b : Bool) → is_kept_over y y ≡ b → is_kept_over y y ≡ false
not_over_itself y true is = absurd (not_itself y ((kept_over y y is).wins))
not_over_itself y false is = is

-- what isn't kept over one isn't kept over what is kept over that
not_before : (z y p : PlainPath) → is_kept_over y p ≡ true → is_kept_over z p ≡ false
    → (b : Bool) → is_kept_over z y ≡ b → is_kept_over z y ≡ false
not_before z y p over none true is =
    let first = kept_over z y is in
    let second = kept_over y p over in
    absurd (never z p none (first.context ∙ second.context) (first.key ∙ second.key)
    (wins_more z y p first.wins second.wins))
not_before z y p over none false is = is

-- ---- each entry has a path that isn't worse

-- an item that passes a test stays
passes_at : {Y : Type 0} (keep : Y → Bool) (y : Y) (ys : List Y) (b : Bool) → keep y ≡ b
    → All (λ z. keep z ≡ true → Contains (filter keep ys) z) ys
    → All (λ z. keep z ≡ true → Contains (filter keep (y ∷ ys)) z) (y ∷ ys)
passes_at {Y} keep y ys true is later =
    let stay = filter keep ys in
    rw is (All-cons (λ z. keep z ≡ true → Contains (y ∷ stay) z) y ys
    (λ _. (0, omega arith, refl))
    (All-weaker (λ z. keep z ≡ true → Contains stay z)
    (λ z. keep z ≡ true → Contains (y ∷ stay) z)
    (λ z there passes. Contains-append_right (y ∷ []) stay z (there passes)) ys later))
passes_at {Y} keep y ys false is later =
    rw is (All-cons (λ z. keep z ≡ true → Contains (filter keep ys) z) y ys
    (λ passes. absurd (let no : false ≡ true = sym is ∙ passes in cc))
    later)

pub passes : {Y : Type 0} (keep : Y → Bool) (ys : List Y)
    → All (λ z. keep z ≡ true → Contains (filter keep ys) z) ys
passes keep [] = All-nil (λ z. keep z ≡ true → Contains (filter keep []) z)
passes keep (y ∷ ys) = passes_at keep y ys (keep y) refl (passes keep ys)

-- one of all entries that isn't worse than q, and over which none of some is kept
record IsBest (all ys : List PlainPath) (q p : PlainPath) : Type 0 where
  there : Contains all p
  no_worse : IsNoWorse p q
  unbeaten : All (λ z. is_kept_over z p ≡ false) ys

no_worse-place : (y p q : PlainPath) → Wins y p → IsNoWorse p q → y.weight ≡ q.weight
    → y.place ≤ q.place
no_worse-place y p q (inl more) no_worse same =
    absurd (omega (arith, more, no_worse.weight, same))
no_worse-place y p q (inr tie) no_worse same =
    let place : p.place ≤ q.place = no_worse.place (sym tie.0 ∙ same) in
    omega (arith, tie.1, place)

no_worse-weight : (y p q : PlainPath) → Wins y p → IsNoWorse p q → q.weight ≤ y.weight
no_worse-weight y p q (inl more) no_worse = omega (arith, more, no_worse.weight)
no_worse-weight y p q (inr tie) no_worse = omega (arith, tie.0, no_worse.weight)

better : (y p q : PlainPath) → IsKeptOver y p → IsNoWorse p q → IsNoWorse y q
better y p q kept no_worse = record {
  context = kept.context ∙ no_worse.context;
  key = kept.key ∙ no_worse.key;
  weight = no_worse-weight y p q kept.wins no_worse;
  place = no_worse-place y p q kept.wins no_worse;
}

best_with : (all : List PlainPath) (q y : PlainPath) (ys : List PlainPath) → Contains all y
    → (p : PlainPath) → IsBest all ys q p → (b : Bool) → is_kept_over y p ≡ b
    → (r : PlainPath) × IsBest all (y ∷ ys) q r
best_with all q y ys there p best false is = (
  p,
  record {
    there = best.there;
    no_worse = best.no_worse;
    unbeaten = All-cons (λ z. is_kept_over z p ≡ false) y ys is best.unbeaten;
  },
)
best_with all q y ys there p best true is = (
  y,
  record {
    there = there;
    no_worse = better y p q (kept_over y p is) best.no_worse;
    unbeaten = All-cons (λ z. is_kept_over z y ≡ false) y ys (not_over_itself y _ refl)
        (All-weaker (λ z. is_kept_over z p ≡ false) (λ z. is_kept_over z y ≡ false)
        (λ z none. not_before z y p is none _ refl) ys best.unbeaten);
  },
)

best : (all : List PlainPath) (q : PlainPath) → Contains all q → (ys : List PlainPath)
    → All (Contains all) ys → (p : PlainPath) × IsBest all ys q p
best all q there [] within = (
  q,
  record {
    there = there;
    no_worse = record { context = refl; key = refl; weight = omega arith; place = λ _. omega arith };
    unbeaten = All-nil (λ z. is_kept_over z q ≡ false);
  },
)
best all q there (y ∷ ys) within =
    let so_far = best all q there ys (All-tail (Contains all) y ys within) in
    best_with all q y ys (All-head (Contains all) y ys within) so_far.0 so_far.1
    (is_kept_over y so_far.0) refl

-- whether none of the entries is kept over it
abbrev unbeaten : List PlainPath → PlainPath → Bool
unbeaten entries q = not (list_any (λ p. is_kept_over p q) entries)

pub entry_has_path : EachEntryHasAPath
entry_has_path d q there =
    let entries = entries_from 0 d.suggestions in
    let found = best entries q there entries (All-contains_itself entries) in
    let p = found.0 in
    let stays : unbeaten entries p ≡ true =
    ap not (list_any_none (λ z. is_kept_over z p) entries found.1.unbeaten) in
    let kept : Contains (paths d) p =
    All-contains (λ z. unbeaten entries z ≡ true → Contains (filter (unbeaten entries) entries) z)
    entries p (passes (unbeaten entries) entries) found.1.there stays in
    (kept.0, p, kept.1, kept.2, found.1.no_worse)

-- ---- no two paths have one context and key

-- two entries of another context or another place
abbrev Unlike : PlainPath → PlainPath → Type 0
Unlike p q = p.context ≡ q.context → p.place ≡ q.place → ⊥

distinct : (texts : List (List ℕ)) → AllPairs (λ a b. a ≢ b) (distinct_texts texts)
distinct [] = λ i j d before within. absurd (omega arith)
distinct (text ∷ texts) =
    let again : List ℕ → Bool = λ other. not (bytes_eq other text) in
    AllPairs-cons (λ a b. a ≢ b) text (filter again (distinct_texts texts))
    (All-weaker (λ other. again other ≡ true) (λ other. text ≢ other)
    (λ other passes same.
    let equal : bytes_eq other text ≡ true = (bytes_decides other text).1 (sym same) in
    let no : false ≡ true = rw equal at passes in cc)
    (filter again (distinct_texts texts)) (filter_passes again (distinct_texts texts)))
    (AllPairs-filter (λ a b. a ≢ b) again (distinct_texts texts) (distinct texts))

distinct-contexts : (texts : List (List ℕ)) → AllPairs (λ a b. a ≢ b) (contexts_of texts)
distinct-contexts [] = λ i j d before within. absurd (omega arith)
distinct-contexts (text ∷ texts) = distinct (text ∷ texts)

-- what a suggestion has in a context
abbrev entry : ℕ → PlainSuggestion → List ℕ → PlainPath
entry place s text = record { context = text; key = s.key; weight = s.weight; place = place }

unlike-map : (place : ℕ) (s : PlainSuggestion) (texts : List (List ℕ))
    → AllPairs (λ a b. a ≢ b) texts → AllPairs Unlike (map (entry place s) texts)
unlike-map place s [] differ = λ i j d before within. absurd (omega arith)
unlike-map place s (text ∷ texts) differ =
    AllPairs-cons Unlike (entry place s text) (map (entry place s) texts)
    (All-map (Unlike (entry place s text)) (entry place s) texts
    (λ k d within same_text same_place.
    differ 0 (suc k) d (omega arith) (omega (arith, within)) same_text))
    (unlike-map place s texts
    (λ i j d before within. differ (suc i) (suc j) d (omega (arith, before))
    (omega (arith, within))))

unlike-append : (ps qs : List PlainPath) → AllPairs Unlike ps → AllPairs Unlike qs
    → All (λ p. All (Unlike p) qs) ps → AllPairs Unlike (ps ++ qs)
unlike-append [] qs first second apart = second
unlike-append (p ∷ ps) qs first second apart =
    AllPairs-cons Unlike p (ps ++ qs)
    (All-append (Unlike p) ps qs
    (λ k d within. first 0 (suc k) d (omega arith) (omega (arith, within)))
    (All-head (λ x. All (Unlike x) qs) p ps apart))
    (unlike-append ps qs
    (λ i j d before within. first (suc i) (suc j) d (omega (arith, before))
    (omega (arith, within)))
    second (All-tail (λ x. All (Unlike x) qs) p ps apart))

-- entries stand at their place or a later one
at_or_behind : (place : ℕ) (ss : List PlainSuggestion)
    → All (λ p. place ≤ p.place) (entries_from place ss)
at_or_behind place [] = All-nil (λ p. place ≤ p.place)
at_or_behind place (s ∷ later) =
    All-append (λ p. place ≤ p.place) (map (entry place s) (contexts_of s.contexts))
    (entries_from (place + 1) later)
    (All-map (λ p. place ≤ p.place) (entry place s) (contexts_of s.contexts)
    (λ k d within. omega arith))
    (All-weaker (λ p. place + 1 ≤ p.place) (λ p. place ≤ p.place)
    (λ p behind. omega (arith, behind)) (entries_from (place + 1) later)
    (at_or_behind (place + 1) later))

unlike-entries : (place : ℕ) (ss : List PlainSuggestion)
    → AllPairs Unlike (entries_from place ss)
unlike-entries place [] = λ i j d before within. absurd (omega arith)
unlike-entries place (s ∷ later) =
    let here = map (entry place s) (contexts_of s.contexts) in
    let there = entries_from (place + 1) later in
    unlike-append here there
    (unlike-map place s (contexts_of s.contexts) (distinct-contexts s.contexts))
    (unlike-entries (place + 1) later)
    (All-map (λ p. All (Unlike p) there) (entry place s) (contexts_of s.contexts)
    (λ k d within. All-weaker (λ q. place + 1 ≤ q.place) (Unlike (entry place s (get_or
    (contexts_of s.contexts) k d)))
    (λ q behind same_context same_place. omega (arith, behind, same_place)) there
    (at_or_behind (place + 1) later)))

-- where neither is kept over the other they have one place
same_place : (p q : PlainPath) → p.context ≡ q.context → p.key ≡ q.key
    → is_kept_over p q ≡ false → is_kept_over q p ≡ false → p.place ≡ q.place
same_place p q context key not_first not_second =
    let lighter : (q.weight < p.weight) → ⊥ = λ more. never p q not_first context key (inl more) in
    let heavier : (p.weight < q.weight) → ⊥ =
    λ more. never q p not_second (sym context) (sym key) (inl more) in
    let tie : p.weight ≡ q.weight =
    ⊎_elim (λ less. absurd (heavier less))
    (λ not_less. ⊎_elim (λ more. absurd (lighter more)) (λ not_more. omega arith)
    (cases_lt q.weight p.weight)) (cases_lt p.weight q.weight) in
    ⊎_elim (λ before. absurd (never p q not_first context key (inr (tie, before))))
    (λ not_before. ⊎_elim
    (λ behind. absurd (never q p not_second (sym context) (sym key) (inr (sym tie, behind))))
    (λ not_behind. omega arith) (cases_lt q.place p.place)) (cases_lt p.place q.place)

-- what isn't kept over an entry
not_over : (entries : List PlainPath) (p q : PlainPath) → Contains entries p
    → unbeaten entries q ≡ true → (b : Bool) → is_kept_over p q ≡ b → is_kept_over p q ≡ false
not_over entries p q there stays true is =
    let beaten : list_any (λ z. is_kept_over z q) entries ≡ true =
    list_any-from_Any (λ z. is_kept_over z q) entries (there.0, p, there.1, there.2, is) in
    let no : false ≡ true = rw beaten at stays in cc
not_over entries p q there stays false is = is

pub pair_has_one_path : EachPairHasOnePath
pair_has_one_path d i j other before within context key =
    let entries = entries_from 0 d.suggestions in
    let kept = paths d in
    let p = get_or kept i other in
    let q = get_or kept j other in
    let among : All (Contains entries) kept =
    All-filter (unbeaten entries) (Contains entries) entries (All-contains_itself entries) in
    let stay : All (λ z. unbeaten entries z ≡ true) kept = filter_passes (unbeaten entries) entries in
    let first : i < length kept = omega (arith, before, within) in
    let differ = AllPairs-filter Unlike (unbeaten entries) entries (unlike-entries 0 d.suggestions) in
    differ i j other before within context
    (same_place p q context key
    (not_over entries p q (among i other first) (stay j other within) (is_kept_over p q) refl)
    (not_over entries q p (among j other within) (stay i other first) (is_kept_over q p) refl))
