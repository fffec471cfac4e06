-- Documents have at most as many paths as contexts are given.
use Rattle.std.proofs.Common.{◌≤◌, ◌+◌, ℕ, suc, Bool, true, false, not, cond, max, map}
use Rattle.std.proofs.Common.{List, [], ◌∷◌, length, filter, arith}
use Rattle.std.specs.Prelude.{bytes_eq}
use Rattle.std.specs.List.{list_any}
use Rattle.std.proofs.lemmas.List.{length-map, length-append}
use Rattle.sg_paths.specs.Documents.{PlainSuggestion, PlainDocument}
use Rattle.sg_paths.specs.Operations.{PlainNumbered}
use Rattle.sg_paths.specs.Paths.{PlainPath, paths, distinct_texts, contexts_of}
use Rattle.sg_paths.specs.Paths.{entries_from, is_kept_over}
use Rattle.sg_paths.specs.AllPaths.{entry_of, path_entries}
use Rattle.sg_paths.specs.PathBounds.{contexts_given, contexts_given_in}

filter_at : {X : Type 0} (x : X) (xs : List X) (n : ℕ) (b : Bool) → length xs ≤ n
    → length (cond b (x ∷ xs) xs) ≤ suc n
filter_at x xs n true h = omega (arith, h)
filter_at x xs n false h = omega (arith, h)

filter_fewer : {X : Type 0} (p : X → Bool) (xs : List X) → length (filter p xs) ≤ length xs
filter_fewer p [] = omega arith
filter_fewer p (x ∷ xs) = filter_at x (filter p xs) (length xs) (p x) (filter_fewer p xs)

distinct_fewer : (xs : List (List ℕ)) → length (distinct_texts xs) ≤ length xs
distinct_fewer [] = omega arith
distinct_fewer (x ∷ xs) =
    let a = filter_fewer (λ other. not (bytes_eq other x)) (distinct_texts xs) in
    let b = distinct_fewer xs in
    omega (arith, a, b)

contexts_fewer : (xs : List (List ℕ)) → length (contexts_of xs) ≤ max 1 (length xs)
contexts_fewer [] = omega arith
contexts_fewer (x ∷ xs) = let a = distinct_fewer (x ∷ xs) in omega (arith, a)

entries_fewer : (place : ℕ) (ss : List PlainSuggestion)
    → length (entries_from place ss) ≤ contexts_given ss
entries_fewer place [] = omega arith
entries_fewer place (s ∷ ss) =
    let f : List ℕ → PlainPath =
    λ text. record { context = text; key = s.key; weight = s.weight; place = place } in
    let split = length-append (map f (contexts_of s.contexts)) (entries_from (place + 1) ss) in
    let same = length-map (contexts_of s.contexts) f in
    let here = contexts_fewer s.contexts in
    let there = entries_fewer (place + 1) ss in
    omega (arith, split, same, here, there)

paths_fewer : (d : PlainDocument) → length (paths d) ≤ contexts_given d.suggestions
paths_fewer d =
    let all = entries_from 0 d.suggestions in
    let a = filter_fewer (λ q. not (list_any (λ p. is_kept_over p q) all)) all in
    let b = entries_fewer 0 d.suggestions in
    omega (arith, a, b)

pub path_entries_fewer : (doc : ℕ) (ds : List PlainNumbered)
    → length (path_entries doc ds) ≤ contexts_given_in ds
path_entries_fewer doc [] = omega arith
path_entries_fewer doc (d ∷ ds) =
    let split = length-append (map (entry_of doc) (paths d.document)) (path_entries (doc + 1) ds) in
    let same = length-map (paths d.document) (entry_of doc) in
    let here = paths_fewer d.document in
    let there = path_entries_fewer (doc + 1) ds in
    omega (arith, split, same, here, there)
