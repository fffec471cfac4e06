-- The contexts of starts and of matching paths are among those of the documents that are asked for.
use Rattle.std.proofs.Common.{◌≡◌, ◌≤◌, ◌<◌, ◌+◌, ℕ, suc, Bool, true, false, ◌⊎◌, inl, inr}
use Rattle.std.proofs.Common.{not}
use Rattle.std.proofs.Common.{filter, map, List, [], ◌∷◌, ◌++◌, length, append_assoc, refl, sym, ap}
use Rattle.std.proofs.Common.{◌∙◌, subst, arith, Option, Some, None}
use Rattle.std.specs.Prelude.{is_some, bytes_eq, flat_map}
use Rattle.std.specs.List.{AllByRecursion}
use Rattle.std.specs.Int.{w32, to_be_bytes}
use Rattle.std.specs.Cmp.Lexicographic.{bytes_decides}
use Rattle.std.proofs.lemmas.Bool.{and_parts}
use Rattle.sg_base.specs.ByteStrings.{begins, is_less}
use Rattle.sg_base.specs.Lists.{In, Pairs}
use Rattle.sg_base.specs.Ranking.{in_order}
use Rattle.sg_base.proofs.InOrderLemmas.{in-in_order}
use Rattle.sg_base.proofs.ListLemmas.{in-map, in-append, each_in}
use Rattle.sg_context.specs.Boosts.{boost_of}
use Rattle.sg_context.specs.Queries.{PlainQuery}
use Rattle.sg_paths.specs.Operations.{PlainNumbered}
use Rattle.sg_paths.specs.Paths.{PlainPath, paths, distinct_texts}
use Rattle.sg_paths.specs.AllPaths.{Entry, FullPath, entry_of, path_entries, entry_cmp}
use Rattle.sg_paths.specs.AllPaths.{number_after, numbered, all_paths, path_bytes}
use Rattle.sg_paths.specs.PathLaws.{IsLegal}
use Rattle.sg_paths.proofs.RiseLemmas.{legal_clean}
use Rattle.sg_answers.specs.Reports.{asked_contexts}
use Rattle.fst_code.specs.Tails.{Tail}
use Rattle.fst_walk.specs.Starts.{context_of, start_contexts}
use Rattle.fst_walk.proofs.AscendingLemmas.{Ascends, less_itself}
use Rattle.fst_walk.proofs.ContextLemmas.{start_parts, context_path, context_at, Ascends-starts}
use Rattle.fst_walk.proofs.ListLemmas.{filter_keeps}
use Rattle.best_first.specs.PathMatches.{Setting, bytes_of, is_match, tail_of, path_tails}
use Rattle.best_first.proofs.MemberLemmas.{map-in, in-left, in-right, fewer}

clash : {A : Type 0} → true ≡ false → A
clash e = absurd cc

-- a path's bytes are its context, the byte that ends it, and the rest
pub regroup : (p : FullPath) → path_bytes p ≡ p.entry.context ++ 29 ∷ bytes_of p
regroup p =
    append_assoc p.entry.context (29 ∷ (p.entry.key ++ 0 ∷ [])) (to_be_bytes w32 p.n)
    ∙ ap (λ z. p.entry.context ++ 29 ∷ z) (append_assoc p.entry.key (0 ∷ []) (to_be_bytes w32 p.n))

-- the entry of a path
entry_in : (last : Option (Entry × ℕ)) (es : List Entry) (p : FullPath)
    → In p (numbered last es) → In p.entry es
entry_in last [] p i = elim i [ ]
entry_in last (e ∷ es) p (inl i) = inl (ap (λ (z : FullPath). z.entry) i)
entry_in last (e ∷ es) p (inr i) = inr (entry_in (Some (e, number_after last e)) es p i)

pub path_entry : (ds : List PlainNumbered) (p : FullPath) → In p (all_paths ds)
    → In p.entry (path_entries 0 ds)
path_entry ds p i =
    in-in_order entry_cmp p.entry (path_entries 0 ds)
    (entry_in None (in_order entry_cmp (path_entries 0 ds)) p i)

pub doc_within : (k : ℕ) (ds : List PlainNumbered) (e : Entry) → In e (path_entries k ds)
    → e.doc < k + length ds
doc_within k [] e i = elim i [ ]
doc_within k (d ∷ ds) e i =
    elim (in-append e (map (entry_of k) (paths d.document)) (path_entries (k + 1) ds) i) as
    (λ _. e.doc < k + suc (length ds)) [
      | inl j ↦
          let r = in-map (entry_of k) e (paths d.document) j in
          let q : e.doc ≡ k = ap (λ (z : Entry). z.doc) r.2 in omega (arith, q)
      | inr j ↦ let h = doc_within (k + 1) ds e j in omega (arith, h)
    ]

-- its context among those of the documents
abbrev contexts_in : List PlainNumbered → List (List ℕ)
contexts_in ds = map (λ (p : PlainPath). p.context) (flat_map (λ d. paths d.document) ds)

context_from : (k : ℕ) (ds : List PlainNumbered) (e : Entry) → In e (path_entries k ds)
    → (p : PlainPath) × In p (flat_map (λ d. paths d.document) ds) × (e.context ≡ p.context)
context_from k [] e i = elim i [ ]
context_from k (d ∷ ds) e i =
    elim (in-append e (map (entry_of k) (paths d.document)) (path_entries (k + 1) ds) i) as
    (λ _. (p : PlainPath) × In p (flat_map (λ d. paths d.document) (d ∷ ds))
    × (e.context ≡ p.context)) [
      | inl j ↦
          let r = in-map (entry_of k) e (paths d.document) j in (
            r.0,
            in-left r.0 (paths d.document) (flat_map (λ d. paths d.document) ds) r.1,
            ap (λ (z : Entry). z.context) r.2,
          )
      | inr j ↦
          let r = context_from (k + 1) ds e j in
          (r.0, in-right r.0 (paths d.document) (flat_map (λ d. paths d.document) ds) r.1, r.2)
    ]

context_has : (ds : List PlainNumbered) (p : FullPath) → In p (all_paths ds)
    → In p.entry.context (contexts_in ds)
context_has ds p i =
    let r = context_from 0 ds p.entry (path_entry ds p i) in
    subst (λ z. In z (contexts_in ds)) (sym r.2)
    (map-in (λ (q : PlainPath). q.context) r.0 (flat_map (λ d. paths d.document) ds) r.1)

text_by : (c x : List ℕ) (xs : List (List ℕ)) (b : Bool) → bytes_eq c x ≡ b
    → In c (distinct_texts xs)
    → (c ≡ x) ⊎ In c (filter (λ y. not (bytes_eq y x)) (distinct_texts xs))
text_by c x xs true e i = inl ((bytes_decides c x).0 e)
text_by c x xs false e i =
    inr (filter_keeps (λ y. not (bytes_eq y x)) c (distinct_texts xs) i (ap not e))

in-distinct : (c : List ℕ) (xs : List (List ℕ)) → In c xs → In c (distinct_texts xs)
in-distinct c [] i = elim i [ ]
in-distinct c (x ∷ xs) (inl e) = inl e
in-distinct c (x ∷ xs) (inr i) = text_by c x xs (bytes_eq c x) refl (in-distinct c xs i)

asked_has : (query : PlainQuery) (ds : List PlainNumbered) (p : FullPath) → In p (all_paths ds)
    → is_some (boost_of query.contexts p.entry.context) ≡ true
    → In p.entry.context (asked_contexts query ds)
asked_has query ds p i asked =
    filter_keeps (λ c. is_some (boost_of query.contexts c)) p.entry.context
    (distinct_texts (contexts_in ds))
    (in-distinct p.entry.context (contexts_in ds) (context_has ds p i)) asked

-- that of a matching path
pub match_asked : (s : Setting) (ds : List PlainNumbered) (p : FullPath) → In p (all_paths ds)
    → is_match s p.entry ≡ true → In p.entry.context (asked_contexts s.query ds)
match_asked s ds p i m =
    asked_has s.query ds p i
    (and_parts (begins s.query.prefix p.entry.key)
    (is_some (boost_of s.query.contexts p.entry.context)) m).1

-- and that of a start
start_asked : (query : PlainQuery) (ds : List PlainNumbered) (ts : List Tail)
    → ts ≡ path_tails (all_paths ds) → AllByRecursion (λ p. IsLegal p.entry) (all_paths ds)
    → (c : List ℕ) → In c (start_contexts ts query) → In c (asked_contexts query ds)
start_asked query ds ts maps legal c i =
    let parts = start_parts ts query c i in
    let owner = context_path ts c parts.0 in
    let r = in-map tail_of owner.path (all_paths ds) (subst (In owner.path) maps owner.member) in
    let clean = legal_clean r.0.entry
    (each_in (λ (p : FullPath). IsLegal p.entry) r.0 (all_paths ds) legal r.1) in
    let own : c ≡ r.0.entry.context =
    owner.is ∙ ap (λ (z : Tail). context_of z.0) r.2 ∙ ap context_of (regroup r.0)
    ∙ context_at r.0.entry.context (bytes_of r.0) clean.0 in
    subst (λ z. In z (asked_contexts query ds)) (sym own)
    (asked_has query ds r.0 r.1
    (subst (λ z. is_some (boost_of query.contexts z) ≡ true) own parts.1))

different_of : (xs : List (List ℕ)) → Ascends xs → Pairs (λ a b. a ≡ b → ⊥) xs
different_of [] a = tt
different_of (x ∷ xs) a = (
  λ y i e. clash (sym (a.0 y i) ∙ ap (λ z. is_less x z) (sym e) ∙ less_itself x),
  different_of xs a.1,
)

-- so there are no more starts than contexts that are asked for
pub few_starts : (query : PlainQuery) (ds : List PlainNumbered) (ts : List Tail)
    → ts ≡ path_tails (all_paths ds) → AllByRecursion (λ p. IsLegal p.entry) (all_paths ds)
    → length (start_contexts ts query) ≤ length (asked_contexts query ds)
few_starts query ds ts maps legal =
    fewer (start_contexts ts query) (asked_contexts query ds)
    (different_of (start_contexts ts query) (Ascends-starts ts query))
    (start_asked query ds ts maps legal)

-- where one context is asked for, all are that one
pub only_one : {X : Type 0} (x y : X) (xs : List X) → length xs ≡ 1 → In x xs → In y xs → x ≡ y
only_one x y [] e i j = elim i [ ]
only_one x y (z ∷ []) e (inl i) (inl j) = i ∙ sym j
only_one x y (z ∷ []) e (inl i) (inr j) = elim j [ ]
only_one x y (z ∷ []) e (inr i) j = elim i [ ]
only_one x y (z ∷ w ∷ xs) e i j = absurd (omega (arith, e))
