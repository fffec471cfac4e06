-- A path's document and suggestion are there, and its key is the suggestion's.
use Rattle.std.proofs.Common.{◌≡◌, ◌≤◌, ◌<◌, ◌+◌, inl, inr, ℕ, zero, suc, List, [], ◌∷◌, map}
use Rattle.std.proofs.Common.{length, get_or, sym, ap, subst, arith}
use Rattle.sg_base.specs.Lists.{In}
use Rattle.sg_base.proofs.ListLemmas.{in-append, in-map, in-filter}
use Rattle.sg_paths.specs.AllPaths.{Entry, FullPath, entry_of, path_entries, all_paths}
use Rattle.sg_paths.specs.Documents.{PlainSuggestion, PlainDocument}
use Rattle.sg_paths.specs.Operations.{PlainNumbered}
use Rattle.sg_paths.specs.Paths.{PlainPath, paths, contexts_of, entries_from}
use Rattle.sg_paths.proofs.ApartLemmas.{doc_least}
use Rattle.best_first.specs.Parts.{no_suggestion, suggestions_at, HasSuggestion, key_at}
use Rattle.best_first.proofs.GroundLemmas.{in_documents}
use Rattle.best_first.proofs.PathListLemmas.{path_entry}

-- what a suggestion at a place has in a context
abbrev in_context : PlainSuggestion → ℕ → List ℕ → PlainPath
in_context s place text =
    record { context = text; key = s.key; weight = s.weight; place = place }

place_least : (n : ℕ) (ss : List PlainSuggestion) (p : PlainPath) → In p (entries_from n ss)
    → n ≤ p.place
place_least n [] p i = elim i [ ]
place_least n (s ∷ ss) p i =
    elim (in-append p (map (in_context s n) (contexts_of s.contexts)) (entries_from (n + 1) ss) i)
    as (λ _. n ≤ p.place) [
      | inl j ↦
          let r = in-map (in_context s n) p (contexts_of s.contexts) j in
          let q : p.place ≡ n = ap (λ (z : PlainPath). z.place) r.2 in
          omega (arith, q)
      | inr j ↦ let h = place_least (n + 1) ss p j in omega (arith, h)
    ]

-- the suggestion at a place is there, and has the key
abbrev Owns : List PlainSuggestion → ℕ → List ℕ → Type 0
Owns ss i key = (i < length ss) × ((get_or ss i no_suggestion).key ≡ key)

suggestion_owns : (n : ℕ) (ss : List PlainSuggestion) (p : PlainPath) (i : ℕ)
    → In p (entries_from n ss) → p.place ≡ n + i → Owns ss i p.key
suggestion_owns n [] p i j e = elim j [ ]
suggestion_owns n (s ∷ ss) p zero j e =
    elim (in-append p (map (in_context s n) (contexts_of s.contexts)) (entries_from (n + 1) ss) j)
    as (λ _. Owns (s ∷ ss) zero p.key) [
      | inl k ↦
          let r = in-map (in_context s n) p (contexts_of s.contexts) k in
          (omega arith, sym (ap (λ (z : PlainPath). z.key) r.2))
      | inr k ↦ let h = place_least (n + 1) ss p k in absurd (omega (arith, h, e))
    ]
suggestion_owns n (s ∷ ss) p (suc i) j e =
    elim (in-append p (map (in_context s n) (contexts_of s.contexts)) (entries_from (n + 1) ss) j)
    as (λ _. Owns (s ∷ ss) (suc i) p.key) [
      | inl k ↦
          let r = in-map (in_context s n) p (contexts_of s.contexts) k in
          let q : p.place ≡ n = ap (λ (z : PlainPath). z.place) r.2 in
          absurd (omega (arith, q, e))
      | inr k ↦
          let h = suggestion_owns (n + 1) ss p i k (omega (arith, e)) in
          let l = h.0 in
          (omega (arith, l), h.1)
    ]

document_owns : (d : PlainDocument) (p : PlainPath) → In p (paths d)
    → Owns d.suggestions p.place p.key
document_owns d p i =
    suggestion_owns 0 d.suggestions p p.place (in-filter _ p (entries_from 0 d.suggestions) i).0
    (omega arith)

entry_owns : (k : ℕ) (ds : List PlainNumbered) (e : Entry) (i : ℕ) → In e (path_entries k ds)
    → e.doc ≡ k + i → Owns (suggestions_at ds i) e.place e.key
entry_owns k [] e i j h = elim j [ ]
entry_owns k (d ∷ ds) e zero j h =
    elim (in-append e (map (entry_of k) (paths d.document)) (path_entries (k + 1) ds) j) as
    (λ _. Owns d.document.suggestions e.place e.key) [
      | inl l ↦
          let r = in-map (entry_of k) e (paths d.document) l in
          subst (λ (z : Entry). Owns d.document.suggestions z.place z.key) (sym r.2)
          (document_owns d.document r.0 r.1)
      | inr l ↦ let m = doc_least (k + 1) ds e l in absurd (omega (arith, m, h))
    ]
entry_owns k (d ∷ ds) e (suc i) j h =
    elim (in-append e (map (entry_of k) (paths d.document)) (path_entries (k + 1) ds) j) as
    (λ _. Owns (suggestions_at ds i) e.place e.key) [
      | inl l ↦
          let r = in-map (entry_of k) e (paths d.document) l in
          let q : e.doc ≡ k = ap (λ (z : Entry). z.doc) r.2 in
          absurd (omega (arith, q, h))
      | inr l ↦ entry_owns (k + 1) ds e i l (omega (arith, h))
    ]

path_owns : (ds : List PlainNumbered) (p : FullPath) → In p (all_paths ds)
    → Owns (suggestions_at ds p.entry.doc) p.entry.place p.entry.key
path_owns ds p i = entry_owns 0 ds p.entry p.entry.doc (path_entry ds p i) (omega arith)

pub path_suggestion : (ds : List PlainNumbered) (p : FullPath) → In p (all_paths ds)
    → HasSuggestion ds p.entry.doc p.entry.place
path_suggestion ds p i = (in_documents ds p.entry (path_entry ds p i), (path_owns ds p i).0)

pub path_key : (ds : List PlainNumbered) (p : FullPath) → In p (all_paths ds)
    → key_at ds p.entry.doc p.entry.place ≡ p.entry.key
path_key ds p i = (path_owns ds p i).1
