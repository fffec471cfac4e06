-- No two entries of a list of documents have one document, context and key.
use Rattle.std.proofs.Common.{◌≡◌, ◌≤◌, ◌+◌, ℕ, inl, inr, map, List, [], ◌∷◌}
use Rattle.std.proofs.Common.{sym, ap, arith}
use Rattle.sg_base.specs.Lists.{In, Pairs}
use Rattle.sg_base.specs.Ranking.{in_order}
use Rattle.sg_base.proofs.InOrderLemmas.{pairs-in_order}
use Rattle.sg_base.proofs.ListLemmas.{in-map, in-append, pairs-append, pairs-map, pairs_from}
use Rattle.sg_paths.specs.Operations.{PlainNumbered}
use Rattle.sg_paths.specs.Paths.{PlainPath, paths}
use Rattle.sg_paths.specs.AllPaths.{Entry, entry_of, path_entries, entry_cmp}
use Rattle.sg_paths.proofs.PathLemmas.{pair_has_one_path}

-- two paths with different contexts or keys
abbrev ApartPaths : PlainPath → PlainPath → Type 0
ApartPaths p q = p.context ≡ q.context → p.key ≡ q.key → ⊥

-- two entries that aren't of one document with one context and key
abbrev pub Differ : Entry → Entry → Type 0
Differ e f = e.doc ≡ f.doc → e.context ≡ f.context → e.key ≡ f.key → ⊥

turn : (e f : Entry) → Differ e f → Differ f e
turn e f d a b c = d (sym a) (sym b) (sym c)

pub doc_least : (k : ℕ) (ds : List PlainNumbered) (e : Entry) → In e (path_entries k ds) → k ≤ e.doc
doc_least k [] e i = elim i [ ]
doc_least k (d ∷ ds) e i =
    elim (in-append e (map (entry_of k) (paths d.document)) (path_entries (k + 1) ds) i) as
    (λ _. k ≤ e.doc) [
      | inl j ↦ let r =
          in-map (entry_of k) e (paths d.document) j in let q : e.doc ≡ k =
          ap (λ (z : Entry). z.doc) r.2 in omega (arith, q)
      | inr j ↦ let h = doc_least (k + 1) ds e j in omega (arith, h)
    ]

documents-apart : (k : ℕ) (ds : List PlainNumbered) → Pairs Differ (path_entries k ds)
documents-apart k [] = tt
documents-apart k (d ∷ ds) =
    pairs-append Differ (map (entry_of k) (paths d.document)) (path_entries (k + 1) ds)
    (pairs-map (entry_of k) Differ ApartPaths (paths d.document) (λ a b h e c y. h c y)
    (pairs_from ApartPaths (paths d.document) (pair_has_one_path d.document)))
    (documents-apart (k + 1) ds)
    (λ x y i j e c z.
    let r = in-map (entry_of k) x (paths d.document) i in
    let q : x.doc ≡ k = ap (λ (w : Entry). w.doc) r.2 in
    let l = doc_least (k + 1) ds y j in
    absurd (omega (arith, q, l, e)))

pub all_apart : (ds : List PlainNumbered) → Pairs Differ (in_order entry_cmp (path_entries 0 ds))
all_apart ds = pairs-in_order entry_cmp Differ turn (path_entries 0 ds) (documents-apart 0 ds)
