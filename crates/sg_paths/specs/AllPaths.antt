-- The paths of a list of documents, in byte order. Source: Lucene's suggest.document, where a
-- context
-- leads the key; the bytes and the numbers among equals are this project's own.
use Rattle.std.specs.Prelude.{ℕ, ◌+◌, Bool, ◌&&◌, cond, bytes_eq, Option, Some, None, map}
use Rattle.std.specs.Prelude.{List, [], ◌∷◌, ◌++◌}
use Rattle.std.specs.declared.cmp.Ordering.{Ordering}
use Rattle.std.specs.Cmp.{IsTotalOrder, then_total, back_total, on_total, nat_cmp_total}
use Rattle.std.specs.Cmp.Lexicographic.{slice_cmp, on_texts}
use Rattle.std.specs.Ordering.{nat_cmp, on, flip_args, then_cmp}
use Rattle.std.specs.Int.{w32, to_be_bytes}
use Rattle.sg_base.specs.declared.reserved.TheConstants.{CONTEXT_END, KEY_END}
use Rattle.sg_base.specs.Ranking.{in_order}
use Rattle.sg_paths.specs.Operations.{PlainNumbered}
use Rattle.sg_paths.specs.Paths.{PlainPath, paths}

-- a path of the document at a place of the list
pub record Entry : Type 0 where
  pub context : List ℕ
  pub key : List ℕ
  pub weight : ℕ
  pub doc : ℕ
  pub place : ℕ

-- with its number among those with the same context and key
pub record FullPath : Type 0 where
  pub entry : Entry
  pub n : ℕ

abbrev pub entry_of : ℕ → PlainPath → Entry
entry_of doc p =
    record { context = p.context; key = p.key; weight = p.weight; doc = doc; place = p.place }

-- the paths of each document, by document
abbrev pub path_entries : ℕ → List PlainNumbered → List Entry
path_entries doc [] = []
path_entries doc (d ∷ ds) = map (entry_of doc) (paths d.document) ++ path_entries (doc + 1) ds

-- by the context with the byte that ends it, the key, the weight descending, and the document
abbrev pub entry_cmp : Entry → Entry → Ordering
entry_cmp =
    then_cmp (then_cmp (then_cmp (then_cmp
    (on (λ e. e.context ++ CONTEXT_END ∷ []) (slice_cmp nat_cmp))
    (on (λ e. e.key) (slice_cmp nat_cmp)))
    (flip_args (on (λ e. e.weight) nat_cmp)))
    (on (λ e. e.doc) nat_cmp))
    (on (λ e. e.place) nat_cmp)

-- it is total
pub entry_cmp_total : IsTotalOrder entry_cmp
entry_cmp_total =
    then_total (then_total (then_total (then_total
    (on_texts (λ (e : Entry). e.context ++ CONTEXT_END ∷ []))
    (on_texts (λ (e : Entry). e.key)))
    (back_total (on_total (λ (e : Entry). e.weight) nat_cmp_total)))
    (on_total (λ (e : Entry). e.doc) nat_cmp_total))
    (on_total (λ (e : Entry). e.place) nat_cmp_total)

-- the same context and key
abbrev pub is_alike : Entry → Entry → Bool
is_alike d e = bytes_eq d.context e.context && bytes_eq d.key e.key

-- the number after an entry with this number
abbrev pub number_after : Option (Entry × ℕ) → Entry → ℕ
number_after None e = 0
number_after (Some p) e = cond (is_alike p.0 e) (p.1 + 1) 0

-- each with its number, behind an entry
abbrev pub numbered : Option (Entry × ℕ) → List Entry → List FullPath
numbered last [] = []
numbered last (e ∷ es) =
    record { entry = e; n = number_after last e } ∷ numbered (Some (e, number_after last e)) es

-- all paths
abbrev pub all_paths : List PlainNumbered → List FullPath
all_paths docs = numbered None (in_order entry_cmp (path_entries 0 docs))

-- the bytes up to the number, and all bytes
abbrev pub head_bytes : Entry → List ℕ
head_bytes e = e.context ++ CONTEXT_END ∷ (e.key ++ KEY_END ∷ [])

abbrev pub path_bytes : FullPath → List ℕ
path_bytes p = head_bytes p.entry ++ to_be_bytes w32 p.n
