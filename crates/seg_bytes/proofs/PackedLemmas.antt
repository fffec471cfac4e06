-- Documents as their bytes, with the offset at which each begins.
use Rattle.std.proofs.Common.{◌≡◌, ◌≤◌, ◌<◌, ◌+◌, ◌*◌, ℕ, zero, suc, List, [], ◌∷◌, ◌++◌}
use Rattle.std.proofs.Common.{length, take, drop, get_or, refl, sym, ap, ◌∙◌, subst, arith}
use Rattle.std.proofs.Common.{append_assoc, append-nil}
use Rattle.std.proofs.lemmas.List.{drop_more, drop_at, take-append-drop, length-append}
use Rattle.std.proofs.lemmas.Grind.{flat_map-append}
use Rattle.std.specs.List.{AllByRecursion}
use Rattle.sg_paths.specs.Documents.{PlainSuggestion}
use Rattle.sg_paths.specs.Operations.{PlainNumbered}
use Rattle.sg_paths.specs.declared.limits.TheConstants.{MOST_SEGMENT_DOCUMENTS}
use Rattle.seg_bytes.specs.declared.error.ReadError.{ReadError}
use Rattle.seg_bytes.specs.declared.error.ReadError.TheVariants.{Bad}
use Rattle.seg_bytes.specs.Answers.{Refuses}
use Rattle.seg_bytes.specs.Fields.{Reading, reads}
use Rattle.seg_bytes.specs.DocumentBytes.{document_bytes, documents_bytes}
use Rattle.seg_bytes.specs.DocumentsRead.{document_at, documents_at}
use Rattle.seg_bytes.specs.Laws.{IsWritable}
use Rattle.seg_bytes.specs.Packed.{BeginsWith, IsPacked, documents_in, read_or_none, starts_from}
use Rattle.seg_bytes.proofs.BackDocuments.{document_back, documents_back}
use Rattle.seg_bytes.proofs.OnlyLemmas.{not_broken}
use Rattle.seg_bytes.proofs.SteppingLemmas.{item_at}

-- a document and a suggestion
pub some_document : PlainNumbered
some_document = record { seq = 0; document = record { id = []; suggestions = [] } }

pub some_suggestion : PlainSuggestion
some_suggestion = record { text = []; key = []; weight = 0; contexts = [] }

-- documents that bytes can hold are those that their bytes are
pub documents_are : (docs : List PlainNumbered) → AllByRecursion IsWritable docs
    → (count : ℕ) (bytes : List ℕ) → count ≡ length docs → bytes ≡ documents_bytes docs
    → documents_in count bytes ≡ docs
unfolding documents_in
documents_are docs a count bytes many whole =
    ap (λ n. read_or_none (documents_at n bytes 0)) many
    ∙ ap (λ b. read_or_none (documents_at (length docs) b 0))
    (whole ∙ sym (append-nil (documents_bytes docs)))
    ∙ ap read_or_none (documents_back docs a [] [])

-- as many offsets as documents
pub length-starts_from : (at : ℕ) (docs : List PlainNumbered)
    → length (starts_from at docs) ≡ length docs
length-starts_from at [] = refl
length-starts_from at (d ∷ ds) = ap suc (length-starts_from (at + length (document_bytes d)) ds)

-- documents are packed by their bytes and offsets
pub packed_of : (docs : List PlainNumbered) (bytes starts : List ℕ)
    → length docs ≤ MOST_SEGMENT_DOCUMENTS → AllByRecursion IsWritable docs
    → length (documents_bytes docs) ≤ 65536 * length docs
    → bytes ≡ documents_bytes docs → starts ≡ starts_from 0 docs
    → (documents_in (length starts) bytes ≡ docs)
    × IsPacked (documents_in (length starts) bytes) bytes starts
packed_of docs bytes starts few writable most whole begins =
    let many : length starts ≡ length docs = ap length begins ∙ length-starts_from 0 docs in
    let same = documents_are docs writable (length starts) bytes many whole in
    let bound : length bytes ≤ 65536 * length docs =
    subst (λ (z : List ℕ). length z ≤ 65536 * length docs) (sym whole) most in (
      same,
      subst (λ (z : List PlainNumbered). IsPacked z bytes starts) (sym same) (record {
        whole = whole;
        begins = begins;
        writable = writable;
        few = few;
        most = bound;
      }),
    )

-- packed documents are the value of their struct
pub packed_is : (docs inside : List PlainNumbered) (bytes starts : List ℕ) → inside ≡ docs
    → IsPacked inside bytes starts → IsPacked docs bytes starts
packed_is docs inside bytes starts same p = subst (λ z. IsPacked z bytes starts) same p

module _ (docs : List PlainNumbered) (bytes starts : List ℕ) (p : IsPacked docs bytes starts) where
  pub many_starts : length starts ≡ length docs
  many_starts = ap length p.begins ∙ length-starts_from 0 docs

-- where a document begins
start_is : (at : ℕ) (docs : List PlainNumbered) (i : ℕ) → i < length docs
    → get_or (starts_from at docs) i 0 ≡ at + length (documents_bytes (take i docs))
start_is at [] i h = absurd (omega (arith, h))
start_is at (d ∷ ds) zero h = omega arith
start_is at (d ∷ ds) (suc i) h =
    let less : i < length ds = omega (arith, h) in
    let there = start_is (at + length (document_bytes d)) ds i less in
    let all = length-append (document_bytes d) (documents_bytes (take i ds)) in
    there ∙ omega (arith, all)

-- the bytes of the documents before a place and those from there on
parts_are : (docs : List PlainNumbered) (i : ℕ)
    → documents_bytes docs ≡ documents_bytes (take i docs) ++ documents_bytes (drop i docs)
parts_are docs i =
    ap documents_bytes (sym (take-append-drop i docs))
    ∙ flat_map-append document_bytes (take i docs) (drop i docs)

all_behind : {X : Type 0} (P : X → Type 0) (xs : List X) (i : ℕ) → AllByRecursion P xs
    → AllByRecursion P (drop i xs)
all_behind P xs zero a = a
all_behind P [] (suc i) a = tt
all_behind P (x ∷ xs) (suc i) a = all_behind P xs i a.1

module _ (docs : List PlainNumbered) (bytes starts : List ℕ) (p : IsPacked docs bytes starts)
    (i : ℕ) (h : i < length docs) where
  at_start : get_or starts i 0 ≡ length (documents_bytes (take i docs))
  at_start = ap (λ z. get_or z i 0) p.begins ∙ start_is 0 docs i h ∙ omega arith

  pub starts_within : get_or starts i 0 ≤ length bytes
  starts_within =
      let all : length bytes ≡ length (documents_bytes (take i docs))
      + length (documents_bytes (drop i docs)) =
      ap length (p.whole ∙ parts_are docs i)
      ∙ length-append (documents_bytes (take i docs)) (documents_bytes (drop i docs)) in
      let start = at_start in
      omega (arith, all, start)

  -- the document begins there
  pub begins_there : (d : PlainNumbered) → BeginsWith (get_or docs i d)
      (documents_bytes (drop (i + 1) docs)) (drop (get_or starts i 0) bytes)
  begins_there d = record {
    writable = (item_at IsWritable docs i d h (all_behind IsWritable docs i p.writable)).0;
    whole = ap (drop (get_or starts i 0)) (p.whole ∙ parts_are docs i)
        ∙ drop_at (documents_bytes (take i docs)) (documents_bytes (drop i docs))
        (get_or starts i 0) (sym at_start)
        ∙ ap documents_bytes (drop_more docs i d h);
  }

-- bytes that begin with a document are read as it
pub read_of : (d : PlainNumbered) (rest bytes : List ℕ) → BeginsWith d rest bytes
    → document_at bytes 0 ≡ reads d (0 + length (document_bytes d))
read_of d rest bytes h =
    ap (λ b. document_at b 0) h.whole ∙ document_back d h.writable [] rest

-- and not refused
pub not_refused : {A : Type 0} (given : Reading A) (x : A) (end : ℕ) (e : ReadError) (at : ℕ)
    → given ≡ reads x end → e ≡ Bad at → Refuses given e → ⊥
not_refused given x end e at is bad refused =
    not_broken at x end (sym (subst (Refuses given) bad refused) ∙ is)

-- the offsets of the documents so far with those of the documents that are left
pub starts_more : (starts : List ℕ) (docs : List PlainNumbered) (i : ℕ) (d : PlainNumbered)
    (end : ℕ) (all more : List ℕ) → i < length docs → d ≡ get_or docs i d
    → starts ++ starts_from end (drop i docs) ≡ all → more ≡ starts ++ end ∷ []
    → more ++ starts_from (end + length (document_bytes d)) (drop (i + 1) docs) ≡ all
starts_more starts docs i d end all more h is so_far pushed =
    let next : drop i docs ≡ d ∷ drop (i + 1) docs =
    drop_more docs i d h ∙ ap (λ x. x ∷ drop (i + 1) docs) (sym is) in
    let last = starts_from (end + length (document_bytes d)) (drop (i + 1) docs) in
    ap (λ z. z ++ last) pushed ∙ append_assoc starts (end ∷ []) last
    ∙ ap (λ ds. starts ++ starts_from end ds) (sym next) ∙ so_far
