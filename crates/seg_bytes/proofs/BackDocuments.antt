-- Documents that were written are read back.
use Rattle.std.proofs.Common.{◌≡◌, ◌≤◌, ◌<◌, ℕ, Bool, true, ◌&&◌, List, [], ◌∷◌, ◌++◌}
use Rattle.std.proofs.Common.{◌+◌, length, arith}
use Rattle.std.proofs.lemmas.Bool.{and_parts, leb-true}
use Rattle.std.specs.Prelude.{nat_le}
use Rattle.std.specs.Str.{is_utf8}
use Rattle.std.specs.List.{AllByRecursion, flat_map, list_all}
use Rattle.std.specs.Int.{w8, w16, w32, w64, to_be_bytes}
use Rattle.sg_base.specs.Keys.{is_key, is_key_byte}
use Rattle.sg_base.specs.Contexts.{is_context}
use Rattle.sg_paths.specs.Documents.{PlainSuggestion, is_id}
use Rattle.sg_paths.specs.Operations.{PlainNumbered}
use Rattle.seg_bytes.specs.Fields.{reads, then_read, number_at, text_at, tested, many_at}
use Rattle.seg_bytes.specs.DocumentBytes.{short_bytes, suggestion_bytes, document_bytes}
use Rattle.seg_bytes.specs.DocumentsRead.{may_be_text, may_be_key, may_be_weight, may_be_contexts}
use Rattle.seg_bytes.specs.DocumentsRead.{may_be_context, may_be_id, may_be_suggestions}
use Rattle.seg_bytes.specs.DocumentsRead.{context_at, suggestion_at, document_at}
use Rattle.seg_bytes.specs.Laws.{IsReadBack, IsWritable, IsWritableSuggestion, DocumentsReadBack}
use Rattle.seg_bytes.specs.Laws.{OneListOfDocuments}
use Rattle.seg_bytes.specs.DocumentBytes.{documents_bytes}
use Rattle.seg_bytes.specs.DocumentsRead.{documents_at}
use Rattle.seg_bytes.proofs.OnlyLemmas.{same_value}
use Rattle.std.proofs.Common.{sym, ap, ◌∙◌}
use Rattle.seg_bytes.proofs.BackLemmas.{both, with_result, number_1, number_4, number_8, text_1}
use Rattle.seg_bytes.proofs.BackLemmas.{text_2, tested_back, many_back}

-- a second test bounds a number
pub below : (b : Bool) (n most : ℕ) → (b && nat_le n most) ≡ true → n ≤ most
below b n most h = leb-true n most (and_parts b (nat_le n most) h).1

key_fits : (key : List ℕ) → may_be_key key ≡ true → length key < 256
key_fits key h =
    let is = (and_parts (is_key key) (nat_le 1 (length key)) h).0 in
    let l = leb-true (length key) 255
    (and_parts (nat_le (length key) 255) (list_all is_key_byte key) is).0 in
    omega (arith, l)

contexts_back : (cs : List (List ℕ)) → AllByRecursion (λ c. may_be_context c ≡ true) cs
    → AllByRecursion (λ c. IsReadBack context_at (short_bytes c) c) cs
contexts_back [] a = tt
contexts_back (c ∷ cs) a = (context_back c a.0, contexts_back cs a.1)
  where
    context_back : (c : List ℕ) → may_be_context c ≡ true
        → IsReadBack context_at (short_bytes c) c
    context_back c h =
        let is = (and_parts (is_utf8 c) (is_context c) h).1 in
        let l = below _ (length c) 63 is in
        tested_back may_be_context (text_at w8) (short_bytes c) c h
        (text_1 c (omega (arith, l)))

-- a suggestion, built of its fields from the last to the first
suggestion_back : (s : PlainSuggestion) → IsWritableSuggestion s
    → IsReadBack suggestion_at (suggestion_bytes s) s
unfolding suggestion_at suggestion_bytes
suggestion_back s h =
    let text_fits = below (is_utf8 s.text) (length s.text) 1024 h.text in
    let weight_fits = leb-true s.weight 2147483647 h.weight in
    let count_fits = leb-true (length s.contexts) 16 h.count in
    both (tested may_be_text (text_at w16))
    (λ text bytes at. then_read (tested may_be_key (text_at w8) bytes at) (λ key end_2.
    then_read (tested may_be_weight (number_at w32) bytes end_2) (λ weight end_3.
    then_read (tested may_be_contexts (number_at w8) bytes end_3) (λ count end_4.
    then_read (many_at context_at count bytes end_4) (λ contexts end.
    reads (record { text = text; key = key; weight = weight; contexts = contexts }) end)))))
    (to_be_bytes w16 (length s.text) ++ s.text)
    (short_bytes s.key ++ (to_be_bytes w32 s.weight
    ++ (length s.contexts ∷ flat_map short_bytes s.contexts)))
    s.text s
    (tested_back may_be_text (text_at w16) (to_be_bytes w16 (length s.text) ++ s.text) s.text
    h.text (text_2 s.text (omega (arith, text_fits))))
    (both (tested may_be_key (text_at w8))
    (λ key bytes at. then_read (tested may_be_weight (number_at w32) bytes at) (λ weight end_3.
    then_read (tested may_be_contexts (number_at w8) bytes end_3) (λ count end_4.
    then_read (many_at context_at count bytes end_4) (λ contexts end.
    reads (record { text = s.text; key = key; weight = weight; contexts = contexts }) end))))
    (short_bytes s.key)
    (to_be_bytes w32 s.weight ++ (length s.contexts ∷ flat_map short_bytes s.contexts))
    s.key s
    (tested_back may_be_key (text_at w8) (short_bytes s.key) s.key h.key
    (text_1 s.key (key_fits s.key h.key)))
    (both (tested may_be_weight (number_at w32))
    (λ weight bytes at. then_read (tested may_be_contexts (number_at w8) bytes at) (λ count end_4.
    then_read (many_at context_at count bytes end_4) (λ contexts end.
    reads (record { text = s.text; key = s.key; weight = weight; contexts = contexts }) end)))
    (to_be_bytes w32 s.weight) (length s.contexts ∷ flat_map short_bytes s.contexts)
    s.weight s
    (tested_back may_be_weight (number_at w32) (to_be_bytes w32 s.weight) s.weight h.weight
    (number_4 s.weight (omega (arith, weight_fits))))
    (both (tested may_be_contexts (number_at w8))
    (λ count bytes at. then_read (many_at context_at count bytes at) (λ contexts end.
    reads (record { text = s.text; key = s.key; weight = s.weight; contexts = contexts }) end))
    (length s.contexts ∷ []) (flat_map short_bytes s.contexts) (length s.contexts) s
    (tested_back may_be_contexts (number_at w8) (length s.contexts ∷ []) (length s.contexts)
    h.count (number_1 (length s.contexts) (omega (arith, count_fits))))
    (with_result (many_at context_at (length s.contexts))
    (λ contexts. record { text = s.text; key = s.key; weight = s.weight; contexts = contexts })
    (flat_map short_bytes s.contexts) s.contexts
    (many_back context_at short_bytes s.contexts (contexts_back s.contexts h.contexts))))))

suggestions_back : (ss : List PlainSuggestion) → AllByRecursion IsWritableSuggestion ss
    → AllByRecursion (λ s. IsReadBack suggestion_at (suggestion_bytes s) s) ss
suggestions_back [] a = tt
suggestions_back (s ∷ ss) a = (suggestion_back s a.0, suggestions_back ss a.1)

-- a document likewise
pub document_back : (d : PlainNumbered) → IsWritable d → IsReadBack document_at (document_bytes d) d
unfolding document_at document_bytes
document_back d h =
    let id = d.document.id in
    let ss = d.document.suggestions in
    let id_fits = below (nat_le 1 (length id)) (length id) 255
    (and_parts (is_utf8 id) (is_id id) h.id).1 in
    let count_fits = below (nat_le 1 (length ss)) (length ss) 16 h.count in
    both (number_at w64)
    (λ seq bytes at. then_read (tested may_be_id (text_at w8) bytes at) (λ i end_2.
    then_read (tested may_be_suggestions (number_at w8) bytes end_2) (λ count end_3.
    then_read (many_at suggestion_at count bytes end_3) (λ xs end.
    reads (record { seq = seq; document = record { id = i; suggestions = xs } }) end))))
    (to_be_bytes w64 d.seq) (short_bytes id ++ (length ss ∷ flat_map suggestion_bytes ss))
    d.seq d (number_8 d.seq h.seq)
    (both (tested may_be_id (text_at w8))
    (λ i bytes at. then_read (tested may_be_suggestions (number_at w8) bytes at) (λ count end_3.
    then_read (many_at suggestion_at count bytes end_3) (λ xs end.
    reads (record { seq = d.seq; document = record { id = i; suggestions = xs } }) end)))
    (short_bytes id) (length ss ∷ flat_map suggestion_bytes ss) id d
    (tested_back may_be_id (text_at w8) (short_bytes id) id h.id
    (text_1 id (omega (arith, id_fits))))
    (both (tested may_be_suggestions (number_at w8))
    (λ count bytes at. then_read (many_at suggestion_at count bytes at) (λ xs end.
    reads (record { seq = d.seq; document = record { id = id; suggestions = xs } }) end))
    (length ss ∷ []) (flat_map suggestion_bytes ss) (length ss) d
    (tested_back may_be_suggestions (number_at w8) (length ss ∷ []) (length ss) h.count
    (number_1 (length ss) (omega (arith, count_fits))))
    (with_result (many_at suggestion_at (length ss))
    (λ xs. record { seq = d.seq; document = record { id = id; suggestions = xs } })
    (flat_map suggestion_bytes ss) ss
    (many_back suggestion_at suggestion_bytes ss (suggestions_back ss h.suggestions)))))

each_back : (ds : List PlainNumbered) → AllByRecursion IsWritable ds
    → AllByRecursion (λ d. IsReadBack document_at (document_bytes d) d) ds
each_back [] a = tt
each_back (d ∷ ds) a = (document_back d a.0, each_back ds a.1)

pub documents_back : DocumentsReadBack
documents_back ds a = many_back document_at document_bytes ds (each_back ds a)

-- so the bytes tell the documents
pub one_list : OneListOfDocuments
one_list docs others a b len same =
    same_value docs others (0 + length (documents_bytes docs))
    (0 + length (documents_bytes others))
    (sym (documents_back docs a [] [])
    ∙ ap (λ n. documents_at n (documents_bytes docs ++ []) 0) len
    ∙ ap (λ bytes. documents_at (length others) (bytes ++ []) 0) same
    ∙ documents_back others b [] [])
