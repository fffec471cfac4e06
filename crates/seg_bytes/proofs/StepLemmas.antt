-- Suggestions and documents from their fields.
use Rattle.std.proofs.Common.{◌≡◌, ℕ, List, refl}
use Rattle.std.specs.Int.{w8, w16, w32, w64}
use Rattle.sg_paths.specs.Documents.{PlainSuggestion}
use Rattle.seg_bytes.specs.declared.error.ReadError.{ReadError}
use Rattle.seg_bytes.specs.Answers.{Refuses}
use Rattle.seg_bytes.specs.Fields.{reads, number_at, text_at, tested, many_at}
use Rattle.seg_bytes.specs.DocumentsRead.{may_be_text, may_be_key, may_be_weight, may_be_contexts}
use Rattle.seg_bytes.specs.DocumentsRead.{may_be_id, may_be_suggestions}
use Rattle.seg_bytes.specs.DocumentsRead.{context_at, suggestion_at, document_at}
use Rattle.seg_bytes.proofs.ReadingLemmas.{then_refused}

module _ (bytes : List ℕ) (at : ℕ) (text : List ℕ) (end_1 : ℕ)
    (is_1 : tested may_be_text (text_at w16) bytes at ≡ reads text end_1) where
  pub key_refused : (e : ReadError) → Refuses (tested may_be_key (text_at w8) bytes end_1) e
      → Refuses (suggestion_at bytes at) e
  unfolding suggestion_at
  key_refused e h = rw is_1 (then_refused (tested may_be_key (text_at w8) bytes end_1) _ e h)

  module _ (key : List ℕ) (end_2 : ℕ)
      (is_2 : tested may_be_key (text_at w8) bytes end_1 ≡ reads key end_2) where
    pub weight_refused : (e : ReadError)
        → Refuses (tested may_be_weight (number_at w32) bytes end_2) e
        → Refuses (suggestion_at bytes at) e
    unfolding suggestion_at
    weight_refused e h = rw (is_1, is_2)
        (then_refused (tested may_be_weight (number_at w32) bytes end_2) _ e h)

    module _ (weight end_3 : ℕ)
        (is_3 : tested may_be_weight (number_at w32) bytes end_2 ≡ reads weight end_3) where
      pub contexts_refused : (e : ReadError)
          → Refuses (tested may_be_contexts (number_at w8) bytes end_3) e
          → Refuses (suggestion_at bytes at) e
      unfolding suggestion_at
      contexts_refused e h = rw (is_1, is_2, is_3)
          (then_refused (tested may_be_contexts (number_at w8) bytes end_3) _ e h)

      module _ (count end_4 : ℕ)
          (is_4 : tested may_be_contexts (number_at w8) bytes end_3 ≡ reads count end_4) where
        pub context_refused : (e : ReadError) → Refuses (many_at context_at count bytes end_4) e
            → Refuses (suggestion_at bytes at) e
        unfolding suggestion_at
        context_refused e h = rw (is_1, is_2, is_3, is_4)
            (then_refused (many_at context_at count bytes end_4) _ e h)

        pub suggestion_is : (contexts items : List (List ℕ)) (end : ℕ)
            → many_at context_at count bytes end_4 ≡ reads contexts end → items ≡ contexts
            → suggestion_at bytes at
            ≡ reads (record { text = text; key = key; weight = weight; contexts = items }) end
        unfolding suggestion_at
        suggestion_is contexts items end is_5 same = rw (is_1, is_2, is_3, is_4, is_5, same) refl

pub text_refused : (bytes : List ℕ) (at : ℕ) (e : ReadError)
    → Refuses (tested may_be_text (text_at w16) bytes at) e → Refuses (suggestion_at bytes at) e
unfolding suggestion_at
text_refused bytes at e h = then_refused (tested may_be_text (text_at w16) bytes at) _ e h

pub number_refused : (bytes : List ℕ) (at : ℕ) (e : ReadError)
    → Refuses (number_at w64 bytes at) e → Refuses (document_at bytes at) e
unfolding document_at
number_refused bytes at e h = then_refused (number_at w64 bytes at) _ e h

module _ (bytes : List ℕ) (at seq end_1 : ℕ)
    (is_1 : number_at w64 bytes at ≡ reads seq end_1) where
  pub id_refused : (e : ReadError) → Refuses (tested may_be_id (text_at w8) bytes end_1) e
      → Refuses (document_at bytes at) e
  unfolding document_at
  id_refused e h = rw is_1 (then_refused (tested may_be_id (text_at w8) bytes end_1) _ e h)

  module _ (id : List ℕ) (end_2 : ℕ)
      (is_2 : tested may_be_id (text_at w8) bytes end_1 ≡ reads id end_2) where
    pub suggestions_refused : (e : ReadError)
        → Refuses (tested may_be_suggestions (number_at w8) bytes end_2) e
        → Refuses (document_at bytes at) e
    unfolding document_at
    suggestions_refused e h = rw (is_1, is_2)
        (then_refused (tested may_be_suggestions (number_at w8) bytes end_2) _ e h)

    module _ (count end_3 : ℕ)
        (is_3 : tested may_be_suggestions (number_at w8) bytes end_2 ≡ reads count end_3) where
      pub suggestion_refused : (e : ReadError)
          → Refuses (many_at suggestion_at count bytes end_3) e
          → Refuses (document_at bytes at) e
      unfolding document_at
      suggestion_refused e h = rw (is_1, is_2, is_3)
          (then_refused (many_at suggestion_at count bytes end_3) _ e h)

      pub document_is : (suggestions items : List PlainSuggestion) (end : ℕ)
          → many_at suggestion_at count bytes end_3 ≡ reads suggestions end → items ≡ suggestions
          → document_at bytes at
          ≡ reads (record { seq = seq; document = record { id = id; suggestions = items } }) end
      unfolding document_at
      document_is suggestions items end is_4 same = rw (is_1, is_2, is_3, is_4, same) refl
