-- How documents are read from bytes, with the limits of each field. Source: this project's own
-- format.
use Rattle.std.specs.Prelude.{ℕ, Bool, ◌&&◌, nat_le, List, length}
use Rattle.std.specs.Str.{is_utf8}
use Rattle.std.specs.Int.{w8, w16, w32, w64}
use Rattle.sg_base.specs.Keys.{is_key}
use Rattle.sg_base.specs.Contexts.{is_context}
use Rattle.sg_base.specs.declared.limits.TheConstants.{MOST_WEIGHT}
use Rattle.sg_paths.specs.Documents.{PlainSuggestion, is_id}
use Rattle.sg_paths.specs.Operations.{PlainNumbered}
use Rattle.sg_paths.specs.declared.limits.TheConstants.{MOST_TEXT_BYTES, MOST_CONTEXTS}
use Rattle.sg_paths.specs.declared.limits.TheConstants.{MOST_SUGGESTIONS}
use Rattle.seg_bytes.specs.Fields.{Reader, reads, then_read, number_at, text_at, tested}
use Rattle.seg_bytes.specs.Fields.{many_at}

-- what may stand as a text
abbrev pub may_be_text : List ℕ → Bool
may_be_text text = is_utf8 text && nat_le (length text) MOST_TEXT_BYTES

-- a key
abbrev pub may_be_key : List ℕ → Bool
may_be_key key = is_key key && nat_le 1 (length key)

-- a context
abbrev pub may_be_context : List ℕ → Bool
may_be_context context = is_utf8 context && is_context context

-- an id
abbrev pub may_be_id : List ℕ → Bool
may_be_id id = is_utf8 id && is_id id

-- a weight
abbrev pub may_be_weight : ℕ → Bool
may_be_weight weight = nat_le weight MOST_WEIGHT

-- the number of a suggestion's contexts
abbrev pub may_be_contexts : ℕ → Bool
may_be_contexts count = nat_le count MOST_CONTEXTS

-- the number of a document's suggestions
abbrev pub may_be_suggestions : ℕ → Bool
may_be_suggestions count = nat_le 1 count && nat_le count MOST_SUGGESTIONS

-- a context behind its length
abbrev pub context_at : Reader (List ℕ)
context_at = tested may_be_context (text_at w8)

-- the text, the key, the weight and the contexts
unfoldable pub suggestion_at : Reader PlainSuggestion
suggestion_at bytes at =
    then_read (tested may_be_text (text_at w16) bytes at) (λ text end_1.
    then_read (tested may_be_key (text_at w8) bytes end_1) (λ key end_2.
    then_read (tested may_be_weight (number_at w32) bytes end_2) (λ weight end_3.
    then_read (tested may_be_contexts (number_at w8) bytes end_3) (λ count end_4.
    then_read (many_at context_at count bytes end_4) (λ contexts end.
    reads (record { text = text; key = key; weight = weight; contexts = contexts }) end)))))

-- the number, the id and the suggestions
unfoldable pub document_at : Reader PlainNumbered
document_at bytes at =
    then_read (number_at w64 bytes at) (λ seq end_1.
    then_read (tested may_be_id (text_at w8) bytes end_1) (λ id end_2.
    then_read (tested may_be_suggestions (number_at w8) bytes end_2) (λ count end_3.
    then_read (many_at suggestion_at count bytes end_3) (λ suggestions end.
    reads (record {
      seq = seq;
      document = record { id = id; suggestions = suggestions };
    }) end))))

-- so many documents
abbrev pub documents_at : ℕ → Reader (List PlainNumbered)
documents_at = many_at document_at
