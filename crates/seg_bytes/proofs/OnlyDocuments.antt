-- Documents that are read stand there as they are written.
use Rattle.std.proofs.Common.{◌≡◌, ◌≤◌, ◌+◌, ℕ, List, [], ◌∷◌, ◌++◌, length, drop, sym, ap}
use Rattle.std.proofs.Common.{subst, arith}
use Rattle.std.proofs.lemmas.List.{length-take, length-drop}
use Rattle.std.specs.List.{flat_map}
use Rattle.std.specs.Int.{w8, w16, w32, w64, to_be_bytes}
use Rattle.sg_paths.specs.Documents.{PlainSuggestion}
use Rattle.sg_paths.specs.Operations.{PlainNumbered}
use Rattle.seg_bytes.specs.Fields.{number_at, text_at, tested, many_at}
use Rattle.seg_bytes.specs.DocumentBytes.{short_bytes, suggestion_bytes, document_bytes}
use Rattle.seg_bytes.specs.DocumentsRead.{may_be_text, may_be_key, may_be_weight, may_be_contexts}
use Rattle.seg_bytes.specs.DocumentsRead.{may_be_context, may_be_id, may_be_suggestions}
use Rattle.seg_bytes.specs.DocumentsRead.{context_at, suggestion_at, document_at}
use Rattle.seg_bytes.specs.Laws.{OnlyWrittenIsRead, StandsAt}
use Rattle.seg_bytes.proofs.OnlyLemmas.{Spans, IsOnlyWritten, same_value, same_end}
use Rattle.seg_bytes.proofs.OnlyLemmas.{then_parts, joined, only_1, only_2, only_4, only_8}
use Rattle.seg_bytes.proofs.OnlyLemmas.{text_only, tested_only, many_only}

short_only : IsOnlyWritten (text_at w8) short_bytes
short_only = text_only w8 (λ n. n ∷ []) only_1

context_only : IsOnlyWritten context_at short_bytes
context_only = tested_only may_be_context (text_at w8) short_bytes short_only

-- a suggestion
suggestion_only : IsOnlyWritten suggestion_at suggestion_bytes
unfolding suggestion_at suggestion_bytes
suggestion_only bytes at s end are h =
    let p = then_parts (tested may_be_text (text_at w16) bytes at) _ s end h in
    let text = p.0 in let end_1 = p.1.0 in
    let q = then_parts (tested may_be_key (text_at w8) bytes end_1) _ s end p.1.1.1 in
    let key = q.0 in let end_2 = q.1.0 in
    let r = then_parts (tested may_be_weight (number_at w32) bytes end_2) _ s end q.1.1.1 in
    let weight = r.0 in let end_3 = r.1.0 in
    let t = then_parts (tested may_be_contexts (number_at w8) bytes end_3) _ s end r.1.1.1 in
    let count = t.0 in let end_4 = t.1.0 in
    let u = then_parts (many_at context_at count bytes end_4) _ s end t.1.1.1 in
    let contexts = u.0 in let end_5 = u.1.0 in
    let many = many_only context_at short_bytes context_only count bytes end_4 contexts end_5 are
    u.1.1.0 in
    let counted : Spans (length contexts ∷ []) end_3 bytes end_4 =
    subst (λ n. Spans (n ∷ []) end_3 bytes end_4) (sym many.1)
    (tested_only may_be_contexts (number_at w8) (λ n. n ∷ []) only_1 bytes end_3 count end_4 are
    t.1.1.0) in
    let made : PlainSuggestion =
    record { text = text; key = key; weight = weight; contexts = contexts } in
    let same : made ≡ s = same_value made s end_5 end u.1.1.1 in
    subst (λ x. Spans (suggestion_bytes x) at bytes end) same
    (subst (λ e. Spans (suggestion_bytes made) at bytes e) (same_end made s end_5 end u.1.1.1)
    (joined (to_be_bytes w16 (length text) ++ text)
    (short_bytes key ++ (to_be_bytes w32 weight
    ++ (length contexts ∷ flat_map short_bytes contexts))) bytes at end_1 end_5
    (tested_only may_be_text (text_at w16) (λ x. to_be_bytes w16 (length x) ++ x)
    (text_only w16 (to_be_bytes w16) only_2) bytes at text end_1 are p.1.1.0)
    (joined (short_bytes key)
    (to_be_bytes w32 weight ++ (length contexts ∷ flat_map short_bytes contexts)) bytes end_1
    end_2 end_5
    (tested_only may_be_key (text_at w8) short_bytes short_only bytes end_1 key end_2 are q.1.1.0)
    (joined (to_be_bytes w32 weight) (length contexts ∷ flat_map short_bytes contexts) bytes end_2
    end_3 end_5
    (tested_only may_be_weight (number_at w32) (to_be_bytes w32) only_4 bytes end_2 weight end_3 are
    r.1.1.0)
    (joined (length contexts ∷ []) (flat_map short_bytes contexts) bytes end_3 end_4 end_5 counted
    many.0)))))

-- a document likewise
document_only : IsOnlyWritten document_at document_bytes
unfolding document_at document_bytes
document_only bytes at d end are h =
    let p = then_parts (number_at w64 bytes at) _ d end h in
    let seq = p.0 in let end_1 = p.1.0 in
    let q = then_parts (tested may_be_id (text_at w8) bytes end_1) _ d end p.1.1.1 in
    let id = q.0 in let end_2 = q.1.0 in
    let r = then_parts (tested may_be_suggestions (number_at w8) bytes end_2) _ d end q.1.1.1 in
    let count = r.0 in let end_3 = r.1.0 in
    let t = then_parts (many_at suggestion_at count bytes end_3) _ d end r.1.1.1 in
    let ss = t.0 in let end_4 = t.1.0 in
    let many = many_only suggestion_at suggestion_bytes suggestion_only count bytes end_3 ss end_4
    are t.1.1.0 in
    let counted : Spans (length ss ∷ []) end_2 bytes end_3 =
    subst (λ n. Spans (n ∷ []) end_2 bytes end_3) (sym many.1)
    (tested_only may_be_suggestions (number_at w8) (λ n. n ∷ []) only_1 bytes end_2 count end_3
    are r.1.1.0) in
    let made : PlainNumbered =
    record { seq = seq; document = record { id = id; suggestions = ss } } in
    let same : made ≡ d = same_value made d end_4 end t.1.1.1 in
    subst (λ x. Spans (document_bytes x) at bytes end) same
    (subst (λ e. Spans (document_bytes made) at bytes e) (same_end made d end_4 end t.1.1.1)
    (joined (to_be_bytes w64 seq)
    (short_bytes id ++ (length ss ∷ flat_map suggestion_bytes ss)) bytes at end_1 end_4
    (only_8 bytes at seq end_1 are p.1.1.0)
    (joined (short_bytes id) (length ss ∷ flat_map suggestion_bytes ss) bytes end_1 end_2 end_4
    (tested_only may_be_id (text_at w8) short_bytes short_only bytes end_1 id end_2 are q.1.1.0)
    (joined (length ss ∷ []) (flat_map suggestion_bytes ss) bytes end_2 end_3 end_4 counted
    many.0))))

pub documents_only : OnlyWrittenIsRead
documents_only count bytes at docs end are h =
    let all = many_only document_at document_bytes document_only count bytes at docs end are h in
    (all.1, all.0.0, all.0.1)

-- what stands there lies within
pub stands_within : (part bytes : List ℕ) (at end : ℕ) → StandsAt part at bytes
    → end ≡ at + length part → at ≤ length bytes → end ≤ length bytes
stands_within part bytes at end h is le =
    let a = ap length h in
    let b = length-take (length part) (drop at bytes) in
    let d = length-drop at bytes in
    omega (arith, a, b, d, is, le)
