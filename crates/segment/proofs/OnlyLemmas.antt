-- Accepted bytes are those that are written of their documents.
use Rattle.std.proofs.Common.{◌≡◌, ◌≤◌, ◌+◌, ℕ, suc, Bool, true, false, not, cond, eqb}
use Rattle.std.proofs.Common.{List, [], ◌∷◌, ◌++◌, length, take, drop, Option, Some, None}
use Rattle.std.proofs.Common.{refl, sym, ap, ◌∙◌, subst, arith, eqb-true}
use Rattle.std.proofs.Common.{length-drop, length-take-le}
use Rattle.std.proofs.lemmas.List.{take-append-drop, drop-drop}
use Rattle.std.specs.Prelude.{nat_lt, bytes_eq, ◌==◌}
use Rattle.std.specs.Int.{w32, w64, to_be_bytes}
use Rattle.std.specs.Cmp.Lexicographic.{bytes_decides}
use Rattle.std.proofs.lemmas.Nat.{be_bytes_4, be_bytes_8}
use Rattle.sg_paths.specs.Operations.{PlainNumbered}
use Rattle.sg_paths.specs.AllPaths.{all_paths}
use Rattle.fst_code.specs.Rules.{or_first, broken_if, common, ruled}
use Rattle.fst_code.specs.Bytes.{number_at}
use Rattle.fst_code.specs.Shapes.{IsBytes}
use Rattle.fst_code.proofs.BytesLemmas.{bytes_take, bytes_drop}
use Rattle.seg_bytes.specs.Fields.{Reading, reads, broken}
use Rattle.seg_bytes.specs.DocumentBytes.{documents_bytes}
use Rattle.seg_bytes.specs.Numbers.{wrong_number}
use Rattle.seg_bytes.specs.Laws.{OnlyWrittenIsRead}
use Rattle.segment.specs.Represents.{IsTextOf}
use Rattle.segment.specs.SegmentBytes.{segment_name, header_bytes, rest_bytes, segment_bytes}
use Rattle.segment.specs.Rules.{document_count, path_count, text_length, rest_length}
use Rattle.segment.specs.Rules.{header_broken, rule_1, rule_2, rule_3, rule_6, rule_7}
use Rattle.segment.specs.Rules.{documents_read, read_of, reading_broken}
use Rattle.segment.specs.Rules.{first_six_broken}
use Rattle.segment.specs.Laws.{AcceptedIsWritten}
use Rattle.segment.proofs.ReadingLemmas.{whole_header, parts_of, not_broken, no_less}
use Rattle.segment.proofs.RoundLemmas.{length-rest_bytes}

none_both : (x y : Option (ℕ × ℕ)) → or_first x y ≡ None → (x ≡ None) × (y ≡ None)
none_both (Some x) y h = absurd cc
none_both None y h = (refl, h)

both_none : (x y : Option ℕ) → or_first x y ≡ None → (x ≡ None) × (y ≡ None)
both_none (Some x) y h = absurd cc
both_none None y h = (refl, h)

unruled : (rule : ℕ) (x : Option ℕ) → ruled rule x ≡ None → x ≡ None
unruled rule (Some at) h = absurd cc
unruled rule None h = refl

not_not : (b : Bool) (at : ℕ) → broken_if (not b) at ≡ None → b ≡ true
not_not true at h = refl
not_not false at h = absurd cc

-- what a name begins
common_by : (b : Bool) (n k : ℕ) → suc n ≤ cond b (1 + k) 0 → (b ≡ true) × (n ≤ k)
common_by true n k h = (refl, omega (arith, h))
common_by false n k h = absurd (omega (arith, h))

named : (name bytes : List ℕ) → length name ≤ common name bytes → take (length name) bytes ≡ name
named [] bytes h = refl
named (x ∷ xs) [] h = absurd (omega (arith, h))
named (x ∷ xs) (y ∷ ys) h =
    let p = common_by (eqb x y) (length xs) (common xs ys) h in
    let e : x ≡ y = eqb-true x y p.0 in
    ap (λ (z : ℕ). z ∷ take (length xs) ys) (sym e) ∙ ap (λ (z : List ℕ). x ∷ z) (named xs ys p.1)

-- a part with what stands behind it
parted : (n at next : ℕ) (bytes : List ℕ) → at + n ≡ next
    → drop at bytes ≡ take n (drop at bytes) ++ drop next bytes
parted n at next bytes is =
    sym (take-append-drop n (drop at bytes))
    ∙ ap (λ (z : List ℕ). take n (drop at bytes) ++ z)
    (drop-drop n at bytes ∙ ap (λ k. drop k bytes) is)

four_at : (at : ℕ) (bytes : List ℕ) → IsBytes bytes → at + 4 ≤ length bytes
    → to_be_bytes w32 (number_at w32 at bytes) ≡ take 4 (drop at bytes)
four_at at bytes fits h =
    let long = length-drop at bytes in
    be_bytes_4 (take 4 (drop at bytes)) (number_at w32 at bytes)
    (length-take-le 4 (drop at bytes) (omega (arith, long, h)))
    (bytes_take 4 (drop at bytes) (bytes_drop at bytes fits)) refl

eight_at : (at : ℕ) (bytes : List ℕ) → IsBytes bytes → at + 8 ≤ length bytes
    → to_be_bytes w64 (number_at w64 at bytes) ≡ take 8 (drop at bytes)
eight_at at bytes fits h =
    let long = length-drop at bytes in
    be_bytes_8 (take 8 (drop at bytes)) (number_at w64 at bytes)
    (length-take-le 8 (drop at bytes) (omega (arith, long, h)))
    (bytes_take 8 (drop at bytes) (bytes_drop at bytes fits)) refl

-- a sound header is the one of its counts
header_is : (bytes : List ℕ) → IsBytes bytes → header_broken bytes ≡ None
    → bytes ≡ header_bytes (document_count bytes) (path_count bytes) (text_length bytes)
    ++ drop 20 bytes
header_is bytes fits sound =
    let long = whole_header bytes sound in
    let all = parts_of (rule_1 bytes) (rule_2 bytes) (rule_3 bytes) sound in
    let most = no_less (common segment_name bytes) 4
    (not_broken (nat_lt (common segment_name bytes) 4) (common segment_name bytes) all.1) in
    let name = named segment_name bytes most in
    let d = four_at 4 bytes fits (omega (arith, long)) in
    let p = four_at 8 bytes fits (omega (arith, long)) in
    let t = eight_at 12 bytes fits (omega (arith, long)) in
    let part = drop 20 bytes in
    sym (take-append-drop 4 bytes) ∙ ap (λ (z : List ℕ). z ++ drop 4 bytes) name
    ∙ ap (λ (z : List ℕ). segment_name ++ z)
    (parted 4 4 8 bytes refl ∙ ap (λ (z : List ℕ). z ++ drop 8 bytes) (sym d)
    ∙ ap (λ (z : List ℕ). to_be_bytes w32 (document_count bytes) ++ z)
    (parted 4 8 12 bytes refl ∙ ap (λ (z : List ℕ). z ++ drop 12 bytes) (sym p)
    ∙ ap (λ (z : List ℕ). to_be_bytes w32 (path_count bytes) ++ z)
    (parted 8 12 20 bytes refl ∙ ap (λ (z : List ℕ). z ++ part) (sym t))))

-- bytes whose parts are those of documents
whole_is : (docs : List PlainNumbered) (text bytes : List ℕ) (d p t end : ℕ) → length docs ≡ d
    → length (all_paths docs) ≡ p → length text ≡ t → end ≡ 20 + length (documents_bytes docs)
    → bytes ≡ header_bytes d p t ++ drop 20 bytes
    → take (length (documents_bytes docs)) (drop 20 bytes) ≡ documents_bytes docs
    → drop end bytes ≡ rest_bytes docs text → bytes ≡ segment_bytes docs text
whole_is docs text bytes d p t end ds ps ts stop head stands rest =
    let written = documents_bytes docs in
    let more : drop 20 bytes ≡ written ++ rest_bytes docs text =
    parted (length written) 20 end bytes (sym stop)
    ∙ ap (λ (z : List ℕ). z ++ drop end bytes) stands
    ∙ ap (λ (z : List ℕ). written ++ z) rest in
    head ∙ ap (λ (z : List ℕ). header_bytes d p t ++ z) more
    ∙ ap (λ n. header_bytes n p t ++ (written ++ rest_bytes docs text)) (sym ds)
    ∙ ap (λ n. header_bytes (length docs) n t ++ (written ++ rest_bytes docs text)) (sym ps)
    ∙ ap (λ n. header_bytes (length docs) (length (all_paths docs)) n
    ++ (written ++ rest_bytes docs text)) (sym ts)

read_whole : OnlyWrittenIsRead → (bytes text : List ℕ) (docs : List PlainNumbered) (end : ℕ)
    → IsBytes bytes → header_broken bytes ≡ None → documents_read bytes ≡ reads docs end
    → rule_6 (length (all_paths docs)) end bytes ≡ None
    → rule_7 (reads docs end) text bytes ≡ None → bytes ≡ segment_bytes docs text
read_whole only bytes text docs end fits sound read six seven =
    let o = only (document_count bytes) bytes 20 docs end fits read in
    let p = length (all_paths docs) in
    let both = both_none (broken_if (not (path_count bytes == p)) 8)
    (broken_if (not (length bytes == end + rest_length bytes)) (length bytes)) six in
    let paths : path_count bytes ≡ p =
    eqb-true (path_count bytes) p (not_not (eqb (path_count bytes) p) 8 both.0) in
    let long : length bytes ≡ end + rest_length bytes =
    eqb-true (length bytes) (end + rest_length bytes)
    (not_not (eqb (length bytes) (end + rest_length bytes)) (length bytes) both.1) in
    let rest : rest_bytes docs text ≡ drop end bytes =
    (bytes_decides (rest_bytes docs text) (drop end bytes)).0
    (not_not (bytes_eq (rest_bytes docs text) (drop end bytes))
    (end + common (rest_bytes docs text) (drop end bytes)) seven) in
    let size = length-rest_bytes docs text in
    let same = ap (λ (z : List ℕ). length z) rest in
    let left = length-drop end bytes in
    let count = o.0 in
    let texts : length text ≡ text_length bytes =
    omega (arith, paths, long, size, same, left, count) in
    whole_is docs text bytes (document_count bytes) (path_count bytes) (text_length bytes) end
    o.0 (sym paths) texts o.2 (header_is bytes fits sound) o.1 (sym rest)

by_reading : OnlyWrittenIsRead → (read : Reading (List PlainNumbered)) (bytes text : List ℕ)
    → IsBytes bytes → header_broken bytes ≡ None → documents_read bytes ≡ read
    → reading_broken read bytes ≡ None → rule_7 read text bytes ≡ None
    → bytes ≡ segment_bytes (read_of read) text
by_reading only (broken at) bytes text fits sound is late seven = absurd cc
by_reading only (reads docs end) bytes text fits sound is late seven =
    let both = none_both (ruled 5 (wrong_number 20 docs))
    (ruled 6 (rule_6 (length (all_paths docs)) end bytes)) late in
    read_whole only bytes text docs end fits sound is
    (unruled 6 (rule_6 (length (all_paths docs)) end bytes) both.1) seven

pub accepted_is_written : OnlyWrittenIsRead → AcceptedIsWritten
accepted_is_written only docs bytes fits a =
    let found = a.0 in
    let read = documents_read bytes in
    let late = ruled 7 (rule_7 read found.text bytes) in
    let both = none_both (first_six_broken bytes) late found.first in
    let six = none_both (header_broken bytes) (reading_broken read bytes) both.0 in
    let whole = by_reading only read bytes found.text fits six.0 refl six.1
    (unruled 7 (rule_7 read found.text bytes) both.1) in
    record {
      text = found.text;
      given = subst (λ z. IsTextOf z found.text) (sym a.1) (found.given both.0);
      whole = whole ∙ ap (λ z. segment_bytes z found.text) (sym a.1);
    }
