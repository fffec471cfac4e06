-- What was written breaks no rule, and its documents are read back.
use Rattle.std.proofs.Common.{◌≡◌, ◌≤◌, ◌<◌, ◌+◌, ◌*◌, ℕ, suc, true, not, ◌&&◌, cond}
use Rattle.std.proofs.Common.{eqb}
use Rattle.std.proofs.Common.{List, [], ◌∷◌, ◌++◌, length, map, drop, Option, Some, None, refl, sym}
use Rattle.std.proofs.Common.{ap}
use Rattle.std.proofs.Common.{◌∙◌, subst, arith, append_assoc, length-append, eq-eqb}
use Rattle.std.specs.Prelude.{nat_lt, nat_le}
use Rattle.std.specs.List.{AllByRecursion, flat_map}
use Rattle.std.specs.Int.{w32, to_be_bytes}
use Rattle.std.specs.Cmp.Lexicographic.{bytes_decides}
use Rattle.std.proofs.lemmas.Bool.{le-ltb}
use Rattle.std.proofs.lemmas.Bool.Decides.{nat_tests}
use Rattle.std.proofs.lemmas.List.{length-map}
use Rattle.std.proofs.lemmas.Nat.{from_be_bytes-to_be_bytes_4, from_be_bytes-to_be_bytes_8}
use Rattle.sg_base.specs.Ranking.{in_order}
use Rattle.sg_base.proofs.InOrderLemmas.{length-in_order}
use Rattle.sg_paths.specs.Operations.{PlainNumbered}
use Rattle.sg_paths.specs.AllPaths.{all_paths}
use Rattle.fst_code.specs.Rules.{or_first, firsts, broken_if, common, ruled}
use Rattle.fst_code.proofs.OneTextLemmas.{one_text}
use Rattle.seg_table.specs.declared.owner.Owner.{Owner}
use Rattle.seg_table.specs.Owners.{owner_of}
use Rattle.seg_table.specs.Ids.{IdPlace, id_cmp, id_index, placed_from}
use Rattle.seg_bytes.specs.Fields.{Reading, reads}
use Rattle.seg_bytes.specs.DocumentBytes.{document_bytes, documents_bytes}
use Rattle.seg_bytes.specs.DocumentsRead.{documents_at}
use Rattle.seg_bytes.specs.Numbers.{wrong_number, wrong_number_after}
use Rattle.seg_bytes.specs.Laws.{DocumentsReadBack}
use Rattle.segment.specs.Represents.{IsTextOf, RiseFrom, NumbersRise}
use Rattle.segment.specs.SegmentBytes.{header_bytes, owner_bytes, rest_bytes, segment_bytes}
use Rattle.segment.specs.SegmentBytes.{IsWritten}
use Rattle.segment.specs.Rules.{document_count, path_count, text_length, rest_length, header_broken}
use Rattle.segment.specs.Rules.{rule_1, rule_2, rule_3, rule_6, rule_7, documents_read}
use Rattle.segment.specs.Rules.{documents_in}
use Rattle.segment.specs.Rules.{read_of, reading_broken, first_six_broken, Finds}
use Rattle.segment.specs.Faults.{Accepts}
use Rattle.segment.specs.Laws.{FindsOne, IsNumbered, MayBeHeld, WrittenIsAccepted}

-- numbers that rise from 1 to the most break no rule
less_true : (a b : ℕ) → a < b → nat_lt a b ≡ true
less_true a b h = grind (arith, nat_tests)

le_true : (a b : ℕ) → a ≤ b → nat_le a b ≡ true
le_true a b h = grind (arith, nat_tests)

none_wrong : (last at : ℕ) (docs : List PlainNumbered) → RiseFrom last docs
    → AllByRecursion IsNumbered docs → wrong_number_after last at docs ≡ None
unfolding wrong_number_after
none_wrong last at [] r a = refl
none_wrong last at (d ∷ ds) r a =
    let later = wrong_number_after d.seq (at + length (document_bytes d)) ds in
    ap (λ x. cond (x && nat_le d.seq 4194304) later (Some at)) (less_true last d.seq r.0)
    ∙ ap (λ x. cond x later (Some at)) (le_true d.seq 4194304 a.0.1)
    ∙ none_wrong d.seq (at + length (document_bytes d)) ds r.1 a.1

rises_from_one : (docs : List PlainNumbered) → NumbersRise docs → AllByRecursion IsNumbered docs
    → RiseFrom 0 docs
rises_from_one [] r a = tt
rises_from_one (d ∷ ds) r a = (let one = a.0.0 in omega (arith, one), r)

-- the header
module _ (documents paths text : ℕ) (rest : List ℕ) where
  abbrev headed : List ℕ
  headed = header_bytes documents paths text ++ rest

  document_count-headed : documents < 4294967296 → document_count headed ≡ documents
  document_count-headed h = from_be_bytes-to_be_bytes_4 documents h

  path_count-headed : paths < 4294967296 → path_count headed ≡ paths
  path_count-headed h = from_be_bytes-to_be_bytes_4 paths h

  text_length-headed : text < 18446744073709551616 → text_length headed ≡ text
  text_length-headed h = from_be_bytes-to_be_bytes_8 text h

  length-headed : length headed ≡ 20 + length rest
  length-headed = length-append (header_bytes documents paths text) rest

three_none : (a b c : Option ℕ) → a ≡ None → b ≡ None → c ≡ None
    → firsts (ruled 1 a ∷ ruled 2 b ∷ ruled 3 c ∷ []) ≡ None
three_none a b c p q r = rw (p, q, r) refl

both_few : (m n a b d p : ℕ) → a ≡ d → b ≡ p → d ≤ m → p ≤ n
    → or_first (broken_if (nat_lt m a) 4) (broken_if (nat_lt n b) 8) ≡ None
both_few m n a b d p is was h k =
    let few = le-ltb m a (omega (arith, is, h)) in
    let many = le-ltb n b (omega (arith, was, k)) in
    rw (few, many) refl

header-sound : (documents paths text : ℕ) (rest : List ℕ) → documents ≤ 1048576
    → paths ≤ 4194304 → header_broken (header_bytes documents paths text ++ rest) ≡ None
header-sound documents paths text rest few many =
    let whole = header_bytes documents paths text ++ rest in
    let l = length-headed documents paths text rest in
    let long = le-ltb (length whole) 20 (omega (arith, l)) in
    three_none (rule_1 whole) (rule_2 whole) (rule_3 whole)
    (ap (λ b. broken_if b (length whole)) long)
    refl
    (both_few 1048576 4194304 (document_count whole) (path_count whole) documents paths
    (document_count-headed documents paths text rest (omega (arith, few)))
    (path_count-headed documents paths text rest (omega (arith, many))) few many)

-- how long the rest is
length-owners : (os : List Owner) → length (flat_map owner_bytes os) ≡ 5 * length os
length-owners [] = refl
length-owners (o ∷ os) =
    let a = length-append (owner_bytes o) (flat_map owner_bytes os) in
    let h = length-owners os in omega (arith, a, h)

length-places : (ns : List ℕ) → length (flat_map (to_be_bytes w32) ns) ≡ 4 * length ns
length-places [] = refl
length-places (n ∷ ns) =
    let a = length-append (to_be_bytes w32 n) (flat_map (to_be_bytes w32) ns) in
    let h = length-places ns in omega (arith, a, h)

length-placed_from : (n : ℕ) (docs : List PlainNumbered) → length (placed_from n docs) ≡ length docs
length-placed_from n [] = refl
length-placed_from n (d ∷ ds) = ap suc (length-placed_from (n + 1) ds)

length-id_index : (docs : List PlainNumbered) → length (id_index docs) ≡ length docs
length-id_index docs =
    length-map (in_order id_cmp (placed_from 0 docs)) (λ (p : IdPlace). p.place)
    ∙ length-in_order id_cmp (placed_from 0 docs) ∙ length-placed_from 0 docs

pub length-rest_bytes : (docs : List PlainNumbered) (text : List ℕ)
    → length (rest_bytes docs text)
    ≡ 5 * length (all_paths docs) + 4 * length docs + length text
length-rest_bytes docs text =
    let owners = map owner_of (all_paths docs) in
    let a = length-owners owners in
    let b = length-map (all_paths docs) owner_of in
    let c = length-places (id_index docs) in
    let d = length-id_index docs in
    let e = length-append (flat_map (to_be_bytes w32) (id_index docs)) text in
    let f = length-append (flat_map owner_bytes owners)
    (flat_map (to_be_bytes w32) (id_index docs) ++ text) in
    omega (arith, a, b, c, d, e, f)

drop-behind : (xs ys : List ℕ) → drop (length xs) (xs ++ ys) ≡ ys
drop-behind [] ys = refl
drop-behind (x ∷ xs) ys = drop-behind xs ys

counts-sound : (paths end : ℕ) (bytes : List ℕ) → path_count bytes ≡ paths
    → length bytes ≡ end + rest_length bytes → rule_6 paths end bytes ≡ None
counts-sound paths end bytes is long =
    ap (λ b. or_first (broken_if (not b) 8)
    (broken_if (not (eqb (length bytes) (end + rest_length bytes))) (length bytes)))
    (eq-eqb (path_count bytes) paths is)
    ∙ ap (λ b. broken_if (not b) (length bytes))
    (eq-eqb (length bytes) (end + rest_length bytes) long)

rest-sound : (docs : List PlainNumbered) (end : ℕ) (text bytes : List ℕ)
    → drop end bytes ≡ rest_bytes docs text → rule_7 (reads docs end) text bytes ≡ None
rest-sound docs end text bytes is =
    ap (λ b. broken_if (not b) (end + common (rest_bytes docs text) (drop end bytes)))
    ((bytes_decides (rest_bytes docs text) (drop end bytes)).1 (sym is))

all_sound : (header : Option (ℕ × ℕ)) (read : Reading (List PlainNumbered))
    (docs : List PlainNumbered) (end : ℕ) (text bytes : List ℕ) → header ≡ None
    → read ≡ reads docs end → reading_broken (reads docs end) bytes ≡ None
    → rule_7 (reads docs end) text bytes ≡ None
    → or_first (or_first header (reading_broken read bytes)) (ruled 7 (rule_7 read text bytes))
    ≡ None
all_sound header read docs end text bytes h r six seven =
    ap (λ x. or_first (or_first x (reading_broken read bytes)) (ruled 7 (rule_7 read text bytes))) h
    ∙ ap (λ x. or_first (reading_broken x bytes) (ruled 7 (rule_7 x text bytes))) r
    ∙ ap (λ x. or_first x (ruled 7 (rule_7 (reads docs end) text bytes))) six
    ∙ ap (λ x. ruled 7 x) seven

reading-sound : (docs : List PlainNumbered) (end : ℕ) (bytes : List ℕ)
    → wrong_number 20 docs ≡ None → rule_6 (length (all_paths docs)) end bytes ≡ None
    → reading_broken (reads docs end) bytes ≡ None
reading-sound docs end bytes five six =
    ap (λ x. or_first (ruled 5 x) (ruled 6 (rule_6 (length (all_paths docs)) end bytes))) five
    ∙ ap (λ x. ruled 6 x) six

accepted : DocumentsReadBack → (docs : List PlainNumbered) (text : List ℕ) → MayBeHeld docs
    → IsTextOf docs text → length (segment_bytes docs text) < 18446744073709551616
    → Accepts (segment_bytes docs text) docs
accepted back docs text may given fits =
    let d = length docs in
    let p = length (all_paths docs) in
    let t = length text in
    let head = header_bytes d p t in
    let written = documents_bytes docs in
    let rest = rest_bytes docs text in
    let bytes = segment_bytes docs text in
    let end = 20 + length written in
    let long = length-headed d p t (written ++ rest) in
    let both = length-append written rest in
    let size = length-rest_bytes docs text in
    let documents = document_count-headed d p t (written ++ rest)
    (let h = may.few in omega (arith, h)) in
    let paths = path_count-headed d p t (written ++ rest) (let h = may.many in omega (arith, h)) in
    let texts = text_length-headed d p t (written ++ rest)
    (omega (arith, fits, long, both, size)) in
    let read : documents_read bytes ≡ reads docs end =
    ap (λ n. documents_at n bytes 20) documents ∙ back docs may.writable head rest in
    let five = none_wrong 0 20 docs (rises_from_one docs may.rise may.numbered) may.numbered in
    let six = counts-sound p end bytes paths
    (omega (arith, long, both, size, documents, paths, texts)) in
    let front = length-append head written in
    let behind : drop end bytes ≡ rest =
    ap (λ n. drop n bytes) (let h : end ≡ length (head ++ written) = omega (arith, front) in h)
    ∙ ap (λ z. drop (length (head ++ written)) z) (sym (append_assoc head written rest))
    ∙ drop-behind (head ++ written) rest in
    let held = ap read_of read in (
      record {
        text = text;
        given = λ _. subst (λ z. IsTextOf z text) (sym held) given;
        first = all_sound (header_broken bytes) (documents_read bytes) docs end text bytes
            (header-sound d p t (written ++ rest) may.few may.many) read
            (reading-sound docs end bytes five six) (rest-sound docs end text bytes behind);
      },
      sym held,
    )

pub written_is_accepted : DocumentsReadBack → WrittenIsAccepted
written_is_accepted back docs bytes may w fits =
    subst (λ z. Accepts z docs) (sym w.whole)
    (accepted back docs w.text may w.given
    (subst (λ (z : List ℕ). length z < 18446744073709551616) w.whole fits))

-- nothing else is found
same_given : (bytes a b : List ℕ) → IsTextOf (documents_in bytes) a
    → IsTextOf (documents_in bytes) b → a ≡ b
same_given bytes a b x y = one_text a b x.bytes y.bytes x.valid y.valid (x.maps ∙ sym y.maps)

finds_by : (six : Option (ℕ × ℕ)) (bytes a b : List ℕ) (f g : Option (ℕ × ℕ))
    → (six ≡ None → IsTextOf (documents_in bytes) a)
    → (six ≡ None → IsTextOf (documents_in bytes) b)
    → or_first six (ruled 7 (rule_7 (documents_read bytes) a bytes)) ≡ f
    → or_first six (ruled 7 (rule_7 (documents_read bytes) b bytes)) ≡ g → f ≡ g
finds_by (Some x) bytes a b f g p q r s = sym r ∙ s
finds_by None bytes a b f g p q r s =
    sym r ∙ ap (λ z. ruled 7 (rule_7 (documents_read bytes) z bytes))
    (same_given bytes a b (p refl) (q refl)) ∙ s

pub finds_one : FindsOne
finds_one bytes f g x y =
    finds_by (first_six_broken bytes) bytes x.text y.text f g x.given y.given x.first y.first

-- so the check of what was written names no rule, and gives the same documents
pub none_refused : WrittenIsAccepted → (docs : List PlainNumbered) (bytes : List ℕ) (x : ℕ × ℕ)
    → MayBeHeld docs → IsWritten docs bytes → length bytes < 18446744073709551616
    → Finds bytes (Some x) → ⊥
none_refused law docs bytes x may w fits found =
    let same = finds_one bytes None (Some x) (law docs bytes may w fits).0 found in absurd cc

pub same_documents : WrittenIsAccepted → (docs held : List PlainNumbered) (bytes : List ℕ)
    → MayBeHeld docs → IsWritten docs bytes → length bytes < 18446744073709551616
    → Accepts bytes held → held ≡ docs
same_documents law docs held bytes may w fits a =
    a.1 ∙ sym (law docs bytes may w fits).1
