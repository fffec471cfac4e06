-- What is known of documents that were read.
use Rattle.std.proofs.Common.{◌≡◌, ◌≤◌, ◌<◌, ◌+◌, ℕ, Bool, true, false, ◌&&◌, cond}
use Rattle.std.proofs.Common.{List, [], ◌∷◌, length, Option, Some, None, refl, sym, ap, ◌∙◌, arith}
use Rattle.std.proofs.Common.{not, eqb, subst}
use Rattle.std.specs.Prelude.{nat_lt, nat_le}
use Rattle.std.proofs.lemmas.Bool.Decides.{nat_tests}
use Rattle.std.proofs.lemmas.Bool.{ne_eqb}
use Rattle.sg_paths.specs.Operations.{PlainNumbered}
use Rattle.sg_paths.specs.AllPaths.{all_paths, path_entries}
use Rattle.sg_paths.proofs.RiseLemmas.{length-all_paths}
use Rattle.fst_code.specs.Rules.{or_first, firsts, broken_if, ruled}
use Rattle.seg_bytes.specs.Fields.{reads}
use Rattle.seg_bytes.specs.DocumentBytes.{document_bytes}
use Rattle.seg_bytes.specs.Numbers.{wrong_number, wrong_number_after}
use Rattle.segment.specs.Represents.{IsTextOf, RiseFrom, NumbersRise}
use Rattle.segment.specs.Rules.{rule_1, rule_2, rule_3, rule_6, rule_7, header_broken}
use Rattle.segment.specs.Rules.{document_count, path_count, rest_length, documents_read}
use Rattle.segment.specs.Rules.{documents_in, read_of, reading_broken, first_six_broken, Finds}
use Rattle.segment.specs.Checking.{IsFound, IsRead, IsBuilt}

less_of : (a b : ℕ) → nat_lt a b ≡ true → a < b
less_of a b h = grind (arith, nat_tests)

-- numbers that break no rule rise
pub rise_after : (last at : ℕ) (docs : List PlainNumbered)
    → wrong_number_after last at docs ≡ None → RiseFrom last docs
unfolding wrong_number_after
rise_after last at [] h = tt
rise_after last at (d ∷ ds) h =
    by (nat_lt last d.seq) (nat_le d.seq 4194304) refl
    (rise_after d.seq (at + length (document_bytes d)) ds) h
  where
    by : (x y : Bool) → nat_lt last d.seq ≡ x
        → (wrong_number_after d.seq (at + length (document_bytes d)) ds ≡ None → RiseFrom d.seq ds)
        → cond (x && y) (wrong_number_after d.seq (at + length (document_bytes d)) ds) (Some at)
        ≡ None
        → (last < d.seq) × RiseFrom d.seq ds
    by true true is f h = (less_of last d.seq is, f h)
    by true false is f h = absurd cc
    by false y is f h = absurd cc

pub numbers_of : (at : ℕ) (docs : List PlainNumbered) → wrong_number at docs ≡ None
    → NumbersRise docs
numbers_of at [] h = tt
numbers_of at (d ∷ ds) h = (rise_after 0 at (d ∷ ds) h).1

-- what no broken rule says
pub parts_of : (a b c : Option ℕ) → firsts (ruled 1 a ∷ ruled 2 b ∷ ruled 3 c ∷ []) ≡ None
    → (a ≡ None) × (b ≡ None) × (c ≡ None)
parts_of (Some x) b c h = absurd cc
parts_of None (Some x) c h = absurd cc
parts_of None None (Some x) h = absurd cc
parts_of None None None h = (refl, refl, refl)

both_of : (x y : Option ℕ) → or_first x y ≡ None → (x ≡ None) × (y ≡ None)
both_of (Some x) y h = absurd cc
both_of None y h = (refl, h)

pub not_broken : (b : Bool) (at : ℕ) → broken_if b at ≡ None → b ≡ false
not_broken true at h = absurd cc
not_broken false at h = refl

pub no_less : (a b : ℕ) → nat_lt a b ≡ false → b ≤ a
no_less a b h = grind (arith, nat_tests)

pub whole_header : (bytes : List ℕ) → header_broken bytes ≡ None → 20 ≤ length bytes
whole_header bytes h =
    let all = parts_of (rule_1 bytes) (rule_2 bytes) (rule_3 bytes) h in
    no_less (length bytes) 20 (not_broken (nat_lt (length bytes) 20) (length bytes) all.0)

few_paths : (bytes : List ℕ) → header_broken bytes ≡ None → path_count bytes ≤ 4194304
few_paths bytes h =
    let all = parts_of (rule_1 bytes) (rule_2 bytes) (rule_3 bytes) h in
    let both = both_of (broken_if (nat_lt 1048576 (document_count bytes)) 4)
    (broken_if (nat_lt 4194304 (path_count bytes)) 8) all.2 in
    no_less 4194304 (path_count bytes) (not_broken (nat_lt 4194304 (path_count bytes)) 8 both.1)

pub few_documents : (bytes : List ℕ) → header_broken bytes ≡ None
    → document_count bytes ≤ 1048576
few_documents bytes h =
    let all = parts_of (rule_1 bytes) (rule_2 bytes) (rule_3 bytes) h in
    let both = both_of (broken_if (nat_lt 1048576 (document_count bytes)) 4)
    (broken_if (nat_lt 4194304 (path_count bytes)) 8) all.2 in
    no_less 1048576 (document_count bytes)
    (not_broken (nat_lt 1048576 (document_count bytes)) 4 both.0)

-- which rule is the first that is broken
pub five_is : (bytes : List ℕ) (docs : List PlainNumbered) (end : ℕ) (found : Option ℕ)
    → IsFound bytes docs end → wrong_number 20 docs ≡ found
    → first_six_broken bytes
    ≡ or_first (ruled 5 found) (ruled 6 (rule_6 (length (all_paths docs)) end bytes))
five_is bytes docs end found f is =
    ap (λ h. or_first h (reading_broken (documents_read bytes) bytes)) f.header
    ∙ ap (λ r. reading_broken r bytes) f.read
    ∙ ap (λ x. or_first (ruled 5 x) (ruled 6 (rule_6 (length (all_paths docs)) end bytes))) is

pub six_is : (bytes : List ℕ) (docs : List PlainNumbered) (end paths : ℕ) (found : Option ℕ)
    → IsRead bytes docs end → paths ≡ length (all_paths docs) → found ≡ rule_6 paths end bytes
    → first_six_broken bytes ≡ ruled 6 found
six_is bytes docs end paths found r count is =
    five_is bytes docs end None r.found r.numbers
    ∙ ap (λ n. ruled 6 (rule_6 n end bytes)) (sym count) ∙ ap (λ x. ruled 6 x) (sym is)

pub six_exceeds : (bytes : List ℕ) (docs : List PlainNumbered) (end : ℕ) → IsRead bytes docs end
    → nat_lt 4194304 (length (path_entries 0 docs)) ≡ true
    → first_six_broken bytes ≡ Some (6, 8)
six_exceeds bytes docs end r h =
    let many = less_of 4194304 (length (path_entries 0 docs)) h in
    let same = length-all_paths docs in
    let few = few_paths bytes r.found.header in
    let apart = ne_eqb (path_count bytes) (length (all_paths docs))
    (λ e. omega (arith, many, same, few, e)) in
    six_is bytes docs end (length (all_paths docs)) (Some 8) r refl
    (sym (ap (λ b. or_first (broken_if (not b) 8)
    (broken_if (not (eqb (length bytes) (end + rest_length bytes))) (length bytes))) apart))

-- which rule is the first that is broken, with the text of the documents
pub finds : (bytes : List ℕ) (docs held : List PlainNumbered) (text : List ℕ) (end : ℕ)
    (found : Option ℕ) → IsBuilt bytes docs end held → IsTextOf held text
    → found ≡ rule_7 (reads held end) text bytes → Finds bytes (ruled 7 found)
finds bytes docs held text end found b given is =
    let read = b.read ∙ ap (λ ds. reads ds end) (sym b.same) in
    record {
      text = text;
      given = λ _. subst (λ z. IsTextOf z text) (sym (ap read_of read)) given;
      first =
          ap (λ x. or_first x (ruled 7 (rule_7 (documents_read bytes) text bytes))) b.six
          ∙ ap (λ r. ruled 7 (rule_7 r text bytes)) read ∙ ap (λ x. ruled 7 x) (sym is);
    }

pub held_in : (bytes : List ℕ) (docs held : List PlainNumbered) (end : ℕ)
    → IsBuilt bytes docs end held → held ≡ documents_in bytes
held_in bytes docs held end b = b.same ∙ sym (ap read_of b.read)
