-- A loop over documents whose numbers are to rise.
use Rattle.std.proofs.Common.{◌≡◌, ◌≤◌, ◌<◌, ◌+◌, ℕ, true, false, ◌&&◌, List, ◌∷◌, length}
use Rattle.std.proofs.Common.{drop, get_or, sym, ap, ◌∙◌, Some, None}
use Rattle.std.proofs.lemmas.List.{drop_more, drop_all}
use Rattle.std.specs.Prelude.{nat_lt, nat_le, if◌then◌else◌}
use Rattle.sg_paths.specs.Operations.{PlainNumbered}
use Rattle.seg_bytes.specs.declared.limits.TheConstants.{MOST_SEQ}
use Rattle.seg_bytes.specs.DocumentBytes.{document_bytes}
use Rattle.seg_bytes.specs.Numbers.{wrong_number_after}

-- the document that is next
next_is : (docs : List PlainNumbered) (i : ℕ) (d : PlainNumbered) → i < length docs
    → d ≡ get_or docs i d → drop i docs ≡ d ∷ drop (i + 1) docs
next_is docs i d h is =
    drop_more docs i d h ∙ ap (λ x. x ∷ drop (i + 1) docs) (sym is)

-- its number rises
pub one_rises : (docs : List PlainNumbered) (i : ℕ) (d : PlainNumbered) (last at : ℕ)
    → i < length docs → d ≡ get_or docs i d
    → (nat_lt last d.seq && nat_le d.seq MOST_SEQ) ≡ true
    → wrong_number_after last at (drop i docs)
    ≡ wrong_number_after d.seq (at + length (document_bytes d)) (drop (i + 1) docs)
unfolding wrong_number_after
one_rises docs i d last at h is rises =
    ap (wrong_number_after last at) (next_is docs i d h is)
    ∙ ap (λ b. if b
    then wrong_number_after d.seq (at + length (document_bytes d)) (drop (i + 1) docs)
    else Some at) rises

-- its number is wrong
pub one_wrong : (docs : List PlainNumbered) (i : ℕ) (d : PlainNumbered) (last at : ℕ)
    → i < length docs → d ≡ get_or docs i d
    → (nat_lt last d.seq && nat_le d.seq MOST_SEQ) ≡ false
    → wrong_number_after last at (drop i docs) ≡ Some at
unfolding wrong_number_after
one_wrong docs i d last at h is wrong =
    ap (wrong_number_after last at) (next_is docs i d h is)
    ∙ ap (λ b. if b
    then wrong_number_after d.seq (at + length (document_bytes d)) (drop (i + 1) docs)
    else Some at) wrong

-- no document is left
pub none_wrong : (docs : List PlainNumbered) (i last at : ℕ) → length docs ≤ i
    → wrong_number_after last at (drop i docs) ≡ None
unfolding wrong_number_after
none_wrong docs i last at h = ap (wrong_number_after last at) (drop_all i docs h)
