-- The documents of a range of numbers.
use Rattle.std.proofs.Common.{◌≡◌, ◌≤◌, ◌<◌, ◌+◌, ℕ, Bool, true, false, ◌&&◌, List, [], ◌∷◌, ◌++◌}
use Rattle.std.proofs.Common.{length, take, drop, refl, sym, ap, ◌∙◌, arith}
use Rattle.std.specs.Prelude.{filter, nat_le}
use Rattle.std.proofs.lemmas.Bool.Decides.{nat_tests}
use Rattle.std.proofs.lemmas.List.{length-append, take-append-drop, length-take}
use Rattle.std.proofs.lemmas.List.Elements.{filter-append}
use Rattle.sg_paths.specs.Operations.{PlainOp, adds, updates, deletes, PlainNumbered}
use Rattle.sg_paths.specs.Operations.{documents_from}
use Rattle.sg_paths.proofs.LiveDocumentsLemmas.{documents_from-append}

and_none : (b : Bool) → (b && false) ≡ false
and_none true = refl
and_none false = refl

-- of later ones, none
from_low : (f u n : ℕ) (ops : List PlainOp) → u < n
    → filter (λ d. nat_le f d.seq && nat_le d.seq u) (documents_from n ops) ≡ []
from_low f u n [] less = refl
from_low f u n (adds d ∷ ops) less =
    let t : nat_le n u ≡ false = grind (arith, nat_tests, less) in
    rw (t, and_none (nat_le f n)) (from_low f u (n + 1) ops (omega (arith, less)))
from_low f u n (updates d ∷ ops) less =
    let t : nat_le n u ≡ false = grind (arith, nat_tests, less) in
    rw (t, and_none (nat_le f n)) (from_low f u (n + 1) ops (omega (arith, less)))
from_low f u n (deletes id ∷ ops) less = from_low f u (n + 1) ops (omega (arith, less))

-- all of them, from a number on up to the last
from_all : (f u n : ℕ) (ops : List PlainOp) → f ≤ n → n + length ops ≤ u + 1
    → filter (λ d. nat_le f d.seq && nat_le d.seq u) (documents_from n ops) ≡ documents_from n ops
from_all f u n [] low high = refl
from_all f u n (adds d ∷ ops) low high =
    let t : nat_le f n ≡ true = grind (arith, nat_tests, low) in
    let t' : nat_le n u ≡ true = grind (arith, nat_tests, high) in
    rw (t, t') (ap (λ (ds : List PlainNumbered). record { seq = n; document = d } ∷ ds)
    (from_all f u (n + 1) ops (omega (arith, low)) (omega (arith, high))))
from_all f u n (updates d ∷ ops) low high =
    let t : nat_le f n ≡ true = grind (arith, nat_tests, low) in
    let t' : nat_le n u ≡ true = grind (arith, nat_tests, high) in
    rw (t, t') (ap (λ (ds : List PlainNumbered). record { seq = n; document = d } ∷ ds)
    (from_all f u (n + 1) ops (omega (arith, low)) (omega (arith, high))))
from_all f u n (deletes id ∷ ops) low high =
    from_all f u (n + 1) ops (omega (arith, low)) (omega (arith, high))

-- of those before it, none
from_before : (f u n : ℕ) (ops : List PlainOp) → n + length ops ≤ f
    → filter (λ d. nat_le f d.seq && nat_le d.seq u) (documents_from n ops) ≡ []
from_before f u n [] low = refl
from_before f u n (adds d ∷ ops) low =
    let t : nat_le f n ≡ false = grind (arith, nat_tests, low) in
    rw t (from_before f u (n + 1) ops (omega (arith, low)))
from_before f u n (updates d ∷ ops) low =
    let t : nat_le f n ≡ false = grind (arith, nat_tests, low) in
    rw t (from_before f u (n + 1) ops (omega (arith, low)))
from_before f u n (deletes id ∷ ops) low = from_before f u (n + 1) ops (omega (arith, low))

-- the last of a journal, from one behind the first n on
pub last_documents : (n : ℕ) (journal : List PlainOp) → n ≤ length journal
    → filter (λ d. nat_le (n + 1) d.seq && nat_le d.seq (length journal)) (documents_from 1 journal)
    ≡ documents_from (n + 1) (drop n journal)
last_documents n journal within =
    let first = take n journal in
    let last = drop n journal in
    let test : PlainNumbered → Bool =
    λ d. nat_le (n + 1) d.seq && nat_le d.seq (length journal) in
    let long : length first ≡ n = (let e = length-take n journal in omega (arith, e, within)) in
    let both : length first + length last ≡ length journal =
    (let e = length-append first last in
    omega (arith, e, ap (λ (ops : List PlainOp). length ops) (take-append-drop n journal))) in
    let at : 1 + length first ≡ n + 1 = omega (arith, long) in
    ap (λ (ops : List PlainOp). filter test (documents_from 1 ops)) (sym (take-append-drop n
    journal))
    ∙ ap (filter test) (documents_from-append 1 first last)
    ∙ filter-append test (documents_from 1 first) (documents_from (1 + length first) last)
    ∙ ap (λ (ds : List PlainNumbered). ds ++ filter test (documents_from (1 + length first) last))
    (from_before (n + 1) (length journal) 1 first (omega (arith, long)))
    ∙ ap (λ (m : ℕ). filter test (documents_from m last)) at
    ∙ from_all (n + 1) (length journal) (n + 1) last (omega arith) (omega (arith, both, long))
