-- What deletes and updates reach, and the live documents one operation at a time.
use Rattle.std.proofs.Common.{◌≡◌, ℕ, zero, suc, ◌+◌, ◌<◌, ◌≤◌, Bool, true, false, not, List, []}
use Rattle.std.proofs.Common.{◌∷◌, ◌++◌, length, take, drop, refl, sym, ◌∙◌, ap, arith}
use Rattle.std.specs.Prelude.{filter, bytes_eq}
use Rattle.std.proofs.lemmas.List.{append_assoc, take_all, drop-append-le, length-append, drop_all}
use Rattle.std.proofs.lemmas.List.Elements.{filter-append}
use Rattle.std.proofs.lemmas.List.Folds.{list_any-append}
use Rattle.std.proofs.lemmas.Grind.{common_steps}
use Rattle.std.specs.List.{list_any}
use Rattle.std.specs.Cmp.Lexicographic.{nat_list_eq_equiv}
use Rattle.sg_paths.specs.Documents.{PlainDocument}
use Rattle.sg_paths.specs.Operations.{PlainOp, adds, updates, deletes, PlainNumbered}
use Rattle.sg_paths.specs.Operations.{documents_from}
use Rattle.sg_paths.specs.LiveDocuments.{deletes_id, is_deleted, live_documents, live_of}
use Rattle.sg_paths.specs.LiveDocuments.{ReachesEarlierDocumentsOnly, LeavesItsOwnDocumentAlone}

-- past its place, nothing is left of an operation
same_after : (before after : List PlainOp) (one other : PlainOp) (upto n : ℕ)
    → length before < n
    → drop n (take upto (before ++ one ∷ after)) ≡ drop n (take upto (before ++ other ∷ after))
same_after before after one other upto zero h = absurd (omega (arith, h))
same_after [] after one other zero (suc n) h = refl
same_after [] after one other (suc upto) (suc n) h = refl
same_after (x ∷ xs) after one other zero (suc n) h = refl
same_after (x ∷ xs) after one other (suc upto) (suc n) h =
    same_after xs after one other upto n (omega (arith, h))

pub reaches_earlier : ReachesEarlierDocumentsOnly
reaches_earlier before after one other upto d h =
    ap (λ (later : List PlainOp). list_any (deletes_id d.document.id) later)
    (same_after before after one other upto d.seq h)

-- a number that is reached in another way
documents_from_at : (m n : ℕ) (ops : List PlainOp) → m ≡ n
    → documents_from m ops ≡ documents_from n ops
documents_from_at m n ops e = ap (λ (k : ℕ). documents_from k ops) e

-- documents of one list after those of another
pub documents_from-append : (n : ℕ) (xs ys : List PlainOp)
    → documents_from n (xs ++ ys) ≡ documents_from n xs ++ documents_from (n + length xs) ys
documents_from-append n [] ys = documents_from_at n (n + 0) ys (omega arith)
documents_from-append n (adds d ∷ xs) ys =
    ap (λ (ds : List PlainNumbered). record { seq = n; document = d } ∷ ds)
    (documents_from-append (n + 1) xs ys
    ∙ ap (λ (ds : List PlainNumbered). documents_from (n + 1) xs ++ ds)
    (documents_from_at (n + 1 + length xs) (n + suc (length xs)) ys (omega arith)))
documents_from-append n (updates d ∷ xs) ys =
    ap (λ (ds : List PlainNumbered). record { seq = n; document = d } ∷ ds)
    (documents_from-append (n + 1) xs ys
    ∙ ap (λ (ds : List PlainNumbered). documents_from (n + 1) xs ++ ds)
    (documents_from_at (n + 1 + length xs) (n + suc (length xs)) ys (omega arith)))
documents_from-append n (deletes id ∷ xs) ys =
    documents_from-append (n + 1) xs ys
    ∙ ap (λ (ds : List PlainNumbered). documents_from (n + 1) xs ++ ds)
    (documents_from_at (n + 1 + length xs) (n + suc (length xs)) ys (omega arith))

-- the live documents of operations, where the first has the number n and no more come
abbrev pub live_from : ℕ → List PlainOp → List PlainNumbered
live_from n [] = []
live_from n (operation ∷ later) = live_of n operation later ++ live_from (n + 1) later

-- whether a document is live at the end of a journal
abbrev is_live : List PlainOp → PlainNumbered → Bool
is_live journal d = not (is_deleted journal (length journal) d)

live_of-at : (journal : List PlainOp) (n : ℕ) (o : PlainOp) (later : List PlainOp)
    → drop n (take (length journal) journal) ≡ later
    → live_of n o later ≡ filter (is_live journal) (documents_from n (o ∷ []))
live_of-at journal n (adds d) later e =
    ap (λ (ops : List PlainOp).
    filter (λ (x : PlainNumbered). not (list_any (deletes_id x.document.id) ops))
    (record { seq = n; document = d } ∷ [])) (sym e)
live_of-at journal n (updates d) later e =
    ap (λ (ops : List PlainOp).
    filter (λ (x : PlainNumbered). not (list_any (deletes_id x.document.id) ops))
    (record { seq = n; document = d } ∷ [])) (sym e)
live_of-at journal n (deletes id) later e = refl

-- what comes after an operation
drop_past : (before : List PlainOp) (o : PlainOp) (later : List PlainOp) (n : ℕ)
    → n ≡ length before + 1 → drop n (before ++ o ∷ later) ≡ later
drop_past before o later zero e = absurd (omega (arith, e))
drop_past [] o later (suc zero) e = refl
drop_past [] o later (suc (suc n)) e = absurd (omega (arith, e))
drop_past (x ∷ xs) o later (suc n) e = drop_past xs o later n (omega (arith, e))

later_of : (before : List PlainOp) (o : PlainOp) (later journal : List PlainOp) (n : ℕ)
    → before ++ o ∷ later ≡ journal → n ≡ length before + 1
    → drop n (take (length journal) journal) ≡ later
later_of before o later journal n e n-is =
    rw (take_all (length journal) journal (omega arith))
    (rw (← e) (drop_past before o later n n-is))

live_from-at : (before ops journal : List PlainOp) (n : ℕ)
    → before ++ ops ≡ journal → n ≡ length before + 1
    → live_from n ops ≡ filter (is_live journal) (documents_from n ops)
live_from-at before [] journal n e n-is = refl
live_from-at before (o ∷ ops) journal n e n-is =
    let here = live_of-at journal n o ops (later_of before o ops journal n e n-is) in
    let there =
    live_from-at (before ++ o ∷ []) ops journal (n + 1) (append_assoc before (o ∷ []) ops ∙ e)
    (omega (arith, length-append before (o ∷ []), n-is)) in
    let split = documents_from-append n (o ∷ []) ops in
    let spread =
    ap (λ (ds : List PlainNumbered). filter (is_live journal) ds) split
    ∙ filter-append (is_live journal) (documents_from n (o ∷ [])) (documents_from (n + 1) ops) in
    rw here (rw there (sym spread))

pub live_from-is : (journal : List PlainOp)
    → live_from 1 journal ≡ live_documents journal (length journal)
live_from-is journal =
    live_from-at [] journal journal 1 refl refl
    ∙ ap (λ (ops : List PlainOp). filter (is_live journal) (documents_from 1 ops))
    (sym (take_all (length journal) journal (omega arith)))

-- an element that passes one of two tests alone is filtered out by both
both_fail : {X : Type 0} (s k : X → Bool) (x : X) → (s x ≡ true → k x ≡ false)
    → filter s (filter k (x ∷ [])) ≡ []
both_fail {X} s k x h = by_cases (k x) (s x) refl refl
  where
    by_cases : (b c : Bool) → k x ≡ b → s x ≡ c → filter s (filter k (x ∷ [])) ≡ []
    by_cases false c ek es = rw ek refl
    by_cases true false ek es = rw ek (rw es refl)
    by_cases true true ek es = let f : k x ≡ false = h es in cc

-- an element that passes both tests stays
both_pass : {X : Type 0} (s k : X → Bool) (x : X) → s x ≡ true → k x ≡ true
    → filter s (filter k (x ∷ [])) ≡ x ∷ []
both_pass s k x es ek = rw ek (rw es refl)

-- the journal once an update comes after `before`
abbrev updated : List PlainOp → PlainDocument → List PlainOp
updated before document = before ++ updates document ∷ []

-- whether a document is live then
abbrev stays : List PlainOp → PlainDocument → PlainNumbered → Bool
stays before document d = not (is_deleted (updated before document) (length before + 1) d)

-- whether it has the update's id
abbrev has_id : PlainDocument → PlainNumbered → Bool
has_id document d = bytes_eq d.document.id document.id

-- no operation is left out
whole : (before : List PlainOp) (document : PlainDocument)
    → take (length before + 1) (updated before document) ≡ updated before document
whole before document =
    take_all (length before + 1) (updated before document)
    (omega (arith, length-append before (updates document ∷ [])))

-- an earlier one with its id is deleted
is_reached : (before : List PlainOp) (document : PlainDocument) (d : PlainNumbered)
    → d.seq ≤ length before → has_id document d ≡ true → stays before document d ≡ false
is_reached before document d h same =
    rw (whole before document)
    (rw (drop-append-le d.seq before (updates document ∷ []) h)
    (rw (list_any-append (deletes_id d.document.id) (drop d.seq before) (updates document ∷ []))
    (grind (arith, same, common_steps))))

-- those among the documents that have the id and stay
abbrev kept : List PlainOp → PlainDocument → List PlainNumbered → List PlainNumbered
kept before document ds = filter (has_id document) (filter (stays before document) ds)

kept-append : (before : List PlainOp) (document : PlainDocument) (xs ys : List PlainNumbered)
    → kept before document (xs ++ ys) ≡ kept before document xs ++ kept before document ys
kept-append before document xs ys =
    ap (λ (ds : List PlainNumbered). filter (has_id document) ds)
    (filter-append (stays before document) xs ys)
    ∙ filter-append (has_id document) (filter (stays before document) xs)
    (filter (stays before document) ys)

none_more : (before : List PlainOp) (document : PlainDocument) (n : ℕ) (d : PlainDocument)
    (later : List PlainNumbered) → n ≤ length before → kept before document later ≡ []
    → kept before document (record { seq = n; document = d } ∷ later) ≡ []
none_more before document n d later h none =
    let x : PlainNumbered = record { seq = n; document = d } in
    kept-append before document (x ∷ []) later
    ∙ rw (both_fail (has_id document) (stays before document) x (is_reached before document x h))
    none

none_left : (before : List PlainOp) (document : PlainDocument) (n : ℕ) (ops : List PlainOp)
    → n + length ops ≤ length before + 1 → kept before document (documents_from n ops) ≡ []
none_left before document n [] h = refl
none_left before document n (adds d ∷ ops) h =
    none_more before document n d (documents_from (n + 1) ops) (omega (arith, h))
    (none_left before document (n + 1) ops (omega (arith, h)))
none_left before document n (updates d ∷ ops) h =
    none_more before document n d (documents_from (n + 1) ops) (omega (arith, h))
    (none_left before document (n + 1) ops (omega (arith, h)))
none_left before document n (deletes id ∷ ops) h =
    none_left before document (n + 1) ops (omega (arith, h))

-- nothing comes after the update's own document
own_stays : (before : List PlainOp) (document : PlainDocument)
    → stays before document (record { seq = length before + 1; document = document }) ≡ true
own_stays before document =
    rw (whole before document)
    (rw (drop_all (length before + 1) (updated before document)
    (omega (arith, length-append before (updates document ∷ [])))) refl)

pub leaves_its_own : LeavesItsOwnDocumentAlone
leaves_its_own before document =
    let own : PlainNumbered = record { seq = length before + 1; document = document } in
    let added : documents_from 1 (take (length before + 1) (updated before document))
    ≡ documents_from 1 before ++ own ∷ [] =
    rw (whole before document)
    (documents_from-append 1 before (updates document ∷ [])
    ∙ ap (λ (ds : List PlainNumbered). documents_from 1 before ++ ds)
    (documents_from_at (1 + length before) (length before + 1) (updates document ∷ [])
    (omega arith))) in
    rw added
    (kept-append before document (documents_from 1 before) (own ∷ [])
    ∙ rw (none_left before document 1 before (omega arith))
    (both_pass (has_id document) (stays before document) own
    (nat_list_eq_equiv.refl document.id) (own_stays before document)))
