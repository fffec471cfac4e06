-- The rows that a view prints are those of the documents that have their numbers.
use Rattle.std.proofs.Common.{◌≡◌, ◌≤◌, ◌<◌, ◌⊎◌, inl, inr, ◌+◌, ℕ, zero, suc, Bool, true, false}
use Rattle.std.proofs.Common.{cond, List, [], ◌∷◌, ◌++◌, length, map, take, drop, Some, refl, sym}
use Rattle.std.proofs.Common.{ap, ◌∙◌, subst, arith}
use Rattle.std.specs.Prelude.{filter, find, get_or, ◌==◌, nat_eq}
use Rattle.std.specs.List.{AllByRecursion, All}
use Rattle.std.proofs.lemmas.Bool.Decides.{nat_tests}
use Rattle.std.proofs.lemmas.List.{take-append-drop}
use Rattle.std.proofs.lemmas.List.Elements.{All-head, All-tail}
use Rattle.sg_base.specs.Lists.{In}
use Rattle.sg_base.specs.declared.hit.Hit.{Hit}
use Rattle.sg_paths.specs.Documents.{PlainSuggestion}
use Rattle.sg_paths.specs.Operations.{PlainOp, adds, updates, deletes, PlainNumbered}
use Rattle.sg_paths.specs.Operations.{documents_from}
use Rattle.sg_paths.proofs.LiveDocumentsLemmas.{documents_from-append}
use Rattle.sg_answers.specs.Reports.{ViewedSegment}
use Rattle.segment.specs.Items.{total_of}
use Rattle.collector.specs.Hits.{rows_of, row_of as rank_of}
use Rattle.index_core.specs.Histories.{Record, is_among}
use Rattle.index_core.specs.Generations.{documents_of, holders_of}
use Rattle.best_first.specs.Parts.{no_document, no_suggestion}
use Rattle.sg_view.specs.Viewing.{LiveSegment, seen_segment, PlainView}
use Rattle.sg_view.specs.Rows.{HasHit, IsNumbered, documents_at, hit_key}
use Rattle.wire_replies.specs.Rows.{Row}
use Rattle.sg_shell.specs.Rows.{text_at, row_by, row_of, printed_rows}
use Rattle.sg_shell.specs.Runs.{segment_seen}
use Rattle.sg_shell.specs.Viewed.{ArePartOf, IsSegmentOf}
use Rattle.sg_shell.specs.Working.{IsShown, hit_row}

-- ---- documents by number

abbrev has_number : ℕ → PlainNumbered → Bool
has_number n d = d.seq == n

-- what operations bring have numbers from the first on
later_number : (n : ℕ) (ops : List PlainOp) (d : PlainNumbered) → In d (documents_from n ops)
    → n ≤ d.seq
later_number n [] d there = elim there [ ]
later_number n (adds e ∷ ops) d (inl is) =
    let same : d.seq ≡ n = ap (λ (x : PlainNumbered). x.seq) is in omega arith
later_number n (adds e ∷ ops) d (inr later) =
    let more = later_number (n + 1) ops d later in omega (arith, more)
later_number n (updates e ∷ ops) d (inl is) =
    let same : d.seq ≡ n = ap (λ (x : PlainNumbered). x.seq) is in omega arith
later_number n (updates e ∷ ops) d (inr later) =
    let more = later_number (n + 1) ops d later in omega (arith, more)
later_number n (deletes id ∷ ops) d later =
    let more = later_number (n + 1) ops d later in omega (arith, more)

-- behind a document of the first number
found_first : (d e : PlainNumbered) (ds : List PlainNumbered) (n : ℕ) → e.seq ≡ n
    → (In d ds → n + 1 ≤ d.seq) → (In d ds → find (has_number d.seq) ds ≡ Some d)
    → (d ≡ e) ⊎ In d ds → find (has_number d.seq) (e ∷ ds) ≡ Some d
found_first d e ds n first over again (inl is) =
    let test : nat_eq e.seq d.seq ≡ true =
    (let same : d.seq ≡ e.seq = ap (λ (x : PlainNumbered). x.seq) is in
    grind (arith, nat_tests, same)) in
    rw test (ap Some (sym is))
found_first d e ds n first over again (inr later) =
    let more = over later in
    let test : nat_eq e.seq d.seq ≡ false = grind (arith, nat_tests, first, more) in
    rw test (again later)

-- a document of operations is found by its number
pub found : (n : ℕ) (ops : List PlainOp) (d : PlainNumbered) → In d (documents_from n ops)
    → find (has_number d.seq) (documents_from n ops) ≡ Some d
found n [] d there = elim there [ ]
found n (adds e ∷ ops) d there =
    found_first d (record { seq = n; document = e }) (documents_from (n + 1) ops) n refl
    (later_number (n + 1) ops d) (found (n + 1) ops d) there
found n (updates e ∷ ops) d there =
    found_first d (record { seq = n; document = e }) (documents_from (n + 1) ops) n refl
    (later_number (n + 1) ops d) (found (n + 1) ops d) there
found n (deletes id ∷ ops) d there = found (n + 1) ops d there

-- ---- members

in_filter : (t : PlainNumbered → Bool) (d : PlainNumbered) (ds : List PlainNumbered)
    → In d (filter t ds) → In d ds
in_filter t d [] there = there
in_filter t d (e ∷ es) there = by_test (t e) there (in_filter t d es)
  where
    by_test : (b : Bool) → In d (cond b (e ∷ filter t es) (filter t es))
        → (In d (filter t es) → In d es) → (d ≡ e) ⊎ In d es
    by_test true (inl is) again = inl is
    by_test true (inr later) again = inr (again later)
    by_test false later again = inr (again later)

in_front : (d : PlainNumbered) (ds es : List PlainNumbered) → In d ds → In d (ds ++ es)
in_front d [] es there = elim there [ ]
in_front d (x ∷ xs) es (inl is) = inl is
in_front d (x ∷ xs) es (inr later) = inr (in_front d xs es later)

in_place : (i : ℕ) (d : PlainNumbered) (ds : List PlainNumbered) → i < length ds
    → In (get_or ds i d) ds
in_place i d [] less = absurd (omega (arith, less))
in_place zero d (x ∷ xs) less = inl refl
in_place (suc i) d (x ∷ xs) less = inr (in_place i d xs (omega (arith, less)))

-- one is counted where it is a member
counted : (n : ℕ) (d : PlainNumbered) (ds : List PlainNumbered) → d.seq ≡ n → In d ds
    → 1 ≤ total_of (λ x. cond (has_number n x) 1 0) ds
counted n d [] is there = elim there [ ]
counted n d (x ∷ xs) is (inl same) =
    let test : nat_eq x.seq n ≡ true =
    (let e : d.seq ≡ x.seq = ap (λ (y : PlainNumbered). y.seq) same in
    grind (arith, nat_tests, e, is)) in
    rw test (omega arith)
counted n d (x ∷ xs) is (inr later) =
    let more = counted n d xs is later in omega (arith, more)

-- where one is counted, one is found
found_counted : (n : ℕ) (ds : List PlainNumbered)
    → 1 ≤ total_of (λ x. cond (has_number n x) 1 0) ds
    → (d : PlainNumbered) × (find (has_number n) ds ≡ Some d) × (d.seq ≡ n) × In d ds
found_counted n [] some = absurd (omega (arith, some))
found_counted n (x ∷ xs) some =
    by_test (has_number n x) refl (λ less. found_counted n xs less)
  where
    by_test : (b : Bool) → has_number n x ≡ b
        → (1 ≤ total_of (λ y. cond (has_number n y) 1 0) xs
        → (d : PlainNumbered) × (find (has_number n) xs ≡ Some d) × (d.seq ≡ n) × In d xs)
        → (d : PlainNumbered) × (cond (has_number n x) (Some x) (find (has_number n) xs) ≡ Some d)
        × (d.seq ≡ n) × ((d ≡ x) ⊎ In d xs)
    by_test true is again =
        let same : x.seq ≡ n = grind (arith, nat_tests, is) in
        (x, ap (λ (b : Bool). cond b (Some x) (find (has_number n) xs)) is, same, inl refl)
    by_test false is again =
        let rest = total_of (λ y. cond (has_number n y) 1 0) xs in
        let less : total_of (λ y. cond (has_number n y) 1 0) (x ∷ xs) ≡ 0 + rest =
        ap (λ (b : Bool). cond b 1 0 + rest) is in
        let later = again (omega (arith, some, less)) in (
          later.0,
          ap (λ (b : Bool). cond b (Some x) (find (has_number n) xs)) is ∙ later.1,
          later.2,
          inr later.3,
        )

-- a document of a part is found among the first operations
found_in_part : (journal : List PlainOp) (n : ℕ) (d : PlainNumbered) (ds : List PlainNumbered)
    → In d ds → In d (documents_from 1 journal)
    → ArePartOf ds (documents_from 1 (take n journal))
    → find (has_number d.seq) (documents_from 1 (take n journal)) ≡ Some d
found_in_part journal n d ds there inside part =
    let one = counted d.seq d ds refl there in
    let less = part (λ x. cond (has_number d.seq x) 1 0) in
    let some = found_counted d.seq (documents_from 1 (take n journal)) (omega (arith, one, less)) in
    let e = some.0 in
    let split : documents_from 1 journal
    ≡ documents_from 1 (take n journal)
    ++ documents_from (1 + length (take n journal)) (drop n journal) =
    ap (documents_from 1) (sym (take-append-drop n journal))
    ∙ documents_from-append 1 (take n journal) (drop n journal) in
    let e_in : In e (documents_from 1 journal) =
    subst (In e) (sym split) (in_front e (documents_from 1 (take n journal)) _ some.3) in
    let whole = found 1 journal e e_in in
    let same : Some e ≡ Some d =
    sym whole ∙ ap (λ (k : ℕ). find (has_number k) (documents_from 1 journal)) some.2
    ∙ found 1 journal d inside in
    some.1 ∙ same

-- ---- segments

-- the segment at a place is that of a generation
seen_at : (r : Record) (n : ℕ) (added : List PlainNumbered) (ss : List LiveSegment) (gs : List ℕ)
    (i : ℕ) → i < length ss → map seen_segment ss ≡ map (segment_seen r n) gs
    → AllByRecursion (IsSegmentOf added) (map (segment_seen r n) gs)
    → (g : ℕ) × (documents_at ss i ≡ documents_of r g) × ArePartOf (documents_of r g) added
seen_at r n added [] gs i less same all = absurd (omega (arith, less))
seen_at r n added (s ∷ ss) [] i less same all = cc
seen_at r n added (s ∷ ss) (g ∷ gs) zero less same all =
    let first : seen_segment s ≡ segment_seen r n g = cc in
    (g, ap (λ (x : ViewedSegment). x.documents) first, all.0.part)
seen_at r n added (s ∷ ss) (g ∷ gs) (suc i) less same all =
    let rest : map seen_segment ss ≡ map (segment_seen r n) gs = cc in
    seen_at r n added ss gs i (omega (arith, less)) rest all.1

-- ---- rows

text_here : (ss : List PlainSuggestion) (i : ℕ) (s : PlainSuggestion) → i < length ss
    → (get_or ss i s).text ≡ text_at i ss
text_here [] i s less = absurd (omega (arith, less))
text_here (x ∷ xs) zero s less = refl
text_here (x ∷ xs) (suc i) s less = text_here xs i s (omega (arith, less))

module _ (r : Record) (v : PlainView) (shown : IsShown r v) where
  row_is : (h : Hit) → HasHit v.segments h → IsNumbered v.segments h
      → hit_row v.segments h
      ≡ row_of (documents_from 1 (take v.upto r.journal)) (rank_of (hit_key v.segments) h)
  row_is h has number =
      let added = documents_from 1 (take v.upto r.journal) in
      let ds = documents_at v.segments h.piece in
      let at = seen_at r v.upto added v.segments v.generations h.piece has.0 shown.sees
      shown.is_in.each in
      let d = get_or ds h.doc no_document in
      let there : In d (documents_of r at.0) =
      subst (In d) at.1 (in_place h.doc no_document ds has.1.0) in
      let inside : In d (documents_from 1 r.journal) =
      in_filter (λ x. is_among at.0 (holders_of r x)) d (documents_from 1 r.journal) there in
      let finds : find (has_number h.seq) added ≡ Some d =
      ap (λ (k : ℕ). find (has_number k) added) number
      ∙ found_in_part r.journal v.upto d (documents_of r at.0) there inside at.2 in
      let text = text_here d.document.suggestions h.place
      no_suggestion has.1.1 in
      ap (λ (t : List ℕ). record {
        id = d.document.id;
        score = h.score;
        seq = h.seq;
        text = t;
      }) text
      ∙ ap (row_by (rank_of (hit_key v.segments) h)) (sym finds)

  pub rows_are : (hits : List Hit) → All (HasHit v.segments) hits
      → All (IsNumbered v.segments) hits
      → map (hit_row v.segments) hits
      ≡ printed_rows r.journal v.upto (rows_of (hit_key v.segments) hits)
  rows_are [] has numbers = refl
  rows_are (h ∷ hs) has numbers =
      ap (λ (x : Row). x ∷ map (hit_row v.segments) hs)
      (row_is h (All-head (HasHit v.segments) h hs has)
      (All-head (IsNumbered v.segments) h hs numbers))
      ∙ ap (λ (xs : List Row).
      row_of (documents_from 1 (take v.upto r.journal)) (rank_of (hit_key v.segments) h) ∷ xs)
      (rows_are hs (All-tail (HasHit v.segments) h hs has)
      (All-tail (IsNumbered v.segments) h hs numbers))
