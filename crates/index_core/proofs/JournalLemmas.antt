-- What stays the same over a longer journal.
use Rattle.std.proofs.Common.{◌≡◌, ◌≤◌, ◌<◌, ℕ, Bool, false, not, List, [], ◌∷◌, ◌++◌, length}
use Rattle.std.proofs.Common.{map, take, drop, refl, sym, ap, ◌∙◌, arith, length-append}
use Rattle.std.specs.Prelude.{filter}
use Rattle.std.specs.List.{AllByRecursion, list_any}
use Rattle.std.proofs.lemmas.List.{take-append-le}
use Rattle.std.proofs.lemmas.List.Elements.{filter_agree}
use Rattle.sg_paths.specs.Operations.{PlainOp, adds, updates, deletes, PlainNumbered}
use Rattle.sg_paths.specs.Operations.{documents_from}
use Rattle.sg_paths.specs.LiveDocuments.{deletes_id, is_deleted, live_documents}
use Rattle.segment.specs.Pieces.{PlainPiece, piece_documents, live_docs_at}
use Rattle.segment.specs.Items.{total_of}
use Rattle.segment.specs.Views.{PlainParts, IsApplied, AreCovered, all_documents}
use Rattle.index_core.specs.LegalLaws.{PartsStay}

pub deleted_stays : (journal more : List PlainOp) (n : ℕ) (d : PlainNumbered)
    → n ≤ length journal → is_deleted (journal ++ more) n d ≡ is_deleted journal n d
deleted_stays journal more n d within =
    ap (λ (ops : List PlainOp). list_any (deletes_id d.document.id) (drop d.seq ops))
    (take-append-le n journal more within)

map_agree : (f g : PlainNumbered → Bool) (ds : List PlainNumbered)
    → ((d : PlainNumbered) → f d ≡ g d) → map f ds ≡ map g ds
map_agree f g [] same = refl
map_agree f g (d ∷ ds) same =
    ap (λ (b : Bool). b ∷ map f ds) (same d)
    ∙ ap (λ (bs : List Bool). g d ∷ bs) (map_agree f g ds same)

pub live_docs_stay : (journal more : List PlainOp) (n : ℕ) (ds : List PlainNumbered)
    → n ≤ length journal → live_docs_at (journal ++ more) n ds ≡ live_docs_at journal n ds
live_docs_stay journal more n ds within =
    map_agree (λ d. not (is_deleted (journal ++ more) n d)) (λ d. not (is_deleted journal n d)) ds
    (λ d. ap not (deleted_stays journal more n d within))

pub live_stays : (journal more : List PlainOp) (n : ℕ) → n ≤ length journal
    → live_documents (journal ++ more) n ≡ live_documents journal n
live_stays journal more n within =
    filter_agree (λ d. not (is_deleted (journal ++ more) n d)) (λ d. not (is_deleted journal n d))
    (λ d. ap not (deleted_stays journal more n d within))
    (documents_from 1 (take n (journal ++ more)))
    ∙ ap (λ (ops : List PlainOp). filter (λ d. not (is_deleted journal n d))
    (documents_from 1 ops)) (take-append-le n journal more within)

-- an operation adds no document that a test of its number passes
pub one_filtered : (t : PlainNumbered → Bool) (n : ℕ) (op : PlainOp)
    → ((d : PlainNumbered) → d.seq ≡ n → t d ≡ false) → filter t (documents_from n (op ∷ [])) ≡ []
one_filtered t n (adds d) none = rw (none (record { seq = n; document = d }) refl) refl
one_filtered t n (updates d) none = rw (none (record { seq = n; document = d }) refl) refl
one_filtered t n (deletes id) none = refl

pub before_more : (m n : ℕ) (ns : List ℕ) → AllByRecursion (λ u. u ≤ m) ns → m < n
    → AllByRecursion (λ u. u < n) ns
before_more m n [] all less = tt
before_more m n (x ∷ xs) all less = (omega (arith, all.0, less), before_more m n xs all.1 less)

-- ---- parts

applied_longer : (journal more : List PlainOp) (start upto : ℕ) (ps : List PlainPiece)
    → upto ≤ length journal → AllByRecursion (λ p. (start ≤ p.applied) × (p.applied ≤ upto)) ps
    → AllByRecursion (IsApplied journal) ps → AllByRecursion (IsApplied (journal ++ more)) ps
applied_longer journal more start upto [] within known all = tt
applied_longer journal more start upto (p ∷ ps) within known all = (
  all.0
      ∙ sym (live_docs_stay journal more p.applied (piece_documents p)
      (let most = known.0.1 in omega (arith, most, within))),
  applied_longer journal more start upto ps within known.1 all.1,
)

-- parts are still of the first operations of a journal that has more
pub covered_longer : (journal more : List PlainOp) (parts : PlainParts)
    → AreCovered journal parts → AreCovered (journal ++ more) parts
covered_longer journal more parts covered =
    let within = covered.within in
    record {
      within = (let l = length-append journal more in omega (arith, within, l));
      start = covered.start;
      applied = applied_longer journal more covered.start parts.upto parts.pieces within
          covered.known covered.applied;
      known = covered.known;
      covered = record {
        numbered = covered.covered.numbered;
        operations = covered.covered.operations
            ∙ ap (λ (ops : List PlainOp). drop covered.start ops)
            (sym (take-append-le parts.upto journal more within));
      };
      generations = covered.generations;
    }

pub parts_longer : PartsStay
parts_longer journal more parts are =
    let n = parts.upto in
    let within = are.pieces.within in
    record {
      pieces = covered_longer journal more parts are.pieces;
      live = λ f.
          ap (total_of f)
          (filter_agree (λ d. not (is_deleted (journal ++ more) n d))
          (λ d. not (is_deleted journal n d))
          (λ d. ap not (deleted_stays journal more n d within)) (all_documents parts.pieces))
          ∙ are.live f ∙ ap (total_of f) (sym (live_stays journal more n within));
    }
