-- The parts of a merge that the plan gives can be merged, and what they keep is what the record
-- says.
use Rattle.std.proofs.Common.{◌≡◌, ◌≤◌, ◌+◌, ◌*◌, ℕ, Bool, true, false, not, nat_eq}
use Rattle.std.proofs.Common.{List, [], ◌∷◌, ◌++◌, length, map, refl, sym, ap, ◌∙◌, subst}
use Rattle.std.proofs.Common.{arith}
use Rattle.std.specs.Prelude.{filter, sum_by, count_by}
use Rattle.std.specs.List.{AllByRecursion, flat_map}
use Rattle.std.proofs.lemmas.Bool.Decides.{nat_tests}
use Rattle.std.proofs.lemmas.List.{length-map}
use Rattle.sg_base.specs.Ranking.{in_order}
use Rattle.sg_paths.specs.declared.limits.TheConstants.{MOST_SEGMENT_DOCUMENTS}
use Rattle.sg_paths.specs.declared.limits.TheConstants.{MOST_SEGMENT_PATHS}
use Rattle.sg_paths.specs.Operations.{PlainOp, PlainNumbered, documents_from}
use Rattle.sg_paths.specs.Paths.{paths}
use Rattle.sg_paths.specs.LiveDocuments.{is_deleted}
use Rattle.segment.specs.Pieces.{PieceBody, unbuilt, segment, PlainPiece, piece_documents}
use Rattle.segment.specs.Views.{PlainParts, AreCovered, all_documents}
use Rattle.merge_work.specs.Merging.{HasSegment, IsSource, AreMergeable, unless_empty}
use Rattle.merge_work.specs.Merging.{merged_documents as merged_of}
use Rattle.index_core.specs.Histories.{Record, is_among}
use Rattle.index_core.specs.Records.{current}
use Rattle.index_core.specs.Generations.{holders_of, documents_of, is_built}
use Rattle.index_core.specs.LegalHistories.{merged_documents}
use Rattle.index_core.specs.CurrentPieces.{is_segment, IsPieceOf}
use Rattle.index_core.specs.EndedMerges.{document_cmp, OneHolds, holding}
use Rattle.index_core.specs.MergeCalls.{merge_of, AreMergeOf}
use Rattle.index_core.specs.PlannedMerges.{FitOneSegment}
use Rattle.index_core.specs.WorkedMerges.{HoldTheSame, WorkedMergesBring}
use Rattle.index_core.specs.WorkedMerges.{PlannedMergesCanBeWorked}
use Rattle.index_core.proofs.ByNumberLemmas.{by_numbers}
use Rattle.index_core.proofs.JournalLemmas.{covered_longer}
use Rattle.index_core.proofs.ListLemmas.{all_weaker}
use Rattle.index_core.proofs.MergedPieceLemmas.{one_of_count}
use Rattle.index_core.proofs.PlannedFitLemmas.{sum_split, one_of, count_is_sum, planned_fit}
use Rattle.index_core.proofs.RisingLemmas.{rises_less}

-- ---- the documents of pieces

-- the documents of pieces are those of their generations
pub documents_are : (r : Record) (ps : List PlainPiece)
    → AllByRecursion (λ p. piece_documents p ≡ documents_of r p.generation) ps
    → all_documents ps ≡ flat_map (documents_of r) (map (λ p. p.generation) ps)
documents_are r [] all = refl
documents_are r (p ∷ ps) all =
    ap (λ (ds : List PlainNumbered). ds ++ all_documents ps) all.0
    ∙ ap (λ (ds : List PlainNumbered). documents_of r p.generation ++ ds)
    (documents_are r ps all.1)

pub own_documents : (r : Record) (ps : List PlainPiece) → AllByRecursion (IsPieceOf r) ps
    → AllByRecursion (λ p. piece_documents p ≡ documents_of r p.generation) ps
own_documents r ps each =
    all_weaker (IsPieceOf r) (λ p. piece_documents p ≡ documents_of r p.generation)
    (λ p is. is.documents) ps each

same_documents : (r s : Record) (ps : List PlainPiece) → AllByRecursion (IsPieceOf r) ps
    → HoldTheSame r s (map (λ p. p.generation) ps)
    → AllByRecursion (λ p. piece_documents p ≡ documents_of s p.generation) ps
same_documents r s [] each same = tt
same_documents r s (p ∷ ps) each same =
    (each.0.documents ∙ sym same.0, same_documents r s ps each.1 same.1)

-- ---- sources

has_segment : (b : PieceBody) → is_segment b ≡ true → HasSegment b
has_segment (unbuilt batch) is = let no : false ≡ true = is in absurd cc
has_segment (segment documents) is = tt

sources_are : (r : Record) (ps : List PlainPiece) → AllByRecursion (IsPieceOf r) ps
    → AllByRecursion (λ g. is_built r g ≡ true) (map (λ p. p.generation) ps)
    → AllByRecursion IsSource ps
sources_are r [] each built = tt
sources_are r (p ∷ ps) each built = (
  record {
    built = has_segment p.body (sym each.0.has_segment ∙ built.0);
    live_docs = ap (λ (bs : List Bool). length bs) each.0.live_docs
        ∙ length-map (piece_documents p) (λ d. not (is_deleted r.journal p.applied d));
  },
  sources_are r ps each.1 built.1,
)

pub fitting : (r : Record) (parts : PlainParts) → AllByRecursion (IsPieceOf r) parts.pieces
    → map (λ p. p.generation) parts.pieces ≡ parts.generations
    → FitOneSegment r parts.generations → AreMergeable parts
fitting r parts each generations fit =
    let same : flat_map (documents_of r) parts.generations ≡ all_documents parts.pieces =
    ap (λ (gs : List ℕ). flat_map (documents_of r) gs) (sym generations)
    ∙ sym (documents_are r parts.pieces (own_documents r parts.pieces each)) in
    record {
      sources = sources_are r parts.pieces each
          (subst (λ (gs : List ℕ). AllByRecursion (λ g. is_built r g ≡ true) gs)
          (sym generations) fit.planned.built);
      few = let count = length-map parts.pieces (λ (p : PlainPiece). p.generation) in
          let numbers = ap (λ (gs : List ℕ). length gs) generations in
          let few = fit.few in omega (arith, count, numbers, few);
      numbers = λ n. subst (λ (ds : List PlainNumbered). count_by (λ d. nat_eq d.seq n) ds ≤ 1)
          same (fit.numbers n);
      documents = subst (λ (ds : List PlainNumbered). length ds ≤ MOST_SEGMENT_DOCUMENTS) same
          fit.documents;
      paths = subst (λ (ds : List PlainNumbered).
          sum_by (λ d. length (paths d.document)) ds ≤ MOST_SEGMENT_PATHS) same fit.paths;
    }

pub mergeable : PlannedMergesCanBeWorked
mergeable r parts n up plan generations each within once =
    fitting r parts each generations
    (planned_fit r parts.generations plan (rises_less 0 n (current r) (omega arith) up) within once)

-- ---- what a merge keeps

at_most_one : (k v rest total : ℕ) → total ≡ k * v + rest → total ≤ 1 → v ≡ 1 → k ≤ 1
at_most_one k v rest total split most one = let now = rw one at split in omega (arith, now, most)

rest_at_most : (first rest total : ℕ) → total ≡ first + rest → total ≤ 1 → rest ≤ 1
rest_at_most first rest total split most = omega (arith, split, most)

one_itself : (d : PlainNumbered) → one_of d.seq d ≡ 1
one_itself d = let same : nat_eq d.seq d.seq ≡ true = itself d.seq in rw same refl
  where
    itself : (n : ℕ) → nat_eq n n ≡ true
    itself n = grind (arith, nat_tests)

-- of documents with different numbers each passes one test at most
each_once : (p : ℕ → PlainNumbered → Bool) (gens : List ℕ) (ds : List PlainNumbered)
    → ((n : ℕ) → sum_by (one_of n) (flat_map (λ g. filter (p g) ds) gens) ≤ 1)
    → AllByRecursion (λ d. length (filter (λ g. p g d) gens) ≤ 1) ds
each_once p gens [] most = tt
each_once p gens (d ∷ ds) most = (
  at_most_one (length (filter (λ g. p g d) gens)) (one_of d.seq d)
      (sum_by (one_of d.seq) (flat_map (λ g. filter (p g) ds) gens))
      (sum_by (one_of d.seq) (flat_map (λ g. filter (p g) (d ∷ ds)) gens))
      (sum_split (one_of d.seq) p d ds gens) (most d.seq) (one_itself d),
  each_once p gens ds (λ n.
      rest_at_most (length (filter (λ g. p g d) gens) * one_of n d)
      (sum_by (one_of n) (flat_map (λ g. filter (p g) ds) gens))
      (sum_by (one_of n) (flat_map (λ g. filter (p g) (d ∷ ds)) gens))
      (sum_split (one_of n) p d ds gens) (most n)),
)

-- where pieces have the documents of a record's generations, each number once
pub merged_at : (s : Record) (caller : ℕ) (parts : PlainParts)
    → AllByRecursion (λ p. piece_documents p ≡ documents_of s p.generation) parts.pieces
    → map (λ p. p.generation) parts.pieces ≡ parts.generations
    → ((n : ℕ) → count_by (λ d. nat_eq d.seq n) (all_documents parts.pieces) ≤ 1)
    → merged_of s.journal parts ≡ merged_documents s (merge_of caller parts)
merged_at s caller parts documents generations numbers =
    let gens = parts.generations in
    let same : all_documents parts.pieces ≡ flat_map (documents_of s) gens =
    documents_are s parts.pieces documents
    ∙ ap (λ (gs : List ℕ). flat_map (documents_of s) gs) generations in
    let once : AllByRecursion (λ d. holding s d gens ≤ 1) (documents_from 1 s.journal) =
    each_once (λ g d. is_among g (holders_of s d)) gens (documents_from 1 s.journal)
    (λ n. subst (λ (ds : List PlainNumbered). sum_by (one_of n) ds ≤ 1) same
    (let count = count_is_sum n (all_documents parts.pieces) in
    let most = numbers n in omega (arith, count, most))) in
    ap (λ (ds : List PlainNumbered).
    in_order document_cmp (filter (λ d. not (is_deleted s.journal parts.upto d)) ds)) same
    ∙ by_numbers s (merge_of caller parts)
    (all_weaker (λ d. holding s d gens ≤ 1) (λ d. OneHolds s d gens)
    (λ d most. one_of_count s d gens most) (documents_from 1 s.journal) once)

-- what the work of a merge keeps is, in each later record in which its generations hold the same,
-- what the record says
pub merged_is : (r s : Record) (caller : ℕ) (parts : PlainParts) → AreMergeOf r parts
    → AreMergeable parts → HoldTheSame r s parts.generations
    → merged_of s.journal parts ≡ merged_documents s (merge_of caller parts)
merged_is r s caller parts are can same =
    merged_at s caller parts
    (same_documents r s parts.pieces are.each
    (subst (λ (gs : List ℕ). HoldTheSame r s gs) (sym are.covered.generations) same))
    are.covered.generations can.numbers

pub worked_bring : WorkedMergesBring
worked_bring r s more caller parts brought later are can same worked =
    worked s.journal (subst (λ (ops : List PlainOp). AreCovered ops parts) (sym later)
    (covered_longer r.journal more parts are.covered))
    ∙ ap unless_empty (merged_is r s caller parts are can same)
