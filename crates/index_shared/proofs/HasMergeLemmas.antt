-- A merge that a handle has open: it stays so, and what its work brings is what a later record says
-- that it keeps.
use Rattle.std.proofs.Common.{◌≡◌, ◌≢◌, ◌≤◌, ℕ, false, not, nat_eq, List}
use Rattle.std.proofs.Common.{sym, ap, ◌∙◌, subst, arith}
use Rattle.std.specs.Prelude.{filter, Contains, Option}
use Rattle.std.specs.List.{AllByRecursion, flat_map, filter_map}
use Rattle.std.proofs.lemmas.Bool.{ne_eqb}
use Rattle.sg_base.specs.Ranking.{in_order}
use Rattle.sg_paths.specs.Operations.{PlainOp, PlainNumbered, documents_from}
use Rattle.sg_paths.specs.LiveDocuments.{is_deleted}
use Rattle.segment.specs.Views.{PlainParts, AreCovered, all_documents}
use Rattle.merge_work.specs.Merging.{unless_empty}
use Rattle.merge_work.specs.Merging.{merged_documents as merged_of}
use Rattle.index_core.specs.Histories.{Record, Merge, is_among, closed_merge}
use Rattle.index_core.specs.Records.{current, begun_merges, open_merges}
use Rattle.index_core.specs.Generations.{holders_of, documents_of}
use Rattle.index_core.specs.LegalHistories.{IsLegal, merged_documents}
use Rattle.index_core.specs.EndedMerges.{document_cmp, OneHolds, holding}
use Rattle.index_core.specs.HeldGenerations.{RisesFrom, WereDrawn}
use Rattle.index_core.specs.MergeCalls.{merge_of, without_merge, AreMergeOf}
use Rattle.index_core.proofs.ByNumberLemmas.{by_numbers}
use Rattle.index_core.proofs.JournalLemmas.{covered_longer}
use Rattle.index_core.proofs.KnownMergeLemmas.{of_each}
use Rattle.index_core.proofs.ListLemmas.{all_filter, all_weaker}
use Rattle.index_core.proofs.MergeableLemmas.{documents_are, own_documents}
use Rattle.index_core.proofs.MergedPieceLemmas.{fewer_pass, one_of_count, own_generations}
use Rattle.index_core.proofs.MergesLemmas.{is_ending}
use Rattle.index_core.proofs.SoundRecordLemmas.{legal_sound}
use Rattle.index_shared.specs.Sections.{HandleState, seen_by, having, Extends, FindsRecord}
use Rattle.index_shared.specs.OwnViews.{merges_by, HasMerge}
use Rattle.index_shared.proofs.ExtendsLemmas.{same_documents}
use Rattle.index_shared.proofs.ListLemmas.{in_whole, in_filtered}

-- ---- a merge stays

-- an open merge of a legal record has drawn generations
were_drawn : (r : Record) (c : ℕ) (m : Merge) → IsLegal r → Contains (merges_by c r) m
    → WereDrawn r m.generations
were_drawn r c m legal there =
    of_each (λ x. WereDrawn r x.generations) m (merges_by c r)
    (all_filter (λ x. WereDrawn r x.generations) (λ x. nat_eq x.caller c) (open_merges r)
    (all_filter (λ x. WereDrawn r x.generations)
    (λ x. not (is_among x.merge (filter_map closed_merge r.history))) (begun_merges r)
    (legal_sound r legal).were.merges)) there

-- where it is open still
pub has_still : (h : HandleState) (later : Record) (parts : PlainParts)
    → Extends (seen_by h) later → IsLegal later
    → Contains (merges_by h.number later) (merge_of h.number parts) → HasMerge h parts
    → HasMerge (having h later) parts
has_still h later parts more legal there has = record {
  legal = legal;
  opened = there;
  covered = subst (λ (ops : List PlainOp). AreCovered ops parts) (sym more.journal_is)
      (covered_longer h.journal more.operations parts has.covered);
  documents = has.documents
      ∙ sym (same_documents (seen_by h) later has.legal legal more parts.generations
      (were_drawn (seen_by h) h.number (merge_of h.number parts) has.legal has.opened));
}

-- where its handle's merges are the same
pub has_same : (h : HandleState) (later : Record) → Extends (seen_by h) later → IsLegal later
    → merges_by h.number later ≡ merges_by h.number (seen_by h) → (parts : PlainParts)
    → HasMerge h parts → HasMerge (having h later) parts
has_same h later more legal same parts has =
    has_still h later parts more legal
    (subst (λ (ms : List Merge). Contains ms (merge_of h.number parts)) (sym same) has.opened) has

-- where another one is closed
pub has_other : (h : HandleState) (n : ℕ) (later : Record) → Extends (seen_by h) later
    → IsLegal later → merges_by h.number later ≡ without_merge n (merges_by h.number (seen_by h))
    → (parts : PlainParts) → parts.number ≢ n → HasMerge h parts
    → HasMerge (having h later) parts
has_other h n later more legal fewer parts other has =
    let test : nat_eq parts.number n ≡ false = ne_eqb parts.number n other in
    has_still h later parts more legal
    (subst (λ (ms : List Merge). Contains ms (merge_of h.number parts)) (sym fewer)
    (in_filtered (λ (m : Merge). not (nat_eq m.merge n)) (merges_by h.number (seen_by h))
    (merge_of h.number parts) (ap not test) has.opened)) has

-- so it is open in what a section of its handle finds
pub open_in : (c : ℕ) (found : Record) (m : Merge) → Contains (merges_by c found) m
    → Contains (open_merges found) m
open_in c found m there = in_whole (λ (x : Merge). nat_eq x.caller c) (open_merges found) m there

-- ---- a merge that has begun

pub has_begun : (h : HandleState) (later : Record) (parts : PlainParts) → IsLegal later
    → AreMergeOf later parts
    → Contains (merges_by h.number later) (merge_of h.number parts)
    → HasMerge (having h later) parts
has_begun h later parts legal are there = record {
  legal = legal;
  opened = there;
  covered = are.covered;
  documents = documents_are later parts.pieces (own_documents later parts.pieces are.each)
      ∙ ap (λ (gs : List ℕ). flat_map (documents_of later) gs) are.covered.generations;
}

-- ---- what its work brings

-- no document is held by two generations of an open merge
one_holds : (r : Record) (m : Merge) → IsLegal r → Contains (open_merges r) m
    → AllByRecursion (λ d. OneHolds r d m.generations) (documents_from 1 r.journal)
one_holds r m legal there =
    let sound = legal_sound r legal in
    let ending = is_ending r m sound.plain sound.were there in
    let rises : RisesFrom 1 (current r) =
    subst (λ (gs : List ℕ). RisesFrom 1 gs) sound.are.generations sound.are.rising in
    let mine : filter (λ g. is_among g m.generations) (current r) ≡ m.generations =
    own_generations r m.generations 1 rises ending.rising ending.in_use in
    all_weaker (λ d. holding r d (current r) ≤ 1) (λ d. OneHolds r d m.generations)
    (λ d most. subst (λ (gs : List ℕ). OneHolds r d gs) mine
    (one_of_count r d (filter (λ g. is_among g m.generations) (current r))
    (let fewer = fewer_pass (λ g. is_among g (holders_of r d))
    (λ g. is_among g m.generations) (current r) in omega (arith, fewer, most))))
    (documents_from 1 r.journal) ending.one

-- the documents that the work keeps are those that the record says
merged_is : (r : Record) (c : ℕ) (parts : PlainParts) → IsLegal r
    → Contains (open_merges r) (merge_of c parts)
    → all_documents parts.pieces ≡ flat_map (documents_of r) parts.generations
    → merged_of r.journal parts ≡ merged_documents r (merge_of c parts)
merged_is r c parts legal there documents =
    ap (λ (ds : List PlainNumbered).
    in_order document_cmp (filter (λ d. not (is_deleted r.journal parts.upto d)) ds)) documents
    ∙ by_numbers r (merge_of c parts) (one_holds r (merge_of c parts) legal there)

pub brings : (h : HandleState) (found : Record) (parts : PlainParts)
    (brought : Option (List PlainNumbered)) → FindsRecord h found → IsLegal found
    → HasMerge (having h found) parts
    → ((journal : List PlainOp) → AreCovered journal parts
    → brought ≡ unless_empty (merged_of journal parts))
    → brought ≡ unless_empty (merged_documents found (merge_of h.number parts))
brings h found parts brought finds legal has worked =
    worked found.journal has.covered
    ∙ ap unless_empty (merged_is found h.number parts legal
    (open_in h.number found (merge_of h.number parts) has.opened) has.documents)
