-- The merges that a handle has open: what a critical section finds of them, and what it leaves.
use Rattle.std.proofs.Common.{◌≡◌, ◌≢◌, ℕ, nat_eq, not, List, [], ◌∷◌, ◌++◌, sym, ap, ◌∙◌, subst}
use Rattle.std.specs.Prelude.{Option, Contains}
use Rattle.sg_paths.specs.Operations.{PlainOp, PlainNumbered}
use Rattle.segment.specs.Views.{PlainParts, AreCovered}
use Rattle.merge_work.specs.Merging.{unless_empty}
use Rattle.merge_work.specs.Merging.{merged_documents as merged_of}
use Rattle.index_core.specs.Histories.{Record, Merge}
use Rattle.index_core.specs.Records.{open_merges}
use Rattle.index_core.specs.LegalHistories.{IsLegal, merged_documents}
use Rattle.index_core.specs.MergeCalls.{merge_of, released_by_merge, after_commit, without_merge}
use Rattle.index_shared.specs.Sections.{HandleState, seen_by, having, FindsRecord}
use Rattle.index_shared.specs.SharedCalls.{Committed}
use Rattle.index_shared.specs.OwnViews.{merges_by, HasMerge}
use Rattle.index_shared.proofs.AppendedLemmas.{OwnMore}
use Rattle.index_shared.proofs.ExtendsLemmas.{extends_on}
use Rattle.index_shared.proofs.HasMergeLemmas.{has_same, has_other, has_still, brings}
use Rattle.index_shared.proofs.ListLemmas.{in_whole, mine_same, mine_more, mine_fewer}
use Rattle.index_shared.proofs.OwnMergeLemmas.{own_merges_stay}
use Rattle.index_shared.proofs.SectionLemmas.{Visited, seen_is}

-- ---- what it has open is open in what its section finds

pub merge_found : (h : HandleState) (found : Record) (m : Merge) → FindsRecord h found
    → IsLegal found → Contains (merges_by h.number (seen_by h)) m → Contains (open_merges found) m
merge_found h found m finds legal there =
    in_whole (λ (x : Merge). nat_eq x.caller h.number) (open_merges found) m
    (subst (λ (ms : List Merge). Contains ms m) (sym (own_merges_stay h found finds legal)) there)

-- a merge that it has is one in the record found
pub found_has : (h : HandleState) (found : Record) (parts : PlainParts) → FindsRecord h found
    → IsLegal found → HasMerge h parts → HasMerge (having h found) parts
found_has h found parts finds legal has =
    has_same h found finds.later legal (own_merges_stay h found finds legal) parts has

-- ---- what it has open afterwards, from what is open

module _ (h : HandleState) (found later : Record) (finds : FindsRecord h found)
    (legal : IsLegal found) where
  abbrev before : List Merge
  before = merges_by h.number (seen_by h)

  pub merges_same : open_merges later ≡ open_merges found → merges_by h.number later ≡ before
  merges_same same =
      mine_same (λ (m : Merge). m.caller) h.number (open_merges found) (open_merges later) before
      (own_merges_stay h found finds legal) same

  pub merges_more : (m : Merge) → m.caller ≡ h.number
      → open_merges later ≡ open_merges found ++ m ∷ []
      → merges_by h.number later ≡ before ++ m ∷ []
  merges_more m mine more =
      mine_more (λ (x : Merge). x.caller) h.number (open_merges found) (open_merges later) before
      (own_merges_stay h found finds legal) m mine more

  merges_fewer : (n : ℕ) → open_merges later ≡ without_merge n (open_merges found)
      → merges_by h.number later ≡ without_merge n before
  merges_fewer n fewer =
      mine_fewer (λ (m : Merge). m.caller) h.number (open_merges found) (open_merges later) before
      (own_merges_stay h found finds legal) (λ m. not (nat_eq m.merge n)) fewer

-- the same of what the handle has seen
module _ {h new : HandleState} {found later : Record} (visit : Visited h found later new) where
  pub same_merges : open_merges later ≡ open_merges found
      → merges_by h.number (seen_by new) ≡ merges_by h.number (seen_by h)
  same_merges same =
      ap (merges_by h.number) (seen_is visit)
      ∙ merges_same h found later visit.finds visit.legal same

  pub fewer_merges : (n : ℕ) → open_merges later ≡ without_merge n (open_merges found)
      → merges_by h.number (seen_by new) ≡ without_merge n (merges_by h.number (seen_by h))
  fewer_merges n fewer =
      ap (merges_by h.number) (seen_is visit)
      ∙ merges_fewer h found later visit.finds visit.legal n fewer

  -- merges that it has
  module _ {c : ℕ} (more : OwnMore c 3 found later) (later_legal : IsLegal later) where
    -- those that are open still
    pub keeps_more : ((m : Merge) → Contains (merges_by h.number (seen_by h)) m
        → Contains (merges_by h.number later) m)
        → (parts : PlainParts) → HasMerge h parts → HasMerge new parts
    keeps_more still parts has =
        subst (λ (x : HandleState). HasMerge x parts) (sym visit.now_is)
        (has_still h later parts
        (extends_on (seen_by h) found later visit.finds.later more.later) later_legal
        (still (merge_of h.number parts) has.opened) has)

    pub keeps : open_merges later ≡ open_merges found → (parts : PlainParts) → HasMerge h parts
        → HasMerge new parts
    keeps same parts has =
        keeps_more (λ m there. subst (λ (ms : List Merge). Contains ms m)
        (sym (merges_same h found later visit.finds visit.legal same)) there) parts has

    pub keeps_other : (n : ℕ) → open_merges later ≡ without_merge n (open_merges found)
        → (parts : PlainParts) → parts.number ≢ n → HasMerge h parts → HasMerge new parts
    keeps_other n fewer parts other has =
        subst (λ (x : HandleState). HasMerge x parts) (sym visit.now_is)
        (has_other h n later
        (extends_on (seen_by h) found later visit.finds.later more.later) later_legal
        (merges_fewer h found later visit.finds visit.legal n fewer) parts other has)

-- ---- a merge ends

-- what its work brings is what the record found says
pub worked_found : (h : HandleState) (c : ℕ) (found : Record) (parts kept : PlainParts)
    (brought : Option (List PlainNumbered)) → c ≡ h.number → kept ≡ parts → FindsRecord h found
    → IsLegal found → HasMerge h parts
    → ((journal : List PlainOp) → AreCovered journal parts
    → brought ≡ unless_empty (merged_of journal parts))
    → brought ≡ unless_empty (merged_documents found (merge_of c kept))
worked_found h c found parts kept brought mine same finds legal has worked =
    brings h found parts brought finds legal (found_has h found parts finds legal has) worked
    ∙ ap (λ (p : PlainParts). unless_empty (merged_documents found (merge_of h.number p)))
    (sym same)
    ∙ ap (λ (n : ℕ). unless_empty (merged_documents found (merge_of n kept))) (sym mine)

pub committed : (h : HandleState) (c : ℕ) (parts kept : PlainParts) (freed : List ℕ)
    (found later : Record) → c ≡ h.number → kept ≡ parts → FindsRecord h found → IsLegal found
    → freed ≡ released_by_merge c (merge_of c kept) found
    → later ≡ after_commit c (merge_of c kept) found
    → Committed h (merge_of h.number parts) freed later
committed h c parts kept freed found later mine same finds legal gone ok = record {
  found = found;
  finds = finds;
  legal = legal;
  freed_by = gone
      ∙ ap (λ (p : PlainParts). released_by_merge c (merge_of c p) found) same
      ∙ ap (λ (n : ℕ). released_by_merge n (merge_of n parts) found) mine;
  after = ok
      ∙ ap (λ (p : PlainParts). after_commit c (merge_of c p) found) same
      ∙ ap (λ (n : ℕ). after_commit n (merge_of n parts) found) mine;
}
