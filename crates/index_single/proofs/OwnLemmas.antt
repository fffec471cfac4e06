-- What is open in the index is what its worker's handle has open, and its jobs are the handle's.
use Rattle.std.proofs.Common.{◌≡◌, ℕ, nat_eq, refl, sym, ap, ◌∙◌, subst, arith}
use Rattle.std.specs.Prelude.{Contains}
use Rattle.std.specs.List.{flat_map}
use Rattle.std.proofs.lemmas.Bool.Decides.{nat_tests}
use Rattle.segment.specs.Views.{PlainParts, AreCovered}
use Rattle.index_core.specs.Histories.{Record, View, Merge}
use Rattle.index_core.specs.Records.{open_views, open_merges}
use Rattle.index_core.specs.Generations.{documents_of}
use Rattle.index_core.specs.LegalHistories.{IsLegal}
use Rattle.index_core.specs.MergeCalls.{merge_of}
use Rattle.index_shared.specs.Sections.{HandleState, seen_by}
use Rattle.index_shared.specs.OwnViews.{HasMerge, open_by, merges_by}
use Rattle.index_shared.proofs.ListLemmas.{in_whole, in_filtered}
use Rattle.index_single.specs.Alone.{HasJob}
use Rattle.index_single.specs.declared.caller.TheConstants.{CALLER}

view_mine : (r : Record) (v : View) → v.caller ≡ CALLER → Contains (open_views r) v
    → Contains (open_by CALLER r) v
view_mine r v mine there =
    in_filtered (λ (w : View). nat_eq w.caller CALLER) (open_views r) v
    (grind (arith, nat_tests, mine)) there

merge_mine : (r : Record) (m : Merge) → m.caller ≡ CALLER → Contains (open_merges r) m
    → Contains (merges_by CALLER r) m
merge_mine r m mine there =
    in_filtered (λ (k : Merge). nat_eq k.caller CALLER) (open_merges r) m
    (grind (arith, nat_tests, mine)) there

-- what an end of this index asks is what one of the shared index asks
pub view_own : (worker : HandleState) (old : Record) (v : ℕ → View) → worker.number ≡ CALLER
    → seen_by worker ≡ old → (v CALLER).caller ≡ CALLER → Contains (open_views old) (v CALLER)
    → Contains (open_by worker.number (seen_by worker)) (v worker.number)
view_own worker old v number seen mine there =
    subst (λ (n : ℕ). Contains (open_by n (seen_by worker)) (v n)) (sym number)
    (subst (λ (x : Record). Contains (open_by CALLER x) (v CALLER)) (sym seen)
    (view_mine old (v CALLER) mine there))

pub merge_own : (worker : HandleState) (old : Record) (parts : PlainParts)
    → worker.number ≡ CALLER → seen_by worker ≡ old
    → Contains (open_merges old) (merge_of CALLER parts)
    → Contains (merges_by worker.number (seen_by worker)) (merge_of worker.number parts)
merge_own worker old parts number seen there =
    subst (λ (n : ℕ). Contains (merges_by n (seen_by worker)) (merge_of n parts)) (sym number)
    (subst (λ (x : Record). Contains (merges_by CALLER x) (merge_of CALLER parts)) (sym seen)
    (merge_mine old (merge_of CALLER parts) refl there))

pub job_own : (worker : HandleState) (old : Record) (parts : PlainParts)
    → worker.number ≡ CALLER → seen_by worker ≡ old → IsLegal (seen_by worker) → HasJob old parts
    → HasMerge worker parts
job_own worker old parts number seen legal job = record {
  legal = legal;
  opened = merge_own worker old parts number seen job.opened;
  covered = subst (λ (x : Record). AreCovered x.journal parts) (sym seen) job.covered;
  documents = job.documents
      ∙ ap (λ (x : Record). flat_map (documents_of x) parts.generations) (sym seen);
}

pub has_job : (worker : HandleState) (parts : PlainParts) → worker.number ≡ CALLER
    → HasMerge worker parts → HasJob (seen_by worker) parts
has_job worker parts number has = record {
  opened = subst (λ (n : ℕ). Contains (open_merges (seen_by worker)) (merge_of n parts)) number
      (in_whole (λ (k : Merge). nat_eq k.caller worker.number) (open_merges (seen_by worker))
      (merge_of worker.number parts) has.opened);
  covered = has.covered;
  documents = has.documents;
}
