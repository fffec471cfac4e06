-- A call through the worker's handle, and the meeting of both handles after it: the record found is
-- the one seen, so what the call of the shared index says of the one holds of the other.
use Rattle.std.proofs.Common.{◌≡◌, ℕ, sym, ap, ◌∙◌, subst}
use Rattle.turn_lock.specs.Handles.{LockId, Met}
use Rattle.index_core.specs.Histories.{Record}
use Rattle.index_core.specs.LegalHistories.{IsLegal}
use Rattle.index_shared.specs.Sections.{HandleState, seen_by, IsSameHandle, caller_of, FindsRecord}
use Rattle.index_shared.specs.Sections.{Extends}
use Rattle.index_shared.proofs.AppendedLemmas.{OwnMore}
use Rattle.index_shared.proofs.ExtendsLemmas.{extends_on}
use Rattle.index_single.specs.Handles.{AreAlone}
use Rattle.index_single.specs.declared.caller.TheConstants.{CALLER}
use Rattle.index_single.proofs.AloneLemmas.{found_alone, seen_alone, still_alone}

-- the handles before, the worker's after the call, and both after the meeting
pub record Called (index : LockId) (main worker worker' main' last : HandleState) (old : Record)
    : Type 0 where
  pub alone : AreAlone index main worker
  pub seen : seen_by worker ≡ old
  pub same : IsSameHandle worker worker'
  pub legal : IsLegal (seen_by worker')
  pub kept : last ≡ worker'
  pub main_same : IsSameHandle main main'
  pub met : Met caller_of worker' main main'.history main'.journal

-- the record found is the one seen, and the call made this of it, by this index's number
pub record Does (f : ℕ → Record → Record) (found r s : Record) : Type 0 where
  pub seen : found ≡ r
  pub ok : s ≡ f CALLER r
  pub later : Extends r s

module _ {index : LockId} {main worker worker' main' last : HandleState} {old : Record}
    (called : Called index main worker worker' main' last old) where
  abbrev r : Record
  r = seen_by worker

  abbrev s : Record
  s = seen_by worker'

  -- what is said of the record found, by the handle's number, holds of the one seen
  pub of_seen : {X : Type 0} (f : ℕ → Record → X) (found : Record) → found ≡ r
      → f worker.number found ≡ f CALLER r
  of_seen f found seen = ap (λ (n : ℕ). f n found) called.alone.number ∙ ap (f CALLER) seen

  pub does : {most : ℕ} (f : ℕ → Record → Record) (found : Record) → FindsRecord worker found
      → IsLegal found → s ≡ f worker.number found
      → OwnMore worker.number most found (f worker.number found) → Does f found r s
  does f found finds legal after more =
      let later : Extends found s = subst (Extends found) (sym after) more.later in
      let seen : found ≡ r =
      found_alone index main worker main' worker' called.alone called.met found finds legal
      later in
      record {
        seen = seen;
        ok = after ∙ of_seen f found seen;
        later = extends_on r found s finds.later later;
      }

  -- a call that left the record as it found it
  pub same_record : FindsRecord worker s → s ≡ r
  same_record finds =
      seen_alone index main worker main' worker' called.alone called.met finds called.legal

  -- what holds of what was seen and what is seen holds of what contracts see
  pub shown : (P : Record → Record → Type 0) → P r s → P old (seen_by last)
  shown P holds =
      subst (λ (x : Record). P x (seen_by last)) called.seen
      (subst (λ (h : HandleState). P r (seen_by h)) (sym called.kept) holds)

  -- and both handles have seen the same
  pub stands : Extends old (seen_by last) → AreAlone index main' last
  stands later =
      subst (λ (h : HandleState). AreAlone index main' h) (sym called.kept)
      (still_alone index main worker main' worker' called.alone called.met called.same
      called.main_same
      (subst (λ (h : HandleState). Extends r (seen_by h)) called.kept
      (subst (λ (x : Record). Extends x (seen_by last)) (sym called.seen) later)) called.legal)
