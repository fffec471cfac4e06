-- What an offer that is made whole, or stops, makes of the record.
use Rattle.std.proofs.Common.{◌≡◌, ℕ, Result, Ok, Err, ap, ◌∙◌}
use Rattle.std.specs.Prelude.{IfOk, OnOk, OnErr}
use Rattle.turn_lock.specs.Handles.{LockId}
use Rattle.index_core.specs.Histories.{Record}
use Rattle.index_core.specs.Histories as histories
use Rattle.index_core.specs.Records.{open_views, open_merges}
use Rattle.index_shared.specs.Sections.{HandleState, seen_by, Extends}
use Rattle.index_shared.specs.Offers.{Offered, OfferStopped, UpkeepAlone, AddsUpkeep, after_flush}
use Rattle.index_shared.specs.Offers.{built_by_flush}
use Rattle.index_shared.proofs.OfferAloneLemmas.{offered_alone, stopped_alone}
use Rattle.index_single.specs.declared.caller.TheConstants.{CALLER}
use Rattle.index_single.proofs.AloneLemmas.{quiet}
use Rattle.index_single.proofs.CalledLemmas.{Called}
use Rattle.index_single.proofs.UpkeepLemmas.{flush_same, upkeep_same}

-- an offer was made whole, or stopped
pub record Offers {E : Type 0} (result : Result ℕ E) (r s : Record) : Type 0 where
  pub count : IfOk result (λ count. count ≡ built_by_flush CALLER r)
  pub ok : OnOk result (s ≡ after_flush CALLER r)
  pub stopped : OnErr result (AddsUpkeep r s)
  pub views : open_views s ≡ open_views r
  pub merges : open_merges s ≡ open_merges r
  pub later : Extends r s

module _ {index : LockId} {main worker worker' main' last : HandleState} {old : Record}
    (called : Called index main worker worker' main' last old) where
  abbrev r : Record
  r = seen_by worker

  abbrev s : Record
  s = seen_by worker'

  pub offers : {E : Type 0} (result : Result ℕ E)
      → IfOk result (λ count. Offered worker count worker')
      → OnErr result (OfferStopped worker worker') → UpkeepAlone worker s → Offers result r s
  offers (Ok count) ok stopped upkeep =
      let later = upkeep.later in
      let all = offered_alone worker worker' count later.events called.alone.seats
      called.alone.number called.alone.legal called.legal later.history_is
      (quiet index main worker main' worker' called.alone called.met later.events
      later.history_is) ok in
      let is : s ≡ after_flush CALLER r =
      all.0 ∙ ap (λ (n : ℕ). after_flush n r) called.alone.number in
      record {
        count = all.1 ∙ ap (λ (n : ℕ). built_by_flush n r) called.alone.number;
        ok = is;
        stopped = tt;
        views = ap (λ (x : Record). open_views x) is ∙ (flush_same CALLER r).views;
        merges = ap (λ (x : Record). open_merges x) is ∙ (flush_same CALLER r).merges;
        later = later;
      }
  offers (Err e) ok stopped upkeep =
      let later = upkeep.later in
      let adds = stopped_alone worker worker' later.events called.alone.seats called.alone.number
      called.alone.legal later.history_is
      (quiet index main worker main' worker' called.alone called.met later.events
      later.history_is) stopped in
      let same = upkeep_same worker.history adds.events adds.upkeep in
      record {
        count = tt;
        ok = tt;
        stopped = adds;
        views = ap histories.open_views adds.history_is ∙ same.views;
        merges = ap histories.open_merges adds.history_is ∙ same.merges;
        later = later;
      }
