-- What a view that begins, is refused or ends makes of the record.
use Rattle.std.proofs.Common.{◌≡◌, ◌<◌, ℕ, List, [], ◌∷◌, ◌++◌, length, Result, Ok, Err, refl, sym}
use Rattle.std.proofs.Common.{ap, ◌∙◌, subst, arith}
use Rattle.std.specs.Prelude.{IfOk, IfErr, OnOk, OnErr, Contains}
use Rattle.std.proofs.lemmas.List.Elements.{Contains-append_right}
use Rattle.turn_lock.specs.Handles.{LockId}
use Rattle.index_core.specs.declared.limits.TheConstants.{MOST_OPEN_VIEWS}
use Rattle.index_core.specs.declared.refusal.ViewError.{ViewError}
use Rattle.index_core.specs.Histories.{Record, View}
use Rattle.index_core.specs.Records.{open_views, open_merges}
use Rattle.index_core.specs.Calls.{after_begin, after_end, begun_by, released_by_end, RefusesView}
use Rattle.index_core.specs.OpenViews.{without}
use Rattle.index_core.proofs.ViewLemmas.{open_views-end}
use Rattle.index_shared.specs.Sections.{HandleState, seen_by, Extends}
use Rattle.index_shared.specs.SharedCalls.{Begun, BeginRefused, Ended}
use Rattle.index_shared.proofs.AppendedLemmas.{begin_more, end_more}
use Rattle.index_shared.proofs.OwnMergeLemmas.{open_merges-after_begin, open_merges-after_end}
use Rattle.index_single.specs.declared.caller.TheConstants.{CALLER}
use Rattle.index_single.proofs.CalledLemmas.{Called, does, of_seen, same_record}
use Rattle.index_single.proofs.ViewNumberLemmas.{begins_opened, begins_others}

-- a view was begun, or refused
pub record Begins {T : Type 0} (result : Result T ViewError) (view : ℕ → T → View)
    (r s : Record) : Type 0 where
  pub view_is : IfOk result (λ t. view CALLER t ≡ begun_by CALLER r)
  pub begun : IfOk result (λ t. Contains (open_views s) (view CALLER t))
  pub ok : OnOk result (s ≡ after_begin CALLER r)
  pub opened : IfOk result (λ t. open_views s ≡ open_views r ++ view CALLER t ∷ [])
  pub others : IfOk result (λ t. without (view CALLER t).view (open_views s) ≡ open_views r)
  pub room : OnOk result (length (open_views r) < MOST_OPEN_VIEWS)
  pub refused : IfErr result (RefusesView r)
  pub err : OnErr result (s ≡ r)
  pub merges : open_merges s ≡ open_merges r
  pub later : Extends r s

-- a view was ended
pub record Ends (view : ℕ) (freed : List ℕ) (r s : Record) : Type 0 where
  pub freed_is : freed ≡ released_by_end CALLER view r
  pub ok : s ≡ after_end CALLER view r
  pub ended : open_views s ≡ without view (open_views r)
  pub merges : open_merges s ≡ open_merges r
  pub later : Extends r s

module _ {index : LockId} {main worker worker' main' last : HandleState} {old : Record}
    (called : Called index main worker worker' main' last old) where
  abbrev r : Record
  r = seen_by worker

  abbrev s : Record
  s = seen_by worker'

  pub begins : {T : Type 0} (result : Result T ViewError) (view : ℕ → T → View)
      → IfOk result (λ t. Begun worker (view worker.number t) s)
      → IfErr result (λ why. BeginRefused worker why s) → Begins result view r s
  begins (Ok t) view ok refused =
      let done = does called after_begin ok.found ok.finds ok.legal ok.after
      (begin_more worker.number ok.found) in
      let view_is : view CALLER t ≡ begun_by CALLER r =
      ap (λ (n : ℕ). view n t) (sym called.alone.number) ∙ ok.begun
      ∙ of_seen called begun_by ok.found done.seen in
      let opened : open_views s ≡ open_views r ++ view CALLER t ∷ [] =
      ap (λ (x : Record). open_views x) done.ok ∙ begins_opened CALLER r called.alone.legal
      ∙ ap (λ (v : View). open_views r ++ v ∷ []) (sym view_is) in
      record {
        view_is = view_is;
        begun = subst (λ (vs : List View). Contains vs (view CALLER t)) (sym opened)
            (Contains-append_right (open_views r) (view CALLER t ∷ []) (view CALLER t)
            (0, omega arith, refl));
        ok = done.ok;
        opened = opened;
        others = ap (λ (x : Record). without (view CALLER t).view (open_views x)) done.ok
            ∙ ap (λ (v : View). without v.view (open_views (after_begin CALLER r))) view_is
            ∙ begins_others CALLER r called.alone.legal;
        room = subst (λ (x : Record). length (open_views x) < MOST_OPEN_VIEWS) done.seen ok.room;
        refused = tt;
        err = tt;
        merges = ap (λ (x : Record). open_merges x) done.ok ∙ open_merges-after_begin CALLER r;
        later = done.later;
      }
  begins (Err why) view ok refused =
      let is = same_record called refused.finds in
      record {
        view_is = tt;
        begun = tt;
        ok = tt;
        opened = tt;
        others = tt;
        room = tt;
        refused = subst (λ (x : Record). RefusesView x why) is refused.refuses;
        err = is;
        merges = ap (λ (x : Record). open_merges x) is;
        later = refused.finds.later;
      }

  pub ends : (view : ℕ) (freed : List ℕ) → Ended worker view freed s → Ends view freed r s
  ends view freed ended =
      let done = does called (λ n x. after_end n view x) ended.found ended.finds ended.legal
      ended.after (end_more worker.number view ended.found) in
      record {
        freed_is = ended.freed_by
            ∙ of_seen called (λ n x. released_by_end n view x) ended.found done.seen;
        ok = done.ok;
        ended = ap (λ (x : Record). open_views x) done.ok
            ∙ open_views-end r.history CALLER view (released_by_end CALLER view r);
        merges = ap (λ (x : Record). open_merges x) done.ok ∙ open_merges-after_end CALLER view r;
        later = done.later;
      }
