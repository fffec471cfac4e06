-- The store after a view has ended.
use Rattle.std.proofs.Common.{◌≡◌, ℕ, ◌+◌, ◌-◌, ◌<◌, ◌≤◌, Bool, not, nat_eq, List}
use Rattle.std.proofs.Common.{[], ◌∷◌, ◌++◌, length, refl, ◌∙◌, ap, subst}
use Rattle.std.proofs.Common.{arith}
use Rattle.std.specs.Prelude.{filter, All}
use Rattle.std.specs.List.{filter_map}
use Rattle.std.proofs.lemmas.List.{length-append}
use Rattle.std.proofs.lemmas.List.Elements.{filter_map-append, All-push, All-weaker, All-filter}
use Rattle.std.proofs.lemmas.List.Elements.{All-contains}
use Rattle.index_holds.specs.Holders.{after_release, given_up}
use Rattle.index_core.specs.Histories.{view_end, Record}
use Rattle.index_core.specs.Histories.{View, is_among, begun_view, begun_views}
use Rattle.index_core.specs.Histories.{ended_view}
use Rattle.index_core.specs.Histories.{open_views}
use Rattle.index_core.specs.Records.{with_event, released}
use Rattle.index_core.specs.LegalHistories.{IsOpenView}
use Rattle.index_core.specs.OpenViews.{without}
use Rattle.index_core.specs.Calls.{after_end}
use Rattle.index_core.specs.MergedPieces.{LeavesPieces}
use Rattle.index_core.specs.Fields.{Stored, record_of, AreViews, AreFields, AreHeld, IsKept}
use Rattle.index_core.specs.OwnLists.{list_of, view_list, without_view_list}
use Rattle.index_core.specs.Fields.{ending}
use Rattle.index_core.proofs.HistoryLemmas.{skips}
use Rattle.index_core.proofs.EventLemmas.{current-skip}
use Rattle.index_core.proofs.ViewLemmas.{open_views-end}
use Rattle.index_core.proofs.ViewLemmas.{without_one, below_next}
use Rattle.index_core.proofs.KnownMergeLemmas.{known}
use Rattle.index_core.proofs.PlainLemmas.{plain_after, merges_still}
use Rattle.index_core.proofs.MergedPieceLemmas.{leaves}
use Rattle.index_core.proofs.OwnListLemmas.{lists_end, own_list}
use Rattle.index_core.proofs.HeldLemmas.{held_end, Ended, open_once}
use Rattle.index_core.proofs.KeptLemmas.{kept_changed, same_drawn}
use Rattle.index_core.proofs.KeptLemmas.{builds_nothing, Leaves}

-- a view that ends leaves the pieces
end_leaves : (r : Record) (caller view : ℕ) (gone : List ℕ)
    → LeavesPieces r (view_end caller view gone)
end_leaves r caller view gone = record {
  next = tt;
  freezes = refl;
  draws = refl;
  builds = refl;
  applies = λ g. refl;
  same = current-skip r.history (view_end caller view gone) (λ n. refl) refl refl;
}

-- one view fewer is open
one_fewer : (k : Stored) (caller view : ℕ) (v : View)
    → AreFields k → IsOpenView (record_of k) caller view v
    → length (without view (open_views k.history)) + 1 ≡ k.open_count
one_fewer k caller view v fields is =
    rw (← is.number)
    (without_one (λ w. not (is_among w.view (filter_map ended_view k.history))) 1
    (begun_views k.history) v fields.views.numbers is.is_open ∙ fields.views.open_count)

-- the open views have numbers of views that were begun
pub open_below : (k : Stored) → AreFields k
    → All (λ w. w.view < k.begun_count + 1) (open_views k.history)
open_below k fields =
    let still : View → Bool = λ w. not (is_among w.view (filter_map ended_view k.history)) in
    All-weaker (λ w. w.view < 1 + length (begun_views k.history)) (λ w. w.view < k.begun_count + 1)
    (λ w below. omega (arith, below, fields.views.count)) (open_views k.history)
    (All-filter still (λ w. w.view < 1 + length (begun_views k.history)) (begun_views k.history)
    (below_next 1 (begun_views k.history) fields.views.numbers))

was_begun : (k : Stored) (caller view : ℕ) (v : View)
    → AreFields k → IsOpenView (record_of k) caller view v → view ≤ k.begun_count
was_begun k caller view v fields is =
    let below : v.view < k.begun_count + 1 =
    All-contains (λ w. w.view < k.begun_count + 1) (open_views k.history) v (open_below k fields)
    is.is_open in
    omega (arith, below, is.number)

views_end : (k : Stored) (caller view : ℕ) (gone : List ℕ) (v : View)
    → AreFields k → IsOpenView (record_of k) caller view v
    → AreViews (k.history ++ view_end caller view gone ∷ []) k.begun_count (k.open_count - 1)
views_end k caller view gone v fields is =
    let event = view_end caller view gone in
    let views = fields.views in
    let begun : begun_views (k.history ++ event ∷ []) ≡ begun_views k.history =
    skips begun_view k.history event refl in
    let fewer = one_fewer k caller view v fields is in
    record {
      count = ap (λ (vs : List View). length vs) begun ∙ views.count;
      numbers = rw begun views.numbers;
      few = omega (arith, views.few, length-append k.history (event ∷ []));
      ended_were_begun =
          rw (filter_map-append ended_view k.history (event ∷ []))
          (All-push (λ n. n ≤ k.begun_count) (filter_map ended_view k.history) view
          views.ended_were_begun (was_begun k caller view v fields is));
      open_count =
          ap (λ (vs : List View). length vs) (open_views-end k.history caller view gone)
          ∙ omega (arith, fewer);
      most_open = omega (arith, views.most_open);
    }

pub ended : {k : Stored} → IsKept k → (caller view : ℕ) (v : View) (gone : List ℕ)
    → IsOpenView (record_of k) caller view v → Ended (record_of k) k.held caller v gone
ended {k} kept caller view v gone is =
    held_end (record_of k) caller v gone k.held kept.fields.views.numbers is.is_open kept.held

-- the generations of an open view are its list
pub view_has_list : {k : Stored} → IsKept k → (caller view : ℕ) (v : View)
    → IsOpenView (record_of k) caller view v → list_of view k.lists.views ≡ v.generations
view_has_list {k} kept caller view v is =
    let once = open_once k.history v kept.fields.views.numbers is.is_open in
    ap (list_of view) kept.fields.own_lists.views
    ∙ rw (← is.number) (own_list view_list v.view v (open_views k.history) once.once once.only)

pub ends : {k : Stored} → IsKept k → (caller view : ℕ) (v : View)
    → IsOpenView (record_of k) caller view v
    → Leaves (ending caller view v.generations k) (after_end caller view (record_of k))
ends {k} kept caller view v is =
    let r = record_of k in
    let plain = kept.plain in
    let after = after_release v.generations k.held in
    let gone = given_up k.held after in
    let event = view_end caller view gone in
    let freed : gone ≡ released r (view_end caller view []) =
    (ended kept caller view v [] is).freed
    ∙ ap (λ (n : ℕ). released r (view_end caller n [])) is.number in
    let once = open_once k.history v kept.fields.views.numbers is.is_open in
    let one : length (filter (λ w. nat_eq w.view view) (open_views k.history)) ≡ 1 =
    rw (← is.number) once.once in
    let fewer = one_fewer k caller view v kept.fields is in
    record {
      kept = kept_changed kept event k.pieces after (without_view_list view k.lists) k.drawn_count
          k.begun_count (k.open_count - 1) (record {
            line = (v, is, freed);
            no_accept = refl;
            no_freeze = refl;
            plain = plain_after r event plain refl refl refl
                (merges_still r event plain.merges (λ n. refl) refl refl tt refl refl)
                (builds_nothing k event plain refl);
            drawn_count = same_drawn k event kept.fields refl;
            pieces = leaves r event k.pieces (known r plain.merges)
                (end_leaves r caller view gone) kept.pieces;
            held = subst (λ (n : ℕ). AreHeld (with_event r (view_end caller n gone)) after)
                is.number (ended kept caller view v gone is).held;
            views = views_end k caller view gone v kept.fields is;
            own_lists = lists_end k.history k.lists caller view gone kept.fields.own_lists
                (omega (arith, one));
            room = omega (arith, kept.fields.room, fewer);
          });
      record_is = ap (λ (gs : List ℕ). with_event r (view_end caller view gs)) freed;
    }
