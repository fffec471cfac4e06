-- What is open by a caller, whatever others do: views. Only who began a view ends it.
use Rattle.std.proofs.Common.{◌≡◌, ℕ, false, nat_eq, List, [], ◌∷◌, ◌++◌, refl, sym, ap, ◌∙◌}
use Rattle.std.specs.Prelude.{filter, not}
use Rattle.std.specs.List.{filter_map}
use Rattle.std.proofs.lemmas.List.Elements.{filter_map-append}
use Rattle.segment.specs.Views.{PlainParts}
use Rattle.sg_view.specs.Viewing.{PlainView, IsViewOf}
use Rattle.turn_lock.specs.Handles.{own}
use Rattle.index_core.specs.Histories.{HistoryEvent, begin, view_end, Record, View, is_among}
use Rattle.index_core.specs.Histories.{begun_view, ended_view, begun_views, open_views}
use Rattle.index_core.specs.LegalHistories.{IsLegal}
use Rattle.index_core.specs.OpenViews.{view_of, without}
use Rattle.index_core.proofs.HeldLemmas.{open_once}
use Rattle.index_core.proofs.HistoryLemmas.{skips}
use Rattle.index_core.proofs.ViewLemmas.{open_views-skip, open_views-end}
use Rattle.index_shared.specs.Sections.{caller_of, seen_by}
use Rattle.index_shared.specs.OwnViews.{open_by, view_in, OwnViewsStay}
use Rattle.index_shared.proofs.ListLemmas.{other_more, without_other}
use Rattle.index_shared.proofs.WalkLemmas.{AtEvent, others_stay}

-- the view that is built of parts is the open one that these are of
pub view_in-view_of : (caller : ℕ) (parts : PlainParts) (v : PlainView) → IsViewOf parts v
    → view_in caller v ≡ view_of caller parts
view_in-view_of caller parts v is = rw (is.number, is.upto, is.generations) refl

abbrev views_of : ℕ → List HistoryEvent → List View
views_of c h = filter (λ v. nat_eq v.caller c) (open_views h)

-- ---- one event of another

begins : (c : ℕ) (xs : List HistoryEvent) (v : View) → nat_eq v.caller c ≡ false
    → views_of c (xs ++ begin v.caller v.view v.upto v.generations ∷ []) ≡ views_of c xs
begins c xs v other =
    let e = begin v.caller v.view v.upto v.generations in
    rw (skips ended_view xs e refl) (rw (filter_map-append begun_view xs (e ∷ []))
    (other_more (λ (w : View). w.caller) c
    (λ w. not (is_among w.view (filter_map ended_view xs))) (begun_views xs) v other))

views_after : (c : ℕ) (xs : List HistoryEvent) (e : HistoryEvent) → AtEvent xs e
    → nat_eq (caller_of e) c ≡ false → views_of c (xs ++ e ∷ []) ≡ views_of c xs
views_after c xs (begin caller view upto gens) at other =
    begins c xs (record { caller = caller; view = view; upto = upto; generations = gens }) other
views_after c xs (view_end caller view gone) at other =
    let v = at.line.0 in
    let opened = at.line.1 in
    ap (λ (vs : List View). filter (λ w. nat_eq w.caller c) vs)
    (open_views-end xs caller view gone
    ∙ ap (λ (n : ℕ). without n (open_views xs)) (sym opened.number))
    ∙ without_other (λ (w : View). w.caller) c (λ w. w.view) v (open_views xs)
    (ap (λ (n : ℕ). nat_eq n c) opened.by_caller ∙ other)
    (open_once xs v at.numbered opened.is_open).only
views_after c xs e at other =
    ap (λ (vs : List View). filter (λ w. nat_eq w.caller c) vs) (open_views-skip xs e refl refl)

-- ---- all of them

pub views_stay : (c : ℕ) (first r : Record) (more : List HistoryEvent)
    → r.history ≡ first.history ++ more → own caller_of c more ≡ [] → IsLegal r
    → open_by c r ≡ open_by c first
views_stay c first r more is none legal =
    others_stay c (views_of c) (views_after c) first r more is none legal

pub own_views_stay : OwnViewsStay
own_views_stay h found finds legal =
    views_stay h.number (seen_by h) found finds.later.events finds.later.history_is finds.others
    legal
