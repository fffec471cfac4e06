-- Legal records event by event: what stands before each, and what later events of others keep.
use Rattle.std.proofs.Common.{◌≡◌, ◌≤◌, ◌+◌, ℕ, zero, suc, false, nat_eq, Some, List, [], ◌∷◌}
use Rattle.std.proofs.Common.{◌++◌, length, take, refl, sym, ap, ◌∙◌, subst, arith, length-append}
use Rattle.std.proofs.Common.{append-nil}
use Rattle.std.specs.Prelude.{slice_get}
use Rattle.std.specs.List.{AllByRecursion}
use Rattle.std.proofs.lemmas.List.{append_assoc}
use Rattle.std.proofs.Math.Seq.{take-append_seam}
use Rattle.std.proofs.lemmas.List.Elements.{filter_map-append}
use Rattle.sg_paths.specs.Operations.{PlainOp}
use Rattle.turn_lock.specs.Handles.{own}
use Rattle.index_core.specs.Histories.{HistoryEvent, begin, Record, View, begun_view, begun_views}
use Rattle.index_core.specs.Histories as events
use Rattle.index_core.specs.LegalHistories.{MeetsLine, IsLegal}
use Rattle.index_core.specs.Fields.{AreViewsFrom}
use Rattle.index_core.proofs.HistoryLemmas.{skips}
use Rattle.index_core.proofs.KnownLemmas.{take_next}
use Rattle.index_core.proofs.SoundLemmas.{IsSound}
use Rattle.index_core.proofs.SoundRecordLemmas.{first_sound}
use Rattle.index_core.proofs.ViewLemmas.{AreViewsFrom-more}
use Rattle.index_shared.specs.Sections.{caller_of}
use Rattle.index_shared.proofs.ListLemmas.{none_passes}

-- ---- begun views are numbered

numbered_more : (xs : List HistoryEvent) (journal : List PlainOp) (e : HistoryEvent)
    → MeetsLine (record { history = xs; journal = journal }) e → AreViewsFrom 1 (begun_views xs)
    → AreViewsFrom 1 (begun_views (xs ++ e ∷ []))
numbered_more xs journal (begin caller view upto gens) line numbered =
    let v : View = record { caller = caller; view = view; upto = upto; generations = gens } in
    let number : view ≡ length (begun_views xs) + 1 = line.0 in
    subst (AreViewsFrom 1)
    (sym (filter_map-append begun_view xs (begin caller view upto gens ∷ [])))
    (AreViewsFrom-more 1 (begun_views xs) v numbered (omega (arith, number)))
numbered_more xs journal e line numbered =
    subst (AreViewsFrom 1) (sym (skips begun_view xs e refl)) numbered

numbered_first : (r : Record) → IsLegal r → (k : ℕ) → k ≤ length r.history
    → AreViewsFrom 1 (begun_views (take k r.history))
numbered_first r legal zero less = tt
numbered_first r legal (suc k) less =
    let next = take_next k r.history (omega (arith, less)) in
    subst (λ (h : List HistoryEvent). AreViewsFrom 1 (begun_views h)) (sym next.2)
    (numbered_more (take k r.history) (take (events.accepted (take k r.history)) r.journal) next.0
    (legal.events k next.0 next.1).line
    (numbered_first r legal k (omega (arith, less))))

-- ---- what stands before an event

-- the record before an event of a legal record: the event may come there, and it is sound
pub record AtEvent (xs : List HistoryEvent) (e : HistoryEvent) : Type 0 where
  pub journal : List PlainOp
  pub line : MeetsLine (record { history = xs; journal = journal }) e
  pub sound : IsSound (record { history = xs; journal = journal })
  pub numbered : AreViewsFrom 1 (begun_views xs)

get_behind : (xs : List HistoryEvent) (e : HistoryEvent) (es : List HistoryEvent)
    → slice_get (xs ++ e ∷ es) (length xs) ≡ Some e
get_behind [] e es = refl
get_behind (x ∷ xs) e es = get_behind xs e es

pub at_event : (r : Record) → IsLegal r → (xs : List HistoryEvent) (e : HistoryEvent)
    (es : List HistoryEvent) → r.history ≡ xs ++ e ∷ es → AtEvent xs e
at_event r legal xs e es is =
    let k = length xs in
    let within : k ≤ length r.history =
    (let long = ap length is in
    let both = length-append xs (e ∷ es) in
    omega (arith, long, both)) in
    let front : take k r.history ≡ xs =
    ap (λ (h : List HistoryEvent). take k h) is ∙ take-append_seam xs (e ∷ es) in
    let journal : List PlainOp = take (events.accepted (take k r.history)) r.journal in
    let got : slice_get r.history k ≡ Some e =
    ap (λ (h : List HistoryEvent). slice_get h k) is ∙ get_behind xs e es in
    record {
      journal = journal;
      line = subst (λ (h : List HistoryEvent).
          MeetsLine (record { history = h; journal = journal }) e) front
          (legal.events k e got).line;
      sound = subst (λ (h : List HistoryEvent).
          IsSound (record { history = h; journal = journal })) front
          (first_sound r legal k within);
      numbered = subst (λ (h : List HistoryEvent). AreViewsFrom 1 (begun_views h)) front
          (numbered_first r legal k within);
    }

-- ---- what each later event keeps

module _ (r : Record) (legal : IsLegal r) (P : List HistoryEvent → Type 0)
    (Q : HistoryEvent → Type 0)
    (step : (xs : List HistoryEvent) (e : HistoryEvent) → AtEvent xs e → Q e → P xs
    → P (xs ++ e ∷ [])) where
  -- holds at the end
  pub along : (xs ys : List HistoryEvent) → r.history ≡ xs ++ ys → AllByRecursion Q ys → P xs
      → P r.history
  along xs [] is all here = subst P (sym (is ∙ append-nil xs)) here
  along xs (y ∷ ys) is all here =
      along (xs ++ y ∷ []) ys (is ∙ sym (append_assoc xs (y ∷ []) ys)) all.1
      (step xs y (at_event r legal xs y ys is) all.0 here)

-- what no event of others changes stays as it was
pub others_stay : {X : Type 0} (c : ℕ) (of : List HistoryEvent → List X)
    → ((xs : List HistoryEvent) (e : HistoryEvent) → AtEvent xs e
    → nat_eq (caller_of e) c ≡ false → of (xs ++ e ∷ []) ≡ of xs)
    → (first r : Record) (more : List HistoryEvent) → r.history ≡ first.history ++ more
    → own caller_of c more ≡ [] → IsLegal r → of r.history ≡ of first.history
others_stay c of step first r more is none legal =
    along r legal (λ xs. of xs ≡ of first.history) (λ e. nat_eq (caller_of e) c ≡ false)
    (λ xs e at other same. step xs e at other ∙ same)
    first.history more is (none_passes (λ e. nat_eq (caller_of e) c) more none) refl
