-- The store after a view has begun.
use Rattle.std.proofs.Common.{◌≡◌, ℕ, ◌+◌, ◌<◌, ◌≤◌, ◌^◌, Bool, true, false, not, nat_eq, List}
use Rattle.std.proofs.Common.{[], ◌∷◌, ◌++◌, cond, length, map, drop, refl, sym, ◌∙◌, ap, subst}
use Rattle.std.proofs.Common.{arith}
use Rattle.std.specs.Prelude.{if◌then◌else◌, nat_lt, filter, All}
use Rattle.std.specs.List.{filter_map}
use Rattle.std.proofs.lemmas.Bool.Decides.{nat_tests}
use Rattle.std.proofs.lemmas.List.{length-append, length-map}
use Rattle.std.proofs.lemmas.List.Elements.{filter_map-append, All-weaker}
use Rattle.segment.specs.Pieces.{PlainPiece}
use Rattle.segment.specs.Views.{PlainParts, AreBuildable}
use Rattle.std.specs.List.Sorted.{IsStrictlyIncreasing}
use Rattle.index_holds.specs.Holders.{with_holder, HasRoom}
use Rattle.index_core.specs.declared.limits.TheConstants.{MOST_OPEN_VIEWS}
use Rattle.index_core.specs.Histories.{freeze, Record}
use Rattle.index_core.specs.Histories.{View, is_among, accepted, begun_view, begun_views}
use Rattle.index_core.specs.Histories.{ended_view, drawn, replaced}
use Rattle.index_core.specs.Histories.{open_views}
use Rattle.index_core.specs.Records.{with_event, buffered}
use Rattle.index_core.specs.LegalHistories.{MeetsLine}
use Rattle.index_core.specs.OpenViews.{view_of, without}
use Rattle.index_core.specs.Calls.{after_freeze, after_begin, begun_by, view_of_all}
use Rattle.index_core.specs.Calls.{beginning}
use Rattle.index_core.specs.CurrentPieces.{AreOf}
use Rattle.index_core.specs.HeldEvents.{AreFewOpen}
use Rattle.index_core.specs.MergedPieces.{LeavesPieces}
use Rattle.index_core.specs.Keeping.{least_applied, known_batches}
use Rattle.index_core.specs.Fields.{Stored, record_of, AreViews, AreFields, AreHeld, IsKept}
use Rattle.index_core.specs.Slots.{batched}
use Rattle.index_core.specs.OwnLists.{with_view_list}
use Rattle.index_core.specs.Fields.{freezing, freezing_all, all_pieces, all_batches, next_piece}
use Rattle.index_core.specs.Fields.{next_batch, new_view, viewing}
use Rattle.index_core.proofs.FewLemmas.{few_generations}
use Rattle.index_core.proofs.HistoryLemmas.{skips}
use Rattle.index_core.proofs.EventLemmas.{current-skip}
use Rattle.index_core.proofs.ViewLemmas.{open_views-begin, is_among-over}
use Rattle.index_core.proofs.ViewLemmas.{without_newest, AreViewsFrom-more}
use Rattle.index_core.proofs.KnownMergeLemmas.{known}
use Rattle.index_core.proofs.PlainLemmas.{plain_after, merges_still}
use Rattle.index_core.proofs.MergedPieceLemmas.{leaves}
use Rattle.index_core.proofs.OwnListLemmas.{lists_begin}
use Rattle.index_core.proofs.PartsLemmas.{AreShared, parts_given}
use Rattle.index_core.proofs.RisingLemmas.{rises_less}
use Rattle.index_core.proofs.HeldLemmas.{held_begin, increasing}
use Rattle.index_core.proofs.KeptLemmas.{counted, buffered_is, kept_changed, same_drawn}
use Rattle.index_core.proofs.KeptLemmas.{builds_nothing, Leaves}
use Rattle.index_core.proofs.BufferLemmas.{freezes}
use Rattle.index_core.proofs.EndingLemmas.{open_below}

-- ---- a view begins

pub opened : (k : Stored) (caller : ℕ) → AreFields k
    → open_views (k.history ++ beginning (new_view caller k) ∷ [])
    ≡ open_views k.history ++ new_view caller k ∷ []
opened k caller fields =
    open_views-begin k.history (new_view caller k)
    (is_among-over (k.begun_count + 1) k.begun_count (filter_map ended_view k.history)
    fields.views.ended_were_begun (omega arith))

views_begin : (k : Stored) (caller : ℕ) → AreFields k → k.open_count < MOST_OPEN_VIEWS
    → AreViews (k.history ++ beginning (new_view caller k) ∷ []) (k.begun_count + 1)
    (k.open_count + 1)
views_begin k caller fields few =
    let v = new_view caller k in
    let event = beginning v in
    let views = fields.views in
    let begun : begun_views (k.history ++ event ∷ []) ≡ begun_views k.history ++ v ∷ [] =
    filter_map-append begun_view k.history (event ∷ []) in
    let more = length-append (begun_views k.history) (v ∷ []) in
    record {
      count = ap (λ (vs : List View). length vs) begun ∙ omega (arith, more, views.count);
      numbers =
          rw begun (AreViewsFrom-more 1 (begun_views k.history) v views.numbers
          (omega (arith, views.count)));
      few = omega (arith, views.few, length-append k.history (event ∷ []));
      ended_were_begun =
          rw (skips ended_view k.history event refl)
          (All-weaker (λ n. n ≤ k.begun_count) (λ n. n ≤ k.begun_count + 1)
          (λ n below. omega (arith, below)) (filter_map ended_view k.history)
          views.ended_were_begun);
      open_count =
          ap (λ (vs : List View). length vs) (opened k caller fields)
          ∙ omega (arith, length-append (open_views k.history) (v ∷ []), views.open_count);
      most_open = omega (arith, few);
    }

-- fewer views and merges are open than a count of holders can tell
pub few_open : {k : Stored} → IsKept k → AreFewOpen (record_of k)
few_open {k} kept =
    let fields = kept.fields in
    omega (
      arith,
      fields.views.open_count,
      fields.views.most_open,
      fields.own_lists.merges_open,
      (few_generations kept).1,
    )

-- the number of the next view isn't that of one that ended
new_number : (k : Stored) → AreFields k
    → is_among (k.begun_count + 1) (filter_map ended_view k.history) ≡ false
new_number k fields =
    is_among-over (k.begun_count + 1) k.begun_count (filter_map ended_view k.history)
    fields.views.ended_were_begun (omega arith)

-- what the new view holds
held_with : {k : Stored} → IsKept k → (caller : ℕ)
    → All (HasRoom k.held) (new_view caller k).generations
    × AreHeld (with_event (record_of k) (beginning (new_view caller k)))
    (map (with_holder (new_view caller k).generations) k.held)
held_with {k} kept caller =
    let v = new_view caller k in
    held_begin (record_of k) v k.held (new_number k kept.fields) kept.pieces.generations
    (rises_less 0 1 v.generations (omega arith) kept.pieces.rising) (few_open kept) kept.held

-- what a view that begins asks of its generations
pub may_hold : {k : Stored} → IsKept k → (gens : List ℕ)
    → gens ≡ map (λ piece. piece.generation) k.pieces
    → IsStrictlyIncreasing gens × All (HasRoom k.held) gens
may_hold {k} kept gens same =
    subst (λ (gs : List ℕ). IsStrictlyIncreasing gs × All (HasRoom k.held) gs) (sym same) (
      increasing 1 (map (λ piece. piece.generation) k.pieces) kept.pieces.rising,
      (held_with kept 0).0,
    )

-- a view that begins leaves the pieces
begin_leaves : (r : Record) (v : View) → LeavesPieces r (beginning v)
begin_leaves r v = record {
  next = tt;
  freezes = refl;
  draws = refl;
  builds = refl;
  applies = λ g. refl;
  same = current-skip r.history (beginning v) (λ n. refl) refl refl;
}

pub kept_begin : {k : Stored} → IsKept k → (caller : ℕ) → length k.buffer ≡ 0
    → k.open_count < MOST_OPEN_VIEWS
    → length k.history + 2 + k.open_count + k.lists.merges_open ≤ k.places
    → IsKept (viewing caller (map (λ piece. piece.generation) k.pieces) k)
kept_begin {k} kept caller none few enough =
    let r = record_of k in
    let fields = kept.fields in
    let plain = kept.plain in
    let v = new_view caller k in
    let event = beginning v in
    let count = counted k kept.legal.numbered fields in
    let line : MeetsLine r event = (
      omega (arith, fields.views.count),
      omega (arith, count, none),
      omega (arith, count, none, fields.frozen_upto_last),
      kept.pieces.generations,
      omega (arith, fields.views.open_count, few),
    ) in
    kept_changed kept event k.pieces (map (with_holder v.generations) k.held)
    (with_view_list v.view v.generations k.lists) k.drawn_count (k.begun_count + 1)
    (k.open_count + 1) (record {
      line = line;
      no_accept = refl;
      no_freeze = refl;
      plain = plain_after r event plain refl refl refl
          (merges_still r event plain.merges (λ n. refl) refl refl tt refl refl)
          (builds_nothing k event plain refl);
      drawn_count = same_drawn k event fields refl;
      pieces = leaves r event k.pieces (known r plain.merges) (begin_leaves r v) kept.pieces;
      held = (held_with kept caller).1;
      views = views_begin k caller fields few;
      own_lists = lists_begin k.history k.lists v fields.own_lists (new_number k fields);
      room = omega (arith, enough);
    })

-- the definition's view is that one
pub view_is : {k : Stored} → IsKept k → (caller : ℕ) → length k.buffer ≡ 0
    → view_of_all caller (record_of k) ≡ new_view caller k
view_is {k} kept caller none =
    let number = ap (λ (n : ℕ). n + 1) kept.fields.views.count in
    let upto : accepted k.history ≡ k.frozen_count =
    omega (arith, counted k kept.legal.numbered kept.fields, none) in
    let generations = kept.pieces.generations in
    rw number (rw upto (rw (← generations) refl))

-- ---- all is frozen, and a view begins

-- the store once all is frozen
pub record Frozen (k k' : Stored) (caller : ℕ) : Type 0 where
  pub left : Leaves k' (after_freeze caller (record_of k))
  pub none : length k'.buffer ≡ 0
  pub upto : k'.frozen_count ≡ k.frozen_count + length k.buffer
  pub begun : k'.begun_count ≡ k.begun_count
  pub opened : k'.open_count ≡ k.open_count
  pub places : k'.places ≡ k.places
  pub long : length k'.history ≤ length k.history + 1
  pub lists : k'.lists ≡ k.lists
  pub pieces : k'.pieces ≡ all_pieces k
  pub batches : k'.batches ≡ all_batches k

pub freezes_all : {k : Stored} → IsKept k → (caller : ℕ) (b : Bool) → k.closed ≡ b
    → b ≡ nat_lt 0 (length k.buffer)
    → length k.history + 1 + k.open_count + k.lists.merges_open ≤ k.places
    → Frozen k (freezing_all caller k) caller
freezes_all {k} kept caller true closed is enough =
    let some : 0 < length k.buffer = grind (arith, nat_tests, is) in
    let longer = length-append k.history (freeze caller (k.drawn_count + 1) (k.frozen_count + 1)
    (k.frozen_count + length k.buffer) ∷ []) in
    subst (λ (b : Bool). Frozen k (if b then freezing caller k else k) caller) (sym closed)
    (record {
      left = freezes kept caller some enough;
      none = refl;
      upto = refl;
      begun = refl;
      opened = refl;
      places = refl;
      long = omega (arith, longer);
      lists = refl;
      pieces = ap (λ (b : Bool). if b then k.pieces ++ next_piece k ∷ [] else k.pieces)
          (sym closed);
      batches = ap (λ (b : Bool). if b then k.batches ++ next_batch k ∷ [] else k.batches)
          (sym closed);
    })
freezes_all {k} kept caller false closed is enough =
    let none : length k.buffer ≡ 0 = grind (arith, nat_tests, is) in
    let count = buffered_is k kept.legal.numbered kept.fields in
    let test : nat_eq (buffered (record_of k)) 0 ≡ true = grind (arith, nat_tests, count, none) in
    subst (λ (b : Bool). Frozen k (if b then freezing caller k else k) caller) (sym closed)
    (record {
      left = record { kept = kept; record_is = rw test refl };
      none = none;
      upto = omega (arith, none);
      begun = refl;
      opened = refl;
      places = refl;
      long = omega arith;
      lists = refl;
      pieces = ap (λ (b : Bool). if b then k.pieces ++ next_piece k ∷ [] else k.pieces)
          (sym closed);
      batches = ap (λ (b : Bool). if b then k.batches ++ next_batch k ∷ [] else k.batches)
          (sym closed);
    })

-- a filter leaves no more
fewer_left : (p : ℕ → Bool) (gs : List ℕ) → length (filter p gs) ≤ length gs
fewer_left p [] = omega arith
fewer_left p (g ∷ gs) = by_test (p g) (fewer_left p gs)
  where
    by_test : (b : Bool) → length (filter p gs) ≤ length gs
        → length (cond b (g ∷ filter p gs) (filter p gs)) ≤ length (g ∷ gs)
    by_test true less = omega (arith, less)
    by_test false less = omega (arith, less)

-- so many pieces there are at most
pub few_pieces : {k : Stored} → IsKept k → length k.pieces < 2 ^ 32
few_pieces {k} kept =
    let count = length-map k.pieces (λ (p : PlainPiece). p.generation) in
    let all = ap (λ (gs : List ℕ). length gs) kept.pieces.generations in
    let fewer = fewer_left (λ g. not (is_among g (replaced k.history))) (drawn k.history) in
    omega (
      arith,
      count,
      all,
      fewer,
      kept.fields.drawn_generations,
      (few_generations kept).0,
    )

-- what a kept store shares
pub shared : {k : Stored} → IsKept k → AreShared (record_of k) k.pieces k.batches k.buffer
shared {k} kept = record {
  pieces = kept.pieces;
  numbered = kept.fields.numbered;
  journal = refl;
  all_frozen = kept.fields.frozen_upto_last ∙ sym kept.fields.frozen_operations;
  few = few_pieces kept;
}

-- what a view is, once it has begun where nothing is buffered
pub record Begins (k k' : Stored) (caller : ℕ) (r : Record) (parts : PlainParts) : Type 0 where
  pub kept : IsKept k'
  pub after : record_of k' ≡ after_begin caller r
  pub view : view_of caller parts ≡ begun_by caller r
  pub parts_of : AreOf (record_of k') parts
  pub buildable : AreBuildable parts
  pub is_opened : open_views k'.history ≡ open_views k.history ++ view_of caller parts ∷ []
  pub others : without parts.number (open_views k'.history) ≡ open_views k.history

pub begins : {k : Stored} → IsKept k → (caller : ℕ) (r : Record) (gens : List ℕ)
    (parts : PlainParts)
    → record_of k ≡ after_freeze caller r → length k.buffer ≡ 0
    → k.open_count < MOST_OPEN_VIEWS
    → length k.history + 2 + k.open_count + k.lists.merges_open ≤ k.places
    → gens ≡ map (λ piece. piece.generation) k.pieces
    → parts.number ≡ k.begun_count + 1 → parts.upto ≡ k.frozen_count → parts.pieces ≡ k.pieces
    → parts.batches ≡ drop (known_batches (least_applied parts.upto k.pieces) k.batches) k.batches
    → parts.generations ≡ map (λ piece. piece.generation) k.pieces
    → Begins k (viewing caller gens k) caller r parts
begins {k} kept caller r gens parts frozen-is none few enough gens-is number-is upto-is pieces-is
    batches-is generations-is =
    let view : view_of caller parts ≡ new_view caller k =
    rw (number-is, upto-is, generations-is) refl in
    let is = view_is kept caller none in
    let after = kept_begin kept caller none few enough in
    let given = parts_given (shared after) parts.number parts.upto parts.pieces parts.batches
    parts.generations (upto-is ∙ sym after.fields.frozen_upto_last) pieces-is batches-is
    generations-is in
    rw gens-is (record {
      kept = after;
      after =
          ap (λ (v : View). record {
            history = k.history ++ beginning v ∷ [];
            journal = batched k.batches ++ k.buffer;
          }) (sym is)
          ∙ ap (λ (s : Record). with_event s (beginning (view_of_all caller s))) frozen-is;
      view = view ∙ sym is ∙ ap (view_of_all caller) frozen-is;
      parts_of = given.0;
      buildable = given.1;
      is_opened = opened k caller kept.fields
          ∙ ap (λ (v : View). open_views k.history ++ v ∷ []) (sym view);
      others =
          ap (λ (n : ℕ). without n (open_views (k.history ++ beginning (new_view caller k) ∷ [])))
          number-is
          ∙ ap (without (k.begun_count + 1)) (opened k caller kept.fields)
          ∙ without_newest (open_views k.history) (new_view caller k) (open_below k kept.fields);
    })
