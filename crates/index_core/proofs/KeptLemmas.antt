-- What a store keeps, and keeps with an event more.
use Rattle.std.proofs.Common.{◌≡◌, ℕ, ◌+◌, ◌<◌, ◌≤◌, Bool, None, List, [], ◌∷◌, ◌++◌, length, map}
use Rattle.std.proofs.Common.{refl, false}
use Rattle.std.proofs.Common.{sym, ◌∙◌, ap, subst, arith}
use Rattle.std.specs.List.{filter_map, AllByRecursion}
use Rattle.std.proofs.lemmas.List.{length-append}
use Rattle.segment.specs.Pieces.{PlainPiece}
use Rattle.index_holds.specs.declared.held.Held.{Held}
use Rattle.index_holds.specs.Holders.{is_held}
use Rattle.index_core.specs.declared.limits.TheConstants.{BATCH_OPERATIONS}
use Rattle.index_core.specs.Histories.{accept, built, live_docs_updated}
use Rattle.index_core.specs.Histories.{HistoryEvent, Record, View, Merge, accepted, accepted_number}
use Rattle.index_core.specs.Histories.{frozen_upto, drawn_generation, built_generation, drawn}
use Rattle.index_core.specs.Histories.{begun_view, begun_views, ended_view, merges_from}
use Rattle.index_core.specs.Histories.{closed_merge}
use Rattle.index_core.specs.Records.{with_event, buffered, next_generation}
use Rattle.index_core.specs.LegalHistories.{MeetsLine}
use Rattle.index_core.specs.HeldEvents.{IsQuiet}
use Rattle.index_core.specs.Keeping.{IsPlain, AreCurrent}
use Rattle.index_core.specs.Fields.{Stored, record_of, AreViews, AreFields, AreHeld, IsKept}
use Rattle.index_core.specs.Slots.{batched}
use Rattle.index_core.specs.OwnLists.{PlainLists, AreLists, view_list, merge_list}
use Rattle.index_core.specs.Fields.{with_places, with_list_places, with_closed}
use Rattle.index_core.proofs.HistoryLemmas.{skips, frozen-skip}
use Rattle.index_core.proofs.EventLemmas.{merges-skip, open_merges-skip}
use Rattle.index_core.proofs.LegalLemmas.{AreLegal, are_legal}
use Rattle.index_core.proofs.ViewLemmas.{open_views-skip}
use Rattle.index_core.proofs.HeldLemmas.{held_freeze}
use Rattle.index_core.proofs.PlainLemmas.{legal_after}

-- the accepted operations are the frozen ones and the buffered ones
pub counted : (k : Stored) → length (record_of k).journal ≡ accepted k.history → AreFields k
    → accepted k.history ≡ k.frozen_count + length k.buffer
counted k numbered fields =
    omega (
      arith,
      numbered,
      length-append (batched k.batches) k.buffer,
      fields.frozen_operations,
    )

-- how many are buffered
pub buffered_is : (k : Stored) → length (record_of k).journal ≡ accepted k.history → AreFields k
    → buffered (record_of k) ≡ length k.buffer
buffered_is k numbered fields =
    omega (arith, counted k numbered fields, fields.frozen_upto_last)

-- neither room nor closing changes a fact
pub with_all_room : {k : Stored} → IsKept k → (closed : Bool) (places views merges : ℕ)
    → k.places ≤ places
    → IsKept (with_closed closed (with_list_places views merges (with_places places k)))
with_all_room {k} kept closed places views merges more =
    let fields = kept.fields in
    let lists = fields.own_lists in
    record {
      legal = kept.legal;
      fields = record {
        numbered = fields.numbered;
        frozen_upto_last = fields.frozen_upto_last;
        frozen_operations = fields.frozen_operations;
        drawn_generations = fields.drawn_generations;
        most_operations = fields.most_operations;
        views = fields.views;
        own_lists = record {
          views = lists.views;
          merges = lists.merges;
          merges_begun = lists.merges_begun;
          merges_open = lists.merges_open;
          few = lists.few;
        };
        room = omega (arith, fields.room, more);
      };
      plain = kept.plain;
      pieces = kept.pieces;
      held = kept.held;
    }

pub with_room : {k : Stored} → IsKept k → (closed : Bool) (places : ℕ) → k.places ≤ places
    → IsKept (with_closed closed (with_places places k))
with_room {k} kept closed places more =
    with_all_room kept closed places k.lists.view_places k.lists.merge_places more

-- what holds before a full buffer is frozen
pub record IsNear (k : Stored) : Type 0 where
  pub legal : AreLegal (record_of k)
  pub fields : AreFields k
  pub plain : IsPlain (record_of k)
  pub pieces : AreCurrent (record_of k) k.pieces
  pub held : AreHeld (record_of k) k.held
  pub few_buffered : length k.buffer ≤ BATCH_OPERATIONS

pub near : {k : Stored} → IsKept k → IsNear k
near {k} kept = record {
  legal = are_legal (record_of k) kept.legal;
  fields = kept.fields;
  plain = kept.plain;
  pieces = kept.pieces;
  held = kept.held;
  few_buffered =
      omega (arith, buffered_is k kept.legal.numbered kept.fields, kept.legal.not_full);
}

pub kept_near : {k : Stored} → IsNear k → length k.buffer < BATCH_OPERATIONS → IsKept k
kept_near {k} is less = record {
  legal = record {
    numbered = is.legal.numbered;
    events = is.legal.events;
    not_full = omega (arith, buffered_is k is.legal.numbered is.fields, less);
  };
  fields = is.fields;
  plain = is.plain;
  pieces = is.pieces;
  held = is.held;
}

-- what a step leaves
pub record Leaves (k : Stored) (after : Record) : Type 0 where
  pub kept : IsKept k
  pub record_is : record_of k ≡ after

-- ---- one event more

-- an event that neither begins nor ends a view
pub same_views : {history : List HistoryEvent} {begun opened : ℕ} → AreViews history begun opened
    → (event : HistoryEvent) → begun_view event ≡ None → ended_view event ≡ None
    → AreViews (history ++ event ∷ []) begun opened
same_views {history} {begun} {opened} views event no-begin no-end =
    let same : begun_views (history ++ event ∷ []) ≡ begun_views history =
    skips begun_view history event no-begin in
    record {
      count = ap (λ (vs : List View). length vs) same ∙ views.count;
      numbers = rw same views.numbers;
      few = omega (arith, views.few, length-append history (event ∷ []));
      ended_were_begun = rw (skips ended_view history event no-end) views.ended_were_begun;
      open_count =
          ap (λ (vs : List View). length vs) (open_views-skip history event no-begin no-end)
          ∙ views.open_count;
      most_open = views.most_open;
    }

-- an event that neither begins nor ends a view or a merge
pub same_lists : {history : List HistoryEvent} {lists : PlainLists} → AreLists history lists
    → (event : HistoryEvent) → begun_view event ≡ None → ended_view event ≡ None
    → ((n : ℕ) → merges_from n (event ∷ []) ≡ []) → closed_merge event ≡ None
    → AreLists (history ++ event ∷ []) lists
same_lists {history} {lists} are event no-begin no-end none closes =
    let views = open_views-skip history event no-begin no-end in
    let merges = open_merges-skip history event none closes in
    let begun = merges-skip history event none in
    record {
      views = are.views ∙ ap (λ (vs : List View). map view_list vs) (sym views);
      merges = are.merges ∙ ap (λ (ms : List Merge). map merge_list ms) (sym merges);
      merges_begun = ap (λ (ms : List Merge). length ms) begun ∙ are.merges_begun;
      merges_open = ap (λ (ms : List Merge). length ms) merges ∙ are.merges_open;
      few = omega (arith, are.few, length-append history (event ∷ []));
    }

-- one event more, with other pieces, holders, lists and counts
abbrev pub changed : HistoryEvent → List PlainPiece → List Held → PlainLists → ℕ → ℕ → ℕ
    → Stored → Stored
changed event pieces held lists drawn_count begun opened k = record k {
  history = k.history ++ event ∷ [];
  pieces = pieces;
  held = held;
  lists = lists;
  drawn_count = drawn_count;
  begun_count = begun;
  open_count = opened;
}

-- what holds of them
pub record Changes (k : Stored) (event : HistoryEvent) (new_pieces : List PlainPiece)
    (new_held : List Held) (new_lists : PlainLists) (new_drawn begun opened : ℕ) : Type 0 where
  pub line : MeetsLine (record_of k) event
  pub no_accept : accepted_number event ≡ None
  pub no_freeze : frozen_upto event ≡ None
  pub plain : IsPlain (with_event (record_of k) event)
  pub drawn_count : length (drawn (k.history ++ event ∷ [])) ≡ new_drawn
  pub pieces : AreCurrent (with_event (record_of k) event) new_pieces
  pub held : AreHeld (with_event (record_of k) event) new_held
  pub views : AreViews (k.history ++ event ∷ []) begun opened
  pub own_lists : AreLists (k.history ++ event ∷ []) new_lists
  pub room : length k.history + 1 + opened + new_lists.merges_open ≤ k.places

-- an event that accepts and freezes nothing
pub kept_changed : {k : Stored} → IsKept k
    → (event : HistoryEvent) (pieces : List PlainPiece) (held : List Held) (lists : PlainLists)
    (drawn_count begun opened : ℕ) → Changes k event pieces held lists drawn_count begun opened
    → IsKept (changed event pieces held lists drawn_count begun opened k)
kept_changed {k} kept event pieces held lists drawn_count begun opened is =
    let r = record_of k in
    let fields = kept.fields in
    record {
      legal = legal_after r event kept.plain is.no_accept is.no_freeze kept.legal is.line;
      fields = record {
        numbered = fields.numbered;
        frozen_upto_last = frozen-skip k.history event is.no_freeze ∙ fields.frozen_upto_last;
        frozen_operations = fields.frozen_operations;
        drawn_generations = is.drawn_count;
        most_operations = fields.most_operations;
        views = is.views;
        own_lists = is.own_lists;
        room = omega (arith, is.room, length-append k.history (event ∷ []));
      };
      plain = is.plain;
      pieces = is.pieces;
      held = is.held;
    }

-- as many are drawn where nothing is
pub same_drawn : (k : Stored) (event : HistoryEvent) → AreFields k → drawn_generation event ≡ None
    → length (drawn (k.history ++ event ∷ [])) ≡ k.drawn_count
same_drawn k event fields no_draw =
    ap (λ (gs : List ℕ). length gs) (skips drawn_generation k.history event no_draw)
    ∙ fields.drawn_generations

-- an event that builds nothing
pub builds_nothing : (k : Stored) (event : HistoryEvent) → IsPlain (record_of k)
    → built_generation event ≡ None
    → AllByRecursion (λ g. g < next_generation (record_of k))
    (filter_map built_generation (k.history ++ event ∷ []))
builds_nothing k event plain none =
    subst (AllByRecursion (λ g. g < next_generation (record_of k)))
    (sym (skips built_generation k.history event none)) plain.built_before

-- an event that accepts, builds or applies deletes leaves what is held
pub quiet_accept : (caller seq : ℕ) → IsQuiet (accept caller seq)
quiet_accept caller seq = record {
  draws = refl;
  begins = refl;
  ends = refl;
  merges = λ n. refl;
  replaces = refl;
  closes = refl;
}

pub quiet_built : (caller g : ℕ) → IsQuiet (built caller g)
quiet_built caller g = record {
  draws = refl;
  begins = refl;
  ends = refl;
  merges = λ n. refl;
  replaces = refl;
  closes = refl;
}

pub quiet_lived : (caller g upto : ℕ) → IsQuiet (live_docs_updated caller g upto)
quiet_lived caller g upto = record {
  draws = refl;
  begins = refl;
  ends = refl;
  merges = λ n. refl;
  replaces = refl;
  closes = refl;
}

-- no generation is held that isn't drawn
pub new_generation : {k : Stored} → IsPlain (record_of k) → AreFields k
    → AreHeld (record_of k) k.held → is_held k.held (k.drawn_count + 1) ≡ false
new_generation {k} plain fields held =
    subst (λ (g : ℕ). is_held k.held g ≡ false)
    (ap (λ (n : ℕ). n + 1) fields.drawn_generations)
    (held_freeze (record_of k) 0 (next_generation (record_of k)) 0 0 k.held plain.drawn_before
    held).0
