-- Each legal event leaves a sound record sound: those that draw no generation.
use Rattle.std.proofs.Common.{◌≡◌, ◌≤◌, ◌<◌, ◌+◌, ℕ, true, false, Some, None, List, [], ◌∷◌}
use Rattle.std.proofs.Common.{◌++◌, length, refl, sym, ap, ◌∙◌, subst, arith, append-nil}
use Rattle.std.specs.Prelude.{Contains}
use Rattle.std.specs.List.{filter_map}
use Rattle.std.proofs.lemmas.Cmp.{nat_eq_equiv}
use Rattle.std.proofs.lemmas.Map.Views.{list_any-from_Contains}
use Rattle.std.proofs.lemmas.List.Elements.{filter_map-append}
use Rattle.segment.specs.Pieces.{live_docs_at}
use Rattle.index_core.specs.declared.limits.TheConstants.{BATCH_OPERATIONS}
use Rattle.index_core.specs.Histories.{HistoryEvent, begin, built, live_docs_updated, merge_begin}
use Rattle.index_core.specs.Histories.{merge_drop, view_end, Record, View, Merge, is_among}
use Rattle.index_core.specs.Histories.{accepted_number, frozen_upto, drawn_generation}
use Rattle.index_core.specs.Histories.{built_generation}
use Rattle.index_core.specs.Records.{with_event, frozen, accepted, drawn, next_generation, current}
use Rattle.index_core.specs.Records.{next_merge, open_merges}
use Rattle.index_core.specs.Generations.{documents_of, is_built}
use Rattle.index_core.specs.Merges.{merge_plan}
use Rattle.index_core.specs.LegalHistories.{IsOpenMerge}
use Rattle.index_core.specs.HeldGenerations.{RisesFrom, WereDrawn}
use Rattle.index_core.specs.Keeping.{IsPlain, AreMerges, with_piece, with_segment}
use Rattle.index_core.specs.Keeping.{with_live_docs}
use Rattle.index_core.specs.LegalLaws.{SeesItsPrefix}
use Rattle.index_core.proofs.BuiltLemmas.{built_keeps, lived_keeps}
use Rattle.index_core.proofs.EventLemmas.{current-skip}
use Rattle.index_core.proofs.HeldEventLemmas.{current_drawn}
use Rattle.index_core.proofs.HistoryLemmas.{skips, frozen-skip}
use Rattle.index_core.proofs.KnownMergeLemmas.{known as known_merges, next_not_ended}
use Rattle.index_core.proofs.ListLemmas.{all_more, in_all}
use Rattle.index_core.proofs.MergedPieceLemmas.{leaves, none_some}
use Rattle.index_core.proofs.MergesLemmas.{merges_begin, merges_close}
use Rattle.index_core.proofs.OnceLemmas.{one_same}
use Rattle.index_core.proofs.OpenMergeLemmas.{current-begin}
use Rattle.index_core.proofs.PlainLemmas.{plain_after, merges_still}
use Rattle.index_core.proofs.PlannedLemmas.{planned_is, all_members}
use Rattle.index_core.proofs.SoundLemmas.{IsSound, IsAfter, after_event}
use Rattle.index_core.proofs.SoundLemmas.{current_were, current_live, sees_still}
use Rattle.index_core.proofs.SoundLemmas.{stays_drawn}

-- ---- an event that draws nothing and freezes nothing

none_new : (r : Record) (e : HistoryEvent) → drawn_generation e ≡ None → (g : ℕ)
    → drawn_generation e ≡ Some g → is_among g (drawn r) ≡ false
none_new r e none g is = absurd (none_some g (drawn_generation e) none is)

few_still : (r : Record) (e : HistoryEvent) → frozen_upto e ≡ None → IsSound r
    → length r.journal ≤ frozen (with_event r e) + BATCH_OPERATIONS
few_still r e none sound =
    let same : frozen (with_event r e) ≡ frozen r = frozen-skip r.history e none in
    let few = sound.few in omega (arith, same, few)

-- the record of an event that draws and builds nothing
plain_minor : (r : Record) (e : HistoryEvent) → IsPlain r → accepted_number e ≡ None
    → frozen_upto e ≡ None → drawn_generation e ≡ None → built_generation e ≡ None
    → AreMerges (with_event r e) → IsPlain (with_event r e)
plain_minor r e plain no_accept no_freeze no_draw no_build merges =
    plain_after r e plain no_accept no_freeze no_draw merges
    (rw (skips built_generation r.history e no_build) plain.built_before)

-- ---- a view ends

pub sound_view_end : (r : Record) (caller view : ℕ) (gone : List ℕ) → IsSound r
    → IsAfter r (with_event r (view_end caller view gone))
sound_view_end r caller view gone sound =
    let e = view_end caller view gone in
    let same : current (with_event r e) ≡ current r =
    current-skip r.history e (λ k. refl) refl refl in
    let merges = merges_still r e sound.plain.merges (λ k. refl) refl refl tt refl refl in
    after_event r e sound (record {
      next = tt;
      new = none_new r e refl;
      plain = plain_minor r e sound.plain refl refl refl refl merges;
      begins = record { view = tt; merge = λ n. tt };
      few = few_still r e refl sound;
      pieces = sound.pieces;
      are = leaves r e sound.pieces (known_merges r sound.plain.merges) (record {
        next = tt;
        freezes = refl;
        draws = refl;
        builds = refl;
        applies = λ g. refl;
        same = same;
      }) sound.are;
      seen = tt;
    })

-- ---- a view begins

-- the view of all that is frozen sees it
sees_all : (r : Record) (caller view : ℕ) → IsSound r
    → SeesItsPrefix r (record {
      caller = caller;
      view = view;
      upto = frozen r;
      generations = current r;
    })
sees_all r caller view sound = record {
  within = sound.plain.frozen_within;
  same = current_live r sound;
}

begin_all : (r : Record) (caller view : ℕ) → IsSound r
    → IsAfter r (with_event r (begin caller view (frozen r) (current r)))
begin_all r caller view sound =
    let e = begin caller view (frozen r) (current r) in
    let s = with_event r e in
    let v : View = record {
      caller = caller;
      view = view;
      upto = frozen r;
      generations = current r;
    } in
    let same : current s ≡ current r = current-skip r.history e (λ k. refl) refl refl in
    let merges = merges_still r e sound.plain.merges (λ k. refl) refl refl tt refl refl in
    after_event r e sound (record {
      next = tt;
      new = none_new r e refl;
      plain = plain_minor r e sound.plain refl refl refl refl merges;
      begins = record { view = (current_were r, tt); merge = λ n. tt };
      few = few_still r e refl sound;
      pieces = sound.pieces;
      are = leaves r e sound.pieces (known_merges r sound.plain.merges) (record {
        next = tt;
        freezes = refl;
        draws = refl;
        builds = refl;
        applies = λ g. refl;
        same = same;
      }) sound.are;
      seen = (
        sees_still r s [] v (sym (append-nil r.journal))
            (stays_drawn r e (known_merges r sound.plain.merges) tt (none_new r e refl))
            (current_were r) (sees_all r caller view sound),
        tt,
      );
    })

pub sound_begin : (r : Record) (caller view upto : ℕ) (gens : List ℕ) → IsSound r
    → upto ≡ accepted r → frozen r ≡ accepted r → gens ≡ current r
    → IsAfter r (with_event r (begin caller view upto gens))
sound_begin r caller view upto gens sound all no_more now =
    let same : begin caller view (frozen r) (current r) ≡ begin caller view upto gens = cc in
    subst (λ (e : HistoryEvent). IsAfter r (with_event r e)) same (begin_all r caller view sound)

-- ---- a generation gets its segment, or live docs

among : (g : ℕ) (gs : List ℕ) → Contains gs g → is_among g gs ≡ true
among g gs there = list_any-from_Contains nat_eq_equiv g gs there

pub sound_built : (r : Record) (caller g : ℕ) → IsSound r → Contains (current r) g
    → IsAfter r (with_event r (built caller g))
sound_built r caller g sound there =
    let e = built caller g in
    let s = with_event r e in
    let same : current s ≡ current r = current-skip r.history e (λ k. refl) refl refl in
    let merges = merges_still r e sound.plain.merges (λ k. refl) refl refl tt refl refl in
    let more : filter_map built_generation s.history
    ≡ filter_map built_generation r.history ++ g ∷ [] =
    filter_map-append built_generation r.history (e ∷ []) in
    let below : g < next_generation r =
    in_all (λ n. n < next_generation r) g (drawn r)
    (current_drawn r g (among g (current r) there)) sound.plain.drawn_before in
    after_event r e sound (record {
      next = tt;
      new = none_new r e refl;
      plain = plain_after r e sound.plain refl refl refl merges
          (rw more (all_more (λ n. n < next_generation r)
          (filter_map built_generation r.history) g sound.plain.built_before below));
      begins = record { view = tt; merge = λ n. tt };
      few = few_still r e refl sound;
      pieces = with_piece g (with_segment (documents_of r g)) sound.pieces;
      are = built_keeps r sound.plain caller g sound.pieces sound.are (documents_of r g) refl;
      seen = tt;
    })

pub sound_lived : (r : Record) (caller g upto : ℕ) → IsSound r → is_built r g ≡ true
    → upto ≤ frozen r → IsAfter r (with_event r (live_docs_updated caller g upto))
sound_lived r caller g upto sound has within =
    let e = live_docs_updated caller g upto in
    let same : current (with_event r e) ≡ current r =
    current-skip r.history e (λ k. refl) refl refl in
    let merges = merges_still r e sound.plain.merges (λ k. refl) refl refl tt refl refl in
    let docs = live_docs_at r.journal upto (documents_of r g) in
    after_event r e sound (record {
      next = tt;
      new = none_new r e refl;
      plain = plain_minor r e sound.plain refl refl refl refl merges;
      begins = record { view = tt; merge = λ n. tt };
      few = few_still r e refl sound;
      pieces = with_piece g (with_live_docs docs upto) sound.pieces;
      are = lived_keeps r sound.plain caller g upto sound.pieces sound.are docs has within refl;
      seen = tt;
    })

-- ---- a merge begins, or is dropped

begin_next : (r : Record) (caller : ℕ) (gens : List ℕ) → IsSound r → merge_plan r ≡ Some gens
    → IsAfter r (with_event r (merge_begin caller (next_merge r) gens))
begin_next r caller gens sound plan =
    let e = merge_begin caller (next_merge r) gens in
    let merges = sound.plain.merges in
    let known = known_merges r merges in
    let planned = planned_is r gens 1 (subst (λ (gs : List ℕ). RisesFrom 1 gs)
    sound.are.generations sound.are.rising) plan in
    let same : current (with_event r e) ≡ current r =
    current-begin r.history caller (next_merge r) gens (next_not_ended r merges) in
    let begun : AreMerges (with_event r e) =
    merges_begin r caller gens merges planned.in_use planned.free planned.rising
    (one_same r e known refl refl same merges.once) in
    let were : WereDrawn r gens =
    all_members gens (drawn r) (λ g there. current_drawn r g (planned.in_use g there)) in
    after_event r e sound (record {
      next = refl;
      new = none_new r e refl;
      plain = plain_minor r e sound.plain refl refl refl refl begun;
      begins = record { view = tt; merge = λ n. (were, tt) };
      few = few_still r e refl sound;
      pieces = sound.pieces;
      are = leaves r e sound.pieces known (record {
        next = refl;
        freezes = refl;
        draws = refl;
        builds = refl;
        applies = λ g. refl;
        same = same;
      }) sound.are;
      seen = tt;
    })

pub sound_merge_begin : (r : Record) (caller merge : ℕ) (gens : List ℕ) → IsSound r
    → merge ≡ next_merge r → merge_plan r ≡ Some gens
    → IsAfter r (with_event r (merge_begin caller merge gens))
sound_merge_begin r caller merge gens sound is plan =
    subst (λ (n : ℕ). IsAfter r (with_event r (merge_begin caller n gens))) (sym is)
    (begin_next r caller gens sound plan)

drop_open : (r : Record) (caller : ℕ) (m : Merge) → IsSound r → Contains (open_merges r) m
    → IsAfter r (with_event r (merge_drop caller m.merge))
drop_open r caller m sound there =
    let e = merge_drop caller m.merge in
    let merges = sound.plain.merges in
    let known = known_merges r merges in
    let same : current (with_event r e) ≡ current r =
    current-skip r.history e (λ k. refl) refl refl in
    let closed : AreMerges (with_event r e) =
    merges_close r merges m there e (λ k. refl) refl refl
    (λ g here apart. ap (is_among g) same ∙ here)
    (one_same r e known tt refl same merges.once) in
    after_event r e sound (record {
      next = tt;
      new = none_new r e refl;
      plain = plain_minor r e sound.plain refl refl refl refl closed;
      begins = record { view = tt; merge = λ n. tt };
      few = few_still r e refl sound;
      pieces = sound.pieces;
      are = leaves r e sound.pieces known (record {
        next = tt;
        freezes = refl;
        draws = refl;
        builds = refl;
        applies = λ g. refl;
        same = same;
      }) sound.are;
      seen = tt;
    })

pub sound_merge_drop : (r : Record) (caller merge : ℕ) (m : Merge) → IsSound r
    → IsOpenMerge r caller merge m → IsAfter r (with_event r (merge_drop caller merge))
sound_merge_drop r caller merge m sound opened =
    subst (λ (n : ℕ). IsAfter r (with_event r (merge_drop caller n))) opened.number
    (drop_open r caller m sound opened.is_open)
