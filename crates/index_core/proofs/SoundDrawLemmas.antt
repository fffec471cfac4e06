-- Each legal event leaves a sound record sound: operations, freezes, and merges that end.
use Rattle.std.proofs.Common.{◌≡◌, ◌≤◌, ◌<◌, ◌+◌, ℕ, Bool, true, false, cond, not, nat_eq, ◌&&◌}
use Rattle.std.proofs.Common.{◌||◌, Option, Some, None, List, [], ◌∷◌, ◌++◌, length, refl, sym, ap}
use Rattle.std.proofs.Common.{◌∙◌, subst, arith, length-append}
use Rattle.std.specs.Prelude.{filter, Contains}
use Rattle.std.specs.List.{AllByRecursion}
use Rattle.std.proofs.lemmas.List.Folds.{list_any-append}
use Rattle.sg_paths.specs.Operations.{PlainOp}
use Rattle.index_core.specs.declared.limits.TheConstants.{MOST_OPERATIONS, BATCH_OPERATIONS}
use Rattle.index_core.specs.Histories.{HistoryEvent, accept, freeze, merge_end, Record, View, Merge}
use Rattle.index_core.specs.Histories.{is_among, begun_view, begun_views}
use Rattle.index_core.specs.Histories.{built_generation}
use Rattle.index_core.specs.Records.{with_event, accepted, frozen, buffered, drawn, current}
use Rattle.index_core.specs.Records.{next_generation, open_merges}
use Rattle.index_core.specs.Generations.{documents_of}
use Rattle.index_core.specs.LegalHistories.{merged_documents, merged_generation, IsOpenMerge}
use Rattle.index_core.specs.Calls.{with_operation}
use Rattle.index_core.specs.Keeping.{AreMerges, IsPlain, buffered_piece}
use Rattle.index_core.specs.EndedMerges.{merged_pieces}
use Rattle.index_core.specs.LegalLaws.{SeesItsPrefix}
use Rattle.index_core.specs.MergedPieces.{IsEnding, brought_piece}
use Rattle.index_core.proofs.AcceptLemmas.{are_within, accept_keeps, documents_stay}
use Rattle.index_core.proofs.BufferLemmas.{plain_accept, plain_freeze}
use Rattle.index_core.proofs.EndedPieceLemmas.{ended, ended_empty}
use Rattle.index_core.proofs.FreezeLemmas.{freeze_keeps}
use Rattle.index_core.proofs.HeldEventLemmas.{drawn_still, undrawn_not_replaced}
use Rattle.index_core.proofs.HistoryLemmas.{skips, frozen-skip}
use Rattle.index_core.proofs.HistoryLemmas.{frozen-more}
use Rattle.index_core.proofs.ListLemmas.{no_items, same_number}
use Rattle.index_core.proofs.MergeEventLemmas.{new_apart}
use Rattle.index_core.proofs.MergesLemmas.{merges_close, is_ending}
use Rattle.index_core.proofs.OnceLemmas.{above_all, one_end, one_none}
use Rattle.index_core.proofs.PlainLemmas.{plain_after, plain_drawn}
use Rattle.index_core.proofs.ReplacedLemmas.{after_merge, current-after_none}
use Rattle.index_core.proofs.RisingLemmas.{among-filter}
use Rattle.index_core.proofs.SoundLemmas.{IsSound, IsAfter, after_event}
use Rattle.index_core.proofs.SoundLemmas.{all_see, more_drawn}

-- ---- an operation more

pub sound_accept : (r : Record) (caller : ℕ) (op : PlainOp) → IsSound r
    → accepted r + 1 ≤ MOST_OPERATIONS → buffered r < BATCH_OPERATIONS
    → IsAfter r (with_operation caller op r)
sound_accept r caller op sound room less =
    let e = accept caller (accepted r + 1) in
    let s = with_operation caller op r in
    let plain = sound.plain in
    let stays : (g : ℕ) → is_among g (drawn r) ≡ true → documents_of s g ≡ documents_of r g =
    λ g there. documents_stay r (are_within r plain) caller op g in
    let views : begun_views s.history ≡ begun_views r.history =
    skips begun_view r.history e refl in
    record {
      sound = record {
        plain = plain_accept r caller op plain (let numbered = plain.numbered in
            omega (arith, room, numbered));
        were = drawn_still r e s.journal sound.were (record { view = tt; merge = λ n. tt });
        few = (let frozen-same : frozen s ≡ frozen r = frozen-skip r.history e refl in
            let long = length-append r.journal (op ∷ []) in
            let numbered = plain.numbered in
            let inside = plain.frozen_within in
            omega (arith, frozen-same, long, numbered, less, inside));
        pieces = sound.pieces;
        are = accept_keeps r plain caller op sound.pieces sound.are;
        seen = subst (λ (vs : List View). AllByRecursion (SeesItsPrefix s) vs) (sym views)
            (all_see r s (op ∷ []) (begun_views r.history) refl stays sound.were.views
            sound.seen);
      };
      stays = stays;
      drawn_still = more_drawn r e;
    }

-- ---- a freeze

next_new : (r : Record) → IsSound r → is_among (next_generation r) (drawn r) ≡ false
next_new r sound = above_all (next_generation r) (drawn r) sound.plain.drawn_before

one_new : (r : Record) (n : ℕ) → is_among n (drawn r) ≡ false → (g : ℕ) → Some n ≡ Some g
    → is_among g (drawn r) ≡ false
one_new r n new g is =
    let same : n ≡ g = cc in subst (λ (k : ℕ). is_among k (drawn r) ≡ false) same new

front : (a b : Bool) → a ≡ true → (a || b) ≡ true
front true b is = refl
front false b is = let no : false ≡ true = is in absurd cc

module _ (r : Record) (caller : ℕ) (sound : IsSound r) (some : frozen r < length r.journal) where
  abbrev e-freeze : HistoryEvent
  e-freeze = freeze caller (next_generation r) (frozen r + 1) (length r.journal)

  abbrev r-freeze : Record
  r-freeze = with_event r e-freeze

  frozen-all : frozen r-freeze ≡ length r.journal
  frozen-all =
      frozen-more r.history caller (next_generation r) (frozen r + 1) (length r.journal)

  plain-freeze : IsPlain r-freeze
  plain-freeze =
      subst (λ (n : ℕ).
      IsPlain (with_event r (freeze caller (next_generation r) (frozen r + 1) n)))
      (sym sound.plain.numbered) (plain_freeze r caller sound.plain sound.were)

  freeze_all : IsAfter r r-freeze
  freeze_all = after_event r e-freeze sound (record {
    next = tt;
    new = one_new r (next_generation r) (next_new r sound);
    plain = plain-freeze;
    begins = record { view = tt; merge = λ n. tt };
    few = omega (arith, frozen-all);
    pieces = sound.pieces ++ buffered_piece r ∷ [];
    are = freeze_keeps r sound.plain sound.were caller some sound.few sound.pieces sound.are;
    seen = tt;
  })

pub sound_freeze : (r : Record) (caller g from upto : ℕ) → IsSound r → g ≡ next_generation r
    → from ≡ frozen r + 1 → upto ≡ accepted r → frozen r < accepted r
    → IsAfter r (with_event r (freeze caller g from upto))
sound_freeze r caller g from upto sound is_g is_from is_upto some =
    let numbered = sound.plain.numbered in
    let same : freeze caller (next_generation r) (frozen r + 1) (length r.journal)
    ≡ freeze caller g from upto = cc in
    subst (λ (e : HistoryEvent). IsAfter r (with_event r e)) same
    (freeze_all r caller sound (omega (arith, numbered, some)))

-- ---- a merge ends

module _ (r : Record) (caller : ℕ) (m : Merge) (gone : List ℕ) (sound : IsSound r)
    (there : Contains (open_merges r) m) where
  abbrev into : ℕ
  into = next_generation r

  ending : IsEnding r m into
  ending = is_ending r m sound.plain sound.were there

  -- ---- with a generation

  abbrev e-some : HistoryEvent
  e-some = merge_end caller m.merge (Some into) gone

  abbrev r-some : Record
  r-some = with_event r e-some

  current-some : current r-some
      ≡ filter (λ g. not (is_among g m.generations)) (current r) ++ into ∷ []
  current-some =
      after_merge r caller m into gone ending.begun.alone
      (undrawn_not_replaced r sound.were into (next_new r sound))
      (new_apart r m.generations into ending.in_use (next_new r sound))

  -- a current generation that isn't the merge's passes
  left : (g : ℕ) → is_among g (current r) ≡ true → is_among g m.generations ≡ false
      → is_among g (filter (λ n. not (is_among n m.generations)) (current r)) ≡ true
  left g here apart =
      among-filter (λ n. not (is_among n m.generations)) g (current r)
      ∙ both (is_among g (current r)) (is_among g m.generations) here apart
    where
      both : (a b : Bool) → a ≡ true → b ≡ false → (a && not b) ≡ true
      both true false p q = refl
      both true true p q = let no : true ≡ false = q in absurd cc
      both false b p q = let no : false ≡ true = p in absurd cc

  merges-some : AreMerges r-some
  merges-some =
      merges_close r sound.plain.merges m there e-some (λ k. refl) refl refl
      (λ g here apart. ap (is_among g) current-some
      ∙ list_any-append (nat_eq g) (filter (λ n. not (is_among n m.generations)) (current r))
      (into ∷ [])
      ∙ front (is_among g (filter (λ n. not (is_among n m.generations)) (current r)))
      (is_among g (into ∷ [])) (left g here apart))
      (one_end r caller m into gone ending)

  ends_some : IsAfter r r-some
  ends_some =
      let upto : frozen r-some ≡ frozen r = frozen-skip r.history e-some refl in
      let few = sound.few in
      after_event r e-some sound (record {
        next = tt;
        new = one_new r into (next_new r sound);
        plain = plain_drawn r e-some sound.plain refl refl refl refl merges-some;
        begins = record { view = tt; merge = λ n. tt };
        few = omega (arith, upto, few);
        pieces = merged_pieces m.generations
            (brought_piece m into (merged_documents r m) ∷ []) sound.pieces;
        are = ended r caller m into gone (merged_documents r m) sound.pieces ending refl
            sound.are;
        seen = tt;
      })

  -- ---- without one

  abbrev e-none : HistoryEvent
  e-none = merge_end caller m.merge None gone

  abbrev r-none : Record
  r-none = with_event r e-none

  merges-none : AreMerges r-none
  merges-none =
      merges_close r sound.plain.merges m there e-none (λ k. refl) refl refl
      (λ g here apart. ap (is_among g) (current-after_none r caller m gone ending.begun.alone)
      ∙ left g here apart)
      (one_none r caller m into gone ending)

  ends_none : merged_documents r m ≡ [] → IsAfter r r-none
  ends_none none =
      let upto : frozen r-none ≡ frozen r = frozen-skip r.history e-none refl in
      let few = sound.few in
      after_event r e-none sound (record {
        next = tt;
        new = λ g is. absurd (let no : None ≡ Some g = is in cc);
        plain = plain_after r e-none sound.plain refl refl refl merges-none
            (rw (skips built_generation r.history e-none refl) sound.plain.built_before);
        begins = record { view = tt; merge = λ n. tt };
        few = omega (arith, upto, few);
        pieces = merged_pieces m.generations [] sound.pieces;
        are = ended_empty r caller m into gone sound.pieces ending none sound.are;
        seen = tt;
      })

  ends_by : (b : Bool) → nat_eq (length (merged_documents r m)) 0 ≡ b
      → IsAfter r (with_event r (merge_end caller m.merge (cond b None (Some into)) gone))
  ends_by true is =
      ends_none (no_items (merged_documents r m)
      (same_number (length (merged_documents r m)) 0 is))
  ends_by false is = ends_some

pub sound_merge_end : (r : Record) (caller merge : ℕ) (into : Option ℕ) (gone : List ℕ) (m : Merge)
    → IsSound r → IsOpenMerge r caller merge m → into ≡ merged_generation r m
    → IsAfter r (with_event r (merge_end caller merge into gone))
sound_merge_end r caller merge into gone m sound opened is =
    let same : merge_end caller m.merge (merged_generation r m) gone
    ≡ merge_end caller merge into gone =
    ap (λ (n : ℕ). merge_end caller n (merged_generation r m) gone) opened.number
    ∙ ap (λ (o : Option ℕ). merge_end caller merge o gone) (sym is) in
    subst (λ (e : HistoryEvent). IsAfter r (with_event r e)) same
    (ends_by r caller m gone sound opened.is_open (nat_eq (length (merged_documents r m)) 0) refl)
