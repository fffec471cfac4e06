-- The store after a merge has begun, was dropped, or has ended.
use Rattle.std.proofs.Common.{◌≡◌, ◌≤◌, ◌<◌, ◌+◌, ℕ, true, false, not, nat_eq}
use Rattle.std.proofs.Common.{Option, Some, None, List, [], ◌∷◌, ◌++◌, length, map, refl, sym}
use Rattle.std.proofs.Common.{ap, ◌∙◌, subst, arith}
use Rattle.std.specs.Prelude.{filter, All, Contains}
use Rattle.std.specs.List.{AllByRecursion, filter_map}
use Rattle.std.specs.List.Sorted.{IsStrictlyIncreasing}
use Rattle.std.proofs.lemmas.Bool.Decides.{nat_tests}
use Rattle.std.proofs.lemmas.List.{length-append}
use Rattle.std.proofs.lemmas.List.Elements.{filter_map-append}
use Rattle.sg_paths.specs.Operations.{PlainNumbered}
use Rattle.merge_work.specs.Merging.{unless_empty}
use Rattle.index_holds.specs.Holders.{is_held, with_current, with_holder, after_release}
use Rattle.index_holds.specs.Holders.{after_retire, given_up, HasRoom}
use Rattle.index_core.specs.Histories.{HistoryEvent, merge_begin, merge_end, merge_drop, Record}
use Rattle.index_core.specs.Histories.{Merge, is_among, closed_merge, drawn, drawn_generation}
use Rattle.index_core.specs.Histories.{open_merges}
use Rattle.index_core.specs.Records.{with_event, current, next_merge, next_generation, released}
use Rattle.index_core.specs.Merges.{merge_plan}
use Rattle.index_core.specs.LegalHistories.{IsOpenMerge, merged_documents}
use Rattle.index_core.specs.LegalHistories.{merged_generation}
use Rattle.index_core.specs.MergeCalls.{after_begin_merge, after_begin_of}
use Rattle.index_core.specs.MergeCalls.{after_commit, after_drop, without_merge}
use Rattle.index_core.specs.MergeCalls.{released_by_merge}
use Rattle.index_core.specs.HeldGenerations.{RisesFrom}
use Rattle.index_core.specs.HeldEvents.{MayEnd}
use Rattle.index_core.specs.EndedMerges.{merged_pieces}
use Rattle.index_core.specs.MergedPieces.{IsEnding}
use Rattle.index_core.specs.PlannedMerges.{IsPlanned}
use Rattle.index_core.specs.Keeping.{IsPlain, AreCurrent}
use Rattle.index_core.specs.Fields.{Stored, record_of, AreHeld, IsKept}
use Rattle.index_core.specs.OwnLists.{list_of, merge_list, with_merge_list, without_merge_list}
use Rattle.index_core.specs.Fields.{merging, dropping, retiring, bringing, brought}
use Rattle.index_core.proofs.RisingLemmas.{among-filter}
use Rattle.index_core.proofs.KnownMergeLemmas.{known, next_not_closed, next_not_ended}
use Rattle.index_core.proofs.MergesLemmas.{merges_begin, merges_close, may_end, is_ending}
use Rattle.index_core.proofs.MergesLemmas.{current-same}
use Rattle.index_core.proofs.EventLemmas.{current-skip}
use Rattle.index_core.proofs.ReplacedLemmas.{after_merge, current-after_none}
use Rattle.index_core.proofs.HeldEventLemmas.{undrawn_not_replaced}
use Rattle.index_core.proofs.MergeEventLemmas.{new_apart}
use Rattle.index_core.proofs.OnceLemmas.{one_same, one_end, one_none}
use Rattle.index_core.proofs.PlannedLemmas.{planned_is}
use Rattle.index_core.proofs.EndedPieceLemmas.{merges_keep}
use Rattle.index_core.proofs.HeldLemmas.{increasing, undrawn}
use Rattle.index_core.proofs.HeldMergeLemmas.{held_merge_begin, held_drop, held_none, held_some}
use Rattle.index_core.proofs.HeldMergeLemmas.{Drops, Ends}
use Rattle.index_core.proofs.OwnListLemmas.{lists_merge, lists_close, one_fewer, own_list}
use Rattle.index_core.proofs.PlainLemmas.{plain_after, plain_drawn}
use Rattle.index_core.proofs.KeptLemmas.{kept_changed, same_views, same_drawn}
use Rattle.index_core.proofs.KeptLemmas.{builds_nothing, Leaves}
use Rattle.index_core.proofs.BufferLemmas.{next_is, among_front}
use Rattle.index_core.proofs.ViewingLemmas.{few_open}

-- ---- a merge begins

-- the number of the merge that begins next
pub merge_number : {k : Stored} → IsKept k
    → next_merge (record_of k) ≡ k.lists.merges_begun + 1
merge_number kept = ap (λ (n : ℕ). n + 1) kept.fields.own_lists.merges_begun

pub planned : {k : Stored} → IsKept k → (gens : List ℕ) → merge_plan (record_of k) ≡ Some gens
    → IsPlanned (record_of k) gens
planned {k} kept gens plan =
    planned_is (record_of k) gens 1
    (subst (RisesFrom 1) kept.pieces.generations kept.pieces.rising) plan

-- what a merge that begins asks of its generations
pub may_merge : {k : Stored} → IsKept k → (gens : List ℕ) → merge_plan (record_of k) ≡ Some gens
    → All (HasRoom k.held) gens
may_merge {k} kept gens plan =
    (held_merge_begin (record_of k) 0 gens k.held (next_not_closed (record_of k) kept.plain.merges)
    (planned kept gens plan).in_use (few_open kept) kept.held).0

pub merges : {k : Stored} → IsKept k → (caller : ℕ) (gens : List ℕ)
    → merge_plan (record_of k) ≡ Some gens
    → length k.history + 2 + k.open_count + k.lists.merges_open ≤ k.places
    → Leaves (merging caller gens k) (after_begin_merge caller (record_of k))
merges {k} kept caller gens plan enough =
    let r = record_of k in
    let plain = kept.plain in
    let are = plain.merges in
    let is = planned kept gens plan in
    let n : ℕ = k.lists.merges_begun + 1 in
    let number = merge_number kept in
    let e = merge_begin caller (next_merge r) gens in
    let event = merge_begin caller n gens in
    let same : with_event r e ≡ with_event r event =
    ap (λ (m : ℕ). with_event r (merge_begin caller m gens)) number in
    let once = one_same r e (known r are) refl refl
    (current-same r caller gens are is.in_use is.free is.rising) are.once in
    record {
      kept = kept_changed kept event k.pieces (map (with_holder gens) k.held)
          (with_merge_list gens k.lists) k.drawn_count k.begun_count k.open_count (record {
            line = (sym number, plan);
            no_accept = refl;
            no_freeze = refl;
            plain = subst IsPlain same (plain_after r e plain refl refl refl
                (merges_begin r caller gens are is.in_use is.free is.rising once)
                (builds_nothing k e plain refl));
            drawn_count = same_drawn k event kept.fields refl;
            pieces = subst (λ (x : Record). AreCurrent x k.pieces) same
                (merges_keep.leaves r e k.pieces (known r are)
                (merges_keep.begins r caller gens (next_not_ended r are)) kept.pieces);
            held = subst (λ (x : Record). AreHeld x (map (with_holder gens) k.held)) same
                (held_merge_begin r caller gens k.held (next_not_closed r are) is.in_use
                (few_open kept) kept.held).1;
            views = same_views kept.fields.views event refl refl;
            own_lists = lists_merge k.history k.lists caller gens kept.fields.own_lists
                (subst (λ (m : ℕ). is_among m (filter_map closed_merge k.history) ≡ false) number
                (next_not_closed r are));
            room = omega (arith, enough);
          });
      record_is = sym same ∙ ap (after_begin_of caller r) (sym plan);
    }

-- ---- an open merge

module _ {k : Stored} (kept : IsKept k) (caller : ℕ) (m : Merge)
    (there : Contains (open_merges k.history) m) (own : m.caller ≡ caller) where
  abbrev r : Record
  r = record_of k

  may : MayEnd r m
  may = may_end r kept.plain.merges m there

  is_open : IsOpenMerge r caller m.merge m
  is_open = record { is_open = there; by_caller = own; number = refl }

  fewer : length (without_merge m.merge (open_merges k.history)) + 1 ≡ k.lists.merges_open
  fewer = one_fewer k.history m may.once ∙ kept.fields.own_lists.merges_open

  pub some_merging : 0 < k.lists.merges_open
  some_merging = omega (arith, fewer)

  pub merge_rises : IsStrictlyIncreasing m.generations
  merge_rises =
      increasing 0 m.generations (is_ending r m kept.plain kept.held.drawn_before there).rising

  -- its generations are its list
  pub merge_has_list : list_of m.merge k.lists.merges ≡ m.generations
  merge_has_list =
      ap (list_of m.merge) kept.fields.own_lists.merges
      ∙ own_list merge_list m.merge m (open_merges k.history) may.once.once may.once.only

  -- ---- it is dropped

  abbrev e-drop : HistoryEvent
  e-drop = merge_drop caller m.merge

  pub drop_holds : Drops r k.held caller m
  drop_holds = held_drop r caller m k.held may kept.held

  pub drops : Leaves (dropping caller m.merge m.generations k) (after_drop caller m r)
  drops =
      let are = kept.plain.merges in
      let same : current (with_event r e-drop) ≡ current r =
      current-skip k.history e-drop (λ n. refl) refl refl in
      record {
        kept = kept_changed kept e-drop k.pieces (after_release m.generations k.held)
            (without_merge_list m.merge k.lists) k.drawn_count k.begun_count k.open_count (record {
              line = (m, is_open);
              no_accept = refl;
              no_freeze = refl;
              plain = plain_after r e-drop kept.plain refl refl refl
                  (merges_close r are m there e-drop (λ n. refl) refl refl
                  (λ g here other. ap (is_among g) same ∙ here)
                  (one_same r e-drop (known r are) tt refl same are.once))
                  (builds_nothing k e-drop kept.plain refl);
              drawn_count = same_drawn k e-drop kept.fields refl;
              pieces = merges_keep.leaves r e-drop k.pieces (known r are)
                  (merges_keep.drops r caller m.merge) kept.pieces;
              held = drop_holds.held;
              views = same_views kept.fields.views e-drop refl refl;
              own_lists = lists_close k.history k.lists e-drop m kept.fields.own_lists may.once
                  refl refl (λ n. refl) refl;
              room = omega (arith, kept.fields.room, some_merging);
            });
        record_is = refl;
      }

  -- ---- it ends

  abbrev into : ℕ
  into = k.drawn_count + 1

  next : next_generation r ≡ into
  next = next_is k kept.fields

  below : AllByRecursion (λ g. g < into) (drawn k.history)
  below = subst (λ (n : ℕ). AllByRecursion (λ g. g < n) (drawn k.history)) next
      kept.plain.drawn_before

  ending : IsEnding r m into
  ending = subst (IsEnding r m) next (is_ending r m kept.plain kept.held.drawn_before there)

  left : (g : ℕ) → is_among g (current r) ≡ true → is_among g m.generations ≡ false
      → is_among g (filter (λ x. not (is_among x m.generations)) (current r)) ≡ true
  left g here other =
      among-filter (λ x. not (is_among x m.generations)) g (current r) ∙ rw (here, other) refl

  -- ---- in nothing

  abbrev gone : List ℕ
  gone = given_up k.held (after_retire m.generations k.held)

  abbrev e-none : HistoryEvent
  e-none = merge_end caller m.merge None gone

  pub none_holds : Ends r k.held (merge_end caller m.merge None []) m.generations
  none_holds = (held_none r caller m [] k.held may kept.held).0

  pub retires : merged_documents r m ≡ []
      → Leaves (retiring caller m.merge m.generations k) (after_commit caller m r)
  retires none =
      let are = kept.plain.merges in
      let same : current (with_event r e-none)
      ≡ filter (λ x. not (is_among x m.generations)) (current r) =
      current-after_none r caller m gone may.alone in
      let brings : merged_generation r m ≡ None = rw none refl in
      let freed = none_holds.freed in
      record {
        kept = kept_changed kept e-none (merged_pieces m.generations [] k.pieces)
            (after_retire m.generations k.held) (without_merge_list m.merge k.lists)
            k.drawn_count k.begun_count k.open_count (record {
              line = (m, is_open, sym brings, freed);
              no_accept = refl;
              no_freeze = refl;
              plain = plain_after r e-none kept.plain refl refl refl
                  (merges_close r are m there e-none (λ n. refl) refl refl
                  (λ g here other. ap (is_among g) same ∙ left g here other)
                  (one_none r caller m into gone ending))
                  (builds_nothing k e-none kept.plain refl);
              drawn_count = same_drawn k e-none kept.fields refl;
              pieces =
                  merges_keep.ends_empty r caller m into gone k.pieces ending none kept.pieces;
              held = (held_none r caller m gone k.held may kept.held).1;
              views = same_views kept.fields.views e-none refl refl;
              own_lists = lists_close k.history k.lists e-none m kept.fields.own_lists may.once
                  refl refl (λ n. refl) refl;
              room = omega (arith, kept.fields.room, some_merging);
            });
        record_is =
            ap (λ (gs : List ℕ). with_event r (merge_end caller m.merge None gs)) freed
            ∙ ap (λ (o : Option ℕ). with_event r (merge_end caller m.merge o
            (released r (merge_end caller m.merge o [])))) (sym brings);
      }

  pub none_is : merged_documents r m ≡ [] → gone ≡ released_by_merge caller m r
  none_is none =
      let brings : merged_generation r m ≡ None = rw none refl in
      none_holds.freed
      ∙ ap (λ (o : Option ℕ). released r (merge_end caller m.merge o [])) (sym brings)

  -- ---- in a generation

  abbrev e-some : HistoryEvent
  e-some = merge_end caller m.merge (Some into) gone

  pub some_holds : Ends r k.held (merge_end caller m.merge (Some into) []) m.generations
  some_holds = (held_some r caller m into [] k.held may below kept.held).0

  pub some_new : is_held (after_retire m.generations k.held) into ≡ false
  some_new = (held_some r caller m into [] k.held may below kept.held).1

  pub brings : (documents : List PlainNumbered) → documents ≡ merged_documents r m
      → 0 < length documents
      → Leaves (bringing caller m.merge m.upto m.generations documents k) (after_commit caller m r)
  brings documents are-they some =
      let are = kept.plain.merges in
      let new = undrawn into (drawn k.history) below in
      let same : current (with_event r e-some)
      ≡ filter (λ x. not (is_among x m.generations)) (current r) ++ into ∷ [] =
      after_merge r caller m into gone may.alone
      (undrawn_not_replaced r kept.held.drawn_before into new)
      (new_apart r m.generations into may.in_use new) in
      let test : nat_eq (length (merged_documents r m)) 0 ≡ false =
      (let long : 0 < length (merged_documents r m) =
      subst (λ (ds : List PlainNumbered). 0 < length ds) are-they some in
      grind (arith, nat_tests, long)) in
      let becomes : merged_generation r m ≡ Some into = rw test (ap Some next) in
      let freed = some_holds.freed in
      record {
        kept = kept_changed kept e-some
            (merged_pieces m.generations (brought m.upto documents k ∷ []) k.pieces)
            (with_current into (after_retire m.generations k.held))
            (without_merge_list m.merge k.lists) into k.begun_count k.open_count (record {
              line = (m, is_open, sym becomes, freed);
              no_accept = refl;
              no_freeze = refl;
              plain = plain_drawn r e-some kept.plain refl refl (ap Some (sym next))
                  (ap Some (sym next))
                  (merges_close r are m there e-some (λ n. refl) refl refl
                  (λ g here other. ap (is_among g) same
                  ∙ among_front g into
                  (filter (λ x. not (is_among x m.generations)) (current r)) (left g here other))
                  (one_end r caller m into gone ending));
              drawn_count =
                  ap (λ (gs : List ℕ). length gs)
                  (filter_map-append drawn_generation k.history (e-some ∷ []))
                  ∙ length-append (drawn k.history) (into ∷ [])
                  ∙ ap (λ (n : ℕ). n + 1) kept.fields.drawn_generations;
              pieces = merges_keep.ends r caller m into gone documents k.pieces ending are-they
                  kept.pieces;
              held = (held_some r caller m into gone k.held may below kept.held).2;
              views = same_views kept.fields.views e-some refl refl;
              own_lists = lists_close k.history k.lists e-some m kept.fields.own_lists may.once
                  refl refl (λ n. refl) refl;
              room = omega (arith, kept.fields.room, some_merging);
            });
        record_is =
            ap (λ (gs : List ℕ). with_event r (merge_end caller m.merge (Some into) gs)) freed
            ∙ after_same becomes;
      }
    where
      after_same : merged_generation r m ≡ Some into
          → with_event r (merge_end caller m.merge (Some into)
          (released r (merge_end caller m.merge (Some into) [])))
          ≡ after_commit caller m r
      after_same is =
          ap (λ (o : Option ℕ). with_event r (merge_end caller m.merge o
          (released r (merge_end caller m.merge o [])))) (sym is)

  pub some_is : (documents : List PlainNumbered) → documents ≡ merged_documents r m
      → 0 < length documents → gone ≡ released_by_merge caller m r
  some_is documents are-they some =
      let test : nat_eq (length (merged_documents r m)) 0 ≡ false =
      (let long : 0 < length (merged_documents r m) =
      subst (λ (ds : List PlainNumbered). 0 < length ds) are-they some in
      grind (arith, nat_tests, long)) in
      let becomes : merged_generation r m ≡ Some into = rw test (ap Some next) in
      some_holds.freed
      ∙ ap (λ (o : Option ℕ). released r (merge_end caller m.merge o [])) (sym becomes)

-- ---- what a merge brings

pub unless_some : (ds xs : List PlainNumbered) → Some ds ≡ unless_empty xs
    → (ds ≡ xs) × (0 < length ds)
unless_some ds [] is = absurd (let no : Some ds ≡ None = is in cc)
unless_some ds (x ∷ xs) is =
    let same : ds ≡ x ∷ xs = (let all : Some ds ≡ Some (x ∷ xs) = is in cc) in
    let long = ap (λ (ys : List PlainNumbered). length ys) same in
    (same, omega (arith, long))

pub unless_none : (xs : List PlainNumbered) → None ≡ unless_empty xs → xs ≡ []
unless_none [] is = refl
unless_none (x ∷ xs) is = absurd (let no : None ≡ Some (x ∷ xs) = is in cc)
