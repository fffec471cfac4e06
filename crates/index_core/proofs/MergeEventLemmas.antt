-- What is held after a merge has begun, was dropped, or has ended, and what is given up.
use Rattle.std.proofs.Common.{◌≡◌, ◌+◌, ℕ, Bool, true, false, cond, not, nat_eq, ◌||◌}
use Rattle.std.proofs.Common.{List, [], ◌∷◌, length, map, refl, sym, ap, ◌∙◌, arith}
use Rattle.std.proofs.Common.{Some, None}
use Rattle.std.specs.Prelude.{filter, nat_lt}
use Rattle.std.specs.List.{AllByRecursion, filter_map}
use Rattle.index_holds.specs.declared.held.Held.{Held}
use Rattle.index_holds.specs.Entries.{Rise}
use Rattle.index_holds.specs.Holders.{is_held, with_holder, with_current, after_release}
use Rattle.index_holds.specs.Holders.{after_retire}
use Rattle.index_core.specs.Histories.{HistoryEvent, accept, freeze, begin, built}
use Rattle.index_core.specs.Histories.{live_docs_updated, merge_begin, merge_end, merge_drop}
use Rattle.index_core.specs.Histories.{view_end, Record, View, Merge, is_among, begun_view}
use Rattle.index_core.specs.Histories.{ended_view, closed_merge, ended_merge, merges_from}
use Rattle.index_core.specs.Records.{with_event, drawn, current, open_merges}
use Rattle.index_core.specs.Records.{is_referenced}
use Rattle.index_core.specs.HeldGenerations.{holder_count, AreHolds, IsOnce, RisesFrom}
use Rattle.index_core.specs.HeldEvents.{AreDrawn, AreInUse, MayEnd, IsNew}
use Rattle.index_core.specs.HeldEvents.{DropsHolders, Retires, CountsFollowEvents}
use Rattle.index_core.proofs.CountedLemmas.{among-generations}
use Rattle.index_core.proofs.EventLemmas.{current-skip}
use Rattle.index_core.proofs.HeldEventLemmas.{current_drawn, referenced_drawn}
use Rattle.index_core.proofs.HeldEventLemmas.{undrawn_unreferenced, undrawn_not_replaced}
use Rattle.index_core.proofs.HeldEventLemmas.{holds-quiet, drawn_still, last_first, holds-freeze}
use Rattle.index_core.proofs.HeldEventLemmas.{holds-begin}
use Rattle.index_core.proofs.HoldingLemmas.{one_if, count_without, count_with, referenced_is}
use Rattle.index_core.proofs.HoldsLemmas.{holds_held, have_room, each_among}
use Rattle.index_core.proofs.OpenMergeLemmas.{new_merge, open_merges-begin, current-begin}
use Rattle.index_core.proofs.OpenMergeLemmas.{open_merges-close}
use Rattle.index_core.proofs.ReleasingLemmas.{in_use, holds_released, have_holders}
use Rattle.index_core.proofs.ReplacedLemmas.{current-after_none, after_merge}
use Rattle.index_core.proofs.RetiringLemmas.{left, holds_retired, holds_brought, have_current}
use Rattle.index_core.proofs.RetiringLemmas.{not_held_after, given_up-retired}
use Rattle.index_core.proofs.RisingLemmas.{among-filter, same_number}
use Rattle.index_core.proofs.ViewLemmas.{open_views-skip}

-- ---- a merge begins

-- what wasn't closed didn't end
ended_no_more : (n : ℕ) (h : List HistoryEvent) → is_among n (filter_map closed_merge h) ≡ false
    → is_among n (filter_map ended_merge h) ≡ false
ended_no_more n [] out = refl
ended_no_more n (accept a b ∷ h) out = ended_no_more n h out
ended_no_more n (freeze a b f u ∷ h) out = ended_no_more n h out
ended_no_more n (begin a b u gs ∷ h) out = ended_no_more n h out
ended_no_more n (built a b ∷ h) out = ended_no_more n h out
ended_no_more n (live_docs_updated a b c ∷ h) out = ended_no_more n h out
ended_no_more n (merge_begin a b gs ∷ h) out = ended_no_more n h out
ended_no_more n (merge_end a b i gone ∷ h) out =
    let outs = either (nat_eq n b) (is_among n (filter_map closed_merge h)) out in
    ap (λ (x : Bool). x || is_among n (filter_map ended_merge h)) outs.0
    ∙ ended_no_more n h outs.1
  where
    either : (a b : Bool) → (a || b) ≡ false → (a ≡ false) × (b ≡ false)
    either true b e = let no : true ≡ false = e in cc
    either false b e = (refl, e)
ended_no_more n (merge_drop a b ∷ h) out =
    ended_no_more n h (later (nat_eq n b) (is_among n (filter_map closed_merge h)) out)
  where
    later : (a b : Bool) → (a || b) ≡ false → b ≡ false
    later true b e = let no : true ≡ false = e in cc
    later false b e = e
ended_no_more n (view_end a b gone ∷ h) out = ended_no_more n h out

holds-merge_begin : (r : Record) (caller n : ℕ) (gens : List ℕ)
    → is_among n (filter_map closed_merge r.history) ≡ false → AreInUse r gens → (hs : List Held)
    → AreHolds r hs
    → AreHolds (with_event r (merge_begin caller n gens)) (map (with_holder gens) hs)
holds-merge_begin r caller n gens new used hs are =
    let e = merge_begin caller n gens in
    holds_held r (with_event r e) gens
    (λ g. ap (is_among g)
    (current-begin r.history caller n gens (ended_no_more n r.history new)))
    (λ g.
    let merges = ap (λ (ms : List Merge). length (filter (λ m. is_among g m.generations) ms))
    (open_merges-begin r.history caller n gens new)
    ∙ count_with (λ m. is_among g m.generations) (open_merges r)
    (new_merge r.history caller n gens) in
    let views = ap (λ (vs : List View). length (filter (λ w. is_among g w.generations) vs))
    (open_views-skip r.history e refl refl) in
    omega (arith, views, merges))
    used hs are

-- ---- a merge less

merge_fewer : (r : Record) (e : HistoryEvent) (m : Merge)
    → IsOnce (λ x. x.merge) m (open_merges r) → ((k : ℕ) → merges_from k (e ∷ []) ≡ [])
    → begun_view e ≡ None → ended_view e ≡ None
    → filter_map closed_merge (e ∷ []) ≡ m.merge ∷ []
    → (g : ℕ)
    → holder_count r g ≡ holder_count (with_event r e) g + one_if (is_among g m.generations)
merge_fewer r e m once none begins ends closes g =
    let merges =
    count_without (λ x. x.merge) m (λ x. is_among g x.generations) (open_merges r) once in
    let after = ap (λ (ms : List Merge). length (filter (λ x. is_among g x.generations) ms))
    (open_merges-close r.history e m.merge none closes) in
    let views = ap (λ (vs : List View). length (filter (λ w. is_among g w.generations) vs))
    (open_views-skip r.history e begins ends) in
    omega (arith, merges, after, views)

-- ---- a merge is dropped

module _ (r : Record) (caller : ℕ) (m : Merge) (may : MayEnd r m) where
  abbrev dropped : Record
  dropped = with_event r (merge_drop caller m.merge)

  drop_stays : (g : ℕ) → in_use dropped g ≡ in_use r g
  drop_stays g =
      ap (is_among g) (current-skip r.history (merge_drop caller m.merge) (λ k. refl) refl refl)

  drop_fewer : (g : ℕ)
      → holder_count r g ≡ holder_count dropped g + one_if (is_among g m.generations)
  drop_fewer g =
      merge_fewer r (merge_drop caller m.merge) m may.once (λ k. refl) refl refl refl g

  -- what was referenced is so still, since the merge's generations are current
  still_there : (g : ℕ) → is_referenced r g ≡ true → is_referenced dropped g ≡ true
  still_there g is =
      referenced_is dropped g
      ∙ by_test (is_among g m.generations) refl (drop_fewer g) (sym (referenced_is r g) ∙ is)
    where
      by_test : (b : Bool) → is_among g m.generations ≡ b
          → holder_count r g ≡ holder_count dropped g + one_if b
          → (in_use r g || nat_lt 0 (holder_count r g)) ≡ true
          → (in_use dropped g || nat_lt 0 (holder_count dropped g)) ≡ true
      by_test true there split e =
          ap (λ (b : Bool). b || nat_lt 0 (holder_count dropped g))
          (drop_stays g ∙ may.in_use g there)
      by_test false there split e =
          let same : holder_count r g ≡ holder_count dropped g = omega (arith, split) in
          ap (λ (b : Bool). b || nat_lt 0 (holder_count dropped g)) (drop_stays g)
          ∙ ap (λ (n : ℕ). in_use r g || nat_lt 0 n) (sym same) ∙ e

  none_left : (p : ℕ → Bool) (gs : List ℕ) → AllByRecursion (λ g. p g ≡ true) gs
      → filter (λ g. not (p g)) gs ≡ []
  none_left p [] all = refl
  none_left p (g ∷ gs) all =
      ap (λ (b : Bool). cond (not b) (g ∷ filter (λ n. not (p n)) gs) (filter (λ n. not (p n)) gs))
      all.0 ∙ none_left p gs all.1

  pub drops_holders : (hs : List Held) → AreHolds r hs
      → DropsHolders r dropped m.generations hs
  drops_holders hs are =
      let after = holds_released r dropped m.generations drop_stays drop_fewer hs are in record {
        held = have_holders r dropped m.generations drop_stays drop_fewer hs are;
        holds = after;
        kept = none_left (is_held (after_release m.generations hs)) (map (λ h. h.generation) hs)
            (each_among (λ g. is_held (after_release m.generations hs) g ≡ true)
            (map (λ h. h.generation) hs)
            (λ g there. after.held g
            ∙ still_there g (sym (are.held g) ∙ sym (among-generations g hs) ∙ there)));
      }

-- ---- a merge ends

-- a new generation isn't one of the merge's
pub new_apart : (r : Record) (gens : List ℕ) (into : ℕ) → AreInUse r gens → IsNew r into
    → is_among into gens ≡ false
new_apart r gens into used new = by_test (is_among into gens) refl
  where
    by_test : (b : Bool) → is_among into gens ≡ b → b ≡ false
    by_test false is = refl
    by_test true is =
        let no : true ≡ false = sym (current_drawn r into (used into is)) ∙ new in cc

module _ (r : Record) (caller : ℕ) (m : Merge) (gone : List ℕ) (may : MayEnd r m) where
  abbrev ended : Record
  ended = with_event r (merge_end caller m.merge None gone)

  none_fewer : (g : ℕ)
      → holder_count r g ≡ holder_count ended g + one_if (is_among g m.generations)
  none_fewer g =
      merge_fewer r (merge_end caller m.merge None gone) m may.once (λ k. refl) refl refl refl g

  none_left_in_use : (g : ℕ) → in_use ended g ≡ left r ended m.generations none_fewer g
  none_left_in_use g =
      ap (is_among g) (current-after_none r caller m gone may.alone)
      ∙ among-filter (λ n. not (is_among n m.generations)) g (current r)

  pub retires : (hs : List Held) → AreDrawn r → RisesFrom 0 (drawn r) → Rise hs → AreHolds r hs
      → Retires r (merge_end caller m.merge None gone) m.generations hs
      × AreHolds ended (after_retire m.generations hs)
  retires hs were rises up are = (
    record {
      held = have_current r ended m.generations none_fewer may.in_use hs are;
      freed = given_up-retired r ended m.generations none_fewer hs up are rises
          (referenced_drawn r were) (λ g there. none_left_in_use g);
    },
    holds_retired r ended m.generations none_fewer none_left_in_use hs are,
  )

module _ (r : Record) (caller : ℕ) (m : Merge) (into : ℕ) (gone : List ℕ) (may : MayEnd r m)
    (were : AreDrawn r) (new : IsNew r into) where
  abbrev brought : Record
  brought = with_event r (merge_end caller m.merge (Some into) gone)

  some_fewer : (g : ℕ)
      → holder_count r g ≡ holder_count brought g + one_if (is_among g m.generations)
  some_fewer g =
      merge_fewer r (merge_end caller m.merge (Some into) gone) m may.once (λ k. refl) refl refl
      refl g

  comes : (g : ℕ) → in_use brought g ≡ (nat_eq into g || left r brought m.generations some_fewer g)
  comes g =
      ap (is_among g) (after_merge r caller m into gone may.alone
      (undrawn_not_replaced r were into new) (new_apart r m.generations into may.in_use new))
      ∙ last_first g into (filter (λ n. not (is_among n m.generations)) (current r))
      ∙ ap (λ (b : Bool). nat_eq into g || b)
      (among-filter (λ n. not (is_among n m.generations)) g (current r))

  other : (g : ℕ) → is_among g (drawn r) ≡ true → nat_eq into g ≡ false
  other g there = by_test (nat_eq into g) refl
    where
      by_test : (b : Bool) → nat_eq into g ≡ b → b ≡ false
      by_test false is = refl
      by_test true is =
          let no : true ≡ false =
          sym there ∙ ap (λ (n : ℕ). is_among n (drawn r)) (sym (same_number into g is)) ∙ new in
          cc

  pub retires_with : (hs : List Held) → RisesFrom 0 (drawn r) → Rise hs → AreHolds r hs
      → Retires r (merge_end caller m.merge (Some into) gone) m.generations hs
      × (is_held (after_retire m.generations hs) into ≡ false)
      × AreHolds brought (with_current into (after_retire m.generations hs))
  retires_with hs rises up are = (
    record {
      held = have_current r brought m.generations some_fewer may.in_use hs are;
      freed = given_up-retired r brought m.generations some_fewer hs up are rises
          (referenced_drawn r were)
          (λ g there. comes g
          ∙ ap (λ (b : Bool). b || left r brought m.generations some_fewer g) (other g there));
    },
    not_held_after r brought m.generations some_fewer into
        (undrawn_unreferenced r were into new) hs are,
    holds_brought r brought m.generations some_fewer into (undrawn_unreferenced r were into new)
        comes hs are,
  )

-- ---- the law

pub counts_follow : CountsFollowEvents
counts_follow = record {
  drawn_still = drawn_still;
  quiet = λ r e journal hs quiet are. holds-quiet r e journal quiet hs are;
  freezes = λ r caller g from upto hs were new are. (
    are.held g ∙ undrawn_unreferenced r were g new,
    holds-freeze r caller g from upto were new hs are,
  );
  begins = λ r v hs new used few are. record {
    room = have_room r v.generations used few hs are;
    holds = holds-begin r v new used hs are;
  };
  begins_merge = λ r caller merge gens hs new used few are. record {
    room = have_room r gens used few hs are;
    holds = holds-merge_begin r caller merge gens new used hs are;
  };
  drops_merge = λ r caller m hs may are. drops_holders r caller m may hs are;
  ends_merge = λ r caller m gone hs may were rises up are.
      retires r caller m gone may hs were rises up are;
  ends_with = λ r caller m into gone hs may were new rises up are.
      retires_with r caller m into gone may were new hs rises up are;
}
