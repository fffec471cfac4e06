-- Every legal record pays for its generations, event by event.
use Rattle.std.proofs.Common.{◌≡◌, ◌≤◌, ◌<◌, ◌+◌, ℕ, zero, suc, Bool, true, false, cond, nat_eq}
use Rattle.std.proofs.Common.{not, Option, Some, None, List, [], ◌∷◌, ◌++◌, length, take, refl, sym}
use Rattle.std.proofs.Common.{ap, ◌∙◌, subst, arith, append-nil}
use Rattle.std.specs.Prelude.{Contains}
use Rattle.std.specs.List.{AllByRecursion, filter_map}
use Rattle.sg_paths.specs.Operations.{PlainOp}
use Rattle.index_core.specs.Histories.{HistoryEvent, accept, freeze, begin, built}
use Rattle.index_core.specs.Histories.{live_docs_updated, merge_begin, merge_end, merge_drop}
use Rattle.index_core.specs.Histories.{view_end, Record, Merge, is_among, accepted_number}
use Rattle.index_core.specs.Histories.{frozen_upto, drawn_generation, closed_merge}
use Rattle.index_core.specs.Histories as events
use Rattle.index_core.specs.Records.{with_event, frozen, drawn, current, begun_merges}
use Rattle.index_core.specs.Records.{next_generation, next_merge, open_merges}
use Rattle.index_core.specs.Merges.{merge_plan}
use Rattle.index_core.specs.LegalHistories.{IsLegal, IsLegalNext, first_events}
use Rattle.index_core.specs.LegalHistories.{merged_documents, merged_generation}
use Rattle.index_core.specs.MergeCalls.{next_merge_by}
use Rattle.index_core.specs.HeldGenerations.{RisesFrom, WereDrawn}
use Rattle.index_core.specs.MergedPieces.{IsEnding}
use Rattle.index_core.proofs.EventLemmas.{begun_by, frozen_after, current-skip}
use Rattle.index_core.proofs.HeldEventLemmas.{current_drawn, undrawn_not_replaced}
use Rattle.index_core.proofs.HistoryLemmas.{skips, frozen-skip}
use Rattle.index_core.proofs.KnownLemmas.{take_next}
use Rattle.index_core.proofs.KnownMergeLemmas.{next_not_ended, of_each}
use Rattle.index_core.proofs.LegalLemmas.{first_all}
use Rattle.index_core.proofs.ListLemmas.{all_filter}
use Rattle.index_core.proofs.MergeEventLemmas.{new_apart}
use Rattle.index_core.proofs.MergesLemmas.{frozen_after-is, is_ending}
use Rattle.index_core.proofs.OnceLemmas.{above_all}
use Rattle.index_core.proofs.OpenMergeLemmas.{current-begin}
use Rattle.index_core.proofs.PaidLemmas.{Pays, IsPaid, Stay, pay_more, pays_still}
use Rattle.index_core.proofs.PaidLemmas.{spent_same, spent_freeze, spent_some, spent_none}
use Rattle.index_core.proofs.PlannedPaysLemmas.{planned_pays}
use Rattle.index_core.proofs.PlannedLemmas.{planned_is, all_members}
use Rattle.index_core.proofs.ReplacedLemmas.{after_merge, current-after_none}
use Rattle.index_core.proofs.SoundLemmas.{IsSound, IsAfter}
use Rattle.index_core.proofs.SoundRecordLemmas.{first_next, first_accept, after_next, first_sound}

-- ---- an event that draws and freezes nothing

module _ (r s : Record) (e : HistoryEvent) (more : List PlainOp)
    (history : s.history ≡ r.history ++ e ∷ []) (journal : s.journal ≡ r.journal ++ more)
    (stays : Stay r s) (sound : IsSound r) (paid : IsPaid r) (freezes : frozen_upto e ≡ None)
    (draws : drawn_generation e ≡ None) where
  -- which leaves the current generations, and may begin a merge
  paid_using : current s ≡ current r
      → AllByRecursion (Pays s) (begun_by (frozen_after 0 r.history) e) → IsPaid s
  paid_using used new = record {
    pays = pay_more r s e more history journal stays sound new paid.pays;
    within = spent_same r s stays
        (ap events.drawn history ∙ skips drawn_generation r.history e draws) used
        (ap events.frozen history ∙ frozen-skip r.history e freezes) paid.within;
  }

  -- and begins and ends no merge
  paid_quiet : ((n : ℕ) → begun_by n e ≡ []) → events.ended_merge e ≡ None → IsPaid s
  paid_quiet none ends =
      paid_using (ap events.current history ∙ current-skip r.history e none ends draws)
      (subst (λ (ms : List Merge). AllByRecursion (Pays s) ms)
      (sym (none (frozen_after 0 r.history))) tt)

-- ---- a freeze

paid_freeze : (r : Record) (caller : ℕ) → IsSound r → IsPaid r → frozen r < length r.journal
    → Stay r (with_event r (freeze caller (next_generation r) (frozen r + 1) (length r.journal)))
    → IsPaid (with_event r (freeze caller (next_generation r) (frozen r + 1) (length r.journal)))
paid_freeze r caller sound paid some stays =
    let e = freeze caller (next_generation r) (frozen r + 1) (length r.journal) in
    record {
      pays = pay_more r (with_event r e) e [] refl (sym (append-nil r.journal)) stays sound tt
          paid.pays;
      within = spent_freeze r caller sound some stays paid.within;
    }

-- ---- a merge begins

paid_begin : (r : Record) (caller : ℕ) (gens : List ℕ) → IsSound r → IsPaid r
    → merge_plan r ≡ Some gens → Stay r (with_event r (merge_begin caller (next_merge r) gens))
    → IsPaid (with_event r (merge_begin caller (next_merge r) gens))
paid_begin r caller gens sound paid plan stays =
    let e = merge_begin caller (next_merge r) gens in
    let s = with_event r e in
    let merges = sound.plain.merges in
    let planned = planned_is r gens 1 (subst (λ (gs : List ℕ). RisesFrom 1 gs)
    sound.are.generations sound.are.rising) plan in
    let were : WereDrawn r gens =
    all_members gens (drawn r) (λ g there. current_drawn r g (planned.in_use g there)) in
    let pays = pays_still r s [] (next_merge_by caller r gens) (sym (append-nil r.journal)) stays
    were sound.plain.frozen_within (planned_pays r caller gens sound plan) in
    paid_using r s e [] refl (sym (append-nil r.journal)) stays sound paid refl refl
    (current-begin r.history caller (next_merge r) gens (next_not_ended r merges)) (
      subst (λ (n : ℕ). Pays s (record {
        caller = caller;
        merge = next_merge r;
        upto = n;
        generations = gens;
      })) (sym (frozen_after-is 0 r.history)) pays,
      tt,
    )

-- ---- a merge ends

module _ (r : Record) (caller : ℕ) (m : Merge) (gone : List ℕ) (sound : IsSound r)
    (paid : IsPaid r) (there : Contains (open_merges r) m) where
  abbrev into : ℕ
  into = next_generation r

  ending : IsEnding r m into
  ending = is_ending r m sound.plain sound.were there

  pays : Pays r m
  pays =
      let still : Merge → Bool =
      λ x. not (is_among x.merge (filter_map closed_merge r.history)) in
      of_each (Pays r) m (open_merges r) (all_filter (Pays r) still (begun_merges r) paid.pays) there

  new : is_among into (drawn r) ≡ false
  new = above_all into (drawn r) sound.plain.drawn_before

  paid_some : Stay r (with_event r (merge_end caller m.merge (Some into) gone))
      → IsPaid (with_event r (merge_end caller m.merge (Some into) gone))
  paid_some stays =
      let e = merge_end caller m.merge (Some into) gone in
      record {
        pays = pay_more r (with_event r e) e [] refl (sym (append-nil r.journal)) stays sound tt
            paid.pays;
        within = spent_some r caller m gone sound ending pays (with_event r e) refl stays
            (after_merge r caller m into gone ending.begun.alone
            (undrawn_not_replaced r sound.were into new)
            (new_apart r m.generations into ending.in_use new))
            (frozen-skip r.history e refl) paid.within;
      }

  paid_none : Stay r (with_event r (merge_end caller m.merge None gone))
      → IsPaid (with_event r (merge_end caller m.merge None gone))
  paid_none stays =
      let e = merge_end caller m.merge None gone in
      record {
        pays = pay_more r (with_event r e) e [] refl (sym (append-nil r.journal)) stays sound tt
            paid.pays;
        within = spent_none r caller m gone sound ending pays (with_event r e) stays
            (skips drawn_generation r.history e refl)
            (current-after_none r caller m gone ending.begun.alone)
            (frozen-skip r.history e refl) paid.within;
      }

  paid_by : (b : Bool)
      → Stay r (with_event r (merge_end caller m.merge (cond b None (Some into)) gone))
      → IsPaid (with_event r (merge_end caller m.merge (cond b None (Some into)) gone))
  paid_by true stays = paid_none stays
  paid_by false stays = paid_some stays

-- ---- each legal event

module _ (s : Record) (legal : IsLegal s) (k : ℕ) where
  abbrev r : Record
  r = first_events k s

  abbrev s-next : Record
  s-next = first_events (suc k) s

  -- an event that accepts nothing leaves the journal
  journal_same : (e : HistoryEvent) → take (suc k) s.history ≡ take k s.history ++ e ∷ []
      → accepted_number e ≡ None → s-next.journal ≡ r.journal ++ []
  journal_same e split none =
      ap (λ (x : Record). x.journal) (sym (first_next s legal k e split none))
      ∙ sym (append-nil r.journal)

  paid_next : (e : HistoryEvent) → IsSound r → IsPaid r → IsLegalNext r e
      → take (suc k) s.history ≡ take k s.history ++ e ∷ [] → IsAfter r s-next → IsPaid s-next
  paid_next (accept c q) sound paid next split after =
      let got = first_accept s legal k c q split in
      paid_quiet r s-next (accept c q) (got.0 ∷ []) split
      (ap (λ (x : Record). x.journal) (sym got.1)) after.stays sound paid refl refl (λ n. refl) refl
  paid_next (freeze c g f u) sound paid next split after =
      let numbered = sound.plain.numbered in
      let line = next.line in
      let same : freeze c (next_generation r) (frozen r + 1) (length r.journal)
      ≡ freeze c g f u =
      ap (λ (n : ℕ). freeze c n (frozen r + 1) (length r.journal)) (sym line.0)
      ∙ ap (λ (n : ℕ). freeze c g n (length r.journal)) (sym line.1)
      ∙ ap (freeze c g f) (numbered ∙ sym line.2) in
      let is = ap (with_event r) same ∙ first_next s legal k (freeze c g f u) split refl in
      let some = line.3 in
      subst IsPaid is (paid_freeze r c sound paid (omega (arith, numbered, some))
      (subst (Stay r) (sym is) after.stays))
  paid_next (begin c v u gs) sound paid next split after =
      paid_quiet r s-next (begin c v u gs) [] split (journal_same (begin c v u gs) split refl)
      after.stays sound paid refl refl (λ n. refl) refl
  paid_next (built c g) sound paid next split after =
      paid_quiet r s-next (built c g) [] split (journal_same (built c g) split refl)
      after.stays sound paid refl refl (λ n. refl) refl
  paid_next (live_docs_updated c g u) sound paid next split after =
      paid_quiet r s-next (live_docs_updated c g u) [] split
      (journal_same (live_docs_updated c g u) split refl) after.stays sound paid refl refl
      (λ n. refl) refl
  paid_next (merge_begin c n gs) sound paid next split after =
      let line = next.line in
      let is = ap (λ (i : ℕ). with_event r (merge_begin c i gs)) (sym line.0)
      ∙ first_next s legal k (merge_begin c n gs) split refl in
      subst IsPaid is (paid_begin r c gs sound paid line.1 (subst (Stay r) (sym is) after.stays))
  paid_next (merge_end c n i gone) sound paid next split after =
      let line = next.line in
      let m = line.0 in
      let is = ap (λ (x : ℕ). with_event r (merge_end c x (merged_generation r m) gone))
      line.1.number
      ∙ ap (λ (o : Option ℕ). with_event r (merge_end c n o gone)) (sym line.2)
      ∙ first_next s legal k (merge_end c n i gone) split refl in
      subst IsPaid is (paid_by r c m gone sound paid line.1.is_open
      (nat_eq (length (merged_documents r m)) 0) (subst (Stay r) (sym is) after.stays))
  paid_next (merge_drop c n) sound paid next split after =
      paid_quiet r s-next (merge_drop c n) [] split (journal_same (merge_drop c n) split refl)
      after.stays sound paid refl refl (λ i. refl) refl
  paid_next (view_end c v gone) sound paid next split after =
      paid_quiet r s-next (view_end c v gone) [] split (journal_same (view_end c v gone) split refl)
      after.stays sound paid refl refl (λ i. refl) refl

-- ---- all events

first_paid : (s : Record) → IsLegal s → (k : ℕ) → k ≤ length s.history
    → IsPaid (first_events k s)
first_paid s legal zero less = record { pays = tt; within = omega arith }
first_paid s legal (suc k) less =
    let sound = first_sound s legal k (omega (arith, less)) in
    let next = take_next k s.history (omega (arith, less)) in
    let may = legal.events k next.0 next.1 in
    paid_next s legal k next.0 sound (first_paid s legal k (omega (arith, less))) may next.2
    (after_next s legal k next.0 sound may next.2)

pub legal_paid : (s : Record) → IsLegal s → IsPaid s
legal_paid s legal =
    subst IsPaid (first_all s legal.numbered)
    (first_paid s legal (length s.history) (omega arith))
