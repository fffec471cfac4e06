-- A record that freezes nothing more stays legal, and its generations stay drawn in turn.
use Rattle.std.proofs.Common.{◌≡◌, ◌<◌, ◌+◌, ℕ, List, [], ◌∷◌, ◌++◌, length, refl, sym, ap}
use Rattle.std.proofs.Common.{◌∙◌, subst, arith, None, Some}
use Rattle.std.specs.List.{AllByRecursion, filter_map}
use Rattle.std.proofs.lemmas.List.{length-append}
use Rattle.std.proofs.lemmas.List.Elements.{filter_map-append}
use Rattle.index_core.specs.Histories.{HistoryEvent, Record, accepted_number, frozen_upto}
use Rattle.index_core.specs.Histories.{drawn_generation, built_generation, is_among, merges_from}
use Rattle.index_core.specs.Histories.{ended_merge, closed_merge}
use Rattle.index_core.specs.Records.{with_event, accepted, frozen, drawn, next_generation, current}
use Rattle.index_core.specs.LegalHistories.{IsLegal, IsLegalNext, MeetsLine}
use Rattle.index_core.specs.EndedMerges.{BeginsNextMerge}
use Rattle.index_core.specs.Keeping.{AreMerges, IsPlain}
use Rattle.index_core.proofs.ListLemmas.{all_weaker, all_more}
use Rattle.index_core.proofs.HistoryLemmas.{skips, accepted-skip, frozen-skip}
use Rattle.index_core.proofs.EventLemmas.{current-skip}
use Rattle.index_core.proofs.LegalLemmas.{AreLegal, are_legal, legal_more}
use Rattle.index_core.proofs.KnownMergeLemmas.{known}
use Rattle.index_core.proofs.MergesLemmas.{merges_quiet}
use Rattle.index_core.proofs.OnceLemmas.{one_same}

-- an event that accepts and freezes nothing
module _ (r : Record) (e : HistoryEvent) (plain : IsPlain r)
    (no_accept : accepted_number e ≡ None) (no_freeze : frozen_upto e ≡ None) where
  accepted-same : accepted (with_event r e) ≡ accepted r
  accepted-same = accepted-skip r.history e no_accept

  frozen-same : frozen (with_event r e) ≡ frozen r
  frozen-same = frozen-skip r.history e no_freeze

  pub legal_after : IsLegal r → MeetsLine r e → IsLegal (with_event r e)
  legal_after legal line =
      let next : IsLegalNext r e = record {
        line = line;
        freezes_when_full = λ full. absurd (omega (arith, full, legal.not_full));
      } in
      let later : AreLegal (with_event r e) =
      legal_more r e r.journal (are_legal r legal) next (λ n within. refl)
      (rw accepted-same legal.numbered) in
      record {
        numbered = later.numbered;
        events = later.events;
        not_full = rw (accepted-same, frozen-same) legal.not_full;
      }

  -- that draws nothing
  pub plain_after : drawn_generation e ≡ None → AreMerges (with_event r e)
      → AllByRecursion (λ g. g < next_generation r)
      (filter_map built_generation (r.history ++ e ∷ [])) → IsPlain (with_event r e)
  plain_after no_draw merges builds =
      let drawn-same : drawn (with_event r e) ≡ drawn r =
      skips drawn_generation r.history e no_draw in
      record {
        numbered = rw accepted-same plain.numbered;
        merges = merges;
        frozen_before = rw (frozen-same, skips frozen_upto r.history e no_freeze)
            plain.frozen_before;
        frozen_within = rw frozen-same plain.frozen_within;
        drawn_before = rw drawn-same plain.drawn_before;
        built_before = rw drawn-same builds;
        most = plain.most;
      }

  -- that draws the next generation, with its segment
  pub plain_drawn : drawn_generation e ≡ Some (next_generation r)
      → built_generation e ≡ Some (next_generation r) → AreMerges (with_event r e)
      → IsPlain (with_event r e)
  plain_drawn draws builds merges =
      let g : ℕ = next_generation r in
      let drawn-is : drawn (with_event r e) ≡ drawn r ++ g ∷ [] =
      filter_map-append drawn_generation r.history (e ∷ []) ∙ rw draws refl in
      let built-is : filter_map built_generation (r.history ++ e ∷ [])
      ≡ filter_map built_generation r.history ++ g ∷ [] =
      filter_map-append built_generation r.history (e ∷ []) ∙ rw builds refl in
      let next : next_generation (with_event r e) ≡ g + 1 =
      ap (λ (gs : List ℕ). length gs + 1) drawn-is
      ∙ omega (arith, length-append (drawn r) (g ∷ [])) in
      let below : (gs : List ℕ) → AllByRecursion (λ x. x < g) gs
      → AllByRecursion (λ x. x < g + 1) (gs ++ g ∷ []) =
      λ gs all. all_more (λ x. x < g + 1) gs g
      (all_weaker (λ x. x < g) (λ x. x < g + 1) (λ x less. omega (arith, less)) gs all)
      (omega arith) in
      record {
        numbered = rw accepted-same plain.numbered;
        merges = merges;
        frozen_before = rw (frozen-same, skips frozen_upto r.history e no_freeze)
            plain.frozen_before;
        frozen_within = rw frozen-same plain.frozen_within;
        drawn_before = subst (λ (n : ℕ). AllByRecursion (λ x. x < n) (drawn (with_event r e)))
            (sym next) (subst (AllByRecursion (λ x. x < g + 1)) (sym drawn-is)
            (below (drawn r) plain.drawn_before));
        built_before = subst (λ (n : ℕ). AllByRecursion (λ x. x < n)
            (filter_map built_generation (r.history ++ e ∷ []))) (sym next)
            (subst (AllByRecursion (λ x. x < g + 1)) (sym built-is)
            (below (filter_map built_generation r.history) plain.built_before));
        most = plain.most;
      }

-- an event that neither begins nor closes a merge, and draws and freezes nothing
pub merges_still : (r : Record) (e : HistoryEvent) → AreMerges r
    → ((k : ℕ) → merges_from k (e ∷ []) ≡ []) → closed_merge e ≡ None → ended_merge e ≡ None
    → BeginsNextMerge r e → frozen_upto e ≡ None → drawn_generation e ≡ None
    → AreMerges (with_event r e)
merges_still r e are none closes ends next no_freeze no_draw =
    let frozen-same : frozen (with_event r e) ≡ frozen r = frozen-skip r.history e no_freeze in
    let same : current (with_event r e) ≡ current r =
    current-skip r.history e none ends no_draw in
    merges_quiet r e r.journal are none closes (omega (arith, frozen-same))
    (λ g there. ap (is_among g) same ∙ there)
    (one_same r e (known r are) next no_draw same are.once)
