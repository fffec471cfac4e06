-- An offer where nobody else acts: each section finds what the handle has seen, so it is a flush.
use Rattle.std.proofs.Common.{◌≡◌, ◌<◌, ◌+◌, inl, inr, ℕ, Bool, true, false, cond}
use Rattle.std.proofs.Common.{nat_eq, List, [], ◌∷◌, ◌++◌, length, refl, sym, ap, ◌∙◌, subst}
use Rattle.std.proofs.Common.{arith, length-append}
use Rattle.std.specs.Prelude.{fold}
use Rattle.std.specs.List.{AllByRecursion}
use Rattle.std.proofs.lemmas.Bool.Decides.{nat_tests}
use Rattle.std.proofs.lemmas.List.{append-nil, append_assoc, append_cancel_left}
use Rattle.std.proofs.lemmas.List.Elements.{filter-append}
use Rattle.sg_paths.specs.Operations.{PlainOp}
use Rattle.turn_lock.specs.Handles.{own}
use Rattle.index_core.specs.Histories.{HistoryEvent, Record}
use Rattle.index_core.specs.Records.{accepted, frozen, current}
use Rattle.index_core.specs.LegalHistories.{IsLegal}
use Rattle.index_core.specs.Calls.{after_freeze}
use Rattle.index_core.specs.CurrentPieces.{after_built}
use Rattle.index_core.proofs.ListLemmas.{no_items, all_both}
use Rattle.index_core.proofs.PlannedLemmas.{all_members}
use Rattle.index_shared.specs.Sections.{caller_of, HandleState, seen_by, having, FindsRecord}
use Rattle.index_shared.specs.Sections.{Extends}
use Rattle.index_shared.specs.Offers.{refreshed, after_flush, built_by_flush, IsUpkeep}
use Rattle.index_shared.specs.Offers.{segments_due, Refreshed, Refreshes, Offered, StoppedIn}
use Rattle.index_shared.specs.Offers.{StopsAt, OfferStopped, AddsUpkeep}
use Rattle.index_shared.specs.Offering.{IsTended}
use Rattle.index_shared.proofs.OfferBuiltLemmas.{built_along, built_along_is}
use Rattle.index_shared.proofs.ExtendsLemmas.{extends_same, extends_on}
use Rattle.index_shared.proofs.OfferEventLemmas.{tended_extends, tended_freeze, tended_refreshed}
use Rattle.index_shared.proofs.OfferEventLemmas.{tended_built, tended_numbered}
use Rattle.index_shared.proofs.OfferGrowthLemmas.{current_rise}
use Rattle.index_shared.proofs.OfferHandleLemmas.{refreshes_extends}
use Rattle.index_shared.proofs.OfferStopLemmas.{stops_extends}

-- ---- nobody else

-- where both together are nothing, each is
pub first_none : {X : Type 0} (xs ys : List X) → xs ++ ys ≡ [] → xs ≡ []
first_none [] ys none = refl
first_none (x ∷ xs) ys none = absurd (cc)

second_none : {X : Type 0} (xs ys : List X) → xs ++ ys ≡ [] → ys ≡ []
second_none [] ys none = none
second_none (x ∷ xs) ys none = absurd (cc)

all_second : {X : Type 0} (P : X → Type 0) (xs ys : List X) → AllByRecursion P (xs ++ ys)
    → AllByRecursion P ys
all_second P [] ys all = all
all_second P (x ∷ xs) ys all = all_second P xs ys all.1

-- two callers, and no event of either
nobody : (es : List HistoryEvent) → own caller_of 0 es ≡ [] → own caller_of 1 es ≡ []
    → AllByRecursion (λ e. caller_of e < 2) es → es ≡ []
nobody [] zeros ones all = refl
nobody (e ∷ es) zeros ones all =
    absurd (by_tests (nat_eq (caller_of e) 0) (nat_eq (caller_of e) 1) refl refl zeros ones)
  where
    below : caller_of e < 2 → nat_eq (caller_of e) 0 ≡ false → nat_eq (caller_of e) 1 ≡ false → ⊥
    below less a b = grind (arith, nat_tests, less, a, b)

    by_tests : (a b : Bool) → nat_eq (caller_of e) 0 ≡ a → nat_eq (caller_of e) 1 ≡ b
        → cond a (e ∷ own caller_of 0 es) (own caller_of 0 es) ≡ []
        → cond b (e ∷ own caller_of 1 es) (own caller_of 1 es) ≡ [] → ⊥
    by_tests true b p q none none' = let same : e ∷ own caller_of 0 es ≡ [] = none in cc
    by_tests false true p q none none' = let same : e ∷ own caller_of 1 es ≡ [] = none' in cc
    by_tests false false p q none none' = below all.0 p q

-- one of two handles, between two times: the other has appended nothing
pub record IsAlone (h h' : HandleState) : Type 0 where
  pub seats : h.seats ≡ 2
  pub number : h.number ≡ 1
  pub numbered : length h.journal ≡ accepted (seen_by h)
  pub more : List HistoryEvent
  pub history_is : h'.history ≡ h.history ++ more
  pub quiet : own caller_of 0 more ≡ []

-- what was seen in between, and the events that came then and later
middle : (h h' : HandleState) (alone : IsAlone h h') (r : Record)
    (p : Extends (seen_by h) r) (q : Extends r (seen_by h'))
    → alone.more ≡ p.events ++ q.events
middle h h' alone r p q =
    append_cancel_left h.history alone.more (p.events ++ q.events)
    (sym alone.history_is ∙ q.history_is
    ∙ ap (λ (es : List HistoryEvent). es ++ q.events) p.history_is
    ∙ append_assoc h.history p.events q.events)

quiet_parts : (h h' : HandleState) (alone : IsAlone h h') (r : Record)
    (p : Extends (seen_by h) r) (q : Extends r (seen_by h'))
    → own caller_of 0 p.events ++ own caller_of 0 q.events ≡ []
quiet_parts h h' alone r p q =
    sym (filter-append (λ e. nat_eq (caller_of e) 0) p.events q.events)
    ∙ ap (own caller_of 0) (sym (middle h h' alone r p q)) ∙ alone.quiet

-- a section finds what was seen
pub found_is_seen : (h h' : HandleState) → IsAlone h h' → (found : Record) → FindsRecord h found
    → IsLegal found → Extends found (seen_by h') → found ≡ seen_by h
found_is_seen h h' alone found finds legal later =
    let events = finds.later.events in
    let zeros : own caller_of 0 events ≡ [] =
    first_none (own caller_of 0 events) (own caller_of 0 later.events)
    (quiet_parts h h' alone found finds.later later) in
    let ones : own caller_of 1 events ≡ [] =
    subst (λ (n : ℕ). own caller_of n events ≡ []) alone.number finds.others in
    let callers : AllByRecursion (λ e. caller_of e < 2) events =
    all_second (λ e. caller_of e < 2) h.history events
    (subst (λ (es : List HistoryEvent). AllByRecursion (λ e. caller_of e < 2) es)
    finds.later.history_is (subst (λ (n : ℕ). AllByRecursion (λ e. caller_of e < n) found.history)
    alone.seats finds.callers)) in
    let history : found.history ≡ h.history =
    finds.later.history_is
    ∙ ap (λ (es : List HistoryEvent). h.history ++ es) (nobody events zeros ones callers)
    ∙ append-nil h.history in
    let counted : length found.journal ≡ length h.journal =
    legal.numbered
    ∙ ap (λ (es : List HistoryEvent). accepted (record { history = es; journal = [] })) history
    ∙ sym alone.numbered in
    let long = ap (λ (ops : List PlainOp). length ops) finds.later.journal_is in
    let both = length-append h.journal finds.later.operations in
    let journal : found.journal ≡ h.journal =
    finds.later.journal_is
    ∙ ap (λ (ops : List PlainOp). h.journal ++ ops)
    (no_items finds.later.operations (omega (arith, counted, long, both)))
    ∙ append-nil h.journal in
    ap (λ (es : List HistoryEvent). record { history = es; journal = found.journal }) history
    ∙ ap (λ (ops : List PlainOp). record { history = h.history; journal = ops }) journal

-- and from what comes next on it is alone too
alone_next : (h h' : HandleState) → IsAlone h h' → (r : Record)
    → Extends (seen_by h) r → Extends r (seen_by h') → length r.journal ≡ accepted r
    → IsAlone (having h r) h'
alone_next h h' alone r p q numbered = record {
  seats = alone.seats;
  number = alone.number;
  numbered = numbered;
  more = q.events;
  history_is = q.history_is;
  quiet = second_none (own caller_of 0 p.events) (own caller_of 0 q.events)
      (quiet_parts h h' alone r p q);
}

-- ---- all sections

-- what a section found, and then the events of a flush
after_tended : (c most : ℕ) (found r : Record) (h' : HandleState) → IsTended c most found r
    → Extends r (seen_by h') → Extends found (seen_by h')
after_tended c most found r h' tended later =
    extends_on found r (seen_by h') (tended_extends c most found r tended) later

-- one generation, in what was seen
alone_step : (h : HandleState) (upto g count : ℕ) (next h' : HandleState)
    (one : Refreshed h upto g count next) → IsAlone h h'
    → Extends (refreshed h.number upto one.found g) (seen_by h')
    → (one.found ≡ seen_by h) × IsAlone (having h (refreshed h.number upto one.found g)) h'
alone_step h upto g count next h' one alone later =
    let c = h.number in
    let r = refreshed c upto one.found g in
    let tended = tended_refreshed c upto one.found g in
    let found : one.found ≡ seen_by h =
    elim one.finds [
      | inl finds ↦
          found_is_seen h h' alone one.found finds one.legal
          (after_tended c 2 one.found r h' tended later)
      | inr same ↦ same.0
    ] in (
      found,
      alone_next h h' alone r
          (subst (λ (x : Record). Extends x r) found (tended_extends c 2 one.found r tended)) later
          (tended_numbered c 2 one.found r tended one.legal.numbered),
    )

alone_refreshes : (h : HandleState) (upto : ℕ) (gs : List ℕ) (count : ℕ) (h' : HandleState)
    → Refreshes h upto gs count h' → IsAlone h h'
    → (seen_by h' ≡ fold (refreshed h.number upto) (seen_by h) gs)
    × (count ≡ built_along h.number upto (seen_by h) gs)
alone_refreshes h upto [] count h' are alone = (ap seen_by are.1, are.0)
alone_refreshes h upto (g ∷ gs) count h' are alone =
    let c = h.number in
    let one = are.3 in
    let r = refreshed c upto one.found g in
    let sections : Refreshes (having h r) upto gs are.2 h' =
    subst (λ (x : HandleState). Refreshes x upto gs are.2 h') one.after are.5 in
    let step = alone_step h upto g are.1 are.0 h' one alone
    (refreshes_extends (having h r) upto gs are.2 h' sections) in
    let same : r ≡ refreshed c upto (seen_by h) g =
    ap (λ (x : Record). refreshed c upto x g) step.0 in
    let rest = alone_refreshes (having h r) upto gs are.2 h' sections step.1 in (
      rest.0 ∙ ap (λ (x : Record). fold (refreshed c upto) x gs) same,
      are.4
          ∙ ap (λ (n : ℕ). n + are.2) (one.counted ∙ ap (λ (x : Record). segments_due x g) step.0)
          ∙ ap (λ (n : ℕ). segments_due (seen_by h) g + n)
          (rest.1 ∙ ap (λ (x : Record). built_along c upto x gs) same),
    )

-- ---- the offer

is_alone : (h h' : HandleState) (more : List HistoryEvent) → h.seats ≡ 2 → h.number ≡ 1
    → IsLegal (seen_by h) → h'.history ≡ h.history ++ more → own caller_of 0 more ≡ []
    → IsAlone h h'
is_alone h h' more seats number legal history quiet = record {
  seats = seats;
  number = number;
  numbered = legal.numbered;
  more = more;
  history_is = history;
  quiet = quiet;
}

pub offered_alone : (h h' : HandleState) (count : ℕ) (more : List HistoryEvent) → h.seats ≡ 2
    → h.number ≡ 1 → IsLegal (seen_by h) → IsLegal (seen_by h')
    → h'.history ≡ h.history ++ more → own caller_of 0 more ≡ [] → Offered h count h'
    → (seen_by h' ≡ after_flush h.number (seen_by h))
    × (count ≡ built_by_flush h.number (seen_by h))
offered_alone h h' count more seats number legal legal' history quiet offered =
    let c = h.number in
    let r = after_freeze c offered.found in
    let alone = is_alone h h' more seats number legal history quiet in
    let later = refreshes_extends (having h r) (frozen r) (current r) count h'
    offered.sections in
    let tended = tended_freeze c offered.found in
    let found : offered.found ≡ seen_by h =
    found_is_seen h h' alone offered.found offered.finds offered.legal
    (after_tended c 1 offered.found r h' tended later) in
    let all = alone_refreshes (having h r) (frozen r) (current r) count h' offered.sections
    (alone_next h h' alone r
    (subst (λ (x : Record). Extends x r) found (tended_extends c 1 offered.found r tended))
    later (tended_numbered c 1 offered.found r tended offered.legal.numbered)) in
    let counted = built_along_is c (frozen r) 1 r (current r)
    (current_rise r (seen_by h') later.events legal' later.history_is)
    (all_members (current r) (current r) (λ g there. there)) in (
      all.0 ∙ ap (λ (x : Record). after_flush c x) found,
      all.1 ∙ counted ∙ ap (λ (x : Record). built_by_flush c x) found,
    )

-- ---- an offer that stops

kept_same : (r : Record) → AddsUpkeep r r
kept_same r = record {
  events = [];
  history_is = sym (append-nil r.history);
  journal_is = refl;
  upkeep = tt;
}

kept_tended : (c most : ℕ) (r s : Record) → IsTended c most r s → AddsUpkeep r s
kept_tended c most r s tended = record {
  events = tended.events;
  history_is = tended.history_is;
  journal_is = tended.journal_is;
  upkeep = tended.upkeep;
}

kept_both : (r s t : Record) → AddsUpkeep r s → AddsUpkeep s t → AddsUpkeep r t
kept_both r s t p q = record {
  events = p.events ++ q.events;
  history_is = q.history_is
      ∙ ap (λ (es : List HistoryEvent). es ++ q.events) p.history_is
      ∙ append_assoc r.history p.events q.events;
  journal_is = q.journal_is ∙ p.journal_is;
  upkeep = all_both IsUpkeep p.events q.events p.upkeep q.upkeep;
}

-- what a section found is what was seen, and then the handle saw this
kept_found : (h : HandleState) (found r : Record) (h' : HandleState) → found ≡ seen_by h
    → h' ≡ having h r → AddsUpkeep found r → AddsUpkeep (seen_by h) (seen_by h')
kept_found h found r h' seen is kept =
    subst (λ (x : HandleState). AddsUpkeep (seen_by h) (seen_by x)) (sym is)
    (subst (λ (x : Record). AddsUpkeep x r) seen kept)

-- a section that left what it found
kept_alone : (h : HandleState) (found : Record) (h' : HandleState) → IsAlone h h'
    → FindsRecord h found → IsLegal found → h' ≡ having h found
    → AddsUpkeep (seen_by h) (seen_by h')
kept_alone h found h' alone finds legal same =
    let later : Extends found (seen_by h') =
    subst (λ (x : HandleState). Extends found (seen_by x)) (sym same) (extends_same found) in
    kept_found h found found h' (found_is_seen h h' alone found finds legal later) same
    (kept_same found)

stopped_in : (h : HandleState) (g : ℕ) (h' : HandleState) → StoppedIn h g h' → IsAlone h h'
    → AddsUpkeep (seen_by h) (seen_by h')
stopped_in h g h' stopped alone =
    let c = h.number in
    let found = stopped.found in
    elim stopped.after [
      | inl same ↦ kept_alone h found h' alone stopped.finds stopped.legal same
      | inr given ↦
          let r = after_built c g found in
          let tended = tended_built c g found in
          let later : Extends found (seen_by h') =
          subst (λ (x : HandleState). Extends found (seen_by x)) (sym given)
          (tended_extends c 1 found r tended) in
          kept_found h found r h'
          (found_is_seen h h' alone found stopped.finds stopped.legal later) given
          (kept_tended c 1 found r tended)
    ]

stops_alone : (h : HandleState) (upto : ℕ) (gs : List ℕ) (h' : HandleState)
    → StopsAt h upto gs h' → IsAlone h h' → AddsUpkeep (seen_by h) (seen_by h')
stops_alone h upto [] h' stops alone =
    subst (λ (x : HandleState). AddsUpkeep (seen_by h) (seen_by x)) (sym stops)
    (kept_same (seen_by h))
stops_alone h upto (g ∷ gs) h' stops alone =
    elim stops [
      | inl same ↦
          subst (λ (x : HandleState). AddsUpkeep (seen_by h) (seen_by x)) (sym same)
          (kept_same (seen_by h))
      | inr later ↦
          elim later [
            | inl stopped ↦ stopped_in h g h' stopped alone
            | inr more ↦
                let one = more.2 in
                let r = refreshed h.number upto one.found g in
                let rest : StopsAt (having h r) upto gs h' =
                subst (λ (x : HandleState). StopsAt x upto gs h') one.after more.3 in
                let step = alone_step h upto g more.1 more.0 h' one alone
                (stops_extends (having h r) upto gs h' rest) in
                kept_both (seen_by h) r (seen_by h')
                (subst (λ (x : Record). AddsUpkeep x r) step.0
                (kept_tended h.number 2 one.found r (tended_refreshed h.number upto one.found g)))
                (stops_alone (having h r) upto gs h' rest step.1)
          ]
    ]

stopped_kept : (h h' : HandleState) → IsAlone h h' → OfferStopped h h'
    → AddsUpkeep (seen_by h) (seen_by h')
stopped_kept h h' alone stopped =
    let c = h.number in
    let found = stopped.found in
    let r = after_freeze c found in
    elim stopped.sections [
      | inl same ↦ kept_alone h found h' alone stopped.finds stopped.legal same
      | inr stops ↦
          let later = stops_extends (having h r) (frozen r) (current r) h' stops in
          let tended = tended_freeze c found in
          let seen = found_is_seen h h' alone found stopped.finds stopped.legal
          (after_tended c 1 found r h' tended later) in
          kept_both (seen_by h) r (seen_by h')
          (subst (λ (x : Record). AddsUpkeep x r) seen (kept_tended c 1 found r tended))
          (stops_alone (having h r) (frozen r) (current r) h' stops
          (alone_next h h' alone r
          (subst (λ (x : Record). Extends x r) seen (tended_extends c 1 found r tended)) later
          (tended_numbered c 1 found r tended stopped.legal.numbered)))
    ]

pub stopped_alone : (h h' : HandleState) (more : List HistoryEvent) → h.seats ≡ 2 → h.number ≡ 1
    → IsLegal (seen_by h) → h'.history ≡ h.history ++ more → own caller_of 0 more ≡ []
    → OfferStopped h h' → AddsUpkeep (seen_by h) (seen_by h')
stopped_alone h h' more seats number legal history quiet stopped =
    stopped_kept h h' (is_alone h h' more seats number legal history quiet) stopped
