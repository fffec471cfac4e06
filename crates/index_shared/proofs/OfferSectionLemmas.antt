-- What a critical section of an offer makes of its handle, and what one after another does.
use Rattle.std.proofs.Common.{◌≡◌, ◌⊎◌, ℕ, Bool, nat_eq, List}
use Rattle.std.proofs.Common.{◌++◌, Result, Ok, Err, inl, inr, refl, sym, ap, ◌∙◌, subst, arith}
use Rattle.std.specs.Prelude.{IfOk, OnOk, OnErr, if◌then◌else◌, filter}
use Rattle.std.specs.List.{AllByRecursion}
use Rattle.std.proofs.lemmas.List.Elements.{filter-append}
use Rattle.turn_lock.specs.Handles.{own, LockId, Leaves}
use Rattle.index_core.specs.Histories.{HistoryEvent, Record, View, Merge}
use Rattle.index_core.specs.LegalHistories.{IsLegal}
use Rattle.index_core.specs.Calls.{after_freeze}
use Rattle.index_core.specs.CurrentPieces.{is_unbuilt, after_built}
use Rattle.index_core.proofs.ListLemmas.{all_both, all_filter}
use Rattle.index_shared.specs.Sections.{caller_of, HandleState, seen_by, having, FindsRecord}
use Rattle.index_shared.specs.Sections.{IsAt}
use Rattle.index_shared.specs.OwnViews.{open_by, merges_by}
use Rattle.index_shared.specs.Offers.{refreshed, Refreshed, IsUpkeep, UpkeepAlone, StoppedIn}
use Rattle.index_shared.specs.Offers.{IsUpToDate}
use Rattle.index_shared.specs.Offering.{IsTended, Tends, FreezeStopped}
use Rattle.index_shared.proofs.AppendedLemmas.{OwnMore}
use Rattle.index_shared.proofs.ExtendsLemmas.{extends_same, extends_on}
use Rattle.index_shared.proofs.HasMergeLemmas.{has_same}
use Rattle.index_shared.proofs.OfferEventLemmas.{tended_extends}
use Rattle.index_shared.proofs.OwnMergeLemmas.{own_merges_stay}
use Rattle.index_shared.proofs.OwnViewLemmas.{own_views_stay}
use Rattle.index_shared.proofs.SectionLemmas.{Enters, leaves, Visited}
use Rattle.index_shared.proofs.OfferUpToDateLemmas.{not_unbuilt, same_refreshed}

-- ---- one section

-- it leaves no more than it may
pub tended_more : (c : ℕ) (found later : Record) → IsTended c 2 found later
    → OwnMore c 3 found later
tended_more c found later tended = record {
  later = tended_extends c 2 found later tended;
  few = let few = tended.few in omega (arith, few);
  own_alone = tended.by;
}

module _ (h : HandleState) (found later : Record) (finds : FindsRecord h found)
    (legal : IsLegal found) (tended : IsTended h.number 2 found later) (legal' : IsLegal later)
  where
    upkeep_alone : AllByRecursion IsUpkeep
        (own caller_of h.number (finds.later.events ++ tended.events))
    upkeep_alone =
        let test : HistoryEvent → Bool = λ e. nat_eq (caller_of e) h.number in
        subst (AllByRecursion IsUpkeep)
        (sym (filter-append test finds.later.events tended.events
        ∙ ap (λ (es : List HistoryEvent). es ++ filter test tended.events) finds.others))
        (all_filter IsUpkeep test tended.events tended.upkeep)

    pub section_tends : Tends h (having h later)
    section_tends =
        let seen = extends_on (seen_by h) found later finds.later
        (tended_extends h.number 2 found later tended) in
        let views : open_by h.number later ≡ open_by h.number (seen_by h) =
        ap (λ (vs : List View). filter (λ v. nat_eq v.caller h.number) vs) tended.views
        ∙ own_views_stay h found finds legal in
        let merges : merges_by h.number later ≡ merges_by h.number (seen_by h) =
        ap (λ (ms : List Merge). filter (λ m. nat_eq m.caller h.number) ms) tended.merges
        ∙ own_merges_stay h found finds legal in
        record {
          same = refl;
          upkeep = record {
            later = seen;
            upkeep = upkeep_alone;
          };
          views = views;
          merges = merges;
          keeps = has_same h later seen legal' merges;
          legal = legal';
        }

-- as the proof of a call sees it
pub section_leaves : {h inside : HandleState} {value found : Record} {number : ℕ}
    (enters : Enters h inside value found number) (later : Record)
    → IsTended number 2 found later → Leaves caller_of inside later.history later.journal
section_leaves {found = found} {number = number} enters later tended =
    leaves enters later (tended_more number found later tended)

pub section_after : {h new : HandleState} {found later : Record} {number : ℕ}
    → Visited h found later new → number ≡ h.number → IsTended number 2 found later
    → IsLegal later → Tends h new
section_after {h = h} {found = found} {later = later} visit mine tended legal =
    subst (Tends h) (sym visit.now_is)
    (section_tends h found later visit.finds visit.legal
    (subst (λ (n : ℕ). IsTended n 2 found later) mine tended) legal)

-- ---- one after another

pub tends_same : (h : HandleState) → IsLegal (seen_by h) → Tends h h
tends_same h legal = record {
  same = refl;
  upkeep = record { later = extends_same (seen_by h); upkeep = tt };
  views = refl;
  merges = refl;
  keeps = λ parts has. has;
  legal = legal;
}

pub tends_both : (h next last : HandleState) → Tends h next → Tends next last → Tends h last
tends_both h next last p q =
    let number : next.number ≡ h.number = ap (λ (x : HandleState). x.number) p.same in
    let first = p.upkeep.later in
    let second = q.upkeep.later in
    let test : HistoryEvent → Bool = λ e. nat_eq (caller_of e) h.number in
    let upkeep : AllByRecursion IsUpkeep (own caller_of h.number second.events) =
    subst (λ (n : ℕ). AllByRecursion IsUpkeep (own caller_of n second.events)) number
    q.upkeep.upkeep in
    record {
      same = q.same ∙ ap (λ (x : HandleState). having x (seen_by last)) p.same;
      upkeep = record {
        later = extends_on (seen_by h) (seen_by next) (seen_by last) first second;
        upkeep = subst (AllByRecursion IsUpkeep)
            (sym (filter-append test first.events second.events))
            (all_both IsUpkeep (own caller_of h.number first.events)
            (own caller_of h.number second.events) p.upkeep.upkeep upkeep);
      };
      views = subst (λ (n : ℕ). open_by n (seen_by last) ≡ open_by n (seen_by next)) number q.views
          ∙ p.views;
      merges = subst (λ (n : ℕ). merges_by n (seen_by last) ≡ merges_by n (seen_by next)) number
          q.merges ∙ p.merges;
      keeps = λ parts has. q.keeps parts (p.keeps parts has);
      legal = q.legal;
    }

-- it is still at its index
pub still_at : (index : LockId) (h next : HandleState) → Tends h next → IsAt index h
    → IsAt index next
still_at index h next p at = (
  ap (λ (x : HandleState). x.lock) p.same ∙ at.0,
  ap (λ (x : HandleState). x.inside) p.same ∙ at.1,
)

-- ---- one generation

-- in a section
pub gives : {E : Type 0} {h new : HandleState} {found later : Record} {number : ℕ}
    (visit : Visited h found later new) (upto g : ℕ) (result : Result Bool E) → number ≡ h.number
    → IfOk result (λ done. done ≡ is_unbuilt found g)
    → OnOk result (later ≡ refreshed number upto found g)
    → IfOk result (λ done. Refreshed h upto g (if done then 1 else 0) new)
gives {h = h} {found = found} visit upto g (Ok done) mine answer ok = record {
  found = found;
  finds = inl visit.finds;
  legal = visit.legal;
  counted = ap (λ (b : Bool). if b then 1 else 0) answer;
  after = visit.now_is
      ∙ ap (having h) (ok ∙ ap (λ (n : ℕ). refreshed n upto found g) mine);
}
gives visit upto g (Err e) mine answer ok = tt

-- what was left is what it found, or what it made of that
left_as : {h new : HandleState} {found later : Record} {number : ℕ} → Visited h found later new
    → number ≡ h.number → (f : ℕ → Record) → (later ≡ found) ⊎ (later ≡ f number)
    → (new ≡ having h found) ⊎ (new ≡ having h (f h.number))
left_as {h = h} visit mine f left =
    elim left [
      | inl same ↦ inl (visit.now_is ∙ ap (having h) same)
      | inr made ↦ inr (visit.now_is ∙ ap (having h) (made ∙ ap f mine))
    ]

-- it stops in the section
pub stops_in : {E : Type 0} {h new : HandleState} {found later : Record} {number : ℕ}
    (visit : Visited h found later new) (g : ℕ) (result : Result Bool E) → number ≡ h.number
    → OnErr result ((later ≡ found) ⊎ (later ≡ after_built number g found))
    → OnErr result (StoppedIn h g new)
stops_in visit g (Ok done) mine err = tt
stops_in {found = found} visit g (Err e) mine err = record {
  found = found;
  finds = visit.finds;
  legal = visit.legal;
  after = left_as visit mine (λ n. after_built n g found) err;
}

-- the same of the first section
pub freeze_stops : {T E : Type 0} {h new : HandleState} {found later : Record} {number : ℕ}
    (visit : Visited h found later new) (result : Result T E) → number ≡ h.number
    → OnErr result ((later ≡ found) ⊎ (later ≡ after_freeze number found))
    → OnErr result (FreezeStopped h new)
freeze_stops visit (Ok parts) mine err = tt
freeze_stops {found = found} visit (Err e) mine err = record {
  found = found;
  finds = visit.finds;
  legal = visit.legal;
  after = left_as visit mine (λ n. after_freeze n found) err;
}

-- without one
pub nothing_left : (h : HandleState) (upto g : ℕ) → IsLegal (seen_by h)
    → IsUpToDate (seen_by h) upto g → Refreshed h upto g 0 h
nothing_left h upto g legal up =
    let same = same_refreshed h.number upto (seen_by h) g up in
    record {
      found = seen_by h;
      finds = inr (refl, same);
      legal = legal;
      counted = sym (ap (λ (b : Bool). if b then 1 else 0) (not_unbuilt (seen_by h) upto g up));
      after = sym (ap (having h) same);
    }

-- ---- all sections

pub both_upkeep : (h next last : HandleState) → Tends h next → Tends next last
    → UpkeepAlone h (seen_by last)
both_upkeep h next last p q = (tends_both h next last p q).upkeep
