-- From what the lock gives in a critical section to what a call of the index says, and back: what
-- is found, and what may be left.
use Rattle.std.proofs.Common.{◌≡◌, ◌+◌, ℕ, zero, suc, Bool, true, false, nat_eq, List, [], ◌++◌}
use Rattle.std.proofs.Common.{sym, ap, ◌∙◌, subst, append-nil}
use Rattle.std.specs.Prelude.{map}
use Rattle.std.specs.List.{AllByRecursion, range_with_len}
use Rattle.std.proofs.lemmas.List.Elements.{filter-append}
use Rattle.turn_lock.specs.Handles.{LockId, Finds, Leaves, own, new_handle}
use Rattle.index_core.specs.Histories.{HistoryEvent, Record}
use Rattle.index_core.specs.LegalHistories.{IsLegal}
use Rattle.index_shared.specs.Sections.{caller_of, HandleState, seen_by, having, FindsRecord}
use Rattle.index_shared.specs.OwnViews.{OwnEventsStay}
use Rattle.index_shared.proofs.AppendedLemmas.{OwnMore}

-- ---- a section, as the proof of a call sees it

-- the handle before it and inside, the value that the lock gave and the one that is lent, and the
-- number that the handle tells
pub record Enters (h inside : HandleState) (value found : Record) (number : ℕ) : Type 0 where
  pub finds : Finds caller_of h value.history value.journal
  pub handle : inside
      ≡ record h { inside = true; history = value.history; journal = value.journal }
  pub lent : found ≡ value
  pub told : number ≡ inside.number

pub entering : {h inside : HandleState} {value found : Record} {number : ℕ}
    → Finds caller_of h value.history value.journal
    → inside ≡ record h { inside = true; history = value.history; journal = value.journal }
    → found ≡ value → number ≡ inside.number → Enters h inside value found number
entering finds handle lent told = record {
  finds = finds;
  handle = handle;
  lent = lent;
  told = told;
}

module _ {h inside : HandleState} {value found : Record} {number : ℕ}
    (enters : Enters h inside value found number) where
  pub finds_it : FindsRecord h found
  finds_it = subst (λ (r : Record). FindsRecord h r) (sym enters.lent) enters.finds

  pub number_is : number ≡ h.number
  number_is = enters.told ∙ ap (λ (x : HandleState). x.number) enters.handle

  -- what may be left
  pub leaves : (later : Record) → OwnMore number 3 found later
      → Leaves caller_of inside later.history later.journal
  leaves later more = record {
    later = record {
      events = more.later.events;
      operations = more.later.operations;
      history_is = more.later.history_is
          ∙ ap (λ (r : Record). r.history ++ more.later.events) enters.lent
          ∙ sym (ap (λ (x : HandleState). x.history ++ more.later.events) enters.handle);
      journal_is = more.later.journal_is
          ∙ ap (λ (r : Record). r.journal ++ more.later.operations) enters.lent
          ∙ sym (ap (λ (x : HandleState). x.journal ++ more.later.operations) enters.handle);
    };
    few = more.few;
    own_alone = subst (λ (n : ℕ). AllByRecursion (λ e. caller_of e ≡ n) more.later.events)
        enters.told more.own_alone;
  }

  -- the handle afterwards is the one before, which has seen what was left
  pub after : (new : HandleState) (later : Record) → h.inside ≡ false
      → new ≡ record inside { inside = false; history = later.history; journal = later.journal }
      → new ≡ having h later
  after new later outside is =
      is
      ∙ ap (λ (x : HandleState).
      record x { inside = false; history = later.history; journal = later.journal }) enters.handle
      ∙ ap (λ (b : Bool).
      record h { inside = b; history = later.history; journal = later.journal }) (sym outside)

-- a section that has ended: what it found was legal, and its handle has seen what was left
pub record Visited (h : HandleState) (found later : Record) (new : HandleState) : Type 0 where
  pub finds : FindsRecord h found
  pub legal : IsLegal found
  pub now_is : new ≡ having h later

pub visited : {h inside new : HandleState} {value found later : Record} {number : ℕ}
    → Enters h inside value found number → h.inside ≡ false
    → new ≡ record inside { inside = false; history = later.history; journal = later.journal }
    → IsLegal found → Visited h found later new
visited {new = new} {later = later} enters outside gave legal = record {
  finds = finds_it enters;
  legal = legal;
  now_is = after enters new later outside gave;
}

pub seen_is : {h new : HandleState} {found later : Record} → Visited h found later new
    → seen_by new ≡ later
seen_is visit = ap (λ (x : HandleState). seen_by x) visit.now_is

-- the handles of a new lock have seen the empty record
pub new_legal : (lock : LockId) (seats first n : ℕ)
    → IsLegal (record { history = []; journal = [] })
    → AllByRecursion (λ (h : HandleState). IsLegal (seen_by h))
    (map (new_handle lock seats) (range_with_len first n))
new_legal lock seats first zero legal = tt
new_legal lock seats first (suc n) legal = (legal, new_legal lock seats (first + 1) n legal)

-- the handle's own events in what is found are those that it had seen
pub own_events_stay : OwnEventsStay
own_events_stay h found finds =
    ap (own caller_of h.number) finds.later.history_is
    ∙ filter-append (λ e. nat_eq (caller_of e) h.number) h.history finds.later.events
    ∙ ap (λ (es : List HistoryEvent). own caller_of h.number h.history ++ es) finds.others
    ∙ append-nil (own caller_of h.number h.history)
