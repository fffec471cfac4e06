-- What calls of the index leave: a legal record that continues the one before, with the same views
-- open.
use Rattle.std.proofs.Common.{◌≡◌, List, [], ◌∷◌, ◌++◌, None, refl, sym, ap, ◌∙◌, subst, append-nil}
use Rattle.std.specs.Prelude.{Result, Ok, Err, Option, OnOk, OnErr}
use Rattle.std.specs.List.{AllByRecursion, filter_map}
use Rattle.std.proofs.lemmas.List.Elements.{filter_map-append}
use Rattle.sg_paths.specs.Operations.{PlainOp}
use Rattle.index_core.specs.Histories.{HistoryEvent, accept, freeze, begin, built}
use Rattle.index_core.specs.Histories.{live_docs_updated, merge_begin, merge_end, merge_drop}
use Rattle.index_core.specs.Histories.{view_end, Record, begun_view, ended_view}
use Rattle.index_core.specs.LegalHistories.{IsLegal}
use Rattle.index_core.specs.Calls.{after_accept}
use Rattle.index_shared.specs.Offers.{IsUpkeep, AddsUpkeep, after_flush}
use Rattle.index_shared.specs.Sections.{Extends}
use Rattle.index_shared.proofs.ExtendsLemmas.{extends_on}
use Rattle.index_single.specs.declared.caller.TheConstants.{CALLER}
use Rattle.sg_shell.specs.Working.{Quiet, KeepsOpen, Passes}
use Rattle.sg_shell.proofs.GainLemmas.{Gains, gains-none, gains-accept, gains-flush}
use Rattle.sg_shell.proofs.OpenLemmas.{quiet_views}
use Rattle.sg_shell.proofs.QuietLemmas.{quiet_same, quiet_accept, quiet_flush}

pub quiet_open : (r s : Record) → Quiet r s → KeepsOpen r s
quiet_open r s quiet kept views = quiet_views r s kept quiet views

-- ---- chains

pub extends_gained : (now : List PlainOp) (r s t : Record) → s ≡ t → Gains now r t → Extends r s
extends_gained now r s t is gains = record {
  events = gains.events;
  operations = now;
  history_is = ap (λ (x : Record). x.history) is ∙ gains.history;
  journal_is = ap (λ (x : Record). x.journal) is ∙ gains.journal;
}

pub gained_passes : (now : List PlainOp) (r s t : Record) → IsLegal s → s ≡ t → Gains now r t
    → KeepsOpen r t → Passes r s
gained_passes now r s t legal is gains open_stay = record {
  legal = legal;
  later = extends_gained now r s t is gains;
  open_stay = subst (KeepsOpen r) (sym is) open_stay;
}

pub same_passes : (r s : Record) → IsLegal s → s ≡ r → Passes r s
same_passes r s legal is =
    gained_passes [] r s r legal is (gains-none r) (quiet_open r r (quiet_same r))

pub passes_both : (r s u : Record) → Passes r s → Passes s u → Passes r u
passes_both r s u p q = record {
  legal = q.legal;
  later = extends_on r s u p.later q.later;
  open_stay = λ kept views. q.open_stay kept (p.open_stay kept views);
}

-- ---- calls

pub accept_passes : (op : PlainOp) (r s : Record) → IsLegal s → s ≡ after_accept CALLER op r
    → Passes r s
accept_passes op r s legal is =
    let t = after_accept CALLER op r in
    gained_passes (op ∷ []) r s t legal is (gains-accept CALLER r op)
    (quiet_open r t (quiet_accept CALLER op r))

flush_passes : (r s : Record) → IsLegal s → s ≡ after_flush CALLER r → Passes r s
flush_passes r s legal is =
    let t = after_flush CALLER r in
    gained_passes [] r s t legal is (gains-flush CALLER r) (quiet_open r t (quiet_flush CALLER r))

-- what upkeep never is
none_of : {X : Type 0} (f : HistoryEvent → Option X)
    → ((e : HistoryEvent) → IsUpkeep e → f e ≡ None) → (es : List HistoryEvent)
    → AllByRecursion IsUpkeep es → filter_map f es ≡ []
none_of f none [] all = refl
none_of f none (e ∷ es) all = rw (none e all.0) (none_of f none es all.1)

never_begins : (e : HistoryEvent) → IsUpkeep e → begun_view e ≡ None
never_begins (begin c v u gs) is = absurd is
never_begins (accept c s) is = refl
never_begins (freeze c g f u) is = refl
never_begins (built c g) is = refl
never_begins (live_docs_updated c g a) is = refl
never_begins (merge_begin c m gs) is = refl
never_begins (merge_end c m i gone) is = refl
never_begins (merge_drop c m) is = refl
never_begins (view_end c v gone) is = refl

never_ends : (e : HistoryEvent) → IsUpkeep e → ended_view e ≡ None
never_ends (view_end c v gone) is = absurd is
never_ends (accept c s) is = refl
never_ends (freeze c g f u) is = refl
never_ends (begin c v u gs) is = refl
never_ends (built c g) is = refl
never_ends (live_docs_updated c g a) is = refl
never_ends (merge_begin c m gs) is = refl
never_ends (merge_end c m i gone) is = refl
never_ends (merge_drop c m) is = refl

unchanged_by : {X : Type 0} (f : HistoryEvent → Option X)
    → ((e : HistoryEvent) → IsUpkeep e → f e ≡ None) → (r s : Record) → (a : AddsUpkeep r s)
    → filter_map f s.history ≡ filter_map f r.history
unchanged_by {X} f none r s a =
    ap (filter_map f) a.history_is ∙ filter_map-append f r.history a.events
    ∙ ap (λ (xs : List X). filter_map f r.history ++ xs) (none_of f none a.events a.upkeep)
    ∙ append-nil (filter_map f r.history)

upkeep_passes : (r s : Record) → IsLegal s → AddsUpkeep r s → Passes r s
upkeep_passes r s legal a = record {
  legal = legal;
  later = record {
    events = a.events;
    operations = [];
    history_is = a.history_is;
    journal_is = a.journal_is ∙ sym (append-nil r.journal);
  };
  open_stay = quiet_open r s (record {
    begun = unchanged_by begun_view never_begins r s a;
    ended = unchanged_by ended_view never_ends r s a;
  });
}

-- brought up to date, or stopped between two steps
pub offer_passes : {A E : Type 0} (result : Result A E) (r s : Record) → IsLegal s
    → OnOk result (s ≡ after_flush CALLER r) → OnErr result (AddsUpkeep r s) → Passes r s
offer_passes (Ok a) r s legal ok stopped = flush_passes r s legal ok
offer_passes (Err e) r s legal ok stopped = upkeep_passes r s legal stopped
