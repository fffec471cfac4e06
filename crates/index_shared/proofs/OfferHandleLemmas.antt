-- What a handle has seen while generations are refreshed, and that each of these is up to date.
use Rattle.std.proofs.Common.{◌≡◌, inl, inr, ℕ, true, List, [], ◌∷◌, sym, subst}
use Rattle.std.specs.List.{AllByRecursion}
use Rattle.index_core.specs.Histories.{is_among}
use Rattle.index_core.specs.Records.{frozen, drawn, current}
use Rattle.index_core.specs.LegalHistories.{IsLegal}
use Rattle.index_core.specs.Calls.{after_freeze}
use Rattle.index_core.proofs.ListLemmas.{all_weaker}
use Rattle.index_core.proofs.SoundLemmas.{current_were}
use Rattle.index_shared.specs.Sections.{HandleState, seen_by, having, Extends}
use Rattle.index_shared.specs.Offers.{refreshed, Refreshed, Refreshes, IsUpToDate}
use Rattle.index_shared.specs.Offers.{OffersBringUpToDate}
use Rattle.index_shared.proofs.ExtendsLemmas.{extends_same, extends_on}
use Rattle.index_shared.proofs.OfferEventLemmas.{tended_extends, tended_refreshed}
use Rattle.index_shared.proofs.OfferGrowthLemmas.{drawn_grows}
use Rattle.index_shared.proofs.OfferUpToDateLemmas.{up_to_date_stays, refreshed_up}

-- ---- what was seen is extended

found_extends : (h : HandleState) (upto g n : ℕ) (next : HandleState)
    (one : Refreshed h upto g n next) → Extends (seen_by h) one.found
found_extends h upto g n next one =
    elim one.finds [
      | inl finds ↦ finds.later
      | inr same ↦ subst (Extends (seen_by h)) (sym same.0) (extends_same (seen_by h))
    ]

pub refreshed_extends : (h : HandleState) (upto g n : ℕ) (next : HandleState)
    → Refreshed h upto g n next → Extends (seen_by h) (seen_by next)
refreshed_extends h upto g n next one =
    let later = refreshed h.number upto one.found g in
    subst (λ (x : HandleState). Extends (seen_by h) (seen_by x)) (sym one.after)
    (extends_on (seen_by h) one.found later (found_extends h upto g n next one)
    (tended_extends h.number 2 one.found later (tended_refreshed h.number upto one.found g)))

pub refreshes_extends : (h : HandleState) (upto : ℕ) (gs : List ℕ) (count : ℕ)
    (h' : HandleState) → Refreshes h upto gs count h' → Extends (seen_by h) (seen_by h')
refreshes_extends h upto [] count h' are =
    subst (λ (x : HandleState). Extends (seen_by h) (seen_by x)) (sym are.1)
    (extends_same (seen_by h))
refreshes_extends h upto (g ∷ gs) count h' are =
    extends_on (seen_by h) (seen_by are.0) (seen_by h')
    (refreshed_extends h upto g are.1 are.0 are.3)
    (refreshes_extends are.0 upto gs are.2 h' are.5)

-- ---- all are up to date

refreshes_up : (h : HandleState) (upto : ℕ) (gs : List ℕ) (count : ℕ) (h' : HandleState)
    → Refreshes h upto gs count h' → IsLegal (seen_by h')
    → AllByRecursion (λ g. is_among g (drawn (seen_by h)) ≡ true) gs
    → AllByRecursion (IsUpToDate (seen_by h') upto) gs
refreshes_up h upto [] count h' are legal were = tt
refreshes_up h upto (g ∷ gs) count h' are legal were =
    let next = are.0 in
    let one = are.3 in
    let first = refreshed_extends h upto g are.1 next one in
    let later = refreshes_extends next upto gs are.2 h' are.5 in
    let still : (x : ℕ) → is_among x (drawn (seen_by h)) ≡ true
    → is_among x (drawn (seen_by next)) ≡ true = λ x there.
    drawn_grows (seen_by h) (seen_by next) first.events x first.history_is there in
    let up : IsUpToDate (seen_by next) upto g =
    subst (λ (x : HandleState). IsUpToDate (seen_by x) upto g) (sym one.after)
    (refreshed_up h.number upto one.found g) in (
      up_to_date_stays (seen_by next) (seen_by h') later.events upto g legal later.history_is
          (still g were.0) up,
      refreshes_up next upto gs are.2 h' are.5 legal
          (all_weaker (λ x. is_among x (drawn (seen_by h)) ≡ true)
          (λ x. is_among x (drawn (seen_by next)) ≡ true) still gs were.1),
    )

pub brings_up_to_date : OffersBringUpToDate
brings_up_to_date h h' count offered legal =
    let first = after_freeze h.number offered.found in
    refreshes_up (having h first) (frozen first) (current first) count h' offered.sections legal
    (current_were first)
