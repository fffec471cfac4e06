-- An offer that stops: what it leaves, wherever it stops.
use Rattle.std.proofs.Common.{inl, inr, ℕ, List, [], ◌∷◌, refl, sym, subst}
use Rattle.std.proofs.Common.{Result, Ok, Err}
use Rattle.std.specs.Prelude.{OnErr}
use Rattle.index_core.specs.Records.{frozen, current}
use Rattle.index_core.specs.Calls.{after_freeze}
use Rattle.index_core.specs.CurrentPieces.{after_built}
use Rattle.index_shared.specs.Sections.{HandleState, seen_by, having, Extends}
use Rattle.index_shared.specs.Offers.{StoppedIn, StopsAt, OfferStopped}
use Rattle.index_shared.specs.Offering.{FreezeStopped}
use Rattle.index_shared.proofs.ExtendsLemmas.{extends_same, extends_on}
use Rattle.index_shared.proofs.OfferEventLemmas.{tended_extends, tended_built}
use Rattle.index_shared.proofs.OfferHandleLemmas.{refreshed_extends}

-- before any section
pub stops_here : (h : HandleState) (upto : ℕ) (gs : List ℕ) → StopsAt h upto gs h
stops_here h upto [] = refl
stops_here h upto (g ∷ gs) = inl refl

pub stopped_first : {T E : Type 0} (result : Result T E) (h h' : HandleState)
    → FreezeStopped h h' → OnErr result (OfferStopped h h')
stopped_first (Ok parts) h h' stopped = tt
stopped_first (Err e) h h' stopped =
    let first = after_freeze h.number stopped.found in
    record {
      found = stopped.found;
      finds = stopped.finds;
      legal = stopped.legal;
      sections = elim stopped.after [
        | inl same ↦ inl same
        | inr froze ↦
            inr (subst (λ (x : HandleState).
            StopsAt (having h first) (frozen first) (current first) x) (sym froze)
            (stops_here (having h first) (frozen first) (current first)))
      ];
    }

-- ---- what was seen is extended

pub stopped_extends : (h : HandleState) (g : ℕ) (h' : HandleState) → StoppedIn h g h'
    → Extends (seen_by h) (seen_by h')
stopped_extends h g h' stopped =
    let found = stopped.found in
    elim stopped.after [
      | inl same ↦
          subst (λ (x : HandleState). Extends (seen_by h) (seen_by x)) (sym same)
          stopped.finds.later
      | inr built ↦
          let later = after_built h.number g found in
          subst (λ (x : HandleState). Extends (seen_by h) (seen_by x)) (sym built)
          (extends_on (seen_by h) found later stopped.finds.later
          (tended_extends h.number 1 found later (tended_built h.number g found)))
    ]

pub stops_extends : (h : HandleState) (upto : ℕ) (gs : List ℕ) (h' : HandleState)
    → StopsAt h upto gs h' → Extends (seen_by h) (seen_by h')
stops_extends h upto [] h' stops =
    subst (λ (x : HandleState). Extends (seen_by h) (seen_by x)) (sym stops)
    (extends_same (seen_by h))
stops_extends h upto (g ∷ gs) h' stops =
    elim stops [
      | inl same ↦
          subst (λ (x : HandleState). Extends (seen_by h) (seen_by x)) (sym same)
          (extends_same (seen_by h))
      | inr later ↦
          elim later [
            | inl stopped ↦ stopped_extends h g h' stopped
            | inr more ↦
                extends_on (seen_by h) (seen_by more.0) (seen_by h')
                (refreshed_extends h upto g more.1 more.0 more.2)
                (stops_extends more.0 upto gs h' more.3)
          ]
    ]
