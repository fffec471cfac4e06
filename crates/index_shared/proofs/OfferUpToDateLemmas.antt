-- A generation that is refreshed is up to date, and what is up to date stays so.
use Rattle.std.proofs.Common.{◌≡◌, ◌≤◌, ◌⊎◌, inl, inr, ℕ, Bool, true, false, cond, not, nat_eq}
use Rattle.std.proofs.Common.{◌&&◌, List, [], ◌∷◌, ◌++◌, refl, sym, ap, ◌∙◌, arith}
use Rattle.std.specs.Prelude.{nat_lt}
use Rattle.std.specs.List.{filter_map}
use Rattle.std.proofs.lemmas.Bool.Decides.{nat_tests}
use Rattle.std.proofs.lemmas.List.Elements.{filter_map-append}
use Rattle.std.proofs.lemmas.List.Sums.{fold-append}
use Rattle.index_core.specs.Histories.{HistoryEvent, built, live_docs_updated, Record, is_among}
use Rattle.index_core.specs.Histories.{last_of}
use Rattle.index_core.specs.Records.{with_event, drawn, current}
use Rattle.index_core.specs.Generations.{applied_by, applied, is_built}
use Rattle.index_core.specs.LegalHistories.{IsLegal}
use Rattle.index_core.specs.CurrentPieces.{is_unbuilt, after_built, is_behind, after_lived}
use Rattle.index_core.proofs.GenerationLemmas.{built_stays, built_now}
use Rattle.index_shared.specs.Offers.{refreshed, IsUpToDate}
use Rattle.index_shared.proofs.OfferGrowthLemmas.{built_grows, never_current, applied_grows}

-- ---- a later record

pub up_to_date_stays : (r s : Record) (more : List HistoryEvent) (upto g : ℕ) → IsLegal s
    → s.history ≡ r.history ++ more → is_among g (drawn r) ≡ true → IsUpToDate r upto g
    → IsUpToDate s upto g
up_to_date_stays r s more upto g legal is there up =
    elim up [
      | inl out ↦ inl (never_current r s more g is there out)
      | inr both ↦
          let knows = applied_grows r s more legal is g there in
          let least = both.1 in
          inr (built_grows r s more g is both.0, omega (arith, knows, least))
    ]

-- ---- one that is refreshed

-- the last event applies so much
applied_now : (r : Record) (c g n : ℕ)
    → applied (with_event r (live_docs_updated c g n)) g ≡ n
applied_now r c g n =
    let e = live_docs_updated c g n in
    let f = applied_by (with_event r e) g in
    let itself : nat_eq g g ≡ true = grind (arith, nat_tests) in
    let one : filter_map (applied_by (with_event r e) g) (e ∷ []) ≡ n ∷ [] = rw itself refl in
    ap last_of (filter_map-append f r.history (e ∷ [])
    ∙ ap (λ (ns : List ℕ). filter_map f r.history ++ ns) one)
    ∙ fold-append (λ _ m. m) 0 (filter_map f r.history) (n ∷ [])

-- whether a generation has its segment, where it is current
abbrev HasSegment : Record → ℕ → Type 0
HasSegment r g = (is_among g (current r) ≡ false) ⊎ (is_built r g ≡ true)

built_or_gone : (c g : ℕ) (r : Record) → HasSegment (after_built c g r) g
built_or_gone c g r = by_tests (is_among g (current r)) (is_built r g) refl refl
  where
    by_tests : (a b : Bool) → is_among g (current r) ≡ a → is_built r g ≡ b
        → HasSegment (cond (a && not b) (with_event r (built c g)) r) g
    by_tests false b out is = inl out
    by_tests true true there is = inr is
    by_tests true false there is = inr (built_now r c g)

lived_up : (c g upto : ℕ) (r : Record) → HasSegment r g
    → IsUpToDate (after_lived c g upto r) upto g
lived_up c g upto r has =
    by_tests (is_among g (current r)) (is_built r g) (nat_lt (applied r g) upto) refl refl refl has
  where
    least : nat_lt (applied r g) upto ≡ false → upto ≤ applied r g
    least is = grind (arith, nat_tests, is)

    by_tests : (a b l : Bool) → is_among g (current r) ≡ a → is_built r g ≡ b
        → nat_lt (applied r g) upto ≡ l → HasSegment r g
        → IsUpToDate (cond (a && (b && l)) (with_event r (live_docs_updated c g upto)) r) upto g
    by_tests false b l out is less has' = inl out
    by_tests true true false there is less has' = inr (is, least less)
    by_tests true true true there is less has' =
        let last = applied_now r c g upto in
        inr (built_stays r (live_docs_updated c g upto) g refl ∙ is, omega (arith, last))
    by_tests true false l there is less has' =
        elim has' [
          | inl out ↦ absurd (let no : true ≡ false = sym there ∙ out in cc)
          | inr built-is ↦ absurd (let no : true ≡ false = sym built-is ∙ is in cc)
        ]

pub refreshed_up : (c upto : ℕ) (r : Record) (g : ℕ) → IsUpToDate (refreshed c upto r g) upto g
refreshed_up c upto r g = lived_up c g upto (after_built c g r) (built_or_gone c g r)

-- ---- one that is up to date

none : (b : Bool) → (b && false) ≡ false
none true = refl
none false = refl

pub not_unbuilt : (r : Record) (upto g : ℕ) → IsUpToDate r upto g → is_unbuilt r g ≡ false
not_unbuilt r upto g up =
    elim up [
      | inl out ↦ ap (λ (b : Bool). b && not (is_built r g)) out
      | inr both ↦
          ap (λ (b : Bool). is_among g (current r) && not b) both.0
          ∙ none (is_among g (current r))
    ]

not_behind : (r : Record) (upto g : ℕ) → IsUpToDate r upto g → is_behind r g upto ≡ false
not_behind r upto g up =
    elim up [
      | inl out ↦ ap (λ (b : Bool). b && (is_built r g && nat_lt (applied r g) upto)) out
      | inr both ↦
          let least = both.1 in
          let known : nat_lt (applied r g) upto ≡ false = grind (arith, nat_tests, least) in
          ap (λ (b : Bool). is_among g (current r) && (is_built r g && b)) known
          ∙ ap (λ (b : Bool). is_among g (current r) && b) (none (is_built r g))
          ∙ none (is_among g (current r))
    ]

-- nothing is left to do
pub same_refreshed : (c upto : ℕ) (r : Record) (g : ℕ) → IsUpToDate r upto g
    → refreshed c upto r g ≡ r
same_refreshed c upto r g up =
    let first : after_built c g r ≡ r =
    ap (λ (b : Bool). cond b (with_event r (built c g)) r) (not_unbuilt r upto g up) in
    ap (after_lived c g upto) first
    ∙ ap (λ (b : Bool). cond b (with_event r (live_docs_updated c g upto)) r)
    (not_behind r upto g up)
