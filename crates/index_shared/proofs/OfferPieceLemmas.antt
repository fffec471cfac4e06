-- A loop over pieces: the generations that are refreshed, continued by those to come, are all.
use Rattle.std.proofs.Common.{◌≡◌, ◌<◌, ◌≤◌, ◌+◌, ℕ, Bool, List, [], ◌∷◌, length, map, refl, sym}
use Rattle.std.proofs.Common.{ap, ◌∙◌, subst, arith, get_or, drop, drop_of_length-le, true, false}
use Rattle.std.proofs.Common.{◌⊎◌, inl, inr, Result, Ok, Err}
use Rattle.std.specs.Prelude.{if◌then◌else◌, IfOk, OnErr}
use Rattle.std.specs.List.{AllByRecursion}
use Rattle.std.proofs.lemmas.List.{drop_more}
use Rattle.sg_paths.specs.Operations.{PlainBatch}
use Rattle.segment.specs.Pieces.{PlainPiece}
use Rattle.segment.specs.Views.{PlainParts}
use Rattle.index_core.specs.Records.{frozen, current}
use Rattle.index_core.specs.LegalHistories.{IsLegal}
use Rattle.index_core.specs.Calls.{after_freeze}
use Rattle.index_core.specs.CurrentPieces.{AreOf}
use Rattle.index_shared.specs.Sections.{HandleState, seen_by, having}
use Rattle.index_shared.specs.Offers.{Refreshed, Refreshes, Offered, StoppedIn, StopsAt}
use Rattle.index_shared.specs.Offers.{OfferStopped}
use Rattle.index_shared.specs.Offering.{Tends, Froze, IsReady}
use Rattle.index_shared.proofs.OfferSectionLemmas.{tends_same, tends_both}
use Rattle.index_shared.proofs.OfferReadyLemmas.{all_ready_later}

-- what is left to be refreshed, from a handle that has come so far, completes what was begun
abbrev pub Completes : HandleState → HandleState → ℕ → ℕ → List PlainPiece → List PlainPiece
    → Type 0
Completes h now upto count all left =
    (rest : ℕ) (h' : HandleState) → Refreshes now upto (map (λ p. p.generation) left) rest h'
    → Refreshes h upto (map (λ p. p.generation) all) (count + rest) h'

pub completes_none : (h : HandleState) (upto : ℕ) (all : List PlainPiece)
    → Completes h h upto 0 all all
completes_none h upto all rest h' are =
    let same : rest ≡ 0 + rest = omega arith in
    subst (λ (n : ℕ). Refreshes h upto (map (λ p. p.generation) all) n h') same are

-- one generation more
completes_more : (h now next : HandleState) (upto count built i : ℕ) (p : PlainPiece)
    (ps : List PlainPiece) → i < length ps → p ≡ get_or ps i p
    → Completes h now upto count ps (drop i ps) → Refreshed now upto p.generation built next
    → Completes h next upto (count + built) ps (drop (i + 1) ps)
completes_more h now next upto count built i p ps less is so_far one rest h' are =
    let split : drop i ps ≡ p ∷ drop (i + 1) ps =
    drop_more ps i p less ∙ ap (λ (q : PlainPiece). q ∷ drop (i + 1) ps) (sym is) in
    let more : Refreshes now upto (map (λ p. p.generation) (drop i ps)) (built + rest) h' =
    subst (λ (qs : List PlainPiece).
    Refreshes now upto (map (λ p. p.generation) qs) (built + rest) h') (sym split)
    (next, built, rest, one, refl, are) in
    let sum : count + (built + rest) ≡ count + built + rest = omega arith in
    subst (λ (n : ℕ). Refreshes h upto (map (λ p. p.generation) ps) n h') sum
    (so_far (built + rest) h' more)

-- all of them
pub completes_all : (h now : HandleState) (upto count i : ℕ) (ps : List PlainPiece)
    → length ps ≤ i → Completes h now upto count ps (drop i ps)
    → Refreshes h upto (map (λ p. p.generation) ps) count now
completes_all h now upto count i ps whole so_far =
    let none : drop i ps ≡ [] = drop_of_length-le ps whole in
    let last : Refreshes now upto (map (λ p. p.generation) (drop i ps)) 0 now =
    subst (λ (qs : List PlainPiece). Refreshes now upto (map (λ p. p.generation) qs) 0 now)
    (sym none) (refl, refl) in
    let same : count + 0 ≡ count = omega arith in
    subst (λ (n : ℕ). Refreshes h upto (map (λ p. p.generation) ps) n now) same
    (so_far 0 now last)

-- ---- where it stops

-- where what is left stops, all stops
abbrev pub Stops : HandleState → HandleState → ℕ → List PlainPiece → List PlainPiece → Type 0
Stops h now upto all left =
    (h' : HandleState) → StopsAt now upto (map (λ p. p.generation) left) h'
    → StopsAt h upto (map (λ p. p.generation) all) h'

stops_more : (h now next : HandleState) (upto built i : ℕ) (p : PlainPiece)
    (ps : List PlainPiece) → i < length ps → p ≡ get_or ps i p → Stops h now upto ps (drop i ps)
    → Refreshed now upto p.generation built next → Stops h next upto ps (drop (i + 1) ps)
stops_more h now next upto built i p ps less is so_far one h' stops =
    let split : drop i ps ≡ p ∷ drop (i + 1) ps =
    drop_more ps i p less ∙ ap (λ (q : PlainPiece). q ∷ drop (i + 1) ps) (sym is) in
    so_far h'
    (subst (λ (qs : List PlainPiece). StopsAt now upto (map (λ p. p.generation) qs) h') (sym split)
    (inr (inr (next, built, one, stops))))

-- before the next section, or in it
stops_next : (h now h' : HandleState) (upto i : ℕ) (p : PlainPiece) (ps : List PlainPiece)
    → i < length ps → p ≡ get_or ps i p → Stops h now upto ps (drop i ps)
    → (h' ≡ now) ⊎ StoppedIn now p.generation h'
    → StopsAt h upto (map (λ p. p.generation) ps) h'
stops_next h now h' upto i p ps less is so_far stopped =
    let split : drop i ps ≡ p ∷ drop (i + 1) ps =
    drop_more ps i p less ∙ ap (λ (q : PlainPiece). q ∷ drop (i + 1) ps) (sym is) in
    let here : StopsAt now upto (map (λ p. p.generation) (p ∷ drop (i + 1) ps)) h' =
    elim stopped [
      | inl same ↦ inl same
      | inr entered ↦ inr (inl entered)
    ] in
    so_far h'
    (subst (λ (qs : List PlainPiece). StopsAt now upto (map (λ p. p.generation) qs) h') (sym split)
    here)

-- ---- what a handle that has seen more knows

-- the first of the pieces that are left
pub ready_here : (h : HandleState) (upto i : ℕ) (bs : List PlainBatch) (p : PlainPiece)
    (ps : List PlainPiece) → i < length ps → p ≡ get_or ps i p
    → AllByRecursion (IsReady (seen_by h) upto bs) (drop i ps) → IsReady (seen_by h) upto bs p
ready_here h upto i bs p ps less is ready =
    let split : drop i ps ≡ p ∷ drop (i + 1) ps =
    drop_more ps i p less ∙ ap (λ (q : PlainPiece). q ∷ drop (i + 1) ps) (sym is) in
    (subst (λ (qs : List PlainPiece). AllByRecursion (IsReady (seen_by h) upto bs) qs) split
    ready).0

-- and the others after it
ready_next : (h next : HandleState) (upto i : ℕ) (bs : List PlainBatch) (p : PlainPiece)
    (ps : List PlainPiece) → i < length ps → p ≡ get_or ps i p → IsLegal (seen_by h)
    → Tends h next → AllByRecursion (IsReady (seen_by h) upto bs) (drop i ps)
    → AllByRecursion (IsReady (seen_by next) upto bs) (drop (i + 1) ps)
ready_next h next upto i bs p ps less is legal tends ready =
    let split : drop i ps ≡ p ∷ drop (i + 1) ps =
    drop_more ps i p less ∙ ap (λ (q : PlainPiece). q ∷ drop (i + 1) ps) (sym is) in
    all_ready_later (seen_by h) (seen_by next) legal tends.legal tends.upkeep.later upto
    bs (drop (i + 1) ps)
    (subst (λ (qs : List PlainPiece). AllByRecursion (IsReady (seen_by h) upto bs) qs) split
    ready).1

-- ---- the loop

-- one more is counted
pub counted_one : (count count' : ℕ) (done : Bool) → done ≡ true → count' ≡ count + 1
    → count' ≡ count + (if done then 1 else 0)
counted_one count count' done there is =
    is ∙ sym (ap (λ (b : Bool). count + (if b then 1 else 0)) there)

pub counted_none : (count count' : ℕ) (done : Bool) → done ≡ false → count' ≡ count
    → count' ≡ count + (if done then 1 else 0)
counted_none count count' done out is =
    let same : count ≡ count + 0 = omega arith in
    is ∙ same ∙ sym (ap (λ (b : Bool). count + (if b then 1 else 0)) out)

few_more : (count count' i : ℕ) (done : Bool) → count' ≡ count + (if done then 1 else 0)
    → count ≤ i → count' ≤ i + 1
few_more count count' i true is few = omega (arith, is, few)
few_more count count' i false is few = omega (arith, is, few)

-- what the loop keeps
abbrev pub Refreshing : HandleState → HandleState → ℕ → ℕ → ℕ → List PlainBatch
    → List PlainPiece → Type 0
Refreshing h now upto count i bs ps =
    Completes h now upto count ps (drop i ps) × Stops h now upto ps (drop i ps) × Tends h now
    × AllByRecursion (IsReady (seen_by now) upto bs) (drop i ps) × (count ≤ i)

pub refreshing_first : (h : HandleState) (upto : ℕ) (bs : List PlainBatch) (ps : List PlainPiece)
    → IsLegal (seen_by h) → AllByRecursion (IsReady (seen_by h) upto bs) ps
    → Refreshing h h upto 0 0 bs ps
refreshing_first h upto bs ps legal ready =
    (completes_none h upto ps, λ h' stops. stops, tends_same h legal, ready, omega arith)

pub refreshing_more : (h now next : HandleState) (upto count count' i : ℕ) (done : Bool)
    (bs : List PlainBatch) (p : PlainPiece) (ps : List PlainPiece) → i < length ps
    → p ≡ get_or ps i p → Refreshing h now upto count i bs ps
    → Refreshed now upto p.generation (if done then 1 else 0) next → Tends now next
    → count' ≡ count + (if done then 1 else 0) → Refreshing h next upto count' (i + 1) bs ps
refreshing_more h now next upto count count' i done bs p ps less is so_far one tends sum = (
  subst (λ (n : ℕ). Completes h next upto n ps (drop (i + 1) ps)) (sym sum)
      (completes_more h now next upto count (if done then 1 else 0) i p ps less is so_far.0 one),
  stops_more h now next upto (if done then 1 else 0) i p ps less is so_far.1 one,
  tends_both h now next so_far.2 tends,
  ready_next now next upto i bs p ps less is so_far.2.legal tends so_far.3,
  few_more count count' i done sum so_far.4,
)

-- an error of the next piece
pub refreshing_stops : {T E : Type 0} (result : Result T E) (h now h' : HandleState)
    (upto count i : ℕ) (bs : List PlainBatch) (p : PlainPiece) (ps : List PlainPiece)
    → i < length ps → p ≡ get_or ps i p → Refreshing h now upto count i bs ps
    → (h' ≡ now) ⊎ StoppedIn now p.generation h'
    → OnErr result (StopsAt h upto (map (λ p. p.generation) ps) h')
refreshing_stops (Ok x) h now h' upto count i bs p ps less is so_far stopped = tt
refreshing_stops (Err e) h now h' upto count i bs p ps less is so_far stopped =
    stops_next h now h' upto i p ps less is so_far.1 stopped

-- ---- the offer

-- the first section is what the others are of
record IsFirst (h mid : HandleState) (upto : ℕ) (gs : List ℕ) (froze : Froze h (seen_by mid))
    : Type 0 where
  handle : mid ≡ having h (after_freeze h.number froze.found)
  upto_is : upto ≡ frozen (after_freeze h.number froze.found)
  generations : gs ≡ current (after_freeze h.number froze.found)

first_is : (h mid : HandleState) (parts : PlainParts) (upto : ℕ) (ps : List PlainPiece)
    (froze : Froze h (seen_by mid)) → Tends h mid → AreOf (seen_by mid) parts
    → upto ≡ parts.upto → ps ≡ parts.pieces
    → IsFirst h mid upto (map (λ p. p.generation) ps) froze
first_is h mid parts upto ps froze tends of upto-is pieces-are = record {
  handle = tends.same ∙ ap (having h) froze.after;
  upto_is = upto-is ∙ of.upto ∙ ap frozen froze.after;
  generations = ap (λ (qs : List PlainPiece). map (λ p. p.generation) qs) pieces-are
      ∙ of.parts_of.pieces.generations ∙ of.generations ∙ ap current froze.after;
}

pub offered_result : {E : Type 0} (h mid h' : HandleState) (parts : PlainParts) (upto : ℕ)
    (ps : List PlainPiece) (result : Result ℕ E) → Froze h (seen_by mid) → Tends h mid
    → AreOf (seen_by mid) parts → upto ≡ parts.upto → ps ≡ parts.pieces
    → IfOk result (λ count. Refreshes mid upto (map (λ p. p.generation) ps) count h')
    → IfOk result (λ count. Offered h count h')
offered_result h mid h' parts upto ps (Ok count) froze tends of upto-is pieces-are are =
    let first = after_freeze h.number froze.found in
    let is = first_is h mid parts upto ps froze tends of upto-is pieces-are in
    record {
      found = froze.found;
      finds = froze.finds;
      legal = froze.legal;
      sections = subst (λ (x : HandleState). Refreshes x (frozen first) (current first) count h')
          is.handle
          (subst (λ (n : ℕ). Refreshes mid n (current first) count h') is.upto_is
          (subst (λ (gs : List ℕ). Refreshes mid upto gs count h') is.generations are));
    }
offered_result h mid h' parts upto ps (Err e) froze tends of upto-is pieces-are are = tt

pub stopped_result : {T E : Type 0} (h mid h' : HandleState) (parts : PlainParts) (upto : ℕ)
    (ps : List PlainPiece) (result : Result T E) → Froze h (seen_by mid) → Tends h mid
    → AreOf (seen_by mid) parts → upto ≡ parts.upto → ps ≡ parts.pieces
    → StopsAt mid upto (map (λ p. p.generation) ps) h' → OnErr result (OfferStopped h h')
stopped_result h mid h' parts upto ps (Ok x) froze tends of upto-is pieces-are stops = tt
stopped_result h mid h' parts upto ps (Err e) froze tends of upto-is pieces-are stops =
    let first = after_freeze h.number froze.found in
    let is = first_is h mid parts upto ps froze tends of upto-is pieces-are in
    record {
      found = froze.found;
      finds = froze.finds;
      legal = froze.legal;
      sections = inr (subst (λ (x : HandleState). StopsAt x (frozen first) (current first) h')
          is.handle
          (subst (λ (n : ℕ). StopsAt mid n (current first) h') is.upto_is
          (subst (λ (gs : List ℕ). StopsAt mid upto gs h') is.generations stops)));
    }
