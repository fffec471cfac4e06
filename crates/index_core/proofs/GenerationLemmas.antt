-- Which generations have their segments after one event more.
use Rattle.std.proofs.Common.{◌≡◌, ℕ, Bool, true, false, nat_eq, ◌||◌, None, List, [], ◌∷◌, ◌++◌}
use Rattle.std.proofs.Common.{refl, ap, ◌∙◌, arith}
use Rattle.std.specs.List.{filter_map}
use Rattle.std.proofs.lemmas.Bool.Decides.{nat_tests}
use Rattle.std.proofs.lemmas.List.Elements.{filter_map-append}
use Rattle.std.proofs.lemmas.List.Folds.{list_any-append}
use Rattle.index_core.specs.Histories.{HistoryEvent, built, Record, is_among, built_generation}
use Rattle.index_core.specs.Records.{with_event}
use Rattle.index_core.specs.Generations.{is_built}
use Rattle.index_core.proofs.HistoryLemmas.{skips}

pub built_stays : (r : Record) (e : HistoryEvent) (g : ℕ) → built_generation e ≡ None
    → is_built (with_event r e) g ≡ is_built r g
built_stays r e g nothing = ap (is_among g) (skips built_generation r.history e nothing)

pub is_among-more : (g x : ℕ) (gs : List ℕ)
    → is_among g (gs ++ x ∷ []) ≡ (is_among g gs || (nat_eq g x || false))
is_among-more g x gs = list_any-append (nat_eq g) gs (x ∷ [])

or_none : (b : Bool) → (b || (false || false)) ≡ b
or_none true = refl
or_none false = refl

or_one : (b : Bool) → (b || (true || false)) ≡ true
or_one true = refl
or_one false = refl

pub among_other : (g x : ℕ) (gs : List ℕ) → nat_eq g x ≡ false
    → is_among g (gs ++ x ∷ []) ≡ is_among g gs
among_other g x gs other =
    is_among-more g x gs ∙ rw other (or_none (is_among g gs))

pub among_itself : (g : ℕ) (gs : List ℕ) → is_among g (gs ++ g ∷ []) ≡ true
among_itself g gs =
    let same : nat_eq g g ≡ true = grind (arith, nat_tests) in
    is_among-more g g gs ∙ rw same (or_one (is_among g gs))

pub built_other : (r : Record) (c g x : ℕ) → nat_eq g x ≡ false
    → is_built (with_event r (built c x)) g ≡ is_built r g
built_other r c g x other =
    ap (is_among g) (filter_map-append built_generation r.history (built c x ∷ []))
    ∙ among_other g x (filter_map built_generation r.history) other

pub built_now : (r : Record) (c g : ℕ) → is_built (with_event r (built c g)) g ≡ true
built_now r c g =
    ap (is_among g) (filter_map-append built_generation r.history (built c g ∷ []))
    ∙ among_itself g (filter_map built_generation r.history)
