-- Changing the one slot of a generation, at its place.
use Rattle.std.proofs.Common.{◌≡◌, ◌≤◌, ◌<◌, ◌+◌, ℕ, zero, suc, Bool, true, false, cond, not}
use Rattle.std.proofs.Common.{nat_eq}
use Rattle.std.proofs.Common.{◌&&◌, ◌||◌, List, [], ◌∷◌, length, map, refl, sym, ap, ◌∙◌, subst}
use Rattle.std.proofs.Common.{arith}
use Rattle.std.proofs.Common.{Option, Some, None, set, get_or}
use Rattle.std.specs.Prelude.{nat_lt, is_none, is_some}
use Rattle.std.specs.List.{list_any, position_from}
use Rattle.std.proofs.lemmas.Bool.Decides.{nat_tests}
use Rattle.sg_paths.specs.Operations.{PlainNumbered, PlainBatch}
use Rattle.segment.specs.Pieces.{PlainPiece}
use Rattle.index_core.specs.CurrentPieces.{is_segment}
use Rattle.index_core.specs.HeldGenerations.{RisesFrom}
use Rattle.index_core.specs.Keeping.{with_piece, with_segment, with_live_docs}
use Rattle.index_core.specs.Keeping.{has_unbuilt, has_behind}
use Rattle.index_core.specs.Slots.{PlainSlot, slot_piece, body_at, HasBatch, HaveBatches}
use Rattle.index_core.specs.Slots.{with_slot}
use Rattle.index_core.specs.Slots.{has_slot}
use Rattle.index_core.specs.Slots.{lacks_segment, slot_built, lacks_deletes, slot_lived}

abbrev pub is_of : ℕ → PlainSlot → Bool
is_of g s = nat_eq s.generation g

abbrev generations : List PlainSlot → List ℕ
generations ss = map (λ s. s.generation) ss

-- a later generation isn't there
unchanged : (g n : ℕ) (f : PlainSlot → PlainSlot) (ss : List PlainSlot) → g < n
    → RisesFrom n (generations ss) → with_slot g f ss ≡ ss
unchanged g n f [] less up = refl
unchanged g n f (s ∷ ss) less up =
    let here : n ≤ s.generation = up.0 in
    let other : nat_eq s.generation g ≡ false = grind (arith, nat_tests, less, here) in
    rw other (ap (λ (later : List PlainSlot). s ∷ later)
    (unchanged g (s.generation + 1) f ss (omega (arith, less, here)) up.1))

none_of : (g n : ℕ) (t : PlainSlot → Bool) (ss : List PlainSlot) → g < n
    → RisesFrom n (generations ss) → has_slot g t ss ≡ false
none_of g n t [] less up = refl
none_of g n t (s ∷ ss) less up =
    let here : n ≤ s.generation = up.0 in
    let other : nat_eq s.generation g ≡ false = grind (arith, nat_tests, less, here) in
    rw other (none_of g (s.generation + 1) t ss (omega (arith, less, here)) up.1)

position_over : (g n k : ℕ) (ss : List PlainSlot) → position_from (is_of g) n ss ≡ Some k → n ≤ k
position_over g n k [] is = absurd (let no : None ≡ Some k = is in cc)
position_over g n k (s ∷ ss) is = by_cases (is_of g s) is (λ e. position_over g (n + 1) k ss e)
  where
    by_cases : (b : Bool) → cond b (Some n) (position_from (is_of g) (n + 1) ss) ≡ Some k
        → (position_from (is_of g) (n + 1) ss ≡ Some k → n + 1 ≤ k) → n ≤ k
    by_cases true e again = let same : n ≡ k = cc in omega (arith, same)
    by_cases false e again = let more = again e in omega (arith, more)

-- nothing is found
pub not_found : (g n : ℕ) (t : PlainSlot → Bool) (ss : List PlainSlot)
    → position_from (is_of g) n ss ≡ None → has_slot g t ss ≡ false
not_found g n t [] is = refl
not_found g n t (s ∷ ss) is = by_cases (is_of g s) is (λ e. not_found g (n + 1) t ss e)
  where
    by_cases : (b : Bool) → cond b (Some n) (position_from (is_of g) (n + 1) ss) ≡ None
        → (position_from (is_of g) (n + 1) ss ≡ None
        → has_slot g t ss ≡ false)
        → ((b && t s) || has_slot g t ss) ≡ false
    by_cases true e again = let no : Some n ≡ None = e in cc
    by_cases false e again = again e

-- what is found: the slot is changed at its place, and it alone tells
pub record Found (g : ℕ) (t : PlainSlot → Bool) (f : PlainSlot → PlainSlot)
    (ss : List PlainSlot) (j : ℕ) (x : PlainSlot) : Type 0 where
  pub changed : set ss j (f x) ≡ with_slot g f ss
  pub same : set ss j x ≡ ss
  pub tells : has_slot g t ss ≡ t x

or_false : (b : Bool) → (b || false) ≡ b
or_false true = refl
or_false false = refl

pub found : (g n m j : ℕ) (t : PlainSlot → Bool) (f : PlainSlot → PlainSlot)
    (ss : List PlainSlot) (x : PlainSlot) → RisesFrom m (generations ss)
    → position_from (is_of g) n ss ≡ Some (n + j) → x ≡ get_or ss j x → Found g t f ss j x
found g n m j t f [] x up at is = absurd (let no : None ≡ Some (n + j) = at in cc)
found g n m j t f (s ∷ ss) x up at is =
    by_cases (is_of g s) refl j at is
    (λ i at' is'. found g (n + 1) (s.generation + 1) i t f ss x up.1 at' is')
  where
    by_cases : (b : Bool) → is_of g s ≡ b → (i : ℕ)
        → cond b (Some n) (position_from (is_of g) (n + 1) ss) ≡ Some (n + i)
        → x ≡ get_or (s ∷ ss) i x
        → ((i' : ℕ) → position_from (is_of g) (n + 1) ss ≡ Some (n + 1 + i')
        → x ≡ get_or ss i' x → Found g t f ss i' x)
        → Found g t f (s ∷ ss) i x
    by_cases true pb zero at' is' again =
        let same : s.generation ≡ g = grind (arith, nat_tests, pb) in
        let later : RisesFrom (s.generation + 1) (generations ss) = up.1 in
        record {
          changed = rw pb (ap (λ (one : PlainSlot). f one ∷ ss) is'
              ∙ ap (λ (later : List PlainSlot). f s ∷ later)
              (sym (unchanged g (s.generation + 1) f ss (omega (arith, same)) later)));
          same = ap (λ (one : PlainSlot). one ∷ ss) is';
          tells = rw pb (rw (none_of g (s.generation + 1) t ss (omega (arith, same)) later)
              (or_false (t s) ∙ ap t (sym is')));
        }
    by_cases true pb (suc i) at' is' again =
        absurd (let same : n ≡ n + suc i = cc in omega (arith, same))
    by_cases false pb zero at' is' again =
        absurd (let more = position_over g (n + 1) (n + zero) ss at' in omega (arith, more))
    by_cases false pb (suc i) at' is' again =
        let next : n + suc i ≡ n + 1 + i = omega arith in
        let there = again i (at' ∙ ap Some next) is' in
        record {
          changed = rw pb (ap (λ (later : List PlainSlot). s ∷ later) there.changed);
          same = ap (λ (later : List PlainSlot). s ∷ later) there.same;
          tells = rw pb there.tells;
        }

-- the slot at that place, changed where it passes
pub placed : (g j : ℕ) (t : PlainSlot → Bool) (f : PlainSlot → PlainSlot)
    (ss : List PlainSlot) (x y : PlainSlot) → Found g t f ss j x → y ≡ cond (t x) (f x) x
    → set ss j y ≡ cond (has_slot g t ss) (with_slot g f ss) ss
placed g j t f ss x y there is =
    ap (set ss j) is ∙ by_cases (t x)
    ∙ ap (λ (b : Bool). cond b (with_slot g f ss) ss) (sym there.tells)
  where
    by_cases : (b : Bool) → set ss j (cond b (f x) x) ≡ cond b (with_slot g f ss) ss
    by_cases true = there.changed
    by_cases false = there.same

-- a place that is found
pub position_within : (g n k : ℕ) (ss : List PlainSlot) → position_from (is_of g) n ss ≡ Some k
    → k < n + length ss
position_within g n k [] is = absurd (let no : None ≡ Some k = is in cc)
position_within g n k (s ∷ ss) is = by_cases (is_of g s) is (λ e. position_within g (n + 1) k ss e)
  where
    by_cases : (b : Bool) → cond b (Some n) (position_from (is_of g) (n + 1) ss) ≡ Some k
        → (position_from (is_of g) (n + 1) ss ≡ Some k → k < n + 1 + length ss)
        → k < n + length (s ∷ ss)
    by_cases true e again = let same : n ≡ k = cc in omega (arith, same)
    by_cases false e again = let more = again e in omega (arith, more)

-- it, counted from 0
pub from_zero : (g k : ℕ) (ss : List PlainSlot) → position_from (is_of g) 0 ss ≡ Some k
    → position_from (is_of g) 0 ss ≡ Some (0 + k)
from_zero g k ss is = let same : k ≡ 0 + k = omega arith in is ∙ ap Some same

-- what a change of the slot of a generation leaves, and that there is one
pub slot_changed : (g j : ℕ) (t : PlainSlot → Bool) (f : PlainSlot → PlainSlot)
    (ss : List PlainSlot) (x y : PlainSlot) → RisesFrom 1 (generations ss)
    → position_from (is_of g) 0 ss ≡ Some j → x ≡ get_or ss j x → y ≡ cond (t x) (f x) x
    → (t x ≡ has_slot g t ss) × (set ss j y ≡ cond (has_slot g t ss) (with_slot g f ss) ss)
slot_changed g j t f ss x y up at is changed =
    let there = found g 0 1 j t f ss x up (from_zero g j ss at) is in
    (sym there.tells, placed g j t f ss x y there changed)

-- that there is none
pub slot_missing : (g : ℕ) (t : PlainSlot → Bool) (f : PlainSlot → PlainSlot)
    (ss : List PlainSlot) → position_from (is_of g) 0 ss ≡ None
    → (false ≡ has_slot g t ss) × (ss ≡ cond (has_slot g t ss) (with_slot g f ss) ss)
slot_missing g t f ss none =
    let missing = not_found g 0 t ss none in (sym missing, rw missing refl)

-- ---- slots as pieces

generations_same : (bs : List PlainBatch) (ss : List PlainSlot)
    → map (λ p. p.generation) (map (slot_piece bs) ss) ≡ generations ss
generations_same bs [] = refl
generations_same bs (s ∷ ss) =
    ap (λ (gs : List ℕ). s.generation ∷ gs) (generations_same bs ss)

-- slots rise as their pieces do
pub slots_rise : (bs : List PlainBatch) (ss : List PlainSlot)
    → RisesFrom 1 (map (λ p. p.generation) (map (slot_piece bs) ss)) → RisesFrom 1 (generations ss)
slots_rise bs ss up = subst (RisesFrom 1) (generations_same bs ss) up

-- a slot that is changed is its piece changed
pub with_same : (bs : List PlainBatch) (g : ℕ) (f : PlainSlot → PlainSlot)
    (h : PlainPiece → PlainPiece)
    → ((s : PlainSlot) → slot_piece bs (f s) ≡ h (slot_piece bs s)) → (ss : List PlainSlot)
    → map (slot_piece bs) (with_slot g f ss) ≡ with_piece g h (map (slot_piece bs) ss)
with_same bs g f h same [] = refl
with_same bs g f h same (s ∷ ss) =
    ap (λ (p : PlainPiece). p ∷ map (slot_piece bs) (with_slot g f ss))
    (by_cases (nat_eq s.generation g))
    ∙ ap (λ (ps : List PlainPiece). cond (nat_eq s.generation g) (h (slot_piece bs s))
    (slot_piece bs s) ∷ ps) (with_same bs g f h same ss)
  where
    by_cases : (b : Bool) → slot_piece bs (cond b (f s) s)
        ≡ cond b (h (slot_piece bs s)) (slot_piece bs s)
    by_cases true = same s
    by_cases false = refl

-- a test that a slot and its piece pass alike
pub has_same : (bs : List PlainBatch) (g : ℕ) (t : PlainSlot → Bool) (u : PlainPiece → Bool)
    → ((s : PlainSlot) → t s ≡ u (slot_piece bs s)) → (ss : List PlainSlot)
    → has_slot g t ss ≡ list_any (λ p. nat_eq p.generation g && u p) (map (slot_piece bs) ss)
has_same bs g t u same [] = refl
has_same bs g t u same (s ∷ ss) =
    ap (λ (b : Bool). (nat_eq s.generation g && b) || has_slot g t ss) (same s)
    ∙ ap (λ (b : Bool). (nat_eq s.generation g && u (slot_piece bs s)) || b)
    (has_same bs g t u same ss)

lacks_same : (bs : List PlainBatch) (n : ℕ) (documents : Option (List PlainNumbered))
    → is_none documents ≡ not (is_segment (body_at bs n documents))
lacks_same bs n None = refl
lacks_same bs n (Some documents) = refl

has_segment-same : (bs : List PlainBatch) (n : ℕ) (documents : Option (List PlainNumbered))
    → is_some documents ≡ is_segment (body_at bs n documents)
has_segment-same bs n None = refl
has_segment-same bs n (Some documents) = refl

pub unbuilt_same : (bs : List PlainBatch) (g : ℕ) (ss : List PlainSlot)
    → has_slot g lacks_segment ss ≡ has_unbuilt g (map (slot_piece bs) ss)
unbuilt_same bs g ss =
    has_same bs g lacks_segment (λ p. not (is_segment p.body))
    (λ s. lacks_same bs s.at s.documents) ss

pub behind_same : (bs : List PlainBatch) (g upto : ℕ) (ss : List PlainSlot)
    → has_slot g (lacks_deletes upto) ss ≡ has_behind g upto (map (slot_piece bs) ss)
behind_same bs g upto ss =
    has_same bs g (lacks_deletes upto) (λ p. is_segment p.body && nat_lt p.applied upto)
    (λ s. ap (λ (b : Bool). b && nat_lt s.applied upto) (has_segment-same bs s.at s.documents)) ss

pub built_same : (bs : List PlainBatch) (g : ℕ) (documents : List PlainNumbered)
    (ss : List PlainSlot)
    → map (slot_piece bs) (with_slot g (slot_built documents) ss)
    ≡ with_piece g (with_segment documents) (map (slot_piece bs) ss)
built_same bs g documents ss =
    with_same bs g (slot_built documents) (with_segment documents) (λ s. refl) ss

pub lived_same : (bs : List PlainBatch) (g upto : ℕ) (live_docs : List Bool) (ss : List PlainSlot)
    → map (slot_piece bs) (with_slot g (slot_lived live_docs upto) ss)
    ≡ with_piece g (with_live_docs live_docs upto) (map (slot_piece bs) ss)
lived_same bs g upto live_docs ss =
    with_same bs g (slot_lived live_docs upto) (with_live_docs live_docs upto) (λ s. refl) ss

-- the places stay, where each changed slot has its batch
pub places_stay : (bs : List PlainBatch) (g : ℕ) (f : PlainSlot → PlainSlot)
    → ((s : PlainSlot) → HasBatch bs s → HasBatch bs (f s)) → (ss : List PlainSlot)
    → HaveBatches bs ss → HaveBatches bs (with_slot g f ss)
places_stay bs g f still [] have = tt
places_stay bs g f still (s ∷ ss) have =
    (by_cases (nat_eq s.generation g), places_stay bs g f still ss have.1)
  where
    by_cases : (b : Bool) → HasBatch bs (cond b (f s) s)
    by_cases true = still s have.0
    by_cases false = have.0
