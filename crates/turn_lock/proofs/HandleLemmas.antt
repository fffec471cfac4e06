-- From what the steps tell a seat, by places, to what contracts say of a handle, by lists.
use Rattle.std.proofs.Common.{◌≡◌, ◌≢◌, ◌<◌, ◌+◌, ◌-◌, ◌^◌, ◌⊎◌, ℕ, zero, suc, Bool, true, false}
use Rattle.std.proofs.Common.{cond, nat_eq, List, [], ◌∷◌, ◌++◌, length, Option, Some}
use Rattle.std.proofs.Common.{refl, sym, ap, ◌∙◌, subst, arith, inl, inr}
use Rattle.std.specs.Prelude.{leb, map}
use Rattle.std.specs.List.{AllByRecursion, range_with_len}
use Rattle.std.proofs.lemmas.List.{length-append}
use Rattle.std.proofs.lemmas.List.FromFn.{map-range_with_len_more}
use Rattle.std.proofs.lemmas.Bool.{ne_eqb}
use Rattle.std.proofs.lemmas.Option.{same_Some}
use mathlib.Core.Option.{some-ne-none, some-injective}
use lib.ListN.{get_elem?}
use Rattle.atomic_table.specs.Table.{Me}
use Rattle.turn_lock.specs.declared.seat_view.SeatView.{SeatView}
use Rattle.turn_lock.specs.Handles.{LockId, Handle, Section, own, Finds, Leaves, Met, new_handle}
use Rattle.turn_lock.specs.Rule.{At, Each, KeepsBoth}
use Rattle.turn_lock.specs.Steps.{Follows, Adds, joined, size, fresh}
use Rattle.turn_lock.proofs.StepLemmas.{value_of}

-- a handle at a seat
abbrev pub handle_of : {E O : Type 0} → LockId → ℕ → SeatView E O → Handle E O
handle_of lock number v = record {
  lock = lock;
  number = number;
  seats = v.seats;
  inside = v.turn;
  history = v.history;
  journal = v.journal;
}

-- events that are all of others
none_own : {E : Type 0} (caller : E → ℕ) (number : ℕ) (events : List E)
    → Each events (λ i e. caller e ≢ number) → own caller number events ≡ []
none_own caller number [] others = refl
none_own caller number (e ∷ events) others =
    let rest = none_own caller number events (λ i x here. others (suc i) x here) in
    let first : nat_eq (caller e) number ≡ false = ne_eqb (caller e) number (others zero e refl) in
    rw first rest

-- an item behind others
at_behind : {A : Type 0} (xs ys : List A) (i j : ℕ) (a : A) → j ≡ length xs + i → At ys i a
    → At (xs ++ ys) j a
at_behind [] ys i j a is at =
    let same : i ≡ j = omega (arith, is) in subst (λ (k : ℕ). At ys k a) same at
at_behind (x ∷ xs) ys i zero a is at = absurd (omega (arith, is))
at_behind (x ∷ xs) ys i (suc j) a is at = at_behind xs ys i j a (omega (arith, is)) at

each_all : {A : Type 0} (P : A → Type 0) (xs : List A) → Each xs (λ i a. P a) → AllByRecursion P xs
each_all P [] each = tt
each_all P (x ∷ xs) each = (each zero x refl, each_all P xs (λ i a here. each (suc i) a here))

all_each : {A : Type 0} (P : A → Type 0) (xs : List A) → AllByRecursion P xs → Each xs (λ i a. P a)
all_each P [] all i a here = absurd (some-ne-none a (sym here))
all_each P (x ∷ xs) all zero a here = subst P (some-injective x a here) all.0
all_each P (x ∷ xs) all (suc i) a here = all_each P xs all.1 i a here

module _ {E O V : Type 0} (history : V → List E) (journal : V → List O) (caller : E → ℕ) where
  follows_finds : (lock : LockId) (n : ℕ) (v : SeatView E O) (y : V) → v.number ≡ Some n
      → Follows history journal caller v y
      → Finds caller (handle_of lock n v) (history y) (journal y)
  follows_finds lock n v y named F = record {
    later = record {
      events = F.later_history.0;
      operations = F.later_journal.0;
      history_is = F.later_history.1;
      journal_is = F.later_journal.1;
    };
    others = none_own caller n F.later_history.0
        (λ i e here is. F.others (length v.history + i) e (omega arith)
        (ap (λ (xs : List E). get_elem? xs (length v.history + i)) F.later_history.1
        ∙ at_behind v.history F.later_history.0 i (length v.history + i) e refl here)
        (named ∙ ap Some (sym is)));
    callers = each_all (λ e. caller e < v.seats) (history y) F.callers;
  }

  -- what a handle finds, after a draw and a look
  pub found : (lock : LockId) (n t : ℕ) (v drawn : SeatView E O) (y z : V)
      (hand : List (ℕ × Option V)) (h : Handle E O) → v.number ≡ Some n
      → drawn ≡ record v { ticket = Some t } → hand ≡ (0, Some y) ∷ [] → hand ≡ (0, Some z) ∷ []
      → Follows history journal caller drawn y → handle_of lock n v ≡ h
      → Finds caller h (history z) (journal z)
  found lock n t v drawn y z hand h named draw held taken F is =
      let same : y ≡ z = same_Some y z (ap value_of (sym held ∙ taken)) in
      let G = subst (λ (x : SeatView E O). Follows history journal caller x y) draw F in
      let w : SeatView E O = record v { ticket = Some t } in
      let H = subst (λ (u : V). Follows history journal caller w u) same G in
      subst (λ (g : Handle E O). Finds caller g (history z) (journal z)) is
      (follows_finds lock n w z named H)

  -- what a handle leaves, in the hand of its seat
  pub left : (lock : LockId) (n count : ℕ) (v : SeatView E O) (me : Me (Option V) (SeatView E O))
      (h : Handle E O) (plain section : Section V) → v.number ≡ Some n
      → me ≡ (v, (0, Some plain.value) ∷ []) → handle_of lock n v ≡ h → plain ≡ section
      → section.found ≡ length h.history
      → Leaves caller h (history section.value) (journal section.value)
      → count ≡ length (history plain.value) → count < 2 ^ 64
      → (x : V) × (me.1 ≡ (0, Some x) ∷ []) × Adds history journal caller me.0 x
      × (length (history x) ≡ length me.0.history + (count - plain.found))
      × (length (history x) < 2 ^ 64)
  left lock n count v me h plain section named same is whole entered leaves counted fits =
      let y = plain.value in
      let L = subst (λ (g : Handle E O). Leaves caller g (history y) (journal y)) (sym is)
      (subst (λ (s : Section V). Leaves caller h (history s.value) (journal s.value)) (sym whole)
      leaves) in
      let long : plain.found ≡ length v.history = ap (λ (s : Section V). s.found) whole
      ∙ (entered ∙ ap (λ (g : Handle E O). length g.history) (sym is)) in
      let more = ap length L.later.history_is in
      subst
      (λ (m : Me (Option V) (SeatView E O)). (x : V) × (m.1 ≡ (0, Some x) ∷ [])
      × Adds history journal caller m.0 x
      × (length (history x) ≡ length m.0.history + (count - plain.found))
      × (length (history x) < 2 ^ 64))
      (sym same) (
        y,
        refl,
        record {
          events = L.later.events;
          later_history = L.later.history_is;
          later_journal = (L.later.operations, L.later.journal_is);
          own_alone = λ i e here. named
              ∙ ap Some (sym (all_each (λ x. caller x ≡ n) L.later.events L.own_alone i e here));
        },
        omega (arith, length-append v.history L.later.events),
        omega arith,
      )

module _ {E O : Type 0} (caller : E → ℕ) where
  -- the longer record is one of the two
  is_one : (b : Bool) (v w : SeatView E O)
      → ((cond b v.history w.history ≡ v.history) × (cond b v.journal w.journal ≡ v.journal))
      ⊎ ((cond b v.history w.history ≡ w.history) × (cond b v.journal w.journal ≡ w.journal))
  is_one true v w = inl (refl, refl)
  is_one false v w = inr (refl, refl)

  -- what a handle has observed after a meeting
  pub met : (one other : LockId) (m n : ℕ) (v w j : SeatView E O) (from to : Handle E O)
      → w.number ≡ Some n → j ≡ joined w v → KeepsBoth caller j → handle_of one m v ≡ from
      → handle_of other n w ≡ to → Met caller from to j.history j.journal
  met one other m n v w j from to named same keeps is_from is_to =
      let k : SeatView E O = joined w v in
      let K = subst (λ (x : SeatView E O). KeepsBoth caller x) same keeps in
      let M : Met caller (handle_of one m v) (handle_of other n w) k.history k.journal = record {
        longer = is_one (leb (size w) (size v)) v w;
        later_from = record {
          events = K.2.0;
          operations = K.3.0;
          history_is = K.2.1;
          journal_is = K.3.1;
        };
        later_to = record {
          events = K.0.0;
          operations = K.1.0;
          history_is = K.0.1;
          journal_is = K.1.1;
        };
        others = none_own caller n K.0.0
            (λ i e here is. K.4 (length w.history + i) e (omega arith)
            (ap (λ (xs : List E). get_elem? xs (length w.history + i)) K.0.1
            ∙ at_behind w.history K.0.0 i (length w.history + i) e refl here)
            (named ∙ ap Some (sym is)));
      } in
      subst (λ (x : SeatView E O). Met caller from to x.history x.journal) (sym same)
      (subst (λ (g : Handle E O). Met caller g to k.history k.journal) is_from
      (subst (λ (g : Handle E O). Met caller (handle_of one m v) g k.history k.journal) is_to M))

-- the handles of a lock, with a new one behind them
pub one_more_handle : {E O V : Type 0} (t lock : LockId) (n s seats : ℕ) (made : Option ℕ)
    (me : Me (Option V) (SeatView E O)) (some_passes all : List (Handle E O)) → t ≡ lock
    → me ≡ (fresh made s, []) → s ≡ seats
    → some_passes ≡ map (new_handle lock seats) (range_with_len 0 n)
    → all ≡ some_passes ++ handle_of t n me.0 ∷ []
    → all ≡ map (new_handle lock seats) (range_with_len 0 (n + 1))
one_more_handle {E = E} {O = O} t lock n s seats made me some_passes all at is many before behind =
    let last : handle_of t n me.0 ≡ new_handle lock seats n =
    ap (λ m. handle_of t n m.0) is ∙ (ap (λ l. new_handle l s n) at
    ∙ ap (λ x. new_handle lock x n) many) in
    behind ∙ (ap (λ h. some_passes ++ h ∷ []) last
    ∙ (ap (λ (hs : List (Handle E O)). hs ++ new_handle lock seats n ∷ []) before
    ∙ sym (map-range_with_len_more (new_handle lock seats) 0 n n (omega arith))))
