-- What is known of the merges of a record: those that ended were begun, and each that is open is
-- alone under its number.
use Rattle.std.proofs.Common.{◌≡◌, ◌≤◌, ◌<◌, ◌+◌, ◌⊎◌, ℕ, zero, suc, Bool, true, false, cond, not}
use Rattle.std.proofs.Common.{nat_eq, inl, inr, List, [], ◌∷◌, length, drop, refl, sym, ap, ◌∙◌}
use Rattle.std.proofs.Common.{subst, arith, get_or}
use Rattle.std.specs.Prelude.{filter, Contains, slice_index_or}
use Rattle.std.specs.List.{AllByRecursion, filter_map}
use Rattle.std.proofs.lemmas.Bool.Decides.{nat_tests}
use Rattle.index_core.specs.Histories.{HistoryEvent, accept, freeze, begin, built}
use Rattle.index_core.specs.Histories.{live_docs_updated, merge_begin, merge_end, merge_drop}
use Rattle.index_core.specs.Histories.{view_end, Record, Merge, is_among, closed_merge, ended_merge}
use Rattle.index_core.specs.Records.{begun_merges, next_merge, open_merges}
use Rattle.index_core.specs.Generations.{merges_of}
use Rattle.index_core.specs.EndedMerges.{IsOfKnownMerge, HasKnownMerges}
use Rattle.index_core.specs.HeldGenerations.{IsOnce}
use Rattle.index_core.specs.Keeping.{AreMergesFrom, AreMerges}
use Rattle.index_core.proofs.ListLemmas.{all_weaker, all_filter}

-- ---- lists

-- what is in a list is its first item or among the rest
first_or_later : {X : Type 0} (w x : X) (ws : List X) → Contains (w ∷ ws) x
    → (w ≡ x) ⊎ Contains ws x
first_or_later {X} w x ws there = by_place there.0 there.1 there.2
  where
    by_place : (k : ℕ) → k < length (w ∷ ws) → slice_index_or (w ∷ ws) k x ≡ x
        → (w ≡ x) ⊎ Contains ws x
    by_place zero within is = inl is
    by_place (suc k) within is = inr (k, omega (arith, within), is)

-- what holds of each item holds of one that is there
pub of_each : {X : Type 0} (P : X → Type 0) (x : X) (xs : List X) → AllByRecursion P xs
    → Contains xs x → P x
of_each P x [] all there = absurd (omega (arith, there.1))
of_each P x (y ∷ ys) all there =
    elim (first_or_later y x ys there) [
      | inl is ↦ subst P is all.0
      | inr later ↦ of_each P x ys all.1 later
    ]

-- what a filter leaves passes
passes : {X : Type 0} (p : X → Bool) (xs : List X) → AllByRecursion (λ x. p x ≡ true) (filter p xs)
passes p [] = tt
passes p (x ∷ xs) = by_test (p x) refl (passes p xs)
  where
    by_test : (b : Bool) → p x ≡ b → AllByRecursion (λ y. p y ≡ true) (filter p xs)
        → AllByRecursion (λ y. p y ≡ true) (cond b (x ∷ filter p xs) (filter p xs))
    by_test true is later = (is, later)
    by_test false is later = later

filter_swap : {X : Type 0} (p q : X → Bool) (xs : List X)
    → filter q (filter p xs) ≡ filter p (filter q xs)
filter_swap p q [] = refl
filter_swap p q (x ∷ xs) = by_tests (p x) (q x) refl refl (filter_swap p q xs)
  where
    by_tests : (b c : Bool) → p x ≡ b → q x ≡ c → filter q (filter p xs) ≡ filter p (filter q xs)
        → filter q (cond b (x ∷ filter p xs) (filter p xs))
        ≡ filter p (cond c (x ∷ filter q xs) (filter q xs))
    by_tests true true is is' e = rw (is, is') (ap (λ ys. x ∷ ys) e)
    by_tests true false is is' e = rw is' e
    by_tests false true is is' e = rw is e
    by_tests false false is is' e = e

-- where one alone passes, each that passes is that one
none_passes : {X : Type 0} (x : X) (q : X → Bool) (ys : List X) → filter q ys ≡ []
    → AllByRecursion (λ y. q y ≡ true → y ≡ x) ys
none_passes x q [] none = tt
none_passes x q (y ∷ ys) none = by_test (q y) refl none (none_passes x q ys)
  where
    by_test : (b : Bool) → q y ≡ b → cond b (y ∷ filter q ys) (filter q ys) ≡ []
        → (filter q ys ≡ [] → AllByRecursion (λ z. q z ≡ true → z ≡ x) ys)
        → (q y ≡ true → y ≡ x) × AllByRecursion (λ z. q z ≡ true → z ≡ x) ys
    by_test true is none' again = absurd (omega (arith, ap (λ zs. length zs) none'))
    by_test false is none' again =
        (λ yes. absurd (let no : false ≡ true = sym is ∙ yes in cc), again none')

one_passes : {X : Type 0} (x : X) (q : X → Bool) (ys : List X) → filter q ys ≡ x ∷ []
    → AllByRecursion (λ y. q y ≡ true → y ≡ x) ys
one_passes x q [] one = tt
one_passes {X} x q (y ∷ ys) one = by_test (q y) refl one (one_passes x q ys)
  where
    by_test : (b : Bool) → q y ≡ b → cond b (y ∷ filter q ys) (filter q ys) ≡ x ∷ []
        → (filter q ys ≡ x ∷ [] → AllByRecursion (λ z. q z ≡ true → z ≡ x) ys)
        → (q y ≡ true → y ≡ x) × AllByRecursion (λ z. q z ≡ true → z ≡ x) ys
    by_test true is one' again = (
      λ _. ap (λ zs. get_or zs 0 x) one',
      none_passes x q ys (ap (λ zs. drop 1 zs) one'),
    )
    by_test false is one' again =
        (λ yes. absurd (let no : false ≡ true = sym is ∙ yes in cc), again one')

-- ---- those that ended were begun

known_from : (n : ℕ) (h : List HistoryEvent)
    → AllByRecursion (λ k. k < n) (filter_map closed_merge h)
    → AllByRecursion (IsOfKnownMerge n) h
known_from n [] all = tt
known_from n (accept a b ∷ h) all = (tt, known_from n h all)
known_from n (freeze a b f u ∷ h) all = (tt, known_from n h all)
known_from n (begin a b u gs ∷ h) all = (tt, known_from n h all)
known_from n (built a b ∷ h) all = (tt, known_from n h all)
known_from n (live_docs_updated a b c ∷ h) all = (tt, known_from n h all)
known_from n (merge_begin a b gs ∷ h) all = (tt, known_from n h all)
known_from n (merge_end a b i gone ∷ h) all = (all.0, known_from n h all.1)
known_from n (merge_drop a b ∷ h) all = (tt, known_from n h all.1)
known_from n (view_end a b gone ∷ h) all = (tt, known_from n h all)

pub known : (r : Record) → AreMerges r → HasKnownMerges r
known r are = known_from (next_merge r) r.history are.closed_before

ended_before : (n : ℕ) (h : List HistoryEvent)
    → AllByRecursion (λ k. k < n) (filter_map closed_merge h)
    → AllByRecursion (λ k. k < n) (filter_map ended_merge h)
ended_before n [] all = tt
ended_before n (accept a b ∷ h) all = ended_before n h all
ended_before n (freeze a b f u ∷ h) all = ended_before n h all
ended_before n (begin a b u gs ∷ h) all = ended_before n h all
ended_before n (built a b ∷ h) all = ended_before n h all
ended_before n (live_docs_updated a b c ∷ h) all = ended_before n h all
ended_before n (merge_begin a b gs ∷ h) all = ended_before n h all
ended_before n (merge_end a b i gone ∷ h) all = (all.0, ended_before n h all.1)
ended_before n (merge_drop a b ∷ h) all = ended_before n h all.1
ended_before n (view_end a b gone ∷ h) all = ended_before n h all

-- a number that isn't below a bound isn't among those that are
pub not_below : (n : ℕ) (ks : List ℕ) → AllByRecursion (λ k. k < n) ks → is_among n ks ≡ false
not_below n [] all = refl
not_below n (k ∷ ks) all =
    let less : k < n = all.0 in
    let other : nat_eq n k ≡ false = grind (arith, nat_tests, less) in
    rw other (not_below n ks all.1)

-- the next merge is neither closed nor ended
pub next_not_closed : (r : Record) → AreMerges r
    → is_among (next_merge r) (filter_map closed_merge r.history) ≡ false
next_not_closed r are =
    not_below (next_merge r) (filter_map closed_merge r.history) are.closed_before

pub next_not_ended : (r : Record) → AreMerges r
    → is_among (next_merge r) (filter_map ended_merge r.history) ≡ false
next_not_ended r are =
    not_below (next_merge r) (filter_map ended_merge r.history)
    (ended_before (next_merge r) r.history are.closed_before)

-- ---- each is alone under its number

from_number : (first : ℕ) (ms : List Merge) → AreMergesFrom first ms
    → AllByRecursion (λ m. first ≤ m.merge) ms
from_number first [] numbered = tt
from_number first (m ∷ ms) numbered = (
  omega (arith, numbered.0),
  all_weaker (λ x. first + 1 ≤ x.merge) (λ x. first ≤ x.merge) (λ x over. omega (arith, over)) ms
      (from_number (first + 1) ms numbered.1),
)

below_next : (first : ℕ) (ms : List Merge) → AreMergesFrom first ms
    → AllByRecursion (λ m. m.merge < first + length ms) ms
below_next first [] numbered = tt
below_next first (m ∷ ms) numbered = (
  omega (arith, numbered.0),
  all_weaker (λ x. x.merge < first + 1 + length ms) (λ x. x.merge < first + length (m ∷ ms))
      (λ x below. omega (arith, below)) ms (below_next (first + 1) ms numbered.1),
)

-- those of a number
abbrev of_number : ℕ → List Merge → List Merge
of_number n ms = filter (λ x. nat_eq x.merge n) ms

none_of : (n first : ℕ) (ms : List Merge) → n < first → AllByRecursion (λ m. first ≤ m.merge) ms
    → of_number n ms ≡ []
none_of n first [] less all = refl
none_of n first (m ∷ ms) less all =
    let over : first ≤ m.merge = all.0 in
    let other : nat_eq m.merge n ≡ false = grind (arith, nat_tests, over, less) in
    rw other (none_of n first ms less all.1)

alone_from : (p : Merge → Bool) (first : ℕ) (ms : List Merge) (m : Merge) → AreMergesFrom first ms
    → Contains (filter p ms) m → of_number m.merge ms ≡ m ∷ []
alone_from p first [] m numbered there = absurd (omega (arith, there.1))
alone_from p first (w ∷ ws) m numbered there =
    by_test (p w) refl (λ found. alone_from p (first + 1) ws m numbered.1 found) there
  where
    over : AllByRecursion (λ x. first + 1 ≤ x.merge) ws
    over = from_number (first + 1) ws numbered.1

    here : w ≡ m → of_number m.merge (w ∷ ws) ≡ m ∷ []
    here is =
        let same : w.merge ≡ m.merge = ap (λ (x : Merge). x.merge) is in
        let test : nat_eq w.merge m.merge ≡ true = grind (arith, nat_tests, same) in
        let rest = none_of m.merge (first + 1) ws (omega (arith, same, numbered.0)) over in
        rw (test, rest) (ap (λ (x : Merge). x ∷ []) is)

    later : Contains (filter p ws) m → of_number m.merge ws ≡ m ∷ []
        → of_number m.merge (w ∷ ws) ≡ m ∷ []
    later found rest =
        let greater : first + 1 ≤ m.merge =
        of_each (λ x. first + 1 ≤ x.merge) m (filter p ws)
        (all_filter (λ x. first + 1 ≤ x.merge) p ws over) found in
        let test : nat_eq w.merge m.merge ≡ false =
        (let less : w.merge < m.merge = omega (arith, greater, numbered.0) in
        grind (arith, nat_tests, less)) in
        rw test rest

    by_test : (b : Bool) → p w ≡ b → (Contains (filter p ws) m → of_number m.merge ws ≡ m ∷ [])
        → Contains (cond b (w ∷ filter p ws) (filter p ws)) m
        → of_number m.merge (w ∷ ws) ≡ m ∷ []
    by_test false is again found = later found (again found)
    by_test true is again found =
        elim (first_or_later w m (filter p ws) found) [
          | inl same ↦ here same
          | inr behind ↦ later behind (again behind)
        ]

-- a merge is open
module _ (r : Record) (are : AreMerges r) (m : Merge) (there : Contains (open_merges r) m) where
  abbrev still : Merge → Bool
  still x = not (is_among x.merge (filter_map closed_merge r.history))

  pub open_alone : merges_of r m.merge ≡ m ∷ []
  open_alone = alone_from still 1 (begun_merges r) m are.numbers there

  pub open_before : m.merge < next_merge r
  open_before =
      let below : m.merge < 1 + length (begun_merges r) =
      of_each (λ x. x.merge < 1 + length (begun_merges r)) m (open_merges r)
      (all_filter (λ x. x.merge < 1 + length (begun_merges r)) still (begun_merges r)
      (below_next 1 (begun_merges r) are.numbers)) there in
      omega (arith, below)

  one_open : filter (λ x. nat_eq x.merge m.merge) (open_merges r) ≡ m ∷ []
  one_open =
      let open_still : still m ≡ true =
      of_each (λ x. still x ≡ true) m (open_merges r) (passes still (begun_merges r)) there in
      filter_swap still (λ x. nat_eq x.merge m.merge) (begun_merges r)
      ∙ ap (λ (ms : List Merge). filter still ms) open_alone
      ∙ rw open_still refl

  pub open_once : IsOnce (λ x. x.merge) m (open_merges r)
  open_once = record {
    once = ap (λ (ms : List Merge). length ms) one_open;
    only = one_passes m (λ x. nat_eq x.merge m.merge) (open_merges r) one_open;
  }
