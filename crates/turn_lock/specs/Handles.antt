-- Handles of a ticket lock: what each has observed of the one history, and what its critical
-- section finds and leaves. Source: this project's own.
use Rattle.std.specs.Prelude.{◌≡◌, ◌<◌, ◌≤◌, ◌⊎◌, ℕ, Bool, false, nat_eq, List, [], ◌++◌, length}
use Rattle.std.specs.Prelude.{map, filter}
use Rattle.std.specs.List.{AllByRecursion, range_with_len}
use Rattle.atomic_table.specs.Seated.{TableId}

-- which lock it is: no two locks share it
abbrev pub LockId : Type 0
LockId = TableId

-- a handle: its lock, its number and how many that lock has; whether it is inside a critical
-- section; and the history and the journal that it has observed
pub record Handle (E O : Type 0) : Type 0 where
  pub lock : LockId
  pub number : ℕ
  pub seats : ℕ
  pub inside : Bool
  pub history : List E
  pub journal : List O

-- a critical section: the lock, the handle that entered it, how long the history was that it
-- found, and the value
pub record Section (V : Type 0) : Type 0 where
  pub lock : LockId
  pub number : ℕ
  pub found : ℕ
  pub value : V

-- a handle that has observed the empty record, outside any critical section
abbrev pub new_handle : {E O : Type 0} → LockId → ℕ → ℕ → Handle E O
new_handle lock seats number = record {
  lock = lock;
  number = number;
  seats = seats;
  inside = false;
  history = [];
  journal = [];
}

-- the handles of a new lock: numbered from 0, in order
abbrev pub new_handles : {E O : Type 0} → LockId → ℕ → List (Handle E O)
new_handles lock seats = map (new_handle lock seats) (range_with_len 0 seats)

-- a list is a prefix of another
abbrev pub IsPrefix : {A : Type 0} → List A → List A → Type 0
IsPrefix {A} first whole = (more : List A) × (whole ≡ first ++ more)

-- the events of the handle with this number, in order
abbrev pub own : {E : Type 0} → (E → ℕ) → ℕ → List E → List E
own caller number events = filter (λ e. nat_eq (caller e) number) events

-- this handle entered this critical section
pub record Entered {E O V : Type 0} (h : Handle E O) (section : Section V) : Type 0 where
  pub lock : section.lock ≡ h.lock
  pub number : section.number ≡ h.number
  pub found : section.found ≡ length h.history

-- a history and a journal that continue earlier ones, by these events and operations
pub record Continues {E O : Type 0} (earlier : List E) (kept : List O) (history : List E)
    (journal : List O) : Type 0 where
  pub events : List E
  pub operations : List O
  pub history_is : history ≡ earlier ++ events
  pub journal_is : journal ≡ kept ++ operations

module _ {E O : Type 0} (caller : E → ℕ) where
  -- the record that a critical section finds: it continues the observed one, by no event of the
  -- handle's own, and each of its events was appended through a handle of this lock
  pub record Finds (h : Handle E O) (history : List E) (journal : List O) : Type 0 where
    pub later : Continues h.history h.journal history journal
    pub others : own caller h.number later.events ≡ []
    pub callers : AllByRecursion (λ e. caller e < h.seats) history

  -- the record that a critical section may leave: it continues the one found, by at most three
  -- events, each of them the handle's own
  pub record Leaves (h : Handle E O) (history : List E) (journal : List O) : Type 0 where
    pub later : Continues h.history h.journal history journal
    pub few : length later.events ≤ 3
    pub own_alone : AllByRecursion (λ e. caller e ≡ h.number) later.events

  -- what a handle has observed after it met another: the longer of the two records, which
  -- continues both, its own by no event of its own
  pub record Met (from to : Handle E O) (history : List E) (journal : List O) : Type 0 where
    pub longer : ((history ≡ from.history) × (journal ≡ from.journal))
        ⊎ ((history ≡ to.history) × (journal ≡ to.journal))
    pub later_from : Continues from.history from.journal history journal
    pub later_to : Continues to.history to.journal history journal
    pub others : own caller to.number later_to.events ≡ []
