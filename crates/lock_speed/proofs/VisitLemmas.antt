-- What a visit or a look leaves, and the handles of a new lock.
use Rattle.std.proofs.Common.{◌≡◌, ◌<◌, ◌≤◌, ◌+◌, ℕ, List, [], ◌∷◌, ◌++◌, length, map, Result, Ok, Err}
use Rattle.std.proofs.Common.{refl, sym, ap, ◌∙◌, subst, arith}
use Rattle.std.specs.Prelude.{IfOk, OnErr, slice_index_or}
use Rattle.std.specs.List.{range_with_len}
use Rattle.std.proofs.lemmas.List.{append-nil}
use Rattle.std.proofs.lemmas.List.FromFn.{length-map-range_with_len, get_or-map-range_with_len}
use Rattle.turn_lock.specs.Handles.{LockId, Handle, Leaves, new_handle, new_handles}
use Rattle.lock_speed.specs.Visiting.{IsOutside}

-- a look leaves all as it was
pub leaves_all : (h : Handle ℕ ℕ) (found : List ℕ) → h.journal ≡ [] → found ≡ h.history
    → Leaves (λ caller. caller) h found []
leaves_all h found empty same = record {
  later = record {
    events = [];
    operations = [];
    history_is = same ∙ sym (append-nil h.history);
    journal_is = sym (append-nil h.journal ∙ empty);
  };
  few = omega arith;
  own_alone = tt;
}

-- a visit appends the handle's number, or nothing
pub leaves_one : {A E : Type 0} (r : Result A E) (h : Handle ℕ ℕ) (found now : List ℕ) (n : ℕ)
    → h.journal ≡ [] → found ≡ h.history → n ≡ h.number → IfOk r (λ _. now ≡ found ++ n ∷ [])
    → OnErr r (now ≡ found) → Leaves (λ caller. caller) h now []
leaves_one (Ok a) h found now n empty same mine ok err = record {
  later = record {
    events = n ∷ [];
    operations = [];
    history_is = ok ∙ ap (λ (xs : List ℕ). xs ++ n ∷ []) same;
    journal_is = sym (append-nil h.journal ∙ empty);
  };
  few = omega arith;
  own_alone = (mine, tt);
}
leaves_one (Err e) h found now n empty same mine ok err =
    leaves_all h now empty (err ∙ same)

-- each handle of a new lock is outside
pub new_outside : (lock : LockId) (seats : ℕ) (handles : List (Handle ℕ ℕ))
    → handles ≡ new_handles lock seats → (k : ℕ) (h : Handle ℕ ℕ) → k < length handles
    → IsOutside lock (slice_index_or handles k h)
new_outside lock seats handles are k h small =
    let make : ℕ → Handle ℕ ℕ = new_handle lock seats in
    let long : length handles ≡ seats = ap length are ∙ length-map-range_with_len make 0 seats in
    let is : slice_index_or handles k h ≡ make k =
    ap (λ (hs : List (Handle ℕ ℕ)). slice_index_or hs k h) are
    ∙ get_or-map-range_with_len make 0 seats k k h (omega arith) (omega arith) in
    subst (IsOutside lock) (sym is) (record { at = refl; outside = refl })
