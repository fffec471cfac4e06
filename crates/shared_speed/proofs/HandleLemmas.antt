-- The handles of a new index.
use Rattle.std.proofs.Common.{◌≡◌, ℕ, List, length, refl, sym, ap, ◌∙◌, subst, arith}
use Rattle.std.specs.Prelude.{slice_index_or}
use Rattle.std.proofs.lemmas.List.FromFn.{length-map-range_with_len, get_or-map-range_with_len}
use Rattle.turn_lock.specs.Handles.{LockId, new_handle, new_handles}
use Rattle.index_shared.specs.Sections.{HandleState, IsAt}
use Rattle.shared_speed.specs.Sharing.{AreAt}

pub new_are_at : (index : LockId) (seats : ℕ) (handles : List HandleState)
    → handles ≡ new_handles index seats → AreAt index handles
new_are_at index seats handles are k h small =
    let make : ℕ → HandleState = new_handle index seats in
    let long : length handles ≡ seats = ap length are ∙ length-map-range_with_len make 0 seats in
    let is : slice_index_or handles k h ≡ make k =
    ap (λ (hs : List HandleState). slice_index_or hs k h) are
    ∙ get_or-map-range_with_len make 0 seats k k h (omega arith) (omega arith) in
    subst (IsAt index) (sym is) (refl, refl)
