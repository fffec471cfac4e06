-- A view that a handle has begun is among those that it has open, as a ticket and once it is built.
use Rattle.std.proofs.Common.{◌≡◌, ℕ, List, [], ◌∷◌, ◌++◌, refl, sym, ap, subst, arith}
use Rattle.std.specs.Prelude.{Contains}
use Rattle.std.proofs.lemmas.List.Elements.{Contains-append_right}
use Rattle.segment.specs.Views.{PlainParts}
use Rattle.sg_view.specs.Viewing.{PlainView, IsViewOf}
use Rattle.index_core.specs.Histories.{View}
use Rattle.index_core.specs.OpenViews.{view_of}
use Rattle.index_shared.specs.Sections.{HandleState, IsSameHandle, seen_by}
use Rattle.index_shared.specs.OwnViews.{open_by, view_in}
use Rattle.index_shared.proofs.OwnViewLemmas.{view_in-view_of}

-- the open views of a handle
abbrev views : HandleState → List View
views h = open_by h.number (seen_by h)

pub ticket_is_open : (old new : HandleState) (parts : PlainParts) → IsSameHandle old new
    → open_by old.number (seen_by new) ≡ views old ++ view_of old.number parts ∷ []
    → Contains (views new) (view_of new.number parts)
ticket_is_open old new parts same opened =
    let number : new.number ≡ old.number = ap (λ (h : HandleState). h.number) same in
    let last = Contains-append_right (views old) (view_of old.number parts ∷ [])
    (view_of old.number parts) (0, omega arith, refl) in
    subst (λ (n : ℕ). Contains (open_by n (seen_by new)) (view_of n parts)) (sym number)
    (subst (λ (vs : List View). Contains vs (view_of old.number parts)) (sym opened) last)

pub view_is_open : (old new : HandleState) (ticket : PlainParts) (v : PlainView)
    → IsSameHandle old new
    → open_by old.number (seen_by new) ≡ views old ++ view_of old.number ticket ∷ []
    → IsViewOf ticket v → Contains (views new) (view_in new.number v)
view_is_open old new ticket v same opened is =
    subst (λ (w : View). Contains (views new) w) (sym (view_in-view_of new.number ticket v is))
    (ticket_is_open old new ticket same opened)

-- a view that was built and taken apart
pub parts_are_open : (old new : HandleState) (ticket parts : PlainParts) (v : PlainView)
    → IsSameHandle old new
    → open_by old.number (seen_by new) ≡ views old ++ view_of old.number ticket ∷ []
    → IsViewOf ticket v → parts.number ≡ v.number → parts.upto ≡ v.upto
    → parts.generations ≡ v.generations → Contains (views new) (view_of new.number parts)
parts_are_open old new ticket parts v same opened is number upto generations =
    let built : view_of new.number parts ≡ view_in new.number v =
    rw (number, upto, generations) refl in
    subst (λ (w : View). Contains (views new) w) (sym built)
    (view_is_open old new ticket v same opened is)
