-- The code's tests of query contexts, as the definitions have them.
use Rattle.fst_walk.specs.Asked.{Position, asked_of, everything, is_left_at, soonest, IsNext}
use Rattle.fst_walk.specs.Positions.{is_left, no_end}
use Rattle.fst_walk.specs.Walks.{position_by, position_of, bytes_of}
use Rattle.fst_walk.specs.declared.walk.Stage.{Stage}
use Rattle.fst_walk.specs.declared.walk.Walk.{Walk}
use Rattle.sg_base.specs.ByteStrings.{begins, is_less}
use Rattle.sg_base.specs.Contexts.{is_context}
use Rattle.sg_base.specs.Lists.{In}
use Rattle.sg_base.specs.ReservedBytes.{is_reserved}
use Rattle.sg_context.specs.Boosts.{PlainQueryContext}
use Rattle.std.proofs.Common.{◌≡◌, ◌+◌, ℕ, suc, Bool, true, false, not, ◌&&◌, ◌||◌, cond, inl, inr}
use Rattle.std.proofs.Common.{List, [], ◌∷◌, length, refl, sym, ap, ◌∙◌, subst, arith, eqb, Some}
use Rattle.std.proofs.Common.{None}
use Rattle.std.proofs.lemmas.Bool.{and_parts, eqb-true}
use Rattle.std.specs.List.{position_from}
use Rattle.std.specs.Prelude.{is_none, nat_le}
use Rattle.fst_walk.proofs.BoolLemmas.{clash, either_way}
use Rattle.fst_walk.proofs.PositionLemmas.{apart_past, left-less, past_apart, past_from}
use Rattle.fst_walk.proofs.SoonestLemmas.{IsBest, NoLater, no_later_itself, soonest_is}

not_left : (at c : List ℕ) (b : Bool) → is_left at None c ≡ b → begins at c ≡ true → b ≡ false
not_left at c true e h = absurd (clash (sym (past_apart at c e) ∙ h))
not_left at c false e h = refl

-- past all that goes on: behind the bytes, and not going on from them
past_at : (at c : List ℕ) (b : Bool) → begins at c ≡ b
    → (not b && is_less at c) ≡ is_left at None c
past_at at c true e = sym (not_left at c (is_left at None c) refl e)
past_at at c false e = either_way (is_less at c) (is_left at None c)
    (λ h. apart_past at c 0 (left-less at c ∙ h) e)
    (λ h. sym (left-less at c) ∙ past_from at c 0 h)

pub past_less : (at c : List ℕ) → (not (begins at c) && is_less at c) ≡ is_left at None c
past_less at c = past_at at c (begins at c) refl

or_true : (t : Bool) → (t || true) ≡ true
or_true true = refl
or_true false = refl

reserved_end : (b : ℕ) → eqb b 29 ≡ true → is_reserved b ≡ true
reserved_end b e = rw e (or_true (eqb b 0))

clean_byte : (b : ℕ) (bs : List ℕ) (t : Bool) → eqb b 29 ≡ t → is_reserved b ≡ false
    → no_end bs ≡ true
    → (not t && no_end bs) ≡ true
clean_byte b bs true e r n = absurd (clash (sym r ∙ reserved_end b e))
clean_byte b bs false e r n = n

-- no byte of a context ends one
clean_at : (b : ℕ) (bs : List ℕ) (n : ℕ) (t : Bool) → is_reserved b ≡ t
    → is_none (cond t (Some n) (position_from is_reserved (n + 1) bs)) ≡ true
    → (is_none (position_from is_reserved (n + 1) bs) ≡ true → no_end bs ≡ true)
    → no_end (b ∷ bs) ≡ true
clean_at b bs n true e h ih = absurd (clash h)
clean_at b bs n false e h ih = clean_byte b bs (eqb b 29) refl e (ih h)

clean_from : (bs : List ℕ) (n : ℕ) → is_none (position_from is_reserved n bs) ≡ true
    → no_end bs ≡ true
clean_from [] n h = refl
clean_from (b ∷ bs) n h = clean_at b bs n (is_reserved b) refl h (clean_from bs (n + 1))

pub context_clean : (c : List ℕ) → is_context c ≡ true → no_end c ≡ true
context_clean c h = clean_from c 0
    (and_parts (is_none (position_from is_reserved 0 c)) (nat_le (length c) 63) h).0

-- the next of those asked for
pub asked_none : (at : Position) (q : PlainQueryContext) (qs : List PlainQueryContext)
    → soonest (is_left_at at) (q ∷ qs) None ≡ None → (a : PlainQueryContext)
    → In a (asked_of (q ∷ qs)) → is_left_at at a.context ≡ false
asked_none at q qs e = subst (IsBest (is_left_at at) (q ∷ qs)) e
    (soonest_is (is_left_at at) (q ∷ qs))

pub asked_some : (at : Position) (q : PlainQueryContext) (qs : List PlainQueryContext)
    (b : PlainQueryContext)
    → soonest (is_left_at at) (q ∷ qs) None ≡ Some b → IsNext (q ∷ qs) at b
asked_some at q qs b e =
    let h = subst (IsBest (is_left_at at) (q ∷ qs)) e (soonest_is (is_left_at at) (q ∷ qs)) in
    record { member = h.0; left = h.1; least = h.2 }

only_one : (a : PlainQueryContext) → In a (everything ∷ []) → a ≡ everything
only_one a (inl e) = e
only_one a (inr h) = absurd h

pub all_none : (at : Position) → is_left_at at [] ≡ false → (a : PlainQueryContext)
    → In a (asked_of []) → is_left_at at a.context ≡ false
all_none at e a h = ap (λ (x : PlainQueryContext). is_left_at at x.context) (only_one a h) ∙ e

pub all_next : (at : Position) → is_left_at at [] ≡ true → IsNext [] at everything
all_next at e = record {
  member = inl refl;
  left = e;
  least = λ a h k. subst (NoLater everything) (sym (only_one a h)) (no_later_itself everything);
}

-- where the walk stands
pub stands_at : (w : Walk) (s : Stage) → w.stage ≡ s → position_of w ≡ position_by s (bytes_of w)
stands_at w s e = ap (λ x. position_by x (bytes_of w)) e

-- over a list that has items, or none
pub some_asked : (at : Position) (xs : List PlainQueryContext) (b : PlainQueryContext)
    → eqb (length xs) 0 ≡ false
    → Some b ≡ soonest (is_left_at at) xs None → IsNext xs at b
some_asked at [] b n e = absurd (clash (sym n))
some_asked at (q ∷ qs) b n e = asked_some at q qs b (sym e)

pub none_asked : (at : Position) (xs : List PlainQueryContext) → eqb (length xs) 0 ≡ false
    → None ≡ soonest (is_left_at at) xs None → (a : PlainQueryContext) → In a (asked_of xs)
    → is_left_at at a.context ≡ false
none_asked at [] n e = absurd (clash (sym n))
none_asked at (q ∷ qs) n e = asked_none at q qs (sym e)

suc_zero : (n : ℕ) → suc n ≡ 0 → ⊥
suc_zero n e = omega (arith, e)

pub no_items : {X : Type 0} (xs : List X) → eqb (length xs) 0 ≡ true → xs ≡ []
no_items [] e = refl
no_items (x ∷ xs) e = absurd (suc_zero (length xs) (eqb-true (suc (length xs)) 0 e))
