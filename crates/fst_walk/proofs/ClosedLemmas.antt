-- What stays matched from one query context to the next.
use Rattle.fst_walk.specs.Asked.{asked_of, Position, is_left_at, Meets, Closed, IsNext}
use Rattle.fst_walk.specs.Positions.{is_left}
use Rattle.fst_walk.specs.Starts.{is_asked}
use Rattle.sg_base.specs.ByteStrings.{begins, is_less}
use Rattle.sg_base.specs.Lists.{In}
use Rattle.sg_context.specs.Boosts.{PlainQueryContext, matches}
use Rattle.std.proofs.Common.{◌≡◌, ℕ, Bool, true, false, ◌&&◌, ◌⊎◌, inl, inr, List, [], ◌∷◌, refl}
use Rattle.std.proofs.Common.{sym, ap, ◌∙◌, subst, eqb, eq-eqb, eqb-true, Some, None}
use Rattle.std.specs.Cmp.Lexicographic.{bytes_decides}
use Rattle.fst_walk.proofs.BoolLemmas.{clash, not_both}
use Rattle.fst_walk.proofs.BeginLemmas.{begins_itself, begins_trans}
use Rattle.fst_walk.proofs.PositionLemmas.{apart_past, left-less, left_longer, left_trans}
use Rattle.fst_walk.proofs.PositionLemmas.{not_behind_itself, past_apart, past_from}
use Rattle.fst_walk.proofs.AskedLemmas.{asked_asks, asked_from, matches_begins, matches_exact}
use Rattle.fst_walk.proofs.AskedLemmas.{matches_prefix, matches_same}

-- at the beginning all is behind
pub closed_first : (asked : List PlainQueryContext) → Closed asked None
closed_first asked = λ c b a. let r = asked_asks asked c a in
    record { one = r.one; member = r.member; does = r.does; left = refl }

-- what is behind what is behind is behind
pub left_at_trans : (at : Position) (g c : List ℕ) → is_left_at at g ≡ true
    → is_left g (Some 0) c ≡ true
    → is_left_at at c ≡ true
left_at_trans None g c h k = refl
left_at_trans (Some p) g c h k = left_trans p.0 g c p.1 h k

begins_or_more : (x y : ℕ) (p c : List ℕ) → x ≡ y → (c ≡ p) ⊎ (is_left p (Some 0) c ≡ true)
    → (y ∷ c ≡ x ∷ p) ⊎ (is_left (x ∷ p) (Some 0) (y ∷ c) ≡ true)
begins_or_more x y p c e (inl k) = inl (ap (λ z. z ∷ c) (sym e) ∙ ap (λ zs. x ∷ zs) k)
begins_or_more x y p c e (inr k) = inr (rw (eq-eqb y x (sym e)) k)

-- a context that is behind, and matches, is the next query context or behind it
begins_or_at : (x y : ℕ) (p c : List ℕ) (t : Bool) → eqb x y ≡ t
    → (begins p c ≡ true → (c ≡ p) ⊎ (is_left p (Some 0) c ≡ true))
    → (t && begins p c) ≡ true → (y ∷ c ≡ x ∷ p) ⊎ (is_left (x ∷ p) (Some 0) (y ∷ c) ≡ true)
begins_or_at x y p c true e ih h = begins_or_more x y p c (eqb-true x y e) (ih h)
begins_or_at x y p c false e ih h = absurd (clash h)

pub begins_or : (p c : List ℕ) → begins p c ≡ true → (c ≡ p) ⊎ (is_left p (Some 0) c ≡ true)
begins_or [] [] h = inl refl
begins_or [] (y ∷ c) h = inr (left-less [] (y ∷ c))
begins_or (x ∷ p) [] h = absurd (clash h)
begins_or (x ∷ p) (y ∷ c) h = begins_or_at x y p c (eqb x y) refl (begins_or p c) h

on_or : (b : PlainQueryContext) (c : List ℕ) (a : PlainQueryContext) → matches c a ≡ true
    → (is_less b.context a.context ≡ true)
    ⊎ ((a.context ≡ b.context) × (b.prefix ≡ false → a.prefix ≡ false))
    → (c ≡ b.context) ⊎ (is_left b.context (Some 0) c ≡ true)
on_or b c a m (inl l) =
    inr (left_longer b.context a.context c (Some 0) (left-less b.context a.context ∙ l)
    (matches_begins c a m))
on_or b c a m (inr e) =
    begins_or b.context c (subst (λ z. begins z c ≡ true) e.0 (matches_begins c a m))

pub next_or : (asked : List PlainQueryContext) (at : Position) (b : PlainQueryContext)
    → Closed asked at
    → IsNext asked at b → (c : List ℕ) → is_left_at at c ≡ true → is_asked asked c ≡ true
    → (c ≡ b.context) ⊎ (is_left b.context (Some 0) c ≡ true)
next_or asked at b closed next c h a =
    let m = closed c h a in on_or b c m.one m.does (next.least m.one m.member m.left)

-- after an exact one
closed_exact_at : (asked : List PlainQueryContext) (b : PlainQueryContext) (c : List ℕ)
    (a : PlainQueryContext) → In a (asked_of asked)
    → matches c a ≡ true → b.prefix ≡ false → is_left b.context (Some 0) c ≡ true
    → (is_less b.context a.context ≡ true)
    ⊎ ((a.context ≡ b.context) × (b.prefix ≡ false → a.prefix ≡ false))
    → Meets asked (Some (b.context, Some 0)) c
closed_exact_at asked b c a i m e h (inl l) =
    record { one = a; member = i; does = m; left = left-less b.context a.context ∙ l }
closed_exact_at asked b c a i m e h (inr k) =
    let same : c ≡ b.context = matches_same c a (k.1 e) m ∙ k.0 in
    absurd (not_both (is_left b.context (Some 0) c) h
    (ap (is_left b.context (Some 0)) same ∙ not_behind_itself b.context))

pub closed_exact : (asked : List PlainQueryContext) (at : Position) (b : PlainQueryContext)
    → Closed asked at
    → IsNext asked at b → b.prefix ≡ false → Closed asked (Some (b.context, Some 0))
closed_exact asked at b closed next e = λ c h a.
    let m = closed c (left_at_trans at b.context c next.left h) a in
    closed_exact_at asked b c m.one m.member m.does e h (next.least m.one m.member m.left)

apart_begins : (p r c : List ℕ) (t : Bool) → begins p r ≡ t → begins r c ≡ true → begins p c ≡ false
    → t ≡ false
apart_begins p r c true e h k = absurd (not_both (begins p c) (begins_trans p r c e h) k)
apart_begins p r c false e h k = refl

-- after one with all that begins so
closed_prefix_at : (asked : List PlainQueryContext) (b : PlainQueryContext) (c : List ℕ)
    (a : PlainQueryContext) → In a (asked_of asked)
    → matches c a ≡ true → is_left b.context None c ≡ true
    → (is_less b.context a.context ≡ true)
    ⊎ ((a.context ≡ b.context) × (b.prefix ≡ false → a.prefix ≡ false))
    → Meets asked (Some (b.context, None)) c
closed_prefix_at asked b c a i m h (inl l) =
    record {
      one = a;
      member = i;
      does = m;
      left = apart_past b.context a.context 0 (left-less b.context a.context ∙ l)
          (apart_begins b.context a.context c (begins b.context a.context) refl
          (matches_begins c a m) (past_apart b.context c h));
    }
closed_prefix_at asked b c a i m h (inr k) =
    absurd (not_both (begins b.context c)
    (subst (λ z. begins z c ≡ true) k.0 (matches_begins c a m)) (past_apart b.context c h))

pub closed_prefix : (asked : List PlainQueryContext) (at : Position) (b : PlainQueryContext)
    → Closed asked at
    → IsNext asked at b → Closed asked (Some (b.context, None))
closed_prefix asked at b closed next = λ c h a.
    let l : is_left b.context (Some 0) c ≡ true = past_from b.context c 0 h in
    let m = closed c (left_at_trans at b.context c next.left l) a in
    closed_prefix_at asked b c m.one m.member m.does h (next.least m.one m.member m.left)

asks_itself_at : (b : PlainQueryContext) (t : Bool) → b.prefix ≡ t → matches b.context b ≡ true
asks_itself_at b true e = matches_prefix b.context b e ∙ begins_itself b.context
asks_itself_at b false e = matches_exact b.context b e ∙ (bytes_decides b.context b.context).1 refl

pub asks_itself : (asked : List PlainQueryContext) (b : PlainQueryContext) → In b (asked_of asked)
    → is_asked asked b.context ≡ true
asks_itself asked b h = asked_from asked b b.context h (asks_itself_at b b.prefix refl)
