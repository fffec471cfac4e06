-- Which contexts a query's contexts match.
use Rattle.fst_walk.specs.Asked.{everything, asked_of}
use Rattle.fst_walk.specs.Starts.{is_asked}
use Rattle.sg_base.proofs.ByteStringLemmas.{starts_with-begins}
use Rattle.sg_base.specs.ByteStrings.{begins}
use Rattle.sg_base.specs.Lists.{In}
use Rattle.sg_context.specs.Boosts.{PlainQueryContext, matches, matching_boosts}
use Rattle.std.proofs.Common.{◌≡◌, ℕ, Bool, true, false, cond, ◌⊎◌, inl, inr, filter, map, List, []}
use Rattle.std.proofs.Common.{◌∷◌, refl, sym, ap, ◌∙◌, subst, max}
use Rattle.std.proofs.lemmas.List.{append-nil}
use Rattle.std.specs.Cmp.Lexicographic.{bytes_decides}
use Rattle.std.specs.List.{reduce}
use Rattle.std.specs.Prelude.{bytes_eq, is_some}
use Rattle.fst_walk.proofs.BoolLemmas.{clash}
use Rattle.fst_walk.proofs.BeginLemmas.{begins-append}

pub record Asks (qs : List PlainQueryContext) (c : List ℕ) : Type 0 where
  pub one : PlainQueryContext
  pub member : In one qs
  pub does : matches c one ≡ true

asks_at : (qs : List PlainQueryContext) (q : PlainQueryContext) (c : List ℕ) (b : Bool)
    → matches c q ≡ b
    → is_some (reduce max (map (λ (x : PlainQueryContext). x.boost)
    (cond b (q ∷ filter (matches c) qs) (filter (matches c) qs)))) ≡ true
    → (is_some (reduce max (map (λ (x : PlainQueryContext). x.boost) (filter (matches c) qs)))
    ≡ true → Asks qs c)
    → Asks (q ∷ qs) c
asks_at qs q c true e h ih = record { one = q; member = inl refl; does = e }
asks_at qs q c false e h ih = let r =
    ih h in record { one = r.one; member = inr r.member; does = r.does }

asks_from : (qs : List PlainQueryContext) (c : List ℕ)
    → is_some (reduce max (matching_boosts qs c)) ≡ true → Asks qs c
asks_from [] c h = absurd (clash h)
asks_from (q ∷ qs) c h = asks_at qs q c (matches c q) refl h (asks_from qs c)

pub asked_asks : (qs : List PlainQueryContext) (c : List ℕ) → is_asked qs c ≡ true
    → Asks (asked_of qs) c
asked_asks [] c h = record { one = everything; member = inl refl; does = refl }
asked_asks (q ∷ qs) c h = asks_from (q ∷ qs) c h

boosted_at : (qs : List PlainQueryContext) (q : PlainQueryContext) (c : List ℕ) (b : Bool)
    → matches c q ≡ b
    → (b ≡ true) ⊎ (is_some (reduce max (matching_boosts qs c)) ≡ true)
    → is_some (reduce max (map (λ (x : PlainQueryContext). x.boost)
    (cond b (q ∷ filter (matches c) qs) (filter (matches c) qs)))) ≡ true
boosted_at qs q c true e h = refl
boosted_at qs q c false e (inl h) = absurd (clash h)
boosted_at qs q c false e (inr h) = h

boosted : (qs : List PlainQueryContext) (q : PlainQueryContext) (c : List ℕ) → In q qs
    → matches c q ≡ true
    → is_some (reduce max (matching_boosts qs c)) ≡ true
boosted [] q c h m = absurd h
boosted (p ∷ qs) q c (inl e) m =
    boosted_at qs p c (matches c p) refl (inl (ap (matches c) (sym e) ∙ m))
boosted (p ∷ qs) q c (inr h) m = boosted_at qs p c (matches c p) refl (inr (boosted qs q c h m))

pub asked_from : (qs : List PlainQueryContext) (q : PlainQueryContext) (c : List ℕ)
    → In q (asked_of qs)
    → matches c q ≡ true → is_asked qs c ≡ true
asked_from [] q c h m = refl
asked_from (p ∷ qs) q c h m = boosted (p ∷ qs) q c h m

pub matches_prefix : (c : List ℕ) (q : PlainQueryContext) → q.prefix ≡ true
    → matches c q ≡ begins q.context c
matches_prefix c q e = rw e (starts_with-begins q.context c)

pub matches_exact : (c : List ℕ) (q : PlainQueryContext) → q.prefix ≡ false
    → matches c q ≡ bytes_eq c q.context
matches_exact c q e = rw e refl

equal_begins : (c e : List ℕ) → c ≡ e → begins e c ≡ true
equal_begins c e h = subst (λ z. begins z c ≡ true) h
    (subst (λ z. begins c z ≡ true) (append-nil c) (begins-append c []))

begun_at : (c : List ℕ) (q : PlainQueryContext) (b : Bool) → q.prefix ≡ b → matches c q ≡ true
    → begins q.context c ≡ true
begun_at c q true e m = sym (matches_prefix c q e) ∙ m
begun_at c q false e m = equal_begins c q.context
    ((bytes_decides c q.context).0 (sym (matches_exact c q e) ∙ m))

-- what matches begins with what is asked for
pub matches_begins : (c : List ℕ) (q : PlainQueryContext) → matches c q ≡ true
    → begins q.context c ≡ true
matches_begins c q m = begun_at c q q.prefix refl m

pub matches_same : (c : List ℕ) (q : PlainQueryContext) → q.prefix ≡ false → matches c q ≡ true
    → c ≡ q.context
matches_same c q e m = (bytes_decides c q.context).0 (sym (matches_exact c q e) ∙ m)
