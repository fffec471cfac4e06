-- Which boosts count for a context, and the limits of the greatest.
use Rattle.std.proofs.Common.{◌≡◌, ◌≢◌, ℕ, ◌↔◌, ◌==◌, Bool, true, false, max, List, [], ◌∷◌}
use Rattle.std.proofs.Common.{length, filter, refl, sym, lit≤}
use Rattle.std.specs.Prelude.{All, IsNone, IfSome}
use Rattle.std.specs.List.{reduce}
use Rattle.std.proofs.lemmas.List.Elements.{All-nil, All-cons, All-head, All-tail}
use Rattle.std.proofs.lemmas.List.Elements.{All-map, All-filter}
use Rattle.sg_context.specs.Boosts.{PlainQueryContext, IsBoost, matches, matching_boosts, boosts}
use Rattle.sg_context.specs.Boosts.{boost_of, IsGreatest}
use Rattle.sg_context.proofs.GreatestLemmas.{reduce-max, All-reduce_max}

-- a query context that doesn't match
abbrev Misses : List ℕ → PlainQueryContext → Type 0
Misses context q = matches context q ≡ false

-- without a boost the first doesn't match, nor do the others
none_first : (q : PlainQueryContext) (qs : List PlainQueryContext) (context : List ℕ) (b : Bool)
    → matches context q ≡ b → IsNone (reduce max (matching_boosts (q ∷ qs) context))
    → (IsNone (reduce max (matching_boosts qs context)) → All (Misses context) qs)
    → All (Misses context) (q ∷ qs)
none_first q qs context true e none later =
    absurd (let some : false ≡ true = sym (rw e at none) in cc)
none_first q qs context false e none later =
    All-cons (Misses context) q qs e (later (rw e at none))

-- without a boost none matches
none_matches : (asked : List PlainQueryContext) (context : List ℕ)
    → IsNone (reduce max (matching_boosts asked context)) → All (Misses context) asked
none_matches [] context none = All-nil (Misses context)
none_matches (q ∷ qs) context none =
    none_first q qs context (matches context q) refl none (none_matches qs context)

-- where none matches there is no boost
nothing_counts : (asked : List PlainQueryContext) (context : List ℕ)
    → All (Misses context) asked → IsNone (reduce max (matching_boosts asked context))
nothing_counts [] context all = refl
nothing_counts (q ∷ qs) context all =
    let here : matches context q ≡ false = All-head (Misses context) q qs all in
    rw here (nothing_counts qs context (All-tail (Misses context) q qs all))

-- the greatest of those that match is the greatest that counts, where something is asked for
pub greatest_counts : (asked : List PlainQueryContext) (context : List ℕ) → asked ≢ []
    → IfSome (reduce max (matching_boosts asked context)) (IsGreatest (boosts asked context))
greatest_counts [] context some = absurd (some refl)
greatest_counts (q ∷ qs) context some = reduce-max (matching_boosts (q ∷ qs) context)

-- there is none exactly where something is asked for and nothing matches
pub none_exactly : (asked : List PlainQueryContext) (context : List ℕ) → asked ≢ []
    → IsNone (reduce max (matching_boosts asked context))
    ↔ ((asked ≢ []) × All (λ q. matches context q ≡ false) asked)
none_exactly asked context some =
    (λ none. (some, none_matches asked context none), λ h. nothing_counts asked context h.1)

-- a list that has items isn't the empty one
pub not_empty : {X : Type 0} (xs : List X) → (length xs == 0) ≡ false → xs ≢ []
not_empty [] e = λ _. (cc)
not_empty (x ∷ xs) e = λ h. (cc)

-- where all boosts that are asked for are within the limits, so is that of each context
pub boost_of-IsBoost : (asked : List PlainQueryContext) (context : List ℕ)
    → All (λ q. IsBoost q.boost) asked → IfSome (boost_of asked context) IsBoost
boost_of-IsBoost [] context all = record { least = lit≤ tt; most = lit≤ tt }
boost_of-IsBoost (q ∷ qs) context all =
    All-reduce_max IsBoost (matching_boosts (q ∷ qs) context)
    (All-map IsBoost (λ x. x.boost) (filter (matches context) (q ∷ qs))
    (All-filter (matches context) (λ x. IsBoost x.boost) (q ∷ qs) all))
