-- The start nodes of a query: the contexts that match, under which a key begins with the prefix.
-- Source: Lucene's ContextQuery, whose contexts and prefix make one automaton; that they come in
-- ascending order, and their budget of steps, are this project's own.
use Rattle.std.specs.Prelude.{ℕ, ◌≡◌, ◌≤◌, ◌+◌, ◌*◌, Bool, ◌==◌, cond, is_some, bytes_eq, filter}
use Rattle.std.specs.Prelude.{Option, List, [], ◌∷◌, ◌++◌, length}
use Rattle.std.specs.List.{AllByRecursion}
use Rattle.sg_base.specs.declared.reserved.TheConstants.{CONTEXT_END}
use Rattle.sg_base.specs.declared.limits.TheConstants.{MOST_CONTEXT_BYTES}
use Rattle.sg_base.specs.ByteStrings.{is_less}
use Rattle.sg_context.specs.Boosts.{PlainQueryContext, boost_of}
use Rattle.sg_context.specs.Queries.{PlainQuery}
use Rattle.fst_code.specs.Tails.{Tail}
use Rattle.fst_walk.specs.Fronts.{is_front}
use Rattle.fst_walk.specs.Positions.{is_left}

-- the bytes before the one that ends the context
abbrev pub context_of : List ℕ → List ℕ
context_of [] = []
context_of (b ∷ bs) = cond (b == CONTEXT_END) [] (b ∷ context_of bs)

-- a path begins with a context of at most 63 bytes and the byte that ends it
pub record HasContext (bytes : List ℕ) : Type 0 where
  pub rest : List ℕ
  pub is : bytes ≡ context_of bytes ++ CONTEXT_END ∷ rest
  pub fits : length (context_of bytes) ≤ MOST_CONTEXT_BYTES

-- each path does
abbrev pub AllHaveContexts : List Tail → Type 0
AllHaveContexts ts = AllByRecursion (λ (t : Tail). HasContext t.0) ts

-- the context, where it isn't there yet, among others in ascending order
abbrev pub put_context : List ℕ → List (List ℕ) → List (List ℕ)
put_context c [] = c ∷ []
put_context c (x ∷ xs) =
    cond (bytes_eq c x) (x ∷ xs) (cond (is_less c x) (c ∷ (x ∷ xs)) (x ∷ put_context c xs))

-- the different contexts of paths, in ascending order, bytewise
abbrev pub contexts_in : List Tail → List (List ℕ)
contexts_in [] = []
contexts_in (t ∷ ts) = put_context (context_of t.0) (contexts_in ts)

-- whether one of a query's contexts matches it
abbrev pub is_asked : List PlainQueryContext → List ℕ → Bool
is_asked asked c = is_some (boost_of asked c)

-- the contexts of paths that match, in ascending order
abbrev pub matching_contexts : List Tail → PlainQuery → List (List ℕ)
matching_contexts ts q = filter (is_asked q.contexts) (contexts_in ts)

-- those of them under which a key begins with the prefix, in ascending order
abbrev pub start_contexts : List Tail → PlainQuery → List (List ℕ)
start_contexts ts q =
    filter (λ c. is_front ts (c ++ CONTEXT_END ∷ q.prefix)) (matching_contexts ts q)

-- those of them that are left at a position
abbrev pub left_starts : List Tail → PlainQuery → List ℕ → Option ℕ → List (List ℕ)
left_starts ts q at from = filter (is_left at from) (start_contexts ts q)

-- the sum of f over a list
abbrev pub total : {X : Type 0} → (X → ℕ) → List X → ℕ
total f [] = 0
total f (x ∷ xs) = f x + total f xs

-- The most steps that all starts of a query take: twice the bytes of each context that matches,
-- its end, the prefix and one more, and twice those of each query context and its end.
abbrev pub most_steps : List Tail → PlainQuery → ℕ
most_steps ts q =
    2 * total (λ (c : List ℕ). length c + length q.prefix + 2) (matching_contexts ts q)
    + 2 * total (λ (a : PlainQueryContext). length a.context + 1) q.contexts
