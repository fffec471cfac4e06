-- What the scan finds on its way to the answer. No public clause cites it. Source: this project's
-- own.
use Rattle.std.specs.Prelude.{ℕ, max, List, [], ◌∷◌, Option, Some, None, filter_map}
use Rattle.std.specs.Prelude.{◌==◌, if◌then◌else◌}
use Rattle.std.specs.List.{reduce}
use Rattle.std.specs.Ordering.{ord_min}
use Rattle.sg_base.specs.declared.rank.Rank.{Rank}
use Rattle.std.specs.declared.cmp.Ordering.{Ordering}
use Rattle.sg_context.specs.Boosts.{PlainQueryContext, boost_of}
use Rattle.sg_context.specs.Queries.{PlainQuery}
use Rattle.sg_paths.specs.Documents.{PlainSuggestion}
use Rattle.sg_paths.specs.Operations.{PlainNumbered}
use Rattle.sg_paths.specs.Paths.{entries_from}
use Rattle.sg_answers.specs.Answers.{path_rank, first_rank}

-- of two that there may be, the one that stands first
abbrev pub sooner : {X : Type 0} → (X → X → Ordering) → Option X → Option X → Option X
sooner cmp None other = other
sooner cmp (Some x) None = Some x
sooner cmp (Some x) (Some y) = Some (ord_min cmp x y)

-- a suggestion's contexts as they are given: one that is given twice stands there twice
abbrev pub given_contexts : List (List ℕ) → List (List ℕ)
given_contexts [] = [] ∷ []
given_contexts (text ∷ texts) = text ∷ texts

-- the greatest boost of some contexts, if one has a boost
abbrev pub greatest_boost : List PlainQueryContext → List (List ℕ) → Option ℕ
greatest_boost asked texts = reduce max (filter_map (boost_of asked) texts)

-- the first by rank of all that suggestions have in their contexts, also of what isn't kept
abbrev pub first_entry : PlainQuery → ℕ → ℕ → List PlainSuggestion → Option Rank
first_entry query seq place suggestions =
    first_rank (filter_map (path_rank query seq) (entries_from place suggestions))

-- a document, where it has the number
abbrev pub if_numbered : ℕ → Option PlainNumbered → Option PlainNumbered
if_numbered n None = None
if_numbered n (Some d) = if d.seq == n then Some d else None
