-- Which contexts a query context matches, and the boost of a context. Source: the category contexts
-- of Elasticsearch's manual; that the greatest boost counts, and 1 where none is asked for, is this
-- project's own.
use Rattle.std.specs.Prelude.{ℕ, ◌≤◌, Bool, nat_eq, max, if◌then◌else◌, Option, List, [], ◌∷◌, map}
use Rattle.std.specs.Prelude.{filter, All, Contains, bytes_eq}
use Rattle.std.specs.List.{reduce, starts_with}
use Rattle.sg_base.specs.declared.limits.TheConstants.{MOST_BOOST}
use Rattle.sg_context.specs.declared.limits.TheConstants.{LEAST_BOOST, DEFAULT_BOOST}

-- a context that is asked for
pub record PlainQueryContext : Type 0 where
  pub context : List ℕ
  pub boost : ℕ
  pub prefix : Bool

-- within the limits of a boost
pub record IsBoost (boost : ℕ) : Type 0 where
  pub least : LEAST_BOOST ≤ boost
  pub most : boost ≤ MOST_BOOST

-- whether a context is the one that is asked for or, with `prefix`, begins with it
abbrev pub matches : List ℕ → PlainQueryContext → Bool
matches context q =
    if q.prefix then starts_with nat_eq context q.context else bytes_eq context q.context

-- the boosts of those that match a context
abbrev pub matching_boosts : List PlainQueryContext → List ℕ → List ℕ
matching_boosts asked context = map (λ q. q.boost) (filter (matches context) asked)

-- the boosts that count for a context: where none is asked for the default, else those that match
abbrev pub boosts : List PlainQueryContext → List ℕ → List ℕ
boosts [] context = DEFAULT_BOOST ∷ []
boosts (q ∷ qs) context = matching_boosts (q ∷ qs) context

-- the boost of a context: the greatest that counts, if one does
abbrev pub boost_of : List PlainQueryContext → List ℕ → Option ℕ
boost_of asked context = reduce max (boosts asked context)

-- one of some numbers, and none of them is greater
pub record IsGreatest (numbers : List ℕ) (n : ℕ) : Type 0 where
  pub one_of : Contains numbers n
  pub none_greater : All (λ m. m ≤ n) numbers
