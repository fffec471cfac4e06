-- The query contexts and the number of rows of a `suggest` line. Source: the context queries of
-- Elasticsearch's completion suggester, which are a text or an object with a boost and a prefix
-- flag; the limits are this project's own.
use Rattle.std.specs.Prelude.{ℕ, Bool, false, ◌&&◌, ◌||◌, not, nat_le, nat_lt, if◌then◌else◌}
use Rattle.std.specs.Prelude.{is_none, is_some, List, [], length, codes, Option, Some, None}
use Rattle.std.specs.Prelude.{option_and_then, unwrap_or}
use Rattle.std.specs.Option.{option_map_or}
use Rattle.std.specs.List.{list_all, list_any}
use Rattle.serde_json.specs.Data.{Data, null, boolean, number, string, array, object}
use Rattle.serde_json.specs.Find.{as_bool}
use Rattle.sg_base.specs.declared.limits.TheConstants.{MOST_BOOST}
use Rattle.sg_context.specs.Boosts.{PlainQueryContext}
use Rattle.sg_context.specs.declared.limits.TheConstants.{LEAST_BOOST, DEFAULT_BOOST, LEAST_K}
use Rattle.sg_context.specs.declared.limits.TheConstants.{MOST_K}
use Rattle.sg_context.specs.declared.limits.TheConstants.{MOST_QUERY_CONTEXTS}
use Rattle.wire_json.specs.declared.limits.TheConstants.{DEFAULT_K}
use Rattle.wire_json.specs.Members.{member_of, text_of, whole_of}
use Rattle.wire_json.specs.Suggested.{has_reserved_byte, has_context_length}

-- a whole number from one to another
abbrev pub whole_within : ℕ → ℕ → Data → Option ℕ
whole_within least most d =
    option_and_then (λ n. if nat_le least n && nat_le n most then Some n else None) (whole_of d)

-- the context that is asked for: a text is its own, an object has a member
abbrev pub context_asked : Data → Option (List ℕ)
context_asked null = None
context_asked (boolean b) = None
context_asked (number n) = None
context_asked (string s) = Some s
context_asked (array ds) = None
context_asked (object ms) = text_of (codes "context") (object ms)

-- whether contexts that begin with it are asked for too, where the member is true or false; false
-- where it is absent
abbrev pub prefix_flag : Data → Option Bool
prefix_flag d = option_map_or as_bool (member_of (codes "prefix") d) (Some false)

-- the boost, where it is within its limits; 1 where it is absent
abbrev pub boost_asked : Data → Option ℕ
boost_asked d =
    option_map_or (whole_within LEAST_BOOST MOST_BOOST) (member_of (codes "boost") d)
    (Some DEFAULT_BOOST)

-- the number of rows, where it is within its limits; 5 where it is absent
abbrev pub rows_asked : Option Data → Option ℕ
rows_asked k = option_map_or (whole_within LEAST_K MOST_K) k (Some DEFAULT_K)

-- the options of a query as they are given: how many rows, and the contexts
pub record QueryOptions : Type 0 where
  pub k : Option Data
  pub contexts : List Data

-- whether the context that is asked for has a reserved byte
abbrev pub asks_for_reserved_context : Data → Bool
asks_for_reserved_context d = option_map_or has_reserved_byte (context_asked d) false

-- whether it is a query context, whatever its boost: a context of at most 63 bytes, and a prefix
-- flag, if any, that is true or false
abbrev pub is_query_context : Data → Bool
is_query_context d =
    option_map_or has_context_length (context_asked d) false && is_some (prefix_flag d)

-- whether there are over 64, or one is of a wrong kind or too long
abbrev pub query_contexts_are_wrong : List Data → Bool
query_contexts_are_wrong ds =
    nat_lt MOST_QUERY_CONTEXTS (length ds) || not (list_all is_query_context ds)

-- whether the boost that is given is out of its limits or of a wrong kind
abbrev pub has_wrong_boost : Data → Bool
has_wrong_boost d = is_none (boost_asked d)

-- the query context that is asked for, where it has no error
abbrev pub query_context_of : Data → PlainQueryContext
query_context_of d =
    record {
      context = unwrap_or (context_asked d) [];
      boost = unwrap_or (boost_asked d) DEFAULT_BOOST;
      prefix = unwrap_or (prefix_flag d) false;
    }

-- whether a context of a query has a reserved byte
abbrev pub ask_for_reserved_context : QueryOptions → Bool
ask_for_reserved_context o = list_any asks_for_reserved_context o.contexts

-- whether the contexts of a query are too many, or one is of a wrong kind or too long
abbrev pub have_wrong_contexts : QueryOptions → Bool
have_wrong_contexts o = query_contexts_are_wrong o.contexts

-- whether a boost of a query is out of its limits or of a wrong kind
abbrev pub have_wrong_boost : QueryOptions → Bool
have_wrong_boost o = list_any has_wrong_boost o.contexts

-- whether the number of rows is out of its limits or of a wrong kind
abbrev pub have_wrong_row_count : QueryOptions → Bool
have_wrong_row_count o = is_none (rows_asked o.k)
