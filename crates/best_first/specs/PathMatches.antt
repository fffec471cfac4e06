-- The matching paths of documents as a search meets them. No public clause cites it. Source:
-- Lucene's suggest.document, whose contexts lead the key; the bytes are this project's own.
use Rattle.std.specs.Int.{w32, to_be_bytes}
use Rattle.std.specs.Prelude.{ℕ, ◌*◌, suc, Bool, false, ◌&&◌, if◌then◌else◌, is_some, bytes_eq}
use Rattle.std.specs.Prelude.{Option, Some, None, map, filter, get_or, List, [], ◌∷◌, ◌++◌}
use Rattle.sg_base.specs.ByteStrings.{begins}
use Rattle.sg_base.specs.declared.rank.Rank.{Rank}
use Rattle.sg_base.specs.declared.reserved.TheConstants.{KEY_END}
use Rattle.sg_context.specs.Boosts.{boost_of}
use Rattle.sg_context.specs.Queries.{PlainQuery}
use Rattle.sg_paths.specs.AllPaths.{Entry, FullPath, all_paths}
use Rattle.sg_paths.specs.Operations.{PlainNumbered}
use Rattle.best_first.specs.Matches.{Match}
pub use Rattle.best_first.specs.Parts.{tail_of, path_tails, no_document, seq_at}
pub use Rattle.sg_answers.specs.Reports.{live_of}

-- a query, the contexts of its starts, and of each document by its place the number, and whether
-- it is live
pub record Setting : Type 0 where
  pub query : PlainQuery
  pub starts : List (List ℕ)
  pub seqs : ℕ → ℕ
  pub lives : ℕ → Bool

-- the number of a context among the starts
abbrev pub place_of : List ℕ → List (List ℕ) → ℕ
place_of c [] = 0
place_of c (x ∷ xs) = if bytes_eq c x then 0 else suc (place_of c xs)

-- a boost, where there is one
abbrev pub boost_or : Option ℕ → ℕ
boost_or None = 0
boost_or (Some b) = b

-- the bytes of a path after its context
abbrev pub bytes_of : FullPath → List ℕ
bytes_of p = p.entry.key ++ KEY_END ∷ to_be_bytes w32 p.n

-- where a path stands
abbrev pub rank_of : Setting → Entry → Rank
rank_of s e = record {
  score = e.weight * boost_or (boost_of s.query.contexts e.context);
  key = e.key;
  seq = s.seqs e.doc;
  place = e.place;
}

-- a path as a search meets it
abbrev pub match_of : Setting → FullPath → Match
match_of s p = record {
  start = place_of p.entry.context s.starts;
  bytes = bytes_of p;
  rank = rank_of s p.entry;
  live = s.lives p.entry.doc;
}

-- whether it matches the query
abbrev pub is_match : Setting → Entry → Bool
is_match s e = begins s.query.prefix e.key && is_some (boost_of s.query.contexts e.context)

-- those that match
abbrev pub all_matches : Setting → List FullPath → List Match
all_matches s ps = map (match_of s) (filter (λ p. is_match s p.entry) ps)

-- the path behind the last
abbrev pub no_path : FullPath
no_path =
    record { entry = record { context = []; key = []; weight = 0; doc = 0; place = 0 }; n = 0 }

-- the path with an ordinal, as a search meets it
abbrev pub match_at : Setting → List FullPath → ℕ → Match
match_at s ps ordinal = match_of s (get_or ps ordinal no_path)

-- whether the document at a place is live
abbrev pub live_at : List Bool → ℕ → Bool
live_at marks i = get_or marks i false

-- a query over documents with their live docs, where these contexts are its starts
abbrev pub setting_of : PlainQuery → List PlainNumbered → List (List ℕ) → List Bool → Setting
setting_of query ds starts marks = record {
  query = query;
  starts = starts;
  seqs = seq_at ds;
  lives = live_at marks;
}

-- the matching paths of documents, those of deleted ones too
abbrev pub matches_of : PlainQuery → List PlainNumbered → List (List ℕ) → List Bool → List Match
matches_of query ds starts marks = all_matches (setting_of query ds starts marks) (all_paths ds)
