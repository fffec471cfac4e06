-- A search of a segment's documents on the way to a path's end, between two paths, and at its end.
-- No public clause cites it. Source: this project's own.
use Rattle.std.specs.Prelude.{ℕ, ◌≡◌, Bool, true, List, map, Option}
use Rattle.sg_base.specs.ByteStrings.{lacks}
use Rattle.sg_base.specs.Cuts.{PlainCut}
use Rattle.sg_base.specs.declared.hit.Hit.{Hit}
use Rattle.sg_base.specs.declared.node.Edge.{Edge}
use Rattle.sg_base.specs.declared.rank.Rank.{Rank}
use Rattle.sg_base.specs.declared.reserved.TheConstants.{KEY_END}
use Rattle.sg_context.specs.Queries.{PlainQuery, IsQuery}
use Rattle.sg_paths.specs.AllPaths.{all_paths}
use Rattle.sg_paths.specs.Operations.{PlainNumbered}
use Rattle.sg_answers.specs.Reports.{ViewedSegment, IsSearch}
use Rattle.fst_code.specs.Lists.{root_paths}
use Rattle.fst_walk.specs.Starts.{start_contexts}
use Rattle.path_desk.specs.declared.entry.Entry.{Entry}
use Rattle.path_desk.specs.Desks.{PlainDesk}
use Rattle.collector.specs.Tops.{closed}
use Rattle.best_first.specs.Matches.{Match}
use Rattle.best_first.specs.Met.{IsMet}
use Rattle.best_first.specs.Parts.{AreDocuments, IsMapping}
use Rattle.best_first.specs.PathMatches.{Setting, all_matches, setting_of}
use Rattle.best_first.specs.Roots.{AreRoots}
use Rattle.best_first.specs.Searches.{Searches}
use Rattle.best_first.specs.Segments.{Follows, Between}

-- while a path is followed, at an entry
pub record FollowsPath (s : Setting) (nodes : List (List Edge)) (ds : List PlainNumbered)
    (reached : List Match) (d : PlainDesk) (e : Entry) : Type 0 where
  pub searches : Searches s nodes ds
  pub follows : Follows (all_matches s (all_paths ds)) (IsMet s nodes) reached d e

-- the contexts of a query's starts
abbrev pub starts_of : List (List Edge) → PlainQuery → List (List ℕ)
starts_of nodes query = start_contexts (root_paths nodes) query

-- a query over documents with their live docs, by the starts that the nodes give it
abbrev pub setting : PlainQuery → List (List Edge) → List PlainNumbered → List Bool → Setting
setting query nodes ds marks = setting_of query ds (starts_of nodes query) marks

-- a search of a query has begun: what it relies on, and the entries of the starts
pub record HasBegun (query : PlainQuery) (nodes : List (List Edge)) (ds : List PlainNumbered)
    : Type 0 where
  pub documents : AreDocuments ds
  pub mapping : IsMapping nodes ds
  pub is_query : IsQuery query
  pub key : lacks KEY_END query.prefix ≡ true
  pub roots : List Entry
  pub are_roots : AreRoots query nodes 0 (starts_of nodes query) roots

-- between two paths: the kept rows are the first of those reached
abbrev pub BetweenPaths : PlainQuery → List (List Edge) → List PlainNumbered → List Bool
    → List Match → ℕ → PlainDesk → List Rank → Type 0
BetweenPaths query nodes ds marks reached k d rows =
    Between (all_matches (setting query nodes ds marks) (all_paths ds))
    (IsMet (setting query nodes ds marks) nodes) reached k d rows

-- what a collector of these hits reports with a truncation point is the search of a segment
abbrev pub ClosesAs : PlainQuery → ViewedSegment → ℕ → (Hit → Rank) → List Hit → Option PlainCut
    → Type 0
ClosesAs query s k row hits cut =
    IsSearch query s (map row (closed k row hits cut).hits) (closed k row hits cut).cut
