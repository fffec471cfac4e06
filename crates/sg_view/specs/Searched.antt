-- What is known of a view's segments that were searched. No public clause cites it. Source: this
-- project's own.
use Rattle.std.specs.Prelude.{◌≡◌, ℕ, List, [], ◌∷◌, map, take, get_or, Option}
use Rattle.std.specs.List.{flat_map, AllByRecursion}
use Rattle.sg_base.specs.Cuts.{PlainCut}
use Rattle.sg_base.specs.Lists.{In}
use Rattle.sg_base.specs.Rows.{put_row, ranked}
use Rattle.sg_base.specs.declared.hit.Hit.{Hit}
use Rattle.sg_base.specs.declared.rank.Rank.{Rank}
use Rattle.sg_context.specs.Queries.{PlainQuery}
use Rattle.sg_answers.specs.Reports.{ViewedSegment}
use Rattle.sg_answers.specs.Closing.{Searched, IsSearched, first_cut}
use Rattle.sg_view.specs.Rows.{no_segment, HasHit, IsNumbered}
use Rattle.sg_view.specs.Viewing.{LiveSegment, seen_segment}

-- a hit of a view's segments, with its document's number
abbrev pub IsHitIn : List LiveSegment → Hit → Type 0
IsHitIn segments h = HasHit segments h × IsNumbered segments h

-- what is seen of the segment at a place
abbrev pub segment_at : List LiveSegment → ℕ → ViewedSegment
segment_at segments piece = seen_segment (get_or segments piece no_segment)

-- a segment, with the rows of its search and its truncation point
abbrev pub searched : ViewedSegment → List Rank → Option PlainCut → Searched
searched s rows cut = record { segment = s; rows = rows; cut = cut }

-- the first k rows once more rows are put, one after another
abbrev pub collected : ℕ → List Rank → List Rank → List Rank
collected k [] kept = kept
collected k (r ∷ rows) kept = collected k rows (take k (put_row r kept))

-- one segment was searched, or has no live document, and its rows were put to those that were kept
abbrev pub AddsSearch : PlainQuery → ViewedSegment → ℕ → List Rank → List Rank → Option PlainCut
    → Type 0
AddsSearch query s k old new cut =
    (rows : List Rank) × IsSearched query (searched s rows cut) × (new ≡ collected k rows old)

-- segments were searched: the kept rows are the first k of those that were put, which are the rows
-- of the searches, and the truncation point is the first of theirs
pub record HaveSearched (query : PlainQuery) (segments : List ViewedSegment) (k : ℕ)
    (rows : List Rank) (cut : Option PlainCut) : Type 0 where
  pub searches : List Searched
  pub put : List Rank
  pub of : map (λ s. s.segment) searches ≡ segments
  pub each : AllByRecursion (IsSearched query) searches
  pub from : (r : Rank) → In r put → In r (flat_map (λ s. s.rows) searches)
  pub all : (r : Rank) → In r (flat_map (λ s. s.rows) searches) → In r put
  pub kept : rows ≡ take k (ranked put)
  pub first : cut ≡ first_cut searches
