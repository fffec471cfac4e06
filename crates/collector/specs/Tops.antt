-- A collector as plain data, and the report that it gives. Source: after Lucene's
-- TopSuggestDocsCollector; what a truncation point leaves is this project's own.
use Rattle.std.specs.Prelude.{ℕ, ◌≡◌, nat_le, if◌then◌else◌, Option, Some, None}
use Rattle.std.specs.Prelude.{List, ◌∷◌, filter, length, take}
use Rattle.sg_base.specs.Cuts.{PlainCut, precedes}
use Rattle.sg_base.specs.Ranking.{IsRanking}
use Rattle.sg_base.specs.declared.hit.Hit.{Hit}
use Rattle.sg_base.specs.declared.rank.Rank.{Rank}
use Rattle.sg_base.specs.Rows.{put_row, ranked}

-- the kept hits, how many are kept at most, and how many places there are
pub record PlainTop : Type 0 where
  pub hits : List Hit
  pub k : ℕ
  pub places : ℕ

-- one row more: where the kept ones were the first k of all that were put, they are so afterwards
abbrev pub StaysFirst : ℕ → Rank → List Rank → List Rank → Type 0
StaysFirst k row old new =
    (all : List Rank) → old ≡ take k (ranked all) → new ≡ take k (ranked (row ∷ all))

-- the hits whose rows precede a truncation point
abbrev pub preceding : PlainCut → (Hit → Rank) → List Hit → List Hit
preceding cut row hits = filter (λ h. precedes cut (row h)) hits

-- the rows of a report, and its truncation point where it isn't complete
pub record PlainReport : Type 0 where
  pub hits : List Hit
  pub cut : Option PlainCut

-- it is made of these
abbrev pub report : List Hit → Option PlainCut → PlainReport
report hits cut = record { hits = hits; cut = cut }

-- the report of kept hits: complete where there is no truncation point or k of them precede it,
-- else those that precede it, with it
abbrev pub closed : ℕ → (Hit → Rank) → List Hit → Option PlainCut → PlainReport
closed k row hits None = report hits None
closed k row hits (Some cut) =
    let first = preceding cut row hits in
    if nat_le k (length first) then report hits None else report first (Some cut)

-- what `ranked` gives is the ranking, and no other list is; of the rows before, its first k depend
-- on the first k alone
pub record AreRankings : Type 0 where
  pub ranking : (all : List Rank) → IsRanking (ranked all) all
  pub only : (rows all : List Rank) → IsRanking rows all → rows ≡ ranked all
  pub first : (k : ℕ) (r : Rank) (all : List Rank)
      → take k (put_row r (take k (ranked all))) ≡ take k (ranked (r ∷ all))
