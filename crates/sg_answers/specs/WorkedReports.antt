-- Worked values of queue sizes, truncation points and reports. Source: this project's own.
use Rattle.std.specs.Prelude.{◌≡◌, ℕ, true, false, Some, None, List, [], ◌∷◌, map, codes}
use Rattle.std.specs.Prelude.{length}
use Rattle.sg_base.specs.Cuts.{PlainCut, precedes}
use Rattle.sg_base.specs.declared.rank.Rank.{Rank}
use Rattle.sg_context.specs.Queries.{PlainQuery}
use Rattle.sg_paths.specs.Documents.{PlainSuggestion}
use Rattle.sg_paths.specs.Operations.{PlainNumbered}
use Rattle.sg_answers.specs.Reports.{ViewedSegment, most_paths, queue_size_of, queue_size}
use Rattle.sg_answers.specs.Reports.{IsReport, IsSoundOver}
use Rattle.sg_answers.specs.Reports.{matching, asked_contexts, IsSpent, IsSearch}
use Rattle.sg_answers.specs.Closing.{Searched, first_cut, kept_rows, closed_rows, closed_cut}

-- a suggestion
abbrev suggestion : List ℕ → ℕ → List (List ℕ) → PlainSuggestion
suggestion key weight contexts =
    record { text = key; key = key; weight = weight; contexts = contexts }

-- a document with these suggestions
abbrev document : ℕ → List PlainSuggestion → PlainNumbered
document seq suggestions =
    record { seq = seq; document = record { id = codes "d"; suggestions = suggestions } }

-- a row of the first suggestion of a document
abbrev row : ℕ → List ℕ → ℕ → Rank
row score key seq = record { score = score; key = key; seq = seq; place = 0 }

-- a truncation point of a generation whose queue holds so many
abbrev pub cut_at : ℕ → List ℕ → ℕ → ℕ → PlainCut
cut_at score key generation room =
    record { score = score; key = key; generation = generation; room = room }

-- the first row for a prefix, in any context
abbrev pub first_of : List ℕ → PlainQuery
first_of prefix = record { prefix = prefix; contexts = []; k = 1 }

-- ---- one context, equal keys: of twelve documents the last is live

-- the documents
abbrev twelve : List PlainNumbered
twelve =
    map (λ n. document n (suggestion (codes "oy") 1 [] ∷ []))
    (1 ∷ 2 ∷ 3 ∷ 4 ∷ 5 ∷ 6 ∷ 7 ∷ 8 ∷ 9 ∷ 10 ∷ 11 ∷ 12 ∷ [])

-- the last
abbrev twelfth : PlainNumbered
twelfth = document 12 (suggestion (codes "oy") 1 [] ∷ [])

-- their segment
abbrev mostly_deleted : ViewedSegment
mostly_deleted = record { generation = 1; documents = twelve; live = twelfth ∷ [] }

-- what a search of it finds, and what it doesn't
pub record FindsTheLastOfTwelve : Type 0 where
  pub queue : queue_size 1 mostly_deleted ≡ 12
  pub all_match : length (matching (first_of (codes "oy")) twelve) ≡ 12
  pub complete : IsSearch (first_of (codes "oy")) mostly_deleted (row 1 (codes "oy") 12 ∷ []) None
  pub no_row : IsSearch (first_of (codes "oy")) mostly_deleted [] None → ⊥
  pub truncated :
      IsSearch (first_of (codes "oy")) mostly_deleted []
      (Some (cut_at 1 (codes "oy") 1 12)) → ⊥

-- ---- two contexts, one score: the lesser key is in the second

-- in two documents with one path each
abbrev tied : List PlainNumbered
tied =
    document 1 (suggestion (codes "abz") 5 (codes "a" ∷ []) ∷ [])
    ∷ document 2 (suggestion (codes "abc") 5 (codes "b" ∷ []) ∷ []) ∷ []

-- whose queue holds one path
abbrev pub narrow : ViewedSegment
narrow = record { generation = 3; documents = tied; live = tied }

-- the two, and a third one that is deleted
abbrev tied_beside_deleted : List PlainNumbered
tied_beside_deleted =
    document 1 (suggestion (codes "abz") 5 (codes "a" ∷ []) ∷ [])
    ∷ document 2 (suggestion (codes "abc") 5 (codes "b" ∷ []) ∷ [])
    ∷ document 3 (suggestion (codes "zzz") 5 [] ∷ []) ∷ []

-- whose queue holds two
abbrev pub wide : ViewedSegment
wide = record { generation = 3; documents = tied_beside_deleted; live = tied }

-- what a search of it finds, and what it doesn't
pub record BreaksATieAcrossContexts : Type 0 where
  pub queues : (queue_size 1 narrow ≡ 1) × (queue_size 1 wide ≡ 2)
  pub contexts : asked_contexts (first_of (codes "ab")) tied ≡ codes "a" ∷ codes "b" ∷ []
  pub truncated :
      IsSearch (first_of (codes "ab")) narrow [] (Some (cut_at 5 (codes "ab") 3 1))
  pub complete : IsSearch (first_of (codes "ab")) wide (row 5 (codes "abc") 2 ∷ []) None
  pub the_greater_key :
      IsSearch (first_of (codes "ab")) narrow (row 5 (codes "abz") 1 ∷ []) None → ⊥
  pub a_row_behind :
      IsSearch (first_of (codes "ab")) narrow (row 5 (codes "abz") 1 ∷ [])
      (Some (cut_at 5 (codes "ab") 3 1)) → ⊥
  pub another_room :
      IsSearch (first_of (codes "ab")) narrow [] (Some (cut_at 5 (codes "ab") 3 2)) → ⊥
  pub another_generation :
      IsSearch (first_of (codes "ab")) narrow [] (Some (cut_at 5 (codes "ab") 4 1)) → ⊥
  pub before_the_prefix :
      IsSearch (first_of (codes "ab")) narrow [] (Some (cut_at 5 (codes "a") 3 1)) → ⊥
  pub no_path_there :
      IsSearch (first_of (codes "ab")) narrow [] (Some (cut_at 5 (codes "abb") 3 1)) → ⊥

-- ---- a queue that is spent on deleted paths: of four documents the two of greater weight

-- the live ones
abbrev lighter : List PlainNumbered
lighter =
    document 3 (suggestion (codes "ort") 2 [] ∷ [])
    ∷ document 4 (suggestion (codes "ort") 1 [] ∷ []) ∷ []

-- all
abbrev four : List PlainNumbered
four =
    document 1 (suggestion (codes "ort") 4 [] ∷ [])
    ∷ document 2 (suggestion (codes "ort") 3 [] ∷ []) ∷ lighter

-- their segment
abbrev pub heavy_deleted : ViewedSegment
heavy_deleted = record { generation = 2; documents = four; live = lighter }

-- what a search of it finds, and what it doesn't
pub record IsSpentOnDeletedPaths : Type 0 where
  pub queue : queue_size 1 heavy_deleted ≡ 2
  pub next : IsSpent (first_of (codes "ort")) heavy_deleted (row 2 (codes "ort") 3)
  pub truncated :
      IsSearch (first_of (codes "ort")) heavy_deleted [] (Some (cut_at 2 (codes "ort") 2 2))
  pub complete :
      IsSearch (first_of (codes "ort")) heavy_deleted (row 2 (codes "ort") 3 ∷ []) None → ⊥
  pub another_score :
      IsSearch (first_of (codes "ort")) heavy_deleted [] (Some (cut_at 3 (codes "ort") 2 2)) → ⊥

-- ---- two contexts, one score: how near a truncation point must be

-- the live ones, which differ in their keys
abbrev last_three : List PlainNumbered
last_three =
    document 2 (suggestion (codes "abd") 5 (codes "b" ∷ []) ∷ [])
    ∷ document 3 (suggestion (codes "abe") 5 (codes "a" ∷ []) ∷ [])
    ∷ document 4 (suggestion (codes "abf") 5 (codes "b" ∷ []) ∷ []) ∷ []

-- all
abbrev one_score : List PlainNumbered
one_score = document 1 (suggestion (codes "abc") 5 (codes "a" ∷ []) ∷ []) ∷ last_three

-- their segment
abbrev pub level : ViewedSegment
level = record { generation = 6; documents = one_score; live = last_three }

-- the first two rows
abbrev pub two_of : List ℕ → PlainQuery
two_of prefix = record { prefix = prefix; contexts = []; k = 2 }

-- what a search of it may find, and what it may not: its queue has room for three, so with two
-- contexts two paths must stand at its truncation point or before it
pub record IsNearEnough : Type 0 where
  pub queue : queue_size 2 level ≡ 3
  pub near : IsSearch (two_of (codes "ab")) level [] (Some (cut_at 5 (codes "abd") 6 3))
  pub too_early :
      IsSearch (two_of (codes "ab")) level [] (Some (cut_at 5 (codes "ab") 6 3)) → ⊥
  pub a_row_lost :
      IsSearch (two_of (codes "ab")) level [] (Some (cut_at 5 (codes "abe") 6 3)) → ⊥

-- ---- queue sizes by numbers, truncation points, and views

-- 6,000 documents of which 500 are live; with twice as many paths; two of two; a tenth more
pub record QueueSizes : Type 0 where
  pub most : queue_size_of 500 1 6000 500 ≡ 5000
  pub below_most : queue_size_of 400 1 6000 500 ≡ 4800
  pub one_each : queue_size_of 1 1 2 2 ≡ 1
  pub rounded_up : queue_size_of 10 1 11 10 ≡ 11
  pub by_most_paths : queue_size_of 10 3 11 10 ≡ 33
  pub a_little_more : queue_size_of 1 1 3 2 ≡ 2
  pub paths : most_paths (document 1 (suggestion (codes "a") 1 (codes "b" ∷ codes "c" ∷ []) ∷ [])
      ∷ twelfth ∷ []) ≡ 2

-- a greater score precedes, and at the same score a lesser key; the same key doesn't
pub record Precedence : Type 0 where
  pub greater_score : precedes (cut_at 5 (codes "ab") 1 1) (row 6 (codes "b") 1) ≡ true
  pub lesser_score : precedes (cut_at 5 (codes "ab") 1 1) (row 4 (codes "a") 1) ≡ false
  pub lesser_key : precedes (cut_at 5 (codes "ab") 1 1) (row 5 (codes "aa") 1) ≡ true
  pub front_of_key : precedes (cut_at 5 (codes "ab") 1 1) (row 5 (codes "a") 1) ≡ true
  pub same_key : precedes (cut_at 5 (codes "ab") 1 1) (row 5 (codes "ab") 1) ≡ false
  pub longer_key : precedes (cut_at 5 (codes "ab") 1 1) (row 5 (codes "abc") 1) ≡ false

-- the search of the segment whose queue is spent
abbrev spent_search : Searched
spent_search =
    record { segment = heavy_deleted; rows = []; cut = Some (cut_at 2 (codes "ort") 2 2) }

-- that of a segment of one live document with this weight
abbrev pub found : ℕ → Searched
found weight =
    let ds = document 9 (suggestion (codes "ort") weight [] ∷ []) ∷ [] in
    record {
      segment = record { generation = 7; documents = ds; live = ds };
      rows = row weight (codes "ort") 9 ∷ [];
      cut = None;
    }

-- a view is complete where enough rows precede the truncation point of its segment; else it has the
-- truncation point, and of two the first, between equal ones that of the lesser generation
pub record ViewsClose : Type 0 where
  pub enough_rows :
      closed_rows 1 (kept_rows 1 (spent_search ∷ found 3 ∷ []))
      (first_cut (spent_search ∷ found 3 ∷ [])) ≡ row 3 (codes "ort") 9 ∷ []
  pub enough :
      closed_cut 1 (kept_rows 1 (spent_search ∷ found 3 ∷ []))
      (first_cut (spent_search ∷ found 3 ∷ [])) ≡ None
  pub too_few_rows :
      closed_rows 1 (kept_rows 1 (spent_search ∷ found 2 ∷ []))
      (first_cut (spent_search ∷ found 2 ∷ [])) ≡ []
  pub too_few :
      closed_cut 1 (kept_rows 1 (spent_search ∷ found 2 ∷ []))
      (first_cut (spent_search ∷ found 2 ∷ [])) ≡ Some (cut_at 2 (codes "ort") 2 2)
  pub lesser_generation :
      first_cut (spent_search ∷ record spent_search {
        cut = Some (cut_at 2 (codes "ort") 1 9);
      } ∷ []) ≡ Some (cut_at 2 (codes "ort") 1 9)

-- of six documents the two of least weight are live
abbrev lightest : List PlainNumbered
lightest =
    document 5 (suggestion (codes "ort") 2 [] ∷ [])
    ∷ document 6 (suggestion (codes "ort") 1 [] ∷ []) ∷ []

-- the search of their segment, in whose queue three deleted ones stand, and another one is next
abbrev pub buried : Searched
buried = record {
  segment = record {
    generation = 4;
    documents =
        document 1 (suggestion (codes "ort") 6 [] ∷ [])
        ∷ document 2 (suggestion (codes "ort") 5 [] ∷ [])
        ∷ document 3 (suggestion (codes "ort") 4 [] ∷ [])
        ∷ document 4 (suggestion (codes "ort") 3 [] ∷ []) ∷ lightest;
    live = lightest;
  };
  rows = [];
  cut = Some (cut_at 3 (codes "ort") 4 3);
}

-- the segments of a view, of which the second has one document of this weight
abbrev pub with_another : ℕ → List ViewedSegment
with_another weight = buried.segment ∷ (found weight).segment ∷ []

-- what a report of a view may be, and what it may not: the segment whose queue is spent forces a
-- truncation point where no row of at least its next path's score is found
pub record ViewsAreForced : Type 0 where
  pub complete :
      IsReport (first_of (codes "ort")) (with_another 4) (row 4 (codes "ort") 9 ∷ []) None
  pub truncated :
      IsReport (first_of (codes "ort")) (with_another 1) [] (Some (cut_at 3 (codes "ort") 4 3))
  pub not_truncated :
      IsReport (first_of (codes "ort")) (with_another 1) (row 2 (codes "ort") 5 ∷ []) None → ⊥

-- what is so of a truncation point where the segments aren't known: its room is at least k
pub record OverAllDocuments : Type 0 where
  pub truncated :
      IsSoundOver (first_of (codes "ort")) four lighter [] (Some (cut_at 2 (codes "ort") 2 2))
  pub too_little_room :
      IsSoundOver (first_of (codes "ort")) four lighter [] (Some (cut_at 4 (codes "ort") 2 0)) → ⊥

-- all of them
pub record WorkedReports : Type 0 where
  pub last_of_twelve : FindsTheLastOfTwelve
  pub tie : BreaksATieAcrossContexts
  pub spent : IsSpentOnDeletedPaths
  pub near : IsNearEnough
  pub sizes : QueueSizes
  pub precedence : Precedence
  pub views : ViewsClose
  pub forced : ViewsAreForced
  pub over_all : OverAllDocuments
