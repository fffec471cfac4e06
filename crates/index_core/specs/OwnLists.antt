-- The lists that are ready for the ends of open views and open merges. No public clause cites this
-- module. Source: this project's own.
use Rattle.std.specs.Prelude.{◌≡◌, ◌≤◌, ℕ, ◌+◌, ◌-◌, nat_eq, if◌then◌else◌, List, [], ◌∷◌, ◌++◌}
use Rattle.std.specs.Prelude.{length, map}
use Rattle.index_core.specs.Histories.{HistoryEvent, View, Merge, open_views, begun_merges}
use Rattle.index_core.specs.Histories.{open_merges}

-- the generations of an open view or an open merge, under its number
pub record PlainOwnList : Type 0 where
  pub number : ℕ
  pub generations : List ℕ

-- the generations under a number, or none
abbrev pub list_of : ℕ → List PlainOwnList → List ℕ
list_of number [] = []
list_of number (l ∷ ls) = if nat_eq l.number number then l.generations else list_of number ls

-- the lists without the first under that number
abbrev pub without_list : ℕ → List PlainOwnList → List PlainOwnList
without_list number [] = []
without_list number (l ∷ ls) =
    if nat_eq l.number number then ls else l ∷ without_list number ls

-- the lists of open views and of open merges, and for how many there are places; so many merges
-- were begun and are open
pub record PlainLists : Type 0 where
  pub views : List PlainOwnList
  pub merges : List PlainOwnList
  pub view_places : ℕ
  pub merge_places : ℕ
  pub merges_begun : ℕ
  pub merges_open : ℕ

abbrev pub no_lists : PlainLists
no_lists = record {
  views = [];
  merges = [];
  view_places = 0;
  merge_places = 0;
  merges_begun = 0;
  merges_open = 0;
}

-- the list of a view, and of a merge
abbrev pub view_list : View → PlainOwnList
view_list v = record { number = v.view; generations = v.generations }

abbrev pub merge_list : Merge → PlainOwnList
merge_list m = record { number = m.merge; generations = m.generations }

-- a list more, for a view
abbrev pub with_view_list : ℕ → List ℕ → PlainLists → PlainLists
with_view_list number generations ls = record ls {
  views = ls.views ++ record { number = number; generations = generations } ∷ [];
}

abbrev pub without_view_list : ℕ → PlainLists → PlainLists
without_view_list number ls = record ls { views = without_list number ls.views }

-- a list more, for the merge that begins next
abbrev pub with_merge_list : List ℕ → PlainLists → PlainLists
with_merge_list generations ls = record ls {
  merges = ls.merges
      ++ record { number = ls.merges_begun + 1; generations = generations } ∷ [];
  merges_begun = ls.merges_begun + 1;
  merges_open = ls.merges_open + 1;
}

abbrev pub without_merge_list : ℕ → PlainLists → PlainLists
without_merge_list number ls = record ls {
  merges = without_list number ls.merges;
  merges_open = ls.merges_open - 1;
}

-- there is a list for each open view and each open merge; so many merges were begun and are open
pub record AreLists (history : List HistoryEvent) (lists : PlainLists) : Type 0 where
  pub views : lists.views ≡ map view_list (open_views history)
  pub merges : lists.merges ≡ map merge_list (open_merges history)
  pub merges_begun : length (begun_merges history) ≡ lists.merges_begun
  pub merges_open : length (open_merges history) ≡ lists.merges_open
  pub few : lists.merges_begun ≤ length history
