-- What a segment means to a search, and what holds of a desk on the way. No public clause cites
-- it. Source: this project's own.
use Rattle.std.specs.Prelude.{ℕ, ◌≡◌, true, List, [], map, length, take, Option, Some, None}
use Rattle.sg_base.specs.ByteStrings.{begins, lacks}
use Rattle.sg_base.specs.Lists.{In}
use Rattle.sg_base.specs.Rows.{ranked}
use Rattle.sg_base.specs.declared.node.Edge.{Edge}
use Rattle.sg_base.specs.declared.rank.Rank.{Rank}
use Rattle.sg_base.specs.declared.reserved.TheConstants.{KEY_END}
use Rattle.path_desk.specs.Desks.{PlainDesk, taken_room, path_of}
use Rattle.path_desk.specs.Entries.{Queued, queued}
use Rattle.path_desk.specs.declared.entry.Entry.{Entry}
use Rattle.best_first.specs.Listings.{IsListing}
use Rattle.best_first.specs.Lists.{passing}
use Rattle.best_first.specs.Matches.{Match, Best, covers, ranks_of}
use Rattle.best_first.specs.Progress.{Progress}
use Rattle.best_first.specs.Steps.{Knows}

-- the entries of the starts, each with the query's key
abbrev pub started : List ℕ → List Entry → List Queued
started prefix roots = map (λ e. queued e prefix) roots

-- Each matching path lies under one of the starts, and what holds of the starts goes on by the
-- nodes.
pub record IsSegment (all : List Match) (P : Queued → Type 0) (nodes : List (List Edge))
    (match_at : ℕ → Match) (roots : List Entry) (prefix : List ℕ) : Type 0 where
  pub knows : Knows all P nodes match_at
  pub listing : IsListing all (length roots)
  pub prefix_is_key : lacks KEY_END prefix ≡ true
  pub under : (p : Queued) → P p → begins prefix p.bytes ≡ true
  pub begin : (m : Match) → In m all → passing (covers m) (started prefix roots) ≡ 1
  pub roots_sound : (e : Queued) → In e (started prefix roots) → Best all e × P e

-- what holds of a desk while entries are still to be put in and a path is followed
pub record Searching (all : List Match) (P : Queued → Type 0) (reached : List Match)
    (d : PlainDesk) (pending : List Queued) (current : Option Queued) : Type 0 where
  pub progress : Progress all P reached d.room pending d.waiting
      (taken_room d.reached d.followed) d.dropped current

-- while a path is followed, at an entry
pub record Follows (all : List Match) (P : Queued → Type 0) (reached : List Match)
    (d : PlainDesk) (e : Entry) : Type 0 where
  pub searching : Searching all P reached d [] (Some (queued e (path_of d)))
  pub path : d.followed ≡ Some (path_of d)

-- between two paths: nothing is followed, and the kept rows are the first of those reached
pub record Between (all : List Match) (P : Queued → Type 0) (reached : List Match) (k : ℕ)
    (d : PlainDesk) (rows : List Rank) : Type 0 where
  pub searching : Searching all P reached d [] None
  pub idle : d.followed ≡ None
  pub kept : rows ≡ take k (ranked (ranks_of reached))
