-- The matching paths of a segment, and the entries that lie over them. No public clause cites it.
-- Source: this project's own.
use Rattle.std.specs.Prelude.{ℕ, ◌≡◌, ◌≤◌, Bool, true, ◌&&◌, nat_eq, List, map, filter}
use Rattle.sg_base.specs.ByteStrings.{begins}
use Rattle.sg_base.specs.Lists.{In}
use Rattle.sg_base.specs.declared.rank.Rank.{Rank}
use Rattle.path_desk.specs.Entries.{Queued}

-- a matching path: its start, its bytes after the context, its rank, and whether its document is
-- live
pub record Match : Type 0 where
  pub start : ℕ
  pub bytes : List ℕ
  pub rank : Rank
  pub live : Bool

-- an entry lies over each matching path of its start that begins with its bytes
abbrev pub covers : Match → Queued → Bool
covers m e = nat_eq e.entry.start m.start && begins e.bytes m.bytes

-- an entry's score is the greatest of the paths that it lies over
pub record Best (all : List Match) (e : Queued) : Type 0 where
  pub bound : (m : Match) → In m all → covers m e ≡ true → m.rank.score ≤ e.entry.score
  pub met : (m : Match) × In m all × (covers m e ≡ true) × (m.rank.score ≡ e.entry.score)

-- a path to the end: it lies over one matching path alone
pub record Ends (all : List Match) (e : Queued) (m : Match) : Type 0 where
  pub of : In m all
  pub over : covers m e ≡ true
  pub bytes : e.bytes ≡ m.bytes
  pub alone : (other : Match) → In other all → covers other e ≡ true → other ≡ m

-- the ranks of the live ones
abbrev pub ranks_of : List Match → List Rank
ranks_of ms = map (λ m. m.rank) (filter (λ m. m.live) ms)
